-- `tokens::name::size_in` meets its contract: the size is one of the multiples if it is not past the largest and `step` divides it. Assumes nothing.
use mathlib.Core.Path.{sym, ap, ◌∙◌}
use mathlib.Core.List.{◌++◌}
use Rattle.std.specs.Prelude.{Some, None}
use Rattle.std.proofs.lemmas.Bool.Decides.{Decides-eqb}
use Rattle.std.proofs.lemmas.List.{append_cancel_left}
use Rattle.std.proofs.lemmas.Slice.Eq.{strip_prefix_is}
use Rattle.tokens.specs.Name.{decimal}
use Rattle.tokens.proofs.NameLaws.{sized_other, sized_large, sized_between, sized_within}
use Rattle.tokens.proofs.name.size_in.Goals.{then-most-m-via-then-most-m, then-most-m-via-else-most-m+then-m-step-ne0}
use Rattle.tokens.proofs.name.size_in.Goals as goal

pub returns-in_err-strip_prefix : goal.returns-in_err-strip_prefix
returns-in_err-strip_prefix c =
    let other = strip_prefix_is Decides-eqb c.args.name.now c.args.prefix.now None c.in_err-strip_prefix.ensures.cases in
    rw c.from_residual.ensures (sized_other _ _ _ c.requires.0 _ c.requires.1 (λ m p q e. other (decimal m) (sym e)))

pub returns-in_err-m : goal.returns-in_err-m
returns-in_err-m c =
    let part = c.in_ok-strip_prefix.field-0 in
    let begins = strip_prefix_is Decides-eqb c.args.name.now c.args.prefix.now (Some part) c.in_ok-strip_prefix.ensures.cases in
    rw c.from_residual-in_err-m.ensures
    (sized_other _ _ _ c.requires.0 _ c.requires.1 (λ m p q e. c.in_err-m.ensures m p q (append_cancel_left c.args.prefix.now (decimal m) part.now (e ∙ begins))))

pub returns-then-most-m : goal.returns-then-most-m
returns-then-most-m c =
    let begins = strip_prefix_is Decides-eqb c.args.name.now c.args.prefix.now (Some c.in_ok-strip_prefix.field-0) c.in_ok-strip_prefix.ensures.cases in
    let m = c.in_ok-m.ensures in
    let is = ap (λ x. c.args.prefix.now ++ x) m.2 ∙ sym begins in
    elim c.then-most-m.branch [
      | then-most-m-via-then-most-m w ↦ sized_large _ _ _ c.requires.0 _ c.requires.1 _ m.0 m.1 is w.if-most-m.true
      | then-most-m-via-else-most-m+then-m-step-ne0 w ↦ sized_between _ _ _ c.requires.0 _ c.requires.1 _ m.0 m.1 is w.if-m-step-ne0.true
    ]

pub returns : goal.returns
returns c =
    let begins = strip_prefix_is Decides-eqb c.args.name.now c.args.prefix.now (Some c.in_ok-strip_prefix.field-0) c.in_ok-strip_prefix.ensures.cases in
    let m = c.in_ok-m.ensures in
    sized_within _ _ _ c.requires.0 _ c.requires.1 _ m.0 m.1 (ap (λ x. c.args.prefix.now ++ x) m.2 ∙ sym begins) c.if-most-m.false c.if-m-step-ne0.false
