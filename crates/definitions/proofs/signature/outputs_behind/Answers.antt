use Prim.Native.Nat.{◌+◌}
use mathlib.Core.Path.{refl, sym, ◌∙◌}
use lib.ListN.{length}
use Rattle.tokens.specs.Token.{view}
use Rattle.lists.proofs.At.{kind_is, handed_on}
use Rattle.definitions.proofs.DefinitionLaws.{refused_plain, listed, unlisted, untyped, unreturning, outputs_read, outputs_refused}
use Rattle.definitions.proofs.signature.outputs_behind.Goals as goal

pub returns-in_err-ty : goal.returns-in_err-ty
returns-in_err-ty c inputs =
    let args = c.args in
    let all = view args.source.now.text.now args.source.now.tokens.now args.source.now.kept.now in
    rw (handed_on c.from_residual.result c.from_residual.ensures.1) (refused_plain (untyped all args.p (length args.source.now.kept.now) inputs (c.in_err-ty.ensures args.source.now.text.now)))

pub returns-then-kind_at-ne-RETURNS : goal.returns-then-kind_at-ne-RETURNS
returns-then-kind_at-ne-RETURNS c inputs =
    let args = c.args in
    let all = view args.source.now.text.now args.source.now.tokens.now args.source.now.kept.now in
    let k = kind_is args.source.now.text.now (args.p + 1) c.kind_at.ensures refl in
    rw c.new.ensures (refused_plain (unreturning all args.p (length args.source.now.kept.now) inputs c.in_ok-ty.ty (c.in_ok-ty.ensures args.source.now.text.now).is (λ e. c.if-kind_at-ne-RETURNS.true (sym k ∙ e))))

pub returns-in_err-list : goal.returns-in_err-list
returns-in_err-list c inputs =
    let args = c.args in
    let all = view args.source.now.text.now args.source.now.tokens.now args.source.now.kept.now in
    let k = kind_is args.source.now.text.now (args.p + 1) c.kind_at.ensures refl in
    rw (handed_on c.from_residual-in_err-list.result c.from_residual-in_err-list.ensures.1) (outputs_refused all args.p (length args.source.now.kept.now) inputs c.in_ok-ty.ty (c.in_ok-ty.ensures args.source.now.text.now).is (k ∙ c.if-kind_at-ne-RETURNS.false) (unlisted _ c.in_err-list.ensures))

pub returns : goal.returns
returns c inputs =
    let args = c.args in
    let all = view args.source.now.text.now args.source.now.tokens.now args.source.now.kept.now in
    let k = kind_is args.source.now.text.now (args.p + 1) c.kind_at.ensures refl in
    outputs_read all args.p (length args.source.now.kept.now) inputs c.in_ok-ty.ty (c.in_ok-ty.ensures args.source.now.text.now).is (k ∙ c.if-kind_at-ne-RETURNS.false) (listed _ c.in_ok-list.ensures)
