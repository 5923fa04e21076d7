-- The branch over is_long, and what the two calls ask, stand here and in macro_tail (definitions): their goals name the places of one function, so no law takes both.
use native.Mathlib.Omega.{arith}
use borrow.Author.Rules.{rules}
use borrow.Author.Tests.{ltb-false}
use mathlib.Core.Logic.{inl, inr}
use mathlib.Core.Path.{sym, ◌∙◌}
use Rattle.grammar.specs.Rules.{asks}
use Rattle.tokens.specs.Source.{all}
use Rattle.statements.proofs.LabelLaws.{parts_end, and_named, body_named}
use Rattle.statements.proofs.EntryLaws.{body_taken, body_begins}
use Rattle.statements.proofs.entry.reading.Goals as goal
use Rattle.statements.proofs.entry.reading.Goals.{else-not-strict+then-is_long, else-not-strict+else-is_long, then-not-strict}

pub named_once_long-requires-clause-p_le_most_tokens : goal.named_once_long-requires-clause-p_le_most_tokens
named_once_long-requires-clause-p_le_most_tokens c =
    (omega (arith, c.requires.inside, c.requires.list.few), rw c.cursor_of-end.ensures (parts_end c.args.strict c.args.source.now (body_begins c.requires) c.parse_body-body.ensures))

pub named_once-requires-clause-p_le_most_tokens : goal.named_once-requires-clause-p_le_most_tokens
named_once-requires-clause-p_le_most_tokens c = (
  omega (arith, c.requires.inside, c.requires.list.few),
  rw c.cursor_of-end.ensures (parts_end c.args.strict c.args.source.now (body_begins c.requires) c.parse_body-body.ensures),
  ltb-false _ _ (sym c.is_long.ensures ∙ c.if-is_long.false),
)

pub returns : goal.returns
returns c =
    let a = c.args in
    let read = body_named a.strict (all a.source.now) {r' = c.if-not-strict.read} c.parse_body-body.ensures
    (elim c.if-not-strict.branch [
      | then-not-strict x ↦ inr (x.if-not-strict.true, x.read-is)
      | else-not-strict+then-is_long x ↦ inl (x.if-not-strict.false, x.read-is ∙ x.and.ensures ∙ and_named (all a.source.now) a.start c.cursor_of-end.result _ c.cursor_of-end.ensures x.named_once_long.ensures)
      | else-not-strict+else-is_long x ↦ inl (x.if-not-strict.false, x.read-is ∙ x.and-else-is_long.ensures ∙ and_named (all a.source.now) a.start c.cursor_of-end.result _ c.cursor_of-end.ensures x.named_once.ensures)
    ]) in
    body_taken (asks a.strict) a.short a.source.now a.start a.statements.now a.arguments.now read (search rules) (search rules) c.settle.ensures
