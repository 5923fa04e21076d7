use native.Mathlib.Omega.{arith}
use mathlib.Core.Path.{sym, ◌∙◌}
use mathlib.Core.Logic.{inl, inr}
use borrow.Author.Tests.{ltb-false}
use Rattle.tokens.specs.Source.{all}
use Rattle.grammar.specs.Rules.{asks}
use Rattle.lists.proofs.At.{handed_on}
use Rattle.statements.proofs.LabelLaws.{parts_end, and_named, body_named}
use Rattle.definitions.proofs.MacroLaws.{body_begins, numbers_are_refused, body_is_refused, tail_read}
use Rattle.definitions.proofs.macros.macro_tail.Goals as goal
use Rattle.definitions.proofs.macros.macro_tail.Goals.{then-strict+then-is_long, then-strict+else-is_long, else-strict}

pub returns-in_err-numbers : goal.returns-in_err-numbers
returns-in_err-numbers c =
    let a = c.args in
    rw (handed_on c.from_residual.result c.from_residual.ensures.1) (numbers_are_refused (asks a.strict) (all a.source.now) (c.in_err-numbers.ensures a.source.now.text.now))

pub parse_body-read-requires : goal.parse_body-read-requires
parse_body-read-requires c =
    let h = (c.in_ok-numbers.ensures c.args.source.now.text.now).within in body_begins c.requires.reading c.requires.n_le_q h.0 h.1

pub named_once_long-requires-clause-p_le_most_tokens : goal.named_once_long-requires-clause-p_le_most_tokens
named_once_long-requires-clause-p_le_most_tokens c =
    let a = c.args in
    let h = (c.in_ok-numbers.ensures a.source.now.text.now).within in
    (omega (arith, h.1, c.requires.reading.list.few), rw c.cursor_of-end.ensures (parts_end a.strict a.source.now (body_begins c.requires.reading c.requires.n_le_q h.0 h.1) c.parse_body-read.ensures))

pub named_once-requires-clause-p_le_most_tokens : goal.named_once-requires-clause-p_le_most_tokens
named_once-requires-clause-p_le_most_tokens c =
    let a = c.args in
    let h = (c.in_ok-numbers.ensures a.source.now.text.now).within in
    let end = parts_end a.strict a.source.now (body_begins c.requires.reading c.requires.n_le_q h.0 h.1) c.parse_body-read.ensures in
    (omega (arith, h.1, c.requires.reading.list.few), rw c.cursor_of-end.ensures end, ltb-false _ _ (sym c.is_long.ensures ∙ c.if-is_long.false))

pub returns-in_err-read : goal.returns-in_err-read
returns-in_err-read c =
    let a = c.args in
    let named = body_named a.strict (all a.source.now) {r' = c.if-strict.read} c.parse_body-read.ensures
    (elim c.if-strict.branch [
      | then-strict+then-is_long x ↦ inl (x.if-strict.true, x.read-is ∙ x.and-read.ensures ∙ and_named (all a.source.now) c.in_ok-numbers.numbers.end x.cursor_of-end.result _ x.cursor_of-end.ensures x.named_once_long.ensures)
      | then-strict+else-is_long x ↦ inl (x.if-strict.true, x.read-is ∙ x.and-read-else-is_long.ensures ∙ and_named (all a.source.now) c.in_ok-numbers.numbers.end x.cursor_of-end.result _ x.cursor_of-end.ensures x.named_once.ensures)
      | else-strict x ↦ inr (x.if-strict.false, x.read-is)
    ]) in
    rw (handed_on c.from_residual-in_err-read.result c.from_residual-in_err-read.ensures.1) (body_is_refused (asks a.strict) (all a.source.now) (c.in_ok-numbers.ensures a.source.now.text.now) (rw c.in_err-read.was at named))

pub returns : goal.returns
returns c =
    let a = c.args in
    let named = body_named a.strict (all a.source.now) {r' = c.if-strict.read} c.parse_body-read.ensures
    (elim c.if-strict.branch [
      | then-strict+then-is_long x ↦ inl (x.if-strict.true, x.read-is ∙ x.and-read.ensures ∙ and_named (all a.source.now) c.in_ok-numbers.numbers.end x.cursor_of-end.result _ x.cursor_of-end.ensures x.named_once_long.ensures)
      | then-strict+else-is_long x ↦ inl (x.if-strict.true, x.read-is ∙ x.and-read-else-is_long.ensures ∙ and_named (all a.source.now) c.in_ok-numbers.numbers.end x.cursor_of-end.result _ x.cursor_of-end.ensures x.named_once.ensures)
      | else-strict x ↦ inr (x.if-strict.false, x.read-is)
    ]) in
    tail_read (asks a.strict) (all a.source.now) (c.in_ok-numbers.ensures a.source.now.text.now) (rw c.in_ok-read.was at named)
