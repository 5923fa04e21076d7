-- `onward` is the same line in three answers. One law of it over the place `After-put_label` was tried: from the later places only a chain of inner names (`c.before.before ..`) leads
-- there, another at each.
use native.Mathlib.Omega.{arith}
use mathlib.Core.Path.{sym, ◌∙◌}
use Rattle.tokens.specs.Source.{all, count}
use Rattle.lists.proofs.At.{handed_on}
use Rattle.statements.proofs.BodyLaws.{kind_found, kind_not, no_brace, part_read, part_refused, brace_shut, unopened, body_steps, counting_next}
use Rattle.statements.proofs.body.parse_body.Goals as goal

pub returns-then-kind_at-ne-OPEN_BRACE : goal.returns-then-kind_at-ne-OPEN_BRACE
returns-then-kind_at-ne-OPEN_BRACE c =
    let a = c.args in
    rw c.new.ensures (no_brace a.strict a.before (count a.source.now) (all a.source.now) a.s (kind_not a.source.now a.s.at c.kind_at.ensures c.if-kind_at-ne-OPEN_BRACE.true))

pub returns-in_err-next : goal.returns-in_err-next
returns-in_err-next c =
    let a = c.args in
    rw (handed_on c.from_residual.result c.from_residual.ensures.1)
    (part_refused a.strict a.source.now a.before c.skip-t.result a.statements.now a.arguments.now c.loop-next.label c.is_some-inside.ensures c.takes_literal-takes.ensures c.wrong_in-wrong.ensures c.loop-next.invariant c.in_err-next.ensures a.s c.skip-t.ensures (kind_found a.source.now a.s.at c.kind_at.ensures c.if-kind_at-ne-OPEN_BRACE.false))

pub returns-then-kind_at-eq-CLOSE_BRACE : goal.returns-then-kind_at-eq-CLOSE_BRACE
returns-then-kind_at-eq-CLOSE_BRACE c =
    let a = c.args in
    let onward = part_read a.strict a.source.now a.before c.skip-t.result a.statements.now a.arguments.now c.loop-next.label c.is_some-inside.ensures c.takes_literal-takes.ensures c.wrong_in-wrong.ensures c.loop-next.invariant c.in_ok-next.ensures c.put_label.ensures in
    rw c.skip.ensures
    (brace_shut a.strict a.source.now a.before c.skip-t.result a.statements.now a.arguments.now onward c.kind_at-in-loop-next.ensures c.if-kind_at-eq-CLOSE_BRACE.true a.s c.skip-t.ensures (kind_found a.source.now a.s.at c.kind_at.ensures c.if-kind_at-ne-OPEN_BRACE.false))

pub returns-in_err-t : goal.returns-in_err-t
returns-in_err-t c =
    let a = c.args in
    let onward = part_read a.strict a.source.now a.before c.skip-t.result a.statements.now a.arguments.now c.loop-next.label c.is_some-inside.ensures c.takes_literal-takes.ensures c.wrong_in-wrong.ensures c.loop-next.invariant c.in_ok-next.ensures c.put_label.ensures in
    rw (handed_on c.from_residual-in_err-t.result c.from_residual-in_err-t.ensures.1)
    (unopened a.strict a.source.now a.before c.skip-t.result a.statements.now a.arguments.now onward c.kind_at-in-loop-next.ensures c.if-kind_at-eq-CLOSE_BRACE.false (sym c.in_err-t.was ∙ c.open_label.ensures) a.s c.skip-t.ensures (kind_found a.source.now a.s.at c.kind_at.ensures c.if-kind_at-ne-OPEN_BRACE.false))

pub loop-next-preserved : goal.loop-next-preserved
loop-next-preserved c =
    let a = c.args in
    let onward = part_read a.strict a.source.now a.before c.skip-t.result a.statements.now a.arguments.now c.loop-next.label c.is_some-inside.ensures c.takes_literal-takes.ensures c.wrong_in-wrong.ensures c.loop-next.invariant c.in_ok-next.ensures c.put_label.ensures in
    body_steps a.strict a.source.now a.before c.skip-t.result a.statements.now a.arguments.now (counting_next c.loop-next.invariant.counting c.in_ok-next.ensures.within) onward (sym c.in_ok-t.was ∙ c.open_label.ensures) (omega arith) (omega arith)
