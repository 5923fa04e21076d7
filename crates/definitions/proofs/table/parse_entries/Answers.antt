use Prim.Native.Nat.{◌+◌, ◌-◌}
use mathlib.Core.Path.{◌≡◌, ap}
use mathlib.Core.Bool.{not}
use lib.ListN.{length}
use native.Mathlib.Omega.{arith}
use borrow.Author.Tests.{not-true, not-false}
use Rattle.definitions.proofs.TableLaws.{turn_done, turn_refused, turn_on, turn_few, no_brace_left}
use Rattle.definitions.proofs.table.parse_entries.Goals as goal

pub returns-then-kind_at-eq-CLOSE_BRACE : goal.returns-then-kind_at-eq-CLOSE_BRACE
returns-then-kind_at-eq-CLOSE_BRACE c = turn_done c.loop-q.invariant c.kind_at.ensures c.if-kind_at-eq-CLOSE_BRACE.true

pub returns-then-not-is_entry : goal.returns-then-not-is_entry
returns-then-not-is_entry c = rw c.new.ensures (turn_refused c.loop-q.invariant c.kind_at.ensures c.if-kind_at-eq-CLOSE_BRACE.false c.is_entry.ensures (not-true _ (ap not c.if-not-is_entry.true)))

pub loop-q-preserved : goal.loop-q-preserved
loop-q-preserved c =
    let step : c.loop-q.q + 1 - c.args.p ≡ c.loop-q.q - c.args.p + 1 = omega (arith, c.loop-q.invariant.count) in
    rw step (turn_on c.loop-q.invariant c.kind_at.ensures c.if-kind_at-eq-CLOSE_BRACE.false c.is_entry.ensures (not-false _ (ap not c.if-not-is_entry.false)) c.requires.list.lined (ap length c.text_at.ensures) c.entry_type-ty.ensures c.put_entry.ensures)

pub overflow_add-digits : goal.overflow_add-digits
overflow_add-digits c =
    let few = turn_few c.loop-q.invariant c.kind_at.ensures c.if-kind_at-eq-CLOSE_BRACE.false c.is_entry.ensures (not-false _ (ap not c.if-not-is_entry.false)) c.requires.list.lined (ap length c.text_at.ensures) in
    omega (arith, few)

pub returns : goal.returns
returns c = rw c.new-2.ensures (no_brace_left c.loop-q.invariant (omega arith))
