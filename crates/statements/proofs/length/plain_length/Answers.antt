use native.Mathlib.Omega.{arith}
use Rattle.statements.proofs.LengthLaws.{opcode_lacks, operand_lacks, operand_next, opcode_next, brace_ends, other_lacks, other_next, no_brace_left, told_none, told_some}
use Rattle.statements.proofs.length.plain_length.Goals as goal

pub returns-then-is_value_push : goal.returns-then-is_value_push
returns-then-is_value_push c = told_none (opcode_lacks c.args.source.now _ _ _ _ _ c.loop-p.invariant.rest c.kind_at-k.ensures c.if-is_value_push.ensures c.if-k-eq-OPCODE.true)

pub loop-p-preserved-then-k-eq-OPCODE : goal.loop-p-preserved-then-k-eq-OPCODE
loop-p-preserved-then-k-eq-OPCODE c = record {
  rest = opcode_next c.args.source.now _ _ _ _ _ c.loop-p.invariant.rest c.kind_at-k.ensures c.if-is_value_push.ensures c.if-k-eq-OPCODE.true c.extra_at-byte.ensures;
  few = omega arith;
}

pub returns-then-not-is_operand : goal.returns-then-not-is_operand
returns-then-not-is_operand c = told_none (operand_lacks c.args.source.now _ _ _ _ _ c.loop-p.invariant.rest c.kind_at-k.ensures c.if-is_value_push-2.ensures c.if-not-is_operand.ensures)

pub overflow_add-bytes-then-is_value_push-2 : goal.overflow_add-bytes-then-is_value_push-2
overflow_add-bytes-then-is_value_push-2 c =
    let next = operand_next c.args.source.now _ _ _ _ _ c.loop-p.invariant.rest c.kind_at-k.ensures c.if-is_value_push-2.ensures c.if-not-is_operand.ensures c.push_size-bytes.ensures in
    omega (arith, next.1, c.requires.list.few)

pub loop-p-preserved-then-is_value_push-2 : goal.loop-p-preserved-then-is_value_push-2
loop-p-preserved-then-is_value_push-2 c =
    let next = operand_next c.args.source.now _ _ _ _ _ c.loop-p.invariant.rest c.kind_at-k.ensures c.if-is_value_push-2.ensures c.if-not-is_operand.ensures c.push_size-bytes.ensures in
    record { rest = next.0; few = omega (arith, next.1) }

pub returns-then-k-eq-CLOSE_BRACE : goal.returns-then-k-eq-CLOSE_BRACE
returns-then-k-eq-CLOSE_BRACE c = told_some (brace_ends c.args.source.now _ _ _ _ _ c.loop-p.invariant.rest c.kind_at-k.ensures c.if-is_value_push-2.ensures c.if-k-eq-CLOSE_BRACE.true) (omega (arith, c.requires.list.few))

pub returns-then-not-is_plain : goal.returns-then-not-is_plain
returns-then-not-is_plain c = told_none (other_lacks c.args.source.now _ _ _ _ _ c.loop-p.invariant.rest c.kind_at-k.ensures c.if-is_value_push-2.ensures c.if-k-eq-CLOSE_BRACE.false c.if-not-is_plain.ensures)

pub loop-p-preserved : goal.loop-p-preserved
loop-p-preserved c = record {
  rest = other_next c.args.source.now _ _ _ _ _ c.loop-p.invariant.rest c.kind_at-k.ensures c.if-is_value_push-2.ensures c.if-k-eq-OPCODE.false c.if-k-eq-CLOSE_BRACE.false c.if-not-is_plain.ensures c.own_bytes-bytes.ensures.value;
  few = omega (arith, c.own_bytes-bytes.ensures.upper_bound);
}

pub returns : goal.returns
returns c = told_none (no_brace_left c.args.source.now _ _ _ _ _ c.loop-p.invariant.rest (omega arith))
