-- `tokens::literal::quarter` meets its contract. The loop's invariant: the number so far, before the digits that are left, writes the number of all; i digits
-- write less than 16 ^ i, so that the next step fits in 64 bits. Assumes nothing.
use mathlib.Core.Path.{sym, ◌∙◌}
use native.Mathlib.Omega.{arith}
use lib.ListN.{get_or}
use Rattle.tokens.proofs.LiteralLaws.{digit_lt, room, value_step, value_end, step_lt}
use Rattle.tokens.proofs.literal.quarter.Goals as goal

pub overflow_mul-n : goal.overflow_mul-n
overflow_mul-n c =
    let small = room _ _ _ c.loop-digit.invariant.1 c.loop-digit-test.true c.requires in
    omega arith

pub overflow_add-n : goal.overflow_add-n
overflow_add-n c =
    let small = room _ _ _ c.loop-digit.invariant.1 c.loop-digit-test.true c.requires in
    omega (arith, digit_lt (get_or c.args.digits.now c.loop-digit.digit-index 0), c.digit_value.ensures)

pub loop-digit-preserved : goal.loop-digit-preserved
loop-digit-preserved c =
    let now = c.loop-digit.invariant in
    rw c.digit_value.ensures (value_step _ _ _ c.loop-digit-test.true ∙ now.0, step_lt _ _ _ now.1)

pub returns : goal.returns
returns c = sym (value_end _ _ _ c.loop-digit-test.false) ∙ c.loop-digit.invariant.0
