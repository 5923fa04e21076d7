-- `decimal_value`. Assumes nothing.
use Prim.Native.Nat.{◌+◌, ◌*◌}
use mathlib.Core.Path.{sym, ◌∙◌}
use native.Mathlib.Omega.{arith}
use lib.ListN.{drop}
use Rattle.lexer.proofs.TokenLaws.{decimal_step, decimal_end, decimal_grows}
use Rattle.lexer.proofs.token.decimal_value.Goals as goal

pub returns-then-v-gt-MOST : goal.returns-then-v-gt-MOST
returns-then-v-gt-MOST c =
    let ds = c.args.digits.now in
    let i = c.loop-digit.digit-index in
    let more = decimal_step c.loop-digit.v ds i c.worth.result (omega arith) c.worth.ensures.value in
    let grows = decimal_grows (c.loop-digit.v * 10 + c.worth.result) (drop (i + 1) ds) in
    omega arith

pub loop-digit-preserved : goal.loop-digit-preserved
loop-digit-preserved c =
    let more = decimal_step c.loop-digit.v c.args.digits.now c.loop-digit.digit-index c.worth.result (omega arith) c.worth.ensures.value in
    (omega arith, sym more ∙ c.loop-digit.invariant.1)

pub returns : goal.returns
returns c =
    let end = decimal_end c.loop-digit.v c.args.digits.now c.loop-digit.digit-index (omega arith) in
    (omega arith, omega arith)
