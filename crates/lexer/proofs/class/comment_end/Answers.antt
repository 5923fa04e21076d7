-- `comment_end`. Assumes nothing.
use mathlib.Core.Path.{sym}
use native.Mathlib.Omega.{arith}
use Prim.Native.Nat.{◌<◌}
use lib.ListN.{length}
use Rattle.lexer.proofs.ClassLaws.{open_more, open_stop, open_left}
use Rattle.lexer.proofs.class.comment_end.Goals as goal

pub returns-then-closes : goal.returns-then-closes
returns-then-closes c =
    let inside : c.loop-i.i < length c.args.bytes.now = omega (arith, c.loop-i-test.true) in
    let stop = open_stop c.args.bytes.now c.loop-i.i inside (sym c.if-closes.ensures) in
    (inside, omega arith)

pub loop-i-preserved : goal.loop-i-preserved
loop-i-preserved c =
    let more = open_more c.args.bytes.now c.loop-i.i (omega (arith, c.loop-i-test.true)) (sym c.if-closes.ensures) in
    omega arith

pub returns : goal.returns
returns c = open_left c.args.bytes.now c.loop-i.i (omega (arith, c.loop-i-test.false)) c.loop-i.invariant
