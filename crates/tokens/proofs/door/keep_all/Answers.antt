-- `keep_all`: what is written and what is still to come are the whole list, at every turn. Assumes nothing.
use Prim.Native.Nat.{ℕ, ◌≤◌}
use mathlib.Core.Path.{sym, ap, ◌∙◌}
use mathlib.Core.List.{List, ◌++◌}
use native.Mathlib.Omega.{arith}
use lib.ListN.{drop}
use lib.Seq.{length-take-le}
use Rattle.tokens.proofs.DoorLaws.{numbers_turn, numbers_none, numbers_front}
use Rattle.tokens.proofs.door.keep_all.Goals as goal

pub loop-i-preserved : goal.loop-i-preserved
loop-i-preserved c =
    let w = c.loop-i in
    let long = length-take-le c.args.n c.args.kept.now c.requires.1 in
    numbers_turn w.number-items c.args.n w.i (omega (arith, long, c.loop-i-test.true)) ∙ w.invariant

pub returns : goal.returns
returns c =
    let w = c.loop-i in
    let n = c.args.n in
    let kept = c.args.kept.now in
    let end : n ≤ w.i = omega (arith, length-take-le n kept c.requires.1, c.loop-i-test.false) in
    ap (λ (l : List ℕ). l ++ drop n kept) (sym (numbers_none w.number-items n w.i end) ∙ w.invariant) ∙ numbers_front kept n c.requires.1
