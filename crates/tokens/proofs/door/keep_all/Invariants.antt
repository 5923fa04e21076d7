use Prim.Native.Nat.{◌-◌}
use mathlib.Core.Path.{◌≡◌}
use lib.Seq.{sets}
use Rattle.tokens.specs.Token.{numbers}
use Rattle.tokens.proofs.door.keep_all.Given as goal

abbrev pub invariant-loop-i : goal.invariant-loop-i
invariant-loop-i l = sets l.number-items l.i (numbers l.i (l.n - l.i)) ≡ sets l.initial.number-items 0 (numbers 0 l.n)
