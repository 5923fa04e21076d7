use Prim.Native.Nat.{◌-◌}
use mathlib.Core.Path.{◌≡◌}
use Rattle.tokens.specs.WellFormed.{bad_from, first_bad, prev_end}
use Rattle.tokens.proofs.door.first_bad.Given as goal

abbrev pub invariant-loop-i : goal.invariant-loop-i
invariant-loop-i l = (l.prev ≡ prev_end l.tokens l.i) × (bad_from l.text l.tokens (l.n - l.i) l.i ≡ first_bad l.text l.tokens)
