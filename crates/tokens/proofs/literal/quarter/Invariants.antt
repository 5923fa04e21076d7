use Prim.Native.Nat.{◌<◌, ◌^◌}
use mathlib.Core.Path.{◌≡◌}
use lib.ListN.{drop}
use Rattle.tokens.specs.Byte.{value_after}
use Rattle.tokens.proofs.literal.quarter.Given as goal

abbrev pub invariant-loop-digit : goal.invariant-loop-digit
invariant-loop-digit l = (value_after l.n (drop l.digit-index l.digits) ≡ value_after 0 l.digits) × (l.n < 16 ^ l.digit-index)
