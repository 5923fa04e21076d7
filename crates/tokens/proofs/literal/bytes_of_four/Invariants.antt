use Prim.Native.Nat.{◌^◌, ◌*◌, ◌%◌, ◌≤◌}
use mathlib.Core.Path.{◌≡◌}
use lib.ListN.{drop}
use Rattle.tokens.specs.Byte.{value_after}
use Rattle.tokens.proofs.literal.bytes_of_four.Given as goal

abbrev pub invariant-loop-i : goal.invariant-loop-i
invariant-loop-i l = (1 ≤ l.i) × (value_after 0 (drop 2 l.literal) % 256 ^ 32 ≡ value_after 0 (drop 2 l.literal) % 256 ^ (8 * l.i))
