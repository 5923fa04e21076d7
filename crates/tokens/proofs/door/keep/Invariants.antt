use Prim.Native.Nat.{◌+◌, ◌-◌, ◌/◌, ◌≤◌}
use mathlib.Core.Path.{◌≡◌}
use lib.ListN.{length}
use lib.Seq.{sets}
use Rattle.tokens.specs.Kept.{kept_from, kept_of}
use Rattle.tokens.proofs.door.keep.Given as goal

abbrev pub invariant-loop-i : goal.invariant-loop-i
invariant-loop-i l =
    (l.m ≤ l.i) × (l.m + length (kept_from l.tokens (length l.tokens / 4 - l.i) l.i) ≡ length (kept_of l.tokens))
    × (sets l.kept l.m (kept_from l.tokens (length l.tokens / 4 - l.i) l.i) ≡ sets l.initial.kept 0 (kept_of l.tokens))
