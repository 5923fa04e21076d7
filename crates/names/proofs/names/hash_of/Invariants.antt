use Prim.Native.Nat.{◌*◌, ◌<◌}
use mathlib.Core.Path.{◌≡◌}
use lib.ListN.{drop}
use Rattle.names.specs.Names.{hash_from, hash_of}
use Rattle.names.proofs.names.hash_of.Given as goal

abbrev pub invariant-loop-four : goal.invariant-loop-four
invariant-loop-four l = record {
  small : l.h < 4294967296;
  hashed : hash_from l.h (drop (l.four-index * 4) l.name) ≡ hash_of l.name;
}
