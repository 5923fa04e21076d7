use Prim.Native.Nat.{◌-◌}
use lib.ListN.{length}
use Rattle.lists.proofs.ListLaws.{Listing}
use Rattle.lists.proofs.list.parse_list.Given as goal

abbrev pub invariant-loop-sort : goal.invariant-loop-sort
invariant-loop-sort l = Listing l.source.text.now l.source.tokens.now l.source.kept.now l.sort l.p l.initial.arguments l.n l.arguments l.q l.m l.names

abbrev pub decreases-loop-sort : goal.decreases-loop-sort
decreases-loop-sort l = length l.source.kept.now - l.q
