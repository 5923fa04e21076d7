use lib.ListN.{length}
use Rattle.tokens.specs.Source.{all}
use Rattle.names.proofs.NamesLaws.{Seeking}
use Rattle.names.proofs.names.Remembered.is_remembered.Given as goal

abbrev pub invariant-loop-j : goal.invariant-loop-j
invariant-loop-j l = Seeking (length l.self.heads.now) (all l.self.source.now) l.self.places.now l.name l.self.count l.j

abbrev pub decreases-loop-j : goal.decreases-loop-j
decreases-loop-j l = l.j
