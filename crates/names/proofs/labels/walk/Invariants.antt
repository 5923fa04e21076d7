use Prim.Native.Nat.{◌-◌}
use Rattle.tokens.specs.Token.{view}
use Rattle.names.specs.Remembered.{seen}
use Rattle.names.proofs.LabelsLaws.{Walk}
use Rattle.names.proofs.labels.walk.Given as goal

abbrev pub invariant-loop-q : goal.invariant-loop-q
invariant-loop-q l = Walk (view l.source.text.now l.source.tokens.now l.source.kept.now) (seen l.initial.names).room (seen l.names) l.from l.to l.q

abbrev pub decreases-loop-q : goal.decreases-loop-q
decreases-loop-q l = l.to - l.q
