use Prim.Native.Nat.{◌-◌}
use Rattle.tokens.specs.Source.{count}
use Rattle.statements.proofs.BodyLaws.{BodyWalk}
use Rattle.statements.proofs.body.parse_body.Given as goal

abbrev pub invariant-loop-next : goal.invariant-loop-next
invariant-loop-next l = BodyWalk l.strict l.source l.before l.initial.t l.initial.statements l.initial.arguments l.label l.t l.statements l.arguments

abbrev pub decreases-loop-next : goal.decreases-loop-next
decreases-loop-next l = count l.source - l.t.at
