use Prim.Native.Nat.{◌-◌}
use Rattle.tokens.specs.Refusal.{wrong_number}
use Rattle.tokens.specs.Source.{all, count}
use Rattle.statements.proofs.BodyLaws.{Walk, ItemsLeft}
use Rattle.statements.proofs.body.parse_items.Given as goal

abbrev pub invariant-loop-wrong : goal.invariant-loop-wrong
invariant-loop-wrong l =
    Walk (ItemsLeft l.takes (wrong_number l.wrong) l.before (count l.source) (all l.source)) l.source.tokens.now l.source.kept.now l.before l.initial.t l.initial.statements l.initial.arguments l.t l.statements l.arguments

abbrev pub decreases-loop-wrong : goal.decreases-loop-wrong
decreases-loop-wrong l = count l.source - l.t.at
