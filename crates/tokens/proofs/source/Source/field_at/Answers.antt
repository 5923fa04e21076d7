use Rattle.tokens.specs.Place.{field_at}
use Rattle.tokens.proofs.Laws.{tests}
use Rattle.tokens.proofs.source.Source.field_at.Goals as goal

pub returns-then-p-self : goal.returns-then-p-self
unfolding field_at
returns-then-p-self c =
    let t = c.if-p-self.true in
    simp tests c.word_inside.ensures

pub returns-else-p-self : goal.returns-else-p-self
unfolding field_at
returns-else-p-self c =
    let t = c.if-p-self.false in
    simp tests
