use native.Mathlib.Omega.{arith}
use Rattle.tokens.proofs.Laws.{field_inside}
use Rattle.tokens.proofs.source.Source.kind_at.Goals as goal

pub returns : goal.returns
returns c = record { is = c.field_at.ensures; inside = field_inside 0 _ _ _ _ c.field_at.ensures (omega arith) }
