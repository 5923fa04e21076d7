use mathlib.Core.Path.{◌∙◌, ap}
use native.Mathlib.Omega.{arith}
use Rattle.definitions.specs.Tables.{past_sign}
use Rattle.definitions.proofs.table.behind_signs.Goals as goal

pub returns : goal.returns
returns c = record { is = c.behind_sign.ensures.is ∙ ap (past_sign _ _ 26) (c.behind_sign-c.ensures.is ∙ ap (past_sign _ _ 28) c.behind_sign-o.ensures.is); low = omega arith; high = omega arith }
