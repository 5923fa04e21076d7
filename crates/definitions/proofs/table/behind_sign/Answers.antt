use Rattle.definitions.proofs.TableLaws.{sign_behind}
use Rattle.definitions.proofs.table.behind_sign.Goals as goal

pub returns : goal.returns
returns c = sign_behind c.kind_at.ensures c.requires.kind_nonzero.0 c.requires.kind_nonzero.1 c.from.ensures
