use Rattle.definitions.proofs.MacroLaws.{number_behind}
use Rattle.definitions.proofs.macros.takes_or_returns.Goals as goal

pub returns : goal.returns
returns c text = number_behind text c.args.p c.kind_at.ensures c.args.kind c.if-kind_at-kind.false (c.parse_single_arg.ensures text)
