use Rattle.definitions.proofs.DefinitionLaws.{head_there}
use Rattle.definitions.proofs.head.read_head.Goals as goal

pub returns : goal.returns
returns c text = head_there text c.args.p c.kind_at.ensures c.args.kind c.kind_at-2.ensures c.if-kind_at-kind.false c.if-kind_at-ne-IDENT.false
