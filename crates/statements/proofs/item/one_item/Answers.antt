-- The other arms are found by laws of `using` on the function; with these four named there too they were not.
use Rattle.statements.proofs.ItemLaws.{opcode_here, ident_here, constant_here, argument_here}
use Rattle.statements.proofs.item.one_item.Goals as goal

pub returns-in-41 : goal.returns-in-41
returns-in-41 c = rw c.opcode_item.ensures (opcode_here c.args.source.now _ _ _ c.kind_at.ensures c.in-41.is)

pub returns-in-38 : goal.returns-in-38
returns-in-38 c = rw c.ident_item.ensures (ident_here c.args.source.now _ _ _ c.kind_at.ensures c.in-38.is)

pub returns-in-31 : goal.returns-in-31
returns-in-31 c = rw c.parse_constant_push.ensures (constant_here c.args.source.now _ _ _ c.kind_at.ensures c.in-31.is)

pub returns-in-33 : goal.returns-in-33
returns-in-33 c = rw c.parse_arg_call.ensures (argument_here c.args.source.now _ _ _ c.kind_at.ensures c.in-33.is)
