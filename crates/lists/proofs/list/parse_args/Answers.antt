-- Each answer is one law. Tried as laws of `using` on the function: not found so.
use Rattle.lists.proofs.ListLaws.{list_unopened, list_opened}
use Rattle.lists.proofs.list.parse_args.Goals as goal

pub returns-then-kind_at-ne-OPEN_PAREN : goal.returns-then-kind_at-ne-OPEN_PAREN
returns-then-kind_at-ne-OPEN_PAREN c = list_unopened c.args.source.now c.kind_at.ensures _ _ c.if-kind_at-ne-OPEN_PAREN.true c.new.ensures

pub returns : goal.returns
returns c = list_opened c.args.source.now c.kind_at.ensures _ _ c.if-kind_at-ne-OPEN_PAREN.false c.parse_list.ensures
