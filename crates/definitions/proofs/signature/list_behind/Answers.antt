use lib.ListN.{length}
use Rattle.lists.proofs.At.{handed_on}
use Rattle.definitions.proofs.DefinitionLaws.{listed, unlisted, list_signed, list_refused}
use Rattle.definitions.proofs.signature.list_behind.Goals as goal

pub returns-in_err-list : goal.returns-in_err-list
returns-in_err-list c = rw (handed_on c.from_residual.result c.from_residual.ensures.1) (list_refused c.args.listed _ _ (length c.args.source.now.kept.now) (unlisted _ (rw c.sort.ensures at c.in_err-list.ensures)))

pub returns : goal.returns
returns c = list_signed c.args.listed _ _ _ (listed _ (rw c.sort.ensures at c.in_ok-list.ensures))
