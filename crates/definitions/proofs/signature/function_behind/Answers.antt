use lib.ListN.{length}
use Rattle.lists.proofs.At.{handed_on}
use Rattle.definitions.proofs.DefinitionLaws.{listed, unlisted, function_read, inputs_refused}
use Rattle.definitions.proofs.signature.function_behind.Goals as goal

pub returns-in_err-list : goal.returns-in_err-list
returns-in_err-list c = rw (handed_on c.from_residual.result c.from_residual.ensures.1) (inputs_refused _ _ (length c.args.source.now.kept.now) (unlisted _ c.in_err-list.ensures))

pub returns : goal.returns
returns c =
    let l = listed _ c.in_ok-list.ensures in
    function_read _ _ _ _ l c.outputs_behind.result (c.outputs_behind.ensures l.args)
