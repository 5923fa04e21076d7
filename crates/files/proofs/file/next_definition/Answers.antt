-- `next_definition`: what is put into the rests stands behind the records before. Assumes nothing.
use Rattle.files.proofs.FileLaws.{added}
use Rattle.files.proofs.file.next_definition.Goals as goal

pub returns : goal.returns
returns c = added c.start_of-definitions_from.ensures c.start_of-statements_from.ensures c.start_of-arguments_from.ensures c.read_definition.ensures
