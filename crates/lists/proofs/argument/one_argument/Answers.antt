-- One law. Tried as one more law of `using` on the function: not found so.
use Rattle.lists.proofs.ArgumentLaws.{sorted_call}
use Rattle.lists.proofs.argument.one_argument.Goals as goal

pub returns-in-Call-clause-read : goal.returns-in-Call-clause-read
returns-in-Call-clause-read c = sorted_call _ _ c.in-Call.is (c.call_argument.ensures.read _)
