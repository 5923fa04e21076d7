-- One law. Tried as one more law of `using` on the function: not found so.
use Rattle.lists.proofs.ArgumentLaws.{call_angled}
use Rattle.lists.proofs.argument.call_argument.Goals as goal

pub returns-in-33-clause-read : goal.returns-in-33-clause-read
returns-in-33-clause-read c text = call_angled text c.kind_at.ensures 0 c.in-33.is (c.angled_rest.ensures.read text)
