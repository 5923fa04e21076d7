-- Tried as one more law of `using` on the function: the goal of the last arm is not found so.
use borrow.Author.Rules.{rules}
use Rattle.lists.proofs.ArgumentLaws.{typed_nameless}
use Rattle.lists.proofs.argument.typed_name.Goals as goal

pub returns-in_default : goal.returns-in_default
returns-in_default c = search (rules, typed_nameless)
