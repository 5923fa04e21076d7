-- Tried as two more laws of `using` on the function: the goals of the last two arms are not found so.
use borrow.Author.Rules.{rules}
use Rattle.lists.proofs.ArgumentLaws.{name_comma_refused, name_refused_here}
use Rattle.lists.proofs.argument.untyped_name.Goals as goal

pub returns-in-35 : goal.returns-in-35
returns-in-35 c = search (rules, name_comma_refused)

pub returns-in_default : goal.returns-in_default
returns-in_default c = search (rules, name_refused_here)
