-- Each answer is one law; tried as laws of `using` on the function, they are not found.
-- The loop's invariant is `Listing`: what is left to read comes to what there was at the start. The measure is what is left of the kept list.
use Rattle.lists.proofs.ListLaws.{listing_closed, listing_handed}
use Rattle.lists.proofs.list.parse_list.Goals as goal

pub returns-in_err-one : goal.returns-in_err-one
returns-in_err-one c = listing_handed c.loop-sort.invariant c.kind_at.ensures c.loop-sort-test.true c.one_argument.ensures.read c.in_err-one.was c.from_residual.ensures.1

pub returns : goal.returns
returns c = listing_closed c.loop-sort.invariant c.kind_at.ensures c.loop-sort-test.false
