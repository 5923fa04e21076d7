-- Each answer is one law. Tried as laws of `using` on the function: not found so.
use Rattle.lists.proofs.ArgumentLaws.{untyped_handed, untyped_answers}
use Rattle.lists.proofs.argument.name_argument.Goals as goal

pub returns-in_err-untyped_name-clause-read : goal.returns-in_err-untyped_name-clause-read
returns-in_err-untyped_name-clause-read c = untyped_handed c.args.source.now _ c.kind_at.ensures c.location_of-location.ensures c.is_some.ensures c.from.ensures c.untyped_name.ensures c.in_err-untyped_name.was c.from_residual.ensures.1

pub returns-clause-read : goal.returns-clause-read
returns-clause-read c = untyped_answers c.args.source.now _ c.kind_at.ensures c.location_of-location.ensures c.is_some.ensures c.from.ensures c.untyped_name.ensures c.one_token.result c.in_ok-untyped_name.was c.one_token.ensures.reading
