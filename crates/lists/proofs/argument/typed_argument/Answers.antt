-- Each answer is one law. Tried as laws of `using` on the function: not found so.
use mathlib.Core.Path.{refl}
use Rattle.lists.proofs.ArgumentLaws.{typed_handed, typed_answers}
use Rattle.lists.proofs.argument.typed_argument.Goals as goal

pub returns-in_err-named-clause-read : goal.returns-in_err-named-clause-read
returns-in_err-named-clause-read c =
    typed_handed c.args.source.now c.kind_at.ensures c.if-kind_at-ne-PRIMITIVE_TYPE.false _ _ _ c.indexed_here-indexed.ensures.is c.from.ensures c.kind_at-2.ensures c.location_of-location.ensures c.is_some.ensures c.from-2.ensures
    c.typed_name.ensures c.in_err-named.was c.from_residual.ensures.1

pub returns-clause-read : goal.returns-clause-read
returns-clause-read c =
    typed_answers c.args.source.now c.kind_at.ensures c.if-kind_at-ne-PRIMITIVE_TYPE.false _ _ _ c.indexed_here-indexed.ensures.is c.from.ensures c.kind_at-2.ensures c.location_of-location.ensures c.is_some.ensures c.from-2.ensures
    c.typed_name.ensures _ c.in_ok-named.was (rw (c.then_some.ensures, c.from-3.ensures) refl)
