-- `tokens::name::type_of` meets its contract: the list is gone through in its four parts. Assumes nothing.
use Rattle.tokens.specs.Byte.{bytes}
use Rattle.tokens.proofs.NameLaws.{type_bare, type_uint_lem, type_int_lem, type_bytes_lem, type_none_lem}
use Rattle.tokens.proofs.name.type_of.Goals as goal

pub returns-in-Some : goal.returns-in-Some
returns-in-Some c = type_bare _ _ c.in-Some.ensures

pub returns-in-Some-size_in : goal.returns-in-Some-size_in
unfolding bytes
returns-in-Some-size_in c = type_uint_lem _ c.in_default.ensures _ c.in-Some-size_in.ensures

pub returns-in-Some-size_in-2 : goal.returns-in-Some-size_in-2
unfolding bytes
returns-in-Some-size_in-2 c = type_int_lem _ c.in_default.ensures c.in_default-size_in.ensures _ c.in-Some-size_in-2.ensures

pub returns-in_err-bytes : goal.returns-in_err-bytes
unfolding bytes
returns-in_err-bytes c = rw c.from_residual.ensures (type_none_lem _ c.in_default.ensures c.in_default-size_in.ensures c.in_default-size_in-2.ensures c.in_err-bytes.ensures)

pub returns : goal.returns
unfolding bytes
returns c = type_bytes_lem _ c.in_default.ensures c.in_default-size_in.ensures c.in_default-size_in-2.ensures _ c.in_ok-bytes.ensures
