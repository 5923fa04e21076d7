-- `is_name`: the record's bytes are the name. Assumes nothing.
use Prim.Native.Nat.{◌+◌, ◌-◌}
use mathlib.Core.Path.{◌≡◌, ◌∙◌}
use lib.ListN.{get_or}
use native.Mathlib.Omega.{arith}
use Rattle.spelling.specs.Slots.{name_in, spellings}
use Rattle.spelling.proofs.find.is_name.Goals as goal

pub returns : goal.returns
unfolding name_in
returns c =
    let at = c.args.at in
    let n = c.byte_at in
    let z : at + 2 + n.result - (at + 2) ≡ get_or spellings at 0 = omega (arith, n.ensures) in
    c.same_name.ensures ∙ rw (c.from.ensures, c.bytes.ensures.value, z)
