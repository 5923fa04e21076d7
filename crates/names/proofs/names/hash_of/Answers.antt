-- `hash_of`: the hash of the bytes passed, with those that are left, is that of the name; behind the loop fewer than four are left. Assumes nothing.
use Prim.Native.Nat.{ℕ, ◌+◌, ◌*◌, ◌/◌}
use mathlib.Core.Path.{◌≡◌, ◌∙◌, ap, sym}
use native.Mathlib.Omega.{arith}
use lib.ListN.{length, drop, length-drop}
use Rattle.names.specs.Names.{mixed, rest_of, hash_from}
use Rattle.names.proofs.NamesLaws.{mixed_small, hash_four, hash_end}
use Rattle.names.proofs.names.hash_of.Goals as goal

pub loop-four-preserved : goal.loop-four-preserved
loop-four-preserved c = record {
  small = rw c.mix-h.ensures (mixed_small _);
  hashed = hash_four c.loop-four.h c.loop-four.four-index c.args.name.now c.as_chunks.result.0.now c.as_chunks.ensures.front (omega arith) c.from_le_bytes.ensures (rw c.from.ensures at c.mix-h.ensures) ∙ c.loop-four.invariant.hashed;
}

pub returns : goal.returns
returns c =
    let all : c.loop-four.four-index ≡ length c.args.name.now / 4 = omega arith in
    c.mix.ensures
    ∙ ap (λ (x : ℕ). mixed (c.loop-four.h + x)) (c.rest_of.ensures.value ∙ ap rest_of c.as_chunks.ensures.back)
    ∙ hash_end c.loop-four.h (drop (length c.args.name.now / 4 * 4) c.args.name.now) (omega (arith, length-drop (length c.args.name.now / 4 * 4) c.args.name.now))
    ∙ ap (λ (i : ℕ). hash_from c.loop-four.h (drop (i * 4) c.args.name.now)) (sym all)
    ∙ c.loop-four.invariant.hashed
