-- What the library's `==` and `strip_prefix` say of bytes, in the words of Bytes. Assumes nothing.
use Prim.Native.Nat.{ℕ, ◌<◌}
use mathlib.Core.Path.{◌≡◌, refl, sym, ap, ◌∙◌}
use mathlib.Core.Bool.{Bool, false, ◌&&◌}
use mathlib.Core.List.{List, [], ◌∷◌}
use native.Mathlib.Omega.{arith}
use lib.Dec.{eqb}
use lib.ListN.{length, take, length-take}
use Rattle.std.specs.Prelude.{nat_eq}
use Rattle.std.specs.Cmp.Lexicographic.{pointwise}
use Rattle.tokens.specs.Byte.{same}
use Rattle.tokens.proofs.NameLaws.{same_lengths}
use Rattle.lexemes.specs.Bytes.{begins}

pub pointwise_same : (a b : List ℕ) → pointwise nat_eq a b ≡ same a b
unfolding same
pointwise_same [] [] = refl
pointwise_same [] (b ∷ bs) = refl
pointwise_same (a ∷ ps) [] = refl
pointwise_same (a ∷ ps) (b ∷ bs) = ap (λ (t : Bool). eqb a b && t) (pointwise_same ps bs)

pub strip_told : (bs what : List ℕ) {r : Bool} → pointwise nat_eq (take (length what) bs) what ≡ r → begins what bs ≡ r
unfolding begins
strip_told bs what e = sym (pointwise_same (take (length what) bs) what) ∙ e

-- too few bytes begin with nothing of the kind
pub begins_short : (what bs : List ℕ) → length bs < length what → false ≡ begins what bs
unfolding begins
begins_short what bs h = sym (same_lengths (take (length what) bs) what (λ e. let l = rw (length-take (length what) bs) at e in omega arith))
