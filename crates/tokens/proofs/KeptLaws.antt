-- The numbers of the kept list: each is that of a token, and less than the next. Assumes nothing.
use Prim.Native.Nat.{ℕ, zero, suc, ◌+◌, ◌≤◌, ◌<◌}
use native.Mathlib.Nat.{le_of_suc-le-suc}
use native.Mathlib.Omega.{arith}
use mathlib.Core.Bool.{Bool, true, false}
use mathlib.Core.List.{List, ◌∷◌}
use lib.ListN.{length, get_or}
use Rattle.tokens.specs.Token.{token_count, kind_of}
use Rattle.tokens.specs.Place.{Numbered}
use Rattle.tokens.specs.Kept.{dropped, keep_unless, kept_from, kept_of}

-- of the numbers that are kept of `left` tokens from i on: each lies among those, and is less than the next
pub record Rising (i left : ℕ) (kept : List ℕ) : Type 0 where
  pub few : length kept ≤ left
  pub low : (p : ℕ) → p < length kept → i ≤ get_or kept p 0
  pub high : (p : ℕ) → p < length kept → get_or kept p 0 < i + left
  pub rises : (p : ℕ) → suc p < length kept → get_or kept p 0 < get_or kept (suc p) 0

rising : (words : List ℕ) (left i : ℕ) → Rising i left (kept_from words left i)
unfolding kept_from
rising words zero i =
    record { few = omega arith; low = λ p h. absurd (none p h); high = λ p h. absurd (none p h); rises = λ p h. absurd (none (suc p) h) }
  where
    none : (p : ℕ) → p < 0 → ⊥
    none p h = omega arith
rising words (suc left) i = go (dropped (kind_of words i)) (rising words left (i + 1))
  where
    go : (t : Bool) → Rising (i + 1) left (kept_from words left (i + 1)) → Rising i (suc left) (keep_unless t i (kept_from words left (i + 1)))
    go true r =
        record {
          few = omega (arith, r.few);
          low = λ p h. omega (arith, r.low p h);
          high = λ p h. omega (arith, r.high p h);
          rises = r.rises;
        }
    go false r = record { few = omega (arith, r.few); low = low'; high = high'; rises = rises' }
      where
        low' : (p : ℕ) → p < length (i ∷ kept_from words left (i + 1)) → i ≤ get_or (i ∷ kept_from words left (i + 1)) p 0
        low' zero h = omega arith
        low' (suc p) h = omega (arith, r.low p (le_of_suc-le-suc h))

        high' : (p : ℕ) → p < length (i ∷ kept_from words left (i + 1)) → get_or (i ∷ kept_from words left (i + 1)) p 0 < i + suc left
        high' zero h = omega arith
        high' (suc p) h = omega (arith, r.high p (le_of_suc-le-suc h))

        rises' : (p : ℕ) → suc p < length (i ∷ kept_from words left (i + 1)) → get_or (i ∷ kept_from words left (i + 1)) p 0 < get_or (i ∷ kept_from words left (i + 1)) (suc p) 0
        rises' zero h = omega (arith, r.low 0 (le_of_suc-le-suc h))
        rises' (suc p) h = r.rises p (le_of_suc-le-suc h)

pub kept_rising : (words : List ℕ) → Rising 0 (token_count words) (kept_of words)
unfolding kept_of
kept_rising words = rising words (token_count words) 0

-- what the readers need of it
pub kept_numbered : (words : List ℕ) → Numbered words (kept_of words)
kept_numbered words = record { below = λ p h. omega (arith, (kept_rising words).high p h) }
