-- Laws that the proofs of this crate and of those above cite, each once. Assumes nothing.
use Prim.Native.Nat.{ℕ, zero, suc, ◌+◌, ◌-◌, ◌*◌, ◌/◌, ◌≤◌, ◌<◌, min}
use mathlib.Core.Path.{◌≡◌, refl, sym, subst, ◌∙◌}
use mathlib.Core.Bool.{Bool, true, false, cond, not, ◌&&◌, ◌||◌, false≢true}
use mathlib.Core.List.{List, [], ◌∷◌}
use mathlib.Core.Logic.{◌⊎◌, inl, inr, ⊎_elim}
use native.Mathlib.Omega.{arith}
use native.Mathlib.Nat.{sub-zero, zero-sub, suc-sub-suc, le-div_iff_mul-le, eq-zero-or-pos, suc-mul}
use borrow.Author.Tests.{not-true, not-false, ltb-true, ltb-false, lt-ltb, le-ltb, le-leb, lt-leb, eq-eqb, ne_eqb}
use lib.Dec.{ltb}
use lib.ListN.{length, take, drop, drop_of_length-le, length-drop}
use lib.Seq.{take-nil, take_all, sets}
use Rattle.tokens.specs.Lent.{put}
use Rattle.tokens.specs.Token.{part}
use Rattle.tokens.specs.Place.{field_at}

-- ---- tests

-- a test of a spec becomes its value by the fact that the code's branch gives
pub ruleset tests = (lt-ltb, le-ltb, le-leb, lt-leb, eq-eqb, ne_eqb)

pub lt_or_le : (a b : ℕ) → (a < b) ⊎ (b ≤ a)
lt_or_le a b = go (ltb a b) refl
  where
    go : (t : Bool) → ltb a b ≡ t → (a < b) ⊎ (b ≤ a)
    go true e = inl (ltb-true a b e)
    go false e = inr (ltb-false a b e)

-- both halves of a conjunction that holds
pub and_left : (a b : Bool) → (a && b) ≡ true → a ≡ true
and_left true b e = refl
and_left false b e = e

pub and_right : (a b : Bool) → (a && b) ≡ true → b ≡ true
and_right true b e = e
and_right false b e = absurd (false≢true e)

-- one half of a disjunction that holds
pub or_split : (a b : Bool) → (a || b) ≡ true → (a ≡ true) ⊎ (b ≡ true)
or_split true b e = inl refl
or_split false b e = inr e

-- a test of all numbers below n, to be computed, and what it says
unfoldable pub below : (ℕ → Bool) → ℕ → Bool
below test zero = true
below test (suc n) = test n && below test n

pub all_below : (test : ℕ → Bool) (n : ℕ) → below test n ≡ true → (m : ℕ) → m < n → test m ≡ true
unfolding below
all_below test zero h m l = absurd (omega arith)
all_below test (suc n) h m l =
    ⊎_elim (λ (b : m < n). all_below test n (and_right (test n) (below test n) h) m b)
    (λ (b : n ≤ m). let z : n ≡ m = omega arith in subst (λ (x : ℕ). test x ≡ true) z (and_left (test n) (below test n) h))
    (lt_or_le m n)

-- one of the turns that are left
pub left_step : (n i : ℕ) → i < n → n - i ≡ suc (n - (i + 1))
left_step n i h = omega arith

pub left_none : (n i : ℕ) → n ≤ i → n - i ≡ zero
left_none n i h = omega arith

-- a call's answer r is a spec's test x: what the branch `if !r` tells of x
pub said_no : {r x : Bool} → r ≡ x → not r ≡ true → x ≡ false
said_no {r} e h = sym e ∙ not-true r h

pub said_yes : {r x : Bool} → r ≡ x → not r ≡ false → x ≡ true
said_yes {r} e h = sym e ∙ not-false r h

-- ---- parts of a list

-- what is cut off in front of a front
pub drop_take : {A : Type 0} (i j : ℕ) (l : List A) → drop i (take j l) ≡ take (j - i) (drop i l)
drop_take zero j l = simp sub-zero
drop_take (suc i) zero l = simp zero-sub
drop_take (suc i) (suc j) [] = sym (take-nil (suc j - suc i))
drop_take (suc i) (suc j) (x ∷ l) = simp suc-sub-suc (drop_take i j l)

-- a part whose end is cut to the text's length, and its start to that end, is the part itself
pub part_clamped : (text : List ℕ) (s e f u : ℕ) → u ≡ min e (length text) → f ≡ min s u → take (u - f) (drop f text) ≡ part text s e
part_clamped text s e f u hu hf = ⊎_elim past inside (lt_or_le u s)
  where
    inside : s ≤ u → take (u - f) (drop f text) ≡ part text s e
    inside h =
        let f_is : f ≡ s = omega arith in
        rw f_is
        (⊎_elim
        (λ (k : e < length text). let u-is : u ≡ e = omega arith in rw u-is)
        (λ (k : length text ≤ e). take_all (u - s) (drop s text) (rw length-drop (omega arith)) ∙ sym (take_all (e - s) (drop s text) (rw length-drop (omega arith))))
        (lt_or_le e (length text)))

    past : u < s → take (u - f) (drop f text) ≡ part text s e
    past h =
        let none : u - f ≡ 0 = omega arith in
        rw none
        (⊎_elim
        (λ (k : e < s). let none-left : e - s ≡ 0 = omega arith in rw none-left)
        (λ (k : s ≤ e). let behind : length text ≤ s = omega arith in rw (drop_of_length-le text behind, take-nil))
        (lt_or_le e s))

-- ---- tokens by place

-- a word that is not 0 was read inside the kept list
pub field_inside : (j : ℕ) (words kept : List ℕ) (p r : ℕ) → r ≡ field_at j words kept p → r ≤ 4294967295 → r ≤ 4294967295 * (length kept - p)
unfolding field_at
field_inside j words kept p r e b =
    ⊎_elim (λ (h : p < length kept). omega arith) (λ (h : length kept ≤ p). let none : r ≡ 0 = simp (le-ltb _ _ h) at e in omega arith)
    (lt_or_le p (length kept))

-- ---- where a record begins

pub start_inside : (len n w : ℕ) → 0 < w → n ≤ len / w → n * w ≤ len
start_inside len n w p h = (le-div_iff_mul-le p).0 h

pub pos_of_ne : {n : ℕ} → (n ≡ 0 → ⊥) → 0 < n
pos_of_ne {n} h = ⊎_elim (λ (e : n ≡ 0). absurd (h e)) (λ (p : 0 < n). p) (eq-zero-or-pos n)

-- ---- a record of a table

-- a record that lies in the table ends in it
pub record_inside : (len n w : ℕ) → 0 < w → n < len / w → n * w + w ≤ len
record_inside len n w p h = rw suc-mul at (start_inside len (suc n) w p h)

-- a run of words that is written to its end
pub sets_done : (t ws : List ℕ) (at i : ℕ) → length ws ≤ i → sets t at (drop i ws) ≡ t
sets_done t ws at i h = rw (drop_of_length-le ws h)

-- a record of no words changes nothing
pub put_empty : (t ws : List ℕ) (n w : ℕ) → w ≡ 0 → length ws ≡ w → t ≡ put w t n ws
unfolding put
put_empty t [] n w z h = go (ltb n (length t / w))
  where
    go : (b : Bool) → t ≡ cond b t t
    go true = refl
    go false = refl
put_empty t (x ∷ ws) n w z h = absurd (no_zero (h ∙ z))
  where
    no_zero : suc (length ws) ≡ 0 → ⊥
    no_zero e = omega arith

-- the whole record is written where it fits, and nothing where it does not
pub put_fits : (t r : List ℕ) (n w : ℕ) → n < length t / w → put w t n r ≡ sets t (n * w) r
unfolding put
put_fits t r n w h = simp (lt-ltb _ _ h)

pub put_full : (t r : List ℕ) (n w : ℕ) → length t / w ≤ n → put w t n r ≡ t
unfolding put
put_full t r n w h = simp (le-ltb _ _ h)
