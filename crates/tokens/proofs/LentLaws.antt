-- Laws of tables: records one behind the other, a record written late, the rest of a table lent on, records then zeros. Assumes nothing.
use Prim.Native.Nat.{ℕ, suc, ◌+◌, ◌-◌, ◌*◌, ◌/◌, ◌≤◌, ◌<◌, min}
use mathlib.Core.Path.{◌≡◌, refl, sym, ap, ◌∙◌}
use mathlib.Core.List.{List, [], ◌∷◌, ◌++◌, append_assoc, append-nil, flatten}
use mathlib.Core.Logic.{⊎_elim}
use native.Mathlib.Omega.{arith}
use native.Mathlib.Nat.{add_comm, add-zero, zero-add, add-suc, suc-add, add_assoc, suc-mul, zero-mul, one-mul, sub-zero, add-mul, mul-le-mul_right, add-mul-div_right, div-lt_iff_lt-mul, le-div_iff_mul-le, le_of_eq, le_of_lt, sub-eq-zero_of_le, zero-div}
use lib.ListN.{length, take, drop, set, replicate, length-append, length-drop, take-append-drop, drop_of_length-le}
use lib.Seq.{sets, length-sets, sets-eq, set_comm, take_at, take_all, length-take-le, drop-drop}
use borrow.Rule.Slice.PartMut.{mid_of, put_mid}
use Rattle.tokens.specs.Lent.{put, put_all, cleared_behind}
use Rattle.tokens.proofs.Laws.{lt_or_le, put_fits, put_full, start_inside}

-- ---- lengths stay

pub put_length : (w : ℕ) (t : List ℕ) (n : ℕ) (r : List ℕ) → length (put w t n r) ≡ length t
put_length w t n r =
    ⊎_elim (λ (h : n < length t / w). rw (put_fits t r n w h) (length-sets t (n * w) r)) (λ (h : length t / w ≤ n). rw (put_full t r n w h))
    (lt_or_le n (length t / w))

pub put_all_length : (w : ℕ) (t : List ℕ) (n : ℕ) (rs : List (List ℕ)) → length (put_all w t n rs) ≡ length t
unfolding put_all
put_all_length w t n [] = refl
put_all_length w t n (r ∷ rs) = put_all_length w (put w t n r) (n + 1) rs ∙ put_length w t n r

-- ---- records one behind the other

pub put_all_append : (w : ℕ) (t : List ℕ) (n : ℕ) (rs qs : List (List ℕ)) → put_all w t n (rs ++ qs) ≡ put_all w (put_all w t n rs) (n + length rs) qs
unfolding put_all
put_all_append w t n [] qs = rw add-zero
put_all_append w t n (r ∷ rs) qs =
    let same : n + 1 + length rs ≡ n + suc (length rs) = omega arith in
    put_all_append w (put w t n r) (n + 1) rs qs ∙ ap (λ (k : ℕ). put_all w (put_all w (put w t n r) (n + 1) rs) k qs) same

-- ---- a record written after those behind it

set_sets : (q t : List ℕ) (i j a : ℕ) → i < j → set (sets t j q) i a ≡ sets (set t i a) j q
set_sets [] t i j a h = refl
set_sets (b ∷ q) t i j a h =
    set_sets q (set t j b) i (suc j) a (omega arith) ∙ ap (λ (l : List ℕ). sets l (suc j) q) (set_comm t j i b a (apart i j h))
  where
    apart : (i j : ℕ) → i < j → j ≡ i → ⊥
    apart i j h e = omega arith

sets_comm : (r t q : List ℕ) (i j : ℕ) → i + length r ≤ j → sets (sets t j q) i r ≡ sets (sets t i r) j q
sets_comm [] t q i j h = refl
sets_comm (a ∷ r) t q i j h =
    ap (λ (l : List ℕ). sets l (suc i) r) (set_sets q t i j a (omega arith)) ∙ sets_comm r (set t i a) q (suc i) j (omega arith)

below : (m n w : ℕ) (r : List ℕ) → m < n → length r ≤ w → m * w + length r ≤ n * w
below m n w r h k = let up : m * w + w ≤ n * w = rw suc-mul at (mul-le-mul_right w h) in omega arith

put_comm : (w : ℕ) (t q r : List ℕ) (m n : ℕ) → m < n → length r ≤ w → put w (put w t n q) m r ≡ put w (put w t m r) n q
put_comm w t q r m n h k = ⊎_elim both none (lt_or_le n (length t / w))
  where
    both : n < length t / w → put w (put w t n q) m r ≡ put w (put w t m r) n q
    both f =
        let fm : m < length t / w = omega arith in
        let fq : m < length (put w t n q) / w = rw put_length fm in
        let fr : n < length (put w t m r) / w = rw put_length f in
        put_fits (put w t n q) r m w fq
        ∙ ap (λ (l : List ℕ). sets l (m * w) r) (put_fits t q n w f)
        ∙ sets_comm r t q (m * w) (n * w) (below m n w r h k)
        ∙ ap (λ (l : List ℕ). sets l (n * w) q) (sym (put_fits t r m w fm))
        ∙ sym (put_fits (put w t m r) q n w fr)

    none : length t / w ≤ n → put w (put w t n q) m r ≡ put w (put w t m r) n q
    none f =
        let fr : length (put w t m r) / w ≤ n = rw put_length f in
        ap (λ (l : List ℕ). put w l m r) (put_full t q n w f) ∙ sym (put_full (put w t m r) q n w fr)

pub put_late : (w : ℕ) (rs : List (List ℕ)) (t r : List ℕ) (m n : ℕ) → m < n → length r ≤ w → put w (put_all w t n rs) m r ≡ put_all w (put w t m r) n rs
unfolding put_all
put_late w [] t r m n h k = refl
put_late w (q ∷ rs) t r m n h k =
    put_late w rs (put w t n q) r m (n + 1) (omega arith) k ∙ ap (λ (l : List ℕ). put_all w l (n + 1) rs) (put_comm w t q r m n h k)

-- ---- the rest of a table lent on

set_behind : (p s : List ℕ) (i a : ℕ) → set (p ++ s) (length p + i) a ≡ p ++ set s i a
set_behind [] s i a = rw zero-add
set_behind (x ∷ p) s i a = rw suc-add (ap (λ (l : List ℕ). x ∷ l) (set_behind p s i a))

sets_behind : (r p s : List ℕ) (i : ℕ) → sets (p ++ s) (length p + i) r ≡ p ++ sets s i r
sets_behind [] p s i = refl
sets_behind (a ∷ r) p s i =
    ap (λ (l : List ℕ). sets l (suc (length p + i)) r) (set_behind p s i a)
    ∙ ap (λ (k : ℕ). sets (p ++ set s i a) k r) (sym (add-suc (length p) i))
    ∙ sets_behind r p (set s i a) (suc i)

-- record k of what is behind n records is record n + k of the whole
put_behind : (w : ℕ) (p s r : List ℕ) (n k : ℕ) → 0 < w → length p ≡ n * w → put w (p ++ s) (n + k) r ≡ p ++ put w s k r
put_behind w p s r n k pos lp = ⊎_elim fits full (lt_or_le k (length s / w))
  where
    whole : length (p ++ s) / w ≡ length s / w + n
    whole = rw (length-append, lp, add_comm) (add-mul-div_right (length s) n pos)

    fits : k < length s / w → put w (p ++ s) (n + k) r ≡ p ++ put w s k r
    fits h =
        let f : n + k < length (p ++ s) / w = rw whole (omega arith) in
        put_fits (p ++ s) r (n + k) w f
        ∙ ap (λ (i : ℕ). sets (p ++ s) i r) (add-mul n k w ∙ ap (λ (i : ℕ). i + k * w) (sym lp))
        ∙ sets_behind r p s (k * w)
        ∙ ap (λ (l : List ℕ). p ++ l) (sym (put_fits s r k w h))

    full : length s / w ≤ k → put w (p ++ s) (n + k) r ≡ p ++ put w s k r
    full h =
        let f : length (p ++ s) / w ≤ n + k = rw whole (omega arith) in
        put_full (p ++ s) r (n + k) w f ∙ ap (λ (l : List ℕ). p ++ l) (sym (put_full s r k w h))

put_all_behind : (w : ℕ) (rs : List (List ℕ)) (p s : List ℕ) (n k : ℕ) → 0 < w → length p ≡ n * w → put_all w (p ++ s) (n + k) rs ≡ p ++ put_all w s k rs
unfolding put_all
put_all_behind w [] p s n k pos lp = refl
put_all_behind w (r ∷ rs) p s n k pos lp =
    ap (λ (l : List ℕ). put_all w l (n + k + 1) rs) (put_behind w p s r n k pos lp)
    ∙ ap (λ (i : ℕ). put_all w (p ++ put w s k r) i rs) (add_assoc n k 1)
    ∙ put_all_behind w rs p (put w s k r) n (k + 1) pos lp

-- past a table's end nothing is written
put_all_past : (w : ℕ) (rs : List (List ℕ)) (t : List ℕ) (n : ℕ) → length t / w ≤ n → put_all w t n rs ≡ t
unfolding put_all
put_all_past w [] t n h = refl
put_all_past w (r ∷ rs) t n h = rw (put_full t r n w h) (put_all_past w rs t (n + 1) (omega arith))

-- what is lent is what lies from a on, and what comes back stands there
lent_is : (t : List ℕ) (a : ℕ) → mid_of a (length t - a) t ≡ drop a t
lent_is t a = take_all (length t - a) (drop a t) (le_of_eq (length-drop a t))

back_is : (t u : List ℕ) (a : ℕ) → put_mid a (length t - a) t u ≡ take a t ++ u
back_is t u a =
    let rest : drop (length t - a) (drop a t) ≡ [] = drop_of_length-le (drop a t) (le_of_eq (length-drop a t)) in
    rw (rest, append-nil)

-- what a reader writes into the rest of a table from record n on, counting from 0, is written into the table from n on
pub rest_written : (w : ℕ) (rs : List (List ℕ)) (t : List ℕ) (n a : ℕ) → 0 < w → a ≡ min (n * w) (length t) → put_mid a (length t - a) t (put_all w (mid_of a (length t - a) t) 0 rs) ≡ put_all w t n rs
rest_written w rs t n a pos e =
    back_is t (put_all w (mid_of a (length t - a) t) 0 rs) a
    ∙ ap (λ (l : List ℕ). take a t ++ put_all w l 0 rs) (lent_is t a)
    ∙ ⊎_elim past inside (lt_or_le (length t) (n * w))
  where
    past : length t < n * w → take a t ++ put_all w (drop a t) 0 rs ≡ put_all w t n rs
    past h =
        let end : length t ≤ a = omega arith in
        let full : length t / w ≤ n = le_of_lt ((div-lt_iff_lt-mul pos).1 h) in
        let none : length (drop a t) / w ≤ 0 = rw (length-drop, sub-eq-zero_of_le end, zero-div) (omega arith) in
        rw (put_all_past w rs (drop a t) 0 none, put_all_past w rs t n full) (take-append-drop a t)

    inside : n * w ≤ length t → take a t ++ put_all w (drop a t) 0 rs ≡ put_all w t n rs
    inside h =
        let at : a ≡ n * w = omega arith in
        let lead : length (take a t) ≡ n * w = length-take-le a t (omega arith) ∙ at in
        sym (put_all_behind w rs (take a t) (drop a t) n 0 pos lead)
        ∙ rw (add-zero, take-append-drop)

-- zeros in the rest of a table from record n on
pub rest_cleared : (w n : ℕ) (t : List ℕ) (a : ℕ) → a ≡ min (n * w) (length t) → put_mid a (length t - a) t (replicate (length (mid_of a (length t - a) t)) 0) ≡ cleared_behind w n t
unfolding cleared_behind
rest_cleared w n t a e =
    back_is t (replicate (length (mid_of a (length t - a) t)) 0) a
    ∙ ap (λ (l : List ℕ). take a t ++ replicate (length l) 0) (lent_is t a)
    ∙ ap (λ (k : ℕ). take a t ++ replicate k 0) (length-drop a t)
    ∙ ⊎_elim past inside (lt_or_le (length t) (n * w))
  where
    past : length t < n * w → take a t ++ replicate (length t - a) 0 ≡ take (n * w) t ++ replicate (length t - n * w) 0
    past h =
        let end : length t ≤ a = omega arith in
        let none : length t - a ≡ length t - n * w = omega arith in
        rw (take_all a t end, take_all (n * w) t (le_of_lt h), none)

    inside : n * w ≤ length t → take a t ++ replicate (length t - a) 0 ≡ take (n * w) t ++ replicate (length t - n * w) 0
    inside h =
        let at : a ≡ n * w = omega arith in
        rw at

-- ---- records, then zeros

-- behind no records: all of the table
pub cleared_none : (w : ℕ) (t : List ℕ) → cleared_behind w 0 t ≡ replicate (length t) 0
unfolding cleared_behind
cleared_none w t = rw (zero-mul, sub-zero)

-- every record is w words wide
abbrev pub Wide : ℕ → List (List ℕ) → Type 0
Wide w [] = Unit {0}
Wide w (r ∷ rs) = (length r ≡ w) × Wide w rs

-- so many words
flat_length : (w : ℕ) (rs : List (List ℕ)) → Wide w rs → length (flatten rs) ≡ length rs * w
unfolding flatten
flat_length w [] h = sym (zero-mul w)
flat_length w (r ∷ rs) h = rw (length-append, suc-mul) (omega (arith, h.0, flat_length w rs h.1))

-- the first record of a table
put_first : (w : ℕ) (t r : List ℕ) → 0 < w → length r ≡ w → w ≤ length t → put w t 0 r ≡ r ++ drop w t
put_first w t r pos lr room =
    let up : 1 * w ≤ length t = rw one-mul room in
    put_fits t r 0 w ((le-div_iff_mul-le pos).1 up)
    ∙ ap (λ (i : ℕ). sets t i r) (zero-mul w)
    ∙ sets-eq r t 0 (rw (zero-add, lr) room)
    ∙ ap (λ (i : ℕ). r ++ drop i t) (zero-add (length r) ∙ lr)

-- records from the first on stand one behind the other, where there is room for all, and what lies behind them is as it was
put_all_flat : (w : ℕ) (rs : List (List ℕ)) (t : List ℕ) → 0 < w → Wide w rs → length rs * w ≤ length t → put_all w t 0 rs ≡ flatten rs ++ drop (length rs * w) t
unfolding put_all flatten
put_all_flat w [] t pos h room = rw zero-mul
put_all_flat w (r ∷ rs) t pos h room =
    let all : w + length rs * w ≤ length t = omega (arith, suc-mul (length rs) w) in
    let rest : length rs * w ≤ length (drop w t) = rw length-drop (omega arith) in
    ap (λ (l : List ℕ). put_all w l 1 rs) (put_first w t r pos h.0 (omega arith))
    ∙ put_all_behind w rs r (drop w t) 1 0 pos (h.0 ∙ sym (one-mul w))
    ∙ ap (λ (l : List ℕ). r ++ l) (put_all_flat w rs (drop w t) pos h.1 rest)
    ∙ ap (λ (l : List ℕ). r ++ (flatten rs ++ l)) (drop-drop (length rs * w) w t)
    ∙ rw (suc-mul, add_comm (length rs * w) w) (sym (append_assoc r (flatten rs) (drop (w + length rs * w) t)))

-- a table with room for k records, into which they were written, cleared behind them: the records, then zeros, whatever it held before
pub records_then_zeros : (w : ℕ) (rs : List (List ℕ)) (t : List ℕ) {u : List ℕ} {k : ℕ} → 0 < w → Wide w rs → length rs ≡ k → k ≤ length t / w → u ≡ put_all w t 0 rs
    → cleared_behind w k u ≡ flatten rs ++ replicate (length t - length (flatten rs)) 0
unfolding cleared_behind
records_then_zeros w rs t {u} {k} pos h many room e =
    let long : length (flatten rs) ≡ k * w = flat_length w rs h ∙ ap (λ (n : ℕ). n * w) many in
    let flat : u ≡ flatten rs ++ drop (length rs * w) t = e ∙ put_all_flat w rs t pos h (rw many (start_inside (length t) k w pos room)) in
    ap (λ (n : ℕ). take (k * w) u ++ replicate (n - k * w) 0) (ap length e ∙ put_all_length w t 0 rs)
    ∙ ap (λ (l : List ℕ). take (k * w) l ++ replicate (length t - k * w) 0) flat
    ∙ ap (λ (l : List ℕ). l ++ replicate (length t - k * w) 0) (take_at (flatten rs) (drop (length rs * w) t) (k * w) long)
    ∙ ap (λ (n : ℕ). flatten rs ++ replicate (length t - n) 0) (sym long)
