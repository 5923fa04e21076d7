-- Laws of values: hex digits and the number that they write, the significant bytes of a number, and the value pushes that it fits.
-- The promises of the product are `digits_worth`, `hex_digits`, `no_worth`, `significant_holds`, `-least`, `-between` and `-zero`, `literal_value_whole`, `fits_value` and `yellow_paper` with its
-- converse; the rest serves the proofs of the code. Assumes nothing.
use Prim.Native.Char.{code}
use Prim.Native.Nat.{ℕ, zero, suc, ◌+◌, ◌-◌, ◌*◌, ◌/◌, ◌%◌, ◌^◌, ◌≤◌, ◌<◌, min, max}
use mathlib.Core.Path.{◌≡◌, refl, sym, ap, ◌∙◌}
use mathlib.Core.Bool.{Bool, true, false, cond, not, ◌&&◌, ◌||◌, and-true, and-false, and_assoc, and-eq-true_iff, false≢true}
use mathlib.Core.List.{List, [], ◌∷◌, ◌++◌, map}
use mathlib.Core.Logic.{⊎_elim, ◌↔◌}
use native.Mathlib.Nat.{add-zero, zero-add, sub_self, add-mul}
use native.Mathlib.Nat.{not-suc-le-zero, lt_of_not-le, le_of_suc-le-suc, le_of_eq, eq-zero-or-pos, le_trans, lt_of_lt_of_le, lt_of_le_of_lt, mul-le-mul_right}
use native.Mathlib.Nat.{mul-zero, zero-mul, mul-suc, mul_comm, mul_assoc, pow-zero, pow-suc, pow-le-pow_right, div-eq_of_lt, mod-lt, mod-le, mod-eq_of_lt, div-one}
use native.Mathlib.Numerals.{add-one}
use native.Mathlib.Omega.{arith}
use borrow.Author.Tests.{ltb-true, ltb-false, leb-true, leb-false, lt-ltb, le-ltb, le-leb, lt-leb, eq-eqb, ne_eqb}
use lib.Dec.{leb, ltb, eqb, lit<, lit≤}
use lib.Arith.{digits_lt, digits_div, digits_mod, mod-mul}
use lib.Pow.{pow-add, pow_mono}
use lib.Count.{count_leading_zeros, leading_top}
use lib.ListN.{length, take, drop, get_or, length-take, length-drop, take-append-drop, drop_of_length-le}
use lib.Seq.{take_all, drop-cons, drop-drop, drop-nil}
use Rattle.std.specs.List.{fold, list_all}
use Rattle.tokens.proofs.Laws.{drop_take}
use Rattle.tokens.specs.Byte.{bytes, same, is_hex, digit, all_hex, value_after, between, from_to}
use Rattle.tokens.specs.Literal.{is_literal, literal_value, bytes_from, significant}
use Rattle.tokens.specs.Push.{push_byte, is_value_push, push_size, fits}

-- ---- tests

cond_cases : (P : ℕ → Type 0) (b : Bool) (x y : ℕ) → (b ≡ true → P x) → (b ≡ false → P y) → P (cond b x y)
cond_cases P true x y f g = f refl
cond_cases P false x y f g = g refl

-- one of two numbers is the smaller
either : {P : Type 0} (a b : ℕ) → (a ≤ b → P) → (b < a → P) → P
either {P} a b f g = go (leb a b) refl
  where
    go : (t : Bool) → leb a b ≡ t → P
    go true e = f (leb-true a b e)
    go false e = g (leb-false a b e)

pub ltb_not_leb : (a b : ℕ) → ltb a b ≡ not (leb b a)
ltb_not_leb a b = go (leb b a) refl
  where
    go : (t : Bool) → leb b a ≡ t → ltb a b ≡ not t
    go true e = le-ltb a b (leb-true b a e)
    go false e = lt-ltb a b (leb-false b a e)

-- a byte inside a range, under it, over it
pub inside : (a b c : ℕ) → a ≤ c → c ≤ b → between a b c ≡ true
inside a b c h k = simp (le-leb a c h, le-leb c b k)

pub under : (a b c : ℕ) → c < a → between a b c ≡ false
under a b c h = simp (lt-leb a c h)

pub over : (a b c : ℕ) → b < c → between a b c ≡ false
over a b c h = simp (lt-leb c b h, and-false)

within : (a b c : ℕ) → between a b c ≡ true → (a ≤ c) × (c ≤ b)
within a b c e = let h = (and-eq-true_iff (leb a c) (leb c b)).0 e in (leb-true a c h.0, leb-true c b h.1)

-- ---- powers

pow_pow : (a k n : ℕ) → (a ^ k) ^ n ≡ a ^ (k * n)
pow_pow a k zero = simp (mul-zero, pow-zero)
pow_pow a k (suc n) = rw (pow-suc (a ^ k) n, pow_pow a k n, mul-suc, pow-add)

mono : {i j : ℕ} → i ≤ j → 256 ^ i ≤ 256 ^ j
mono h = pow-le-pow_right (lit< tt) h

pos : (k : ℕ) → 0 < 256 ^ k
pos k = le_trans (lit≤ tt) (mono {i = 0} {j = k} (omega arith))

more_bytes : (n m : ℕ) → 256 ^ n < 256 ^ m → n < m
more_bytes n m h = lt_of_not-le (λ (g : m ≤ n). let k = mono g in omega arith)

-- ---- the significant bytes of a value

from_holds : (tries n v : ℕ) → v < 256 ^ (n + tries) → v < 256 ^ bytes_from tries n v
unfolding bytes_from
from_holds zero n v h = rw add-zero at h
from_holds (suc tries) n v h =
    cond_cases (λ (m : ℕ). v < 256 ^ m) (ltb v (256 ^ n)) n (bytes_from tries (n + 1) v) (λ e. ltb-true v (256 ^ n) e)
    (λ e. let same_end : n + suc tries ≡ n + 1 + tries = omega arith in from_holds tries (n + 1) v (rw same_end at h))

from_least : (tries n v m : ℕ) → n ≤ m → v < 256 ^ m → bytes_from tries n v ≤ m
unfolding bytes_from
from_least zero n v m h k = h
from_least (suc tries) n v m h k =
    cond_cases (λ (x : ℕ). x ≤ m) (ltb v (256 ^ n)) n (bytes_from tries (n + 1) v) (λ e. h)
    (λ e. from_least tries (n + 1) v m (omega (arith, more_bytes n m (lt_of_le_of_lt (ltb-false v (256 ^ n) e) k))) k)

from_between : (tries n v : ℕ) → (n ≤ bytes_from tries n v) × (bytes_from tries n v ≤ n + tries)
unfolding bytes_from
from_between zero n v = omega arith
from_between (suc tries) n v =
    cond_cases (λ (x : ℕ). (n ≤ x) × (x ≤ n + suc tries)) (ltb v (256 ^ n)) n (bytes_from tries (n + 1) v) (λ e. omega arith)
    (λ e. let h = from_between tries (n + 1) v in omega arith)

-- the significant bytes of a number of 256 bits hold it
pub significant_holds : (v : ℕ) → v < 2 ^ 256 → v < 256 ^ significant v
unfolding significant
significant_holds v h = from_holds 31 1 v h

-- and no fewer do
pub significant_least : (v n : ℕ) → 1 ≤ n → v < 256 ^ n → significant v ≤ n
unfolding significant
significant_least v n h k = from_least 31 1 v n h k

pub significant_between : (v : ℕ) → (1 ≤ significant v) × (significant v ≤ 32)
unfolding significant
significant_between v = from_between 31 1 v

-- zero has one significant byte
pub significant_zero : significant 0 ≡ 1
significant_zero = let h = significant_between 0 in let k = significant_least 0 1 (omega arith) (lit< tt) in omega arith

-- the two bounds tell the number of significant bytes
significant_is : (v n : ℕ) → n < 32 → 256 ^ n ≤ v → v < 256 ^ (n + 1) → significant v ≡ n + 1
significant_is v n h l k =
    let small : v < 2 ^ 256 = lt_of_lt_of_le k (mono {j = 32} (omega arith)) in
    let above = more_bytes n (significant v) (lt_of_le_of_lt l (significant_holds v small)) in
    let below = significant_least v (n + 1) (omega arith) k in
    omega arith

-- a number that is not zero reaches into the highest of its significant bytes
significant_fills : (v : ℕ) → 0 < v → 256 ^ (significant v - 1) ≤ v
significant_fills v h =
    le_of_suc-le-suc (lt_of_not-le (λ (k : v < 256 ^ (significant v - 1)).
    let one = significant_between v in
    ⊎_elim (λ (e : significant v - 1 ≡ 0). let z : v < 256 ^ 0 = rw e at k in omega arith)
    (λ (p : 0 < significant v - 1). let fewer = significant_least v (significant v - 1) p k in omega arith)
    (eq-zero-or-pos (significant v - 1))))

-- bytes behind a quarter that is not zero are all significant
significant_more : (q k r : ℕ) → 0 < q → q < 256 ^ 8 → k ≤ 24 → r < 256 ^ k → significant (q * 256 ^ k + r) ≡ significant q + k
significant_more q k r p b h l =
    let s : ℕ = significant q - 1 in
    let one = significant_between q in
    let few = significant_least q 8 (omega arith) b in
    let hold = significant_holds q (lt_of_lt_of_le b (lit≤ tt)) in
    let whole : s + k + 1 ≡ significant q + k = omega arith in
    let low : 256 ^ (s + k) ≤ q * 256 ^ k + r = rw (pow-add 256 s k) (le_trans (mul-le-mul_right (256 ^ k) (significant_fills q p)) (omega arith)) in
    let high : q * 256 ^ k + r < 256 ^ (s + k + 1) = rw (whole, pow-add 256 (significant q) k) (digits_lt hold l) in
    let exact = significant_is (q * 256 ^ k + r) (s + k) (omega arith) low high in
    omega arith

-- the number of bytes that leading zeros leave of a quarter
pub from_leading : (q : ℕ) → (q ≡ 0 → ⊥) → q < 2 ^ 64 → (64 - count_leading_zeros 64 q + 7) / 8 ≡ significant q
from_leading q p h =
    let top = leading_top 64 q (omega arith) h in
    let j : ℕ = top.0 in
    let n : ℕ = j / 8 in
    let low : 256 ^ n ≤ q = le_trans (le_of_eq (pow_pow 2 8 n)) (le_trans (pow_mono (omega arith)) top.2) in
    let high : q < 256 ^ (n + 1) = lt_of_lt_of_le top.3 (le_trans (pow_mono (omega arith)) (le_of_eq (sym (pow_pow 2 8 (n + 1))))) in
    let exact = significant_is q n (omega (arith, top.1)) low high in
    omega (arith, top.1)

-- as `div_ceil` tells it
pub from_leading_up : (q : ℕ) → (q ≡ 0 → ⊥) → q < 2 ^ 64 → (64 - count_leading_zeros 64 q) / 8 + min 1 ((64 - count_leading_zeros 64 q) % 8) ≡ significant q
from_leading_up q p h = omega (arith, from_leading q p h)

-- ---- a text, byte for byte

-- what the bytes seen so far and those to come decide together
hex_fold : (seen : Bool) (l : List ℕ) → fold (λ all c. all && is_hex c) seen l ≡ (seen && all_hex l)
unfolding all_hex
hex_fold true [] = refl
hex_fold false [] = refl
hex_fold true (c ∷ l) = hex_fold (is_hex c) l
hex_fold false (c ∷ l) = hex_fold false l

pub hex_all : (l : List ℕ) → fold (λ all c. all && is_hex c) true l ≡ all_hex l
hex_all l = hex_fold true l

-- the rest of a text, as the code takes it
pub rest_is : (l : List ℕ) (a : ℕ) → take (length l - a) (drop a l) ≡ drop a l
rest_is l a = take_all (length l - a) (drop a l) (simp length-drop (omega arith))

-- a text that starts with 0x
starts : (l : List ℕ) → 2 ≤ length l → same (take 2 l) (bytes "0x") ≡ eqb (get_or l 0 0) 48 && eqb (get_or l 1 0) 120
unfolding same bytes
starts [] h = absurd (not-suc-le-zero h)
starts (a ∷ []) h = absurd (not-suc-le-zero (le_of_suc-le-suc h))
starts (a ∷ b ∷ l) h = simp and-true

-- the digits behind it, as the code takes them
abbrev pub behind_0x : List ℕ → List ℕ
behind_0x l = take (length l - 2) (drop 2 l)

digits_are : (l : List ℕ) → length (behind_0x l) ≡ length l - 2
digits_are l = ap length (rest_is l 2) ∙ length-drop 2 l

pub not_short : (l : List ℕ) → length l < 3 → is_literal l ≡ false
unfolding is_literal
not_short l h = simp (under 3 66 (length l) h, and-false)

pub not_two : (l : List ℕ) → length l < 2 → is_literal l ≡ false
not_two l h = not_short l (omega arith)

-- a text that has two bytes, by them and by its digits
module _ (l : List ℕ) (two : 2 ≤ length l) where
  pub not_zero : (get_or l 0 0 ≡ 48 → ⊥) → is_literal l ≡ false
  unfolding is_literal
  not_zero h = simp (starts l two, ne_eqb (get_or l 0 0) 48 h)

  pub not_x : (get_or l 1 0 ≡ 120 → ⊥) → is_literal l ≡ false
  unfolding is_literal
  not_x h = simp (starts l two, ne_eqb (get_or l 1 0) 120 h, and-false)

  pub no_digit : length (behind_0x l) < 1 → is_literal l ≡ false
  no_digit h = not_short l (omega (arith, digits_are l))

  pub many_digits : 64 < length (behind_0x l) → is_literal l ≡ false
  unfolding is_literal
  many_digits h = simp (over 3 66 (length l) (omega (arith, digits_are l)), and-false)

  pub by_digits : 1 ≤ length (behind_0x l) → length (behind_0x l) ≤ 64 → get_or l 0 0 ≡ 48 → get_or l 1 0 ≡ 120 → is_literal l ≡ all_hex (behind_0x l)
  unfolding is_literal
  by_digits some few p q =
      rw (rest_is l 2)
      (simp (starts l two, eq-eqb (get_or l 0 0) 48 p, eq-eqb (get_or l 1 0) 120 q, inside 3 66 (length l) (omega (arith, digits_are l)) (omega (arith, digits_are l))))

-- ---- digits and the number that they write

-- the digits in their order are worth 0 to 15, the last six in capitals too
pub digits_worth :
    (map digit (bytes "0123456789abcdef") ≡ 0 ∷ 1 ∷ 2 ∷ 3 ∷ 4 ∷ 5 ∷ 6 ∷ 7 ∷ 8 ∷ 9 ∷ 10 ∷ 11 ∷ 12 ∷ 13 ∷ 14 ∷ 15 ∷ [])
    × (map digit (bytes "ABCDEF") ≡ 10 ∷ 11 ∷ 12 ∷ 13 ∷ 14 ∷ 15 ∷ [])
unfolding bytes digit
digits_worth = (refl, refl)

-- they are hex digits, and the characters next to the three ranges are none
pub hex_digits :
    (all_hex (bytes "0123456789abcdefABCDEF") ≡ true)
    × (map is_hex (bytes "/:`g@G") ≡ false ∷ false ∷ false ∷ false ∷ false ∷ false ∷ [])
unfolding bytes all_hex is_hex
hex_digits = (refl, refl)

-- what is no hex digit is worth nothing: `digit` has no range that `is_hex` lacks
pub no_worth : (c : ℕ) → is_hex c ≡ false → digit c ≡ 0
unfolding is_hex digit
no_worth c = go (from_to "0" "9" c) (from_to "a" "f" c) (from_to "A" "F" c) _ _ _
  where
    go : (decimal small capital : Bool) (k m n : ℕ) → (decimal || small || capital) ≡ false → cond decimal k (cond small m (cond capital n 0)) ≡ 0
    go false false false k m n e = refl
    go false false true k m n e = absurd (false≢true (sym e))
    go false true capital k m n e = absurd (false≢true (sym e))
    go true small capital k m n e = absurd (false≢true (sym e))

pub digit_lt : (c : ℕ) → digit c < 16
unfolding digit
digit_lt c =
    cond_cases Below (from_to "0" "9" c) _ _ (λ e. let h = within (code "0") (code "9") c e in omega arith)
    (λ _. cond_cases Below (from_to "a" "f" c) _ _ (λ e. let h = within (code "a") (code "f") c e in omega arith)
    (λ _. cond_cases Below (from_to "A" "F" c) _ 0 (λ e. let h = within (code "A") (code "F") c e in omega arith) (λ _. omega arith)))
  where
    Below : ℕ → Type 0
    Below x = x < 16

digits_regroup : (n x p v : ℕ) → (n * 16 + x) * p + v ≡ n * (p * 16) + ((0 * 16 + x) * p + v)
digits_regroup n x p v = rw (add-mul (n * 16) x p, mul_assoc n 16 p, mul_comm 16 p, zero-add x) (omega arith)

-- a number in front of the digits counts 16 for each digit
value_split : (n : ℕ) (ds : List ℕ) → value_after n ds ≡ n * 16 ^ length ds + value_after 0 ds
unfolding value_after
value_split n [] = omega arith
value_split n (d ∷ ds) =
    rw (value_split (n * 16 + digit d) ds, value_split (0 * 16 + digit d) ds, pow-suc 16 (length ds))
    (digits_regroup n (digit d) (16 ^ length ds) (value_after 0 ds))

value_lt : (ds : List ℕ) → value_after 0 ds < 16 ^ length ds
unfolding value_after
value_lt [] = omega arith
value_lt (d ∷ ds) =
    rw (value_split (0 * 16 + digit d) ds, zero-add (digit d), pow-suc 16 (length ds), mul_comm (16 ^ length ds) 16)
    (digits_lt (digit_lt d) (value_lt ds))

value_small : (ds : List ℕ) (k : ℕ) → length ds ≤ k → value_after 0 ds < 16 ^ k
value_small ds k h = lt_of_lt_of_le (value_lt ds) (pow-le-pow_right (lit< tt) h)

value_append : (n : ℕ) (ds es : List ℕ) → value_after n (ds ++ es) ≡ value_after (value_after n ds) es
unfolding value_after
value_append n [] es = refl
value_append n (d ∷ ds) es = value_append (n * 16 + digit d) ds es

-- digits cut in two: `back` of them stand behind the cut
value_cut : (ds : List ℕ) (i back : ℕ) → length ds ≡ i + back
    → (value_after 0 ds ≡ value_after 0 (take i ds) * 16 ^ back + value_after 0 (drop i ds)) × (value_after 0 (drop i ds) < 16 ^ back)
value_cut ds i back e =
    let rest : length (drop i ds) ≡ back = simp length-drop (omega arith) in
    let all : value_after 0 ds ≡ value_after 0 (take i ds ++ drop i ds) = rw take-append-drop in
    (all ∙ value_append 0 (take i ds) (drop i ds) ∙ value_split (value_after 0 (take i ds)) (drop i ds) ∙ rw rest, value_small (drop i ds) back (omega arith))

-- one digit more
pub value_step : (ds : List ℕ) (i n : ℕ) → i < length ds → value_after (n * 16 + digit (get_or ds i 0)) (drop (i + 1) ds) ≡ value_after n (drop i ds)
unfolding value_after
value_step ds i n h = rw (add-one, drop-cons ds i 0)

pub value_end : (ds : List ℕ) (i n : ℕ) → length ds ≤ i → value_after n (drop i ds) ≡ n
unfolding value_after
value_end ds i n h = rw (drop_of_length-le ds h)

pub step_lt : (n i c : ℕ) → n < 16 ^ i → n * 16 + digit c < 16 ^ (i + 1)
step_lt n i c h = rw (pow-add 16 i 1) (digits_lt h (digit_lt c))

-- before its last digit a quarter is less than 16 ^ 15
pub room : (n i size : ℕ) → n < 16 ^ i → i < size → size ≤ 16 → n < 16 ^ 15
room n i size h p q = lt_of_lt_of_le h (pow-le-pow_right (lit< tt) {j = 15} (omega arith))

-- what stands before the last digits is the quotient, and they are the remainder; where there are fewer, nothing stands before them
value_parts : (ds : List ℕ) (back : ℕ)
    → (value_after 0 (take (length ds - back) ds) ≡ value_after 0 ds / 16 ^ back) × (value_after 0 (drop (length ds - back) ds) ≡ value_after 0 ds % 16 ^ back)
unfolding value_after
value_parts ds back =
    either back (length ds)
    (λ h.
    let cut = value_cut ds (length ds - back) back (omega arith) in
    let high = value_after 0 (take (length ds - back) ds) in
    (rw cut.0 (sym (digits_div high cut.1)), rw cut.0 (sym (digits_mod high cut.1))))
    (λ h.
    let none : length ds - back ≡ 0 = omega arith in
    let small = value_small ds back (omega arith) in
    rw none (sym (div-eq_of_lt small), sym (mod-eq_of_lt small)))

-- where the code cuts: counted from the end, and no further than to the first digit
place : (n back : ℕ) → 2 ≤ n → min n (max 2 (n - back)) ≡ 2 + (n - 2 - back)
place n back h = omega arith

place_short : (n back : ℕ) → n < 2 → min n (max 2 (n - back)) ≡ n
place_short n back h = omega arith

no_digits : (n back : ℕ) → n < 2 → n - 2 - back ≡ 0
no_digits n back h = omega arith

behind_two : (l : ℕ) → 2 + l - 2 - 16 ≡ l - 16
behind_two l = omega arith

front_length : (ds : List ℕ) (back : ℕ) → length (take (length ds - back) ds) ≡ length ds - back
front_length ds back = simp length-take (omega arith)

-- the bytes between two cuts
between_cuts : (text : List ℕ) (e a k l : ℕ) → e ≡ 2 + l → a ≡ 2 + k → take (e - a) (drop a text) ≡ drop k (take l (drop 2 text))
between_cuts text e a k l p q =
    let size : e - a ≡ l - k = omega arith in
    rw (size, q, drop_take k l (drop 2 text), drop-drop k 2 text)

-- the bytes that the code takes for a quarter
quarter_part : (text : List ℕ) (back e a : ℕ) → e ≡ min (length text) (max 2 (length text - back)) → a ≡ min e (max 2 (e - 16))
    → take (e - a) (drop a text) ≡ drop (length (drop 2 text) - back - 16) (take (length (drop 2 text) - back) (drop 2 text))
quarter_part text back e a he ha =
    rw (length-drop 2 text)
    (either 2 (length text)
    (λ h.
    let p = he ∙ place (length text) back h in
    let q = ha ∙ place e 16 (omega (arith, p)) in
    between_cuts text e a (length text - 2 - back - 16) (length text - 2 - back) p
    (q ∙ rw p (ap (λ (l : ℕ). 2 + l) (behind_two (length text - 2 - back)))))
    (λ h.
    let p = he ∙ place_short (length text) back h in
    let q = ha ∙ place_short e 16 (omega (arith, p)) in
    rw (q, sub_self e, no_digits (length text) back h) (sym (drop-nil (0 - 16)))))

-- their value
pub quarter_value : (text : List ℕ) (back e a : ℕ) → e ≡ min (length text) (max 2 (length text - back)) → a ≡ min e (max 2 (e - 16))
    → value_after 0 (take (e - a) (drop a text)) ≡ value_after 0 (drop 2 text) / 16 ^ back % 2 ^ 64
quarter_value text back e a he ha =
    let digits : List ℕ = drop 2 text in
    let front : List ℕ = take (length digits - back) digits in
    ap (value_after 0) (quarter_part text back e a he ha)
    ∙ (rw (front_length digits back) at (value_parts front 16).1)
    ∙ ap (λ (v : ℕ). v % 16 ^ 16) (value_parts digits back).0

-- ---- a value by its quarters

mod_bytes : (v j k : ℕ) → v % 256 ^ (j + k) ≡ (v / 256 ^ k % 256 ^ j) * 256 ^ k + v % 256 ^ k
mod_bytes v j k = rw (pow-add 256 j k) (mod-mul v (pos j) (pos k))

-- a quarter that is not zero has the highest significant byte, and every byte behind it is significant
pub quarter_some : (v k q : ℕ) → k ≤ 24 → q ≡ v / 256 ^ k % 256 ^ 8 → (q ≡ 0 → ⊥) → significant q + k ≡ significant (v % 256 ^ (8 + k))
quarter_some v k q h e p =
    let below : q < 256 ^ 8 = rw e (mod-lt (v / 256 ^ k) (pos 8)) in
    sym (rw (mod_bytes v 8 k, ← e) (significant_more q k (v % 256 ^ k) (omega arith) below h (mod-lt v (pos k))))

-- a quarter of zero counts for nothing
pub quarter_none : (v k q : ℕ) → q ≡ v / 256 ^ k % 256 ^ 8 → q ≡ 0 → v % 256 ^ (8 + k) ≡ v % 256 ^ k
quarter_none v k q e z = rw (mod_bytes v 8 k, ← e, z, zero-mul, zero-add)

-- two digits are a byte
square_power : (n : ℕ) → 16 ^ (2 * n) ≡ 256 ^ n
square_power zero = refl
square_power (suc n) = rw (mul-suc 2 n, pow-add 16 (2 * n) 2, square_power n, pow-suc 256 n)

-- the quarters above number i are zero
abbrev pub NoneAbove : ℕ → ℕ → Type 0
NoneAbove v i = v % 2 ^ 256 ≡ v % 256 ^ (8 * i)

module _ (v i q : ℕ) (some : 1 ≤ i) (above : NoneAbove v i) (is : q ≡ v / 16 ^ (16 * (i - 1)) % 2 ^ 64) where
  in_bytes : q ≡ v / 256 ^ (8 * (i - 1)) % 256 ^ 8
  in_bytes = let two : 16 * (i - 1) ≡ 2 * (8 * (i - 1)) = omega arith in rw (two, square_power (8 * (i - 1))) at is

  next : 8 + 8 * (i - 1) ≡ 8 * i
  next = omega arith

  -- the first that is not zero, from the highest
  pub quarter_found : i ≤ 4 → (q ≡ 0 → ⊥) → significant q + 8 * (i - 1) ≡ significant (v % 2 ^ 256)
  quarter_found few p = rw next at (quarter_some v (8 * (i - 1)) q (omega arith) in_bytes p) ∙ ap significant (sym above)

  pub quarter_passed : q ≡ 0 → NoneAbove v (i - 1)
  quarter_passed z = above ∙ rw next at (quarter_none v (8 * (i - 1)) q in_bytes z)

-- zero exactly if a quarter and all behind it are
quarter_zero : (v k : ℕ) → eqb (v % 256 ^ (8 + k)) 0 ≡ (eqb (v % 256 ^ k) 0 && eqb (v / 256 ^ k % 256 ^ 8) 0)
quarter_zero v k = rw (mod_bytes v 8 k) (go (v / 256 ^ k % 256 ^ 8) (256 ^ k) (v % 256 ^ k) (pos k))
  where
    go : (q b r : ℕ) → 0 < b → eqb (q * b + r) 0 ≡ (eqb r 0 && eqb q 0)
    go zero b zero p = rw zero-mul
    go (suc q) b zero p =
        let one : 1 ≤ suc q = omega arith in
        let some = mul-le-mul_right b one in
        ne_eqb (suc q * b + 0) 0 (λ z. omega arith) ∙ sym (ne_eqb (suc q) 0 (λ z. omega arith))
    go q b (suc r) p = ne_eqb (q * b + suc r) 0 (λ z. omega arith) ∙ rw (ne_eqb (suc r) 0 (λ z. omega arith))

-- so, if all four are
pub quarters_zero : (v : ℕ) → list_all (λ i. eqb (v / 16 ^ (16 * i) % 2 ^ 64) 0) (0 ∷ 1 ∷ 2 ∷ 3 ∷ []) ≡ eqb (v % 2 ^ 256) 0
quarters_zero v =
    four (eqb (v / 256 ^ 0 % 256 ^ 8) 0) (eqb (v / 256 ^ 8 % 256 ^ 8) 0) (eqb (v / 256 ^ 16 % 256 ^ 8) 0) (eqb (v / 256 ^ 24 % 256 ^ 8) 0)
    ∙ sym (quarter_zero v 24 ∙ rw (quarter_zero v 16, quarter_zero v 8, div-one))
  where
    four : (a b c d : Bool) → (a && (b && (c && (d && true)))) ≡ (a && b && c && d)
    four a b c d = rw (and-true, and_assoc, and_assoc)

-- ---- literals

literal_length : (text : List ℕ) → is_literal text ≡ true → length text ≤ 66
unfolding is_literal
literal_length text e =
    let formed = ((and-eq-true_iff (same (take 2 text) (bytes "0x") && between 3 66 (length text)) (all_hex (drop 2 text))).0 e).0 in
    let sized = ((and-eq-true_iff (same (take 2 text) (bytes "0x")) (between 3 66 (length text))).0 formed).1 in
    (within 3 66 (length text) sized).1

-- 64 digits are never cut
pub value_uncut : (text : List ℕ) → length text ≤ 66 → literal_value text ≡ value_after 0 (drop 2 text)
unfolding literal_value
value_uncut text short = mod-eq_of_lt (value_small (drop 2 text) 64 (simp length-drop (omega arith)))

-- the digits of a short text, as the code takes them
pub short_value : (text : List ℕ) → length text ≤ 18 → value_after 0 (behind_0x text) ≡ literal_value text
short_value text short = ap (value_after 0) (rest_is text 2) ∙ sym (value_uncut text (omega arith))

pub literal_value_whole : (text : List ℕ) → is_literal text ≡ true → literal_value text ≡ value_after 0 (drop 2 text)
literal_value_whole text e = value_uncut text (literal_length text e)

pub literal_value_lt : (text : List ℕ) → literal_value text < 2 ^ 256
unfolding literal_value
literal_value_lt text = mod-lt (value_after 0 (drop 2 text)) (lit< tt)

-- ---- value pushes

-- the Yellow Paper's bytes are the value pushes
pub yellow_paper : (n : ℕ) → 1 ≤ n → n ≤ 32 → (is_value_push (push_byte n) ≡ true) × (push_size (push_byte n) ≡ n)
unfolding is_value_push push_size
yellow_paper n h k = (inside 0x60 0x7f (0x60 + (n - 1)) (omega arith) (omega arith), omega arith)

-- and no other byte is one
pub yellow_paper_only : (byte : ℕ) → is_value_push byte ≡ true → (1 ≤ push_size byte) × (push_size byte ≤ 32) × (push_byte (push_size byte) ≡ byte)
unfolding is_value_push push_size
yellow_paper_only byte e = let h = within 0x60 0x7f byte e in omega arith

-- a literal fits a value push of n bytes exactly if its value is less than 256 ^ n
pub fits_value : (byte : ℕ) (text : List ℕ) → is_value_push byte ≡ true → (fits byte text ≡ true) ↔ (literal_value text < 256 ^ push_size byte)
unfolding fits
fits_value byte text e =
    let v : ℕ = literal_value text in (
      λ f. lt_of_lt_of_le (significant_holds v (literal_value_lt text)) (mono (leb-true (significant v) (push_size byte) f)),
      λ h. le-leb (significant v) (push_size byte) (significant_least v (push_size byte) (yellow_paper_only byte e).0 h),
    )

-- where no byte is taken nothing fits
pub nothing_fits : (byte : ℕ) (text : List ℕ) → push_size byte ≡ 0 → fits byte text ≡ false
unfolding fits
nothing_fits byte text e = rw e (lt-leb (significant (literal_value text)) 0 (significant_between (literal_value text)).0)

-- two digits for each byte that a push takes always fit
pub few_digits_fit : (byte : ℕ) (text : List ℕ) → 1 ≤ push_size byte → length text ≤ 2 * push_size byte + 2 → fits byte text ≡ true
unfolding fits literal_value
few_digits_fit byte text some few =
    let n : ℕ = push_size byte in
    let small : value_after 0 (drop 2 text) < 16 ^ (2 * n) = value_small (drop 2 text) (2 * n) (simp length-drop (omega arith)) in
    let below : literal_value text < 256 ^ n = lt_of_le_of_lt (mod-le (value_after 0 (drop 2 text)) (2 ^ 256)) (rw (square_power n) at small) in
    le-leb (significant (literal_value text)) n (significant_least (literal_value text) n some below)
