-- Laws of names: equality byte for byte, decimal numbers, and the list of type names. Assumes nothing.
use Prim.Native.Nat.{ℕ, zero, suc, ◌*◌, ◌/◌, ◌%◌, ◌≤◌, ◌<◌}
use mathlib.Core.Path.{◌≡◌, refl, sym, ap, subst, ◌∙◌}
use mathlib.Core.Bool.{Bool, true, false, cond, not}
use mathlib.Core.List.{List, [], ◌∷◌, ◌++◌}
use mathlib.Core.Logic.{◌↔◌, ◌≢◌, ⊎_elim}
use native.Mathlib.Omega.{arith}
use native.Mathlib.Nat.{mul-pos, mul-le-mul_right, div-mul-le_self, div-add-mod', le-div_iff_mul-le, mul-mod_left}
use borrow.Author.Tests.{lt-ltb, le-ltb}
use lib.Dec.{eqb}
use lib.ListN.{length, get_or}
use Rattle.std.specs.Prelude.{Option, Some, None, MatchOption, option_map, unwrap_or, is_some}
use Rattle.std.specs.Cmp.Lexicographic.{pointwise}
use Rattle.std.proofs.lemmas.List.{append_cancel_left}
use Rattle.std.proofs.lemmas.Slice.Eq.{bytes_eq-Decides}
use Rattle.tokens.proofs.Laws.{lt_or_le}
use Rattle.tokens.specs.Byte.{bytes, same, numeral}
use Rattle.tokens.specs.Number.{InvalidTypeAsArgumentName, type_none, type_uint, type_int, type_bytes_n, widest_bits, bits_step, widest_bytes}
use Rattle.tokens.specs.Name.{ListedType, decimal, multiples, sized, bare_types, uint_types, int_types, bytes_types, type_names, look_up, type_of, type_numbers}
use Rattle.tokens.specs.declared.name.NameType.{NameType}
use Rattle.tokens.specs.declared.name.NameType.TheVariants as types
use Rattle.tokens.specs.declared.refusal.Wrong.{Wrong}
use Rattle.tokens.specs.declared.refusal.Wrong.TheVariants as wrong
use Rattle.tokens.specs.Refusal.{wrong_number}

-- ---- equality byte for byte

-- it is the library's
pub same_is : (a b : List ℕ) → pointwise eqb a b ≡ same a b
unfolding same
same_is [] [] = refl
same_is [] (b ∷ bs) = refl
same_is (a ∷ ps) [] = refl
same_is (a ∷ ps) (b ∷ bs) = rw (same_is ps bs)

-- equality of names is equality of byte lists
pub same_equal : (a b : List ℕ) → (same a b ≡ true) ↔ (a ≡ b)
same_equal a b = (λ e. (bytes_eq-Decides a b).0 (same_is a b ∙ e), λ e. sym (same_is a b) ∙ (bytes_eq-Decides a b).1 e)

differ : (a b : List ℕ) → a ≢ b → same a b ≡ false
differ a b h = go (same a b) (same_equal a b).0
  where
    go : (t : Bool) → (t ≡ true → a ≡ b) → t ≡ false
    go true f = absurd (h (f refl))
    go false f = refl

pub same_lengths : (a b : List ℕ) → (length a ≡ length b → ⊥) → same a b ≡ false
same_lengths a b h = differ a b (λ e. h (ap length e))

-- ---- decimal numbers

-- a number below 1000 in three digits
abbrev pub digits : ℕ → List ℕ
digits m = numeral (m / 100) ∷ numeral (m / 10 % 10) ∷ numeral (m % 10) ∷ []

-- digits brought to three by zeros in front
pad : List ℕ → List ℕ
pad [] = []
pad (o ∷ []) = numeral 0 ∷ numeral 0 ∷ o ∷ []
pad (t ∷ o ∷ []) = numeral 0 ∷ t ∷ o ∷ []
pad (h ∷ t ∷ o ∷ rest) = h ∷ t ∷ o ∷ rest

-- the least number that has as many digits
least : List ℕ → ℕ
least [] = 0
least (o ∷ []) = 1
least (t ∷ o ∷ []) = 10
least (h ∷ t ∷ o ∷ rest) = 100

-- how a decimal number lies to its three digits: they are its own with zeros in front, and it has no zero in front itself
record Padded (m : ℕ) (part : List ℕ) : Type 0 where
  same_digits : digits m ≡ pad part
  no_zero : least part ≤ m
  some_digit : 0 < length part
  at_most_three : length part ≤ 3

decimal_padded : (m : ℕ) → 0 < m → m < 1000 → Padded m (decimal m)
unfolding decimal pad least
decimal_padded m p q = ⊎_elim small (λ h. ⊎_elim (middle h) large (lt_or_le m 100)) (lt_or_le m 10)
  where
    small : m < 10 → Padded m (decimal m)
    small h =
        let x : m / 100 ≡ 0 = omega arith in
        let y : m / 10 % 10 ≡ 0 = omega arith in
        let z : m % 10 ≡ m = omega arith in
        rw (lt-ltb m 10 h) record { same_digits = rw (x, y, z); no_zero = p; some_digit = omega arith; at_most_three = omega arith }

    middle : 10 ≤ m → m < 100 → Padded m (decimal m)
    middle g h =
        let x : m / 100 ≡ 0 = omega arith in
        let y : m / 10 % 10 ≡ m / 10 = omega arith in
        rw (le-ltb m 10 g, lt-ltb m 100 h) record { same_digits = rw (x, y); no_zero = g; some_digit = omega arith; at_most_three = omega arith }

    large : 100 ≤ m → Padded m (decimal m)
    large g =
        let k : 10 ≤ m = omega arith in
        rw (le-ltb m 10 k, le-ltb m 100 g) record { same_digits = refl; no_zero = g; some_digit = omega arith; at_most_three = omega arith }

padded_decimal : (m : ℕ) (part : List ℕ) → m < 1000 → Padded m part → decimal m ≡ part
unfolding decimal pad least
padded_decimal m [] q d = absurd (omega (arith, d.some_digit))
padded_decimal m (o ∷ []) q d =
    let e = d.same_digits in
    let x : numeral (m / 100) ≡ numeral 0 = cc in
    let y : numeral (m / 10 % 10) ≡ numeral 0 = cc in
    let z : numeral (m % 10) ≡ o = cc in
    let h : m < 10 = omega arith in
    let k : numeral m ≡ o = omega arith in
    rw (lt-ltb m 10 h, k)
padded_decimal m (t ∷ o ∷ []) q d =
    let e = d.same_digits in
    let g = d.no_zero in
    let x : numeral (m / 100) ≡ numeral 0 = cc in
    let y : numeral (m / 10 % 10) ≡ t = cc in
    let z : numeral (m % 10) ≡ o = cc in
    let h : m < 100 = omega arith in
    let k : numeral (m / 10) ≡ t = omega arith in
    rw (le-ltb m 10 g, lt-ltb m 100 h, k, z)
padded_decimal m (h ∷ t ∷ o ∷ []) q d =
    let g = d.no_zero in
    let k : 10 ≤ m = omega arith in
    rw (le-ltb m 10 k, le-ltb m 100 g) d.same_digits
padded_decimal m (h ∷ t ∷ o ∷ x ∷ rest) q d = absurd (omega (arith, d.at_most_three))

-- three bytes write the number r, at least a bound, or no number
abbrev pub Number : List ℕ → ℕ → Option ℕ → Type 0
Number three bound r = MatchOption r ((m : ℕ) → m < 1000 → bound ≤ m → digits m ≢ three) (λ m. (m < 1000) × (bound ≤ m) × (digits m ≡ three))

-- the part writes the number r from 1 to 999 in decimal, or none
abbrev pub Decimal : List ℕ → Option ℕ → Type 0
Decimal part r = MatchOption r ((m : ℕ) → 0 < m → m < 1000 → decimal m ≢ part) (λ m. (0 < m) × (m < 1000) × (decimal m ≡ part))

some_digits : (part : List ℕ) → 0 < length part → 0 < least part
unfolding least
some_digits [] h = absurd (omega arith)
some_digits (o ∷ []) h = omega arith
some_digits (t ∷ o ∷ []) h = omega arith
some_digits (h ∷ t ∷ o ∷ rest) k = omega arith

decimal_reads : (part : List ℕ) (r : Option ℕ) → 0 < length part → length part ≤ 3 → Number (pad part) (least part) r → Decimal part r
decimal_reads part None u v none = λ m p q e. let d = subst (Padded m) e (decimal_padded m p q) in none m q d.no_zero d.same_digits
decimal_reads part (Some m) u v n =
    (omega (arith, n.1, some_digits part u), n.0, padded_decimal m part n.0 record { same_digits = n.2; no_zero = n.1; some_digit = u; at_most_three = v })

pub reads_one : (part : List ℕ) (r : Option ℕ) → length part ≡ 1 → Number (numeral 0 ∷ numeral 0 ∷ get_or part 0 0 ∷ []) 1 r → Decimal part r
unfolding pad least
reads_one [] r e n = absurd (omega arith)
reads_one (o ∷ []) r e n = decimal_reads (o ∷ []) r (omega arith) (omega arith) n
reads_one (o ∷ x ∷ rest) r e n = absurd (omega arith)

pub reads_two : (part : List ℕ) (r : Option ℕ) → length part ≡ 2 → Number (numeral 0 ∷ get_or part 0 0 ∷ get_or part 1 0 ∷ []) 10 r → Decimal part r
unfolding pad least
reads_two [] r e n = absurd (omega arith)
reads_two (o ∷ []) r e n = absurd (omega arith)
reads_two (t ∷ o ∷ []) r e n = decimal_reads (t ∷ o ∷ []) r (omega arith) (omega arith) n
reads_two (t ∷ o ∷ x ∷ rest) r e n = absurd (omega arith)

pub reads_three : (part : List ℕ) (r : Option ℕ) → length part ≡ 3 → Number (get_or part 0 0 ∷ get_or part 1 0 ∷ get_or part 2 0 ∷ []) 100 r → Decimal part r
unfolding pad least
reads_three [] r e n = absurd (omega arith)
reads_three (o ∷ []) r e n = absurd (omega arith)
reads_three (t ∷ o ∷ []) r e n = absurd (omega arith)
reads_three (h ∷ t ∷ o ∷ []) r e n = decimal_reads (h ∷ t ∷ o ∷ []) r (omega arith) (omega arith) n
reads_three (h ∷ t ∷ o ∷ x ∷ rest) r e n = absurd (omega arith)

pub reads_none : (part : List ℕ) → (0 < length part → length part ≤ 3 → ⊥) → Decimal part None
reads_none part h m p q e = let d = subst (Padded m) e (decimal_padded m p q) in h d.some_digit d.at_most_three

-- no two numbers are written alike
decimal_one : (a b : ℕ) → 0 < a → a < 1000 → 0 < b → b < 1000 → decimal a ≡ decimal b → a ≡ b
decimal_one a b p q r s e =
    let alike : digits a ≡ digits b = (decimal_padded a p q).same_digits ∙ ap pad e ∙ sym (decimal_padded b r s).same_digits in
    let x : numeral (a / 100) ≡ numeral (b / 100) = cc in
    let y : numeral (a / 10 % 10) ≡ numeral (b / 10 % 10) = cc in
    let z : numeral (a % 10) ≡ numeral (b % 10) = cc in
    omega arith

-- ---- sizes in steps

-- what the list of a prefix with these sizes gives a name: its type and the size r
abbrev pub SizeIn : List ℕ → List ℕ → List ℕ → Option ℕ → Type 0
SizeIn prefix sizes name r = (t : ℕ) → look_up (sized prefix t sizes) name ≡ unwrap_or (option_map (λ m. (t, m)) r) (0, 0)

module _ (prefix name : List ℕ) (step : ℕ) (pos : 0 < step) where
  sized_none : (n : ℕ) → ((k : ℕ) → 0 < k → k ≤ n → prefix ++ decimal (k * step) ≢ name) → SizeIn prefix (multiples step n) name None
  unfolding look_up sized multiples
  sized_none zero none t = refl
  sized_none (suc n) none t = rw (differ _ _ (none (suc n) (omega arith) (omega arith))) (sized_none n (λ k a b. none k a (omega arith)) t)

  module _ (most : ℕ) (small : most < 1000) where
    -- a size of the list is one from 1 to 999
    size_fits : (k : ℕ) → 0 < k → k ≤ most / step → (0 < k * step) × (k * step ≤ most)
    size_fits k a b = (mul-pos a pos, omega (arith, div-mul-le_self most step, mul-le-mul_right step b))

    -- no number stands behind the prefix
    pub sized_other : ((m : ℕ) → 0 < m → m < 1000 → prefix ++ decimal m ≢ name) → SizeIn prefix (multiples step (most / step)) name None
    sized_other none = sized_none (most / step) (λ k a b. let f = size_fits k a b in none (k * step) f.0 (omega (arith, f.1)))

    -- the number m does
    module _ (m : ℕ) (some : 0 < m) (few : m < 1000) (is : prefix ++ decimal m ≡ name) where
      only_m : (k : ℕ) → 0 < k → k < 1000 → prefix ++ decimal k ≡ name → k ≡ m
      only_m k a b e = decimal_one k m a b some few (append_cancel_left prefix (decimal k) (decimal m) (e ∙ sym is))

      pub sized_large : most < m → SizeIn prefix (multiples step (most / step)) name None
      sized_large h =
          sized_none (most / step)
          (λ k a b e. let f = size_fits k a b in omega (arith, f.1, only_m (k * step) f.0 (omega (arith, f.1)) e))

      pub sized_between : m % step ≢ 0 → SizeIn prefix (multiples step (most / step)) name None
      sized_between h =
          sized_none (most / step)
          (λ k a b e. let f = size_fits k a b in h (rw (← only_m (k * step) f.0 (omega (arith, f.1)) e) (mul-mod_left k step)))

      sized_some : (n k : ℕ) → n ≤ most / step → 0 < k → k ≤ n → k * step ≡ m → SizeIn prefix (multiples step n) name (Some m)
      unfolding look_up sized multiples
      sized_some zero k h a b e t = absurd (omega arith)
      sized_some (suc n) k h a b e t =
          ⊎_elim
          (λ (x : k < suc n).
          let f = size_fits (suc n) (omega arith) h in
          let other : prefix ++ decimal (suc n * step) ≢ name = λ y. omega (arith, only_m (suc n * step) f.0 (omega (arith, f.1)) y, mul-le-mul_right step x) in
          rw (differ _ _ other) (sized_some n k (omega arith) a (omega arith) e t))
          (λ (x : suc n ≤ k).
          let y : k ≡ suc n = omega arith in
          let z : suc n * step ≡ m = rw y at e in
          rw (z, (same_equal (prefix ++ decimal m) name).1 is))
          (lt_or_le k (suc n))

      pub sized_within : m ≤ most → m % step ≡ 0 → SizeIn prefix (multiples step (most / step)) name (Some m)
      sized_within h z =
          let x : m / step * step ≡ m = omega (arith, div-add-mod' m step) in
          let y : m / step ≤ most / step = (le-div_iff_mul-le pos).1 (omega arith) in
          let w : 0 < m / step = pos_of_mul (m / step) x in
          sized_some (most / step) (m / step) (omega arith) w y x
        where
          pos_of_mul : (k : ℕ) → k * step ≡ m → 0 < k
          pos_of_mul zero e = absurd (omega arith)
          pos_of_mul (suc k) e = omega arith

-- ---- the list of type names

-- no type of the list is 0
abbrev pub Typed : List ListedType → Type 0
Typed [] = Unit {0}
Typed (n ∷ ns) = (eqb n.1 type_none ≡ false) × Typed ns

sized_typed : (prefix : List ℕ) (t : ℕ) (sizes : List ℕ) → eqb t type_none ≡ false → Typed (sized prefix t sizes)
unfolding sized
sized_typed prefix t [] e = tt
sized_typed prefix t (m ∷ sizes) e = (e, sized_typed prefix t sizes e)

bare_typed : Typed bare_types
unfolding bare_types
bare_typed = (refl, (refl, (refl, (refl, (refl, (refl, tt))))))

uint_typed : Typed uint_types
uint_typed = sized_typed (bytes "uint") type_uint (multiples bits_step (widest_bits / bits_step)) refl

int_typed : Typed int_types
int_typed = sized_typed (bytes "int") type_int (multiples bits_step (widest_bits / bits_step)) refl

typed_append : (ns ms : List ListedType) → Typed ns → Typed ms → Typed (ns ++ ms)
typed_append [] ms h k = k
typed_append (n ∷ ns) ms h k = (h.0, typed_append ns ms h.1 k)

pub names_typed : Typed type_names
unfolding type_names
names_typed =
    typed_append bare_types (uint_types ++ (int_types ++ bytes_types)) bare_typed
    (typed_append uint_types (int_types ++ bytes_types) uint_typed
    (typed_append int_types bytes_types int_typed (sized_typed (bytes "bytes") type_bytes_n (multiples 1 widest_bytes) refl)))

-- a name that one list has not is looked up in the next
look_on : (ns ms : List ListedType) (name : List ℕ) → Typed ns → look_up (ns ++ ms) name ≡ cond (eqb (look_up ns name).0 type_none) (look_up ms name) (look_up ns name)
unfolding look_up
look_on [] ms name h = refl
look_on (n ∷ ns) ms name h = go (same n.0 name) (look_on ns ms name h.1)
  where
    go : (b : Bool) → look_up (ns ++ ms) name ≡ cond (eqb (look_up ns name).0 type_none) (look_up ms name) (look_up ns name)
        → cond b (n.1, n.2) (look_up (ns ++ ms) name)
        ≡ cond (eqb (cond b (n.1, n.2) (look_up ns name)).0 type_none) (look_up ms name) (cond b (n.1, n.2) (look_up ns name))
    go true below = rw h.0
    go false below = below

look_four : (a b c d : List ListedType) (name : List ℕ) → Typed a → Typed b → Typed c → look_up (a ++ (b ++ (c ++ d))) name
    ≡ cond (eqb (look_up a name).0 type_none)
    (cond (eqb (look_up b name).0 type_none) (cond (eqb (look_up c name).0 type_none) (look_up d name) (look_up c name)) (look_up b name))
    (look_up a name)
look_four a b c d name first second third = rw (look_on a (b ++ (c ++ d)) name first, look_on b (c ++ d) name second, look_on c d name third)

-- the four parts of the list, in its order
type_parts : (name : List ℕ) → type_of name
    ≡ cond (eqb (look_up bare_types name).0 type_none)
    (cond (eqb (look_up uint_types name).0 type_none) (cond (eqb (look_up int_types name).0 type_none) (look_up bytes_types name) (look_up int_types name)) (look_up uint_types name))
    (look_up bare_types name)
unfolding type_of type_names
type_parts name = look_four bare_types uint_types int_types bytes_types name bare_typed uint_typed int_typed

-- a type that is told has a number
some_type : (t : NameType) → eqb (type_numbers (Some t)).0 type_none ≡ false
some_type types.Address = refl
some_type types.Bool = refl
some_type types.String = refl
some_type types.Bytes = refl
some_type (types.Uint bits) = refl
some_type (types.Int bits) = refl
some_type (types.BytesN count) = refl

pub told_some : (o : Option NameType) → is_some o ≡ not (eqb (type_numbers o).0 type_none)
told_some None = refl
told_some (Some t) = sym (ap not (some_type t))

-- what the parts that were looked through answered, and the type by it
module _ (name : List ℕ) where
  pub type_bare : (t : NameType) → type_numbers (Some t) ≡ look_up bare_types name → type_numbers (Some t) ≡ type_of name
  type_bare t e = rw (type_parts, sym e, some_type t)

  module _ (no-bare : type_numbers None ≡ look_up bare_types name) where
    pub type_uint_lem : (m : ℕ) → SizeIn (bytes "uint") (multiples bits_step (widest_bits / bits_step)) name (Some m) → ◌≡◌ {A = ℕ × ℕ} (type_uint, m) (type_of name)
    type_uint_lem m uint = rw (type_parts, sym no-bare, uint type_uint)

    module _ (no-uint : SizeIn (bytes "uint") (multiples bits_step (widest_bits / bits_step)) name None) where
      pub type_int_lem : (m : ℕ) → SizeIn (bytes "int") (multiples bits_step (widest_bits / bits_step)) name (Some m) → ◌≡◌ {A = ℕ × ℕ} (type_int, m) (type_of name)
      type_int_lem m int = rw (type_parts, sym no-bare, no-uint type_uint, int type_int)

      module _ (no-int : SizeIn (bytes "int") (multiples bits_step (widest_bits / bits_step)) name None) where
        past_int : type_of name ≡ look_up bytes_types name
        past_int = rw (type_parts, sym no-bare, no-uint type_uint, no-int type_int)

        pub type_bytes_lem : (m : ℕ) → SizeIn (bytes "bytes") (multiples 1 widest_bytes) name (Some m) → ◌≡◌ {A = ℕ × ℕ} (type_bytes_n, m) (type_of name)
        type_bytes_lem m sized-bytes = sym (past_int ∙ sized-bytes type_bytes_n)

        pub type_none_lem : SizeIn (bytes "bytes") (multiples 1 widest_bytes) name None → ◌≡◌ {A = ℕ × ℕ} (type_none, 0) (type_of name)
        type_none_lem no-bytes = sym (past_int ∙ no-bytes type_bytes_n)
