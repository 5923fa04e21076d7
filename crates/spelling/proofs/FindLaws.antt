-- The look-up is right: a computed test over the names, one over the slots, and what follows from them for every word. Assumes nothing.
use Prim.Native.Nat.{ℕ, zero, suc, ◌+◌, ◌≤◌, ◌<◌}
use mathlib.Core.Path.{◌≡◌, refl, sym, ap, ◌∙◌}
use mathlib.Core.Bool.{Bool, true, false, cond, ◌&&◌, false≢true}
use mathlib.Core.List.{List, [], ◌∷◌}
use mathlib.Core.Logic.{◌⊎◌, inl, inr, ⊎_elim}
use native.Mathlib.Omega.{arith}
use borrow.Author.Tests.{eqb-true, ltb-true, leb-true, lt-ltb, le-ltb}
use lib.Dec.{eqb, ltb, leb}
use lib.ListN.{length, get_or}
use Rattle.tokens.specs.Byte.{same}
use Rattle.tokens.specs.Kind.{PrimitiveType, Ident}
use Rattle.tokens.proofs.Laws.{and_left, and_right, lt_or_le}
use Rattle.tokens.proofs.NameLaws.{same_equal}
use Rattle.tokens.specs.Name.{reserved}
use Rattle.spelling.specs.Spelling.{Spelt, spelt, mnemonics, keywords, value_of, no_opcode, opcode_of, kind_outside}
use Rattle.spelling.specs.Slots.{slots, records_from, keywords_from, table_length, shortest, longest, mix_of, slot_in, start_in, name_in, behind, place_of, every, spellings}

pub table_long : length spellings ≡ table_length
unfolding spellings
table_long = refl

-- the place of a word's record
abbrev pub place : List ℕ → ℕ
place w = place_of every records_from w

-- ---- tests

-- all of these tests pass
all : List Bool → Bool
all [] = true
all (t ∷ ts) = t && all ts

-- so each of them does; behind the last there is none to fail
each : (ts : List Bool) → all ts ≡ true → (i : ℕ) → get_or ts i true ≡ true
unfolding all
each [] h i = refl
each (t ∷ ts) h zero = and_left t (all ts) h
each (t ∷ ts) h (suc i) = each ts (and_right t (all ts) h) i

-- ---- the names

-- a test passes at each of these names and the place of its record, the first one at p
passes : (ℕ → List ℕ → Bool) → ℕ → List Spelt → Bool
passes f p [] = true
passes f p (s ∷ ss) = f p s.name && passes f (behind p s) ss

-- so it passes at any word that has a place
passes_at : (f : ℕ → List ℕ → Bool) (ss : List Spelt) (p : ℕ) (w : List ℕ) → passes f p ss ≡ true → (place_of ss p w ≡ 0) ⊎ (f (place_of ss p w) w ≡ true)
unfolding passes place_of
passes_at f [] p w t = inl refl
passes_at f (s ∷ ss) p w t = go (same s.name w) refl (passes_at f ss (behind p s) w (and_right (f p s.name) _ t))
  where
    go : (b : Bool) → same s.name w ≡ b → (place_of ss (behind p s) w ≡ 0) ⊎ (f (place_of ss (behind p s) w) w ≡ true)
        → (cond b p (place_of ss (behind p s) w) ≡ 0) ⊎ (f (cond b p (place_of ss (behind p s) w)) w ≡ true)
    go true e below = inr (rw ((same_equal s.name w).0 e) at (and_left (f p s.name) _ t))
    go false e below = below

-- the kind of a word that is no keyword, by whether it is a type's name
abbrev pub unless : Bool → ℕ
unless b = cond b PrimitiveType Ident

-- a word's slot leads to p, where its record stands, as long as names are; and what it stands for
right : ℕ → List ℕ → Bool
right p w =
    all
    (eqb (start_in spellings (slot_in spellings w)) p
    ∷ same (name_in spellings p) w
    ∷ leb shortest (length w)
    ∷ leb (length w) longest
    ∷ eqb (value_of mnemonics no_opcode w) (cond (ltb p keywords_from) (get_or spellings (p + 1) 0) no_opcode)
    ∷ eqb (value_of keywords (unless true) w) (cond (ltb p keywords_from) (unless true) (get_or spellings (p + 1) 0))
    ∷ eqb (value_of keywords (unless false) w) (cond (ltb p keywords_from) (unless false) (get_or spellings (p + 1) 0))
    ∷ [])

all_right : passes right records_from every ≡ true
unfolding passes right all every value_of mnemonics keywords spelt same spellings mix_of slot_in start_in name_in
all_right = refl

record Right (p : ℕ) (w : List ℕ) : Type 0 where
  slot : start_in spellings (slot_in spellings w) ≡ p
  name : name_in spellings p ≡ w
  long : shortest ≤ length w
  short : length w ≤ longest
  opcode : value_of mnemonics no_opcode w ≡ cond (ltb p keywords_from) (get_or spellings (p + 1) 0) no_opcode
  keyword : (b : Bool) → value_of keywords (unless b) w ≡ cond (ltb p keywords_from) (unless b) (get_or spellings (p + 1) 0)

right_of : (p : ℕ) (w : List ℕ) → right p w ≡ true → Right p w
unfolding right
right_of p w h =
    let t = each _ h in
    record {
      slot = eqb-true _ _ (t 0);
      name = (same_equal _ _).0 (t 1);
      long = leb-true _ _ (t 2);
      short = leb-true _ _ (t 3);
      opcode = eqb-true _ _ (t 4);
      keyword = keyword_of (eqb-true _ _ (t 5)) (eqb-true _ _ (t 6));
    }
  where
    keyword_of : value_of keywords (unless true) w ≡ cond (ltb p keywords_from) (unless true) (get_or spellings (p + 1) 0)
        → value_of keywords (unless false) w ≡ cond (ltb p keywords_from) (unless false) (get_or spellings (p + 1) 0)
        → (b : Bool) → value_of keywords (unless b) w ≡ cond (ltb p keywords_from) (unless b) (get_or spellings (p + 1) 0)
    keyword_of y n true = y
    keyword_of y n false = n

placed : (w : List ℕ) → (place w ≡ 0) ⊎ Right (place w) w
placed w = ⊎_elim (λ (e : place w ≡ 0). inl e) (λ (h : right (place w) w ≡ true). inr (right_of (place w) w h)) (passes_at right every records_from w all_right)

-- a word has no place if it follows from `Right` that it has none
no_place : (w : List ℕ) → (Right (place w) w → ⊥) → place w ≡ 0
no_place w h = ⊎_elim (λ (e : place w ≡ 0). e) (λ (r : Right (place w) w). absurd (h r)) (placed w)

pub too_short : (w : List ℕ) → length w < shortest → place w ≡ 0
too_short w h = no_place w (λ r. let l = r.long in omega arith)

pub too_long : (w : List ℕ) → longest < length w → place w ≡ 0
too_long w h = no_place w (λ r. let l = r.short in omega arith)

-- ---- the slots

-- at p a record stands, its name's own, and ends inside the table
fine : ℕ → Bool
fine p = all (eqb (place (name_in spellings p)) p ∷ leb (p + 2 + get_or spellings p 0) table_length ∷ ltb 0 p ∷ [])

-- so for each of the first n slots
all_fine : ℕ → Bool
all_fine zero = true
all_fine (suc n) = fine (start_in spellings n) && all_fine n

all_fine_lem : all_fine slots ≡ true
unfolding all_fine fine all every place_of mnemonics keywords spelt same spellings start_in name_in
all_fine_lem = refl

fine_at : (n i : ℕ) → all_fine n ≡ true → i < n → fine (start_in spellings i) ≡ true
unfolding all_fine
fine_at zero i t h = absurd (omega arith)
fine_at (suc n) i t h =
    ⊎_elim (λ (l : i < n). fine_at n i (and_right (fine (start_in spellings n)) _ t) l)
    (λ (l : n ≤ i). let e : i ≡ n = omega arith in rw e (and_left (fine (start_in spellings n)) _ t))
    (lt_or_le i n)

-- what a look at the record that a word's slot leads to says
pub record Looked (w : List ℕ) (p : ℕ) : Type 0 where
  pub inside : p + 2 + get_or spellings p 0 ≤ table_length
  pub hit : same (name_in spellings p) w ≡ true → (0 < p) × (p + 1 < table_length) × (p ≡ place w)
  pub miss : same (name_in spellings p) w ≡ false → place w ≡ 0

pub looked : (w : List ℕ) (slot p : ℕ) → slot ≡ slot_in spellings w → slot < slots → p ≡ start_in spellings slot → Looked w p
unfolding fine
looked w slot p s l h =
    let f : fine p ≡ true = rw h (fine_at slots slot all_fine_lem l) in
    let t = each _ f in
    let own : place (name_in spellings p) ≡ p = eqb-true _ _ (t 0) in
    record {
      inside = leb-true _ _ (t 1);
      hit = λ n. let i = leb-true _ _ (t 1) in (ltb-true _ _ (t 2), omega arith, sym own ∙ ap place ((same_equal (name_in spellings p) w).0 n));
      miss = λ n. no_place w (λ r.
          let i : p ≡ place w = rw (h, s) r.slot in
          false≢true (sym n ∙ rw i ((same_equal (name_in spellings (place w)) w).1 r.name)));
    }

-- ---- what a word stands for

-- the records of these names stand at n or behind
since : ℕ → List Spelt → Bool
since n [] = true
since n (s ∷ ss) = leb n (place s.name) && since n ss

-- so a word whose own stands before n is none of them
value_none : (n : ℕ) (ss : List Spelt) (none : ℕ) (w : List ℕ) → since n ss ≡ true → place w < n → value_of ss none w ≡ none
unfolding since value_of
value_none n [] none w t h = refl
value_none n (s ∷ ss) none w t h = go (same s.name w) refl (value_none n ss none w (and_right (leb n (place s.name)) _ t) h)
  where
    go : (b : Bool) → same s.name w ≡ b → value_of ss none w ≡ none → cond b s.value (value_of ss none w) ≡ none
    go true e below =
        let l = leb-true n (place s.name) (and_left (leb n (place s.name)) _ t) in
        let m = ap place ((same_equal s.name w).0 e) in
        absurd (omega arith)
    go false e below = below

mnemonics_since : since 1 mnemonics ≡ true
unfolding since every place_of mnemonics keywords spelt same
mnemonics_since = refl

keywords_since : since keywords_from keywords ≡ true
unfolding since every place_of mnemonics keywords spelt same
keywords_since = refl

-- what a word's place says
pub record Told (w : List ℕ) (p : ℕ) : Type 0 where
  pub nothing : p ≡ 0 → opcode_of w ≡ no_opcode
  pub opcode : 0 < p → p < keywords_from → get_or spellings (p + 1) 0 ≡ opcode_of w
  pub other : keywords_from ≤ p → opcode_of w ≡ no_opcode
  pub keyword : keywords_from ≤ p → get_or spellings (p + 1) 0 ≡ kind_outside w
  pub no_keyword : p < keywords_from → kind_outside w ≡ unless (reserved w)

pub told : (w : List ℕ) (p : ℕ) → p ≡ place w → Told w p
told w p h =
    record {
      nothing = λ n. value_none 1 mnemonics no_opcode w mnemonics_since (omega arith);
      opcode = λ n l. sym ((named n).opcode ∙ rw (lt-ltb _ _ l));
      other = λ l. (named (omega arith)).opcode ∙ rw (le-ltb _ _ l);
      keyword = λ l. sym ((named (omega arith)).keyword (reserved w) ∙ rw (le-ltb _ _ l));
      no_keyword = λ l. value_none keywords_from keywords (unless (reserved w)) w keywords_since (omega arith);
    }
  where
    named : 0 < p → Right p w
    named n = rw h (⊎_elim (λ (z : place w ≡ 0). absurd (omega arith)) (λ (r : Right (place w) w). r) (placed w))
