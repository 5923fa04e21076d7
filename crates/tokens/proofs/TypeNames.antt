-- Which names are types: the 102 of document 01's list and no other bytes, and when two of them are the same type. Assumes nothing.
use Prim.Native.Nat.{ℕ}
use Prim.Native.String.{String}
use mathlib.Core.Path.{◌≡◌, refl, sym, ap, ◌∙◌}
use mathlib.Core.Bool.{Bool, true, false, cond, not, ◌&&◌, ◌||◌, or-true, false≢true}
use mathlib.Core.List.{List, [], ◌∷◌, ◌++◌, map, Memᴰ}
use mathlib.Core.Logic.{◌↔◌, ◌⊎◌, inl, inr, ⊎_elim}
use native.Mathlib.Omega.{arith}
use borrow.Author.Tests.{not-true}
use lib.Dec.{eqb}
use lib.ListN.{length, replicate}
use Rattle.tokens.specs.Byte.{bytes, same}
use Rattle.tokens.specs.Number.{type_none, type_address, type_bool, type_string, type_uint, type_int, type_bytes_n}
use Rattle.tokens.specs.Name.{ListedType, decimal, multiples, sized, bare_types, type_names, look_up, type_of, reserved, one_of, AllDifferent}
use Rattle.tokens.proofs.Laws.{and_left, and_right, or_split}
use Rattle.tokens.proofs.NameLaws.{same_equal, Typed, names_typed}

-- the names of such a list
abbrev pub names_of : List ListedType → List (List ℕ)
names_of [] = []
names_of (n ∷ ns) = n.0 ∷ names_of ns

-- a bare name, and the one that says its size
abbrev pub Bare : List ℕ → List ℕ → Type 0
Bare a b = ((a ≡ bytes "uint") × (b ≡ bytes "uint256")) ⊎ ((a ≡ bytes "int") × (b ≡ bytes "int256"))

-- ---- a test of all entries, and what it says

-- no name stands twice
unfoldable pub distinct : List (List ℕ) → Bool
distinct [] = true
distinct (n ∷ ns) = not (one_of ns n) && distinct ns

-- the name of a type that says its size
spelled : ℕ → ℕ → List ℕ
spelled t size =
    cond (eqb t type_uint) (bytes "uint" ++ decimal size)
    (cond (eqb t type_int) (bytes "int" ++ decimal size)
    (cond (eqb t type_bytes_n) (bytes "bytes" ++ decimal size)
    (cond (eqb t type_address) (bytes "address")
    (cond (eqb t type_bool) (bytes "bool")
    (cond (eqb t type_string) (bytes "string") (bytes "bytes"))))))

-- its type and size spell the name, or it is bare
spells : List ℕ → ℕ → ℕ → Bool
spells name t size = same name (spelled t size) || (same name (bytes "uint") || same name (bytes "int"))

all_spell : List ListedType → Bool
all_spell [] = true
all_spell (n ∷ ns) = spells n.0 n.1 n.2 && all_spell ns

names_distinct : distinct (names_of type_names) ≡ true
unfolding distinct one_of type_names bare_types sized multiples decimal bytes same
names_distinct = refl

name_count : length type_names ≡ 102
unfolding type_names bare_types sized multiples
name_count = refl

names_spell : all_spell type_names ≡ true
unfolding all_spell spells spelled type_names bare_types sized multiples decimal bytes same
names_spell = refl

-- ---- looking up in such a list

pub all_different : (ns : List (List ℕ)) → distinct ns ≡ true → AllDifferent ns
unfolding distinct
all_different [] h = tt
all_different (n ∷ ns) h = (not-true (one_of ns n) (and_left (not (one_of ns n)) (distinct ns) h), all_different ns (and_right (not (one_of ns n)) (distinct ns) h))

-- a name has a type exactly if it stands in the list
typed_listed : (ns : List ListedType) (name : List ℕ) → Typed ns → not (eqb (look_up ns name).0 type_none) ≡ one_of (names_of ns) name
unfolding look_up one_of
typed_listed [] name h = refl
typed_listed (n ∷ ns) name h = go (same n.0 name) (typed_listed ns name h.1)
  where
    go : (b : Bool) → not (eqb (look_up ns name).0 type_none) ≡ one_of (names_of ns) name
        → not (eqb (cond b (n.1, n.2) (look_up ns name)).0 type_none) ≡ (b || one_of (names_of ns) name)
    go true below = ap not h.0
    go false below = below

one_of_listed : (ns : List (List ℕ)) (name : List ℕ) → (one_of ns name ≡ true) ↔ Memᴰ name ns
unfolding one_of
one_of_listed ns name = (sound ns name, complete ns name)
  where
    sound : (ns : List (List ℕ)) (name : List ℕ) → one_of ns name ≡ true → Memᴰ name ns
    sound [] name e = absurd (false≢true e)
    sound (n ∷ ns) name e = go (same n name) refl e (sound ns name)
      where
        go : (t : Bool) → same n name ≡ t → (t || one_of ns name) ≡ true → (one_of ns name ≡ true → Memᴰ name ns) → Memᴰ name (n ∷ ns)
        go true s x below = mathlib.Core.List.Memᴰ.head (sym ((same_equal n name).0 s))
        go false s x below = mathlib.Core.List.Memᴰ.tail (below x)

    complete : (ns : List (List ℕ)) (name : List ℕ) → Memᴰ name ns → one_of ns name ≡ true
    complete [] name m = absurd (mathlib.Core.List.Memᴰ.not-nil m)
    complete (n ∷ ns) name m =
        ⊎_elim (λ (e : name ≡ n). rw ((same_equal n name).1 (sym e))) (λ (h : Memᴰ name ns). rw (complete ns name h, or-true)) (mathlib.Core.List.Memᴰ.cases_cons m)

-- what the list gives an entry's name is the entry's own type and size
as_listed : (ns : List ListedType) → AllDifferent (names_of ns) → (n : ListedType) → Memᴰ n ns → look_up ns n.0 ≡ (n.1, n.2)
unfolding look_up
as_listed [] h n m = absurd (mathlib.Core.List.Memᴰ.not-nil m)
as_listed (k ∷ ns) h n m =
    ⊎_elim
    (λ (e : n ≡ k). rw (e, (same_equal k.0 k.0).1 refl))
    (λ (below : Memᴰ n ns). go (same k.0 n.0) refl below (as_listed ns h.1 n below))
    (mathlib.Core.List.Memᴰ.cases_cons m)
  where
    name_listed : (ns : List ListedType) → Memᴰ n ns → Memᴰ n.0 (names_of ns)
    name_listed [] m = absurd (mathlib.Core.List.Memᴰ.not-nil m)
    name_listed (k ∷ ns) m =
        ⊎_elim (λ (e : n ≡ k). mathlib.Core.List.Memᴰ.head (ap (λ (x : ListedType). x.0) e)) (λ (h : Memᴰ n ns). mathlib.Core.List.Memᴰ.tail (name_listed ns h)) (mathlib.Core.List.Memᴰ.cases_cons m)

    go : (b : Bool) → same k.0 n.0 ≡ b → Memᴰ n ns → look_up ns n.0 ≡ (n.1, n.2) → cond b (k.1, k.2) (look_up ns n.0) ≡ (n.1, n.2)
    go true s below e =
        let listed : Memᴰ k.0 (names_of ns) = rw ((same_equal k.0 n.0).0 s) (name_listed ns below) in
        absurd (false≢true (sym h.0 ∙ (one_of_listed (names_of ns) k.0).1 listed))
    go false s below e = e

-- a name without a type has no size either
unlisted : (ns : List ListedType) (name : List ℕ) → Typed ns → not (eqb (look_up ns name).0 type_none) ≡ false → look_up ns name ≡ (type_none, 0)
unfolding look_up
unlisted [] name h e = refl
unlisted (n ∷ ns) name h e = go (same n.0 name) e (unlisted ns name h.1)
  where
    go : (b : Bool) → not (eqb (cond b (n.1, n.2) (look_up ns name)).0 type_none) ≡ false
        → (not (eqb (look_up ns name).0 type_none) ≡ false → look_up ns name ≡ (type_none, 0)) → cond b (n.1, n.2) (look_up ns name) ≡ (type_none, 0)
    go true x below = absurd (false≢true (sym x ∙ ap not h.0))
    go false x below = below x

-- a name with a type is spelled by its type and size, or bare
abbrev SpelledOrBare : List ℕ → ℕ × ℕ → Type 0
SpelledOrBare name x = (name ≡ spelled x.0 x.1) ⊎ (name ≡ bytes "uint") ⊎ (name ≡ bytes "int")

spelled_or_bare : (ns : List ListedType) (name : List ℕ) → all_spell ns ≡ true → not (eqb (look_up ns name).0 type_none) ≡ true → SpelledOrBare name (look_up ns name)
unfolding look_up all_spell spells
spelled_or_bare [] name h e = absurd (false≢true e)
spelled_or_bare (n ∷ ns) name h e = go (same n.0 name) refl e (spelled_or_bare ns name (and_right (spells n.0 n.1 n.2) (all_spell ns) h))
  where
    one : (b : List ℕ) → same n.0 name ≡ true → same n.0 b ≡ true → name ≡ b
    one b s t = sym ((same_equal n.0 name).0 s) ∙ (same_equal n.0 b).0 t

    go : (b : Bool) → same n.0 name ≡ b → not (eqb (cond b (n.1, n.2) (look_up ns name)).0 type_none) ≡ true
        → (not (eqb (look_up ns name).0 type_none) ≡ true → SpelledOrBare name (look_up ns name)) → SpelledOrBare name (cond b (n.1, n.2) (look_up ns name))
    go true s x below =
        ⊎_elim
        (λ y. inl (one _ s y))
        (λ y. inr (⊎_elim (λ z. inl (one _ s z)) (λ z. inr (one _ s z)) (or_split (same n.0 (bytes "uint")) (same n.0 (bytes "int")) y)))
        (or_split (same n.0 (spelled n.1 n.2)) (same n.0 (bytes "uint") || same n.0 (bytes "int")) (and_left (spells n.0 n.1 n.2) (all_spell ns) h))
    go false s x below = below x

uint_is : type_of (bytes "uint") ≡ (5, 256)
unfolding type_of look_up type_names bare_types bytes same
uint_is = refl

int_is : type_of (bytes "int") ≡ (6, 256)
unfolding type_of look_up type_names bare_types bytes same
int_is = refl

bare_alike : (a b : List ℕ) → Bare a b → type_of a ≡ type_of b
unfolding type_of look_up type_names bare_types sized multiples decimal bytes same
bare_alike a b (inl h) = ap type_of h.0 ∙ uint_is ∙ sym (ap type_of h.1)
bare_alike a b (inr h) = ap type_of h.0 ∙ int_is ∙ sym (ap type_of h.1)

uint_spelled : spelled 5 256 ≡ bytes "uint256"
unfolding spelled decimal bytes
uint_spelled = refl

int_spelled : spelled 6 256 ≡ bytes "int256"
unfolding spelled decimal bytes
int_spelled = refl

-- a bare name's type, in another name that is spelled by it
spelled_as : (a b : List ℕ) {t : ℕ} {n m : List ℕ} → type_of a ≡ type_of b → type_of n ≡ (t, 256) → spelled t 256 ≡ m → a ≡ spelled (type_of a).0 (type_of a).1 → b ≡ n → a ≡ m
spelled_as a b e is says x y = x ∙ ap (λ (k : ℕ × ℕ). spelled k.0 k.1) (e ∙ ap type_of y ∙ is) ∙ says

other : ◌≡◌ {A = ℕ × ℕ} (5, 256) (6, 256) → ⊥
other e = let same-type : ◌≡◌ {A = ℕ} 5 6 = ap (λ (k : ℕ × ℕ). k.0) e in omega arith

agree : (a b : List ℕ) → type_of a ≡ type_of b → SpelledOrBare a (type_of a) → SpelledOrBare b (type_of b) → (a ≡ b) ⊎ Bare a b ⊎ Bare b a
agree a b e (inl x) (inl y) = inl (x ∙ ap (λ (k : ℕ × ℕ). spelled k.0 k.1) e ∙ sym y)
agree a b e (inl x) (inr (inl y)) = inr (inr (inl (y, spelled_as a b e uint_is uint_spelled x y)))
agree a b e (inl x) (inr (inr y)) = inr (inr (inr (y, spelled_as a b e int_is int_spelled x y)))
agree a b e (inr (inl x)) (inl y) = inr (inl (inl (x, spelled_as b a (sym e) uint_is uint_spelled y x)))
agree a b e (inr (inr x)) (inl y) = inr (inl (inr (x, spelled_as b a (sym e) int_is int_spelled y x)))
agree a b e (inr (inl x)) (inr (inl y)) = inl (x ∙ sym y)
agree a b e (inr (inr x)) (inr (inr y)) = inl (x ∙ sym y)
agree a b e (inr (inl x)) (inr (inr y)) = absurd (other (sym uint_is ∙ ap type_of (sym x) ∙ e ∙ ap type_of y ∙ int_is))
agree a b e (inr (inr x)) (inr (inl y)) = absurd (other (sym uint_is ∙ ap type_of (sym y) ∙ sym e ∙ ap type_of x ∙ int_is))

-- ---- the theorem, and names that are types, and that look like one

pub record TypeNames : Type 0 where
  pub count : length type_names ≡ 102
  pub different : AllDifferent (names_of type_names)
  -- these names, and no other bytes, have a type: the one that the list has beside them, with its size
  pub exactly : (name : List ℕ) → (reserved name ≡ true) ↔ Memᴰ name (names_of type_names)
  pub listed : (n : ListedType) → Memᴰ n type_names → type_of n.0 ≡ (n.1, n.2)
  pub others : (name : List ℕ) → reserved name ≡ false → type_of name ≡ (type_none, 0)
  -- two of them agree in type and size only if one is bare: uint and uint256, int and int256; and these do
  pub apart : (a b : List ℕ) → reserved a ≡ true → type_of a ≡ type_of b → (a ≡ b) ⊎ Bare a b ⊎ Bare b a
  pub alike : (a b : List ℕ) → Bare a b → type_of a ≡ type_of b

pub type_names_lem : TypeNames
unfolding reserved type_of
type_names_lem =
    record {
      count = name_count;
      different = different;
      exactly = λ name.
          let same_test = typed_listed type_names name names_typed in
          let listed = one_of_listed (names_of type_names) name in
          (λ h. listed.0 (sym same_test ∙ h), λ m. same_test ∙ listed.1 m);
      listed = as_listed type_names different;
      others = λ name. unlisted type_names name names_typed;
      apart = λ a b h e. agree a b e (spelled_or_bare type_names a names_spell h) (spelled_or_bare type_names b names_spell (rw (← e) h));
      alike = bare_alike;
    }
  where
    different : AllDifferent (names_of type_names)
    different = all_different (names_of type_names) names_distinct

abbrev types_of : List String → List (ℕ × ℕ)
types_of names = map (λ s. type_of (bytes s)) names

pub type_examples :
    (types_of ("address" ∷ "bool" ∷ "string" ∷ "bytes" ∷ "uint" ∷ "int" ∷ "uint8" ∷ "uint256" ∷ "int16" ∷ "int256" ∷ "bytes1" ∷ "bytes32" ∷ [])
    ≡ (1, 0) ∷ (2, 0) ∷ (3, 0) ∷ (4, 0) ∷ (5, 256) ∷ (6, 256) ∷ (5, 8) ∷ (5, 256) ∷ (6, 16) ∷ (6, 256) ∷ (7, 1) ∷ (7, 32) ∷ [])
    × (types_of ("uint7" ∷ "int7" ∷ "uint08" ∷ "uint264" ∷ "bytes0" ∷ "bytes33" ∷ "Uint8" ∷ "" ∷ []) ≡ replicate 8 (type_none, 0))
unfolding type_of look_up type_names bare_types sized multiples decimal bytes same
type_examples = (refl, refl)
