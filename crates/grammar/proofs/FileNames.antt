-- The rule on names said of a whole file: a file that follows the grammar with it is one that follows it without, and no two of its macros, fns and tests
-- share a name.
use Prim.Native.Nat.{ℕ, ◌+◌}
use mathlib.Core.Path.{◌≡◌, refl, sym, ◌∙◌}
use mathlib.Core.Logic.{◌↔◌}
use mathlib.Core.Bool.{Bool, true, false, cond, ◌&&◌, ◌||◌, false≢true}
use mathlib.Core.List.{List, [], ◌∷◌}
use lib.ListN.{length}
use Rattle.tokens.specs.Token.{Token}
use Rattle.tokens.specs.Byte.{same}
use Rattle.tokens.specs.Name.{one_of, AllDifferent}
use Rattle.tokens.proofs.NameLaws.{same_equal}
use Rattle.grammar.specs.Rules.{Rules}
use Rattle.grammar.specs.Grammar.{Many, none, more}
use Rattle.grammar.specs.FileReading.{Definition, is_macro}
use Rattle.grammar.specs.FileGrammar.{repeats, remember_name, Fresh, fresh, File}
use Rattle.grammar.specs.FileFollows.{macro_names}
use Rattle.grammar.specs.Facts.{All}

-- no definition repeats a name of those before it
abbrev Distinct : List (List ℕ) → List Definition → Type 0
Distinct seen [] = Unit {0}
Distinct seen (d ∷ ds) = (repeats seen d ≡ false) × Distinct (remember_name seen d) ds

with_names : (m : Rules) (seen : List (List ℕ)) (p : ℕ) (xs : List Token) (ds : List Definition) → Many remember_name (Fresh m true) seen p xs ds → Many remember_name (Fresh m false) seen p xs ds × Distinct seen ds
with_names m seen p xs ds none = (none, tt)
with_names m seen p xs ds (more {xs = us} {ys = vs} {a = d} {rs = es} (fresh x f) rest) =
    let r = with_names m (remember_name seen d) (p + length us) vs es rest in
    (more (fresh x refl) r.0, (f, r.1))

without_names : (m : Rules) (seen : List (List ℕ)) (p : ℕ) (xs : List Token) (ds : List Definition) → Many remember_name (Fresh m false) seen p xs ds → Distinct seen ds → Many remember_name (Fresh m true) seen p xs ds
without_names m seen p xs ds none h = none
without_names m seen p xs ds (more {xs = us} {ys = vs} {a = d} {rs = es} (fresh x f) rest) h =
    more (fresh x h.0) (without_names m (remember_name seen d) (p + length us) vs es rest h.1)

-- names that are not among others
abbrev Outside : List (List ℕ) → List (List ℕ) → Type 0
Outside seen names = All (λ n. one_of seen n ≡ false) names

same_turned : (a b : List ℕ) → same a b ≡ false → same b a ≡ false
same_turned a b h = go (same b a) refl
  where
    go : (x : Bool) → same b a ≡ x → x ≡ false
    go false e = refl
    go true e = absurd (false≢true (sym h ∙ (same_equal a b).1 (sym ((same_equal b a).0 e))))

or_no : (a b : Bool) → (a || b) ≡ false → (a ≡ false) × (b ≡ false)
or_no true b h = absurd (false≢true (sym h))
or_no false b h = (refl, h)

-- a name more among the others
outside_more : (x : List ℕ) (seen names : List (List ℕ)) → Outside (x ∷ seen) names → (one_of names x ≡ false) × Outside seen names
unfolding one_of
outside_more x seen [] h = (refl, tt)
outside_more x seen (n ∷ ns) h =
    let k = or_no (same x n) (one_of seen n) h.0 in
    let r = outside_more x seen ns h.1 in
    (rw (same_turned x n k.0) r.0, (k.1, r.1))

outside_less : (x : List ℕ) (seen names : List (List ℕ)) → one_of names x ≡ false → Outside seen names → Outside (x ∷ seen) names
unfolding one_of
outside_less x seen [] h k = tt
outside_less x seen (n ∷ ns) h k =
    let g = or_no (same n x) (one_of ns x) h in
    (rw (same_turned n x g.0) k.0, outside_less x seen ns g.1 k.1)

distinct_names : (seen : List (List ℕ)) (ds : List Definition) → Distinct seen ds → Outside seen (macro_names ds) × AllDifferent (macro_names ds)
unfolding macro_names repeats
distinct_names seen [] h = (tt, tt)
distinct_names seen (d ∷ ds) h = go (is_macro d.form) h.0 (distinct_names (remember_name seen d) ds h.1)
  where
    go : (b : Bool) → (b && one_of seen d.token.text) ≡ false → Outside (cond b (d.token.text ∷ seen) seen) (macro_names ds) × AllDifferent (macro_names ds)
        → Outside seen (cond b (d.token.text ∷ macro_names ds) (macro_names ds)) × AllDifferent (cond b (d.token.text ∷ macro_names ds) (macro_names ds))
    go true f r = let k = outside_more d.token.text seen (macro_names ds) r.0 in ((f, k.1), (k.0, r.1))
    go false f r = r

names_distinct : (seen : List (List ℕ)) (ds : List Definition) → Outside seen (macro_names ds) → AllDifferent (macro_names ds) → Distinct seen ds
unfolding macro_names repeats
names_distinct seen [] h k = tt
names_distinct seen (d ∷ ds) h k = go (is_macro d.form) h k (names_distinct (remember_name seen d) ds)
  where
    go : (b : Bool) → Outside seen (cond b (d.token.text ∷ macro_names ds) (macro_names ds)) → AllDifferent (cond b (d.token.text ∷ macro_names ds) (macro_names ds))
        → (Outside (cond b (d.token.text ∷ seen) seen) (macro_names ds) → AllDifferent (macro_names ds) → Distinct (remember_name seen d) ds)
        → ((b && one_of seen d.token.text) ≡ false) × Distinct (remember_name seen d) ds
    go true f g later = (f.0, later (outside_less d.token.text seen (macro_names ds) g.0 f.1) g.1)
    go false f g later = (refl, later f g)

outside_none : (names : List (List ℕ)) → Outside [] names
unfolding one_of
outside_none [] = tt
outside_none (n ∷ ns) = (refl, outside_none ns)

-- Theorem 1, the rule on names
pub file_names : (m : Rules) (ts : List Token) (ds : List Definition) → File m true ts ds ↔ (File m false ts ds × AllDifferent (macro_names ds))
file_names m ts ds = (
  (λ f. let r = with_names m [] 0 ts ds f in (r.0, (distinct_names [] ds r.1).1)),
  (λ f. without_names m [] 0 ts ds f.0 (names_distinct [] ds (outside_none (macro_names ds)) f.1)),
)
