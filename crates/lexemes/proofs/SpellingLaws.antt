-- What a list of spellings gives for any bytes: what holds of each of its entries holds of it. Assumes nothing.
use Prim.Native.Nat.{ℕ}
use mathlib.Core.Path.{◌≡◌, refl, subst}
use mathlib.Core.Bool.{Bool, true, false, cond, ◌&&◌}
use mathlib.Core.List.{List, [], ◌∷◌}
use Rattle.tokens.specs.Byte.{same}
use Rattle.tokens.proofs.Laws.{and_left, and_right}
use Rattle.tokens.proofs.NameLaws.{same_equal}
use Rattle.spelling.specs.Spelling.{Spelt, value_of}

-- what holds of each spelling with its number
abbrev pub EachSpelt : (List ℕ → ℕ → Type 0) → List Spelt → Type 0
EachSpelt P [] = Unit {0}
EachSpelt P (s ∷ ss) = P s.name s.value × EachSpelt P ss

-- .. holds of whatever is looked up, where it holds of what is not in the list
pub by_spelling : (P : List ℕ → ℕ → Type 0) (ss : List Spelt) (none : ℕ) → EachSpelt P ss → (w : List ℕ) → P w none → P w (value_of ss none w)
unfolding value_of
by_spelling P [] none e w p = p
by_spelling P (s ∷ ss) none e w p = go (same s.name w) refl (by_spelling P ss none e.1 w p)
  where
    go : (t : Bool) → same s.name w ≡ t → P w (value_of ss none w) → P w (cond t s.value (value_of ss none w))
    go true h r = subst (λ (x : List ℕ). P x s.value) ((same_equal s.name w).0 h) e.0
    go false h r = r

-- every number of the list passes a test
unfoldable pub passing : (ℕ → Bool) → List Spelt → Bool
passing test [] = true
passing test (s ∷ ss) = test s.value && passing test ss

each_passes : (test : ℕ → Bool) (ss : List Spelt) → passing test ss ≡ true → EachSpelt (λ _ k. test k ≡ true) ss
unfolding passing
each_passes test [] h = tt
each_passes test (s ∷ ss) h = (and_left (test s.value) (passing test ss) h, each_passes test ss (and_right (test s.value) (passing test ss) h))

-- then what it gives passes, if what it gives for other bytes does
pub given_passes : (test : ℕ → Bool) (ss : List Spelt) (none : ℕ) (w : List ℕ) → passing test ss ≡ true → test none ≡ true → test (value_of ss none w) ≡ true
given_passes test ss none w h e = by_spelling (λ _ k. test k ≡ true) ss none (each_passes test ss h) w e
