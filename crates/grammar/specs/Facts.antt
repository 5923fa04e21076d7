-- The words in which the theorems on lists of records are stated.
use Rattle.std.specs.Prelude.{ℕ, ◌≡◌, List, [], ◌∷◌, length}

-- every element of a list
abbrev pub All : {A : Type 0} → (A → Type 0) → List A → Type 0
All P [] = Unit {0}
All P (x ∷ xs) = P x × All P xs

-- a record of w words
abbrev pub HasWords : ℕ → List ℕ → Type 0
HasWords w r = length r ≡ w
