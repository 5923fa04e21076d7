-- That any two results meeting a promise are equal. Assumes nothing.
use Prim.Native.Nat.{ℕ}
use mathlib.Core.Path.{◌≡◌, sym, ap, ◌∙◌}
use mathlib.Core.Bool.{Bool, cond}
use mathlib.Core.List.{List, ◌∷◌}
use Rattle.names.specs.Names.{Seen, Checked}

-- of `check_duplicate` the answer, and what is remembered afterwards
pub one_check : {name : List ℕ} {before after after' : Seen} {r r' : Bool} → Checked name before r after → Checked name before r' after' → (r ≡ r') × (after ≡ after')
one_check {name} {before} m n =
    let same = m.is ∙ sym n.is in
    (same, m.then ∙ ap (λ (b : Bool). cond b before (record before { names = name ∷ before.names })) same ∙ sym n.then)
