-- Laws of the walk over a body's labels, a token at a time, and what holds at each turn of it. Assumes nothing.
use Prim.Native.Nat.{ℕ, suc, ◌+◌, ◌-◌, ◌*◌, ◌≤◌, ◌<◌}
use mathlib.Core.Path.{◌≡◌, refl, sym, ap, ◌∙◌}
use mathlib.Core.Bool.{Bool, true, false, cond}
use mathlib.Core.List.{List, ◌∷◌}
use mathlib.Core.Logic.{⊎_elim}
use native.Mathlib.Omega.{arith}
use native.Mathlib.Nat.{add-zero}
use native.Mathlib.Numerals.{add-one}
use borrow.Author.Tests.{eq-eqb, ne_eqb}
use lib.Dec.{eqb}
use lib.ListN.{length, drop}
use lib.Seq.{get_or-drop, drop-drop}
use Rattle.tokens.specs.Kind.{Label}
use Rattle.tokens.specs.Token.{Token, eof_token, token_at, view}
use Rattle.tokens.specs.Place.{KindAt}
use Rattle.tokens.specs.Name.{one_of}
use Rattle.tokens.proofs.Laws.{lt_or_le, left_step, left_none}
use Rattle.tokens.proofs.TokenLaws.{view_kind}
use Rattle.grammar.specs.Again.{again, first_again}
use Rattle.names.specs.Names.{Seen, Fresh, Checked}

-- ---- a token at a time

module _ (all : List Token) (to : ℕ) where
  -- what is found from place q on, with these names seen
  abbrev pub found : List (List ℕ) → ℕ → ℕ
  found seen q = again seen false (to - q) q (drop q all)

  -- the same behind a Label
  abbrev behind : List (List ℕ) → ℕ → ℕ
  behind seen q = again seen true (to - q) q (drop q all)

  -- the tokens from place q on begin with the one at q
  first_of : (q : ℕ) → token_at (drop q all) 0 ≡ token_at all q
  first_of q = get_or-drop q all 0 eof_token ∙ ap (token_at all) (add-zero q)

  -- the token at q decides
  found_step : (seen : List (List ℕ)) (q : ℕ) → q < to → found seen q
      ≡ cond (eqb (token_at all q).kind Label)
      (cond (one_of seen (token_at all q).text) q (behind ((token_at all q).text ∷ seen) (q + 1))) (found seen (q + 1))
  unfolding again
  found_step seen q lt = rw (left_step to q lt, first_of q, drop-drop 1 q all, add-one q) refl

  -- no token is left
  found_none : (seen : List (List ℕ)) (q : ℕ) → to ≤ q → found seen q ≡ q
  unfolding again
  found_none seen q le = rw (left_none to q le) refl

  -- a token that is no Label is passed
  found_other : (seen : List (List ℕ)) (q : ℕ) → q < to → ((token_at all q).kind ≡ Label → ⊥) → found seen q ≡ found seen (q + 1)
  found_other seen q lt other = found_step seen q lt ∙ rw (ne_eqb _ _ other) refl

  -- the token behind a Label is passed, whatever it is
  behind_step : (seen : List (List ℕ)) (q : ℕ) → behind seen q ≡ found seen (q + 1)
  unfolding again
  behind_step seen q =
      ⊎_elim
      (λ (h : q < to).
      ap (λ (n : ℕ). again seen true n q (drop q all)) (left_step to q h)
      ∙ ap (again seen false (to - (q + 1)) (suc q)) (drop-drop 1 q all)
      ∙ ap (λ (p : ℕ). again seen false (to - (q + 1)) p (drop (q + 1) all)) (sym (add-one q)))
      (λ (h : to ≤ q). rw (left_none to q h, left_none to (q + 1) (omega arith), add-one q) refl)
      (lt_or_le q to)

  -- a Label of a new name is passed, with the token behind it, and its name is seen
  found_new : (seen : List (List ℕ)) (q : ℕ) → q < to → (token_at all q).kind ≡ Label → one_of seen (token_at all q).text ≡ false
      → found seen q ≡ found ((token_at all q).text ∷ seen) (q + 2)
  found_new seen q lt label new =
      let next : q + 1 + 1 ≡ q + 2 = omega arith in
      found_step seen q lt ∙ rw (eq-eqb _ _ label, new) (behind_step ((token_at all q).text ∷ seen) (q + 1) ∙ ap (found ((token_at all q).text ∷ seen)) next)

  -- a Label of a name that was seen is the answer
  found_again : (seen : List (List ℕ)) (q : ℕ) → q < to → (token_at all q).kind ≡ Label → one_of seen (token_at all q).text ≡ true → found seen q ≡ q
  found_again seen q lt label old = found_step seen q lt ∙ rw (eq-eqb _ _ label, old) refl

-- ---- the loop of walk

-- what is found from place q on is what is found from the start; of which tokens names are remembered; how many they are, and how many there is room for
pub record Walk (all : List Token) (size : ℕ) (now : Seen) (from to q : ℕ) : Type 0 where
  pub same : now.tokens ≡ all
  pub room : now.room ≡ size
  pub ends : found all to now.names q ≡ first_again all from to
  pub few : from + 2 * length now.names ≤ q

-- at the start no name is remembered
pub walk_begins : (all : List Token) (from to : ℕ) {now : Seen} → Fresh 2 (to - from) all now → Walk all now.room now from to from
walk_begins all from to room = record { same = room.same; room = refl; ends = rw room.fresh refl; few = rw room.fresh (omega arith) }

module _ (text words kept : List ℕ) {room : ℕ} {now : Seen} {from to q : ℕ} (walk : Walk (view text words kept) room now from to q) where
  -- no token is left
  pub walk_ends : to ≤ q → q ≡ first_again (view text words kept) from to
  walk_ends le = sym (found_none (view text words kept) to now.names q le) ∙ walk.ends

  module _ (lt : q < to) {k : ℕ} (kind : KindAt words kept q k) where
    -- the kind that was read is the token's
    here : (token_at (view text words kept) q).kind ≡ k
    here = view_kind text words kept q ∙ sym kind.is

    -- a token that is no Label
    pub walk_other : (k ≡ Label → ⊥) → Walk (view text words kept) room now from to (q + 1)
    walk_other other =
        record {
          same = walk.same;
          room = walk.room;
          ends = sym (found_other (view text words kept) to now.names q lt (λ e. other (sym here ∙ e))) ∙ walk.ends;
          few = omega (arith, walk.few);
        }

    module _ (label : k ≡ Label) {r : Bool} {after : Seen} (checked : Checked (token_at now.tokens q).text now r after) where
      -- the test is that of the name at q
      asked : r ≡ one_of now.names (token_at (view text words kept) q).text
      asked = rw walk.same at checked.is

      -- a Label whose name stands again
      pub walk_found : r ≡ true → q ≡ first_again (view text words kept) from to
      walk_found old = sym (found_again (view text words kept) to now.names q lt (here ∙ label) (sym asked ∙ old)) ∙ walk.ends

      -- a Label of a new name
      pub walk_new : r ≡ false → Walk (view text words kept) room after from to (q + 2)
      walk_new new =
          let then : after ≡ record { tokens = view text words kept; names = (token_at (view text words kept) q).text ∷ now.names; room = room } = rw (new, walk.same, walk.room) at checked.then in
          rw then
          record {
            same = refl;
            room = refl;
            ends = sym (found_new (view text words kept) to now.names q lt (here ∙ label) (sym asked ∙ new)) ∙ walk.ends;
            few = omega (arith, walk.few);
          }
