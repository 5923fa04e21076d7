-- What a reader answers at a place of one list, by the kind of the token there. Assumes nothing.
use Prim.Native.Nat.{ℕ, suc, ◌+◌, ◌≤◌, ◌<◌}
use mathlib.Core.Path.{◌≡◌, refl, sym, ap, ◌∙◌}
use mathlib.Core.Bool.{cond, Bool, true, false}
use mathlib.Core.List.{List, [], ◌∷◌}
use borrow.Author.Tests.{eq-eqb, ne_eqb, le-ltb}
use lib.ListN.{drop, length, drop_of_length-le}
use lib.Dec.{eqb}
use Rattle.std.specs.Prelude.{Result, Err, IsErrAnd}
use Rattle.std.proofs.lemmas.Result.{err_from_is_err_and}
use Rattle.tokens.specs.Token.{Token, eof_token, token_at, view}
use Rattle.tokens.specs.Place.{KindAt, kind_at, field_at}
use Rattle.tokens.proofs.TokenLaws.{view_kind}
use Rattle.grammar.specs.Result.{Why, Res, bad, Step, refuse, on, stepped, with_one_more, look, choose, expect, many}
use Rattle.grammar.proofs.AtPlace.{look_at, many_refuses, many_runs_out}
use native.Mathlib.Numerals.{add-one}
use native.Mathlib.Nat.{add-zero}
use lib.Seq.{get_or-drop}
use mathlib.Core.Logic.{⊎_elim}
use native.Mathlib.Omega.{arith}
use Rattle.tokens.proofs.Laws.{lt_or_le}

-- what a `?` hands on is the refusal that came
pub handed_on : {T E : Type 0} {f : E} (r : Result T E) → IsErrAnd r (λ y. y ≡ f) → r ≡ Err f
handed_on r h = let handed = err_from_is_err_and r h in rw (← handed.2) handed.1

-- the kind that the code read at q is that of the view's token there; the reader may write the place another way
pub kind_is : (text : List ℕ) {words kept : List ℕ} {q k : ℕ} (p : ℕ) → KindAt words kept q k → q ≡ p → (token_at (view text words kept) p).kind ≡ k
kind_is text {words} {kept} p h e = view_kind text words kept p ∙ rw (← e) (sym h.is)

-- the first of the tokens from p on is the one at p
pub token_here : (p : ℕ) (all : List Token) → token_at (drop p all) 0 ≡ token_at all p
token_here p all = get_or-drop p all 0 eof_token ∙ ap (token_at all) (add-zero p)

-- none of a table's kinds
abbrev pub NoneOf : {S : Type 0} → List (ℕ × S) → ℕ → Type 0
NoneOf [] k = Unit {0}
NoneOf (e ∷ table) k = (k ≡ e.0 → ⊥) × NoneOf table k

pub choose_none : {S : Type 0} (table : List (ℕ × S)) (d : S) (k : ℕ) → NoneOf table k → choose table d k ≡ d
unfolding choose
choose_none [] d k h = refl
choose_none (e ∷ table) d k h = ap (λ b. cond b e.1 (choose table d k)) (ne_eqb k e.0 h.0) ∙ choose_none table d k h.1

module _ {A : Type 0} (p : ℕ) (all : List Token) where
  -- a reader that goes by a table of kinds, at a token of kind k
  pub look_table : (table : Token → List (ℕ × Step A)) (d : Token → Step A) (k : ℕ) → (token_at all p).kind ≡ k
      → look (λ t. choose (table t) (d t) t.kind) p (drop p all) ≡ stepped (choose (table (token_at all p)) (d (token_at all p)) k) p (drop (suc p) all)
  look_table table d k e =
      look_at (λ t. choose (table t) (d t) t.kind) p all
      ∙ ap (λ x. stepped (choose (table (token_at all p)) (d (token_at all p)) x) p (drop (suc p) all)) e

  -- at a kind that the table does not have
  pub look_else : (table : Token → List (ℕ × Step A)) (d : Token → Step A) (k : ℕ) → (token_at all p).kind ≡ k → NoneOf (table (token_at all p)) k
      → look (λ t. choose (table t) (d t) t.kind) p (drop p all) ≡ look d p (drop p all)
  look_else table d k e h =
      look_table table d k e
      ∙ ap (λ s. stepped s p (drop (suc p) all)) (choose_none (table (token_at all p)) (d (token_at all p)) k h)
      ∙ sym (look_at d p all)

  -- a token that is asked for, and is there
  pub expect_yes : (k : ℕ) (y : Why) (f : Token → ℕ → List Token → Res A) → (token_at all p).kind ≡ k
      → expect k y f p (drop p all) ≡ with_one_more (f (token_at all p) (suc p) (drop (suc p) all))
  expect_yes k y f e =
      look_at (λ t. cond (eqb t.kind k) (on (f t)) (refuse y)) p all
      ∙ ap (λ b. stepped (cond b (on (f (token_at all p))) (refuse y)) p (drop (suc p) all)) (eq-eqb _ _ e)

  -- and is not there
  pub expect_no : (k : ℕ) (y : Why) (f : Token → ℕ → List Token → Res A) → ((token_at all p).kind ≡ k → ⊥) → expect k y f p (drop p all) ≡ bad y p
  expect_no k y f h =
      look_at (λ t. cond (eqb t.kind k) (on (f t)) (refuse y)) p all
      ∙ ap (λ b. stepped (cond b (on (f (token_at all p))) (refuse y)) p (drop (suc p) all)) (ne_eqb _ _ h)

-- a number r that was read is x: what its test says of x
pub test_yes : {r x k : ℕ} → r ≡ x → r ≡ k → eqb x k ≡ true
test_yes {x = x} {k = k} e h = eq-eqb x k (sym e ∙ h)

pub test_no : {r x k : ℕ} → r ≡ x → (r ≡ k → ⊥) → eqb x k ≡ false
test_no {x = x} {k = k} e h = ne_eqb x k (λ z. h (e ∙ z))

module _ (text words kept : List ℕ) (p : ℕ) where
  -- the kind that was read is that of the view's token
  pub kind_here : {r : ℕ} → KindAt words kept p r → r ≡ (token_at (view text words kept) p).kind
  kind_here m = m.is ∙ sym (view_kind text words kept p)

-- a kind that is not Eof's stands inside the kept list
pub kind_inside : (words kept : List ℕ) (p k : ℕ) → kind_at words kept p ≡ k → 0 < k → p < length kept
unfolding field_at
kind_inside words kept p k e h =
    ⊎_elim (λ (i : p < length kept). i) (λ (i : length kept ≤ p). let none : k ≡ 0 = sym e ∙ rw (le-ltb _ _ i) in absurd (absurd_zero k none h))
    (lt_or_le p (length kept))
  where
    absurd_zero : (k : ℕ) → k ≡ 0 → 0 < k → ⊥
    absurd_zero k e h = omega arith

-- the same with the next place written as the code has it
module _ {A : Type 0} (k : ℕ) (y : Why) (f : Token → ℕ → List Token → Res A) (p : ℕ) (all : List Token) where
  pub expect_taken : (token_at all p).kind ≡ k → expect k y f p (drop p all) ≡ with_one_more (f (token_at all p) (p + 1) (drop (p + 1) all))
  expect_taken e = expect_yes p all k y f e ∙ rw add-one

  pub expect_refused : ((token_at all p).kind ≡ k → ⊥) → expect k y f p (drop p all) ≡ bad y p
  expect_refused e = expect_no p all k y f e

-- a unit of a loop is refused at p, inside the list or past its end
pub many_bad : {σ A : Type 0} (stop : Token → Bool) (after : σ → A → σ) (unit : σ → ℕ → List Token → Res A) (s : σ) (p : ℕ) (all : List Token) (y : Why) (w : ℕ)
    → stop (token_at all p) ≡ false
    → unit s p (drop p all) ≡ bad y w
    → many stop after unit s 0 p (drop p all) ≡ bad y w
many_bad stop after unit s p all y w e u =
    ⊎_elim (λ (h : p < length all). many_refuses stop after unit s p all y w h e u)
    (λ (h : length all ≤ p). many_runs_out stop after unit s p all y w h (ap (unit s p) (sym (drop_of_length-le all h)) ∙ u))
    (lt_or_le p (length all))
