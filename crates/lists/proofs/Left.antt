-- A loop that reads units and writes a record of w words for each: what it still has to read, on the table as it is, comes to what it had to read
-- at its start, on the table as it was. Assumes nothing.
use Prim.Native.Nat.{ℕ, zero, suc, ◌+◌, ◌≤◌, ◌<◌}
use native.Mathlib.Nat.{add-zero}
use native.Mathlib.Omega.{arith}
use mathlib.Core.Path.{◌≡◌, refl, sym, ap, ◌∙◌}
use mathlib.Core.Bool.{Bool, true, false}
use mathlib.Core.List.{List, map}
use mathlib.Core.Logic.{⊎_elim}
use lib.ListN.{length, drop, drop_of_length-le}
use Rattle.tokens.specs.Token.{Token, token_at}
use Rattle.tokens.specs.Lent.{put, put_all}
use Rattle.tokens.proofs.Laws.{lt_or_le}
use Rattle.grammar.specs.Result.{Why, number, beyond, Res, got, bad, counted, consed, many}
use Rattle.grammar.proofs.AtPlace.{many_ends, many_goes, many_refuses, many_runs_out}

-- how a loop ends: the records there are then, the place and the table; or the refusal's number and cursor
pub data Outcome : Type 0 where
  done : ℕ → ℕ → List ℕ → Outcome
  refused : ℕ → ℕ → Outcome

-- the end that a reading from a place has, with m records before it in the table
abbrev pub outcome : {A : Type 0} → ℕ → (A → List ℕ) → List ℕ → ℕ → ℕ → Res (List A) → Outcome
outcome w row table m p (got xs k) = done (m + length xs) (p + k) (put_all w table m (map row xs))
outcome w row table m p (bad y q) = refused (number y) (q + beyond y)

one_more : {A : Type 0} (w : ℕ) (row : A → List ℕ) (table : List ℕ) (m p k : ℕ) (a : A) (rest : Res (List A))
    → outcome w row table m p (counted k (consed a rest)) ≡ outcome w row (put w table m (row a)) (m + 1) (p + k) rest
unfolding put_all
one_more w row table m p k a (got xs n) =
    let count : m + suc (length xs) ≡ m + 1 + length xs = omega arith in
    let place : p + (k + n) ≡ p + k + n = omega arith in
    cc
one_more w row table m p k a (bad y q) = refl

module _ {σ A : Type 0} (stop : Token → Bool) (after : σ → A → σ) (unit : σ → ℕ → List Token → Res A) (w : ℕ) (row : A → List ℕ) (all : List Token) where
  -- the end that the loop comes to from place p in state s
  abbrev pub left : List ℕ → ℕ → σ → ℕ → Outcome
  left table m s p = outcome w row table m p (many stop after unit s 0 p (drop p all))

  module _ (table : List ℕ) (m : ℕ) (s : σ) (p : ℕ) where
    -- a unit up to place e is read, and its record written
    pub left_step : (a : A) (k e : ℕ) → p < length all → stop (token_at all p) ≡ false → unit s p (drop p all) ≡ got a k → p + k ≡ e → p < e
        → left table m s p ≡ left (put w table m (row a)) (m + 1) (after s a) e
    left_step a zero e h off u at lt = absurd (none (omega arith))
      where
        none : p < p → ⊥
        none x = omega arith
    left_step a (suc n) e h off u at lt =
        ap (outcome w row table m p) (many_goes stop after unit s p all a n h off u)
        ∙ one_more w row table m p (suc n) a (many stop after unit (after s a) 0 (p + suc n) (drop (p + suc n) all))
        ∙ ap (left (put w table m (row a)) (m + 1) (after s a)) at

    -- the loop stops at p
    pub left_end : p < length all → stop (token_at all p) ≡ true → left table m s p ≡ done m p table
    unfolding put_all
    left_end h is = ap (outcome w row table m p) (many_ends stop after unit s p all h is) ∙ rw (add-zero m, add-zero p)

    -- a unit is refused, also past the end
    pub left_refused : (y : Why) (q : ℕ) → stop (token_at all p) ≡ false → unit s p (drop p all) ≡ bad y q → left table m s p ≡ refused (number y) (q + beyond y)
    left_refused y q off u =
        ap (outcome w row table m p)
        (⊎_elim (λ (h : p < length all). many_refuses stop after unit s p all y q h off u)
        (λ (h : length all ≤ p). many_runs_out stop after unit s p all y q h (ap (unit s p) (sym (drop_of_length-le all h)) ∙ u))
        (lt_or_le p (length all)))
