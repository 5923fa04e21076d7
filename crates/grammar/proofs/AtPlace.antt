-- The reader from place to place of one list, for a parser that goes by places: what each way of putting readers together answers at place p.
use Prim.Native.Nat.{ℕ, suc, ◌+◌, ◌≤◌, ◌<◌}
use native.Mathlib.Nat.{add-zero}
use native.Mathlib.Numerals.{add-one}
use native.Mathlib.Omega.{arith}
use mathlib.Core.Path.{◌≡◌, sym, ◌∙◌, ap}
use mathlib.Core.Bool.{Bool, true, false}
use mathlib.Core.List.{List, [], ◌∷◌}
use lib.ListN.{length, drop, drop_of_length-le}
use lib.Seq.{get_or-drop, drop-drop, drop-cons}
use Rattle.tokens.specs.Token.{Token, token_at, eof_token}
use Rattle.grammar.specs.Result.{Why, Res, got, bad, Step, stepped, look, counted, joined, seq, bind, consed, less, many}
use Rattle.grammar.proofs.Holds.{many_on, many_stop, many_skip}

token_at_lem : (p : ℕ) (kept : List Token) → token_at (drop p kept) 0 ≡ token_at kept p
token_at_lem p kept = get_or-drop p kept 0 eof_token ∙ ap (token_at kept) (add-zero p)

-- the token at p decides
pub look_at : {A : Type 0} (g : Token → Step A) (p : ℕ) (kept : List Token) → look g p (drop p kept) ≡ stepped (g (token_at kept p)) p (drop (suc p) kept)
unfolding look
look_at g p kept = ap (λ t. stepped (g t) p (drop 1 (drop p kept))) (token_at_lem p kept) ∙ ap (stepped (g (token_at kept p)) p) (drop-drop 1 p kept ∙ ap (λ k. drop k kept) (add-one p))

-- the second reader stands behind what the first took
pub seq_got : {A B : Type 0} (u : ℕ → List Token → Res A) (f : A → ℕ → List Token → Res B) (p n : ℕ) (kept : List Token) (a : A)
    → u p (drop p kept) ≡ got a n
    → seq u f p (drop p kept) ≡ counted n (f a (p + n) (drop (p + n) kept))
unfolding seq
seq_got u f p n kept a e = ap (λ r. joined r f p (drop p kept)) e ∙ ap (λ ts. counted n (f a (p + n) ts)) (drop-drop n p kept)

pub seq_bad : {A B : Type 0} (u : ℕ → List Token → Res A) (f : A → ℕ → List Token → Res B) (p : ℕ) (ts : List Token) (y : Why) (q : ℕ) → u p ts ≡ bad y q → seq u f p ts ≡ bad y q
unfolding seq
seq_bad u f p ts y q e = ap (λ r. joined r f p ts) e

module _ {σ A : Type 0} (stop : Token → Bool) (after : σ → A → σ) (unit : σ → ℕ → List Token → Res A) (s : σ) (p : ℕ) (kept : List Token) where
  here : p < length kept → drop p kept ≡ token_at kept p ∷ drop (suc p) kept
  here h = drop-cons kept p eof_token h

  -- the loop ends at p
  pub many_ends : p < length kept → stop (token_at kept p) ≡ true → many stop after unit s 0 p (drop p kept) ≡ got [] 0
  many_ends h e = ap (many stop after unit s 0 p) (here h) ∙ many_stop stop after unit s p (token_at kept p) (drop (suc p) kept) e

  opened : p < length kept → stop (token_at kept p) ≡ false → (r : Res A) → unit s p (drop p kept) ≡ r
      → many stop after unit s 0 p (drop p kept) ≡ bind r (λ a n. counted (suc (less n)) (consed a (many stop after unit (after s a) (less n) (suc p) (drop (suc p) kept))))
  opened h e r u =
      ap (many stop after unit s 0 p) (here h)
      ∙ many_on stop after unit s p (token_at kept p) (drop (suc p) kept) e
      ∙ ap (λ x. bind x (λ a n. counted (suc (less n)) (consed a (many stop after unit (after s a) (less n) (suc p) (drop (suc p) kept))))) (ap (unit s p) (sym (here h)) ∙ u)

  -- a unit of n tokens at p, and the loop behind it
  pub many_goes : (a : A) (n : ℕ) → p < length kept → stop (token_at kept p) ≡ false → unit s p (drop p kept) ≡ got a (suc n)
      → many stop after unit s 0 p (drop p kept) ≡ counted (suc n) (consed a (many stop after unit (after s a) 0 (p + suc n) (drop (p + suc n) kept)))
  many_goes a n h e u =
      let q : suc p + n ≡ p + suc n = omega arith in
      opened h e (got a (suc n)) u
      ∙ ap (λ r. counted (suc n) (consed a r))
      (many_skip stop after unit (drop (suc p) kept) (after s a) n (suc p)
      ∙ ap (many stop after unit (after s a) 0 (suc p + n)) (drop-drop n (suc p) kept)
      ∙ ap (λ k. many stop after unit (after s a) 0 k (drop k kept)) q)

  -- a unit that is refused
  pub many_refuses : (y : Why) (q : ℕ) → p < length kept → stop (token_at kept p) ≡ false → unit s p (drop p kept) ≡ bad y q → many stop after unit s 0 p (drop p kept) ≡ bad y q
  many_refuses y q h e u = opened h e (bad y q) u

  -- past the end stands Eof, which every unit refuses
  pub many_runs_out : (y : Why) (q : ℕ) → length kept ≤ p → unit s p [] ≡ bad y q → many stop after unit s 0 p (drop p kept) ≡ bad y q
  unfolding many
  many_runs_out y q h u =
      ap (many stop after unit s 0 p) (drop_of_length-le kept h)
      ∙ ap (λ k. bind (unit s k []) (λ a n. got (a ∷ []) n)) (add-zero p)
      ∙ ap (λ r. bind r (λ a n. got (a ∷ []) n)) u
