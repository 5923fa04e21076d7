-- Runs of a class and open comments, one byte at a time. Assumes nothing.
use Prim.Native.Nat.{ℕ, zero, suc, ◌+◌, ◌-◌, ◌<◌, ◌≤◌}
use Prim.Native.Char.{code}
use mathlib.Core.Path.{◌≡◌, refl, ap, ◌∙◌}
use mathlib.Core.Bool.{Bool, true, false, ◌&&◌, and-false}
use mathlib.Core.List.{List, [], ◌∷◌}
use mathlib.Core.Logic.{⊎_elim}
use native.Mathlib.Omega.{arith}
use native.Mathlib.Numerals.{add-one}
use lib.Dec.{eqb}
use lib.ListN.{length, get_or, drop, get_or-eq_default}
use lib.Seq.{drop-cons, get_or-drop}
use Rattle.std.specs.Prelude.{Option, Some, None, MatchOption, unwrap_or}
use Rattle.lexemes.specs.Reader.{run, closing, opened}
use Rattle.tokens.proofs.Laws.{lt_or_le}

-- a run goes on to the end, or to the first byte that is none of the class
module _ (class : ℕ → Bool) where
  run_whole : (bs : List ℕ) → ((k : ℕ) → k < length bs → class (get_or bs k 0) ≡ true) → length bs ≡ run class bs
  unfolding run
  run_whole [] h = refl
  run_whole (b ∷ bs) h = rw (h 0 (omega arith)) (ap suc (run_whole bs (λ k l. h (suc k) (omega arith))))

  run_until : (bs : List ℕ) (i : ℕ) → i < length bs → ((k : ℕ) → k < i → class (get_or bs k 0) ≡ true) → class (get_or bs i 0) ≡ false → i ≡ run class bs
  unfolding run
  run_until [] i l h e = absurd (omega arith)
  run_until (b ∷ bs) zero l h e = rw e
  run_until (b ∷ bs) (suc i) l h e = rw (h 0 (omega arith)) (ap suc (run_until bs i (omega arith) (λ k m. h (suc k) (omega arith)) e))

  -- the place of the first byte that is none of it, if there is one
  abbrev pub RunsTo : List ℕ → Option ℕ → Type 0
  RunsTo bs r =
      MatchOption r ((k : ℕ) → k < length bs → class (get_or bs k 0) ≡ true)
      (λ i. (i < length bs) × ((k : ℕ) → k < i → class (get_or bs k 0) ≡ true) × (class (get_or bs i 0) ≡ false))

  pub run_found : (bs : List ℕ) (r : Option ℕ) → RunsTo bs r → unwrap_or r (length bs) ≡ run class bs
  run_found bs None h = run_whole bs h
  run_found bs (Some i) h = run_until bs i h.0 h.1 h.2

module _ (t : List ℕ) (i : ℕ) where
  pub closes_is : closing (drop i t) ≡ (eqb (get_or t i 0) (code "*") && eqb (get_or t (i + 1) 0) (code "/"))
  unfolding closing
  closes_is = let z : i + 0 ≡ i = omega arith in rw (get_or-drop i t 0 0, get_or-drop i t 1 0, z)

  pub open_more : i < length t → closing (drop i t) ≡ false → opened (drop i t) ≡ suc (opened (drop (i + 1) t))
  unfolding opened
  open_more h e = let f = rw (drop-cons t i 0 h) at e in rw (add-one i, drop-cons t i 0 h, f)

  pub open_stop : i < length t → closing (drop i t) ≡ true → opened (drop i t) ≡ 0
  unfolding opened
  open_stop h e = let f = rw (drop-cons t i 0 h) at e in rw (drop-cons t i 0 h, f)

  -- the last byte begins no end
  last_open : length t ≤ i + 1 → closing (drop i t) ≡ false
  last_open h = let none : get_or t (i + 1) 0 ≡ 0 = get_or-eq_default t 0 h in closes_is ∙ rw (none, and-false)

  -- and so a comment that is open at its last byte is open
  pub open_left : length t - 1 ≤ i → i + opened (drop i t) ≡ opened t → length t ≤ opened t
  open_left h e =
      ⊎_elim (λ (l : i < length t). let more = open_more l (last_open (omega arith)) in omega (arith, e, more)) (λ (l : length t ≤ i). omega (arith, e)) (lt_or_le i (length t))
