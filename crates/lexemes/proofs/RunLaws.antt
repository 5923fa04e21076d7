-- Runs of a class: all their bytes are of it, no more bytes are, and what stands behind is not. Assumes nothing.
use Prim.Native.Nat.{ℕ, zero, suc, ◌≤◌, ◌<◌}
use mathlib.Core.Path.{◌≡◌, refl}
use mathlib.Core.Bool.{Bool, true, false, cond}
use mathlib.Core.List.{List, [], ◌∷◌}
use native.Mathlib.Omega.{arith}
use lib.ListN.{length, get_or, take}
use Rattle.tokens.proofs.Laws.{and_left, and_right}
use Rattle.lexemes.specs.Bytes.{all}
use Rattle.lexemes.specs.Reader.{run}

module _ (f : ℕ → Bool) where
  pub run_all : (bs : List ℕ) → all f (take (run f bs) bs) ≡ true
  unfolding run all
  run_all [] = refl
  run_all (b ∷ bs) = go (f b) refl (run_all bs)
    where
      go : (t : Bool) → f b ≡ t → all f (take (run f bs) bs) ≡ true → all f (take (cond t (suc (run f bs)) 0) (b ∷ bs)) ≡ true
      go true e h = rw (e, h)
      go false e h = refl

  pub run_inside : (bs : List ℕ) → run f bs ≤ length bs
  unfolding run
  run_inside [] = omega arith
  run_inside (b ∷ bs) = go (f b) (run_inside bs)
    where
      go : (t : Bool) → run f bs ≤ length bs → cond t (suc (run f bs)) 0 ≤ suc (length bs)
      go true h = omega arith
      go false h = omega arith

  -- nothing longer is of the class
  pub run_longest : (bs : List ℕ) (m : ℕ) → m ≤ length bs → all f (take m bs) ≡ true → m ≤ run f bs
  unfolding run all
  run_longest bs zero h a = omega arith
  run_longest [] (suc m) h a = absurd (omega arith)
  run_longest (b ∷ bs) (suc m) h a =
      let r = run_longest bs m (omega arith) (and_right (f b) (all f (take m bs)) a) in
      rw (and_left (f b) (all f (take m bs)) a) (omega arith)

  -- where bytes of the class are followed by one that is not, they are the run
  pub run_exact : (bs : List ℕ) (m : ℕ) → m ≤ length bs → all f (take m bs) ≡ true → f (get_or bs m 0) ≡ false → run f bs ≡ m
  unfolding run all
  run_exact [] zero h a e = refl
  run_exact (b ∷ bs) zero h a e = rw e
  run_exact [] (suc m) h a e = absurd (omega arith)
  run_exact (b ∷ bs) (suc m) h a e =
      rw (and_left (f b) (all f (take m bs)) a, run_exact bs m (omega arith) (and_right (f b) (all f (take m bs)) a) e)

  -- the byte behind a run; at the end of the text there stands none, and 0 is of no class that is asked
  pub run_next : (bs : List ℕ) → f 0 ≡ false → f (get_or bs (run f bs) 0) ≡ false
  unfolding run
  run_next [] z = z
  run_next (b ∷ bs) z = go (f b) refl (run_next bs z)
    where
      go : (t : Bool) → f b ≡ t → f (get_or bs (run f bs) 0) ≡ false → f (get_or (b ∷ bs) (cond t (suc (run f bs)) 0) 0) ≡ false
      go true e h = h
      go false e h = e

  -- a run that begins with a byte of the class is not empty
  pub run_some : (bs : List ℕ) → 0 < length bs → f (get_or bs 0 0) ≡ true → 0 < run f bs
  unfolding run
  run_some [] h e = absurd (omega arith)
  run_some (b ∷ bs) h e = rw e (omega arith)

  -- the first byte of bytes of the class
  pub all_first : (w : List ℕ) → 0 < length w → all f w ≡ true → f (get_or w 0 0) ≡ true
  unfolding all
  all_first [] h a = absurd (omega arith)
  all_first (b ∷ w) h a = and_left (f b) (all f w) a
