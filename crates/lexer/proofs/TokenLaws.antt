-- The token that a lexeme is, by what the code has found of it. Assumes nothing.
use Prim.Native.Nat.{ℕ, ◌+◌, ◌-◌, ◌*◌, ◌≤◌, ◌<◌}
use Prim.Native.Char.{code}
use mathlib.Core.Path.{◌≡◌, sym}
use mathlib.Core.Bool.{Bool, true, false, not, false≢true}
use mathlib.Core.List.{List, [], ◌∷◌}
use native.Mathlib.Omega.{arith}
use native.Mathlib.Numerals.{add-one}
use native.Mathlib.Nat.{add-zero, sub-zero}
use borrow.Author.Tests.{ne_eqb, lt-ltb, le-ltb}
use lib.Dec.{ltb}
use lib.ListN.{length, get_or, take, drop, drop_of_length-le}
use lib.Seq.{drop-cons, get_or-drop}
use Rattle.std.specs.Prelude.{Option, Some, None, Ok, Err, MatchOption, is_some}
use Rattle.tokens.specs.Kind.{Ident, Num}
use Rattle.tokens.specs.Number.{most_number}
use Rattle.lexemes.specs.Bytes.{first}
use Rattle.lexemes.specs.Words.{Told, word_of}
use Rattle.lexemes.specs.Texts.{decimal_after, decimal, too_large, told, quotes}
use Rattle.lexemes.specs.Reader.{lexeme_of, Step, token, step_of, step_at}
use Rattle.lexemes.specs.declared.Context.{Context}
use Rattle.lexemes.specs.declared.Found.{Found}
use Rattle.lexemes.specs.declared.LexemeError.{LexemeError}
use Rattle.lexemes.specs.declared.LexemeError.TheVariants.{TooLarge}
use Rattle.lexemes.proofs.FoundLaws.{lexeme_in}

-- ---- decimal numbers

pub decimal_step : (v : ℕ) (t : List ℕ) (i w : ℕ) → i < length t → w ≡ get_or t i 0 - code "0" → decimal_after v (drop i t) ≡ decimal_after (v * 10 + w) (drop (i + 1) t)
unfolding decimal_after
decimal_step v t i w h e = rw (add-one i, drop-cons t i 0 h, e)

pub decimal_end : (v : ℕ) (t : List ℕ) (i : ℕ) → length t ≤ i → decimal_after v (drop i t) ≡ v
unfolding decimal_after
decimal_end v t i h = rw (drop_of_length-le t h)

pub decimal_grows : (v : ℕ) (ds : List ℕ) → v ≤ decimal_after v ds
unfolding decimal_after
decimal_grows v [] = omega arith
decimal_grows v (d ∷ ds) = let h = decimal_grows (v * 10 + (d - code "0")) ds in omega arith

-- that there is no such number says that it is too large
pub none_large : (r : Option ℕ) (b : Bool) (n : ℕ) → MatchOption r (most_number < n) (λ v. (v ≤ most_number) × (v ≡ n)) → is_some r ≡ not b → b ≡ ltb most_number n
none_large None true n l e = rw (lt-ltb most_number n l)
none_large None false n l e = absurd (false≢true e)
none_large (Some v) true n h e = absurd (false≢true (sym e))
none_large (Some v) false n h e = rw (le-ltb most_number n (omega (arith, h.0, h.1)))

-- ---- the lexeme that was found, and what is left behind it

module _ (c : Context) (s : ℕ) (bs : List ℕ) where
  pub stop_found : (r : LexemeError) → Err r ≡ lexeme_of c bs → Err r ≡ step_at c s bs
  unfolding step_at
  stop_found r e = rw (← e)

  module _ (f : Found) (e : Ok f ≡ lexeme_of c bs) where
    pub found_in : 0 < length bs → (0 < f.length) × (f.length ≤ length bs)
    found_in h = lexeme_in c bs f.kind f.length (sym e) h

    pub step_found : (w behind : List ℕ) → w ≡ take f.length bs → length w ≡ f.length → behind ≡ drop f.length bs → step_of c s (s + length w) f.kind w (first behind) ≡ step_at c s bs
    unfolding step_at
    step_found w behind i l j = let z : f.length + 0 ≡ f.length = omega arith in rw (l, i, j, get_or-drop f.length bs 0 0, z, ← e)

-- ---- the lexeme w, which begins at byte s, with the bytes `behind` behind it

module _ (c : Context) (s : ℕ) (w behind : List ℕ) where
  abbrev End : ℕ
  End = s + length w

  pub step_word : (k x : ℕ) {r : Step} → ◌≡◌ {A = Told} (k, x) (word_of c w (first behind)) → r ≡ token k s End x End → r ≡ step_of c s End Ident w (first behind)
  unfolding step_of too_large told quotes
  step_word k x i j = rw (← i, add-zero, sub-zero, j)

  pub step_num_large : most_number < decimal w → Err TooLarge ≡ step_of c s End Num w (first behind)
  unfolding step_of too_large
  step_num_large l = rw (lt-ltb most_number (decimal w) l)

  pub step_num : (v : ℕ) {r : Step} → v ≤ most_number → v ≡ decimal w → r ≡ token Num s End v End → r ≡ step_of c s End Num w (first behind)
  unfolding step_of too_large told quotes
  step_num v l i j = rw (j, i, le-ltb most_number (decimal w) (omega arith), add-zero, sub-zero)

  module _ (k : ℕ) where
    pub step_large : too_large k w ≡ true → Err TooLarge ≡ step_of c s End k w (first behind)
    unfolding step_of
    step_large h = rw h

    pub step_plain : (q : ℕ) {r : Step} → (k ≡ Ident → ⊥) → (k ≡ Num → ⊥) → too_large k w ≡ false → q ≡ quotes k → r ≡ token k (s + q) (End - q) 0 End
        → r ≡ step_of c s End k w (first behind)
    unfolding step_of told
    step_plain q h i l j m = rw (m, l, j, ne_eqb k Ident h, ne_eqb k Num i)
