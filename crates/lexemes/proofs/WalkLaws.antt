-- The walk over a text goes on token by token, and each step lies in the text. Assumes nothing.
use Prim.Native.Nat.{ℕ, zero, suc, ◌+◌, ◌-◌, ◌≤◌, ◌<◌}
use mathlib.Core.Path.{◌≡◌, sym, subst, ◌∙◌}
use mathlib.Core.Bool.{Bool, true, false, cond}
use mathlib.Core.List.{List, [], ◌∷◌}
use native.Mathlib.Omega.{arith}
use native.Mathlib.Numerals.{add-one}
use lib.ListN.{length, get_or, take, drop, length-drop, drop_of_length-le}
use lib.Seq.{drop-cons, drop-drop}
use Rattle.std.specs.Prelude.{Ok, Err}
use Rattle.lexemes.specs.Contexts.{after}
use Rattle.lexemes.specs.Texts.{too_large}
use Rattle.lexemes.specs.Errors.{error_number}
use Rattle.lexemes.specs.Reads.{eof_at}
use Rattle.lexemes.specs.Reader.{Look, lexeme_of, Step, token, step_of, step, step_at, whole, refused, more, onto, walk}
use Rattle.lexemes.specs.declared.Context.{Context}
use Rattle.lexemes.specs.declared.LexemeError.{LexemeError}
use Rattle.lexemes.proofs.FoundLaws.{Fits, fits}

-- ---- a step lies in the text

-- a token's lexeme begins at s, is not empty and ends in the text
abbrev pub StepIn : ℕ → ℕ → Step → Type 0
StepIn s size (Ok t) = (s < t.next) × (t.next ≤ size)
StepIn s size (Err r) = Unit {0}

-- both ways of a test
either : (P : Step → Type 0) (t : Bool) {a b : Step} → P a → P b → P (cond t a b)
either P true p q = p
either P false p q = q

lexeme_step_in : (c : Context) (s e k : ℕ) (w : List ℕ) (next size : ℕ) → s < e → e ≤ size → StepIn s size (step_of c s e k w next)
unfolding step_of
lexeme_step_in c s e k w next size h l = either (StepIn s size) (too_large k w) tt (h, l)

found_step_in : (c : Context) (s : ℕ) (bs : List ℕ) (f : Look) (size : ℕ) → Fits (length bs) f → s + length bs ≤ size → StepIn s size (step c s bs f)
found_step_in c s bs (Ok l) size f h = lexeme_step_in c s (s + l.length) l.kind (take l.length bs) (get_or bs l.length 0) size (omega arith) (omega arith)
found_step_in c s bs (Err r) size f h = tt

pub step_in : (c : Context) (s : ℕ) (t : List ℕ) → s < length t → StepIn s (length t) (step_at c s (drop s t))
unfolding step_at
step_in c s t h =
    let d = length-drop s t in
    found_step_in c s (drop s t) (lexeme_of c (drop s t)) (length t) (fits (drop s t) (omega arith) c) (omega arith)

-- the same of the token that it is
pub token_in : (c : Context) (s : ℕ) (t : List ℕ) {k a e x n : ℕ} → s < length t → token k a e x n ≡ step_at c s (drop s t) → (s < n) × (n ≤ length t)
token_in c s t h i = subst (λ (x : Step). StepIn s (length t) x) (sym i) (step_in c s t h)

-- ---- the walk

-- the bytes of a lexeme are passed
pub walk_skip : (c : Context) (s k : ℕ) (bs : List ℕ) → k ≤ length bs → walk c s k bs ≡ walk c (s + k) 0 (drop k bs)
unfolding walk
walk_skip c s zero bs h = let z : s + 0 ≡ s = omega arith in rw z
walk_skip c s (suc k) [] h = absurd (omega arith)
walk_skip c s (suc k) (b ∷ bs) h = let z : s + 1 + k ≡ s + suc k = omega arith in walk_skip c (s + 1) k bs (omega arith) ∙ rw z

module _ (c : Context) (t : List ℕ) (s : ℕ) where
  pub walk_end : length t ≤ s → walk c s 0 (drop s t) ≡ record { tokens = eof_at s ∷ []; end = whole }
  unfolding walk
  walk_end h = rw (drop_of_length-le t h)

  one : s < length t → walk c s 0 (drop s t) ≡ onto s (step_at c s (drop s t)) (λ kind n. walk (after c kind) (s + 1) (n - (s + 1)) (drop (s + 1) t))
  unfolding walk
  one h = let d : drop s t ≡ get_or t s 0 ∷ drop (s + 1) t = rw (add-one s) (drop-cons t s 0 h) in rw d

  pub walk_stop : (r : LexemeError) → s < length t → Err r ≡ step_at c s (drop s t) → walk c s 0 (drop s t) ≡ record { tokens = []; end = refused (error_number r) s }
  walk_stop r h e = one h ∙ rw (← e)

  pub walk_token : (k a e x n : ℕ) → s < length t → token k a e x n ≡ step_at c s (drop s t) → s < n → n ≤ length t
      → walk c s 0 (drop s t) ≡ more (k ∷ a ∷ e ∷ x ∷ []) (walk (after c k) n 0 (drop n t))
  walk_token k a e x n h i l m =
      let d = length-drop (s + 1) t in
      let z : s + 1 + (n - (s + 1)) ≡ n = omega arith in
      one h ∙ rw (← i, walk_skip (after c k) (s + 1) (n - (s + 1)) (drop (s + 1) t) (omega arith), drop-drop (n - (s + 1)) (s + 1) t, z)
