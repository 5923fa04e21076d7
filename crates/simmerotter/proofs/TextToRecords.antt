-- From one text to its tokens, and from these to records: the list that the lexer leaves is never refused with 30. Assumes nothing.
use Prim.Native.Nat.{ℕ}
use native.Mathlib.Omega.{arith}
use mathlib.Core.Path.{◌≡◌, refl, sym, ap, subst, ◌∙◌}
use mathlib.Core.List.{List}
use mathlib.Core.Logic.{⊎_elim}
use lib.ListN.{get_or}
use Rattle.std.specs.Prelude.{Result, Ok}
use Rattle.tokens.specs.Number.{NotWellFormed}
use Rattle.statements.specs.declared.entry.BodyRead.{BodyRead}
use Rattle.statements.specs.declared.entry.BodyError.{BodyError}
use Rattle.statements.specs.Call as body
use Rattle.statements.proofs.Same as bodies
use Rattle.files.specs.declared.file.FileRead.{FileRead}
use Rattle.files.specs.declared.entry.FileError.{FileError}
use Rattle.files.specs.Call as file
use Rattle.files.proofs.Same as files
use Rattle.lexer.specs.Call as lexed
use Rattle.lexer.specs.Call.{Lexed, LexCall, too_long, refused, too_short, read}
use Rattle.lexer.proofs.Called.{tokens_in, call_formed, refusal_within}
use Rattle.simmerotter.specs.Answered.{LexAnswered, FileAnswered, BodyAnswered}

-- ---- of the entries

module _ {text list l : List ℕ} {n : ℕ} (cut : LexCall text list (Ok n) l) where
  pub file_not_30 : {mode : ℕ} {kept de st ar : List ℕ} {r : Result FileRead FileError} {k d s a : List ℕ} → file.FileCall mode text (tokens_in n l) kept de st ar r k d s a → ¬ (file.number_of r ≡ NotWellFormed)
  file_not_30 call = let formed = call_formed cut in (files.file_call_same_tokens call call formed formed refl refl refl refl refl).0.formed

  pub body_not_30 : {mode edition start : ℕ} {kept st ar : List ℕ} {r : Result BodyRead BodyError} {k s a : List ℕ} → body.BodyCall mode edition text (tokens_in n l) start kept st ar r k s a → ¬ (body.number_of r ≡ NotWellFormed)
  body_not_30 call = let formed = call_formed cut in (bodies.call_same_tokens call call formed formed refl refl refl refl).0.formed

-- ---- of the exported functions

-- the number 0 tells that the text was read
read_told : {text list l : List ℕ} {g : Lexed} → LexCall text list g l → get_or (lexed.values g) 0 0 ≡ 0 → g ≡ Ok (get_or (lexed.values g) 2 0)
read_told (too_long h) e = absurd (omega arith)
read_told (refused h a) e = absurd (⊎_elim (λ r. omega arith) (λ z. ⊎_elim (λ r. omega arith) (λ r. omega arith) z) (refusal_within a).0)
read_told (too_short h a o) e = absurd (omega arith)
read_told (read h a o p) e = refl

module _ {text list told l : List ℕ} (cut : LexAnswered text list told l) (accepted : get_or told 0 0 ≡ 0) where
  was_read : LexCall text list (Ok (get_or told 2 0)) l
  was_read =
      let e : get_or (lexed.values cut.given) 0 0 ≡ 0 = rw cut.numbers at accepted in
      let r = read_told cut.call e in
      rw cut.numbers (subst (λ (g : Lexed). LexCall text list g l) r cut.call)

  pub text_to_file : {mode : ℕ} {kept de st ar n k d s a : List ℕ} → FileAnswered mode text (tokens_in (get_or told 2 0) l) kept de st ar n k d s a → ¬ (get_or n 0 0 ≡ NotWellFormed)
  text_to_file x e = file_not_30 was_read x.call (sym (ap (λ (v : List ℕ). get_or v 0 0) x.numbers) ∙ e)

  pub text_to_body : {mode edition start : ℕ} {kept st ar n k s a : List ℕ} → BodyAnswered mode edition text (tokens_in (get_or told 2 0) l) start kept st ar n k s a → ¬ (get_or n 0 0 ≡ NotWellFormed)
  text_to_body x e = body_not_30 was_read x.call (sym (ap (λ (v : List ℕ). get_or v 0 0) x.numbers) ∙ e)
