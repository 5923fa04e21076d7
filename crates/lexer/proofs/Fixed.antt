-- That any two results meeting the promise of `lex` are equal: the answer and the lent list. Assumes nothing.
use Prim.Native.Nat.{ℕ, ◌/◌, ◌≤◌}
use native.Mathlib.Omega.{arith}
use mathlib.Core.Path.{◌≡◌, refl, sym, ap, ◌∙◌}
use mathlib.Core.Bool.{cond}
use mathlib.Core.List.{List}
use mathlib.Core.Logic.{⊎_elim}
use lib.Dec.{eqb}
use lib.ListN.{length}
use Rattle.tokens.specs.Number.{most_tokens, token_width}
use Rattle.lexemes.proofs.Exists.{one_reading, one_refusal, never_both}
use Rattle.lexemes.specs.Errors.{error_number}
use Rattle.lexemes.specs.declared.LexemeError.{LexemeError}
use Rattle.lexemes.specs.declared.LexemeError.TheVariants.{StartsNothing, NotClosed, TooLarge}
use Rattle.lexer.specs.Call.{Lexed, NoRoom, LexCall, too_long, refused, too_short, read}

-- there is no room for a reading that has room
room_or_not : (room : ℕ) {n m : ℕ} → n ≡ m → NoRoom room n → m ≤ room / token_width → m ≤ most_tokens → ⊥
room_or_not room e none fits few = ⊎_elim (λ h. omega arith) (λ h. omega arith) none

-- the error of a number
error_of : ℕ → LexemeError
error_of n = cond (eqb n (error_number StartsNothing)) StartsNothing (cond (eqb n (error_number NotClosed)) NotClosed TooLarge)

told : (r : LexemeError) → error_of (error_number r) ≡ r
unfolding error_of
told StartsNothing = refl
told NotClosed = refl
told TooLarge = refl

-- so no two have one number
one_error : {r r₂ : LexemeError} → error_number r ≡ error_number r₂ → r ≡ r₂
one_error {r} {r₂} e = sym (told r) ∙ ap error_of e ∙ told r₂

-- of `lex`
pub one_call : {text list : List ℕ} {r r₂ : Lexed} {l l₂ : List ℕ} → LexCall text list r l → LexCall text list r₂ l₂ → (r ≡ r₂) × (l ≡ l₂)
one_call (too_long h) (too_long k) = (refl, refl)
one_call (too_long h) (refused k b) = absurd (omega arith)
one_call (too_long h) (too_short k b n) = absurd (omega arith)
one_call (too_long h) (read k b n m) = absurd (omega arith)
one_call (refused h a) (too_long k) = absurd (omega arith)
one_call {text} (refused h a) (refused k b) = let (r, q) = one_refusal text a b in (rw (one_error r, q), refl)
one_call {text} (refused h a) (too_short k b n) = absurd (never_both text b a)
one_call {text} (refused h a) (read k b n m) = absurd (never_both text b a)
one_call (too_short h a o) (too_long k) = absurd (omega arith)
one_call {text} (too_short h a o) (refused k b) = absurd (never_both text a b)
one_call {text} (too_short h a o) (too_short k b n) = (rw (one_reading text a b), refl)
one_call {text} {list} (too_short h a o) (read k b n m) = absurd (room_or_not (length list) (ap length (one_reading text a b)) o n m)
one_call (read h a o p) (too_long k) = absurd (omega arith)
one_call {text} (read h a o p) (refused k b) = absurd (never_both text a b)
one_call {text} {list} (read h a o p) (too_short k b n) = absurd (room_or_not (length list) (ap length (one_reading text b a)) n o p)
one_call {text} (read h a o p) (read k b n m) = (rw (one_reading text a b), rw (one_reading text a b))
