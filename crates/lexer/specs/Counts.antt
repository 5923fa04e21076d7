-- Inner: what the pass that counts keeps of a token, and what it answers.
use Rattle.std.specs.Prelude.{◌≡◌, length, Result, Ok, Err, ℕ}
use Rattle.lexemes.specs.Contexts.{after}
use Rattle.lexemes.specs.Errors.{error_number}
use Rattle.lexemes.specs.Reader.{Step, Walked, whole, refused}
use Rattle.lexemes.specs.declared.Context.{Context}
use Rattle.lexemes.specs.declared.LexemeError.{LexemeError}
use Rattle.lexer.specs.declared.skip.Skip.{Skip}
use Rattle.lexer.specs.declared.call.LexError.{LexError}
use Rattle.lexer.specs.declared.call.LexError.TheVariants.{TextTooLong, Refused, TokensTooShort}

-- the context behind a token, and where the next one begins
unfoldable pub skip_of : Context → Step → Result Skip LexemeError
skip_of c (Ok t) = Ok (record { context = after c t.kind; next = t.next })
skip_of c (Err r) = Err r

-- how many tokens a walk has, or its refusal
abbrev pub Counts : Walked → Result ℕ LexError → Type 0
Counts w (Ok n) = (w.end ≡ whole) × (n ≡ length w.tokens)
Counts w (Err TextTooLong) = ⊥
Counts w (Err (Refused r q)) = w.end ≡ refused (error_number r) q
Counts w (Err (TokensTooShort n)) = ⊥
