-- Request [4]: the call: its answer, and the token list behind it.
use Rattle.std.specs.Prelude.{ℕ, ◌*◌, ◌-◌, ◌/◌, ◌≤◌, ◌<◌, ◌⊎◌, length, replicate, Result, Ok, Err}
use mathlib.Core.List.{List, [], ◌∷◌, ◌++◌, flatten}
use Rattle.tokens.specs.Number.{most_bytes, most_tokens, token_width}
use Rattle.tokens.specs.Number as number
use Rattle.lexemes.specs.Errors.{error_number}
use Rattle.lexemes.specs.Reads.{Reading, Refusal}
use Rattle.lexemes.specs.declared.LexemeError.{LexemeError}
use Rattle.lexer.specs.declared.call.LexError.{LexError}
use Rattle.lexer.specs.declared.call.LexError.TheVariants.{TextTooLong, Refused, TokensTooShort}

-- how many tokens were written, or why none were
abbrev pub Lexed : Type 0
Lexed = Result ℕ LexError

-- request [4]'s three numbers for each answer: number, cursor, tokens
abbrev pub values : Lexed → List ℕ
values (Err TextTooLong) = number.TextTooLong ∷ 0 ∷ 0 ∷ []
values (Err (Refused r q)) = error_number r ∷ q ∷ 0 ∷ []
values (Err (TokensTooShort need)) = number.TokensTooShort ∷ need ∷ 0 ∷ []
values (Ok n) = 0 ∷ 0 ∷ n ∷ []

-- "token list too short or above 65,536 tokens": so many tokens have no room in a list of `room` words, or are too many for any list
abbrev pub NoRoom : ℕ → ℕ → Type 0
NoRoom room n = (room / token_width < n) ⊎ (most_tokens < n)

-- what a call promises of a text and a lent list: its answer, and the list afterwards. Refused, the list is as it was; accepted, it holds the tokens' words and zeros behind them
pub data LexCall (text list : List ℕ) : Lexed → List ℕ → Type 0 where
  too_long : most_bytes < length text → LexCall text list (Err TextTooLong) list
  refused : {r : LexemeError} {q : ℕ} → length text ≤ most_bytes → Refusal text (error_number r) q → LexCall text list (Err (Refused r q)) list
  too_short : {ts : List (List ℕ)} → length text ≤ most_bytes → Reading text ts → NoRoom (length list) (length ts) → LexCall text list (Err (TokensTooShort (length ts))) list
  read : {ts : List (List ℕ)} → length text ≤ most_bytes → Reading text ts → length ts ≤ length list / token_width → length ts ≤ most_tokens
      → LexCall text list (Ok (length ts)) (flatten ts ++ replicate (length list - length ts * token_width) 0)
