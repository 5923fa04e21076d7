-- Request [4], for reviewers: what can be said of a token list beside its text, token by token.
use Rattle.std.specs.Prelude.{ℕ, zero, suc, ◌+◌, ◌-◌, ◌*◌, ◌≤◌, ◌<◌, ◌≡◌, true, List, [], ◌∷◌, length, get_or, drop}
use Rattle.tokens.specs.Kind.{Str}
use Rattle.tokens.specs.Number.{token_width}
use Rattle.tokens.specs.Token.{token_count, kind_of, start_of, end_of, extra_of}
use Rattle.lexemes.specs.Bytes.{is_quote}
use Rattle.lexemes.specs.Contexts.{after}
use Rattle.lexemes.specs.Texts.{quotes, IsToken}
use Rattle.lexemes.specs.Reads.{eof_at}
use Rattle.lexemes.specs.declared.Context.{Context}
use Rattle.lexemes.specs.declared.Context.TheVariants.{Out}

-- where token number i begins and ends in the text, with the quotes that its range leaves out
abbrev pub opens_at : List ℕ → ℕ → ℕ
opens_at words i = start_of words i - quotes (kind_of words i)

abbrev pub closes_at : List ℕ → ℕ → ℕ
closes_at words i = end_of words i + quotes (kind_of words i)

-- "their ranges with the left-out quotes cover it": each token begins where the one before it ends, the first at the text's start; the last is empty, at its end, and all
-- others are not; what is left out are two equal quotes around a Str
pub record Covers (text words : List ℕ) : Type 0 where
  pub any : 0 < token_count words
  pub start : opens_at words 0 ≡ 0
  pub next : (i : ℕ) → i + 1 < token_count words → opens_at words (i + 1) ≡ closes_at words i
  pub end : (i : ℕ) → i + 1 ≡ token_count words → (opens_at words i ≡ length text) × (closes_at words i ≡ length text)
  pub some : (i : ℕ) → i + 1 < token_count words → opens_at words i < closes_at words i
  pub quoted : (i : ℕ) → i < token_count words → kind_of words i ≡ Str
      → (0 < start_of words i) × (start_of words i ≤ end_of words i) × (is_quote (get_or text (opens_at words i) 0) ≡ true) × (get_or text (end_of words i) 0 ≡ get_or text (opens_at words i) 0)

-- where token number i is read: by the kinds before it, from outside braces on
unfoldable pub context_at : List ℕ → ℕ → Context
context_at words zero = Out
context_at words (suc i) = after (context_at words i) (kind_of words i)

-- the four words of token number i
abbrev pub words_of : List ℕ → ℕ → List ℕ
words_of words i = kind_of words i ∷ start_of words i ∷ end_of words i ∷ extra_of words i ∷ []

-- right token by token: each token but the last is one by its own bytes, those behind it and its context, and begins where the one before it ended; the last is Eof at the text's end
pub record Right (text words : List ℕ) : Type 0 where
  pub whole : length words ≡ token_count words * token_width
  pub some : 0 < token_count words
  pub start : opens_at words 0 ≡ 0
  pub next : (i : ℕ) → i + 1 < token_count words → opens_at words (i + 1) ≡ closes_at words i
  pub each : (i : ℕ) → i + 1 < token_count words
      → (opens_at words i < length text)
      × IsToken (context_at words i) (opens_at words i) (drop (opens_at words i) text) (closes_at words i - opens_at words i) (words_of words i)
  pub last : (i : ℕ) → i + 1 ≡ token_count words → words_of words i ≡ eof_at (length text)
