-- Inner: what the writers of the kept list ask for.
use Rattle.std.specs.Prelude.{ℕ, ◌+◌, ◌<◌, ◌≡◌, List}
use Rattle.tokens.specs.Kind.{Eof}
use Rattle.tokens.specs.Token.{token_count, kind_of}

-- there is a last token, it is Eof, and no other is
pub record EofLast (words : List ℕ) : Type 0 where
  pub some : 0 < token_count words
  pub last : (i : ℕ) → i + 1 ≡ token_count words → kind_of words i ≡ Eof
  pub others : (i : ℕ) → i + 1 < token_count words → 0 < kind_of words i
