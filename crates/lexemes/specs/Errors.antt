-- Request [4]: the numbers of what is refused.
use Rattle.std.specs.Prelude.{ℕ}
use Rattle.tokens.specs.Number as number
use Rattle.lexemes.specs.declared.LexemeError.{LexemeError}
use Rattle.lexemes.specs.declared.LexemeError.TheVariants.{StartsNothing, NotClosed, TooLarge}

-- "40 a byte or word that starts nothing, 41 a comment or string not closed, 42 a Num too large or literal too long"
abbrev pub error_number : LexemeError → ℕ
error_number StartsNothing = number.StartsNothing
error_number NotClosed = number.NotClosed
error_number TooLarge = number.TooLarge
