-- What an answer of the reader means, in the words of the grammar.
use Rattle.std.specs.Prelude.{ℕ, ◌+◌, ◌≡◌, List, drop}
use Rattle.tokens.specs.Token.{Token}
use Rattle.grammar.specs.Rules.{Rules}
use Rattle.grammar.specs.Reading.{Reading}
use Rattle.grammar.specs.Result.{Answer, read, refused}
use Rattle.grammar.specs.Follows.{Follows, FirstWrong, past}

-- read: the tokens taken follow the grammar and read so; refused: there is a first wrong place, and the cursor is it or one past it
abbrev pub Means : Rules → List Token → ℕ → Answer Reading → Type 0
Means m kept p (read r n) = Follows m kept p n r
Means m kept p (refused c q) = (w : ℕ) × FirstWrong m kept p w × (q ≡ w + past c (drop w kept))
