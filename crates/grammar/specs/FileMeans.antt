-- What an answer of the file's reader means, in the words of the grammar.
use Rattle.std.specs.Prelude.{ℕ, ◌≡◌, true, false, List, eqb}
use Rattle.tokens.specs.Number.{DuplicateMacro}
use Rattle.tokens.specs.Token.{Token}
use Rattle.grammar.specs.Rules.{Rules}
use Rattle.grammar.specs.FileReading.{Definition}
use Rattle.grammar.specs.Result.{Answer, read, refused}
use Rattle.grammar.specs.FileFollows.{FollowsFile, RepeatedAt, FirstWrongFile, CursorAt}

-- read: the tokens before Eof are a file that reads so; 20: a name is repeated there; any other number: there is a first wrong token, and the cursor is it
-- or one past it
pub data MeansFile (m : Rules) (kept : List Token) : Answer (List Definition) → Type 0 where
  means_read : {ds : List Definition} {n : ℕ} → FollowsFile m true kept n ds → MeansFile m kept (read ds n)
  means_repeated : {c q : ℕ} → c ≡ DuplicateMacro → RepeatedAt m kept q → MeansFile m kept (refused c q)
  means_wrong : {c q : ℕ} (w : ℕ) → eqb c DuplicateMacro ≡ false → FirstWrongFile m kept w → CursorAt m kept c q w → MeansFile m kept (refused c q)
