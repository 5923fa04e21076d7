-- Inner: what every reader is lent, as the clauses name it.
use Rattle.std.specs.Prelude.{ℕ, List, length, drop}
use Rattle.tokens.specs.Token.{Token, view}
use Rattle.tokens.specs.declared.source.Source.{Source}

-- the kept tokens, all of them, and those from place p on
abbrev pub all : Source → List Token
all source = view source.text.now source.tokens.now source.kept.now

abbrev pub all_from : Source → ℕ → List Token
all_from source p = drop p (all source)

-- how many there are
abbrev pub count : Source → ℕ
count source = length source.kept.now
