-- Request [12], "the same mistake, the same answer": the words in which its theorems are stated. They speak of two calls, and of what both were lent: `lent` to
-- the one, which leaves `lent'`, and `lent₂` to the other, which leaves `lent₂'`.
use Rattle.std.specs.Prelude.{ℕ, suc, ◌-◌, ◌≡◌, Bool, true, false, List, map, length, take, drop}
use Rattle.std.proofs.lemmas.List.Edits.{sets}
use Rattle.tokens.specs.Number.{statement_width, argument_width}
use Rattle.tokens.specs.Token.{Token, Positions}
use Rattle.tokens.specs.Kept.{kept_of}
use Rattle.grammar.specs.Facts.{All, HasWords}
use Rattle.grammar.specs.Call.{filled}
use Rattle.grammar.specs.TextRanges.{unplaced_width, placed}

-- the same tokens, in kind, text and extra, stand in both lists from place p to place q inclusive; if the one has a token at a place of these, so has the other
abbrev pub Agree : ℕ → ℕ → List Token → List Token → Type 0
Agree p q kept other = take (suc q - p) (drop p kept) ≡ take (suc q - p) (drop p other)

-- something lent, after both calls: turned away before they read, each is as it was lent; else what Same says
pub record AfterBoth (away : Bool) (Same : List ℕ → List ℕ → List ℕ → List ℕ → Type 0) (lent lent₂ lent' lent₂' : List ℕ) : Type 0 where
  pub unchanged : away ≡ true → (lent' ≡ lent) × (lent₂' ≡ lent₂)
  pub same : away ≡ false → Same lent lent₂ lent' lent₂'

-- each kept list has the numbers of its own list's kept tokens, and behind them what stood there
pub record OwnNumbers (words words₂ lent lent₂ lent' lent₂' : List ℕ) : Type 0 where
  pub first : lent' ≡ sets lent 0 (kept_of words)
  pub second : lent₂' ≡ sets lent₂ 0 (kept_of words₂)

-- both tables are made of the same `count` lists of `width` words: of each `whole` makes the record in the one table, `whole₂` that in the other; zeros follow
pub record SameRecords (whole whole₂ : List ℕ → List ℕ) (count width : ℕ) (lent lent₂ lent' lent₂' : List ℕ) : Type 0 where
  pub parts : List (List ℕ)
  pub as_many : length parts ≡ count
  pub wide : All (HasWords width) parts
  pub first : lent' ≡ filled (length lent) (map whole parts)
  pub second : lent₂' ≡ filled (length lent₂) (map whole₂ parts)

-- definition records but for their last two words; those are where the tokens of each list stand in its own text
abbrev pub SameDefinitions : Positions → Positions → ℕ → List ℕ → List ℕ → List ℕ → List ℕ → Type 0
SameDefinitions pos pos₂ count = SameRecords (placed pos) (placed pos₂) count unplaced_width

-- a record as it is
abbrev pub as_is : List ℕ → List ℕ
as_is words = words

-- statement records, all words of each
abbrev pub SameStatements : ℕ → List ℕ → List ℕ → List ℕ → List ℕ → Type 0
SameStatements count = SameRecords as_is as_is count statement_width

-- argument records, all words of each
abbrev pub SameArguments : ℕ → List ℕ → List ℕ → List ℕ → List ℕ → Type 0
SameArguments count = SameRecords as_is as_is count argument_width
