-- Request [4]'s own words for where a token stands. In a reading they come to the same as the context that its token is read in (proofs/Braces).
use Rattle.std.specs.Prelude.{ℕ, ◌<◌, ◌≡◌, List}
use Rattle.tokens.specs.Kind.{CodeTable, OpenBrace, CloseBrace}
use Rattle.tokens.specs.Token.{kind_of}

-- of the tokens behind number i and before number j none is of this kind
abbrev pub NoneBetween : List ℕ → ℕ → ℕ → ℕ → Type 0
NoneBetween words kind i j = (m : ℕ) → i < m → m < j → ¬ (kind_of words m ≡ kind)

-- "Braces reach from `{` to the next `}`": token number i stands inside braces
pub record InBraces (words : List ℕ) (i : ℕ) : Type 0 where
  pub brace : ℕ
  pub before : brace < i
  pub opening : kind_of words brace ≡ OpenBrace
  pub unclosed : NoneBetween words CloseBrace brace i

-- a CodeTable stands before token number i, and no OpenBrace since
pub record BehindTable (words : List ℕ) (i : ℕ) : Type 0 where
  pub table : ℕ
  pub before : table < i
  pub is : kind_of words table ≡ CodeTable
  pub since : NoneBetween words OpenBrace table i

-- "Inside those next after a CodeTable"
pub record InCodeTable (words : List ℕ) (i : ℕ) : Type 0 where
  pub brace : ℕ
  pub behind : BehindTable words brace
  pub before : brace < i
  pub opening : kind_of words brace ≡ OpenBrace
  pub unclosed : NoneBetween words CloseBrace brace i
