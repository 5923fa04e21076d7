-- Request [12]: "Whitespace and comments put between tokens".
use Rattle.std.specs.Prelude.{ℕ, suc, ◌+◌, ◌≤◌, ◌<◌, ◌≡◌, true, List, [], ◌∷◌, ◌++◌, length, take, drop}
use Rattle.tokens.specs.Number.{token_width}
use Rattle.tokens.specs.Token.{Token, token_count, kind_of, start_of, end_of, extra_of}
use Rattle.tokens.specs.WellFormed.{prev_end}
use Rattle.tokens.specs.Kept.{dropped}

-- the second list is the first with white space and comments put between its tokens, before the first one too, or taken out; one with another text counts as taken out
-- and put. Tokens are compared by kind, text and extra, not by where they stand
pub data PutBetween : List Token → List Token → Type 0 where
  -- no token is left in either
  done : PutBetween [] []
  -- the next token stands in both
  both : {t : Token} {ts us : List Token} → PutBetween ts us → PutBetween (t ∷ ts) (t ∷ us)
  -- the next token of the second is one that was put there
  put : {t : Token} {ts us : List Token} → dropped t.kind ≡ true → PutBetween ts us → PutBetween ts (t ∷ us)
  -- the next token of the first was taken out
  taken : {t : Token} {ts us : List Token} → dropped t.kind ≡ true → PutBetween ts us → PutBetween (t ∷ ts) us

-- the four words of token number i
abbrev pub fields_of : List ℕ → ℕ → List ℕ
fields_of words i = kind_of words i ∷ start_of words i ∷ end_of words i ∷ extra_of words i ∷ []

-- one token put into the text: the bytes `more` stand there at byte b, behind the token before number i and before token number i; the list has a token for them, white
-- space or a comment; and what stood behind them has moved on by as many bytes
pub record PutAt (text words : List ℕ) (i b : ℕ) (more text₂ words₂ : List ℕ) : Type 0 where
  pub inside : i < token_count words
  pub behind : prev_end words i ≤ b
  pub before : b ≤ start_of words i
  pub kind : ℕ
  pub blank : dropped kind ≡ true
  pub text_is : text₂ ≡ take b text ++ (more ++ drop b text)
  pub one_more : length words₂ ≡ length words + token_width
  pub earlier : (j : ℕ) → j < i → fields_of words₂ j ≡ fields_of words j
  pub its : fields_of words₂ i ≡ kind ∷ b ∷ (b + length more) ∷ 0 ∷ []
  pub later : (j : ℕ) → i ≤ j → j < token_count words
      → fields_of words₂ (suc j) ≡ kind_of words j ∷ (start_of words j + length more) ∷ (end_of words j + length more) ∷ extra_of words j ∷ []
