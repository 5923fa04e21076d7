-- Document 01: "Whitespace and Comment are dropped. The kept list receives the numbers of the other tokens in order".
use Rattle.std.specs.Prelude.{ℕ, zero, suc, ◌+◌, Bool, true, false, ◌||◌, List, [], ◌∷◌, eqb}
use Rattle.tokens.specs.Kind.{Whitespace, Comment}
use Rattle.tokens.specs.Token.{Token, token_count, kind_of, view, Positions, positions}

-- the kinds that are dropped
unfoldable pub dropped : ℕ → Bool
dropped kind = eqb kind Whitespace || eqb kind Comment

-- the number i before the rest, unless it is dropped
abbrev pub keep_unless : Bool → ℕ → List ℕ → List ℕ
keep_unless true i rest = rest
keep_unless false i rest = i ∷ rest

-- of `left` tokens from number i on, the numbers of those that are kept
unfoldable pub kept_from : List ℕ → ℕ → ℕ → List ℕ
kept_from words zero i = []
kept_from words (suc left) i = keep_unless (dropped (kind_of words i)) i (kept_from words left (i + 1))

-- what the kept list receives
unfoldable pub kept_of : List ℕ → List ℕ
kept_of words = kept_from words (token_count words) 0

-- the kept tokens, as the grammar sees them
abbrev pub kept_tokens : List ℕ → List ℕ → List Token
kept_tokens text words = view text words (kept_of words)

-- where they stand in the text
abbrev pub kept_positions : List ℕ → Positions
kept_positions words = positions words (kept_of words)
