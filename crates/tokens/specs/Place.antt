-- Inner: a token by its place in the kept list, and what the door promises of that list: what every reader asks for.
use Rattle.std.specs.Prelude.{ℕ, suc, ◌+◌, ◌-◌, ◌*◌, ◌≤◌, ◌<◌, ◌≡◌, cond, List, length, get_or, drop, ltb}
use Rattle.tokens.specs.Number.{token_width, most_bytes, most_tokens}
use Rattle.tokens.specs.Token.{Token, token_count, part, view}

-- every number of a kept list is that of a token
pub record Numbered (words kept : List ℕ) : Type 0 where
  pub below : (p : ℕ) → p < length kept → get_or kept p 0 < token_count words

-- word j of the token at place p of the kept list, past its end 0: the kind (Eof there), the start, the end, the extra
unfoldable pub field_at : ℕ → List ℕ → List ℕ → ℕ → ℕ
field_at j words kept p = cond (ltb p (length kept)) (get_or words (get_or kept p 0 * token_width + j) 0) 0

abbrev pub kind_at : List ℕ → List ℕ → ℕ → ℕ
kind_at = field_at 0

-- a kind read at a place, and the bound by which a kind that is not Eof's lies inside the kept list
pub record KindAt (words kept : List ℕ) (p r : ℕ) : Type 0 where
  pub is : r ≡ kind_at words kept p
  pub inside : r ≤ 4294967295 * (length kept - p)

abbrev pub start_at : List ℕ → List ℕ → ℕ → ℕ
start_at = field_at 1

abbrev pub end_at : List ℕ → List ℕ → ℕ → ℕ
end_at = field_at 2

abbrev pub extra_at : List ℕ → List ℕ → ℕ → ℕ
extra_at = field_at 3

-- the bytes of the token at place p of the kept list
abbrev pub text_at : List ℕ → List ℕ → List ℕ → ℕ → List ℕ
text_at text words kept p = part text (start_at words kept p) (end_at words kept p)

-- each kept token starts at or before its end, ends at or before the next one's start, and within a text
pub record Lined (words kept : List ℕ) : Type 0 where
  pub range : (p : ℕ) → p < length kept → start_at words kept p ≤ end_at words kept p
  pub next : (p : ℕ) → suc p < length kept → end_at words kept p ≤ start_at words kept (suc p)
  pub end : (p : ℕ) → p < length kept → end_at words kept p ≤ most_bytes

-- the kept list of a well-formed token list: numbers of tokens, no more than a list may have, one behind the other in the text
pub record FromDoor (words kept : List ℕ) : Type 0 where
  pub numbered : Numbered words kept
  pub few : length kept ≤ most_tokens
  pub lined : Lined words kept

-- such a list, and a place in it or at its end
pub record Place (words kept : List ℕ) (p : ℕ) : Type 0 where
  pub list : FromDoor words kept
  pub inside : p ≤ length kept

-- the kept tokens from place p on
abbrev pub tokens_from : List ℕ → List ℕ → List ℕ → ℕ → List Token
tokens_from text words kept p = drop p (view text words kept)
