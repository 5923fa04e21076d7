-- Document 01, "Well formed".
use Rattle.std.specs.Prelude.{ℕ, zero, suc, ◌+◌, ◌%◌, ◌<◌, ◌≡◌, Bool, true, false, cond, not, ◌&&◌, List, length, leb, ltb, eqb}
use Rattle.tokens.specs.Kind.{kinds, Eof, Ident, Label, Literal, Opcode, Num}
use Rattle.tokens.specs.Number.{token_width, most_bytes, most_tokens}
use Rattle.tokens.specs.Token.{token_count, kind_of, start_of, end_of, extra_of, part}
use Rattle.tokens.specs.Literal.{is_literal}

-- the whole list: the text at most 1,048,576 bytes, the words four a token, 1 to 65,536 tokens
unfoldable pub whole_good : List ℕ → List ℕ → Bool
whole_good text words =
    leb (length text) most_bytes && eqb (length words % token_width) 0 && ltb 0 (token_count words) && leb (token_count words) most_tokens

-- where the token before number i ends; before the first, 0
unfoldable pub prev_end : List ℕ → ℕ → ℕ
prev_end words zero = 0
prev_end words (suc i) = end_of words i

-- start ≤ end ≤ text length; start at or after the previous end
unfoldable pub range_good : ℕ → ℕ → ℕ → ℕ → Bool
range_good size prev start end = leb prev start && leb start end && leb end size

-- the last token is Eof and no other is
unfoldable pub eof_good : Bool → ℕ → Bool
eof_good true kind = eqb kind Eof
eof_good false kind = not (eqb kind Eof)

-- Ident and Label not empty; a Literal's text is a literal
unfoldable pub text_good : ℕ → List ℕ → Bool
text_good kind text =
    cond (eqb kind Ident) (ltb 0 (length text))
    (cond (eqb kind Label) (ltb 0 (length text)) (cond (eqb kind Literal) (is_literal text) true))

-- extra is the opcode byte (at most 255) for Opcode, the number for Num, else 0
unfoldable pub extra_good : ℕ → ℕ → Bool
extra_good kind extra = cond (eqb kind Opcode) (leb extra 255) (cond (eqb kind Num) true (eqb extra 0))

-- text and extra of a token of this kind and range
unfoldable pub contents_good : List ℕ → ℕ → ℕ → ℕ → ℕ → Bool
contents_good text kind start end extra = text_good kind (part text start end) && extra_good kind extra

-- token number i is as it should be, where the one before it ends at prev
unfoldable pub good_after : List ℕ → List ℕ → ℕ → ℕ → Bool
good_after text words prev i =
    ltb (kind_of words i) kinds
    && range_good (length text) prev (start_of words i) (end_of words i)
    && eof_good (eqb (i + 1) (token_count words)) (kind_of words i)
    && contents_good text (kind_of words i) (start_of words i) (end_of words i) (extra_of words i)

-- token number i is as it should be
unfoldable pub good : List ℕ → List ℕ → ℕ → Bool
good text words i = good_after text words (prev_end words i) i

-- of the tokens from number i on, the first bad one's number, or the number behind the last if none of `left` is bad
unfoldable pub bad_from : List ℕ → List ℕ → ℕ → ℕ → ℕ
bad_from text words zero i = i
bad_from text words (suc left) i = cond (good text words i) (bad_from text words left (i + 1)) i

-- the first bad token's number in the lent list; the number of tokens if none is bad
unfoldable pub first_bad : List ℕ → List ℕ → ℕ
first_bad text words = bad_from text words (token_count words) 0

-- well formed, whole
pub record WellFormed (text words : List ℕ) : Type 0 where
  pub whole : whole_good text words ≡ true
  pub each : (i : ℕ) → i < token_count words → good text words i ≡ true
