-- A token as the grammar sees it, and how the lent words hold it: four a token, kind, start, end, extra.
use Rattle.std.specs.Prelude.{ℕ, zero, suc, ◌+◌, ◌-◌, ◌*◌, ◌/◌, List, [], ◌∷◌, map, length, get_or, take, drop}
use Rattle.tokens.specs.Kind.{Eof}
use Rattle.tokens.specs.Number.{token_width}

-- all that a rule may look at
pub record Token : Type 0 where
  pub kind : ℕ
  -- its bytes
  pub text : List ℕ
  pub extra : ℕ

-- what stands past the end of every list
abbrev pub eof_token : Token
eof_token = record { kind = Eof; text = []; extra = 0 }

-- how many tokens the words hold
abbrev pub token_count : List ℕ → ℕ
token_count words = length words / token_width

-- the fields of token number i, of the lent list; past the end 0
abbrev pub kind_of : List ℕ → ℕ → ℕ
kind_of words i = get_or words (i * token_width) 0

abbrev pub start_of : List ℕ → ℕ → ℕ
start_of words i = get_or words (i * token_width + 1) 0

abbrev pub end_of : List ℕ → ℕ → ℕ
end_of words i = get_or words (i * token_width + 2) 0

abbrev pub extra_of : List ℕ → ℕ → ℕ
extra_of words i = get_or words (i * token_width + 3) 0

-- the bytes of a text from one place up to another
abbrev pub part : List ℕ → ℕ → ℕ → List ℕ
part text start end = take (end - start) (drop start text)

-- token number i
unfoldable pub token_of : List ℕ → List ℕ → ℕ → Token
token_of text words i = record { kind = kind_of words i; text = part text (start_of words i) (end_of words i); extra = extra_of words i }

-- the view: the tokens whose numbers the kept list holds, in its order
unfoldable pub view : List ℕ → List ℕ → List ℕ → List Token
view text words kept = map (token_of text words) kept

-- so many numbers from i on
unfoldable pub numbers : ℕ → ℕ → List ℕ
numbers i zero = []
numbers i (suc left) = i ∷ numbers (i + 1) left

-- all tokens of the lent list, white space and comments too
abbrev pub all_tokens : List ℕ → List ℕ → List Token
all_tokens text words = view text words (numbers 0 (token_count words))

-- where the tokens of a view stand in the text, by their places: the byte at which a token starts, and the byte before which it ends. No rule looks at it: only the
-- record of a definition has it, and what is said of that record (request [7])
pub record Positions : Type 0 where
  pub start : ℕ → ℕ
  pub end : ℕ → ℕ

-- of the tokens whose numbers the kept list holds, as the words say
abbrev pub positions : List ℕ → List ℕ → Positions
positions words kept = record { start = λ p. start_of words (get_or kept p 0); end = λ p. end_of words (get_or kept p 0) }

-- the token at a place of a view, past its end an Eof
abbrev pub token_at : List Token → ℕ → Token
token_at tokens p = get_or tokens p eof_token
