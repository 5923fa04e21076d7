-- Bytes of a text: the classes that request [4] names.
use Rattle.std.specs.Prelude.{ℕ, Bool, true, not, ◌&&◌, ◌||◌, List, [], ◌∷◌, length, get_or, take, eqb}
use Prim.Native.Char.{code}
use Rattle.tokens.specs.Byte.{same, from_to}

-- bytes for which no character can be written here
abbrev pub tab : ℕ
tab = 9

abbrev pub LF : ℕ
LF = 10

abbrev pub CR : ℕ
CR = 13

-- "space, tab, CR and LF"
unfoldable pub is_space : ℕ → Bool
is_space b = eqb b (code " ") || eqb b tab || eqb b CR || eqb b LF

-- "decimal digits"
unfoldable pub is_digit : ℕ → Bool
is_digit b = from_to "0" "9" b

-- "ASCII letters, digits and underscores"
unfoldable pub is_word_byte : ℕ → Bool
is_word_byte b = is_digit b || from_to "A" "Z" b || eqb b (code "_") || from_to "a" "z" b

-- "quotes of either sort"
unfoldable pub is_quote : ℕ → Bool
is_quote b = eqb b (code "\"") || eqb b (code "'")

-- in a line: all bytes but LF
unfoldable pub in_line : ℕ → Bool
in_line b = not (eqb b LF)

-- in a string between these quotes: "a Str without LF", and the quote ends it
unfoldable pub in_quotes : ℕ → ℕ → Bool
in_quotes quote b = not (eqb b quote) && in_line b

-- every byte is of the class
unfoldable pub all : (ℕ → Bool) → List ℕ → Bool
all class [] = true
all class (b ∷ bs) = class b && all class bs

-- these bytes come first
unfoldable pub begins : List ℕ → List ℕ → Bool
begins what bs = same (take (length what) bs) what

-- the first byte; behind the end of the text, 0, which is no byte that a rule names
abbrev pub first : List ℕ → ℕ
first bs = get_or bs 0 0
