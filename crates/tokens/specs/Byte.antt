-- Bytes of a text: texts written out, equality byte for byte, hex digits and their worth, decimal digits.
use Rattle.std.specs.Prelude.{ℕ, ◌+◌, ◌-◌, ◌*◌, Bool, true, false, cond, ◌&&◌, ◌||◌, List, [], ◌∷◌, leb, eqb}
use Prim.Native.String.{String}
use Prim.Native.Char.{Char, code}

-- the bytes of a text of ASCII characters
unfoldable pub bytes : String → List ℕ
bytes String.[] = []
bytes (String.◌∷◌ c s) = code c ∷ bytes s

-- equal byte for byte
unfoldable pub same : List ℕ → List ℕ → Bool
same [] [] = true
same [] (b ∷ bs) = false
same (a ∷ ps) [] = false
same (a ∷ ps) (b ∷ bs) = eqb a b && same ps bs

-- c stands between a and b, both included
abbrev pub between : ℕ → ℕ → ℕ → Bool
between a b c = leb a c && leb c b

-- c is one of the characters from a to b, both included
abbrev pub from_to : Char → Char → ℕ → Bool
from_to a b c = between (code a) (code b) c

-- a hex digit of either case
unfoldable pub is_hex : ℕ → Bool
is_hex c =
    from_to "0" "9" c
    || from_to "a" "f" c
    || from_to "A" "F" c

-- what a hex digit is worth; any other byte 0
unfoldable pub digit : ℕ → ℕ
digit c =
    cond (from_to "0" "9" c) (c - code "0")
    (cond (from_to "a" "f" c) (c - code "a" + 10)
    (cond (from_to "A" "F" c) (c - code "A" + 10) 0))

-- every byte is a hex digit
unfoldable pub all_hex : List ℕ → Bool
all_hex [] = true
all_hex (c ∷ cs) = is_hex c && all_hex cs

-- the number that digits write after a number n, to the base 16
unfoldable pub value_after : ℕ → List ℕ → ℕ
value_after n [] = n
value_after n (c ∷ cs) = value_after (n * 16 + digit c) cs

-- the byte that writes a decimal digit
abbrev pub numeral : ℕ → ℕ
numeral d = code "0" + d
