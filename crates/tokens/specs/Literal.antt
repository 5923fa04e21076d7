-- Literals: their form, their value and its significant bytes.
use Rattle.std.specs.Prelude.{ℕ, zero, suc, ◌+◌, ◌%◌, ◌^◌, Bool, cond, ◌&&◌, List, length, take, drop, eqb, ltb}
use Rattle.tokens.specs.Byte.{bytes, same, all_hex, value_after, between}

-- document 01, "Well formed": 0x and 1 to 64 hex digits
unfoldable pub is_literal : List ℕ → Bool
is_literal text = same (take 2 text) (bytes "0x") && between 3 66 (length text) && all_hex (drop 2 text)

-- the value of the digits behind 0x, in 256 bits: 64 digits are never cut
unfoldable pub literal_value : List ℕ → ℕ
literal_value text = value_after 0 (drop 2 text) % 2 ^ 256

-- a literal's value is zero, however many digits write it
abbrev pub is_zero : List ℕ → Bool
is_zero text = eqb (literal_value text) 0

-- the least number of bytes, from n on and at most `tries` more, that holds v
unfoldable pub bytes_from : ℕ → ℕ → ℕ → ℕ
bytes_from zero n v = n
bytes_from (suc tries) n v = cond (ltb v (256 ^ n)) n (bytes_from tries (n + 1) v)

-- the significant bytes of a value: the least n from 1 to 32 with v < 256 ^ n, so that zero has 1
unfoldable pub significant : ℕ → ℕ
significant v = bytes_from 31 1 v
