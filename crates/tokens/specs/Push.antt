-- Value pushes. The Ethereum Yellow Paper (appendix H.2, "60s & 70s: Push Operations"): PUSHn, for n = 1 .. 32, is the byte 0x60 + (n - 1)
-- and places an item of n bytes. Document 01 says the same from the byte's side.
use Rattle.std.specs.Prelude.{ℕ, ◌+◌, ◌-◌, Bool, List, leb}
use Rattle.tokens.specs.Byte.{between}
use Rattle.tokens.specs.Literal.{literal_value, significant}

-- the Yellow Paper's byte of PUSHn
abbrev pub push_byte : ℕ → ℕ
push_byte n = 0x60 + (n - 1)

-- a value push: the bytes 0x60 to 0x7f
unfoldable pub is_value_push : ℕ → Bool
is_value_push byte = between 0x60 0x7f byte

-- the bytes that a value push takes
unfoldable pub push_size : ℕ → ℕ
push_size byte = byte - 0x5f

-- a literal fits a value push if its significant bytes are at most those that the push takes
unfoldable pub fits : ℕ → List ℕ → Bool
fits byte literal = leb (significant (literal_value literal)) (push_size byte)
