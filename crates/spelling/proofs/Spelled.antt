-- What a reader can hold the list of mnemonics against: how many there are, that they differ, the rows of numbered ones, and the last name of each line. Assumes nothing.
use Prim.Native.Nat.{ℕ, zero, suc, ◌+◌, ◌≤◌, ◌<◌}
use mathlib.Core.Path.{◌≡◌, refl, ◌∙◌}
use mathlib.Core.Bool.{Bool, true}
use mathlib.Core.List.{List, ◌++◌, map}
use native.Mathlib.Omega.{arith}
use borrow.Author.Tests.{eqb-true}
use lib.Dec.{eqb}
use lib.ListN.{length}
use Rattle.tokens.specs.Byte.{bytes, same}
use Rattle.tokens.specs.Name.{decimal, one_of, AllDifferent}
use Rattle.tokens.specs.Push.{push_byte}
use Rattle.tokens.proofs.Laws.{below, all_below}
use Rattle.tokens.proofs.TypeNames.{distinct, all_different}
use Rattle.spelling.specs.Spelling.{spelt, value_of, mnemonics, opcode_of}

-- a word with its number behind it is the mnemonic of the byte so many behind this one
abbrev numbered : List ℕ → ℕ → ℕ → Bool
numbered word base n = eqb (opcode_of (word ++ decimal n)) (base + n)

-- .. from 1 on
from_one : (word : List ℕ) (base most : ℕ) → below (λ n. numbered word base (suc n)) most ≡ true → (n : ℕ) → 0 < n → n ≤ most → opcode_of (word ++ decimal n) ≡ base + n
from_one word base most h zero l k = absurd (omega arith)
from_one word base most h (suc n) l k = eqb-true _ _ (all_below (λ n. numbered word base (suc n)) most h n (omega arith))

-- pushN is the Yellow Paper's PUSHn
pub push_spelled : (n : ℕ) → 0 < n → n ≤ 32 → opcode_of (bytes "push" ++ decimal n) ≡ push_byte n
unfolding below mnemonics spelt value_of same bytes decimal
push_spelled n h k = let z : 0x5f + n ≡ push_byte n = omega arith in from_one (bytes "push") 0x5f 32 refl n h k ∙ z

pub dup_spelled : (n : ℕ) → 0 < n → n ≤ 16 → opcode_of (bytes "dup" ++ decimal n) ≡ 0x7f + n
unfolding below mnemonics spelt value_of same bytes decimal
dup_spelled n h k = from_one (bytes "dup") 0x7f 16 refl n h k

pub swap_spelled : (n : ℕ) → 0 < n → n ≤ 16 → opcode_of (bytes "swap" ++ decimal n) ≡ 0x8f + n
unfolding below mnemonics spelt value_of same bytes decimal
swap_spelled n h k = from_one (bytes "swap") 0x8f 16 refl n h k

-- there are 146, no two alike
pub mnemonics_many : (length mnemonics ≡ 146) × AllDifferent (map (λ s. s.name) mnemonics)
unfolding mnemonics spelt distinct one_of same
mnemonics_many = (refl, all_different (map (λ s. s.name) mnemonics) refl)

-- the last name of each line: one left out or put in before it would move it
pub lines_end :
    (opcode_of (bytes "signextend") ≡ 0x0b)
    × (opcode_of (bytes "sar") ≡ 0x1d)
    × (opcode_of (bytes "calldatacopy") ≡ 0x37)
    × (opcode_of (bytes "extcodehash") ≡ 0x3f)
    × (opcode_of (bytes "basefee") ≡ 0x48)
    × (opcode_of (bytes "jumpdest") ≡ 0x5b)
    × (opcode_of (bytes "log4") ≡ 0xa4)
    × (opcode_of (bytes "create2") ≡ 0xf5)
    × (opcode_of (bytes "selfdestruct") ≡ 0xff)
unfolding mnemonics spelt value_of same bytes
lines_end = (refl, refl, refl, refl, refl, refl, refl, refl, refl)
