-- Request [4]: how opcodes, keywords and marks are spelled, and the kinds of words inside and outside braces.
use Rattle.std.specs.Prelude.{ℕ, ◌+◌, true, false, cond, List, [], ◌∷◌, ◌++◌, eqb}
use Prim.Native.String.{String}
use Prim.Native.Char.{code}
use Rattle.tokens.specs.Byte.{same}
use Rattle.tokens.specs.Kind.{Pound, Macro, Assign, Ident, PrimitiveType}
use Rattle.tokens.specs.Name.{reserved}

-- a spelling, and the number that it stands for
pub record Spelt : Type 0 where
  pub name : List ℕ
  pub value : ℕ

-- spellings with a space between two, the first of them for the number n, each other for the number behind; w is what is read of the first
unfoldable pub spelt : List ℕ → ℕ → String → List Spelt
spelt w n String.[] = record { name = w; value = n } ∷ []
spelt w n (String.◌∷◌ c s) =
    elim (eqb (code c) (code " ")) [ true ↦ record { name = w; value = n } ∷ spelt [] (n + 1) s | false ↦ spelt (w ++ (code c ∷ [])) n s ]

abbrev pub from : ℕ → String → List Spelt
from = spelt []

-- what a spelling of the list stands for; `none` for any other bytes
unfoldable pub value_of : List Spelt → ℕ → List ℕ → ℕ
value_of [] none name = none
value_of (s ∷ ss) none name = cond (same s.name name) s.value (value_of ss none name)

-- "a lower-case Yellow Paper mnemonic, or `push0`": appendix H.2, each line from the byte before it on. Where editions of the paper differ in a byte's name, both, but for
-- `suicide`, which the oldest alone have. From memory (docs/LEXER.md)
unfoldable pub mnemonics : List Spelt
mnemonics =
    from 0x00 "stop add mul sub div sdiv mod smod addmod mulmod exp signextend"
    ++ from 0x10 "lt gt slt sgt eq iszero and or xor not byte shl shr sar"
    ++ from 0x20 "keccak256"
    ++ from 0x20 "sha3"
    ++ from 0x30 "address balance origin caller callvalue calldataload calldatasize calldatacopy"
    ++ from 0x38 "codesize codecopy gasprice extcodesize extcodecopy returndatasize returndatacopy extcodehash"
    ++ from 0x40 "blockhash coinbase timestamp number prevrandao gaslimit chainid selfbalance basefee"
    ++ from 0x44 "difficulty"
    ++ from 0x50 "pop mload mstore mstore8 sload sstore jump jumpi pc msize gas jumpdest"
    ++ from 0x5f "push0"
    ++ from 0x60 "push1 push2 push3 push4 push5 push6 push7 push8 push9 push10 push11 push12 push13 push14 push15 push16"
    ++ from 0x70 "push17 push18 push19 push20 push21 push22 push23 push24 push25 push26 push27 push28 push29 push30 push31 push32"
    ++ from 0x80 "dup1 dup2 dup3 dup4 dup5 dup6 dup7 dup8 dup9 dup10 dup11 dup12 dup13 dup14 dup15 dup16"
    ++ from 0x90 "swap1 swap2 swap3 swap4 swap5 swap6 swap7 swap8 swap9 swap10 swap11 swap12 swap13 swap14 swap15 swap16"
    ++ from 0xa0 "log0 log1 log2 log3 log4"
    ++ from 0xf0 "create call callcode return delegatecall create2"
    ++ from 0xfa "staticcall"
    ++ from 0xfd "revert invalid selfdestruct"

-- the keywords that are words, in the order of their kinds, from Macro to Storage
unfoldable pub keywords : List Spelt
keywords = from Macro "macro fn test function event constant error jumptable jumptable__packed table takes returns view pure payable nonpayable indexed calldata memory storage"

-- the marks, in the order of their kinds: Pound, and Assign to Colon
unfoldable pub marks : List Spelt
marks = from Pound "#" ++ from Assign "= ( ) { } [ ] < > , :"

-- no byte's number: what `opcode_of` gives for a word that is no mnemonic
abbrev pub no_opcode : ℕ
no_opcode = 256

-- a mnemonic's byte, or 256
abbrev pub opcode_of : List ℕ → ℕ
opcode_of name = value_of mnemonics no_opcode name

-- the kind of a word outside braces: "keywords and 01's reserved type names (PrimitiveType) come first; other words are Ident"
abbrev pub kind_outside : List ℕ → ℕ
kind_outside name = value_of keywords (cond (reserved name) PrimitiveType Ident) name
