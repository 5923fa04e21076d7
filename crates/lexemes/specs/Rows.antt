-- Worked rows of request [4]: a text, and its tokens but Eof, or the number and the byte of its refusal. Each table stands under one statement; proved in proofs/Rows.
use Rattle.std.specs.Prelude.{ℕ, List, [], ◌∷◌, ◌++◌, length, replicate}
use Prim.Native.Char.{code}
use Rattle.tokens.specs.Byte.{bytes}
use Rattle.tokens.specs.Number.{StartsNothing, NotClosed, TooLarge, most_number}
use Rattle.tokens.specs.Kind.{Whitespace, Comment, Include, Define, Pound, Macro, Error, CodeTable, Calldata, OpenParen, CloseParen, OpenBrace, CloseBrace, Colon, FreeStoragePointer, Ident, Label, Literal, Opcode, Num, Str, BuiltinFunction, PrimitiveType}
use Rattle.lexemes.specs.Bytes.{LF, CR}
use Rattle.lexemes.specs.Reads.{eof_at, Reading, Refusal}

-- a row
pub data Row : Type 0 where
  reads : List ℕ → List (List ℕ) → Row
  stops : List ℕ → ℕ → ℕ → Row

-- a token without an extra: kind, start, end
abbrev pub token : ℕ → ℕ → ℕ → List ℕ
token k s e = k ∷ s ∷ e ∷ 0 ∷ []

-- a token with one
abbrev pub extra : ℕ → ℕ → ℕ → ℕ → List ℕ
extra k s e x = k ∷ s ∷ e ∷ x ∷ []

-- what a row says
abbrev pub Holds : Row → Type 0
Holds (reads text ts) = Reading text (ts ++ (eof_at (length text) ∷ []))
Holds (stops text r q) = Refusal text r q

-- what a table says
abbrev pub AllHold : List Row → Type 0
AllHold [] = Unit {0}
AllHold (r ∷ rs) = Holds r × AllHold rs

abbrev pub rows : List Row
rows =
    reads [] []
    ∷ reads (bytes "// a" ++ (CR ∷ LF ∷ bytes "b")) (token Comment 0 5 ∷ token Whitespace 5 6 ∷ token Ident 6 7 ∷ [])
    ∷ reads (bytes "/* /* */ x") (token Comment 0 8 ∷ token Whitespace 8 9 ∷ token Ident 9 10 ∷ [])
    ∷ stops (bytes "a / b") StartsNothing 2
    ∷ reads (bytes "0x12g") (token Literal 0 4 ∷ token Ident 4 5 ∷ [])
    ∷ stops (bytes "0x") StartsNothing 0
    ∷ stops (bytes "0x" ++ replicate 65 (code "0")) TooLarge 0
    ∷ reads (bytes "4294967295") (extra Num 0 10 most_number ∷ [])
    ∷ stops (bytes " 4294967296") TooLarge 1
    ∷ reads (bytes "\"a'b\"") (token Str 1 4 ∷ [])
    ∷ stops (bytes "\"a" ++ (LF ∷ bytes "b\"")) NotClosed 0
    ∷ stops (195 ∷ 164 ∷ []) StartsNothing 0
    ∷ reads (bytes "macro macros") (token Macro 0 5 ∷ token Whitespace 5 6 ∷ token Ident 6 12 ∷ [])
    ∷ reads (bytes "macro:") (token Label 0 5 ∷ token Colon 5 6 ∷ [])
    ∷ reads (bytes "go :") (token Ident 0 2 ∷ token Whitespace 2 3 ∷ token Colon 3 4 ∷ [])
    ∷ reads (bytes "__f(x) __f")
    (token BuiltinFunction 0 3 ∷ token OpenParen 3 4 ∷ token Ident 4 5 ∷ token CloseParen 5 6 ∷ token Whitespace 6 7 ∷ token Ident 7 10 ∷ [])
    ∷ reads (bytes "FREE_STORAGE_POINTER()") (token FreeStoragePointer 0 22 ∷ [])
    ∷ reads (bytes "add{add}add") (token Ident 0 3 ∷ token OpenBrace 3 4 ∷ extra Opcode 4 7 0x01 ∷ token CloseBrace 7 8 ∷ token Ident 8 11 ∷ [])
    ∷ reads (bytes "{calldata uint8 address}")
    (token OpenBrace 0 1 ∷ token Ident 1 9 ∷ token Whitespace 9 10 ∷ token Ident 10 15 ∷ token Whitespace 15 16 ∷ extra Opcode 16 23 0x30 ∷ token CloseBrace 23 24 ∷ [])
    ∷ reads (bytes "calldata uint8 uint7")
    (token Calldata 0 8 ∷ token Whitespace 8 9 ∷ token PrimitiveType 9 14 ∷ token Whitespace 14 15 ∷ token Ident 15 20 ∷ [])
    ∷ reads (bytes "table T{00 0xab}")
    (token CodeTable 0 5 ∷ token Whitespace 5 6 ∷ token Ident 6 7 ∷ token OpenBrace 7 8 ∷ token Ident 8 10 ∷ token Whitespace 10 11 ∷ token Ident 11 15 ∷ token CloseBrace 15 16 ∷ [])
    ∷ reads (bytes "{\"}\"add}") (token OpenBrace 0 1 ∷ token Str 2 3 ∷ extra Opcode 4 7 0x01 ∷ token CloseBrace 7 8 ∷ [])
    ∷ reads (bytes "{push0 push1 push32 push33}")
    (token OpenBrace 0 1
    ∷ extra Opcode 1 6 0x5f
    ∷ token Whitespace 6 7
    ∷ extra Opcode 7 12 0x60
    ∷ token Whitespace 12 13
    ∷ extra Opcode 13 19 0x7f
    ∷ token Whitespace 19 20
    ∷ token Ident 20 26
    ∷ token CloseBrace 26 27
    ∷ [])
    ∷ []

-- more of them, for what the table of the request leaves out
abbrev pub other_rows : List Row
other_rows =
    stops (bytes "4294967296 ;") TooLarge 0
    ∷ stops (bytes "/*/") NotClosed 0
    ∷ reads (bytes "''\"\"") (token Str 1 1 ∷ token Str 3 3 ∷ [])
    ∷ stops (bytes "\"a'") NotClosed 0
    ∷ reads (bytes "0X1") (token Num 0 1 ∷ token Ident 1 3 ∷ [])
    ∷ reads (bytes "123abc") (extra Num 0 3 123 ∷ token Ident 3 6 ∷ [])
    ∷ reads (bytes "0x" ++ replicate 64 (code "0")) (token Literal 0 66 ∷ [])
    ∷ reads (bytes "00000000004294967295") (extra Num 0 20 most_number ∷ [])
    ∷ reads (bytes "{a:}") (token OpenBrace 0 1 ∷ token Label 1 2 ∷ token Colon 2 3 ∷ token CloseBrace 3 4 ∷ [])
    ∷ reads (bytes "{__f(") (token OpenBrace 0 1 ∷ token BuiltinFunction 1 4 ∷ token OpenParen 4 5 ∷ [])
    ∷ reads (bytes "table{a:}") (token CodeTable 0 5 ∷ token OpenBrace 5 6 ∷ token Ident 6 7 ∷ token Colon 7 8 ∷ token CloseBrace 8 9 ∷ [])
    ∷ reads (bytes "FREE_STORAGE_POINTER") (token Ident 0 20 ∷ [])
    ∷ reads (bytes "table{FREE_STORAGE_POINTER()}")
    (token CodeTable 0 5 ∷ token OpenBrace 5 6 ∷ token Ident 6 26 ∷ token OpenParen 26 27 ∷ token CloseParen 27 28 ∷ token CloseBrace 28 29 ∷ [])
    ∷ reads (bytes "#define#include") (token Define 0 7 ∷ token Include 7 15 ∷ [])
    ∷ reads (bytes "#defineX # define") (token Pound 0 1 ∷ token Ident 1 8 ∷ token Whitespace 8 9 ∷ token Pound 9 10 ∷ token Whitespace 10 11 ∷ token Ident 11 17 ∷ [])
    ∷ reads (bytes "M(error)") (token Ident 0 1 ∷ token OpenParen 1 2 ∷ token Error 2 7 ∷ token CloseParen 7 8 ∷ [])
    ∷ reads (bytes "{{add}add}") (token OpenBrace 0 1 ∷ token OpenBrace 1 2 ∷ extra Opcode 2 5 0x01 ∷ token CloseBrace 5 6 ∷ token Ident 6 9 ∷ token CloseBrace 9 10 ∷ [])
    ∷ reads (bytes "table}{0x") (token CodeTable 0 5 ∷ token CloseBrace 5 6 ∷ token OpenBrace 6 7 ∷ token Ident 7 9 ∷ [])
    ∷ reads (bytes "table{12}{add}")
    (token CodeTable 0 5 ∷ token OpenBrace 5 6 ∷ token Ident 6 8 ∷ token CloseBrace 8 9 ∷ token OpenBrace 9 10 ∷ extra Opcode 10 13 0x01 ∷ token CloseBrace 13 14 ∷ [])
    ∷ []
