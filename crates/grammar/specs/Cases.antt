-- Document 01, "Bodies and files on both sides": the rows marked P, input and answer side by side, further bodies, and those of requests [1], [8] and [10].
-- Eof follows each body.
use Rattle.std.specs.Prelude.{ℕ, suc, List, [], ◌∷◌, ◌++◌}
use Prim.Native.String.{String}
use Rattle.tokens.specs.Byte.{bytes}
use Rattle.tokens.specs.Token.{Token}
use Rattle.tokens.specs.Kind.{Eof, Calldata, Memory, OpenParen, CloseParen, OpenBrace, CloseBrace, OpenBracket, CloseBracket, LeftAngle, RightAngle, Comma, Colon, Ident, Label, Literal, Opcode, Num, Str, BuiltinFunction, PrimitiveType}
use Rattle.grammar.specs.Reading.{NONE, Reading}
use Rattle.grammar.specs.Records.{statement_records, argument_records}
use Rattle.grammar.specs.Result.{Answer}
use Rattle.grammar.specs.PlainLength.{short_zeros}
use Rattle.grammar.specs.Call.{refusal, refusal_of, body_numbers, records_of}

-- what a body call answers: number, cursor, statements, arguments, plain length, type, size; and the records of both tables
pub record Outcome : Type 0 where
  pub answers : List ℕ
  pub statements : List (List ℕ)
  pub arguments : List (List ℕ)

-- of an answer of the call at place p of these kept tokens, in an edition, where the tables have room
abbrev pub outcome : List Token → ℕ → ℕ → Answer Reading → Outcome
outcome kept edition p x = record { answers = body_numbers kept (short_zeros edition) p x; statements = records_of (statement_records 0 0) x; arguments = records_of argument_records x }

-- a token as a row has it: of a kind whose text no rule looks at; with its text; an opcode by its byte; a number
pub data Sketch : Type 0 where
  mark : ℕ → Sketch
  word : ℕ → String → Sketch
  byte : ℕ → Sketch
  num : ℕ → Sketch

-- the token, with this text where no rule looks at it
abbrev pub drawn : List ℕ → Sketch → Token
drawn text (mark kind) = record { kind = kind; text = text; extra = 0 }
drawn text (word kind letters) = record { kind = kind; text = bytes letters; extra = 0 }
drawn text (byte b) = record { kind = Opcode; text = text; extra = b }
drawn text (num n) = record { kind = Num; text = text; extra = n }

-- the tokens of a row, such texts taken from a list without end from number i on
unfoldable pub tokens_of : (ℕ → List ℕ) → ℕ → List Sketch → List Token
tokens_of texts i [] = []
tokens_of texts i (s ∷ ss) = drawn (texts i) s ∷ tokens_of texts (suc i) ss

-- a body between its braces, and Eof
abbrev pub braced : List Sketch → List Sketch
braced ts = (mark OpenBrace ∷ ts) ++ (mark CloseBrace ∷ mark Eof ∷ [])

-- PUSH1 of the Yellow Paper
abbrev pub PUSH1 : Sketch
PUSH1 = byte 0x60

-- a row: the tokens between the braces, and the outcome of the call at 0
pub record Row : Type 0 where
  pub input : List Sketch
  pub outcome : Outcome

-- a row that is accepted: cursor, statements, arguments, plain length; statement records; argument records
abbrev pub accepted_row : List Sketch → List ℕ → List (List ℕ) → List (List ℕ) → Row
accepted_row input answers statements arguments = record { input = input; outcome = record { answers = 0 ∷ (answers ++ (0 ∷ 0 ∷ [])); statements = statements; arguments = arguments } }

-- a row that is refused: the answer
abbrev pub refused_with : List Sketch → List ℕ → Row
refused_with input answers = record { input = input; outcome = record { answers = answers; statements = []; arguments = [] } }

-- number and cursor, and no type
abbrev pub refused_row : List Sketch → ℕ → ℕ → Row
refused_row input c q = refused_with input (refusal c q)

-- 7: cursor, type, size
abbrev pub type_row : List Sketch → ℕ → ℕ → ℕ → Row
type_row input q t size = refused_with input (refusal_of 7 q (t, size))

-- the rows marked P
abbrev pub rows : List Row
rows =
    -- { }
    accepted_row [] (2 ∷ 0 ∷ 0 ∷ 0 ∷ []) [] []
    -- { PUSH1 0xff }
    ∷ accepted_row (PUSH1 ∷ word Literal "0xff" ∷ []) (4 ∷ 2 ∷ 0 ∷ 2 ∷ [])
    ((2 ∷ 1 ∷ 2 ∷ 1 ∷ 0 ∷ 0 ∷ 0 ∷ 1 ∷ []) ∷ (1 ∷ 2 ∷ 3 ∷ 2 ∷ 0 ∷ 0 ∷ 0 ∷ 2 ∷ []) ∷ [])
    []
    -- { PUSH1 0x0001 }
    ∷ accepted_row (PUSH1 ∷ word Literal "0x0001" ∷ []) (4 ∷ 2 ∷ 0 ∷ 2 ∷ [])
    ((2 ∷ 1 ∷ 2 ∷ 1 ∷ 0 ∷ 0 ∷ 0 ∷ 1 ∷ []) ∷ (1 ∷ 2 ∷ 3 ∷ 2 ∷ 0 ∷ 0 ∷ 0 ∷ 2 ∷ []) ∷ [])
    []
    -- { PUSH1 0x0100 }
    ∷ refused_row (PUSH1 ∷ word Literal "0x0100" ∷ []) 4 3
    -- { PUSH1 }
    ∷ refused_row (PUSH1 ∷ []) 4 2
    -- { go : PUSH1 }
    ∷ accepted_row (word Label "go" ∷ mark Colon ∷ PUSH1 ∷ []) (5 ∷ 2 ∷ 0 ∷ NONE ∷ [])
    ((5 ∷ 1 ∷ 4 ∷ 1 ∷ 1 ∷ 0 ∷ 0 ∷ 1 ∷ []) ∷ (2 ∷ 3 ∷ 4 ∷ 2 ∷ 0 ∷ 0 ∷ 0 ∷ 3 ∷ []) ∷ [])
    []
    -- { a : b : }
    ∷ accepted_row (word Label "a" ∷ mark Colon ∷ word Label "b" ∷ mark Colon ∷ []) (6 ∷ 2 ∷ 0 ∷ 2 ∷ [])
    ((5 ∷ 1 ∷ 3 ∷ 1 ∷ 0 ∷ 0 ∷ 0 ∷ 1 ∷ []) ∷ (5 ∷ 3 ∷ 5 ∷ 2 ∷ 0 ∷ 0 ∷ 0 ∷ 3 ∷ []) ∷ [])
    []
    -- { F ( , ) }
    ∷ refused_row (word Ident "F" ∷ mark OpenParen ∷ mark Comma ∷ mark CloseParen ∷ []) 10 3
    -- { F ( a , ) }
    ∷ accepted_row (word Ident "F" ∷ mark OpenParen ∷ word Ident "a" ∷ mark Comma ∷ mark CloseParen ∷ []) (7 ∷ 1 ∷ 1 ∷ NONE ∷ [])
    ((4 ∷ 1 ∷ 6 ∷ 1 ∷ 0 ∷ 0 ∷ 1 ∷ 1 ∷ []) ∷ [])
    ((5 ∷ NONE ∷ 3 ∷ 0 ∷ 0 ∷ 3 ∷ 4 ∷ []) ∷ [])
    -- { [ X }
    ∷ refused_row (mark OpenBracket ∷ word Ident "X" ∷ []) 1 3
    -- { < 0x01 > }
    ∷ refused_row (mark LeftAngle ∷ word Literal "0x01" ∷ mark RightAngle ∷ []) 13 2
    -- builtin { f ( a uint256 ) }
    ∷ type_row (word BuiltinFunction "f" ∷ mark OpenParen ∷ word Ident "a" ∷ word Ident "uint256" ∷ mark CloseParen ∷ []) 4 5 256
    ∷ []

-- further bodies: the table's rows without P, the slips that look right, one for each rule that a row of the table leaves open, and those of request [3]
abbrev pub others : List Row
others =
    -- { PUSH0 }
    accepted_row (byte 0x5f ∷ []) (3 ∷ 1 ∷ 0 ∷ 1 ∷ [])
    ((2 ∷ 1 ∷ 2 ∷ 1 ∷ 0 ∷ 0 ∷ 0 ∷ 1 ∷ []) ∷ [])
    ([])
    -- { F ( a b ) }
    ∷ accepted_row (word Ident "F" ∷ mark OpenParen ∷ word Ident "a" ∷ word Ident "b" ∷ mark CloseParen ∷ []) (7 ∷ 1 ∷ 2 ∷ NONE ∷ [])
    ((4 ∷ 1 ∷ 6 ∷ 1 ∷ 0 ∷ 0 ∷ 2 ∷ 1 ∷ []) ∷ [])
    ((5 ∷ NONE ∷ 3 ∷ 0 ∷ 0 ∷ 3 ∷ 4 ∷ []) ∷ (5 ∷ NONE ∷ 4 ∷ 0 ∷ 0 ∷ 4 ∷ 5 ∷ []) ∷ [])
    -- { PUSH4 0x01 }
    ∷ accepted_row (byte 0x63 ∷ word Literal "0x01" ∷ []) (4 ∷ 2 ∷ 0 ∷ 5 ∷ [])
    ((2 ∷ 1 ∷ 2 ∷ 1 ∷ 0 ∷ 0 ∷ 0 ∷ 1 ∷ []) ∷ (1 ∷ 2 ∷ 3 ∷ 2 ∷ 0 ∷ 0 ∷ 0 ∷ 2 ∷ []) ∷ [])
    ([])
    -- builtin { f ( a b uint256 ) }
    ∷ accepted_row (word BuiltinFunction "f" ∷ mark OpenParen ∷ word Ident "a" ∷ word Ident "b" ∷ word Ident "uint256" ∷ mark CloseParen ∷ []) (8 ∷ 1 ∷ 3 ∷ NONE ∷ [])
    ((8 ∷ 1 ∷ 7 ∷ 1 ∷ 0 ∷ 0 ∷ 3 ∷ 1 ∷ []) ∷ [])
    ((1 ∷ NONE ∷ 3 ∷ 0 ∷ 0 ∷ 3 ∷ 4 ∷ []) ∷ (1 ∷ NONE ∷ 4 ∷ 0 ∷ 0 ∷ 4 ∷ 5 ∷ []) ∷ (1 ∷ NONE ∷ 5 ∷ 0 ∷ 0 ∷ 5 ∷ 6 ∷ []) ∷ [])
    -- { go : JUMP 0x01 }: a label goes on behind a jump
    ∷ accepted_row (word Label "go" ∷ mark Colon ∷ byte 0x56 ∷ word Literal "0x01" ∷ []) (6 ∷ 3 ∷ 0 ∷ 4 ∷ [])
    ((5 ∷ 1 ∷ 5 ∷ 1 ∷ 2 ∷ 0 ∷ 0 ∷ 1 ∷ []) ∷ (2 ∷ 3 ∷ 4 ∷ 2 ∷ 0 ∷ 0 ∷ 0 ∷ 3 ∷ []) ∷ (1 ∷ 4 ∷ 5 ∷ 3 ∷ 0 ∷ 0 ∷ 0 ∷ 4 ∷ []) ∷ [])
    ([])
    -- { F ( b ) l : G ( c ) }: the numbers of records are those of the whole table
    ∷ accepted_row (word Ident "F" ∷ mark OpenParen ∷ word Ident "b" ∷ mark CloseParen ∷ word Label "l" ∷ mark Colon ∷ word Ident "G" ∷ mark OpenParen ∷ word Ident "c" ∷ mark CloseParen ∷ []) (12 ∷ 3 ∷ 2 ∷ NONE ∷ [])
    ((4 ∷ 1 ∷ 5 ∷ 1 ∷ 0 ∷ 0 ∷ 1 ∷ 1 ∷ []) ∷ (5 ∷ 5 ∷ 11 ∷ 2 ∷ 1 ∷ 1 ∷ 0 ∷ 5 ∷ []) ∷ (4 ∷ 7 ∷ 11 ∷ 3 ∷ 0 ∷ 1 ∷ 1 ∷ 7 ∷ []) ∷ [])
    ((5 ∷ NONE ∷ 3 ∷ 0 ∷ 0 ∷ 3 ∷ 4 ∷ []) ∷ (5 ∷ NONE ∷ 9 ∷ 0 ∷ 0 ∷ 9 ∷ 10 ∷ []) ∷ [])
    -- { 0x00 PUSH2 0x01 0x01 a l : PUSH2 0x01 b }: the literal directly behind a push counts n
    ∷ accepted_row (word Literal "0x00" ∷ byte 0x61 ∷ word Literal "0x01" ∷ word Literal "0x01" ∷ word Ident "a" ∷ word Label "l" ∷ mark Colon ∷ byte 0x61 ∷ word Literal "0x01" ∷ word Ident "b" ∷ []) (12 ∷ 9 ∷ 0 ∷ 17 ∷ [])
    ((1 ∷ 1 ∷ 2 ∷ 1 ∷ 0 ∷ 0 ∷ 0 ∷ 1 ∷ []) ∷ (2 ∷ 2 ∷ 3 ∷ 2 ∷ 0 ∷ 0 ∷ 0 ∷ 2 ∷ []) ∷ (1 ∷ 3 ∷ 4 ∷ 3 ∷ 0 ∷ 0 ∷ 0 ∷ 3 ∷ []) ∷ (1 ∷ 4 ∷ 5 ∷ 4 ∷ 0 ∷ 0 ∷ 0 ∷ 4 ∷ []) ∷ (3 ∷ 5 ∷ 6 ∷ 5 ∷ 0 ∷ 0 ∷ 0 ∷ 5 ∷ []) ∷ (5 ∷ 6 ∷ 11 ∷ 6 ∷ 3 ∷ 0 ∷ 0 ∷ 6 ∷ []) ∷ (2 ∷ 8 ∷ 9 ∷ 7 ∷ 0 ∷ 0 ∷ 0 ∷ 8 ∷ []) ∷ (1 ∷ 9 ∷ 10 ∷ 8 ∷ 0 ∷ 0 ∷ 0 ∷ 9 ∷ []) ∷ (3 ∷ 10 ∷ 11 ∷ 9 ∷ 0 ∷ 0 ∷ 0 ∷ 10 ∷ []) ∷ [])
    ([])
    -- { go : PUSH4 0x01 }: a label's push has its operand too
    ∷ accepted_row (word Label "go" ∷ mark Colon ∷ byte 0x63 ∷ word Literal "0x01" ∷ []) (6 ∷ 3 ∷ 0 ∷ 6 ∷ [])
    ((5 ∷ 1 ∷ 5 ∷ 1 ∷ 2 ∷ 0 ∷ 0 ∷ 1 ∷ []) ∷ (2 ∷ 3 ∷ 4 ∷ 2 ∷ 0 ∷ 0 ∷ 0 ∷ 3 ∷ []) ∷ (1 ∷ 4 ∷ 5 ∷ 3 ∷ 0 ∷ 0 ∷ 0 ∷ 4 ∷ []) ∷ [])
    []
    -- { go : PUSH1 0x0100 }: it doesn't fit
    ∷ accepted_row (word Label "go" ∷ mark Colon ∷ PUSH1 ∷ word Literal "0x0100" ∷ []) (6 ∷ 3 ∷ 0 ∷ NONE ∷ [])
    ((5 ∷ 1 ∷ 5 ∷ 1 ∷ 2 ∷ 0 ∷ 0 ∷ 1 ∷ []) ∷ (2 ∷ 3 ∷ 4 ∷ 2 ∷ 0 ∷ 0 ∷ 0 ∷ 3 ∷ []) ∷ (1 ∷ 4 ∷ 5 ∷ 3 ∷ 0 ∷ 0 ∷ 0 ∷ 4 ∷ []) ∷ [])
    []
    -- { go : PUSH1 0x01 0x01 }: only the one directly behind the push
    ∷ accepted_row (word Label "go" ∷ mark Colon ∷ PUSH1 ∷ word Literal "0x01" ∷ word Literal "0x01" ∷ []) (7 ∷ 4 ∷ 0 ∷ 5 ∷ [])
    ((5 ∷ 1 ∷ 6 ∷ 1 ∷ 3 ∷ 0 ∷ 0 ∷ 1 ∷ []) ∷ (2 ∷ 3 ∷ 4 ∷ 2 ∷ 0 ∷ 0 ∷ 0 ∷ 3 ∷ []) ∷ (1 ∷ 4 ∷ 5 ∷ 3 ∷ 0 ∷ 0 ∷ 0 ∷ 4 ∷ []) ∷ (1 ∷ 5 ∷ 6 ∷ 4 ∷ 0 ∷ 0 ∷ 0 ∷ 5 ∷ []) ∷ [])
    []
    -- { go : PUSH1 0x0001 }: its significant bytes have to fit, not its digits
    ∷ accepted_row (word Label "go" ∷ mark Colon ∷ PUSH1 ∷ word Literal "0x0001" ∷ []) (6 ∷ 3 ∷ 0 ∷ 3 ∷ [])
    ((5 ∷ 1 ∷ 5 ∷ 1 ∷ 2 ∷ 0 ∷ 0 ∷ 1 ∷ []) ∷ (2 ∷ 3 ∷ 4 ∷ 2 ∷ 0 ∷ 0 ∷ 0 ∷ 3 ∷ []) ∷ (1 ∷ 4 ∷ 5 ∷ 3 ∷ 0 ∷ 0 ∷ 0 ∷ 4 ∷ []) ∷ [])
    []
    -- { go : PUSH1 PUSH1 0x01 }: each push needs its own
    ∷ accepted_row (word Label "go" ∷ mark Colon ∷ PUSH1 ∷ PUSH1 ∷ word Literal "0x01" ∷ []) (7 ∷ 4 ∷ 0 ∷ NONE ∷ [])
    ((5 ∷ 1 ∷ 6 ∷ 1 ∷ 3 ∷ 0 ∷ 0 ∷ 1 ∷ []) ∷ (2 ∷ 3 ∷ 4 ∷ 2 ∷ 0 ∷ 0 ∷ 0 ∷ 3 ∷ []) ∷ (2 ∷ 4 ∷ 5 ∷ 3 ∷ 0 ∷ 0 ∷ 0 ∷ 4 ∷ []) ∷ (1 ∷ 5 ∷ 6 ∷ 4 ∷ 0 ∷ 0 ∷ 0 ∷ 5 ∷ []) ∷ [])
    []
    -- { go : PUSH1 x 0x01 }: not behind another statement
    ∷ accepted_row (word Label "go" ∷ mark Colon ∷ PUSH1 ∷ word Ident "x" ∷ word Literal "0x01" ∷ []) (7 ∷ 4 ∷ 0 ∷ NONE ∷ [])
    ((5 ∷ 1 ∷ 6 ∷ 1 ∷ 3 ∷ 0 ∷ 0 ∷ 1 ∷ []) ∷ (2 ∷ 3 ∷ 4 ∷ 2 ∷ 0 ∷ 0 ∷ 0 ∷ 3 ∷ []) ∷ (3 ∷ 4 ∷ 5 ∷ 3 ∷ 0 ∷ 0 ∷ 0 ∷ 4 ∷ []) ∷ (1 ∷ 5 ∷ 6 ∷ 4 ∷ 0 ∷ 0 ∷ 0 ∷ 5 ∷ []) ∷ [])
    []
    -- { go : PUSH1 b : 0x01 }: not behind the next label
    ∷ accepted_row (word Label "go" ∷ mark Colon ∷ PUSH1 ∷ word Label "b" ∷ mark Colon ∷ word Literal "0x01" ∷ []) (8 ∷ 4 ∷ 0 ∷ NONE ∷ [])
    ((5 ∷ 1 ∷ 4 ∷ 1 ∷ 1 ∷ 0 ∷ 0 ∷ 1 ∷ []) ∷ (2 ∷ 3 ∷ 4 ∷ 2 ∷ 0 ∷ 0 ∷ 0 ∷ 3 ∷ []) ∷ (5 ∷ 4 ∷ 7 ∷ 3 ∷ 1 ∷ 0 ∷ 0 ∷ 4 ∷ []) ∷ (1 ∷ 6 ∷ 7 ∷ 4 ∷ 0 ∷ 0 ∷ 0 ∷ 6 ∷ []) ∷ [])
    []
    -- { go : PUSH0 0x01 }: PUSH0 is no value push
    ∷ accepted_row (word Label "go" ∷ mark Colon ∷ byte 0x5f ∷ word Literal "0x01" ∷ []) (6 ∷ 3 ∷ 0 ∷ 4 ∷ [])
    ((5 ∷ 1 ∷ 5 ∷ 1 ∷ 2 ∷ 0 ∷ 0 ∷ 1 ∷ []) ∷ (2 ∷ 3 ∷ 4 ∷ 2 ∷ 0 ∷ 0 ∷ 0 ∷ 3 ∷ []) ∷ (1 ∷ 4 ∷ 5 ∷ 3 ∷ 0 ∷ 0 ∷ 0 ∷ 4 ∷ []) ∷ [])
    []
    -- { PUSH1 0x01 go : PUSH2 0x0001 x }
    ∷ accepted_row (PUSH1 ∷ word Literal "0x01" ∷ word Label "go" ∷ mark Colon ∷ byte 0x61 ∷ word Literal "0x0001" ∷ word Ident "x" ∷ []) (9 ∷ 6 ∷ 0 ∷ 9 ∷ [])
    ((2 ∷ 1 ∷ 2 ∷ 1 ∷ 0 ∷ 0 ∷ 0 ∷ 1 ∷ []) ∷ (1 ∷ 2 ∷ 3 ∷ 2 ∷ 0 ∷ 0 ∷ 0 ∷ 2 ∷ []) ∷ (5 ∷ 3 ∷ 8 ∷ 3 ∷ 3 ∷ 0 ∷ 0 ∷ 3 ∷ []) ∷ (2 ∷ 5 ∷ 6 ∷ 4 ∷ 0 ∷ 0 ∷ 0 ∷ 5 ∷ []) ∷ (1 ∷ 6 ∷ 7 ∷ 5 ∷ 0 ∷ 0 ∷ 0 ∷ 6 ∷ []) ∷ (3 ∷ 7 ∷ 8 ∷ 6 ∷ 0 ∷ 0 ∷ 0 ∷ 7 ∷ []) ∷ [])
    []
    -- { [ X ] }, { < x > }: neither has a length
    ∷ accepted_row (mark OpenBracket ∷ word Ident "X" ∷ mark CloseBracket ∷ []) (5 ∷ 1 ∷ 0 ∷ NONE ∷ [])
    ((6 ∷ 1 ∷ 4 ∷ 1 ∷ 0 ∷ 0 ∷ 0 ∷ 2 ∷ []) ∷ [])
    []
    ∷ accepted_row (mark LeftAngle ∷ word Ident "x" ∷ mark RightAngle ∷ []) (5 ∷ 1 ∷ 0 ∷ NONE ∷ [])
    ((7 ∷ 1 ∷ 4 ∷ 1 ∷ 0 ∷ 0 ∷ 0 ∷ 2 ∷ []) ∷ [])
    []
    -- { F ( < x > calldata 0x01 ) }
    ∷ accepted_row (word Ident "F" ∷ mark OpenParen ∷ mark LeftAngle ∷ word Ident "x" ∷ mark RightAngle ∷ mark Calldata ∷ word Literal "0x01" ∷ mark CloseParen ∷ []) (10 ∷ 1 ∷ 3 ∷ NONE ∷ [])
    ((4 ∷ 1 ∷ 9 ∷ 1 ∷ 0 ∷ 0 ∷ 3 ∷ 1 ∷ []) ∷ [])
    ((6 ∷ NONE ∷ 4 ∷ 0 ∷ 0 ∷ 3 ∷ 6 ∷ []) ∷ (5 ∷ NONE ∷ 6 ∷ 0 ∷ 0 ∷ 6 ∷ 7 ∷ []) ∷ (4 ∷ NONE ∷ 7 ∷ 0 ∷ 0 ∷ 7 ∷ 8 ∷ []) ∷ [])
    -- builtin { f ( a "s" , uint256 ) }: only a Comma starts the count anew
    ∷ accepted_row (word BuiltinFunction "f" ∷ mark OpenParen ∷ word Ident "a" ∷ word Str "s" ∷ mark Comma ∷ word Ident "uint256" ∷ mark CloseParen ∷ []) (9 ∷ 1 ∷ 3 ∷ NONE ∷ [])
    ((8 ∷ 1 ∷ 8 ∷ 1 ∷ 0 ∷ 0 ∷ 3 ∷ 1 ∷ []) ∷ [])
    ((1 ∷ NONE ∷ 3 ∷ 0 ∷ 0 ∷ 3 ∷ 4 ∷ []) ∷ (2 ∷ NONE ∷ 4 ∷ 0 ∷ 0 ∷ 4 ∷ 5 ∷ []) ∷ (1 ∷ NONE ∷ 6 ∷ 0 ∷ 0 ∷ 6 ∷ 7 ∷ []) ∷ [])
    -- builtin { f ( "s" uint256 0x01 memory a ) }
    ∷ accepted_row (word BuiltinFunction "f" ∷ mark OpenParen ∷ word Str "s" ∷ word Ident "uint256" ∷ word Literal "0x01" ∷ mark Memory ∷ word Ident "a" ∷ mark CloseParen ∷ []) (10 ∷ 1 ∷ 4 ∷ NONE ∷ [])
    ((8 ∷ 1 ∷ 9 ∷ 1 ∷ 0 ∷ 0 ∷ 4 ∷ 1 ∷ []) ∷ [])
    ((2 ∷ NONE ∷ 3 ∷ 0 ∷ 0 ∷ 3 ∷ 4 ∷ []) ∷ (1 ∷ NONE ∷ 4 ∷ 0 ∷ 0 ∷ 4 ∷ 5 ∷ []) ∷ (3 ∷ NONE ∷ 5 ∷ 0 ∷ 0 ∷ 5 ∷ 6 ∷ []) ∷ (1 ∷ NONE ∷ 7 ∷ 0 ∷ 2 ∷ 6 ∷ 8 ∷ []) ∷ [])
    -- builtin { f ( a "s" uint256 ) }
    ∷ type_row (word BuiltinFunction "f" ∷ mark OpenParen ∷ word Ident "a" ∷ word Str "s" ∷ word Ident "uint256" ∷ mark CloseParen ∷ []) 5 5 256
    -- builtin { f ( calldata ) }, { f ( calldata , ) }, { f ( calldata memory a ) }: a location without its name
    ∷ refused_row (word BuiltinFunction "f" ∷ mark OpenParen ∷ mark Calldata ∷ mark CloseParen ∷ []) 8 4
    ∷ refused_row (word BuiltinFunction "f" ∷ mark OpenParen ∷ mark Calldata ∷ mark Comma ∷ mark CloseParen ∷ []) 8 5
    ∷ refused_row (word BuiltinFunction "f" ∷ mark OpenParen ∷ mark Calldata ∷ mark Memory ∷ word Ident "a" ∷ mark CloseParen ∷ []) 8 4
    -- builtin { f ( a , , b ) }: one past the Comma that is eaten
    ∷ refused_row (word BuiltinFunction "f" ∷ mark OpenParen ∷ word Ident "a" ∷ mark Comma ∷ mark Comma ∷ word Ident "b" ∷ mark CloseParen ∷ []) 8 6
    -- builtin lists with a PrimitiveType t: { f ( t ) }, { f ( a t ) }, { f ( a , t ) }, { f ( a calldata t ) }
    ∷ refused_row (word BuiltinFunction "f" ∷ mark OpenParen ∷ mark PrimitiveType ∷ mark CloseParen ∷ []) 1 3
    ∷ type_row (word BuiltinFunction "f" ∷ mark OpenParen ∷ word Ident "a" ∷ word PrimitiveType "bool" ∷ mark CloseParen ∷ []) 4 2 0
    ∷ refused_row (word BuiltinFunction "f" ∷ mark OpenParen ∷ word Ident "a" ∷ mark Comma ∷ mark PrimitiveType ∷ mark CloseParen ∷ []) 1 5
    ∷ type_row (word BuiltinFunction "f" ∷ mark OpenParen ∷ word Ident "a" ∷ mark Calldata ∷ word PrimitiveType "bool" ∷ mark CloseParen ∷ []) 5 2 0
    -- { F ( a , , ) }: a call list eats none
    ∷ refused_row (word Ident "F" ∷ mark OpenParen ∷ word Ident "a" ∷ mark Comma ∷ mark Comma ∷ mark CloseParen ∷ []) 10 5
    -- { F ( < 0x01 > ) }: 13 is given only for statements
    ∷ refused_row (word Ident "F" ∷ mark OpenParen ∷ mark LeftAngle ∷ word Literal "0x01" ∷ mark RightAngle ∷ mark CloseParen ∷ []) 1 4
    -- { [ 0x01 ] }, { < x ] }, { go }, { go : : }, { : }
    ∷ refused_row (mark OpenBracket ∷ word Literal "0x01" ∷ mark CloseBracket ∷ []) 12 2
    ∷ refused_row (mark LeftAngle ∷ word Ident "x" ∷ mark CloseBracket ∷ []) 1 3
    ∷ refused_row (word Label "go" ∷ []) 1 2
    ∷ refused_row (word Label "go" ∷ mark Colon ∷ mark Colon ∷ []) 6 3
    ∷ refused_row (mark Colon ∷ []) 5 1
    ∷ []

-- request [1]: bodies in mode 1
abbrev pub strict_rows : List Row
strict_rows =
    -- { go : PUSH1 }, { go : PUSH1 0x0100 }: a label's push asks for its literal as a plain one does
    refused_row (word Label "go" ∷ mark Colon ∷ PUSH1 ∷ []) 4 4
    ∷ refused_row (word Label "go" ∷ mark Colon ∷ PUSH1 ∷ word Literal "0x0100" ∷ []) 4 5
    -- { go : PUSH1 0x01 }
    ∷ accepted_row (word Label "go" ∷ mark Colon ∷ PUSH1 ∷ word Literal "0x01" ∷ []) (6 ∷ 3 ∷ 0 ∷ 3 ∷ [])
    ((5 ∷ 1 ∷ 5 ∷ 1 ∷ 2 ∷ 0 ∷ 0 ∷ 1 ∷ []) ∷ (2 ∷ 3 ∷ 4 ∷ 2 ∷ 0 ∷ 0 ∷ 0 ∷ 3 ∷ []) ∷ (1 ∷ 4 ∷ 5 ∷ 3 ∷ 0 ∷ 0 ∷ 0 ∷ 4 ∷ []) ∷ [])
    []
    -- { a : b : a : }: the third label, not its Colon, and not only where the two stand side by side
    ∷ refused_row (word Label "a" ∷ mark Colon ∷ word Label "b" ∷ mark Colon ∷ word Label "a" ∷ mark Colon ∷ []) 22 5
    -- { a : a }, both Label: before the Colon is asked for
    ∷ refused_row (word Label "a" ∷ mark Colon ∷ word Label "a" ∷ []) 22 3
    -- { a : PUSH1 a : }: behind everything before it
    ∷ refused_row (word Label "a" ∷ mark Colon ∷ PUSH1 ∷ word Label "a" ∷ mark Colon ∷ []) 4 4
    -- { a : a }, the second an Ident: a label call is no name
    ∷ accepted_row (word Label "a" ∷ mark Colon ∷ word Ident "a" ∷ []) (5 ∷ 2 ∷ 0 ∷ 4 ∷ [])
    ((5 ∷ 1 ∷ 4 ∷ 1 ∷ 1 ∷ 0 ∷ 0 ∷ 1 ∷ []) ∷ (3 ∷ 3 ∷ 4 ∷ 2 ∷ 0 ∷ 0 ∷ 0 ∷ 3 ∷ []) ∷ [])
    []
    -- { a : aa : A : }: byte for byte
    ∷ accepted_row (word Label "a" ∷ mark Colon ∷ word Label "aa" ∷ mark Colon ∷ word Label "A" ∷ mark Colon ∷ []) (8 ∷ 3 ∷ 0 ∷ 3 ∷ [])
    ((5 ∷ 1 ∷ 3 ∷ 1 ∷ 0 ∷ 0 ∷ 0 ∷ 1 ∷ []) ∷ (5 ∷ 3 ∷ 5 ∷ 2 ∷ 0 ∷ 0 ∷ 0 ∷ 3 ∷ []) ∷ (5 ∷ 5 ∷ 7 ∷ 3 ∷ 0 ∷ 0 ∷ 0 ∷ 5 ∷ []) ∷ [])
    []
    -- { go : PUSH1 go }, { go : : }: another token behind a push is 4, one that begins no item is 6 as ever
    ∷ refused_row (word Label "go" ∷ mark Colon ∷ PUSH1 ∷ word Ident "go" ∷ []) 4 4
    ∷ refused_row (word Label "go" ∷ mark Colon ∷ mark Colon ∷ []) 6 3
    ∷ []

-- request [8]: bodies with their lengths in edition 1 and in edition 2, of which `pick` takes one
abbrev pub edition_rows : (ℕ → ℕ → ℕ) → List Row
edition_rows pick =
    -- { 0x00 }
    accepted_row (word Literal "0x00" ∷ []) (3 ∷ 1 ∷ 0 ∷ pick 2 1 ∷ [])
    ((1 ∷ 1 ∷ 2 ∷ 1 ∷ 0 ∷ 0 ∷ 0 ∷ 1 ∷ []) ∷ [])
    []
    -- { 0x0000 0x01 }: the value decides, not the digits
    ∷ accepted_row (word Literal "0x0000" ∷ word Literal "0x01" ∷ []) (4 ∷ 2 ∷ 0 ∷ pick 4 3 ∷ [])
    ((1 ∷ 1 ∷ 2 ∷ 1 ∷ 0 ∷ 0 ∷ 0 ∷ 1 ∷ []) ∷ (1 ∷ 2 ∷ 3 ∷ 2 ∷ 0 ∷ 0 ∷ 0 ∷ 2 ∷ []) ∷ [])
    []
    -- { PUSH1 0x00 }: an operand counts what its push takes
    ∷ accepted_row (PUSH1 ∷ word Literal "0x00" ∷ []) (4 ∷ 2 ∷ 0 ∷ pick 2 2 ∷ [])
    ((2 ∷ 1 ∷ 2 ∷ 1 ∷ 0 ∷ 0 ∷ 0 ∷ 1 ∷ []) ∷ (1 ∷ 2 ∷ 3 ∷ 2 ∷ 0 ∷ 0 ∷ 0 ∷ 2 ∷ []) ∷ [])
    []
    -- { PUSH1 0x00 0x00 }
    ∷ accepted_row (PUSH1 ∷ word Literal "0x00" ∷ word Literal "0x00" ∷ []) (5 ∷ 3 ∷ 0 ∷ pick 4 3 ∷ [])
    ((2 ∷ 1 ∷ 2 ∷ 1 ∷ 0 ∷ 0 ∷ 0 ∷ 1 ∷ []) ∷ (1 ∷ 2 ∷ 3 ∷ 2 ∷ 0 ∷ 0 ∷ 0 ∷ 2 ∷ []) ∷ (1 ∷ 3 ∷ 4 ∷ 3 ∷ 0 ∷ 0 ∷ 0 ∷ 3 ∷ []) ∷ [])
    []
    -- { go : PUSH2 0x00 0x00 }
    ∷ accepted_row (word Label "go" ∷ mark Colon ∷ byte 0x61 ∷ word Literal "0x00" ∷ word Literal "0x00" ∷ []) (7 ∷ 4 ∷ 0 ∷ pick 6 5 ∷ [])
    ((5 ∷ 1 ∷ 6 ∷ 1 ∷ 3 ∷ 0 ∷ 0 ∷ 1 ∷ []) ∷ (2 ∷ 3 ∷ 4 ∷ 2 ∷ 0 ∷ 0 ∷ 0 ∷ 3 ∷ []) ∷ (1 ∷ 4 ∷ 5 ∷ 3 ∷ 0 ∷ 0 ∷ 0 ∷ 4 ∷ []) ∷ (1 ∷ 5 ∷ 6 ∷ 4 ∷ 0 ∷ 0 ∷ 0 ∷ 5 ∷ []) ∷ [])
    []
    -- { 0x00 [ X ] }
    ∷ accepted_row (word Literal "0x00" ∷ mark OpenBracket ∷ word Ident "X" ∷ mark CloseBracket ∷ []) (6 ∷ 2 ∷ 0 ∷ pick NONE NONE ∷ [])
    ((1 ∷ 1 ∷ 2 ∷ 1 ∷ 0 ∷ 0 ∷ 0 ∷ 1 ∷ []) ∷ (6 ∷ 2 ∷ 5 ∷ 2 ∷ 0 ∷ 0 ∷ 0 ∷ 3 ∷ []) ∷ [])
    []
    -- { PUSH0 0x00 }: PUSH0 is no value push
    ∷ accepted_row (byte 0x5f ∷ word Literal "0x00" ∷ []) (4 ∷ 2 ∷ 0 ∷ pick 3 2 ∷ [])
    ((2 ∷ 1 ∷ 2 ∷ 1 ∷ 0 ∷ 0 ∷ 0 ∷ 1 ∷ []) ∷ (1 ∷ 2 ∷ 3 ∷ 2 ∷ 0 ∷ 0 ∷ 0 ∷ 2 ∷ []) ∷ [])
    []
    -- { 0x00 go : 0x0 }: in the macro part and in a label
    ∷ accepted_row (word Literal "0x00" ∷ word Label "go" ∷ mark Colon ∷ word Literal "0x0" ∷ []) (6 ∷ 3 ∷ 0 ∷ pick 5 3 ∷ [])
    ((1 ∷ 1 ∷ 2 ∷ 1 ∷ 0 ∷ 0 ∷ 0 ∷ 1 ∷ []) ∷ (5 ∷ 2 ∷ 5 ∷ 2 ∷ 1 ∷ 0 ∷ 0 ∷ 2 ∷ []) ∷ (1 ∷ 4 ∷ 5 ∷ 3 ∷ 0 ∷ 0 ∷ 0 ∷ 4 ∷ []) ∷ [])
    []
    -- { go : PUSH1 b : 0x00 }: a push without its operand
    ∷ accepted_row (word Label "go" ∷ mark Colon ∷ PUSH1 ∷ word Label "b" ∷ mark Colon ∷ word Literal "0x00" ∷ []) (8 ∷ 4 ∷ 0 ∷ pick NONE NONE ∷ [])
    ((5 ∷ 1 ∷ 4 ∷ 1 ∷ 1 ∷ 0 ∷ 0 ∷ 1 ∷ []) ∷ (2 ∷ 3 ∷ 4 ∷ 2 ∷ 0 ∷ 0 ∷ 0 ∷ 3 ∷ []) ∷ (5 ∷ 4 ∷ 7 ∷ 3 ∷ 1 ∷ 0 ∷ 0 ∷ 4 ∷ []) ∷ (1 ∷ 6 ∷ 7 ∷ 4 ∷ 0 ∷ 0 ∷ 0 ∷ 6 ∷ []) ∷ [])
    []
    ∷ []

-- f ( a NAME ) of a builtin f
abbrev pub given : Sketch → List Sketch
given name = word BuiltinFunction "f" ∷ mark OpenParen ∷ word Ident "a" ∷ name ∷ mark CloseParen ∷ []

-- the name at place 4 is a type, of this size
abbrev pub type_given : Sketch → ℕ → ℕ → Row
type_given name t size = type_row (given name) 4 t size

-- the name is none: two arguments
abbrev pub name_given : String → Row
name_given name =
    accepted_row (given (word Ident name)) (7 ∷ 1 ∷ 2 ∷ NONE ∷ [])
    ((8 ∷ 1 ∷ 6 ∷ 1 ∷ 0 ∷ 0 ∷ 2 ∷ 1 ∷ []) ∷ [])
    ((1 ∷ NONE ∷ 3 ∷ 0 ∷ 0 ∷ 3 ∷ 4 ∷ []) ∷ (1 ∷ NONE ∷ 4 ∷ 0 ∷ 0 ∷ 4 ∷ 5 ∷ []) ∷ [])

-- request [10]: names of each type, PrimitiveTypes, names that are no types
abbrev pub type_rows : List Row
type_rows =
    type_given (word Ident "uint256") 5 256
    ∷ type_given (word Ident "uint") 5 256
    ∷ type_given (word Ident "int8") 6 8
    ∷ type_given (word Ident "int") 6 256
    ∷ type_given (word Ident "bytes32") 7 32
    ∷ type_given (word Ident "bytes") 4 0
    ∷ type_given (word Ident "bool") 2 0
    ∷ type_given (word Ident "string") 3 0
    ∷ type_given (word PrimitiveType "address") 1 0
    ∷ type_given (word PrimitiveType "uint16") 5 16
    -- a PrimitiveType whose text is no type's
    ∷ type_given (word PrimitiveType "foo") 0 0
    ∷ name_given "uint264"
    ∷ name_given "bytes0"
    ∷ name_given "uint08"
    ∷ name_given "Uint8"
    ∷ name_given "bytes33"
    -- f ( %bool ): a type, but the number is 1
    ∷ refused_row (word BuiltinFunction "f" ∷ mark OpenParen ∷ word PrimitiveType "bool" ∷ mark CloseParen ∷ []) 1 3
    ∷ []
