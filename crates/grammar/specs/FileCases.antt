-- Document 01, "Bodies and files on both sides": the rows of files, input and answer side by side, further files, and those of requests [1] and [7]. Eof follows each.
use Rattle.std.specs.Prelude.{ℕ, ◌+◌, List, [], ◌∷◌, ◌++◌, map, length}
use Prim.Native.String.{String}
use Rattle.tokens.specs.Byte.{bytes}
use Rattle.tokens.specs.Token.{Token, Positions}
use Rattle.tokens.specs.Kind.{Eof, Whitespace, Comment, Include, Define, Pound, Macro, Fn, Test, Function, Event, Constant, Error, JumpTable, JumpTablePacked, CodeTable, Takes, Returns, View, Indexed, Calldata, Memory, Assign, OpenParen, CloseParen, OpenBrace, CloseBrace, Comma, Colon, FreeStoragePointer, Ident, Label, Literal, Str, PrimitiveType}
use Rattle.grammar.specs.Reading.{NONE}
use Rattle.grammar.specs.FileReading.{Definition}
use Rattle.grammar.specs.FileRecords.{definition_records, file_statements, file_argument_records}
use Rattle.grammar.specs.TextRanges.{placed}
use Rattle.grammar.specs.Result.{Answer}
use Rattle.grammar.specs.Call.{acceptance, refusal, refusal_of, file_numbers, records_of}
use Rattle.grammar.specs.Cases.{Sketch, mark, word, num, PUSH1}

-- what a file call answers: number, cursor, definitions, statements, arguments, type, size; and the records of the three tables
pub record FileOutcome : Type 0 where
  pub answers : List ℕ
  pub definitions : List (List ℕ)
  pub statements : List (List ℕ)
  pub arguments : List (List ℕ)

-- of an answer for these kept tokens, which stand so in the text, where the tables have room
abbrev pub file_outcome : List Token → Positions → Answer (List Definition) → FileOutcome
file_outcome kept pos x =
    record {
      answers = file_numbers kept x;
      definitions = records_of (definition_records pos 0 0) x;
      statements = records_of (file_statements 0 0) x;
      arguments = records_of file_argument_records x;
    }

-- a row: the tokens before Eof, and the outcome, of whose definition records the last two words are left out
pub record FileRow : Type 0 where
  pub input : List Sketch
  pub outcome : FileOutcome

-- a file and its Eof
abbrev pub ended : List Sketch → List Sketch
ended ts = ts ++ (mark Eof ∷ [])

-- the whole outcome, by where the tokens stand in the text
abbrev pub outcome_at : FileRow → Positions → FileOutcome
outcome_at row pos =
    record { answers = row.outcome.answers; definitions = map (placed pos) row.outcome.definitions; statements = row.outcome.statements; arguments = row.outcome.arguments }

-- a row that is accepted: cursor and counts; definition records without their last two words; statement and argument records
abbrev pub accepted_file : List Sketch → List ℕ → List (List ℕ) → List (List ℕ) → List (List ℕ) → FileRow
accepted_file input answers definitions statements arguments =
    record { input = input; outcome = record { answers = 0 ∷ (answers ++ (0 ∷ 0 ∷ [])); definitions = definitions; statements = statements; arguments = arguments } }

-- a row that is refused: the answer
abbrev pub refused_file_with : List Sketch → List ℕ → FileRow
refused_file_with input answers = record { input = input; outcome = record { answers = answers; definitions = []; statements = []; arguments = [] } }

-- number and cursor, and no type
abbrev pub refusal_file : List Sketch → ℕ → ℕ → FileRow
refusal_file input c q = refused_file_with input (refusal c q)

-- 7: cursor, type, size
abbrev pub type_file : List Sketch → ℕ → ℕ → ℕ → FileRow
type_file input q t size = refused_file_with input (refusal_of 7 q (t, size))

-- #define kind name
abbrev pub head : ℕ → Sketch → List Sketch → List Sketch
head kind name ts = mark Define ∷ mark kind ∷ name ∷ ts

-- #define kind name ( ) = { }
abbrev pub bare : ℕ → Sketch → List Sketch
bare kind name = head kind name (mark OpenParen ∷ mark CloseParen ∷ mark Assign ∷ mark OpenBrace ∷ mark CloseBrace ∷ [])

abbrev pub file_rows : List FileRow
file_rows =
    -- #define macro M ( , ) = { }
    refusal_file (head Macro (word Ident "M") (mark OpenParen ∷ mark Comma ∷ mark CloseParen ∷ mark Assign ∷ mark OpenBrace ∷ mark CloseBrace ∷ [])) 8 5
    -- Eof alone
    ∷ accepted_file [] (0 ∷ 0 ∷ 0 ∷ 0 ∷ []) [] [] []
    -- #define table T { abc }, #define table T { abc d }
    ∷ accepted_file (head CodeTable (word Ident "T") (mark OpenBrace ∷ word Ident "abc" ∷ mark CloseBrace ∷ [])) (6 ∷ 1 ∷ 1 ∷ 0 ∷ [])
    ((11 ∷ 2 ∷ 0 ∷ 6 ∷ 0 ∷ 0 ∷ 0 ∷ 0 ∷ 0 ∷ 1 ∷ 1 ∷ 0 ∷ []) ∷ [])
    ((9 ∷ 4 ∷ 5 ∷ 1 ∷ 0 ∷ 0 ∷ 0 ∷ 4 ∷ []) ∷ [])
    []
    ∷ accepted_file (head CodeTable (word Ident "T") (mark OpenBrace ∷ word Ident "abc" ∷ word Ident "d" ∷ mark CloseBrace ∷ [])) (7 ∷ 1 ∷ 2 ∷ 0 ∷ [])
    ((11 ∷ 2 ∷ 0 ∷ 7 ∷ 0 ∷ 0 ∷ 0 ∷ 0 ∷ 0 ∷ 2 ∷ 2 ∷ 0 ∷ []) ∷ [])
    ((9 ∷ 4 ∷ 5 ∷ 1 ∷ 0 ∷ 0 ∷ 0 ∷ 4 ∷ []) ∷ (9 ∷ 5 ∷ 6 ∷ 2 ∷ 0 ∷ 0 ∷ 0 ∷ 5 ∷ []) ∷ [])
    []
    -- #define macro M ( a ) = { F ( b ) l : G ( c ) }, l a Label
    ∷ accepted_file (head Macro (word Ident "M") (mark OpenParen ∷ word Ident "a" ∷ mark CloseParen ∷ mark Assign ∷ mark OpenBrace ∷ word Ident "F" ∷ mark OpenParen ∷ word Ident "b" ∷ mark CloseParen ∷ word Label "l" ∷ mark Colon ∷ word Ident "G" ∷ mark OpenParen ∷ word Ident "c" ∷ mark CloseParen ∷ mark CloseBrace ∷ [])) (19 ∷ 1 ∷ 3 ∷ 3 ∷ [])
    ((6 ∷ 2 ∷ 0 ∷ 19 ∷ 0 ∷ 1 ∷ 1 ∷ 0 ∷ 0 ∷ 3 ∷ 0 ∷ 0 ∷ []) ∷ [])
    ((4 ∷ 8 ∷ 12 ∷ 1 ∷ 0 ∷ 1 ∷ 1 ∷ 8 ∷ []) ∷ (5 ∷ 12 ∷ 18 ∷ 2 ∷ 1 ∷ 2 ∷ 0 ∷ 12 ∷ []) ∷ (4 ∷ 14 ∷ 18 ∷ 3 ∷ 0 ∷ 2 ∷ 1 ∷ 14 ∷ []) ∷ [])
    ((1 ∷ NONE ∷ 4 ∷ 0 ∷ 0 ∷ 4 ∷ 5 ∷ []) ∷ (5 ∷ NONE ∷ 10 ∷ 0 ∷ 0 ∷ 10 ∷ 11 ∷ []) ∷ (5 ∷ NONE ∷ 16 ∷ 0 ∷ 0 ∷ 16 ∷ 17 ∷ []) ∷ [])
    -- #include "x"
    ∷ accepted_file (mark Include ∷ word Str "x" ∷ []) (2 ∷ 1 ∷ 0 ∷ 0 ∷ []) ((1 ∷ 1 ∷ 0 ∷ 2 ∷ 0 ∷ 0 ∷ 0 ∷ 0 ∷ 0 ∷ 0 ∷ 0 ∷ 0 ∷ []) ∷ []) [] []
    -- #define function f ( t a ) view returns ( t ), t a PrimitiveType
    ∷ accepted_file (head Function (word Ident "f") (mark OpenParen ∷ mark PrimitiveType ∷ word Ident "a" ∷ mark CloseParen ∷ mark View ∷ mark Returns ∷ mark OpenParen ∷ mark PrimitiveType ∷ mark CloseParen ∷ [])) (12 ∷ 1 ∷ 0 ∷ 2 ∷ [])
    ((2 ∷ 2 ∷ 0 ∷ 12 ∷ 0 ∷ 1 ∷ 1 ∷ 1 ∷ 0 ∷ 0 ∷ 1 ∷ 0 ∷ []) ∷ [])
    []
    ((1 ∷ 4 ∷ 5 ∷ 0 ∷ 0 ∷ 4 ∷ 6 ∷ []) ∷ (1 ∷ 10 ∷ NONE ∷ 0 ∷ 0 ∷ 10 ∷ 11 ∷ []) ∷ [])
    -- #define event E ( t indexed calldata a )
    ∷ accepted_file (head Event (word Ident "E") (mark OpenParen ∷ mark PrimitiveType ∷ mark Indexed ∷ mark Calldata ∷ word Ident "a" ∷ mark CloseParen ∷ [])) (9 ∷ 1 ∷ 0 ∷ 1 ∷ [])
    ((3 ∷ 2 ∷ 0 ∷ 9 ∷ 0 ∷ 1 ∷ 1 ∷ 0 ∷ 0 ∷ 0 ∷ 0 ∷ 0 ∷ []) ∷ [])
    []
    ((1 ∷ 4 ∷ 7 ∷ 1 ∷ 1 ∷ 4 ∷ 8 ∷ []) ∷ [])
    -- #define constant C = 0x01 #define constant D = FREE_STORAGE_POINTER()
    ∷ accepted_file (head Constant (word Ident "C") (mark Assign ∷ word Literal "0x01" ∷ head Constant (word Ident "D") (mark Assign ∷ mark FreeStoragePointer ∷ []))) (10 ∷ 2 ∷ 0 ∷ 0 ∷ [])
    ((4 ∷ 2 ∷ 0 ∷ 5 ∷ 0 ∷ 0 ∷ 0 ∷ 0 ∷ 0 ∷ 0 ∷ 1 ∷ 4 ∷ []) ∷ (4 ∷ 7 ∷ 5 ∷ 10 ∷ 0 ∷ 0 ∷ 0 ∷ 0 ∷ 0 ∷ 0 ∷ 2 ∷ 9 ∷ []) ∷ [])
    []
    []
    -- #define error E ( t ) #define jumptable T { a }
    ∷ accepted_file (head Error (word Ident "E") (mark OpenParen ∷ mark PrimitiveType ∷ mark CloseParen ∷ head JumpTable (word Ident "T") (mark OpenBrace ∷ word Ident "a" ∷ mark CloseBrace ∷ []))) (12 ∷ 2 ∷ 1 ∷ 1 ∷ [])
    ((5 ∷ 2 ∷ 0 ∷ 6 ∷ 0 ∷ 1 ∷ 1 ∷ 0 ∷ 0 ∷ 0 ∷ 0 ∷ 0 ∷ []) ∷ (9 ∷ 8 ∷ 6 ∷ 12 ∷ 1 ∷ 0 ∷ 1 ∷ 0 ∷ 0 ∷ 1 ∷ 32 ∷ 0 ∷ []) ∷ [])
    ((3 ∷ 10 ∷ 11 ∷ 1 ∷ 0 ∷ 1 ∷ 0 ∷ 10 ∷ []) ∷ [])
    ((1 ∷ 4 ∷ NONE ∷ 0 ∷ 0 ∷ 4 ∷ 5 ∷ []) ∷ [])
    -- #define jumptable__packed T ( ) = { a b }
    ∷ accepted_file (head JumpTablePacked (word Ident "T") (mark OpenParen ∷ mark CloseParen ∷ mark Assign ∷ mark OpenBrace ∷ word Ident "a" ∷ word Ident "b" ∷ mark CloseBrace ∷ [])) (10 ∷ 1 ∷ 2 ∷ 0 ∷ [])
    ((10 ∷ 2 ∷ 0 ∷ 10 ∷ 0 ∷ 0 ∷ 0 ∷ 0 ∷ 0 ∷ 2 ∷ 4 ∷ 0 ∷ []) ∷ [])
    ((3 ∷ 7 ∷ 8 ∷ 1 ∷ 0 ∷ 0 ∷ 0 ∷ 7 ∷ []) ∷ (3 ∷ 8 ∷ 9 ∷ 2 ∷ 0 ∷ 0 ∷ 0 ∷ 8 ∷ []) ∷ [])
    []
    -- #define test t ( ) = takes ( 1 ) returns ( 2 ) { }
    ∷ accepted_file (head Test (word Ident "t") (mark OpenParen ∷ mark CloseParen ∷ mark Assign ∷ mark Takes ∷ mark OpenParen ∷ num 1 ∷ mark CloseParen ∷ mark Returns ∷ mark OpenParen ∷ num 2 ∷ mark CloseParen ∷ mark OpenBrace ∷ mark CloseBrace ∷ [])) (16 ∷ 1 ∷ 0 ∷ 0 ∷ [])
    ((8 ∷ 2 ∷ 0 ∷ 16 ∷ 0 ∷ 0 ∷ 0 ∷ 0 ∷ 0 ∷ 0 ∷ 1 ∷ 2 ∷ []) ∷ [])
    []
    []
    -- #define fn f ( memory a b , c ) = returns ( 4294967295 ) { }
    ∷ accepted_file (head Fn (word Ident "f") (mark OpenParen ∷ mark Memory ∷ word Ident "a" ∷ word Ident "b" ∷ mark Comma ∷ word Ident "c" ∷ mark CloseParen ∷ mark Assign ∷ mark Returns ∷ mark OpenParen ∷ num 4294967295 ∷ mark CloseParen ∷ mark OpenBrace ∷ mark CloseBrace ∷ [])) (17 ∷ 1 ∷ 0 ∷ 3 ∷ [])
    ((7 ∷ 2 ∷ 0 ∷ 17 ∷ 0 ∷ 3 ∷ 3 ∷ 0 ∷ 0 ∷ 0 ∷ 0 ∷ 4294967295 ∷ []) ∷ [])
    []
    ((1 ∷ NONE ∷ 5 ∷ 0 ∷ 2 ∷ 4 ∷ 6 ∷ []) ∷ (1 ∷ NONE ∷ 6 ∷ 0 ∷ 0 ∷ 6 ∷ 7 ∷ []) ∷ (1 ∷ NONE ∷ 8 ∷ 0 ∷ 0 ∷ 8 ∷ 9 ∷ []) ∷ [])
    -- macro b, macro a, fn b: 20 at the third name
    ∷ refusal_file (bare Macro (word Ident "b") ++ (bare Macro (word Ident "a") ++ bare Fn (word Ident "b"))) 20 18
    -- what is wrong inside the later macro comes first: macro b, macro b ( , ) = { }
    ∷ refusal_file (bare Macro (word Ident "b") ++ head Macro (word Ident "b") (mark OpenParen ∷ mark Comma ∷ [])) 8 13
    -- a macro and a table may share a name; what is wrong behind the later macro comes after 20
    ∷ accepted_file (bare Macro (word Ident "b") ++ head JumpTable (word Ident "b") (mark OpenBrace ∷ mark CloseBrace ∷ [])) (13 ∷ 2 ∷ 0 ∷ 0 ∷ [])
    ((6 ∷ 2 ∷ 0 ∷ 8 ∷ 0 ∷ 0 ∷ 0 ∷ 0 ∷ 0 ∷ 0 ∷ 0 ∷ 0 ∷ []) ∷ (9 ∷ 10 ∷ 8 ∷ 13 ∷ 0 ∷ 0 ∷ 0 ∷ 0 ∷ 0 ∷ 0 ∷ 0 ∷ 0 ∷ []) ∷ [])
    []
    []
    ∷ refusal_file (bare Macro (word Ident "b") ++ (bare Test (word Ident "b") ++ (mark Pound ∷ []))) 20 10
    -- #, #define #, #define, #include, { at top level
    ∷ refusal_file (mark Pound ∷ []) 21 0
    ∷ refusal_file (mark Define ∷ mark Pound ∷ []) 2 1
    ∷ refusal_file (mark Define ∷ []) 2 1
    ∷ refusal_file (mark Include ∷ []) 1 1
    ∷ refusal_file (mark OpenBrace ∷ []) 1 0
    -- #define constant C = {
    ∷ refusal_file (head Constant (word Ident "C") (mark Assign ∷ mark OpenBrace ∷ [])) 3 4
    -- typed lists: ( t , , ), ( t t ), ( t uint8 ), ( calldata ), and Indexed in an error
    ∷ refusal_file (head Error (word Ident "E") (mark OpenParen ∷ mark PrimitiveType ∷ mark Comma ∷ mark Comma ∷ [])) 8 6
    ∷ type_file (head Error (word Ident "E") (mark OpenParen ∷ mark PrimitiveType ∷ word PrimitiveType "bool" ∷ [])) 5 2 0
    ∷ type_file (head Error (word Ident "E") (mark OpenParen ∷ mark PrimitiveType ∷ word Ident "uint8" ∷ [])) 5 5 8
    ∷ type_file (head Macro (word Ident "M") (mark OpenParen ∷ word Ident "a" ∷ word Ident "int16" ∷ [])) 5 6 16
    ∷ refusal_file (head Error (word Ident "E") (mark OpenParen ∷ mark Calldata ∷ [])) 8 4
    ∷ refusal_file (head Error (word Ident "E") (mark OpenParen ∷ mark PrimitiveType ∷ mark Indexed ∷ [])) 8 5
    -- #define function f ( ) returns ( )
    ∷ refusal_file (head Function (word Ident "f") (mark OpenParen ∷ mark CloseParen ∷ mark Returns ∷ [])) 1 5
    -- takes { }, takes ( a ), returns before takes
    ∷ refusal_file (head Macro (word Ident "M") (mark OpenParen ∷ mark CloseParen ∷ mark Assign ∷ mark Takes ∷ mark OpenBrace ∷ [])) 1 7
    ∷ refusal_file (head Macro (word Ident "M") (mark OpenParen ∷ mark CloseParen ∷ mark Assign ∷ mark Takes ∷ mark OpenParen ∷ word Ident "a" ∷ [])) 9 8
    ∷ refusal_file (head Macro (word Ident "M") (mark OpenParen ∷ mark CloseParen ∷ mark Assign ∷ mark Returns ∷ mark OpenParen ∷ num 1 ∷ mark CloseParen ∷ mark Takes ∷ [])) 1 10
    -- tables: T = ( ) {, an entry that is no hex, Eof inside
    ∷ refusal_file (head JumpTable (word Ident "T") (mark Assign ∷ mark OpenParen ∷ [])) 1 4
    ∷ refusal_file (head CodeTable (word Ident "T") (mark OpenBrace ∷ word Ident "xyz" ∷ [])) 11 4
    ∷ refusal_file (head JumpTable (word Ident "T") (mark OpenBrace ∷ [])) 11 4
    ∷ []

-- #define macro name ( ) = { ts }
abbrev pub macro_of : String → List Sketch → List Sketch
macro_of name ts = head Macro (word Ident name) ((mark OpenParen ∷ mark CloseParen ∷ mark Assign ∷ mark OpenBrace ∷ ts) ++ (mark CloseBrace ∷ []))

-- request [1]: files in mode 1
abbrev pub strict_files : List FileRow
strict_files =
    -- the label a in two macros
    accepted_file (macro_of "M" (word Label "a" ∷ mark Colon ∷ []) ++ macro_of "N" (word Label "a" ∷ mark Colon ∷ [])) (20 ∷ 2 ∷ 2 ∷ 0 ∷ [])
    ((6 ∷ 2 ∷ 0 ∷ 10 ∷ 0 ∷ 0 ∷ 0 ∷ 0 ∷ 0 ∷ 1 ∷ 0 ∷ 0 ∷ []) ∷ (6 ∷ 12 ∷ 10 ∷ 20 ∷ 0 ∷ 0 ∷ 0 ∷ 0 ∷ 1 ∷ 1 ∷ 0 ∷ 0 ∷ []) ∷ [])
    ((5 ∷ 7 ∷ 9 ∷ 1 ∷ 0 ∷ 0 ∷ 0 ∷ 7 ∷ []) ∷ (5 ∷ 17 ∷ 19 ∷ 2 ∷ 0 ∷ 0 ∷ 0 ∷ 17 ∷ []) ∷ [])
    []
    -- twice in the second of two macros of one name: 22 comes before 20
    ∷ refusal_file (macro_of "M" [] ++ macro_of "M" (word Label "a" ∷ mark Colon ∷ word Label "a" ∷ mark Colon ∷ [])) 22 17
    -- a label's push in a fn
    ∷ refusal_file (head Fn (word Ident "F") (mark OpenParen ∷ mark CloseParen ∷ mark Assign ∷ mark OpenBrace ∷ word Label "a" ∷ mark Colon ∷ PUSH1 ∷ mark CloseBrace ∷ [])) 4 10
    ∷ []

-- ---- request [7]: files by their bytes

-- a piece of a text: a token, also of white space or a comment, by its kind and its letters; or letters that no token covers
pub data Piece : Type 0 where
  token : ℕ → String → Piece
  uncovered : String → Piece

-- its letters
abbrev pub letters : Piece → List ℕ
letters (token kind text) = bytes text
letters (uncovered text) = bytes text

-- the words of a token at a byte, before those of the rest
abbrev pub words_of : Piece → ℕ → List ℕ → List ℕ
words_of (token kind text) b rest = kind ∷ b ∷ (b + length (bytes text)) ∷ 0 ∷ rest
words_of (uncovered text) b rest = rest

-- the text that pieces are, one behind the other
unfoldable pub text_of : List Piece → List ℕ
text_of [] = []
text_of (c ∷ cs) = letters c ++ text_of cs

-- the words of their tokens, where the first piece stands at byte b, and of Eof
unfoldable pub words_from : ℕ → List Piece → List ℕ
words_from b [] = Eof ∷ b ∷ b ∷ 0 ∷ []
words_from b (c ∷ cs) = words_of c b (words_from (b + length (letters c)) cs)

-- a row: the text, and the outcome
pub record TextRow : Type 0 where
  pub cut : List Piece
  pub outcome : FileOutcome

-- a row without statements and arguments, which is accepted: cursor and definition records
abbrev pub accepted_text : List Piece → ℕ → List (List ℕ) → TextRow
accepted_text cut cursor definitions =
    record { cut = cut; outcome = record { answers = acceptance cursor (length definitions) 0 0; definitions = definitions; statements = []; arguments = [] } }

-- one space
abbrev pub space : Piece
space = token Whitespace " "

-- #define constant C = 0x01
abbrev pub a_constant : List Piece
a_constant = token Define "#define" ∷ space ∷ token Constant "constant" ∷ space ∷ token Ident "C" ∷ space ∷ token Assign "=" ∷ space ∷ token Literal "0x01" ∷ []

-- #define macro M()={}
abbrev pub a_bare_macro : List Piece
a_bare_macro = token Define "#define" ∷ space ∷ token Macro "macro" ∷ space ∷ token Ident "M" ∷ token OpenParen "(" ∷ token CloseParen ")" ∷ token Assign "=" ∷ token OpenBrace "{" ∷ token CloseBrace "}" ∷ []

-- from byte 0 up to 25
abbrev pub one_constant : TextRow
one_constant = accepted_text a_constant 5 ((4 ∷ 2 ∷ 0 ∷ 5 ∷ 0 ∷ 0 ∷ 0 ∷ 0 ∷ 0 ∷ 0 ∷ 1 ∷ 4 ∷ 0 ∷ 25 ∷ []) ∷ [])

-- request [7]: definitions in a text of their own
abbrev pub text_rows : List TextRow
text_rows =
    one_constant
    -- behind a comment of seven bytes both move by seven; white space behind moves nothing
    ∷ accepted_text (token Comment "/*fee*/" ∷ (a_constant ++ (token Whitespace "   " ∷ []))) 5 ((4 ∷ 2 ∷ 0 ∷ 5 ∷ 0 ∷ 0 ∷ 0 ∷ 0 ∷ 0 ∷ 0 ∷ 1 ∷ 4 ∷ 7 ∷ 32 ∷ []) ∷ [])
    -- what stands between two lies in neither range
    ∷ accepted_text (a_constant ++ (token Comment "/**/" ∷ space ∷ a_constant)) 10
    ((4 ∷ 2 ∷ 0 ∷ 5 ∷ 0 ∷ 0 ∷ 0 ∷ 0 ∷ 0 ∷ 0 ∷ 1 ∷ 4 ∷ 0 ∷ 25 ∷ []) ∷ (4 ∷ 7 ∷ 5 ∷ 10 ∷ 0 ∷ 0 ∷ 0 ∷ 0 ∷ 0 ∷ 0 ∷ 1 ∷ 9 ∷ 30 ∷ 55 ∷ []) ∷ [])
    -- where nothing stands between them, one ends where the next starts
    ∷ accepted_text (a_bare_macro ++ a_constant) 13
    ((6 ∷ 2 ∷ 0 ∷ 8 ∷ 0 ∷ 0 ∷ 0 ∷ 0 ∷ 0 ∷ 0 ∷ 0 ∷ 0 ∷ 0 ∷ 20 ∷ []) ∷ (4 ∷ 10 ∷ 8 ∷ 13 ∷ 0 ∷ 0 ∷ 0 ∷ 0 ∷ 0 ∷ 0 ∷ 1 ∷ 12 ∷ 20 ∷ 45 ∷ []) ∷ [])
    -- an end that no token covers is in no range: #include 'x', where the list leaves out the quotes
    ∷ accepted_text (token Include "#include" ∷ uncovered " '" ∷ token Str "x" ∷ uncovered "'" ∷ []) 2 ((1 ∷ 1 ∷ 0 ∷ 2 ∷ 0 ∷ 0 ∷ 0 ∷ 0 ∷ 0 ∷ 0 ∷ 0 ∷ 0 ∷ 0 ∷ 11 ∷ []) ∷ [])
    -- an import of no bytes stands where its tokens do
    ∷ accepted_text (a_constant ++ (space ∷ token Include "" ∷ token Str "" ∷ [])) 7
    ((4 ∷ 2 ∷ 0 ∷ 5 ∷ 0 ∷ 0 ∷ 0 ∷ 0 ∷ 0 ∷ 0 ∷ 1 ∷ 4 ∷ 0 ∷ 25 ∷ []) ∷ (1 ∷ 6 ∷ 5 ∷ 7 ∷ 0 ∷ 0 ∷ 0 ∷ 0 ∷ 0 ∷ 0 ∷ 0 ∷ 0 ∷ 26 ∷ 26 ∷ []) ∷ [])
    ∷ []
