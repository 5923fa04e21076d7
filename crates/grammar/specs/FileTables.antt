-- What a reader of the tables relies on, for files: each word of each definition record of an accepted call, and of the records it points at, said by the tokens
-- at its places: their kinds, a Num's number, the length of an entry's text, that the name of an argument with a type is not reserved; and the last two words of a
-- definition by where its first and its last token stand in the text. No reading and no parser stands here. The numbers of a family are those of Tables: `i n`
-- statements, `a m` arguments, `p q` the range.
use Rattle.std.specs.Prelude.{ℕ, suc, ◌+◌, ◌-◌, ◌*◌, ◌/◌, ◌≤◌, ◌<◌, ◌≡◌, Bool, true, false, List, [], ◌∷◌, length, get_or}
use Rattle.tokens.specs.Number.{definition_width, statement_width, name_form, label_call_type, code_type, import_definition, function_definition, event_definition, constant_definition, error_definition, macro_definition, fn_definition, test_definition, jump_table_definition, packed_table_definition, code_table_definition}
use Rattle.tokens.specs.Token.{Token, token_at, Positions}
use Rattle.tokens.specs.Kind.{Include, Define, Macro, Fn, Test, Function, Event, Constant, Error, JumpTable, JumpTablePacked, CodeTable, Takes, Returns, Assign, OpenParen, CloseParen, OpenBrace, CloseBrace, FreeStoragePointer, Ident, Literal, Num, Str, PrimitiveType}
use Rattle.grammar.specs.Reading.{NONE}
use Rattle.grammar.specs.Grammar.{Location}
use Rattle.grammar.specs.FileGrammar.{IsIndexed, IsName, FunctionType}
use Rattle.grammar.specs.Tables.{record_of, Stands, NameWords, ParenTable, BodyTable, Flat, Walk}

-- at place p a token of which K says the number v, and q is behind it; or none is taken, v is d and q is p: what has to stand at q then shows that none is there
pub data Perhaps (kept : List Token) (K : Token → ℕ → Type 0) (d : ℕ) : ℕ → ℕ → ℕ → Type 0 where
  nothing_there : {p : ℕ} → Perhaps kept K d p p d
  one_there : {p v : ℕ} → K (token_at kept p) v → Perhaps kept K d p (suc p) v

-- an argument with a type; Indexed (events only), location and name may each be missing
pub data TypedWords (events : Bool) (kept : List Token) : ℕ → ℕ → List ℕ → Type 0 where
  typed_words : {p r s q indexed location name : ℕ}
      → Stands kept p PrimitiveType
      → Perhaps kept (IsIndexed events) 0 (suc p) r indexed
      → Perhaps kept (λ t. Location t.kind) 0 r s location
      → Perhaps kept (IsName s) NONE s q name
      → TypedWords events kept p q (name_form ∷ p ∷ name ∷ indexed ∷ location ∷ p ∷ q ∷ [])

-- Takes or Returns with `(` Num `)`, and its number; or nothing is taken, and 0
pub data CountAt (kept : List Token) (kind : ℕ) : ℕ → ℕ → ℕ → Type 0 where
  no_count : {p : ℕ} → CountAt kept kind p p 0
  count : {p : ℕ}
      → Stands kept p kind
      → Stands kept (suc p) OpenParen
      → Stands kept (suc (suc p)) Num
      → Stands kept (suc (suc (suc p))) CloseParen
      → CountAt kept kind p (suc (suc (suc (suc p)))) (token_at kept (suc (suc p))).extra

-- a sign that is taken or not
pub data SignAt (kept : List Token) (kind : ℕ) : ℕ → ℕ → Type 0 where
  no_sign : {p : ℕ} → SignAt kept kind p p
  sign : {p : ℕ} → Stands kept p kind → SignAt kept kind p (suc p)

-- a constant's value, a literal or the free storage pointer
pub data ValueAt (kept : List Token) (p : ℕ) : ℕ → Type 0 where
  literal_value : Stands kept p Literal → ValueAt kept p 1
  pointer_value : Stands kept p FreeStoragePointer → ValueAt kept p 2

-- the kinds with a body, and their number in a record
pub data MacroAt (kind : ℕ) : ℕ → Type 0 where
  macro_at : kind ≡ Macro → MacroAt kind macro_definition
  fn_at : kind ≡ Fn → MacroAt kind fn_definition
  test_at : kind ≡ Test → MacroAt kind test_definition

-- the entries of a table as statements of this type, behind a argument records: `i n p q`, and the bytes of their texts, which are a code table's digits
pub data EntryTable (kept : List Token) (statements : List ℕ) (type a : ℕ) : ℕ → ℕ → ℕ → ℕ → ℕ → Type 0 where
  no_entries : {i p : ℕ} → EntryTable kept statements type a i 0 p p 0
  entry : {i n p q digits : ℕ}
      → Stands kept p Ident
      → record_of statement_width statements i ≡ type ∷ p ∷ suc p ∷ suc i ∷ 0 ∷ a ∷ 0 ∷ p ∷ []
      → EntryTable kept statements type a (suc i) n (suc p) q digits
      → EntryTable kept statements type a i (suc n) p q (length (token_at kept p).text + digits)

-- the three kinds of tables: the number in a record, the type of an entry, and the size of n entries with so many bytes of text
pub data TableAt (kind n digits : ℕ) : ℕ → ℕ → ℕ → Type 0 where
  jump_table_at : kind ≡ JumpTable → TableAt kind n digits jump_table_definition label_call_type (32 * n)
  packed_table_at : kind ≡ JumpTablePacked → TableAt kind n digits packed_table_definition label_call_type (2 * n)
  code_table_at : kind ≡ CodeTable → TableAt kind n digits code_table_definition code_type (digits / 2)

-- #define, a token of this kind, a name
pub record Head (kept : List Token) (p kind : ℕ) : Type 0 where
  pub defines : Stands kept p Define
  pub keyword : Stands kept (suc p) kind
  pub named : Stands kept (suc (suc p)) Ident

-- the words of a definition record that its kind decides: kind, name place, arguments, outputs, A, B
pub record Words : Type 0 where
  pub kind : ℕ
  pub name : ℕ
  pub inputs : ℕ
  pub outputs : ℕ
  pub A : ℕ
  pub B : ℕ

-- of a definition whose name stands at place p + 2
abbrev pub words : ℕ → ℕ → ℕ → ℕ → ℕ → ℕ → Words
words p kind inputs outputs A B = record { kind = kind; name = suc (suc p); inputs = inputs; outputs = outputs; A = A; B = B }

-- a definition: `i n a m p q`, and its words
pub data DefinitionAt (kept : List Token) (statements arguments : List ℕ) (i : ℕ) : ℕ → ℕ → ℕ → ℕ → ℕ → Words → Type 0 where
  import_at : {a p : ℕ}
      → Stands kept p Include
      → Stands kept (suc p) Str
      → DefinitionAt kept statements arguments i 0 a 0 p (suc (suc p)) (record { kind = import_definition; name = suc p; inputs = 0; outputs = 0; A = 0; B = 0 })
  function_at : {a m k p q e type : ℕ}
      → Head kept p Function
      → ParenTable (TypedWords false kept) kept arguments a m (suc (suc (suc p))) q
      → FunctionType (token_at kept q).kind type
      → Stands kept (suc q) Returns
      → ParenTable (TypedWords false kept) kept arguments (a + m) k (suc (suc q)) e
      → DefinitionAt kept statements arguments i 0 a (m + k) p e (words p function_definition m k type 0)
  event_at : {a m p q : ℕ}
      → Head kept p Event
      → ParenTable (TypedWords true kept) kept arguments a m (suc (suc (suc p))) q
      → DefinitionAt kept statements arguments i 0 a m p q (words p event_definition m 0 0 0)
  constant_defined_at : {a p value : ℕ}
      → Head kept p Constant
      → Stands kept (suc (suc (suc p))) Assign
      → ValueAt kept (suc (suc (suc (suc p)))) value
      → DefinitionAt kept statements arguments i 0 a 0 p (suc (suc (suc (suc (suc p))))) (words p constant_definition 0 0 value (suc (suc (suc (suc p)))))
  error_at : {a m p q : ℕ}
      → Head kept p Error
      → ParenTable (TypedWords false kept) kept arguments a m (suc (suc (suc p))) q
      → DefinitionAt kept statements arguments i 0 a m p q (words p error_definition m 0 0 0)
  macro_defined_at : {n a m h p q r s e kind number takes returns : ℕ}
      → Head kept p kind
      → MacroAt kind number
      → ParenTable (NameWords kept) kept arguments a m (suc (suc (suc p))) q
      → Stands kept q Assign
      → CountAt kept Takes (suc q) r takes
      → CountAt kept Returns r s returns
      → BodyTable kept statements arguments i n (a + m) h s e
      → DefinitionAt kept statements arguments i n a (m + h) p e (words p number m 0 takes returns)
  table_defined_at : {n a p q r s e kind number type size digits : ℕ}
      → Head kept p kind
      → TableAt kind n digits number type size
      → SignAt kept OpenParen (suc (suc (suc p))) q
      → SignAt kept CloseParen q r
      → SignAt kept Assign r s
      → Stands kept s OpenBrace
      → EntryTable kept statements type a i n (suc s) e digits
      → Stands kept e CloseBrace
      → DefinitionAt kept statements arguments i n a 0 p (suc e) (words p number 0 0 size 0)

-- kind, name place, first, end, first argument, arguments, first output, outputs, first statement, statements, A, B; where the token at p starts in the text, and
-- where the one before q ends
abbrev pub definition_words : Positions → ℕ → ℕ → ℕ → ℕ → ℕ → Words → List ℕ
definition_words pos i n a p q w =
    w.kind ∷ w.name ∷ p ∷ q ∷ a ∷ w.inputs ∷ (a + w.inputs) ∷ w.outputs ∷ i ∷ n ∷ w.A ∷ w.B ∷ pos.start p ∷ pos.end (q - 1) ∷ []

-- definitions one behind the other: k definition records from number d on, then `i n a m p q`
pub data FileTable (kept : List Token) (pos : Positions) (definitions statements arguments : List ℕ) : ℕ → ℕ → ℕ → ℕ → ℕ → ℕ → ℕ → ℕ → Type 0 where
  no_definitions : {d i a p : ℕ} → FileTable kept pos definitions statements arguments d 0 i 0 a 0 p p
  defined : {d k i n l a m h p e q : ℕ} (w : Words)
      → DefinitionAt kept statements arguments i n a m p e w
      → record_of definition_width definitions d ≡ definition_words pos i n a p e w
      → FileTable kept pos definitions statements arguments (suc d) k (i + n) l (a + m) h e q
      → FileTable kept pos definitions statements arguments d (suc k) i (n + l) a (m + h) p q

-- ---- the ranges by the words alone, but for a body's braces

-- word j of definition record d
abbrev pub definition_word : ℕ → List ℕ → ℕ → ℕ
definition_word j definitions d = get_or (record_of definition_width definitions d) j 0

-- an opening brace at some b behind p, a closing one at e - 1, and what is said of the places from behind the one to the other
pub record Braced (kept : List Token) (p e : ℕ) (Between : ℕ → ℕ → Type 0) : Type 0 where
  pub b : ℕ
  pub behind : p < b
  pub opens : Stands kept b OpenBrace
  pub closes : Stands kept (e - 1) CloseBrace
  pub between : Between (suc b) (e - 1)

-- the statements of definition record d, from its first one on: of kind 6 to 8 they are walked, of kind 9 to 11 they lie flat, of 1 to 5 there are none; and there
-- are no other kinds
pub record StatementsOf (kept : List Token) (definitions statements : List ℕ) (d : ℕ) : Type 0 where
  pub least : import_definition ≤ definition_word 0 definitions d
  pub most : definition_word 0 definitions d ≤ code_table_definition
  pub of_macro : macro_definition ≤ definition_word 0 definitions d
      → definition_word 0 definitions d ≤ test_definition
      → Braced kept (definition_word 2 definitions d) (definition_word 3 definitions d)
      (λ p q. Walk statements (definition_word 8 definitions d) p (definition_word 8 definitions d + definition_word 9 definitions d) q)
  pub of_table : jump_table_definition ≤ definition_word 0 definitions d
      → Braced kept (definition_word 2 definitions d) (definition_word 3 definitions d)
      (λ p q. Flat statements (definition_word 8 definitions d) (definition_word 9 definitions d) p q)
  pub of_other : definition_word 0 definitions d ≤ error_definition → definition_word 9 definitions d ≡ 0
