-- What a reader of the tables relies on, for bodies: each word of each statement and argument record of an accepted call, said by the kinds of the tokens at its
-- places. No reading and no parser stands here, and which bodies are accepted is not said here (Grammar does). Where a family is over numbers of records, `i n`
-- are n statement records from number i on and `a m` are m argument records from number a on; `p q` is the range of tokens from place p up to q.
use Rattle.std.specs.Prelude.{ℕ, zero, suc, ◌+◌, ◌*◌, ◌<◌, ◌≡◌, ◌≢◌, List, [], ◌∷◌, get_or, take, drop}
use Rattle.tokens.specs.Number.{statement_width, argument_width, name_form, string_form, literal_form, call_literal_form, call_name_form, call_angled_form, literal_type, opcode_type, label_call_type, invocation_type, label_type, constant_type, argument_call_type, builtin_type}
use Rattle.tokens.specs.Token.{Token, token_at}
use Rattle.tokens.specs.Kind.{Calldata, OpenParen, CloseParen, OpenBrace, CloseBrace, OpenBracket, CloseBracket, LeftAngle, RightAngle, Comma, Colon, Ident, Label, Literal, Opcode, Str, BuiltinFunction}
use Rattle.grammar.specs.Reading.{NONE}
use Rattle.grammar.specs.Grammar.{Location}

-- record number n of a table, w words a record
abbrev pub record_of : ℕ → List ℕ → ℕ → List ℕ
record_of w table n = take w (drop (n * w) table)

-- a token of this kind stands at place p
abbrev pub Stands : List Token → ℕ → ℕ → Type 0
Stands kept p kind = (token_at kept p).kind ≡ kind

-- ---- arguments: form, type place, name place, indexed, location, first, end

-- the words of an argument of one token
abbrev pub one_token_words : ℕ → ℕ → List ℕ
one_token_words form p = form ∷ NONE ∷ p ∷ 0 ∷ 0 ∷ p ∷ suc p ∷ []

-- an argument of a call
pub data CallWords (kept : List Token) : ℕ → ℕ → List ℕ → Type 0 where
  call_literal_words : {p : ℕ} → Stands kept p Literal → CallWords kept p (suc p) (one_token_words call_literal_form p)
  call_name_words : {p : ℕ} → Stands kept p Ident → CallWords kept p (suc p) (one_token_words call_name_form p)
  call_calldata_words : {p : ℕ} → Stands kept p Calldata → CallWords kept p (suc p) (one_token_words call_name_form p)
  call_angled_words : {p : ℕ}
      → Stands kept p LeftAngle
      → Stands kept (suc p) Ident
      → Stands kept (suc (suc p)) RightAngle
      → CallWords kept p (suc (suc (suc p))) (call_angled_form ∷ NONE ∷ suc p ∷ 0 ∷ 0 ∷ p ∷ suc (suc (suc p)) ∷ [])

-- a name without a type, behind a location or not
pub data NameWords (kept : List Token) : ℕ → ℕ → List ℕ → Type 0 where
  bare_words : {p : ℕ} → Stands kept p Ident → NameWords kept p (suc p) (one_token_words name_form p)
  placed_words : {p l : ℕ}
      → Location (token_at kept p).kind l
      → Stands kept (suc p) Ident
      → NameWords kept p (suc (suc p)) (name_form ∷ NONE ∷ suc p ∷ 0 ∷ l ∷ p ∷ suc (suc p) ∷ [])

-- an argument of a builtin
pub data BuiltinWords (kept : List Token) : ℕ → ℕ → List ℕ → Type 0 where
  builtin_string_words : {p : ℕ} → Stands kept p Str → BuiltinWords kept p (suc p) (one_token_words string_form p)
  builtin_literal_words : {p : ℕ} → Stands kept p Literal → BuiltinWords kept p (suc p) (one_token_words literal_form p)
  builtin_name_words : {p q : ℕ} {w : List ℕ} → NameWords kept p q w → BuiltinWords kept p q w

-- a list of arguments, each as One says, with at most one Comma after it: `a m p q`
pub data ListTable (One : ℕ → ℕ → List ℕ → Type 0) (kept : List Token) (arguments : List ℕ) : ℕ → ℕ → ℕ → ℕ → Type 0 where
  no_arguments : {a p : ℕ} → ListTable One kept arguments a 0 p p
  argument : {a m p e q : ℕ}
      → One p e (record_of argument_width arguments a)
      → ListTable One kept arguments (suc a) m e q
      → ListTable One kept arguments a (suc m) p q
  argument_comma : {a m p e q : ℕ}
      → One p e (record_of argument_width arguments a)
      → Stands kept e Comma
      → ListTable One kept arguments (suc a) m (suc e) q
      → ListTable One kept arguments a (suc m) p q

-- a list of arguments in parentheses: `a m p q`
pub data ParenTable (One : ℕ → ℕ → List ℕ → Type 0) (kept : List Token) (arguments : List ℕ) : ℕ → ℕ → ℕ → ℕ → Type 0 where
  paren_table : {a m p q : ℕ}
      → Stands kept p OpenParen
      → ListTable One kept arguments a m (suc p) q
      → Stands kept q CloseParen
      → ParenTable One kept arguments a m p (suc q)

-- ---- statements: type, first, end, first inner, inner count, first argument, arguments, place

-- a statement that is no label, with m argument records from number a on and the range p q; behind these its type and the place of its name or value
pub data StatementAt (kept : List Token) (arguments : List ℕ) (a : ℕ) : ℕ → ℕ → ℕ → ℕ → ℕ → Type 0 where
  literal_at : {p : ℕ} → Stands kept p Literal → StatementAt kept arguments a 0 p (suc p) literal_type p
  opcode_at : {p : ℕ} → Stands kept p Opcode → StatementAt kept arguments a 0 p (suc p) opcode_type p
  label_call_at : {p : ℕ}
      → Stands kept p Ident
      → ¬ Stands kept (suc p) OpenParen
      → StatementAt kept arguments a 0 p (suc p) label_call_type p
  invocation_at : {m p q : ℕ}
      → Stands kept p Ident
      → ParenTable (CallWords kept) kept arguments a m (suc p) q
      → StatementAt kept arguments a m p q invocation_type p
  constant_at : {p : ℕ}
      → Stands kept p OpenBracket
      → Stands kept (suc p) Ident
      → Stands kept (suc (suc p)) CloseBracket
      → StatementAt kept arguments a 0 p (suc (suc (suc p))) constant_type (suc p)
  argument_call_at : {p : ℕ}
      → Stands kept p LeftAngle
      → Stands kept (suc p) Ident
      → Stands kept (suc (suc p)) RightAngle
      → StatementAt kept arguments a 0 p (suc (suc (suc p))) argument_call_type (suc p)
  builtin_at : {m p q : ℕ}
      → Stands kept p BuiltinFunction
      → ParenTable (BuiltinWords kept) kept arguments a m (suc p) q
      → StatementAt kept arguments a m p q builtin_type p

-- statements that are no labels, one behind the other: `i n a m p q`
pub data StatementTable (kept : List Token) (statements arguments : List ℕ) : ℕ → ℕ → ℕ → ℕ → ℕ → ℕ → Type 0 where
  no_statements : {i a p : ℕ} → StatementTable kept statements arguments i 0 a 0 p p
  statement : {i n a k m p e q type place : ℕ}
      → StatementAt kept arguments a k p e type place
      → record_of statement_width statements i ≡ type ∷ p ∷ e ∷ suc i ∷ 0 ∷ a ∷ k ∷ place ∷ []
      → StatementTable kept statements arguments (suc i) n (a + k) m e q
      → StatementTable kept statements arguments i (suc n) a (k + m) p q

-- labels, each with its inner records directly behind its own: `i n a m p q`
pub data LabelTable (kept : List Token) (statements arguments : List ℕ) : ℕ → ℕ → ℕ → ℕ → ℕ → ℕ → Type 0 where
  no_labels : {i a p : ℕ} → LabelTable kept statements arguments i 0 a 0 p p
  label : {i k n a h m p e q : ℕ}
      → Stands kept p Label
      → Stands kept (suc p) Colon
      → record_of statement_width statements i ≡ label_type ∷ p ∷ e ∷ suc i ∷ k ∷ a ∷ 0 ∷ p ∷ []
      → StatementTable kept statements arguments (suc i) k a h (suc (suc p)) e
      → LabelTable kept statements arguments (suc i + k) n (a + h) m e q
      → LabelTable kept statements arguments i (suc k + n) a (h + m) p q

-- a body: brace, statements, labels, brace: `i n a m p q`
pub data BodyTable (kept : List Token) (statements arguments : List ℕ) : ℕ → ℕ → ℕ → ℕ → ℕ → ℕ → Type 0 where
  body_table : {i n k a m h p e q : ℕ}
      → Stands kept p OpenBrace
      → StatementTable kept statements arguments i n a m (suc p) e
      → LabelTable kept statements arguments (i + n) k (a + m) h e q
      → Stands kept q CloseBrace
      → BodyTable kept statements arguments i (n + k) a (m + h) p (suc q)

-- ---- the ranges by the words alone, with no token

-- word j of statement record i
abbrev pub statement_word : ℕ → List ℕ → ℕ → ℕ
statement_word j statements i = get_or (record_of statement_width statements i) j 0

abbrev pub type_word : List ℕ → ℕ → ℕ
type_word = statement_word 0

abbrev pub first_word : List ℕ → ℕ → ℕ
first_word = statement_word 1

abbrev pub end_word : List ℕ → ℕ → ℕ
end_word = statement_word 2

abbrev pub inner_word : List ℕ → ℕ → ℕ
inner_word = statement_word 4

-- n records from number i on, none of them a label or with inner ones: their ranges run from place p to q, each from where the one before it ends, none empty
abbrev pub Flat : List ℕ → ℕ → ℕ → ℕ → ℕ → Type 0
Flat statements i zero p q = p ≡ q
Flat statements i (suc n) p q =
    (type_word statements i ≢ label_type)
    × (inner_word statements i ≡ 0)
    × (first_word statements i ≡ p)
    × (p < end_word statements i)
    × Flat statements (suc i) n (end_word statements i) q

-- what record i holds: a label's inner records lie flat from behind its colon to its end; any other has none
pub record Held (statements : List ℕ) (i : ℕ) : Type 0 where
  pub in_label : type_word statements i ≡ label_type → Flat statements (suc i) (inner_word statements i) (suc (suc (first_word statements i))) (end_word statements i)
  pub elsewhere : type_word statements i ≢ label_type → inner_word statements i ≡ 0

-- a walk from record i at place p to record j at place q, each time past the inner records: each range begins where the one before it ends, and none is empty
pub data Walk (statements : List ℕ) : ℕ → ℕ → ℕ → ℕ → Type 0 where
  arrived : {i p : ℕ} → Walk statements i p i p
  onward : {i p j q : ℕ}
      → first_word statements i ≡ p
      → p < end_word statements i
      → Held statements i
      → Walk statements (suc i + inner_word statements i) (end_word statements i) j q
      → Walk statements i p j q
