-- Inner: what the parts of a definition's reader promise: its head, its signature, its record.
use Rattle.std.specs.Prelude.{ℕ, suc, ◌+◌, ◌≤◌, ◌<◌, ◌≡◌, false, List, [], ◌∷◌, map, length, drop, Option, Some, None, Result, Ok, Err}
use Rattle.tokens.specs.Number.{UnexpectedType, argument_width}
use Rattle.tokens.specs.Token.{Token, token_at}
use Rattle.tokens.specs.Lent.{put_all}
use Rattle.tokens.specs.Kind as kinds
use Rattle.tokens.specs.Kind.{Ident, Returns}
use Rattle.grammar.specs.Reading.{Argument}
use Rattle.grammar.specs.Result.{plain, Res, got, bad, expect, seq}
use Rattle.grammar.specs.Written.{RefusedRead}
use Rattle.grammar.specs.Typed.{typed_argument}
use Rattle.grammar.specs.Records.{argument_record}
use Rattle.grammar.specs.FileReading.{Form, a_function, an_event, an_error, is_macro}
use Rattle.grammar.specs.FileReader.{parse_args, named, function_type}
use Rattle.grammar.specs.FileRecords.{inputs_of, outputs_of, inner_arguments, form_arguments, form_count, form_statements, form_words}
use Rattle.lists.specs.Answers.{one}
use Rattle.lists.specs.declared.argument.Sort.{Sort}
use Rattle.lists.specs.declared.argument.Sort.TheVariants as sorts
use Rattle.lists.specs.declared.before.Before.{Before}
use Rattle.definitions.specs.Answers.{form_kind}
use Rattle.definitions.specs.declared.record.DefinitionKind.{DefinitionKind}
use Rattle.definitions.specs.declared.record.DefinitionKind.TheVariants as definitions
use Rattle.definitions.specs.declared.record.DefRead.{DefRead}
use Rattle.definitions.specs.declared.record.Found.{Found}
use Rattle.definitions.specs.Found.{definition_of}
use Rattle.definitions.specs.declared.signature.Listed.{Listed}
use Rattle.definitions.specs.declared.signature.Listed.TheVariants.{Event, Error}
use Rattle.definitions.specs.declared.signature.FunctionType.{FunctionType}
use Rattle.definitions.specs.declared.signature.FunctionType.TheVariants.{View, Pure, Payable, NonPayable}
use Rattle.definitions.specs.declared.signature.Signature.{Signature}

-- ---- the head

-- a token of kind k at p and a name behind it
pub record Keyed (all : List Token) (k p size : ℕ) : Type 0 where
  pub keyword : (token_at all p).kind ≡ k
  pub name : (token_at all (suc p)).kind ≡ Ident
  pub inside : p + 2 ≤ size

-- the same; or the number and place with which every such definition is refused
abbrev pub Headed : List Token → ℕ → ℕ → ℕ → Result (Unit {0}) (ℕ × ℕ) → Type 0
Headed all k p size (Ok u) = Keyed all k p size
Headed all k p size (Err f) =
    (first : ℕ) (rest : ℕ → List Token → Res Form) → expect k (plain UnexpectedType) (λ t. named first rest) p (drop p all) ≡ bad (plain f.0) f.1

-- ---- the signature

-- a function's type by its number, and A of a signature: 0 where it has none
abbrev pub type_number : FunctionType → ℕ
type_number View = 1
type_number Pure = 2
type_number Payable = 3
type_number NonPayable = 4

abbrev pub type_word : Option FunctionType → ℕ
type_word (Some t) = type_number t
type_word None = 0

-- a definition without statements: its inputs, its outputs, A and B
pub record Bodiless (f : Form) (ins outs a b : ℕ) : Type 0 where
  pub none : form_count f ≡ 0
  pub statements : (i n : ℕ) → form_statements i n f ≡ []
  pub no_macro : is_macro f ≡ false
  pub inputs : length (inputs_of f) ≡ ins
  pub outputs : length (outputs_of f) ≡ outs
  pub inner : inner_arguments f ≡ []
  pub words : form_words f ≡ a ∷ b ∷ []

-- s was read from p on, and its arguments' records were written from number 0 on
pub record Signed (kind : DefinitionKind) (p size : ℕ) (read : Res Form) (table : List ℕ) (s : Signature) (table' : List ℕ) : Type 0 where
  pub form : Form
  pub tokens : ℕ
  pub is : read ≡ got form tokens
  pub ends : s.end ≡ p + tokens
  pub kinded : form_kind form ≡ kind
  pub says : Bodiless form s.inputs s.outputs (type_word s.ty) 0
  pub records : table' ≡ put_all argument_width table 0 (map argument_record (form_arguments form))
  pub further : p < s.end
  pub inside : s.end ≤ size
  pub few : s.inputs + s.outputs + p ≤ s.end

abbrev pub SignatureRead : DefinitionKind → ℕ → ℕ → Res Form → List ℕ → Result Signature (ℕ × ℕ) → List ℕ → Type 0
SignatureRead kind p size read table (Ok s) table' = Signed kind p size read table s table'
SignatureRead kind p size read table (Err f) table' = RefusedRead read f.0 f.1

-- an event's list, or an error's: the sort of its list, the kind of its token and of its definition, its form, its reader
abbrev pub list_sort : Listed → Sort
list_sort Event = sorts.Event
list_sort Error = sorts.Typed

abbrev pub list_kind : Listed → ℕ
list_kind Event = kinds.Event
list_kind Error = kinds.Error

abbrev pub list_definition : Listed → DefinitionKind
list_definition Event = definitions.Event
list_definition Error = definitions.Error

abbrev pub list_form : Listed → List Argument → Form
list_form Event = an_event
list_form Error = an_error

abbrev pub list_rest : Listed → ℕ → List Token → Res Form
list_rest listed = seq (parse_args (one (list_sort listed))) (λ args q ts. got (list_form listed args) 0)

-- the type t was read at p
pub record Typed (p size : ℕ) (read : Res ℕ) (t : FunctionType) : Type 0 where
  pub is : read ≡ got (type_number t) 1
  pub inside : p < size

abbrev pub TypeRead : ℕ → ℕ → Res ℕ → Result FunctionType (ℕ × ℕ) → Type 0
TypeRead p size read (Ok t) = Typed p size read t
TypeRead p size read (Err f) = read ≡ bad (plain f.0) f.1

-- a function behind its inputs
abbrev pub outputs_rest : List Argument → ℕ → List Token → Res Form
outputs_rest inputs =
    seq function_type (λ type.
    expect Returns (plain UnexpectedType) (λ r.
    seq (parse_args (typed_argument false)) (λ outputs q ts. got (a_function inputs type outputs) 0)))

-- the outputs of s were read from p on, and their records were written from number n on
pub record Outputs (inputs : List Argument) (n p size : ℕ) (read : Res Form) (table : List ℕ) (s : Signature) (table' : List ℕ) : Type 0 where
  pub outputs : List Argument
  pub tokens : ℕ
  pub is : read ≡ got (a_function inputs (type_word s.ty) outputs) tokens
  pub ends : s.end ≡ p + tokens
  pub before : s.inputs ≡ n
  pub count : s.outputs ≡ length outputs
  pub records : table' ≡ put_all argument_width table n (map argument_record outputs)
  pub further : p < s.end
  pub inside : s.end ≤ size
  pub few : s.outputs + p ≤ s.end

abbrev pub OutputsRead : List Argument → ℕ → ℕ → ℕ → Res Form → List ℕ → Result Signature (ℕ × ℕ) → List ℕ → Type 0
OutputsRead inputs n p size read table (Ok s) table' = Outputs inputs n p size read table s table'
OutputsRead inputs n p size read table (Err f) table' = RefusedRead read f.0 f.1

-- ---- the definition that a signature says

abbrev pub signed_found : DefinitionKind → ℕ → ℕ → Signature → Found
signed_found kind first name s =
    record { kind = kind; first = first; name = name; end = s.end; inputs = s.inputs; outputs = s.outputs; statements = 0; a = type_word s.ty; b = 0 }

-- with its argument records, behind these records
abbrev pub signed_read : DefinitionKind → ℕ → ℕ → Before → Signature → DefRead
signed_read kind first name before s =
    record { definition = definition_of before (signed_found kind first name s); arguments = s.inputs + s.outputs }
