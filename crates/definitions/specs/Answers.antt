-- Inner: how the code's answers and tables hold what the reader of a definition reads.
use Rattle.std.specs.Prelude.{ℕ, ◌+◌, ◌≤◌, ◌<◌, ◌≡◌, Bool, true, false, ◌&&◌, List, [], ◌∷◌, map, length, get_or, leb, Result, Ok, Err}
use Rattle.tokens.specs.Number as numbers
use Rattle.tokens.specs.Number.{definition_width, statement_width, argument_width, most_tokens}
use Rattle.tokens.specs.Token.{Token, token_at, Positions}
use Rattle.tokens.specs.Place.{FromDoor}
use Rattle.grammar.specs.Result.{number, beyond, Res, got, bad}
use Rattle.grammar.specs.Written.{Written}
use Rattle.grammar.specs.Records.{argument_record}
use Rattle.grammar.specs.FileReading.{MacroSort, the_macro, the_fn, the_test, TableSort, jump_table, packed_table, code_table, Form, an_import, a_function, an_event, a_defined_constant, an_error, a_macro, a_table, Definition}
use Rattle.grammar.specs.FileRecords.{macro_number, inputs_of, outputs_of, form_words, definition_record, form_statements, form_arguments, form_count, behind_declared}
use Rattle.lists.specs.declared.before.Before.{Before}
use Rattle.definitions.specs.declared.record.Definition as code
use Rattle.definitions.specs.declared.record.DefRead.{DefRead}
use Rattle.definitions.specs.declared.record.DefinitionKind.{DefinitionKind}
use Rattle.definitions.specs.declared.record.DefinitionKind.TheVariants.{Import, Function, Event, Constant, Error, Macro, Fn, Test, JumpTable, PackedTable, CodeTable}

-- what the calls need: the kept list as the door promises it, a place in it, a definition's first place before that, and the numbers of records before the
-- lent tables
pub record Reading (words kept : List ℕ) (first p : ℕ) (before : Before) : Type 0 where
  pub list : FromDoor words kept
  pub inside : p ≤ length kept
  pub begun : first ≤ p
  pub statements_before : before.statements ≤ most_tokens
  pub arguments_before : before.arguments ≤ most_tokens

-- ---- a definition

-- the number of its kind
abbrev pub definition_number : DefinitionKind → ℕ
definition_number Import = numbers.import_definition
definition_number Function = numbers.function_definition
definition_number Event = numbers.event_definition
definition_number Constant = numbers.constant_definition
definition_number Error = numbers.error_definition
definition_number Macro = numbers.macro_definition
definition_number Fn = numbers.fn_definition
definition_number Test = numbers.test_definition
definition_number JumpTable = numbers.jump_table_definition
definition_number PackedTable = numbers.packed_table_definition
definition_number CodeTable = numbers.code_table_definition

-- the words of its record, where its tokens take these bytes of the text
abbrev pub definition_words : code.Definition → ℕ → ℕ → List ℕ
definition_words d start end =
    definition_number d.kind ∷ d.name ∷ d.first ∷ d.end ∷ d.argument ∷ d.arguments ∷ d.output ∷ d.outputs ∷ d.statement ∷ d.statements ∷ d.a ∷ d.b ∷ start ∷ end ∷ []

-- the code's kind for the grammar's form
abbrev pub macro_kind : MacroSort → DefinitionKind
macro_kind the_macro = Macro
macro_kind the_fn = Fn
macro_kind the_test = Test

abbrev pub table_kind : TableSort → DefinitionKind
table_kind jump_table = JumpTable
table_kind packed_table = PackedTable
table_kind code_table = CodeTable

abbrev pub form_kind : Form → DefinitionKind
form_kind an_import = Import
form_kind (a_function inputs type outputs) = Function
form_kind (an_event args) = Event
form_kind (a_defined_constant v) = Constant
form_kind (an_error args) = Error
form_kind (a_macro sort args takes returns r) = macro_kind sort
form_kind (a_table sort es) = table_kind sort

-- the code's definition for the grammar's, behind these records
abbrev pub code_definition : Before → Definition → code.Definition
code_definition before d =
    record {
      kind = form_kind d.form;
      name = d.name;
      first = d.first;
      end = d.end;
      argument = before.arguments;
      arguments = length (inputs_of d.form);
      output = before.arguments + length (inputs_of d.form);
      outputs = length (outputs_of d.form);
      statement = before.statements;
      statements = form_count d.form;
      a = get_or (form_words d.form) 0 0;
      b = get_or (form_words d.form) 1 0;
    }

-- a macro, fn or test, by the number of its kind
unfoldable pub is_named : ℕ → Bool
is_named kind = leb (macro_number the_macro) kind && leb kind (macro_number the_test)

-- ---- what a reader answers

-- a definition and its argument records, or the refusal's number and cursor
abbrev pub def_answer : Before → Res Definition → Result DefRead (ℕ × ℕ)
def_answer before (got d k) = Ok (record { definition = code_definition before d; arguments = length (form_arguments d.form) })
def_answer before (bad y w) = Err (number y, w + beyond y)

-- the token of its name stands at its place, and its end is the place behind its tokens
abbrev pub Stands : List Token → ℕ → Res Definition → Type 0
Stands all p (got d k) = (d.token ≡ token_at all d.name) × (d.end ≡ p + k)
Stands all p (bad y w) = Unit {0}

-- a macro, fn or test takes at least so many tokens from p on, and its name stands before its end
abbrev pub Long : ℕ → Bool → ℕ → ℕ → ℕ → Type 0
Long least true name p e = (p + least ≤ e) × (name < e)
Long least false name p e = Unit {0}

-- the record holds; a refusal promises nothing more
abbrev pub DefWithin : ℕ → ℕ → ℕ → Result DefRead (ℕ × ℕ) → Type 0
DefWithin least p size (Ok x) =
    let d = x.definition in
    (p < d.end)
    × (d.end ≤ size)
    × (d.statements + p ≤ d.end)
    × (x.arguments + p ≤ d.end)
    × Long least (is_named (definition_number d.kind)) d.name p d.end
DefWithin least p size (Err f) = Unit {0}

-- its statements' and arguments' records, behind those before
abbrev pub own_statements : Before → Definition → List (List ℕ)
own_statements before d = form_statements before.statements (behind_declared before.arguments d.form) d.form

abbrev pub own_arguments : Definition → List (List ℕ)
own_arguments d = map argument_record (form_arguments d.form)

-- what a definition's reader promises: its answer, the rests of both tables that it was lent, and bounds. The shortest macro, `#define macro M() = {}`, has 8
-- tokens from Define on, 7 from the token behind it on, and 5 from the place behind its name on
pub record DefParsed (least : ℕ) (all : List Token) (p : ℕ) (before : Before) (size : ℕ) (read : Res Definition) (st ar : List ℕ) (r : Result DefRead (ℕ × ℕ)) (st' ar' : List ℕ) : Type 0 where
  pub is : r ≡ def_answer before read
  pub statements_hold : Written statement_width (own_statements before) read 0 st st'
  pub arguments_hold : Written argument_width own_arguments read 0 ar ar'
  pub stands : Stands all p read
  pub within : DefWithin least p size r

-- the same with its own record, where the kept tokens stand so in the text: written from number d, m and n of the lent tables on
pub record DefAdded (all : List Token) (pos : Positions) (p : ℕ) (before : Before) (size : ℕ) (read : Res Definition) (d m n : ℕ) (de st ar : List ℕ) (r : Result DefRead (ℕ × ℕ)) (de' st' ar' : List ℕ) : Type 0 where
  pub is : r ≡ def_answer before read
  pub definitions_hold : Written definition_width (λ x. definition_record pos before.statements before.arguments x ∷ []) read d de de'
  pub statements_hold : Written statement_width (own_statements before) read m st st'
  pub arguments_hold : Written argument_width own_arguments read n ar ar'
  pub stands : Stands all p read
  pub within : DefWithin 8 p size r
