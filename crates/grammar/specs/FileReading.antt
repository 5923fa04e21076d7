-- The reading of a file: its definitions with their places. Places count kept tokens from 0, ends are exclusive.
use Rattle.std.specs.Prelude.{ℕ, ◌+◌, ◌*◌, ◌/◌, Bool, true, false, List, [], ◌∷◌, length}
use Rattle.tokens.specs.Number.{name_form}
use Rattle.tokens.specs.Token.{Token}
use Rattle.grammar.specs.Reading.{Argument, Reading}

-- "a constant's value is a literal's place or the free storage pointer", the pointer with its place too
pub data Value : Type 0 where
  literal_at : ℕ → Value
  pointer_at : ℕ → Value

-- the three kinds of a definition with a body
pub data MacroSort : Type 0 where
  the_macro the_fn the_test : MacroSort

-- the three kinds of a table
pub data TableSort : Type 0 where
  jump_table packed_table code_table : TableSort

-- an entry of a table: its place and the token there
pub record TableEntry : Type 0 where
  pub place : ℕ
  pub token : Token

-- what a definition says besides its name
pub data Form : Type 0 where
  an_import : Form
  -- inputs, type (1 to 4 in the order View, Pure, Payable, NonPayable), outputs
  a_function : List Argument → ℕ → List Argument → Form
  an_event : List Argument → Form
  a_defined_constant : Value → Form
  an_error : List Argument → Form
  -- declared arguments, takes, returns, body
  a_macro : MacroSort → List Argument → ℕ → ℕ → Reading → Form
  a_table : TableSort → List TableEntry → Form

-- a definition: its range, the place of its name and the token there ("an import's name is its Str"), and its form. First is Define or Include
pub record Definition : Type 0 where
  pub first : ℕ
  pub end : ℕ
  pub name : ℕ
  pub token : Token
  pub form : Form

-- a declared argument with a type, which stands at its first place
abbrev pub declared : ℕ → ℕ → ℕ → ℕ → ℕ → Argument
declared first name indexed location end =
    record { form = name_form; type = first; name = name; indexed = indexed; location = location; first = first; end = end }

-- the digits of a code table's entries
unfoldable pub digit_total : List TableEntry → ℕ
digit_total [] = 0
digit_total (e ∷ es) = length e.token.text + digit_total es

-- "Sizes: packed 2 per entry, jump 32, code the digit total halved, rounded down"
unfoldable pub size_of : TableSort → List TableEntry → ℕ
size_of jump_table es = 32 * length es
size_of packed_table es = 2 * length es
size_of code_table es = digit_total es / 2

-- a macro, fn or test
abbrev pub is_macro : Form → Bool
is_macro an_import = false
is_macro (a_function inputs type outputs) = false
is_macro (an_event args) = false
is_macro (a_defined_constant v) = false
is_macro (an_error args) = false
is_macro (a_macro sort args takes returns r) = true
is_macro (a_table sort es) = false
