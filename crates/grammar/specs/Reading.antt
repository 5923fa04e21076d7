-- The reading of a body: its statements and arguments with their places. Places count kept tokens from 0, ends are exclusive.
use Rattle.std.specs.Prelude.{ℕ, suc, Bool, List, [], map}
use Rattle.tokens.specs.Number.{name_form, call_angled_form}
use Rattle.tokens.specs.Token.{Token}

-- what stands where a place is absent
abbrev pub NONE : ℕ
NONE = 4294967295

-- an argument: form, type place, name place, indexed, location, and its range
pub record Argument : Type 0 where
  pub form : ℕ
  pub type : ℕ
  pub name : ℕ
  pub indexed : ℕ
  pub location : ℕ
  pub first : ℕ
  pub end : ℕ

-- the seven sorts of a statement that is no label
pub data Sort : Type 0 where
  a_literal an_opcode a_label_call an_invocation a_constant an_argument_call a_builtin : Sort

-- a statement that is no label: its range, the place of its name or value and the token there, its arguments
pub record Simple : Type 0 where
  pub sort : Sort
  pub first : ℕ
  pub end : ℕ
  pub place : ℕ
  pub token : Token
  pub args : List Argument

-- a label: its range, its Label token, and inner statements that are no labels by their type
pub record Group : Type 0 where
  pub first : ℕ
  pub end : ℕ
  pub token : Token
  pub inner : List Simple

-- a body: the statements before its first label, the macro part, and its labels
pub record Reading : Type 0 where
  pub main : List Simple
  pub groups : List Group

-- a statement of one token
abbrev pub single : Sort → ℕ → Token → Simple
single sort p t = record { sort = sort; first = p; end = suc p; place = p; token = t; args = [] }

-- a name between brackets or angles, the opening one at p: a range of 3, the place that of the name
abbrev pub enclosed : Sort → ℕ → Token → Simple
enclosed sort p t = record { sort = sort; first = p; end = suc (suc (suc p)); place = suc p; token = t; args = [] }

-- a name at p with a list of arguments behind it: the range up to the end of the list, parentheses and commas too
abbrev pub called : Sort → ℕ → Token → ℕ → List Argument → Simple
called sort p t end args = record { sort = sort; first = p; end = end; place = p; token = t; args = args }

-- an argument of one token, of a given form: its token in the name place
abbrev pub one_token : ℕ → ℕ → Argument
one_token form p = record { form = form; type = NONE; name = p; indexed = 0; location = 0; first = p; end = suc p }

-- a call's `<name>`, form 6: the name place inside the angles, a range of 3
abbrev pub angled : ℕ → Argument
angled p = record { form = call_angled_form; type = NONE; name = suc p; indexed = 0; location = 0; first = p; end = suc (suc (suc p)) }

-- an untyped name with a location before it, form 1: the range from location to name
abbrev pub located : ℕ → ℕ → Argument
located l p = record { form = name_form; type = NONE; name = suc p; indexed = 0; location = l; first = p; end = suc (suc p) }

-- an argument as a list has it: itself, and whether a Comma stands after it
pub record Entry : Type 0 where
  pub argument : Argument
  pub comma : Bool

-- the arguments of a list
abbrev pub arguments : List Entry → List Argument
arguments entries = map (λ e. e.argument) entries
