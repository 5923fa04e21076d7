-- Inner: what the parts of a constant's reader promise.
use Rattle.std.specs.Prelude.{ℕ, ◌+◌, ◌≤◌, ◌≡◌, get_or, Result, Ok, Err}
use Rattle.grammar.specs.Result.{plain, Res, got, bad}
use Rattle.grammar.specs.FileReading.{Value, literal_at, pointer_at, Form, a_defined_constant}
use Rattle.grammar.specs.FileRecords.{value_words}
use Rattle.definitions.specs.declared.constant.ConstVal.{ConstVal}
use Rattle.definitions.specs.declared.constant.ConstVal.TheVariants.{Literal, FreeStoragePointer}
use Rattle.definitions.specs.declared.constant.ConstantDefinition.{ConstantDefinition}
use Rattle.definitions.specs.declared.record.DefinitionKind.TheVariants.{Constant}
use Rattle.definitions.specs.declared.record.Found.{Found}

-- the grammar's value for the code's, and its place
abbrev pub value_of : ConstVal → Value
value_of (Literal p) = literal_at p
value_of (FreeStoragePointer p) = pointer_at p

abbrev pub place_of : ConstVal → ℕ
place_of (Literal p) = p
place_of (FreeStoragePointer p) = p

-- A and B: 1 and a literal's place, or 2 and the pointer's
abbrev pub value_type : ConstVal → ℕ
value_type v = get_or (value_words (value_of v)) 0 0

-- `=` and the value v were read from p on
pub record Valued (p size : ℕ) (read : Res Form) (v : ConstVal) : Type 0 where
  pub is : read ≡ got (a_defined_constant (value_of v)) 2
  pub inside : p + 2 ≤ size
  pub place : place_of v ≤ size

abbrev pub ValueRead : ℕ → ℕ → Res Form → Result ConstVal (ℕ × ℕ) → Type 0
ValueRead p size read (Ok v) = Valued p size read v
ValueRead p size read (Err f) = read ≡ bad (plain f.0) f.1

-- what is found of a constant: no arguments, no outputs, no statements
abbrev pub constant_found : ConstantDefinition → Found
constant_found d =
    record { kind = Constant; first = d.first; name = d.name; end = d.end; inputs = 0; outputs = 0; statements = 0; a = value_type d.value; b = place_of d.value }

-- the constant whose token Constant stands at p
abbrev pub constant_at : ℕ → ℕ → ConstVal → ConstantDefinition
constant_at first p v = record { first = first; name = p + 1; end = p + 4; value = v }
