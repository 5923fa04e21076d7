-- Inner: what reading behind the door promises.
use Rattle.std.specs.Prelude.{◌≡◌, List, ℕ, length, Result}
use Rattle.tokens.specs.Token.{Token, Positions}
use Rattle.grammar.specs.Result.{Answer}
use Rattle.grammar.specs.FileReading.{Definition}
use Rattle.grammar.specs.FileRecords.{definition_records, file_statements, file_argument_records}
use Rattle.grammar.specs.Call.{records_of, held_after}
use Rattle.files.specs.declared.file.FileRead.{FileRead}
use Rattle.files.specs.declared.entry.FileError.{FileError}
use Rattle.files.specs.Call.{values, number_of, Own, after_reading}

-- the answer for what was read of these kept tokens, which stand so in the text, and the three tables afterwards
pub record FileTaken (kept : List Token) (pos : Positions) (read : Answer (List Definition)) (definitions statements arguments : List ℕ) (r : Result FileRead FileError) (definitions' statements' arguments' : List ℕ) : Type 0 where
  pub answer : values r ≡ after_reading kept read (length definitions) (length statements) (length arguments)
  pub own : Own r
  pub definitions_hold : definitions' ≡ held_after (number_of r) (records_of (definition_records pos 0 0) read) definitions
  pub statements_hold : statements' ≡ held_after (number_of r) (records_of (file_statements 0 0) read) statements
  pub arguments_hold : arguments' ≡ held_after (number_of r) (records_of file_argument_records read) arguments
