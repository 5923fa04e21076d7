-- Inner: how the code's answers and tables hold what the file's reader reads.
use Rattle.std.specs.Prelude.{ℕ, ◌+◌, ◌≡◌, List, length, Result, Ok, Err}
use Rattle.tokens.specs.Token.{Positions, view}
use Rattle.tokens.specs.Number.{definition_width, statement_width, argument_width}
use Rattle.tokens.specs.Place.{FromDoor}
use Rattle.names.specs.Names.{Seen, Fresh}
use Rattle.grammar.specs.Result.{number, beyond, Res, got, bad}
use Rattle.grammar.specs.Written.{Written}
use Rattle.grammar.specs.FileReading.{Definition}
use Rattle.grammar.specs.FileRecords.{definition_records, file_statements, file_arguments, file_argument_records, file_statement_count}
use Rattle.lists.specs.declared.before.Before.{Before}
use Rattle.files.specs.declared.file.FileRead.{FileRead}

-- what reading a file needs: the kept list as the door promises it, and room for the names of macros, fns and tests, each of which takes at least eight tokens
pub record Readable (text words kept : List ℕ) (now : Seen) : Type 0 where
  pub list : FromDoor words kept
  pub room : Fresh 8 (length kept) (view text words kept) now

-- the records that stand before the next definition's
abbrev pub behind : FileRead → Before
behind read = record { statements = read.statements; arguments = read.arguments }

-- the place of Eof and the three counts, or the refusal's number and cursor
abbrev pub file_read : Res (List Definition) → Result FileRead (ℕ × ℕ)
file_read (got ds k) = Ok (record { cursor = k; definitions = length ds; statements = file_statement_count ds; arguments = length (file_arguments ds) })
file_read (bad y w) = Err (number y, w + beyond y)

-- what the loop over definitions promises, where the kept tokens stand so in the text: its answer, and the records of all of them in the three tables
pub record FileParsed (pos : Positions) (read : Res (List Definition)) (de st ar : List ℕ) (r : Result FileRead (ℕ × ℕ)) (de' st' ar' : List ℕ) : Type 0 where
  pub is : r ≡ file_read read
  pub definitions_hold : Written definition_width (definition_records pos 0 0) read 0 de de'
  pub statements_hold : Written statement_width (file_statements 0 0) read 0 st st'
  pub arguments_hold : Written argument_width file_argument_records read 0 ar ar'
