-- The promise of `read_file`: the answer by document 01 and the requests that are done, and what every lent thing holds afterwards.
use Rattle.std.specs.Prelude.{ℕ, ◌/◌, ◌≡◌, true, cond, List, length, get_or, ltb, Result, Ok, Err}
use Rattle.tokens.specs.Number as number
use Rattle.tokens.specs.Number.{definition_width, statement_width, argument_width}
use Rattle.tokens.specs.Token.{Token}
use Rattle.tokens.specs.Kept.{kept_tokens, kept_positions}
use Rattle.tokens.specs.Door.{kept_after}
use Rattle.grammar.specs.Result.{Answer, read, refused}
use Rattle.grammar.specs.Rules.{rules_of}
use Rattle.grammar.specs.FileReading.{Definition}
use Rattle.grammar.specs.FileReader.{file_at}
use Rattle.grammar.specs.FileRecords.{definition_records, file_statements, file_arguments, file_argument_records, file_statement_count}
use Rattle.grammar.specs.Call.{ReadingNumber, acceptance, refusal_of, refusal, file_numbers, file_entrance, after_door, records_of, held_after}
use Rattle.tokens.specs.Name.{type_numbers}
use Rattle.tokens.specs.declared.door.Unready.{Unready}
use Rattle.tokens.specs.declared.door.Unready.TheVariants as unready
use Rattle.files.specs.declared.file.FileRead.{FileRead}
use Rattle.files.specs.declared.entry.FileError.{FileError}
use Rattle.files.specs.declared.entry.FileError.TheVariants.{UnknownMode, NotWellFormed, KeptTooShort, Refused, DefinitionsTooSmall, StatementsTooSmall, ArgumentsTooSmall}

-- the seven numbers of each answer: number, cursor, definitions, statements, arguments; type and size
abbrev pub values : Result FileRead FileError → List ℕ
values (Err UnknownMode) = refusal number.UnknownMode 0
values (Err (NotWellFormed at)) = refusal number.NotWellFormed at
values (Err (KeptTooShort count)) = refusal number.KeptTooShort count
values (Err (Refused f told)) = refusal_of f.0 f.1 (type_numbers told)
values (Err (DefinitionsTooSmall need)) = refusal number.DefinitionsTooSmall need
values (Err (StatementsTooSmall need)) = refusal number.StatementsTooSmall need
values (Err (ArgumentsTooSmall need)) = refusal number.ArgumentsTooSmall need
values (Ok file) = acceptance file.cursor file.definitions file.statements file.arguments

-- the number, 0 accepted
abbrev pub number_of : Result FileRead FileError → ℕ
number_of r = get_or (values r) 0 0

-- `Refused` is for the reading's own numbers, and no other answer has one of these: so the numbers tell the answer
abbrev pub Own : Result FileRead FileError → Type 0
Own (Err UnknownMode) = Unit {0}
Own (Err (NotWellFormed at)) = Unit {0}
Own (Err (KeptTooShort count)) = Unit {0}
Own (Err (Refused f told)) = ReadingNumber f.0
Own (Err (DefinitionsTooSmall need)) = Unit {0}
Own (Err (StatementsTooSmall need)) = Unit {0}
Own (Err (ArgumentsTooSmall need)) = Unit {0}
Own (Ok file) = Unit {0}

-- what the call answers for a list that the door turns away. From start 0 it never gives the last one (`file_not_31`)
abbrev pub at_door : Unready → FileError
at_door (unready.NotWellFormed at) = NotWellFormed at
at_door (unready.KeptTooShort count) = KeptTooShort count
at_door (unready.StartOutside start) = NotWellFormed start

-- the first of 1 to 22 in reading order of these kept tokens; for an accepted file 32, else 33, else 34, if a table's whole records are fewer than needed
unfoldable pub after_reading : List Token → Answer (List Definition) → ℕ → ℕ → ℕ → List ℕ
after_reading kept (refused c q) definitions statements arguments = file_numbers kept (refused c q)
after_reading kept (read ds n) definitions statements arguments =
    cond (ltb (definitions / definition_width) (length ds)) (refusal number.DefinitionsTooSmall (length ds))
    (cond (ltb (statements / statement_width) (file_statement_count ds)) (refusal number.StatementsTooSmall (file_statement_count ds))
    (cond (ltb (arguments / argument_width) (length (file_arguments ds))) (refusal number.ArgumentsTooSmall (length (file_arguments ds)))
    (file_numbers kept (read ds n))))

-- what the reader answers in a mode for the kept tokens, with the rule on the names of macros, fns and tests
abbrev pub file_reading : ℕ → List ℕ → List ℕ → Answer (List Definition)
file_reading mode text words = file_at (rules_of mode) true (kept_tokens text words)

-- 36, 30, 35, then the reading. From start 0 the door never gives 31 (`file_not_31`)
abbrev pub file_answered : ℕ → List ℕ → List ℕ → ℕ → ℕ → ℕ → ℕ → List ℕ
file_answered mode text words kept definitions statements arguments =
    after_door (file_entrance mode text words kept) (after_reading (kept_tokens text words) (file_reading mode text words) definitions statements arguments)

-- the promise: the answer r by its numbers, and the kept list and the three tables afterwards. Where the kept tokens stand in the text comes in for the definition
-- records alone, for their last two words (request [7])
pub record FileCall (mode : ℕ) (text words kept definitions statements arguments : List ℕ) (r : Result FileRead FileError) (kept' definitions' statements' arguments' : List ℕ) : Type 0 where
  pub answer : values r ≡ file_answered mode text words (length kept) (length definitions) (length statements) (length arguments)
  pub own : Own r
  pub list : kept' ≡ kept_after (file_entrance mode text words (length kept)).0 words kept
  pub definitions_hold : definitions' ≡ held_after (number_of r) (records_of (definition_records (kept_positions words) 0 0) (file_reading mode text words)) definitions
  pub statements_hold : statements' ≡ held_after (number_of r) (records_of (file_statements 0 0) (file_reading mode text words)) statements
  pub arguments_hold : arguments' ≡ held_after (number_of r) (records_of file_argument_records (file_reading mode text words)) arguments
