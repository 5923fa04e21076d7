-- The promise of `read_body`: the answer by document 01 and the requests that are done, and what every lent thing holds afterwards.
use Rattle.std.specs.Prelude.{ℕ, ◌/◌, ◌≡◌, ◌≢◌, Bool, cond, List, length, get_or, ltb, Result, Ok, Err, IfSome, unwrap_or}
use Rattle.tokens.specs.Number as number
use Rattle.tokens.specs.Number.{statement_width, argument_width}
use Rattle.tokens.specs.Token.{Token}
use Rattle.tokens.specs.Kept.{kept_tokens}
use Rattle.tokens.specs.Door.{kept_after}
use Rattle.grammar.specs.Reading.{NONE, Reading}
use Rattle.grammar.specs.Result.{Answer, read, refused}
use Rattle.grammar.specs.Rules.{rules_of}
use Rattle.grammar.specs.Reader.{body_at}
use Rattle.grammar.specs.Records.{statement_records, argument_records, statement_count, argument_count}
use Rattle.grammar.specs.PlainLength.{short_zeros}
use Rattle.grammar.specs.Call.{ReadingNumber, acceptance, refusal_of, refusal, body_numbers, body_entrance, after_door, records_of, held_after}
use Rattle.tokens.specs.Name.{type_numbers}
use Rattle.tokens.specs.declared.door.Unready.{Unready}
use Rattle.tokens.specs.declared.door.Unready.TheVariants as unready
use Rattle.statements.specs.declared.entry.BodyRead.{BodyRead}
use Rattle.statements.specs.declared.entry.BodyError.{BodyError}
use Rattle.statements.specs.declared.entry.BodyError.TheVariants.{UnknownMode, UnknownEdition, NotWellFormed, KeptTooShort, StartOutside, Refused, StatementsTooSmall, ArgumentsTooSmall}

-- the seven numbers of each answer: number, cursor, statements, arguments, plain length; type and size
abbrev pub values : Result BodyRead BodyError → List ℕ
values (Err UnknownMode) = refusal number.UnknownMode 0
values (Err UnknownEdition) = refusal number.UnknownEdition 0
values (Err (NotWellFormed at)) = refusal number.NotWellFormed at
values (Err (KeptTooShort count)) = refusal number.KeptTooShort count
values (Err (StartOutside at)) = refusal number.StartOutside at
values (Err (Refused f told)) = refusal_of f.0 f.1 (type_numbers told)
values (Err (StatementsTooSmall need)) = refusal number.StatementsTooSmall need
values (Err (ArgumentsTooSmall need)) = refusal number.ArgumentsTooSmall need
values (Ok body) = acceptance body.cursor body.statements body.arguments (unwrap_or body.length NONE)

-- the number, 0 accepted
abbrev pub number_of : Result BodyRead BodyError → ℕ
number_of r = get_or (values r) 0 0

-- `Refused` is for the reading's own numbers, and no other answer has one of these; and no length is the number for none: so the numbers tell the answer
abbrev pub Own : Result BodyRead BodyError → Type 0
Own (Err UnknownMode) = Unit {0}
Own (Err UnknownEdition) = Unit {0}
Own (Err (NotWellFormed at)) = Unit {0}
Own (Err (KeptTooShort count)) = Unit {0}
Own (Err (StartOutside at)) = Unit {0}
Own (Err (Refused f told)) = ReadingNumber f.0
Own (Err (StatementsTooSmall need)) = Unit {0}
Own (Err (ArgumentsTooSmall need)) = Unit {0}
Own (Ok body) = IfSome body.length (λ long. long ≢ NONE)

-- what the call answers for a list that the door turns away
abbrev pub at_door : Unready → BodyError
at_door (unready.NotWellFormed at) = NotWellFormed at
at_door (unready.KeptTooShort count) = KeptTooShort count
at_door (unready.StartOutside at) = StartOutside at

-- the first of 1 to 13 and 22 in reading order of these kept tokens, whatever the edition; for an accepted body 33, else 34, if a table's whole records are fewer
-- than needed
unfoldable pub after_reading : List Token → Bool → Answer Reading → ℕ → ℕ → ℕ → List ℕ
after_reading kept short (refused c q) start statements arguments = body_numbers kept short start (refused c q)
after_reading kept short (read r n) start statements arguments =
    cond (ltb (statements / statement_width) (statement_count r)) (refusal number.StatementsTooSmall (statement_count r))
    (cond (ltb (arguments / argument_width) (argument_count r)) (refusal number.ArgumentsTooSmall (argument_count r)) (body_numbers kept short start (read r n)))

-- what the reader answers in a mode for the kept tokens from a start
abbrev pub reading_at : ℕ → List ℕ → List ℕ → ℕ → Answer Reading
reading_at mode text words start = body_at (rules_of mode) (kept_tokens text words) start

-- 36, 38, 30, 35, 31, then the reading
abbrev pub body_answered : ℕ → ℕ → List ℕ → List ℕ → ℕ → ℕ → ℕ → ℕ → List ℕ
body_answered mode edition text words start kept statements arguments =
    after_door (body_entrance mode edition text words start kept) (after_reading (kept_tokens text words) (short_zeros edition) (reading_at mode text words start) start statements arguments)

-- the promise: the answer r by its numbers, and the kept list and both tables afterwards
pub record BodyCall (mode edition : ℕ) (text words : List ℕ) (start : ℕ) (kept statements arguments : List ℕ) (r : Result BodyRead BodyError) (kept' statements' arguments' : List ℕ) : Type 0 where
  pub answer : values r ≡ body_answered mode edition text words start (length kept) (length statements) (length arguments)
  pub own : Own r
  pub list : kept' ≡ kept_after (body_entrance mode edition text words start (length kept)).0 words kept
  pub statements_hold : statements' ≡ held_after (number_of r) (records_of (statement_records 0 0) (reading_at mode text words start)) statements
  pub arguments_hold : arguments' ≡ held_after (number_of r) (records_of argument_records (reading_at mode text words start)) arguments
