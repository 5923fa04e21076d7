-- Inner: how the code's answers and tables hold what the reader reads: statements and bodies.
use Rattle.std.specs.Prelude.{ℕ, ◌+◌, ◌≤◌, ◌≡◌, length, Result, Ok, Err}
use mathlib.Core.List.{List, map, flatten}
use Rattle.tokens.specs.Number.{statement_width, argument_width, most_tokens}
use Rattle.tokens.specs.Place.{FromDoor}
use Rattle.grammar.specs.Reading.{Simple, Reading}
use Rattle.grammar.specs.Result.{number, beyond, Res, got, bad}
use Rattle.grammar.specs.Records.{argument_record, arguments_of, argument_records, simple_records, statement_records, statement_count, argument_count}
use Rattle.grammar.specs.Written.{Written}
use Rattle.lists.specs.declared.before.Before.{Before}
use Rattle.statements.specs.declared.item.Progress.{Progress}

-- a progress, the numbers of records before the lent tables, and what the calls need of them
pub record Counting (words kept : List ℕ) (s : Progress) (before : Before) : Type 0 where
  pub list : FromDoor words kept
  pub inside : s.at ≤ length kept
  pub statements : s.statements ≤ s.at
  pub arguments : s.arguments ≤ s.at
  pub statements_before : before.statements ≤ most_tokens
  pub arguments_before : before.arguments ≤ most_tokens

-- k tokens further, with these many records
abbrev pub progressed : Progress → ℕ → ℕ → ℕ → Progress
progressed s k m n = record { at = s.at + k; statements = s.statements + m; arguments = s.arguments + n }

-- statements that are no labels
abbrev pub simple_answer : Progress → Res (List Simple) → Result Progress (ℕ × ℕ)
simple_answer s (got ss k) = Ok (progressed s k (length ss) (length (arguments_of ss)))
simple_answer s (bad y w) = Err (number y, w + beyond y)

-- a body
abbrev pub body_answer : Progress → Res Reading → Result Progress (ℕ × ℕ)
body_answer s (got r k) = Ok (progressed s k (statement_count r) (argument_count r))
body_answer s (bad y w) = Err (number y, w + beyond y)

-- units of statements as one list
abbrev pub flattened : Res (List (List Simple)) → Res (List Simple)
flattened (got is k) = got (flatten is) k
flattened (bad y w) = bad y w

abbrev pub ProgressWithin : Progress → ℕ → Result Progress (ℕ × ℕ) → Type 0
ProgressWithin s size (Ok t) =
    (s.at ≤ t.at)
    × (t.at ≤ size)
    × (t.statements + s.at ≤ s.statements + t.at)
    × (t.arguments + s.at ≤ s.arguments + t.at)
ProgressWithin s size (Err f) = Unit {0}

-- what a parser of statements promises: its answer, both tables, and bounds
pub record Parsed {A : Type 0} (answer : Progress → Res A → Result Progress (ℕ × ℕ)) (statements : ℕ → ℕ → A → List (List ℕ)) (arguments : A → List (List ℕ)) (s : Progress) (before : Before) (size : ℕ) (read : Res A) (st ar : List ℕ) (r : Result Progress (ℕ × ℕ)) (st' ar' : List ℕ) : Type 0 where
  pub is : r ≡ answer s read
  pub statements_hold : Written statement_width (statements (before.statements + s.statements) (before.arguments + s.arguments)) read s.statements st st'
  pub arguments_hold : Written argument_width arguments read s.arguments ar ar'
  pub within : ProgressWithin s size r

abbrev pub simple_arguments : List Simple → List (List ℕ)
simple_arguments ss = map argument_record (arguments_of ss)

-- of statements that are no labels, of a body
abbrev pub SimpleParsed : Progress → Before → ℕ → Res (List Simple) → List ℕ → List ℕ → Result Progress (ℕ × ℕ) → List ℕ → List ℕ → Type 0
SimpleParsed = Parsed simple_answer simple_records simple_arguments

abbrev pub BodyParsed : Progress → Before → ℕ → Res Reading → List ℕ → List ℕ → Result Progress (ℕ × ℕ) → List ℕ → List ℕ → Type 0
BodyParsed = Parsed body_answer statement_records argument_records
