-- Inner: how the entry's parts answer: the settling of what was read, and the reading of a body into the tables as they are lent.
use Rattle.std.specs.Prelude.{ℕ, ◌/◌, ◌≡◌, Bool, cond, List, length, get_or, ltb, Option, Result, Ok, Err}
use Rattle.tokens.specs.Lent.{cleared_behind}
use Rattle.tokens.specs.Token.{Token, token_at}
use Rattle.tokens.specs.Name.{type_told, type_numbers}
use Rattle.tokens.specs.Number.{statement_width, argument_width}
use Rattle.tokens.specs.declared.name.NameType.{NameType}
use Rattle.grammar.specs.Call.{records_of, held_after}
use Rattle.grammar.specs.Rules.{Rules}
use Rattle.grammar.specs.Reader.{body_at}
use Rattle.grammar.specs.Records.{statement_records, argument_records}
use Rattle.statements.specs.declared.item.Progress.{Progress}
use Rattle.statements.specs.declared.entry.BodyRead.{BodyRead}
use Rattle.statements.specs.declared.entry.BodyError.{BodyError}
use Rattle.statements.specs.declared.entry.BodyError.TheVariants.{Refused, StatementsTooSmall, ArgumentsTooSmall}
use Rattle.statements.specs.Call.{values, number_of, Own, after_reading}

-- the answer for a body that was read up to t, where the plain length is `long` and the tables have so many words
abbrev pub settled_read : Progress → Option ℕ → ℕ → ℕ → Result BodyRead BodyError
settled_read t long statements arguments =
    cond (ltb (statements / statement_width) t.statements) (Err (StatementsTooSmall t.statements))
    (cond (ltb (arguments / argument_width) t.arguments) (Err (ArgumentsTooSmall t.arguments))
    (Ok (record { cursor = t.at; statements = t.statements; arguments = t.arguments; length = long })))

-- r is the answer for what was read of these kept tokens: a refusal tells the type of the token at its cursor
abbrev pub SettledAnswer : List Token → Result Progress (ℕ × ℕ) → Option ℕ → ℕ → ℕ → Result BodyRead BodyError → Type 0
SettledAnswer kept (Err f) long statements arguments r = (told : Option NameType) × (r ≡ Err (Refused f told)) × (type_numbers told ≡ type_told f.0 (token_at kept f.1))
SettledAnswer kept (Ok t) long statements arguments r = r ≡ settled_read t long statements arguments

-- what was read, settled: the answer, and each table, in which the records that the answer counts stay, none after a refusal, and zeros stand behind them
pub record Settled (kept : List Token) (read : Result Progress (ℕ × ℕ)) (long : Option ℕ) (statements arguments : List ℕ) (r : Result BodyRead BodyError) (statements' arguments' : List ℕ) : Type 0 where
  pub answer : SettledAnswer kept read long (length statements) (length arguments) r
  pub statements_hold : statements' ≡ cleared_behind statement_width (get_or (values r) 2 0) statements
  pub arguments_hold : arguments' ≡ cleared_behind argument_width (get_or (values r) 3 0) arguments

-- the body from a start of these kept tokens, by a rule set; `short`: one byte pushes a zero
pub record BodyTaken (m : Rules) (short : Bool) (tokens : List Token) (start : ℕ) (statements arguments : List ℕ) (r : Result BodyRead BodyError) (statements' arguments' : List ℕ) : Type 0 where
  pub answer : values r ≡ after_reading tokens short (body_at m tokens start) start (length statements) (length arguments)
  pub own : Own r
  pub statements_hold : statements' ≡ held_after (number_of r) (records_of (statement_records 0 0) (body_at m tokens start)) statements
  pub arguments_hold : arguments' ≡ held_after (number_of r) (records_of argument_records (body_at m tokens start)) arguments
