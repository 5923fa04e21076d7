-- Inner: how the parts of a macro, fn or test are read, and what the code's answers for them say.
use Rattle.std.specs.Prelude.{ℕ, ◌+◌, ◌≤◌, ◌≡◌, List, Result, Ok, Err}
use Rattle.tokens.specs.Number.{UnexpectedType, statement_width, argument_width}
use Rattle.tokens.specs.Token.{Token}
use Rattle.tokens.specs.Kind as kinds
use Rattle.tokens.specs.Kind.{Takes, Returns, Assign}
use Rattle.grammar.specs.Reading.{Argument, Reading}
use Rattle.grammar.specs.Rules.{Rules}
use Rattle.grammar.specs.Result.{plain, number, beyond, Res, got, bad, expect, seq}
use Rattle.grammar.specs.Reader.{name_argument, body_from}
use Rattle.grammar.specs.Typed.{single_number}
use Rattle.grammar.specs.Records.{statement_records, argument_records, statement_count, argument_count}
use Rattle.grammar.specs.FileReading.{MacroSort, the_macro, the_fn, the_test}
use Rattle.grammar.specs.FileReader.{optional, parse_args}
use Rattle.grammar.specs.Written.{Written}
use Rattle.lists.specs.Answers.{single_answer}
use Rattle.lists.specs.declared.single.Single.{Single}
use Rattle.lists.specs.declared.before.Before.{Before}
use Rattle.definitions.specs.Answers.{macro_kind}
use Rattle.definitions.specs.declared.record.Found.{Found}
use Rattle.definitions.specs.declared.macros.MacroKind.{MacroKind}
use Rattle.definitions.specs.declared.macros.MacroKind.TheVariants.{Macro, Fn, Test}
use Rattle.definitions.specs.declared.macros.Tail.{Tail}
use Rattle.definitions.specs.declared.macros.Numbers.{Numbers}

-- ---- kinds of macros

abbrev pub macro_sort : MacroKind → MacroSort
macro_sort Macro = the_macro
macro_sort Fn = the_fn
macro_sort Test = the_test

-- the kind of the token that the macro begins with
abbrev pub macro_token : MacroKind → ℕ
macro_token Macro = kinds.Macro
macro_token Fn = kinds.Fn
macro_token Test = kinds.Test

-- ---- Takes and Returns

-- what stands there may be nothing at all
abbrev pub NumberWithin : ℕ → ℕ → Result Single (ℕ × ℕ) → Type 0
NumberWithin p size (Ok s) = (p ≤ s.end) × (s.end ≤ size)
NumberWithin p size (Err f) = Unit {0}

pub record NumberRead (p size : ℕ) (read : Res ℕ) (r : Result Single (ℕ × ℕ)) : Type 0 where
  pub is : r ≡ single_answer p read
  pub within : NumberWithin p size r

-- both numbers
unfoldable pub numbers_from : ℕ → List Token → Res (ℕ × ℕ)
numbers_from = seq (optional Takes single_number 0) (λ t. seq (optional Returns single_number 0) (λ r q ts. got (t, r) 0))

abbrev pub numbers_answer : ℕ → Res (ℕ × ℕ) → Result Numbers (ℕ × ℕ)
numbers_answer p (got n k) = Ok (record { takes = n.0; returns = n.1; end = p + k })
numbers_answer p (bad y w) = Err (number y, w + beyond y)

abbrev pub NumbersWithin : ℕ → ℕ → Result Numbers (ℕ × ℕ) → Type 0
NumbersWithin p size (Ok n) = (p ≤ n.end) × (n.end ≤ size)
NumbersWithin p size (Err f) = Unit {0}

pub record NumbersRead (p size : ℕ) (read : Res (ℕ × ℕ)) (r : Result Numbers (ℕ × ℕ)) : Type 0 where
  pub is : r ≡ numbers_answer p read
  pub within : NumbersWithin p size r

-- ---- the list and `=`

unfoldable pub head_from : ℕ → List Token → Res (List Argument)
head_from = seq (parse_args name_argument) (λ args. expect Assign (plain UnexpectedType) (λ a q ts. got args 0))

-- ---- what stands behind `=`

-- both numbers and the body, by a rule set
unfoldable pub tail_from : Rules → ℕ → List Token → Res ((ℕ × ℕ) × Reading)
tail_from m = seq numbers_from (λ n. seq (body_from m) (λ r q ts. got (n, r) 0))

-- the answer from place q on, where n arguments are declared: both numbers, and the progress behind the body
abbrev pub tail_answer : ℕ → ℕ → Res ((ℕ × ℕ) × Reading) → Result Tail (ℕ × ℕ)
tail_answer n q (got x k) =
    Ok
    (record {
      takes = x.0.0;
      returns = x.0.1;
      body = record { at = q + k; statements = statement_count x.1; arguments = n + argument_count x.1 };
    })
tail_answer n q (bad y w) = Err (number y, w + beyond y)

abbrev pub TailWithin : ℕ → ℕ → ℕ → Result Tail (ℕ × ℕ) → Type 0
TailWithin n q size (Ok t) =
    (q ≤ t.body.at) × (t.body.at ≤ size) × (t.body.statements + q ≤ t.body.at) × (t.body.arguments + q ≤ n + t.body.at)
TailWithin n q size (Err f) = Unit {0}

-- what the reader behind `=` promises; the body's arguments are numbered and written behind the declared ones
pub record TailParsed (n q : ℕ) (before : Before) (size : ℕ) (read : Res ((ℕ × ℕ) × Reading)) (st ar : List ℕ) (r : Result Tail (ℕ × ℕ)) (st' ar' : List ℕ) : Type 0 where
  pub is : r ≡ tail_answer n q read
  pub statements_hold : Written statement_width (λ x. statement_records before.statements (before.arguments + n) x.1) read 0 st st'
  pub arguments_hold : Written argument_width (λ x. argument_records x.1) read n ar ar'
  pub within : TailWithin n q size r

-- ---- the record

-- a macro of n declared arguments whose name is the token at m: the first output stands behind these, and there is none
abbrev pub macro_found : MacroSort → ℕ → ℕ → ℕ → Tail → Found
macro_found sort first m n t =
    record {
      kind = macro_kind sort;
      first = first;
      name = m;
      end = t.body.at;
      inputs = n;
      outputs = 0;
      statements = t.body.statements;
      a = t.takes;
      b = t.returns;
    }
