-- That any two results meeting a promise are equal. Assumes nothing.
use Prim.Native.Nat.{ℕ}
use native.Mathlib.Omega.{arith}
use mathlib.Core.Path.{◌≡◌, refl, sym, ap, ◌∙◌}
use mathlib.Core.List.{List, [], ◌∷◌}
use borrow.Author.Tests.{ne_eqb}
use lib.ListN.{get_or}
use Rattle.tokens.specs.Number as number
use Rattle.grammar.specs.Result.{Res, got, choose}
use Rattle.grammar.specs.Call.{records_of, held_after}
use Rattle.grammar.specs.Records.{statement_records, argument_records}
use Rattle.std.specs.Prelude.{Option, Some, None, Result, Ok, Err, IfSome, unwrap_or, ◌≢◌}
use Rattle.tokens.specs.Name.{type_numbers}
use Rattle.tokens.specs.declared.name.NameType.{NameType}
use Rattle.tokens.proofs.Fixed.{one_type}
use Rattle.grammar.specs.Reading.{NONE}
use Rattle.lists.specs.declared.before.Before.{Before}
use Rattle.statements.specs.declared.item.Progress.{Progress}
use Rattle.statements.specs.declared.entry.BodyRead.{BodyRead}
use Rattle.statements.specs.declared.entry.BodyError.{BodyError}
use Rattle.statements.specs.declared.entry.BodyError.TheVariants as errors
use Rattle.statements.specs.declared.entry.BodyError.TheVariants.{NotWellFormed, KeptTooShort, StartOutside, Refused, StatementsTooSmall, ArgumentsTooSmall}
use Rattle.statements.specs.Length.{length_told}
use Rattle.statements.specs.declared.choice.Mode.{Mode}
use Rattle.statements.specs.declared.choice.Mode.TheVariants.{Lenient, Strict}
use Rattle.statements.specs.declared.choice.UnknownMode.{UnknownMode}
use Rattle.statements.specs.declared.choice.Edition.{Edition}
use Rattle.statements.specs.declared.choice.Edition.TheVariants.{First, Second}
use Rattle.statements.specs.declared.choice.UnknownEdition.{UnknownEdition}
use Rattle.statements.specs.Choice.{ModeOf, EditionOf}
use Rattle.statements.proofs.EntryLaws.{mode_known, edition_known}
use mathlib.Core.Bool.{true≢false}
use Rattle.statements.specs.Answers.{Parsed}
use Rattle.statements.specs.Call.{values, number_of, Own, reading_at, BodyCall}

-- no two answers have the same seven numbers, where `Refused` keeps to its own, and a length is not the number for none
pub one_body_answer : (r r' : Result BodyRead BodyError) → Own r → Own r' → values r ≡ values r' → r ≡ r'
unfolding choose
one_body_answer r r' o o' e =
    let same = one_type (type_in r) (type_in r') (numbers_in r) (numbers_in r' ∙ ap (λ (v : List ℕ). (get_or v 5 0, get_or v 6 0)) (sym e)) in
    sym (again r o) ∙ ap (λ (v : List ℕ). told v (type_in r)) e ∙ ap (told (values r')) same ∙ again r' o'
  where
    -- the type that an answer tells, by its last two numbers
    type_in : Result BodyRead BodyError → Option NameType
    type_in (Err (Refused f t)) = t
    type_in r = None

    numbers_in : (r : Result BodyRead BodyError) → type_numbers (type_in r) ≡ (get_or (values r) 5 0, get_or (values r) 6 0)
    numbers_in (Err (Refused f t)) = refl
    numbers_in r = refl

    -- the answer of seven numbers, and of that type
    told : List ℕ → Option NameType → Result BodyRead BodyError
    told v t =
        choose (
        (0, Ok (record { cursor = get_or v 1 0; statements = get_or v 2 0; arguments = get_or v 3 0; length = length_told (get_or v 4 0) }))
        ∷ (number.UnknownMode, Err errors.UnknownMode)
        ∷ (number.UnknownEdition, Err errors.UnknownEdition)
        ∷ (number.NotWellFormed, Err (NotWellFormed (get_or v 1 0)))
        ∷ (number.KeptTooShort, Err (KeptTooShort (get_or v 1 0)))
        ∷ (number.StartOutside, Err (StartOutside (get_or v 1 0)))
        ∷ (number.StatementsTooSmall, Err (StatementsTooSmall (get_or v 1 0)))
        ∷ (number.ArgumentsTooSmall, Err (ArgumentsTooSmall (get_or v 1 0)))
        ∷ [])
        (Err (Refused (get_or v 0 0, get_or v 1 0) t)) (get_or v 0 0)

    -- a length, by its number
    length_again : (long : Option ℕ) → IfSome long (λ n. n ≢ NONE) → length_told (unwrap_or long NONE) ≡ long
    length_again None o = refl
    length_again (Some n) o = rw (ne_eqb n NONE o)

    again : (r : Result BodyRead BodyError) → Own r → told (values r) (type_in r) ≡ r
    again (Err errors.UnknownMode) o = refl
    again (Err errors.UnknownEdition) o = refl
    again (Err (NotWellFormed at)) o = refl
    again (Err (KeptTooShort count)) o = refl
    again (Err (StartOutside at)) o = refl
    again (Err (Refused f t)) o =
        rw (
          ne_eqb f.0 0 (λ e. omega (arith, o.0)),
          ne_eqb f.0 36 (λ e. omega (arith, o.1)),
          ne_eqb f.0 38 (λ e. omega (arith, o.1)),
          ne_eqb f.0 30 (λ e. omega (arith, o.1)),
          ne_eqb f.0 35 (λ e. omega (arith, o.1)),
          ne_eqb f.0 31 (λ e. omega (arith, o.1)),
          ne_eqb f.0 33 (λ e. omega (arith, o.1)),
          ne_eqb f.0 34 (λ e. omega (arith, o.1)),
        )
    again (Err (StatementsTooSmall need)) o = refl
    again (Err (ArgumentsTooSmall need)) o = refl
    again (Ok body) o = rw (length_again body.length o)

-- the promises of the two conversions
pub one_mode : (mode : ℕ) (r r' : Result Mode UnknownMode) → ModeOf mode r → ModeOf mode r' → r ≡ r'
one_mode mode (Ok Lenient) (Ok Lenient) e f = refl
one_mode mode (Ok Strict) (Ok Strict) e f = refl
one_mode mode (Ok Lenient) (Ok Strict) e f = absurd (omega arith)
one_mode mode (Ok Strict) (Ok Lenient) e f = absurd (omega arith)
one_mode mode (Ok m) (Err x) e f = absurd (true≢false (sym (mode_known m e) ∙ f))
one_mode mode (Err x) (Ok m) e f = absurd (true≢false (sym (mode_known m f) ∙ e))
one_mode mode (Err x) (Err y) e f = refl

pub one_edition : (edition : ℕ) (r r' : Result Edition UnknownEdition) → EditionOf edition r → EditionOf edition r' → r ≡ r'
one_edition edition (Ok First) (Ok First) e f = refl
one_edition edition (Ok Second) (Ok Second) e f = refl
one_edition edition (Ok First) (Ok Second) e f = absurd (omega arith)
one_edition edition (Ok Second) (Ok First) e f = absurd (omega arith)
one_edition edition (Ok m) (Err x) e f = absurd (true≢false (sym (edition_known m e) ∙ f))
one_edition edition (Err x) (Ok m) e f = absurd (true≢false (sym (edition_known m f) ∙ e))
one_edition edition (Err x) (Err y) e f = refl

-- the promise of `read_body`: its answer, and all that is lent
pub one_call : {mode edition : ℕ} {text words kept st ar : List ℕ} {start : ℕ} {r r' : Result BodyRead BodyError} {k k' s s' a a' : List ℕ}
    → BodyCall mode edition text words start kept st ar r k s a
    → BodyCall mode edition text words start kept st ar r' k' s' a'
    → (r ≡ r') × (k ≡ k') × (s ≡ s') × (a ≡ a')
one_call {mode} {text = text} {words} {st = st} {ar = ar} {start = start} {r = r} {r' = r'} m n =
    let same = one_body_answer r r' m.own n.own (m.answer ∙ sym n.answer) in (
      same,
      m.list ∙ sym n.list,
      m.statements_hold ∙ ap (λ (x : Result BodyRead BodyError). held_after (number_of x) (records_of (statement_records 0 0) (reading_at mode text words start)) st) same ∙ sym n.statements_hold,
      m.arguments_hold ∙ ap (λ (x : Result BodyRead BodyError). held_after (number_of x) (records_of argument_records (reading_at mode text words start)) ar) same ∙ sym n.arguments_hold,
    )

module _ {A : Type 0} {answer : Progress → Res A → Result Progress (ℕ × ℕ)} {records : ℕ → ℕ → A → List (List ℕ)} {arguments : A → List (List ℕ)} {s : Progress} {before : Before} {size : ℕ} {st ar : List ℕ} {r r' : Result Progress (ℕ × ℕ)} {st₁ st₂ ar₁ ar₂ : List ℕ} where
  -- the parsers' promises: the answer always
  pub one_parse : {read : Res A} → Parsed answer records arguments s before size read st ar r st₁ ar₁ → Parsed answer records arguments s before size read st ar r' st₂ ar₂ → r ≡ r'
  one_parse m n = m.is ∙ sym n.is

  -- and both tables where something is read; after a refusal only the entry says what they hold
  pub one_writing : {x : A} {k : ℕ} → Parsed answer records arguments s before size (got x k) st ar r st₁ ar₁ → Parsed answer records arguments s before size (got x k) st ar r' st₂ ar₂ → (st₁ ≡ st₂) × (ar₁ ≡ ar₂)
  one_writing m n = (m.statements_hold ∙ sym n.statements_hold, m.arguments_hold ∙ sym n.arguments_hold)
