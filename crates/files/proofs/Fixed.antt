-- That any two results meeting a promise are equal. Assumes nothing.
use Prim.Native.Nat.{ℕ}
use native.Mathlib.Omega.{arith}
use mathlib.Core.Path.{◌≡◌, refl, sym, ap, ◌∙◌}
use mathlib.Core.List.{List, [], ◌∷◌}
use borrow.Author.Tests.{ne_eqb}
use lib.ListN.{get_or}
use Rattle.tokens.specs.Token.{Positions}
use Rattle.std.specs.Prelude.{Option, None, Result, Ok, Err}
use Rattle.tokens.specs.Number as number
use Rattle.tokens.specs.Name.{type_numbers}
use Rattle.tokens.specs.declared.name.NameType.{NameType}
use Rattle.tokens.proofs.Fixed.{one_type}
use Rattle.tokens.specs.Kept.{kept_positions}
use Rattle.grammar.specs.Result.{Res, got, choose}
use Rattle.grammar.specs.Call.{records_of, held_after}
use Rattle.grammar.specs.FileReading.{Definition}
use Rattle.grammar.specs.FileRecords.{definition_records, file_statements, file_argument_records}
use Rattle.files.specs.declared.file.FileRead.{FileRead}
use Rattle.files.specs.declared.entry.FileError.{FileError}
use Rattle.files.specs.declared.entry.FileError.TheVariants.{UnknownMode, NotWellFormed, KeptTooShort, Refused, DefinitionsTooSmall, StatementsTooSmall, ArgumentsTooSmall}
use Rattle.files.specs.Answers.{FileParsed}
use Rattle.files.specs.Call.{values, number_of, Own, file_reading, FileCall}

-- no two answers have the same seven numbers, where `Refused` keeps to its own
pub one_file_answer : (r r' : Result FileRead FileError) → Own r → Own r' → values r ≡ values r' → r ≡ r'
unfolding choose
one_file_answer r r' o o' e =
    let same = one_type (type_in r) (type_in r') (numbers_in r) (numbers_in r' ∙ ap (λ (v : List ℕ). (get_or v 5 0, get_or v 6 0)) (sym e)) in
    sym (again r o) ∙ ap (λ (v : List ℕ). told v (type_in r)) e ∙ ap (told (values r')) same ∙ again r' o'
  where
    -- the type that an answer tells, by its last two numbers
    type_in : Result FileRead FileError → Option NameType
    type_in (Err (Refused f t)) = t
    type_in r = None

    numbers_in : (r : Result FileRead FileError) → type_numbers (type_in r) ≡ (get_or (values r) 5 0, get_or (values r) 6 0)
    numbers_in (Err (Refused f t)) = refl
    numbers_in r = refl

    -- the answer of seven numbers, and of that type
    told : List ℕ → Option NameType → Result FileRead FileError
    told v t =
        choose (
        (0, Ok (record { cursor = get_or v 1 0; definitions = get_or v 2 0; statements = get_or v 3 0; arguments = get_or v 4 0 }))
        ∷ (number.UnknownMode, Err UnknownMode)
        ∷ (number.NotWellFormed, Err (NotWellFormed (get_or v 1 0)))
        ∷ (number.KeptTooShort, Err (KeptTooShort (get_or v 1 0)))
        ∷ (number.DefinitionsTooSmall, Err (DefinitionsTooSmall (get_or v 1 0)))
        ∷ (number.StatementsTooSmall, Err (StatementsTooSmall (get_or v 1 0)))
        ∷ (number.ArgumentsTooSmall, Err (ArgumentsTooSmall (get_or v 1 0)))
        ∷ [])
        (Err (Refused (get_or v 0 0, get_or v 1 0) t)) (get_or v 0 0)

    again : (r : Result FileRead FileError) → Own r → told (values r) (type_in r) ≡ r
    again (Err UnknownMode) o = refl
    again (Err (NotWellFormed at)) o = refl
    again (Err (KeptTooShort count)) o = refl
    again (Err (Refused f t)) o =
        rw (
          ne_eqb f.0 0 (λ e. omega (arith, o.0)),
          ne_eqb f.0 36 (λ e. omega (arith, o.1)),
          ne_eqb f.0 30 (λ e. omega (arith, o.1)),
          ne_eqb f.0 35 (λ e. omega (arith, o.1)),
          ne_eqb f.0 32 (λ e. omega (arith, o.1)),
          ne_eqb f.0 33 (λ e. omega (arith, o.1)),
          ne_eqb f.0 34 (λ e. omega (arith, o.1)),
        )
    again (Err (DefinitionsTooSmall need)) o = refl
    again (Err (StatementsTooSmall need)) o = refl
    again (Err (ArgumentsTooSmall need)) o = refl
    again (Ok file) o = refl

-- the promise of `read_file`: its answer, and all that is lent
pub one_call : {mode : ℕ} {text words kept de st ar : List ℕ} {r r' : Result FileRead FileError} {k k' d d' s s' a a' : List ℕ}
    → FileCall mode text words kept de st ar r k d s a
    → FileCall mode text words kept de st ar r' k' d' s' a'
    → (r ≡ r') × (k ≡ k') × (d ≡ d') × (s ≡ s') × (a ≡ a')
one_call {mode} {text} {words} {de = de} {st = st} {ar = ar} {r = r} {r' = r'} m n =
    let same = one_file_answer r r' m.own n.own (m.answer ∙ sym n.answer) in (
      same,
      m.list ∙ sym n.list,
      m.definitions_hold ∙ ap (λ (x : Result FileRead FileError). held_after (number_of x) (records_of (definition_records (kept_positions words) 0 0) (file_reading mode text words)) de) same ∙ sym n.definitions_hold,
      m.statements_hold ∙ ap (λ (x : Result FileRead FileError). held_after (number_of x) (records_of (file_statements 0 0) (file_reading mode text words)) st) same ∙ sym n.statements_hold,
      m.arguments_hold ∙ ap (λ (x : Result FileRead FileError). held_after (number_of x) (records_of file_argument_records (file_reading mode text words)) ar) same ∙ sym n.arguments_hold,
    )

-- of `parse` and `read_definitions` the same
module _ {pos : Positions} {de st ar : List ℕ} {r r' : Result FileRead (ℕ × ℕ)} {de₁ de₂ st₁ st₂ ar₁ ar₂ : List ℕ} where
  pub one_file : {read : Res (List Definition)} → FileParsed pos read de st ar r de₁ st₁ ar₁ → FileParsed pos read de st ar r' de₂ st₂ ar₂ → r ≡ r'
  one_file m n = m.is ∙ sym n.is

  pub one_file_writing : {ds : List Definition} {k : ℕ}
      → FileParsed pos (got ds k) de st ar r de₁ st₁ ar₁
      → FileParsed pos (got ds k) de st ar r' de₂ st₂ ar₂
      → (de₁ ≡ de₂) × (st₁ ≡ st₂) × (ar₁ ≡ ar₂)
  one_file_writing m n = (m.definitions_hold ∙ sym n.definitions_hold, m.statements_hold ∙ sym n.statements_hold, m.arguments_hold ∙ sym n.arguments_hold)
