-- Laws of the entry: the kept numbers as a part of the kept list, tables that hold records and zeros, and each way out. Assumes nothing.
use Prim.Native.Nat.{ℕ, ◌-◌, ◌/◌, ◌≤◌, ◌<◌}
use mathlib.Core.Path.{◌≡◌, refl, sym, ap, ◌∙◌}
use mathlib.Core.Bool.{true, false}
use mathlib.Core.List.{List, []}
use native.Mathlib.Omega.{arith}
use borrow.Author.Tests.{lt-ltb, le-ltb}
use lib.ListN.{length, replicate, take}
use Rattle.std.specs.Prelude.{Option, Result, Ok, Err}
use Rattle.tokens.specs.Number.{definition_width, statement_width, argument_width}
use Rattle.tokens.specs.Lent.{cleared_behind}
use Rattle.tokens.specs.Token.{Token, token_at, view, Positions, positions}
use Rattle.tokens.specs.Name.{type_told, type_numbers}
use Rattle.tokens.specs.Door.{Prepared}
use Rattle.tokens.specs.declared.door.Unready.{Unready}
use Rattle.tokens.specs.declared.door.Unready.TheVariants as unready
use Rattle.tokens.specs.declared.name.NameType.{NameType}
use Rattle.tokens.proofs.LentLaws.{records_then_zeros}
use Rattle.tokens.proofs.DoorLaws.{file_not_31}
use Rattle.tokens.proofs.PlaceLaws.{kept_part}
use Rattle.grammar.specs.Result.{Res, got, bad, refused, answer}
use Rattle.grammar.specs.Rules.{is_mode, rules_of}
use Rattle.grammar.specs.FileReading.{Definition}
use Rattle.grammar.specs.FileReader.{file_at}
use Rattle.grammar.specs.FileRecords.{definition_records, file_statements, file_arguments, file_argument_records, file_statement_count}
use Rattle.grammar.specs.Call.{ReadingNumber, filled, held_after}
use Rattle.grammar.proofs.Numbers.{held_refused}
use Rattle.grammar.proofs.FileRecorded.{file_as_many, file_as_wide}
use Rattle.files.specs.declared.file.FileRead.{FileRead}
use Rattle.files.specs.declared.entry.FileError.{FileError}
use Rattle.files.specs.declared.entry.FileError.TheVariants as answers
use Rattle.files.specs.Answers.{FileParsed}
use Rattle.files.specs.Call.{at_door, after_reading, FileCall}
use Rattle.files.specs.Taken.{FileTaken}
use Rattle.statements.proofs.EntryLaws.{all_wide, filled_none}

-- ---- tables

-- the table t was zeroed to z
abbrev pub Zeroed : List ℕ → List ℕ → Type 0
Zeroed t z = z ≡ replicate (length t) 0

-- a table that kept its length, zeroed
none_left : (t u v : List ℕ) → length u ≡ length t → Zeroed u v → v ≡ filled (length t) []
none_left t u v same f = f ∙ ap (λ (n : ℕ). replicate n 0) same ∙ sym (filled_none (length t))

-- what is answered of these definitions, where Eof stands at k
abbrev counts : List Definition → ℕ → FileRead
counts ds k = record { cursor = k; definitions = length ds; statements = file_statement_count ds; arguments = length (file_arguments ds) }

-- ---- each way out of `read_kept`: after a refusal the tables are zeroed, else what stands behind the records

module _ {all : List Token} {pos : Positions} {de st ar de₁ st₁ ar₁ de₂ st₂ ar₂ : List ℕ} (de-same : length de₁ ≡ length de) (st-same : length st₁ ≡ length st) (ar-same : length ar₁ ≡ length ar) where
  module _ (zeroed : Zeroed de₁ de₂ × Zeroed st₁ st₂ × Zeroed ar₁ ar₂) where
    -- 1 to 21
    pub taken_refused : {read : Res (List Definition)} {f : ℕ × ℕ} {t : Option NameType} {r : Result FileRead (ℕ × ℕ)} → FileParsed pos read de st ar r de₁ st₁ ar₁ → r ≡ Err f
        → type_numbers t ≡ type_told f.0 (token_at all f.1)
        → (answer read ≡ refused f.0 f.1 → ReadingNumber f.0)
        → FileTaken all pos (answer read) de st ar (Err (answers.Refused f t)) de₂ st₂ ar₂
    unfolding after_reading
    taken_refused {read = got ds k} {f = f} h g told small = absurd (let z : ◌≡◌ {A = ℕ} 0 1 = cc h.is in omega arith)
    taken_refused {read = bad y w} {f = f} h g told small =
        let ours = small (cc h.is) in
        record {
          answer = cc (h.is, told);
          own = ours;
          definitions_hold = none_left de de₁ de₂ de-same zeroed.0 ∙ sym (held_refused f.0 _ de ours);
          statements_hold = none_left st st₁ st₂ st-same zeroed.1 ∙ sym (held_refused f.0 _ st ours);
          arguments_hold = none_left ar ar₁ ar₂ ar-same zeroed.2 ∙ sym (held_refused f.0 _ ar ours);
        }

    -- 32
    pub taken_32 : {read : Res (List Definition)} {f : FileRead} {r : Result FileRead (ℕ × ℕ)} → FileParsed pos read de st ar r de₁ st₁ ar₁ → r ≡ Ok f
        → length de₁ / definition_width < f.definitions
        → FileTaken all pos (answer read) de st ar (Err (answers.DefinitionsTooSmall f.definitions)) de₂ st₂ ar₂
    unfolding after_reading held_after
    taken_32 {read = got ds k} {f = f} h g small =
        let found : counts ds k ≡ f = cc h.is in
        rw (← found)
        record {
          answer = rw (lt-ltb (length de / definition_width) (length ds) (rw (← found, de-same) at small));
          own = tt;
          definitions_hold = none_left de de₁ de₂ de-same zeroed.0;
          statements_hold = none_left st st₁ st₂ st-same zeroed.1;
          arguments_hold = none_left ar ar₁ ar₂ ar-same zeroed.2;
        }
    taken_32 {read = bad y w} {f = f} h g small = absurd (let z : ◌≡◌ {A = ℕ} 0 1 = cc h.is in omega arith)

    -- 33
    pub taken_33 : {read : Res (List Definition)} {f : FileRead} {r : Result FileRead (ℕ × ℕ)} → FileParsed pos read de st ar r de₁ st₁ ar₁ → r ≡ Ok f
        → f.definitions ≤ length de₁ / definition_width → length st₁ / statement_width < f.statements
        → FileTaken all pos (answer read) de st ar (Err (answers.StatementsTooSmall f.statements)) de₂ st₂ ar₂
    unfolding after_reading held_after
    taken_33 {read = got ds k} {f = f} h g room small =
        let found : counts ds k ≡ f = cc h.is in
        rw (← found)
        record {
          answer =
              rw (
                le-ltb (length de / definition_width) (length ds) (rw (← found, de-same) at room),
                lt-ltb (length st / statement_width) (file_statement_count ds) (rw (← found, st-same) at small),
              );
          own = tt;
          definitions_hold = none_left de de₁ de₂ de-same zeroed.0;
          statements_hold = none_left st st₁ st₂ st-same zeroed.1;
          arguments_hold = none_left ar ar₁ ar₂ ar-same zeroed.2;
        }
    taken_33 {read = bad y w} {f = f} h g room small = absurd (let z : ◌≡◌ {A = ℕ} 0 1 = cc h.is in omega arith)

    -- 34
    pub taken_34 : {read : Res (List Definition)} {f : FileRead} {r : Result FileRead (ℕ × ℕ)} → FileParsed pos read de st ar r de₁ st₁ ar₁ → r ≡ Ok f
        → f.definitions ≤ length de₁ / definition_width → f.statements ≤ length st₁ / statement_width → length ar₁ / argument_width < f.arguments
        → FileTaken all pos (answer read) de st ar (Err (answers.ArgumentsTooSmall f.arguments)) de₂ st₂ ar₂
    unfolding after_reading held_after
    taken_34 {read = got ds k} {f = f} h g room room' small =
        let found : counts ds k ≡ f = cc h.is in
        rw (← found)
        record {
          answer =
              rw (
                le-ltb (length de / definition_width) (length ds) (rw (← found, de-same) at room),
                le-ltb (length st / statement_width) (file_statement_count ds) (rw (← found, st-same) at room'),
                lt-ltb (length ar / argument_width) (length (file_arguments ds)) (rw (← found, ar-same) at small),
              );
          own = tt;
          definitions_hold = none_left de de₁ de₂ de-same zeroed.0;
          statements_hold = none_left st st₁ st₂ st-same zeroed.1;
          arguments_hold = none_left ar ar₁ ar₂ ar-same zeroed.2;
        }
    taken_34 {read = bad y w} {f = f} h g room room' small = absurd (let z : ◌≡◌ {A = ℕ} 0 1 = cc h.is in omega arith)

  -- accepted
  pub taken_read : {read : Res (List Definition)} {f : FileRead} {r : Result FileRead (ℕ × ℕ)} → FileParsed pos read de st ar r de₁ st₁ ar₁ → r ≡ Ok f
      → f.definitions ≤ length de₁ / definition_width → f.statements ≤ length st₁ / statement_width → f.arguments ≤ length ar₁ / argument_width
      → (de₂ ≡ cleared_behind definition_width f.definitions de₁) × (st₂ ≡ cleared_behind statement_width f.statements st₁) × (ar₂ ≡ cleared_behind argument_width f.arguments ar₁)
      → FileTaken all pos (answer read) de st ar (Ok f) de₂ st₂ ar₂
  unfolding after_reading held_after
  taken_read {read = got ds k} {f = f} h g room room' room'' cleared =
      let found : counts ds k ≡ f = cc h.is in
      let de-room : length ds ≤ length de / definition_width = rw (← found, de-same) at room in
      let st-room : file_statement_count ds ≤ length st / statement_width = rw (← found, st-same) at room' in
      let ar-room : length (file_arguments ds) ≤ length ar / argument_width = rw (← found, ar-same) at room'' in
      let behind = rw (← found) at cleared in
      let many = file_as_many pos 0 0 ds in
      let wide = file_as_wide pos 0 0 ds in
      rw (← found)
      record {
        answer =
            rw (
              le-ltb (length de / definition_width) (length ds) de-room,
              le-ltb (length st / statement_width) (file_statement_count ds) st-room,
              le-ltb (length ar / argument_width) (length (file_arguments ds)) ar-room,
            );
        own = tt;
        definitions_hold =
            behind.0
            ∙ records_then_zeros definition_width (definition_records pos 0 0 ds) de (omega arith) (all_wide definition_width (definition_records pos 0 0 ds) wide.0) many.0 de-room h.definitions_hold;
        statements_hold =
            behind.1
            ∙ records_then_zeros statement_width (file_statements 0 0 ds) st (omega arith) (all_wide statement_width (file_statements 0 0 ds) wide.1) many.1 st-room h.statements_hold;
        arguments_hold =
            behind.2
            ∙ records_then_zeros argument_width (file_argument_records ds) ar (omega arith) (all_wide argument_width (file_argument_records ds) wide.2) many.2 ar-room h.arguments_hold;
      }
  taken_read {read = bad y w} {f = f} h g room room' room'' cleared = absurd (let z : ◌≡◌ {A = ℕ} 0 1 = cc h.is in omega arith)

-- ---- each way out of `read_file`

-- 36: nothing lent has changed
pub call_unknown : {mode : ℕ} {text words kept de st ar : List ℕ} → is_mode mode ≡ false → FileCall mode text words kept de st ar (Err answers.UnknownMode) kept de st ar
unfolding held_after
call_unknown e = record { answer = rw e; own = tt; list = rw e; definitions_hold = refl; statements_hold = refl; arguments_hold = refl }

-- let through: the reading of the kept numbers, which are the first words of the kept list
pub call_read : {mode : ℕ} {text words kept de st ar kept' de' st' ar' : List ℕ} {n : ℕ} {r : Result FileRead FileError}
    → is_mode mode ≡ true
    → Prepared text words 0 kept (Ok n) kept'
    → FileTaken (view text words (take (n - 0) kept')) (positions words (take (n - 0) kept')) (file_at (rules_of mode) true (view text words (take (n - 0) kept'))) de st ar r de' st' ar'
    → FileCall mode text words kept de st ar r kept' de' st' ar'
call_read {text = text} {words} {kept} known p taken =
    let v = rw (kept_part text words 0 kept p refl).0 at taken in
    record {
      answer = v.answer ∙ rw (known, sym p.answer);
      own = v.own;
      list = p.list ∙ rw known;
      definitions_hold = v.definitions_hold;
      statements_hold = v.statements_hold;
      arguments_hold = v.arguments_hold;
    }

-- 30 and 35: nothing lent has changed
pub call_refused : {mode : ℕ} {text words kept de st ar kept' : List ℕ} (d : Unready)
    → is_mode mode ≡ true
    → Prepared text words 0 kept (Err d) kept'
    → FileCall mode text words kept de st ar (Err (at_door d)) kept' de st ar
unfolding held_after
call_refused (unready.NotWellFormed at) known p =
    record { answer = rw (known, sym p.answer); own = tt; list = p.list ∙ rw known; definitions_hold = refl; statements_hold = refl; arguments_hold = refl }
call_refused (unready.KeptTooShort count) known p =
    record { answer = rw (known, sym p.answer); own = tt; list = p.list ∙ rw known; definitions_hold = refl; statements_hold = refl; arguments_hold = refl }
-- never given
call_refused {text = text} {words} {kept} (unready.StartOutside start) known p = absurd (file_not_31 text words (length kept) p.answer)
