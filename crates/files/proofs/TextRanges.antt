-- Request [7], about `read_file`'s own promise: where the definitions of an accepted file stand in the text. Assumes nothing.
use Prim.Native.Nat.{ℕ, ◌/◌, ◌≤◌, ◌<◌}
use native.Mathlib.Omega.{arith}
use mathlib.Core.Path.{◌≡◌, refl, ap, ◌∙◌}
use mathlib.Core.Bool.{true}
use mathlib.Core.List.{List, [], ◌∷◌, map, flatten}
use lib.ListN.{length, replicate}
use Rattle.tokens.specs.Number as number
use Rattle.tokens.specs.Number.{definition_width, statement_width, argument_width, lenient_mode, strict_mode}
use Rattle.tokens.specs.Token.{Token, token_of}
use Rattle.tokens.specs.Kept.{kept_of, kept_tokens, kept_positions}
use Rattle.tokens.specs.WellFormed.{WellFormed}
use Rattle.tokens.specs.Door.{door}
use Rattle.tokens.proofs.TokenLaws.{view_inside, view_length}
use Rattle.tokens.proofs.DoorLaws.{Means, means_30, means_35, means_31, means_through, door_means}
use Rattle.tokens.proofs.PlaceLaws.{kept_range, kept_next}
use Rattle.grammar.specs.Rules.{is_mode}
use Rattle.grammar.specs.Facts.{All}
use Rattle.grammar.specs.Call.{acceptance, refusal}
use Rattle.grammar.specs.TextRanges.{InOrder, LaidOut}
use Rattle.grammar.specs.FileCases.{FileOutcome, TextRow, text_of, words_from, one_constant, text_rows}
use Rattle.grammar.proofs.Lists.{all_map, all_mapped}
use Rattle.grammar.proofs.TextRanges.{InText, text_ranges}
use Rattle.grammar.proofs.FileCases.{read_in, text_read, text_outcomes, text_rows_hold}
use Rattle.statements.proofs.Called.{number_is}
use Rattle.std.specs.Prelude.{Result}
use Rattle.files.specs.declared.file.FileRead.{FileRead}
use Rattle.files.specs.declared.entry.FileError.{FileError}
use Rattle.files.specs.Call.{values, FileCall}
use Rattle.files.proofs.Called.{accepted, file_call_tables, Told, with_room, too_few, too_few_definitions}

-- how the kept tokens of a well-formed list stand in the text
in_text : (text words : List ℕ) → WellFormed text words → InText text (kept_tokens text words) (kept_positions words)
unfolding token_of
in_text text words formed =
    let many = view_length text words (kept_of words) in
    record {
      forwards = λ p h. (kept_range text words formed p (rw many at h)).0;
      onwards = λ p h. kept_next text words formed p (rw many at h);
      within = λ p h. (kept_range text words formed p (rw many at h)).1;
      there = λ p h. ap (λ (t : Token). t.text) (view_inside text words (kept_of words) p (rw many at h));
    }

module _ {mode : ℕ} {text words kept definitions statements arguments : List ℕ} {r : Result FileRead FileError} {kept' definitions' statements' arguments' : List ℕ}
    (call : FileCall mode text words kept definitions statements arguments r kept' definitions' statements' arguments') where
  -- of an accepted file the byte ranges of the k definitions lie one behind the other inside the text, and the bytes of each are its tokens' texts and what stands
  -- between them
  pub file_call_text_ranges : (q k n m : ℕ) → values r ≡ acceptance q k n m
      → InOrder definitions' 0 k 0 (length text) × ((d : ℕ) → d < k → LaidOut text (kept_tokens text words) (kept_positions words) definitions' d)
  file_call_text_ranges q k n m is =
      let all = file_call_tables call q k n m is in
      text_ranges text (kept_tokens text words) (kept_positions words) (in_text text words (accepted call (number_is is)).through.list.formed) definitions' statements' arguments' k n m q all.0 all.1

-- ---- the rows

-- a list that the door lets through is well formed
formed_by : (text words : List ℕ) (room : ℕ) → (door text words 0 room).0 ≡ 0 → WellFormed text words
formed_by text words room = go (door text words 0 room) (door_means text words 0 room)
  where
    go : (said : ℕ × ℕ) → Means text words 0 room said → said.0 ≡ 0 → WellFormed text words
    go said (means_30 f) e = absurd (omega (arith, e))
    go said (means_35 f h) e = f
    go said (means_31 f h k) e = f
    go said (means_through l) e = l.formed

-- every call in a mode on a row's text and words, with a kept list long enough
abbrev pub OnRow : ℕ → TextRow → (List ℕ → List ℕ → List ℕ → Result FileRead FileError → List ℕ → List ℕ → List ℕ → Type 0) → Type 0
OnRow mode row Then =
    (kept definitions statements arguments : List ℕ) (r : Result FileRead FileError) (kept' definitions' statements' arguments' : List ℕ)
    → length (kept_of (words_from 0 row.cut)) ≤ length kept
    → FileCall mode (text_of row.cut) (words_from 0 row.cut) kept definitions statements arguments r kept' definitions' statements' arguments'
    → Then definitions statements arguments r definitions' statements' arguments'

-- with room it leaves the row's numbers and tables; with too few words for the definitions it answers 32, the cursor is the records needed, and the tables are zero
abbrev pub TextAnswered : ℕ → TextRow → Type 0
TextAnswered mode row =
    OnRow mode row (λ definitions statements arguments r definitions' statements' arguments'.
    (length row.outcome.definitions ≤ length definitions / definition_width
    → length row.outcome.statements ≤ length statements / statement_width
    → length row.outcome.arguments ≤ length arguments / argument_width
    → Told definitions statements arguments r definitions' statements' arguments' row.outcome)
    × (length definitions / definition_width < length row.outcome.definitions
    → Told definitions statements arguments r definitions' statements' arguments' (too_few (length row.outcome.definitions))))

module _ (mode : ℕ) (known : is_mode mode ≡ true) where
  row_answered : (row : TextRow) → text_read mode row ≡ (0, row.outcome) → TextAnswered mode row
  unfolding read_in
  row_answered row e kept definitions statements arguments r kept' definitions' statements' arguments' enough call =
      let words = words_from 0 row.cut in
      let formed = formed_by (text_of row.cut) words (length (kept_of words)) (ap (λ (x : ℕ × FileOutcome). x.0) e) in
      let reads = ap (λ (x : ℕ × FileOutcome). x.1) e in (
        (λ room room' room''. with_room known formed enough row.outcome reads room room' room'' call),
        (λ few. too_few_definitions known formed enough row.outcome reads few call),
      )

  rows_answered : (list : List TextRow) → text_outcomes mode list ≡ map (λ row. (0, row.outcome)) list → All (TextAnswered mode) list
  unfolding text_outcomes
  rows_answered list hold = all_map (λ row. text_read mode row ≡ (0, row.outcome)) (TextAnswered mode) list row_answered (all_mapped (text_read mode) (λ row. (0, row.outcome)) list hold)

-- the rows of request [7], in either mode
pub file_call_text_rows : All (TextAnswered lenient_mode) text_rows × All (TextAnswered strict_mode) text_rows
unfolding is_mode
file_call_text_rows = (rows_answered lenient_mode refl text_rows text_rows_hold.0, rows_answered strict_mode refl text_rows text_rows_hold.1)

-- a table of 13 words for one definition is 32, cursor 1, and one of 14 is enough
abbrev pub Thirteen : ℕ → Type 0
Thirteen mode =
    OnRow mode one_constant (λ definitions statements arguments r definitions' statements' arguments'.
    (length definitions ≡ 13 → (values r ≡ refusal number.DefinitionsTooSmall 1) × (definitions' ≡ replicate 13 0))
    × (length definitions ≡ 14 → definitions' ≡ 4 ∷ 2 ∷ 0 ∷ 5 ∷ 0 ∷ 0 ∷ 0 ∷ 0 ∷ 0 ∷ 0 ∷ 1 ∷ 4 ∷ 0 ∷ 25 ∷ []))

thirteen : (mode : ℕ) → TextAnswered mode one_constant → Thirteen mode
unfolding flatten
thirteen mode row kept definitions statements arguments r kept' definitions' statements' arguments' enough call =
    let both = row kept definitions statements arguments r kept' definitions' statements' arguments' enough call in (
      (λ n. let told = both.1 (rw n (omega arith)) in (told.answer, told.definitions_hold ∙ rw n)),
      (λ n. (both.0 (rw n (omega arith)) (omega arith) (omega arith)).definitions_hold ∙ rw n),
    )

pub file_call_13_words : Thirteen lenient_mode × Thirteen strict_mode
file_call_13_words = (thirteen lenient_mode file_call_text_rows.0.0, thirteen strict_mode file_call_text_rows.1.0)
