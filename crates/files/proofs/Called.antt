-- Theorems about `read_file`'s own promise: what an accepted call and a refused one say of the tokens and leave in the tables. Assumes nothing.
use Prim.Native.Nat.{ℕ, suc, ◌+◌, ◌-◌, ◌/◌, ◌≤◌, ◌<◌}
use native.Mathlib.Omega.{arith}
use mathlib.Core.Path.{◌≡◌, refl, sym, ap, subst, ◌∙◌}
use mathlib.Core.Logic.{◌↔◌}
use mathlib.Core.Bool.{Bool, true, false, cond}
use mathlib.Core.List.{List, [], map}
use borrow.Author.Tests.{ltb-true, ltb-false, lt-ltb, le-ltb}
use lib.ListN.{length, get_or, length-map}
use lib.Dec.{ltb, eqb}
use Rattle.tokens.specs.Number as number
use Rattle.tokens.specs.Number.{definition_width, statement_width, argument_width, label_type, macro_definition, test_definition, lenient_mode, strict_mode}
use Rattle.tokens.specs.Kind.{Eof, Pound}
use Rattle.tokens.specs.Token.{Token, token_at, Positions}
use Rattle.tokens.specs.Name.{type_told}
use Rattle.tokens.specs.Kept.{kept_of, kept_tokens, kept_positions}
use Rattle.tokens.specs.WellFormed.{WellFormed}
use Rattle.tokens.specs.Door.{door}
use Rattle.tokens.proofs.DoorLaws.{kept_not_empty, Means, means_30, means_35, means_31, means_through, door_means, let_through}
use Rattle.grammar.specs.Rules.{is_mode, rules_of}
use Rattle.grammar.specs.Result.{Answer, read, refused}
use Rattle.grammar.specs.Facts.{All}
use Rattle.grammar.specs.FileReading.{Definition}
use Rattle.grammar.specs.FileRecords.{definition_records, file_statements, file_arguments, file_argument_records, file_statement_count}
use Rattle.grammar.specs.FileFollows.{FollowsFile, RepeatedAt, Reached, FirstWrongFile, CursorAt}
use Rattle.grammar.specs.Call.{ReadingNumber, acceptance, refusal_of, refusal, refusal_at, file_numbers, after_door, TellsType, records_of, filled, held_after}
use Rattle.grammar.specs.Tables.{Stands, type_word, first_word, end_word, inner_word, Flat}
use Rattle.grammar.specs.FileTables.{FileTable, definition_word, StatementsOf}
use Rattle.grammar.specs.TextRanges.{placed}
use Rattle.grammar.specs.Cases.{tokens_of}
use Rattle.grammar.specs.FileCases.{FileOutcome, FileRow, file_outcome, ended, outcome_at, file_rows, strict_files}
use Rattle.grammar.proofs.Lists.{all_map, all_mapped}
use Rattle.grammar.proofs.Numbers.{file_ours, held_refused, tells_accepted, tells_none, tells_at}
use Rattle.grammar.proofs.FileDemand.{file_exactly, file_cursor, file_repeated, file_pound}
use Rattle.grammar.proofs.FileRecorded.{file_as_many, file_as_wide}
use Rattle.grammar.proofs.Tabled.{stored_filled, walk_labels_all}
use Rattle.grammar.proofs.FileTabled.{file_tabled, file_walked}
use Rattle.grammar.proofs.FileCases.{row_read, file_outcomes, file_rows_hold, strict_files_hold}
use Rattle.statements.proofs.Called.{Through, number_is}
use Rattle.std.specs.Prelude.{Result}
use Rattle.files.specs.declared.file.FileRead.{FileRead}
use Rattle.files.specs.declared.entry.FileError.{FileError}
use Rattle.files.specs.Call.{values, number_of, after_reading, file_reading, file_answered, FileCall}

-- the n kept tokens before an Eof follow the grammar by the mode's rules, no two macros, fns or tests share a name, and they read ds
abbrev pub IsFile : ℕ → List ℕ → List ℕ → ℕ → List Definition → Type 0
IsFile mode text words n ds = FollowsFile (rules_of mode) true (kept_tokens text words) n ds

-- the tables' whole records are enough for a reading's
pub record Room (definitions statements arguments : List ℕ) (ds : List Definition) : Type 0 where
  pub for_definitions : length ds ≤ length definitions / definition_width
  pub for_statements : file_statement_count ds ≤ length statements / statement_width
  pub for_arguments : length (file_arguments ds) ≤ length arguments / argument_width

-- ---- from the numbers back to the list

-- what the numbers of a call say of the list and the tables. 32, 33 and 34 are given only to a file that is accepted otherwise, where the whole records of that
-- table are fewer than needed
pub data Says (mode : ℕ) (text words kept definitions statements arguments : List ℕ) : List ℕ → Type 0 where
  says_36 : is_mode mode ≡ false → Says mode text words kept definitions statements arguments (refusal number.UnknownMode 0)
  says_30 : {at : ℕ} → is_mode mode ≡ true → ¬ WellFormed text words → Says mode text words kept definitions statements arguments (refusal number.NotWellFormed at)
  says_35 : is_mode mode ≡ true → WellFormed text words → length kept < length (kept_of words) → Says mode text words kept definitions statements arguments (refusal number.KeptTooShort (length (kept_of words)))
  says_refused : {c q : ℕ} → Through (is_mode mode ≡ true) text words 0 kept → ReadingNumber c → file_reading mode text words ≡ refused c q → Says mode text words kept definitions statements arguments (refusal_at (kept_tokens text words) c q)
  says_32 : (n : ℕ) (ds : List Definition)
      → Through (is_mode mode ≡ true) text words 0 kept
      → IsFile mode text words n ds
      → length definitions / definition_width < length ds
      → Says mode text words kept definitions statements arguments (refusal number.DefinitionsTooSmall (length ds))
  says_33 : (n : ℕ) (ds : List Definition)
      → Through (is_mode mode ≡ true) text words 0 kept
      → IsFile mode text words n ds
      → length ds ≤ length definitions / definition_width
      → length statements / statement_width < file_statement_count ds
      → Says mode text words kept definitions statements arguments (refusal number.StatementsTooSmall (file_statement_count ds))
  says_34 : (n : ℕ) (ds : List Definition)
      → Through (is_mode mode ≡ true) text words 0 kept
      → IsFile mode text words n ds
      → length ds ≤ length definitions / definition_width
      → file_statement_count ds ≤ length statements / statement_width
      → length arguments / argument_width < length (file_arguments ds)
      → Says mode text words kept definitions statements arguments (refusal number.ArgumentsTooSmall (length (file_arguments ds)))
  says_read : (n : ℕ) (ds : List Definition)
      → Through (is_mode mode ≡ true) text words 0 kept
      → IsFile mode text words n ds
      → Room definitions statements arguments ds
      → Says mode text words kept definitions statements arguments (file_numbers (kept_tokens text words) (read ds n))

module _ (mode : ℕ) (text words kept definitions statements arguments : List ℕ) where
  -- behind the door
  reading_says : Through (is_mode mode ≡ true) text words 0 kept → (x : Answer (List Definition)) → file_reading mode text words ≡ x
      → Says mode text words kept definitions statements arguments (after_reading (kept_tokens text words) x (length definitions) (length statements) (length arguments))
  unfolding after_reading
  reading_says l (refused c q) e = says_refused l (file_ours (rules_of mode) true (kept_tokens text words) c q e) e
  reading_says l (read ds n) e =
      go (ltb (length definitions / definition_width) (length ds)) refl (ltb (length statements / statement_width) (file_statement_count ds)) refl (ltb (length arguments / argument_width) (length (file_arguments ds))) refl
    where
      follows : IsFile mode text words n ds
      follows = (file_exactly (rules_of mode) true (kept_tokens text words) n ds).0 e

      go : (b : Bool) → ltb (length definitions / definition_width) (length ds) ≡ b
          → (d : Bool) → ltb (length statements / statement_width) (file_statement_count ds) ≡ d
          → (g : Bool) → ltb (length arguments / argument_width) (length (file_arguments ds)) ≡ g
          → Says mode text words kept definitions statements arguments
          (cond b (refusal number.DefinitionsTooSmall (length ds))
          (cond d (refusal number.StatementsTooSmall (file_statement_count ds))
          (cond g (refusal number.ArgumentsTooSmall (length (file_arguments ds))) (file_numbers (kept_tokens text words) (read ds n)))))
      go true eb d ed g eg = says_32 n ds l follows (ltb-true _ _ eb)
      go false eb true ed g eg = says_33 n ds l follows (ltb-false _ _ eb) (ltb-true _ _ ed)
      go false eb false ed true eg = says_34 n ds l follows (ltb-false _ _ eb) (ltb-false _ _ ed) (ltb-true _ _ eg)
      go false eb false ed false eg = says_read n ds l follows (record { for_definitions = ltb-false _ _ eb; for_statements = ltb-false _ _ ed; for_arguments = ltb-false _ _ eg })

  -- and at it, where a file is read from start 0, so that 31 is never given
  door_says : is_mode mode ≡ true → (said : ℕ × ℕ) → Means text words 0 (length kept) said
      → Says mode text words kept definitions statements arguments (after_door said (after_reading (kept_tokens text words) (file_reading mode text words) (length definitions) (length statements) (length arguments)))
  door_says known said (means_30 f) = says_30 known f
  door_says known said (means_35 f h) = says_35 known f h
  door_says known said (means_31 f h k) = absurd (omega (arith, k, kept_not_empty text words f))
  door_says known said (means_through l) = reading_says (record { known = known; list = rw l.count l }) (file_reading mode text words) refl

  -- and before it
  entrance_says : (b : Bool) → is_mode mode ≡ b
      → Says mode text words kept definitions statements arguments (file_answered mode text words (length kept) (length definitions) (length statements) (length arguments))
  entrance_says false e = rw e (says_36 e)
  entrance_says true e = rw e (door_says e (door text words 0 (length kept)) (door_means text words 0 (length kept)))

module _ {mode : ℕ} {text words kept definitions statements arguments : List ℕ} {r : Result FileRead FileError} {kept' definitions' statements' arguments' : List ℕ}
    (call : FileCall mode text words kept definitions statements arguments r kept' definitions' statements' arguments') where
  abbrev tokens : List Token
  tokens = kept_tokens text words

  abbrev pos : Positions
  pos = kept_positions words

  -- every call's numbers say so
  pub file_call_says : Says mode text words kept definitions statements arguments (values r)
  file_call_says = rw call.answer (entrance_says mode text words kept definitions statements arguments (is_mode mode) refl)

  -- the answer and the tables are those of the reading ds, and Eof stands at n
  pub record Holding (n : ℕ) (ds : List Definition) : Type 0 where
    pub answer : values r ≡ file_numbers tokens (read ds n)
    pub definitions_hold : definitions' ≡ filled (length definitions) (definition_records pos 0 0 ds)
    pub statements_hold : statements' ≡ filled (length statements) (file_statements 0 0 ds)
    pub arguments_hold : arguments' ≡ filled (length arguments) (file_argument_records ds)

  holding : (n : ℕ) (ds : List Definition) → file_reading mode text words ≡ read ds n → values r ≡ file_numbers tokens (read ds n) → Holding n ds
  unfolding held_after
  holding n ds e is =
      record { answer = is; definitions_hold = call.definitions_hold ∙ rw (e, is); statements_hold = call.statements_hold ∙ rw (e, is); arguments_hold = call.arguments_hold ∙ rw (e, is) }

  -- an accepted call was let through at the door and has read a file that follows the grammar, and the tables had room for its records
  pub record Accepted : Type 0 where
    pub through : Through (is_mode mode ≡ true) text words 0 kept
    pub n : ℕ
    pub ds : List Definition
    pub follows : IsFile mode text words n ds
    pub room : Room definitions statements arguments ds
    pub holds : Holding n ds

  pub accepted : number_of r ≡ 0 → Accepted
  accepted z = go (values r) refl file_call_says
    where
      go : (v : List ℕ) → values r ≡ v → Says mode text words kept definitions statements arguments v → Accepted
      go v is (says_36 k) = absurd (omega (arith, number_is is))
      go v is (says_30 k f) = absurd (omega (arith, number_is is))
      go v is (says_35 k f h) = absurd (omega (arith, number_is is))
      go v is (says_refused l ours e) = absurd (omega (arith, number_is is, ours.0))
      go v is (says_32 n ds l f h) = absurd (omega (arith, number_is is))
      go v is (says_33 n ds l f h k) = absurd (omega (arith, number_is is))
      go v is (says_34 n ds l f h k g) = absurd (omega (arith, number_is is))
      go v is (says_read n ds l f room) = record { through = l; n = n; ds = ds; follows = f; room = room; holds = holding n ds ((file_exactly (rules_of mode) true tokens n ds).1 f) is }

  -- refused by the reading: the door let the call through, and the reader gives this number and cursor; type and size are, for 7, those of the token there
  pub record RefusedThere (c q : ℕ) (told : ℕ × ℕ) : Type 0 where
    pub through : Through (is_mode mode ≡ true) text words 0 kept
    pub reads : file_reading mode text words ≡ refused c q
    pub tells : told ≡ type_told c (token_at tokens q)

  pub refused_there : (c q : ℕ) (told : ℕ × ℕ) → values r ≡ refusal_of c q told → ReadingNumber c → RefusedThere c q told
  refused_there c q told is ours = go (values r) refl file_call_says
    where
      go : (v : List ℕ) → values r ≡ v → Says mode text words kept definitions statements arguments v → RefusedThere c q told
      go v e (says_36 k) = absurd (omega (arith, number_is (sym is ∙ e), ours.1))
      go v e (says_30 k f) = absurd (omega (arith, number_is (sym is ∙ e), ours.1))
      go v e (says_35 k f h) = absurd (omega (arith, number_is (sym is ∙ e), ours.1))
      go v e (says_refused {c = d} {q = p} l o g) =
          let k : c ≡ d = number_is (sym is ∙ e) in
          let m : q ≡ p = ap (λ (w : List ℕ). get_or w 1 0) (sym is ∙ e) in
          let t : told ≡ type_told d (token_at tokens p) = ap (λ (w : List ℕ). (get_or w 5 0, get_or w 6 0)) (sym is ∙ e) in
          record { through = l; reads = rw (k, m) g; tells = rw (k, m) t }
      go v e (says_32 n ds l f h) = absurd (omega (arith, number_is (sym is ∙ e), ours.1))
      go v e (says_33 n ds l f h k) = absurd (omega (arith, number_is (sym is ∙ e), ours.1))
      go v e (says_34 n ds l f h k g) = absurd (omega (arith, number_is (sym is ∙ e), ours.1))
      go v e (says_read n ds l f room) = absurd (omega (arith, number_is (sym is ∙ e), ours.0))

  -- ---- the tables

  tables_of : (n : ℕ) (ds : List Definition) → IsFile mode text words n ds → Holding n ds
      → FileTable tokens pos definitions' statements' arguments' 0 (length ds) 0 (file_statement_count ds) 0 (length (file_arguments ds)) 0 n
  tables_of n ds follows holds =
      let wide = file_as_wide pos 0 0 ds in
      file_tabled (rules_of mode) true tokens pos n ds follows definitions' statements' arguments'
      (rw holds.definitions_hold (stored_filled definition_width (length definitions) (definition_records pos 0 0 ds) wide.0))
      (rw holds.statements_hold (stored_filled statement_width (length statements) (file_statements 0 0 ds) wide.1))
      (rw holds.arguments_hold (stored_filled argument_width (length arguments) (file_argument_records ds) wide.2))

  -- each word of each record of an accepted call: the definitions cover the tokens from place 0 to the cursor, and there stands the list's Eof. (That zeros stand
  -- behind the records, the promise says itself.)
  pub file_call_tables : (q k n m : ℕ) → values r ≡ acceptance q k n m
      → FileTable tokens pos definitions' statements' arguments' 0 k 0 n 0 m 0 q × (q < length tokens) × Stands tokens q Eof
  file_call_tables q k n m is =
      let a = accepted (number_is is) in
      let told = sym a.holds.answer ∙ is in
      let all : FileTable tokens pos definitions' statements' arguments' 0 (length a.ds) 0 (file_statement_count a.ds) 0 (length (file_arguments a.ds)) 0 a.n × (a.n < length tokens) × Stands tokens a.n Eof =
      (tables_of a.n a.ds a.follows a.holds, a.follows.0, a.follows.1) in
      rw (ap (λ (w : List ℕ). get_or w 1 0) told) at (rw (ap (λ (w : List ℕ). get_or w 2 0) told) at (rw (ap (λ (w : List ℕ). get_or w 3 0) told) at (rw (ap (λ (w : List ℕ). get_or w 4 0) told) at all)))

  -- and the statements of each definition record, by the words alone but for the braces
  pub file_call_ranges : (q k n m : ℕ) → values r ≡ acceptance q k n m → (d : ℕ) → d < k → StatementsOf tokens definitions' statements' d
  file_call_ranges q k n m is = file_walked tokens pos definitions' statements' arguments' k n m q (file_call_tables q k n m is).0

  -- for each label among the statements of a macro, fn or test, its inner records: no labels, from behind its colon to its end
  pub file_call_labels : (q k n m : ℕ) → values r ≡ acceptance q k n m
      → (d : ℕ) → d < k → macro_definition ≤ definition_word 0 definitions' d → definition_word 0 definitions' d ≤ test_definition
      → (x : ℕ) → definition_word 8 definitions' d ≤ x → x < definition_word 8 definitions' d + definition_word 9 definitions' d → type_word statements' x ≡ label_type
      → Flat statements' (suc x) (inner_word statements' x) (suc (suc (first_word statements' x))) (end_word statements' x)
  file_call_labels q k n m is d below least most =
      let body = (file_call_ranges q k n m is d below).of_macro least most in
      walk_labels_all statements' (definition_word 8 definitions' d) (suc body.b) (definition_word 8 definitions' d + definition_word 9 definitions' d) (definition_word 3 definitions' d - 1) body.between

  -- a number of the reading but 7 is given exactly where the reader gives it, behind the door
  said : (c q : ℕ) → ReadingNumber c → eqb c number.InvalidTypeAsArgumentName ≡ false → (What : Type 0) → (file_reading mode text words ≡ refused c q) ↔ What
      → (values r ≡ refusal c q) ↔ ((is_mode mode ≡ true) × WellFormed text words × (length (kept_of words) ≤ length kept) × What)
  unfolding after_reading type_told
  said c q ours other What means = (
    (λ is. let there = refused_there c q (number.type_none, 0) is ours in (there.through.known, there.through.list.formed, there.through.list.room_enough, means.0 there.reads)),
    (λ w. call.answer ∙ rw (w.0, let_through text words 0 (length kept) w.1 w.2 (kept_not_empty text words w.1)) (rw (means.1 w.3, other))),
  )

  -- ---- the cursor

  -- refused with a number of the reading but 20: there is a first token that the rules don't allow, and the cursor is it or one past it
  pub file_call_cursor : (c q : ℕ) (told : ℕ × ℕ) → values r ≡ refusal_of c q told → ReadingNumber c → eqb c number.DuplicateMacro ≡ false → (w : ℕ) × FirstWrongFile (rules_of mode) tokens w × CursorAt (rules_of mode) tokens c q w
  file_call_cursor c q told is ours other = file_cursor (rules_of mode) true tokens c q (refused_there c q told is ours).reads other

  -- 20 is given exactly, in either mode, to a well-formed list, with a kept list long enough, in which a whole macro, fn or test is named like one before it; the cursor is its name
  pub file_call_repeated : (q : ℕ) → (values r ≡ refusal number.DuplicateMacro q) ↔ ((is_mode mode ≡ true) × WellFormed text words × (length (kept_of words) ≤ length kept) × RepeatedAt (rules_of mode) tokens q)
  file_call_repeated q = said number.DuplicateMacro q (omega arith) refl (RepeatedAt (rules_of mode) tokens q) (file_repeated (rules_of mode) tokens q)

  -- 21 exactly where definitions stand up to a Pound; the cursor is the Pound
  pub file_call_pound : (q : ℕ) → (values r ≡ refusal number.PoundAtTopLevel q) ↔ ((is_mode mode ≡ true) × WellFormed text words × (length (kept_of words) ≤ length kept) × Reached (rules_of mode) true tokens Pound q)
  file_call_pound q = said number.PoundAtTopLevel q (omega arith) refl (Reached (rules_of mode) true tokens Pound q) (file_pound (rules_of mode) true tokens q)

  -- ---- the type

  -- the last two numbers of every call: for 7 type and size of the token at the cursor, for every other number 0
  pub file_call_type : TellsType tokens (values r)
  file_call_type = go (values r) file_call_says
    where
      go : (v : List ℕ) → Says mode text words kept definitions statements arguments v → TellsType tokens v
      go v (says_36 k) = tells_none tokens number.UnknownMode 0 (omega arith)
      go v (says_30 {at = at} k f) = tells_none tokens number.NotWellFormed at (omega arith)
      go v (says_35 k f h) = tells_none tokens number.KeptTooShort _ (omega arith)
      go v (says_refused {c = c} {q = q} l ours e) = tells_at tokens c q
      go v (says_32 n ds l f h) = tells_none tokens number.DefinitionsTooSmall _ (omega arith)
      go v (says_33 n ds l f h k) = tells_none tokens number.StatementsTooSmall _ (omega arith)
      go v (says_34 n ds l f h k g) = tells_none tokens number.ArgumentsTooSmall _ (omega arith)
      go v (says_read n ds l f room) = tells_accepted tokens _ _ _ _

-- ---- with room

-- the answer and the tables are those of an outcome, accepted or refused
pub record Told (definitions statements arguments : List ℕ) (r : Result FileRead FileError) (definitions' statements' arguments' : List ℕ) (o : FileOutcome) : Type 0 where
  pub answer : values r ≡ o.answers
  pub definitions_hold : definitions' ≡ filled (length definitions) o.definitions
  pub statements_hold : statements' ≡ filled (length statements) o.statements
  pub arguments_hold : arguments' ≡ filled (length arguments) o.arguments

-- a mode that there is, a well-formed list and a kept list long enough: the call is let through, and answers by the reading
answers_reading : {mode : ℕ} {text words kept definitions statements arguments : List ℕ} {r : Result FileRead FileError} {kept' definitions' statements' arguments' : List ℕ}
    → is_mode mode ≡ true → WellFormed text words → length (kept_of words) ≤ length kept
    → FileCall mode text words kept definitions statements arguments r kept' definitions' statements' arguments'
    → values r ≡ after_reading (kept_tokens text words) (file_reading mode text words) (length definitions) (length statements) (length arguments)
answers_reading {text = text} {words} {kept} known formed enough call = call.answer ∙ rw (known, let_through text words 0 (length kept) formed enough (kept_not_empty text words formed))

-- and tables with room for the reading's records: it answers the reading
pub with_room : {mode : ℕ} {text words kept definitions statements arguments : List ℕ} {r : Result FileRead FileError} {kept' definitions' statements' arguments' : List ℕ}
    → is_mode mode ≡ true → WellFormed text words → length (kept_of words) ≤ length kept
    → (o : FileOutcome) → file_outcome (kept_tokens text words) (kept_positions words) (file_reading mode text words) ≡ o
    → length o.definitions ≤ length definitions / definition_width
    → length o.statements ≤ length statements / statement_width
    → length o.arguments ≤ length arguments / argument_width
    → FileCall mode text words kept definitions statements arguments r kept' definitions' statements' arguments'
    → Told definitions statements arguments r definitions' statements' arguments' o
unfolding after_reading held_after
with_room {mode} {text} {words} {kept} {definitions} {statements} {arguments} {r} {kept'} {definitions'} {statements'} {arguments'} known formed enough o is room room' room'' call =
    rw is at (go (file_reading mode text words) refl (rw (← is) at room) (rw (← is) at room') (rw (← is) at room''))
  where
    go : (x : Answer (List Definition)) → file_reading mode text words ≡ x
        → length (records_of (definition_records (kept_positions words) 0 0) x) ≤ length definitions / definition_width
        → length (records_of (file_statements 0 0) x) ≤ length statements / statement_width
        → length (records_of file_argument_records x) ≤ length arguments / argument_width
        → Told definitions statements arguments r definitions' statements' arguments' (file_outcome (kept_tokens text words) (kept_positions words) x)
    go (read ds n) e hd hs ha =
        let many = file_as_many (kept_positions words) 0 0 ds in
        let told : values r ≡ file_numbers (kept_tokens text words) (read ds n) = answers_reading known formed enough call ∙ rw e (rw (le-ltb _ _ (rw many.0 at hd), le-ltb _ _ (rw many.1 at hs), le-ltb _ _ (rw many.2 at ha))) in
        record { answer = told; definitions_hold = call.definitions_hold ∙ rw (e, told); statements_hold = call.statements_hold ∙ rw (e, told); arguments_hold = call.arguments_hold ∙ rw (e, told) }
    go (refused c q) e hd hs ha =
        let told : values r ≡ refusal_at (kept_tokens text words) c q = answers_reading known formed enough call ∙ rw e in
        let ours = file_ours (rules_of mode) true (kept_tokens text words) c q e in
        record {
          answer = told;
          definitions_hold = call.definitions_hold ∙ rw told (held_refused c _ definitions ours);
          statements_hold = call.statements_hold ∙ rw told (held_refused c _ statements ours);
          arguments_hold = call.arguments_hold ∙ rw told (held_refused c _ arguments ours);
        }

-- 32: the records needed, and tables that are zero
abbrev pub too_few : ℕ → FileOutcome
too_few need = record { answers = refusal number.DefinitionsTooSmall need; definitions = []; statements = []; arguments = [] }

-- a table of definitions without room for those of the reading: 32
pub too_few_definitions : {mode : ℕ} {text words kept definitions statements arguments : List ℕ} {r : Result FileRead FileError} {kept' definitions' statements' arguments' : List ℕ}
    → is_mode mode ≡ true → WellFormed text words → length (kept_of words) ≤ length kept
    → (o : FileOutcome) → file_outcome (kept_tokens text words) (kept_positions words) (file_reading mode text words) ≡ o
    → length definitions / definition_width < length o.definitions
    → FileCall mode text words kept definitions statements arguments r kept' definitions' statements' arguments'
    → Told definitions statements arguments r definitions' statements' arguments' (too_few (length o.definitions))
unfolding after_reading held_after
too_few_definitions {mode} {text} {words} {definitions = definitions} {statements} {arguments} {r} known formed enough o is few call =
    let same = ap (λ (x : FileOutcome). length x.definitions) is in
    let told = go (file_reading mode text words) refl (subst (λ (n : ℕ). length definitions / definition_width < n) (sym same) few) ∙ ap (refusal number.DefinitionsTooSmall) same in
    record { answer = told; definitions_hold = call.definitions_hold ∙ rw told; statements_hold = call.statements_hold ∙ rw told; arguments_hold = call.arguments_hold ∙ rw told }
  where
    go : (x : Answer (List Definition)) → file_reading mode text words ≡ x
        → length definitions / definition_width < length (records_of (definition_records (kept_positions words) 0 0) x)
        → values r ≡ refusal number.DefinitionsTooSmall (length (records_of (definition_records (kept_positions words) 0 0) x))
    go (read ds n) e h =
        let many = (file_as_many (kept_positions words) 0 0 ds).0 in
        let small : ltb (length definitions / definition_width) (length ds) ≡ true = lt-ltb _ _ (rw many at h) in
        let said : after_reading (kept_tokens text words) (read ds n) (length definitions) (length statements) (length arguments) ≡ refusal number.DefinitionsTooSmall (length ds) = rw small in
        answers_reading known formed enough call
        ∙ ap (λ (x : Answer (List Definition)). after_reading (kept_tokens text words) x (length definitions) (length statements) (length arguments)) e
        ∙ said
        ∙ ap (refusal number.DefinitionsTooSmall) (sym many)
    go (refused c q) e h = absurd (omega arith)

-- ---- the rows of files, and those of request [1]

-- for every well-formed text and words whose kept tokens are the row's, whatever their texts are where no rule looks at them, with room, a call leaves the row's
-- numbers and tables
abbrev pub Answered : ℕ → (ℕ → List ℕ) → FileRow → Type 0
Answered mode texts row =
    (text words kept definitions statements arguments : List ℕ) (r : Result FileRead FileError) (kept' definitions' statements' arguments' : List ℕ)
    → WellFormed text words
    → kept_tokens text words ≡ tokens_of texts 0 (ended row.input)
    → length (kept_of words) ≤ length kept
    → length row.outcome.definitions ≤ length definitions / definition_width
    → length row.outcome.statements ≤ length statements / statement_width
    → length row.outcome.arguments ≤ length arguments / argument_width
    → FileCall mode text words kept definitions statements arguments r kept' definitions' statements' arguments'
    → Told definitions statements arguments r definitions' statements' arguments' (outcome_at row (kept_positions words))

-- where the reader gives a list of rows their outcomes, a call does
rows_answered : (mode : ℕ) (texts : ℕ → List ℕ) (list : List FileRow) → is_mode mode ≡ true → file_outcomes mode texts list ≡ map outcome_at list → All (Answered mode texts) list
unfolding file_outcomes
rows_answered mode texts list known hold = all_map (λ row. row_read mode texts row ≡ outcome_at row) (Answered mode texts) list one (all_mapped (row_read mode texts) outcome_at list hold)
  where
    one : (row : FileRow) → row_read mode texts row ≡ outcome_at row → Answered mode texts row
    one row e text words kept definitions statements arguments r kept' definitions' statements' arguments' formed same enough room room' room'' call =
        let pos = kept_positions words in
        with_room known formed enough (outcome_at row pos) (rw same (ap (λ (f : Positions → FileOutcome). f pos) e)) (rw (length-map row.outcome.definitions (placed pos)) room) room' room'' call

pub file_call_rows : (texts : ℕ → List ℕ) → All (Answered lenient_mode texts) file_rows
unfolding is_mode
file_call_rows texts = rows_answered lenient_mode texts file_rows refl (file_rows_hold texts)

-- those of request [1]
pub file_call_strict_rows : (texts : ℕ → List ℕ) → All (Answered strict_mode texts) strict_files
unfolding is_mode
file_call_strict_rows texts = rows_answered strict_mode texts strict_files refl (strict_files_hold texts)
