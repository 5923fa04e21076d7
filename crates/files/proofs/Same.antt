-- Request [12], about `read_file`'s own promise: the same mistake, the same answer. Assumes nothing.
use Prim.Native.Nat.{ℕ, ◌/◌, ◌≤◌, ◌<◌}
use native.Mathlib.Omega.{arith}
use mathlib.Core.Path.{◌≡◌, refl, sym, ap, ◌∙◌}
use mathlib.Core.Bool.{Bool, true, false, cond, not}
use mathlib.Core.List.{List, []}
use borrow.Author.Tests.{ne_eqb}
use lib.ListN.{length, get_or}
use lib.Dec.{eqb, ltb}
use Rattle.tokens.specs.Number as number
use Rattle.tokens.specs.Number.{definition_width, statement_width, argument_width}
use Rattle.tokens.specs.Token.{Token, token_at, all_tokens}
use Rattle.tokens.specs.Name.{type_told}
use Rattle.tokens.specs.Kept.{kept_of, kept_tokens, kept_positions}
use Rattle.tokens.specs.PutBetween.{PutBetween}
use Rattle.tokens.specs.WellFormed.{WellFormed}
use Rattle.tokens.specs.Door.{kept_after}
use Rattle.tokens.proofs.DoorLaws.{kept_not_empty, let_through}
use Rattle.tokens.proofs.PutBetween.{put_between, same_door}
use Rattle.grammar.specs.Rules.{Rules, is_mode, rules_of}
use Rattle.grammar.specs.Result.{Answer, read, refused}
use Rattle.grammar.specs.FileReading.{Definition}
use Rattle.grammar.specs.FileReader.{file_at}
use Rattle.grammar.specs.FileRecords.{definition_records, file_statements, file_arguments, file_argument_records, file_statement_count}
use Rattle.grammar.specs.Call.{ReadingNumber, refusal_of, refusal, file_numbers, chosen, file_entrance, records_of, filled, turned_away}
use Rattle.grammar.specs.Same.{Agree, AfterBoth, OwnNumbers, SameDefinitions, SameStatements, SameArguments}
use Rattle.grammar.specs.FileCases.{file_outcome}
use Rattle.grammar.proofs.Lists.{agree_last}
use Rattle.grammar.proofs.Numbers.{file_ours, ours_reads, held_refused}
use Rattle.grammar.proofs.FileDemand.{file_exactly, file_same_refusal}
use Rattle.grammar.proofs.FileRecorded.{file_as_wide}
use Rattle.grammar.proofs.Same.{file_turns, told_away, own_numbers, written, same_table, same_definitions, same_words, file_counted}
use Rattle.statements.proofs.Called.{number_is, Through}
use Rattle.std.specs.Prelude.{Result}
use Rattle.files.specs.declared.file.FileRead.{FileRead}
use Rattle.files.specs.declared.entry.FileError.{FileError}
use Rattle.files.specs.Call.{values, number_of, after_reading, file_reading, FileCall}
use Rattle.files.proofs.Called.{Says, says_36, says_30, says_35, says_refused, says_32, says_33, says_34, says_read, file_call_says, refused_there, with_room}
use Rattle.files.proofs.Fixed.{one_file_answer}

-- two calls in the same mode
module _ {mode : ℕ} {text words kept definitions statements arguments : List ℕ} {r : Result FileRead FileError} {kept' definitions' statements' arguments' : List ℕ}
    {text₂ words₂ kept₂ definitions₂ statements₂ arguments₂ : List ℕ} {r₂ : Result FileRead FileError} {kept₂' definitions₂' statements₂' arguments₂' : List ℕ}
    (call : FileCall mode text words kept definitions statements arguments r kept' definitions' statements' arguments')
    (other : FileCall mode text₂ words₂ kept₂ definitions₂ statements₂ arguments₂ r₂ kept₂' definitions₂' statements₂' arguments₂') where
  -- the one is refused with a number of the reading but 20, that is one of 1 to 13, 21 or 22. The other has a well-formed list, a kept list long enough, and the same
  -- tokens from place 0 to the cursor: it gets the same answer, number, cursor, type and size, and its tables are zero. 20 is left out: its cursor is a macro's name, and
  -- it is given only behind that macro's brace
  pub file_call_same_refusal : (c q : ℕ) (told : ℕ × ℕ) → values r ≡ refusal_of c q told → ReadingNumber c → ¬ (c ≡ number.DuplicateMacro)
      → WellFormed text₂ words₂ → length (kept_of words₂) ≤ length kept₂
      → Agree 0 q (kept_tokens text words) (kept_tokens text₂ words₂)
      → (r ≡ r₂) × (definitions₂' ≡ filled (length definitions₂) []) × (statements₂' ≡ filled (length statements₂) []) × (arguments₂' ≡ filled (length arguments₂) [])
  unfolding after_reading
  file_call_same_refusal c q told is ours not-20 formed room agree =
      let ts = kept_tokens text words in
      let us = kept_tokens text₂ words₂ in
      let there = refused_there call c q told is ours in
      let reads = file_same_refusal (rules_of mode) true ts us c q there.reads (ne_eqb c number.DuplicateMacro not-20) agree in
      let tells : told ≡ type_told c (token_at us q) = there.tells ∙ ap (type_told c) (agree_last 0 q ts us (omega arith) agree) in
      let through = let_through text₂ words₂ 0 (length kept₂) formed room (kept_not_empty text₂ words₂ formed) in
      let said : values r₂ ≡ refusal_of c q told = other.answer ∙ rw (tells, there.through.known, through) (rw reads) in (
        one_file_answer r r₂ call.own other.own (is ∙ sym said),
        other.definitions_hold ∙ rw said (held_refused c _ definitions₂ ours),
        other.statements_hold ∙ rw said (held_refused c _ statements₂ ours),
        other.arguments_hold ∙ rw said (held_refused c _ arguments₂ ours),
      )

-- a reading's answer is none of a call that is turned away
reading_stays : (rules : Rules) (ts : List Token) (de st ar : ℕ) → turned_away (get_or (after_reading ts (file_at rules true ts) de st ar) 0 0) ≡ false
unfolding after_reading
reading_stays rules ts de st ar = go (file_at rules true ts) refl
  where
    go : (x : Answer (List Definition)) → file_at rules true ts ≡ x → turned_away (get_or (after_reading ts x de st ar) 0 0) ≡ false
    go (refused c q) e = ours_reads c (file_ours rules true ts c q e)
    go (read ds n) e = pick (ltb (de / definition_width) (length ds)) (ltb (st / statement_width) (file_statement_count ds)) (ltb (ar / argument_width) (length (file_arguments ds)))
      where
        pick : (b d g : Bool)
            → turned_away
            (get_or
            (cond b (refusal number.DefinitionsTooSmall (length ds))
            (cond d (refusal number.StatementsTooSmall (file_statement_count ds))
            (cond g (refusal number.ArgumentsTooSmall (length (file_arguments ds))) (file_numbers ts (read ds n)))))
            0 0)
            ≡ false
        pick true d g = refl
        pick false true g = refl
        pick false false true = refl
        pick false false false = refl

-- what the numbers of one call say that two are compared by
module _ {mode : ℕ} {text words kept definitions statements arguments : List ℕ} {r : Result FileRead FileError} {kept' definitions' statements' arguments' : List ℕ}
    (call : FileCall mode text words kept definitions statements arguments r kept' definitions' statements' arguments') where
  abbrev entrance : ℕ × ℕ
  entrance = file_entrance mode text words (length kept)

  abbrev reading : Answer (List Definition)
  reading = file_reading mode text words

  -- whether it was turned away
  away : turned_away (number_of r) ≡ not (eqb entrance.0 0)
  away =
      ap (λ (v : List ℕ). turned_away (get_or v 0 0)) call.answer
      ∙ told_away entrance _ (file_turns mode text words (length kept))
      (reading_stays (rules_of mode) (kept_tokens text words) (length definitions) (length statements) (length arguments))

  -- how many records it has written; and 30 is not for a well-formed list
  record Tells : Type 0 where
    definitions_many : length (written (number_of r) (records_of (definition_records (kept_positions words) 0 0) reading)) ≡ get_or (values r) 2 0
    statements_many : length (written (number_of r) (records_of (file_statements 0 0) reading)) ≡ get_or (values r) 3 0
    arguments_many : length (written (number_of r) (records_of file_argument_records reading)) ≡ get_or (values r) 4 0
    formed : WellFormed text words → ¬ (number_of r ≡ number.NotWellFormed)

  tells : Tells
  tells = go (values r) refl (file_call_says call)
    where
      none : (v : List ℕ) → values r ≡ v → eqb (get_or v 0 0) 0 ≡ false → get_or v 2 0 ≡ 0 → get_or v 3 0 ≡ 0 → get_or v 4 0 ≡ 0 → (WellFormed text words → ¬ (get_or v 0 0 ≡ number.NotWellFormed)) → Tells
      none v is other d s a f = record { definitions_many = rw (is, other, d); statements_many = rw (is, other, s); arguments_many = rw (is, other, a); formed = rw is f }

      go : (v : List ℕ) → values r ≡ v → Says mode text words kept definitions statements arguments v → Tells
      go v is (says_36 k) = none v is refl refl refl refl (λ f e. omega arith)
      go v is (says_30 k f) = none v is refl refl refl refl (λ formed e. f formed)
      go v is (says_35 k f h) = none v is refl refl refl refl (λ f e. omega arith)
      go v is (says_refused {c = c} l ours g) = none v is (ne_eqb c 0 (λ e. omega (arith, ours.0))) refl refl refl (λ f e. omega (arith, e, ours.1))
      go v is (says_32 n ds l f h) = none v is refl refl refl refl (λ f e. omega arith)
      go v is (says_33 n ds l f h k) = none v is refl refl refl refl (λ f e. omega arith)
      go v is (says_34 n ds l f h k g) = none v is refl refl refl refl (λ f e. omega arith)
      go v is (says_read n ds l f g) =
          let many = file_counted (kept_tokens text words) (kept_positions words) (read ds n) in
          let reads = (file_exactly (rules_of mode) true (kept_tokens text words) n ds).1 f in
          record { definitions_many = rw (is, reads) many.0; statements_many = rw (is, reads) many.1; arguments_many = rw (is, reads) many.2; formed = rw is (λ f e. omega arith) }

  -- it was let through and had room: the answer is the reading's
  record Had : Type 0 where
    through : Through (is_mode mode ≡ true) text words 0 kept
    answers : values r ≡ file_numbers (kept_tokens text words) reading

  had : number_of r < number.NotWellFormed → Had
  had small = go (values r) refl (file_call_says call)
    where
      go : (v : List ℕ) → values r ≡ v → Says mode text words kept definitions statements arguments v → Had
      go v is (says_36 k) = absurd (omega (arith, number_is is))
      go v is (says_30 k f) = absurd (omega (arith, number_is is))
      go v is (says_35 k f h) = absurd (omega (arith, number_is is))
      go v is (says_refused l ours g) = record { through = l; answers = is ∙ rw g }
      go v is (says_32 n ds l f h) = absurd (omega (arith, number_is is))
      go v is (says_33 n ds l f h k) = absurd (omega (arith, number_is is))
      go v is (says_34 n ds l f h k g) = absurd (omega (arith, number_is is))
      go v is (says_read n ds l f g) = record { through = l; answers = is ∙ rw ((file_exactly (rules_of mode) true (kept_tokens text words) n ds).1 f) }

-- two calls in the same mode
module _ {mode : ℕ} {text words kept definitions statements arguments : List ℕ} {r : Result FileRead FileError} {kept' definitions' statements' arguments' : List ℕ}
    {text₂ words₂ kept₂ definitions₂ statements₂ arguments₂ : List ℕ} {r₂ : Result FileRead FileError} {kept₂' definitions₂' statements₂' arguments₂' : List ℕ}
    (call : FileCall mode text words kept definitions statements arguments r kept' definitions' statements' arguments')
    (other : FileCall mode text₂ words₂ kept₂ definitions₂ statements₂ arguments₂ r₂ kept₂' definitions₂' statements₂' arguments₂') where
  -- the answers are equal, and not 30. Turned away, nothing lent has changed; else the kept lists have their own tokens' numbers, and the tables the same records, as
  -- many as the answer says, followed by zeros, but for the last two words of each definition record: those are where each list's own tokens stand
  pub record Alike : Type 0 where
    pub answer : r ≡ r₂
    pub formed : ¬ (number_of r ≡ number.NotWellFormed)
    pub list : AfterBoth (turned_away (number_of r)) (OwnNumbers words words₂) kept kept₂ kept' kept₂'
    pub definitions_hold : AfterBoth (turned_away (number_of r)) (SameDefinitions (kept_positions words) (kept_positions words₂) (get_or (values r) 2 0)) definitions definitions₂ definitions' definitions₂'
    pub statements_hold : AfterBoth (turned_away (number_of r)) (SameStatements (get_or (values r) 3 0)) statements statements₂ statements' statements₂'
    pub arguments_hold : AfterBoth (turned_away (number_of r)) (SameArguments (get_or (values r) 4 0)) arguments arguments₂ arguments' arguments₂'

  -- in tables of the same lengths, where the calls are not turned away: the same words
  abbrev pub SameWords : Type 0
  SameWords = turned_away (number_of r) ≡ false → (statements' ≡ statements₂') × (arguments' ≡ arguments₂')

  -- a well-formed list, the same kept tokens, the same answer and the same number at the entrance
  alike : WellFormed text words → kept_tokens text words ≡ kept_tokens text₂ words₂ → r ≡ r₂ → (entrance call).0 ≡ (entrance other).0 → Alike
  alike formed agree same said =
      let wide = file_as_wide (kept_positions words) 0 0 in
      record {
        answer = same;
        formed = (tells call).formed formed;
        list = own_numbers (number_of r) words words₂ (entrance call).0 (away call) call.list (other.list ∙ ap (λ (c : ℕ). kept_after c words₂ kept₂) (sym said));
        definitions_hold = same_definitions (ap number_of same) (kept_positions words) (kept_positions words₂) (reading call) (reading other) (rw agree) call.definitions_hold other.definitions_hold (tells call).definitions_many;
        statements_hold = same_table (ap number_of same) (file_statements 0 0) (reading call) (reading other) (rw agree) (λ ds. (wide ds).1) call.statements_hold other.statements_hold (tells call).statements_many;
        arguments_hold = same_table (ap number_of same) file_argument_records (reading call) (reading other) (rw agree) (λ ds. (wide ds).2) call.arguments_hold other.arguments_hold (tells call).arguments_many;
      }

  -- both lists well formed, and lent lists of the same lengths, whatever stood in them
  module _ (formed : WellFormed text words) (formed₂ : WellFormed text₂ words₂)
      (room : length kept ≡ length kept₂) (room-d : length definitions ≡ length definitions₂) (room-s : length statements ≡ length statements₂) (room-a : length arguments ≡ length arguments₂) where
    -- the kept tokens are the same throughout
    pub file_call_same_tokens : kept_tokens text words ≡ kept_tokens text₂ words₂ → Alike × SameWords
    file_call_same_tokens agree =
        let said : entrance call ≡ entrance other = ap (λ (d : ℕ × ℕ). chosen (is_mode mode) number.UnknownMode d) (same_door text words text₂ words₂ 0 formed formed₂ agree room) in
        let numbers : values r ≡ values r₂ = call.answer ∙ rw (said, agree, room-d, room-s, room-a) (sym other.answer) in
        let both = alike formed agree (one_file_answer r r₂ call.own other.own numbers) (ap (λ (d : ℕ × ℕ). d.0) said) in
        (both, (λ e. (same_words room-s (both.statements_hold.same e), same_words room-a (both.arguments_hold.same e))))

    -- white space and comments are put between the tokens of a list, or taken out
    pub file_call_put_between : PutBetween (all_tokens text words) (all_tokens text₂ words₂) → Alike × SameWords
    file_call_put_between more = file_call_same_tokens (put_between text words text₂ words₂ more)

  -- lent lists of any lengths, where the one call had room, its number being below 30, and the other has room for its kept tokens and for as many records
  pub file_call_same_with_room : WellFormed text₂ words₂
      → kept_tokens text words ≡ kept_tokens text₂ words₂
      → number_of r < number.NotWellFormed
      → length (kept_of words₂) ≤ length kept₂
      → get_or (values r) 2 0 ≤ length definitions₂ / definition_width
      → get_or (values r) 3 0 ≤ length statements₂ / statement_width
      → get_or (values r) 4 0 ≤ length arguments₂ / argument_width
      → Alike
  file_call_same_with_room formed₂ agree small enough room-d room-s room-a =
      let ts = kept_tokens text₂ words₂ in
      let h = had call small in
      let l = h.through.list in
      let numbers : values r ≡ file_numbers ts (reading other) = h.answers ∙ rw agree in
      let many = file_counted ts (kept_positions words₂) (reading other) in
      let word : (i : ℕ) → get_or (file_numbers ts (reading other)) i 0 ≡ get_or (values r) i 0 = λ i. ap (λ (v : List ℕ). get_or v i 0) (sym numbers) in
      let told = with_room h.through.known formed₂ enough (file_outcome ts (kept_positions words₂) (reading other)) refl (rw (many.0, word 2) room-d) (rw (many.1, word 3) room-s) (rw (many.2, word 4) room-a) other in
      alike l.formed agree (one_file_answer r r₂ call.own other.own (numbers ∙ sym told.answer))
      (rw (h.through.known, let_through text words 0 (length kept) l.formed l.room_enough l.inside, let_through text₂ words₂ 0 (length kept₂) formed₂ enough (kept_not_empty text₂ words₂ formed₂)))
