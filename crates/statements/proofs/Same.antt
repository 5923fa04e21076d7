-- Request [12], about `read_body`'s own promise: the same mistake, the same answer. Assumes nothing.
use Prim.Native.Nat.{ℕ, ◌/◌, ◌≤◌, ◌<◌}
use native.Mathlib.Omega.{arith}
use mathlib.Core.Path.{◌≡◌, refl, sym, ap, ◌∙◌}
use mathlib.Core.Bool.{Bool, true, false, cond, not}
use mathlib.Core.List.{List, []}
use borrow.Author.Tests.{ne_eqb}
use lib.ListN.{length, get_or}
use lib.Dec.{eqb, ltb}
use Rattle.tokens.specs.Number as number
use Rattle.tokens.specs.Number.{statement_width, argument_width}
use Rattle.tokens.specs.Token.{Token, token_at, all_tokens}
use Rattle.tokens.specs.Name.{type_told}
use Rattle.tokens.specs.Kept.{kept_of, kept_tokens}
use Rattle.tokens.specs.PutBetween.{PutBetween}
use Rattle.tokens.specs.WellFormed.{WellFormed}
use Rattle.tokens.specs.Door.{kept_after}
use Rattle.tokens.proofs.DoorLaws.{let_through}
use Rattle.tokens.proofs.TokenLaws.{view_length}
use Rattle.tokens.proofs.PutBetween.{put_between, same_count, same_door}
use Rattle.grammar.specs.Reading.{Reading}
use Rattle.grammar.specs.Rules.{Rules, is_mode, rules_of}
use Rattle.grammar.specs.Result.{Answer, read, refused}
use Rattle.grammar.specs.Reader.{body_at}
use Rattle.grammar.specs.Records.{statement_records, argument_records, statement_count, argument_count}
use Rattle.grammar.specs.PlainLength.{is_edition, short_zeros}
use Rattle.grammar.specs.Call.{ReadingNumber, refusal_of, refusal, body_numbers, chosen, body_entrance, records_of, filled, turned_away}
use Rattle.grammar.specs.Same.{Agree, AfterBoth, OwnNumbers, SameStatements, SameArguments}
use Rattle.grammar.specs.Cases.{outcome}
use Rattle.grammar.proofs.Lists.{agree_last, agree_inside}
use Rattle.grammar.proofs.Numbers.{body_ours, ours_reads, held_refused}
use Rattle.grammar.proofs.Demand.{body_exactly, same_refusal}
use Rattle.grammar.proofs.Recorded.{as_wide}
use Rattle.grammar.proofs.Same.{body_turns, told_away, own_numbers, written, same_table, same_words, body_counted}
use Rattle.std.specs.Prelude.{Result}
use Rattle.statements.specs.declared.entry.BodyRead.{BodyRead}
use Rattle.statements.specs.declared.entry.BodyError.{BodyError}
use Rattle.statements.specs.Call.{values, number_of, after_reading, reading_at, BodyCall}
use Rattle.statements.proofs.Called.{number_is, Named, Through, Says, says_36, says_38, says_30, says_35, says_31, says_refused, says_33, says_34, says_read, call_says, refused_there, call_cursor, with_room}
use Rattle.statements.proofs.Fixed.{one_body_answer}

-- two calls in the same mode from the same start
module _ {mode edition : ℕ} {text words : List ℕ} {start : ℕ} {kept statements arguments : List ℕ} {r : Result BodyRead BodyError} {kept' statements' arguments' : List ℕ}
    {edition₂ : ℕ} {text₂ words₂ kept₂ statements₂ arguments₂ : List ℕ} {r₂ : Result BodyRead BodyError} {kept₂' statements₂' arguments₂' : List ℕ}
    (call : BodyCall mode edition text words start kept statements arguments r kept' statements' arguments')
    (other : BodyCall mode edition₂ text₂ words₂ start kept₂ statements₂ arguments₂ r₂ kept₂' statements₂' arguments₂') where
  -- the one is refused with a number of the reading, that is one of 1 to 13 or 22. The other has the same edition or one that there is (the first one's is, for it was read), a well-formed list, a kept list
  -- long enough, and the same tokens from the start to the cursor: it gets the same answer, number, cursor, type and size, and its tables are zero
  pub call_same_refusal : (c q : ℕ) (told : ℕ × ℕ) → values r ≡ refusal_of c q told → ReadingNumber c
      → (is_edition edition ≡ true → is_edition edition₂ ≡ true)
      → WellFormed text₂ words₂ → length (kept_of words₂) ≤ length kept₂
      → Agree start q (kept_tokens text words) (kept_tokens text₂ words₂)
      → (r ≡ r₂) × (statements₂' ≡ filled (length statements₂) []) × (arguments₂' ≡ filled (length arguments₂) [])
  unfolding after_reading
  call_same_refusal c q told is ours known formed room agree =
      let ts = kept_tokens text words in
      let us = kept_tokens text₂ words₂ in
      let there = refused_there call c q told is ours in
      let wrong = call_cursor call c q told is ours in
      let behind : start ≤ q = omega (arith, wrong.1.before, wrong.2) in
      let reads = same_refusal (rules_of mode) ts us start c q there.reads agree in
      let inside = agree_inside start q ts us behind agree (omega (arith, there.through.list.inside, view_length text words (kept_of words))) in
      let tells : told ≡ type_told c (token_at us q) = there.tells ∙ ap (type_told c) (agree_last start q ts us behind agree) in
      let through = let_through text₂ words₂ start (length kept₂) formed room (omega (arith, inside, view_length text₂ words₂ (kept_of words₂))) in
      let named = there.through.known in
      let said : values r₂ ≡ refusal_of c q told = other.answer ∙ rw (tells, named.mode_known, known named.edition_known, through) (rw reads) in (
        one_body_answer r r₂ call.own other.own (is ∙ sym said),
        other.statements_hold ∙ rw said (held_refused c _ statements₂ ours),
        other.arguments_hold ∙ rw said (held_refused c _ arguments₂ ours),
      )

-- a reading's answer is none of a call that is turned away
reading_stays : (rules : Rules) (ts : List Token) (short : Bool) (start st ar : ℕ) → turned_away (get_or (after_reading ts short (body_at rules ts start) start st ar) 0 0) ≡ false
unfolding after_reading
reading_stays rules ts short start st ar = go (body_at rules ts start) refl
  where
    go : (x : Answer Reading) → body_at rules ts start ≡ x → turned_away (get_or (after_reading ts short x start st ar) 0 0) ≡ false
    go (refused c q) e = ours_reads c (body_ours rules ts start c q e)
    go (read rd n) e = pick (ltb (st / statement_width) (statement_count rd)) (ltb (ar / argument_width) (argument_count rd))
      where
        pick : (b d : Bool) → turned_away (get_or (cond b (refusal number.StatementsTooSmall (statement_count rd)) (cond d (refusal number.ArgumentsTooSmall (argument_count rd)) (body_numbers ts short start (read rd n)))) 0 0) ≡ false
        pick true d = refl
        pick false true = refl
        pick false false = refl

-- what the numbers of one call say that two are compared by
module _ {mode edition : ℕ} {text words : List ℕ} {start : ℕ} {kept statements arguments : List ℕ} {r : Result BodyRead BodyError} {kept' statements' arguments' : List ℕ}
    (call : BodyCall mode edition text words start kept statements arguments r kept' statements' arguments') where
  abbrev entrance : ℕ × ℕ
  entrance = body_entrance mode edition text words start (length kept)

  abbrev reading : Answer Reading
  reading = reading_at mode text words start

  -- whether it was turned away
  away : turned_away (number_of r) ≡ not (eqb entrance.0 0)
  away =
      ap (λ (v : List ℕ). turned_away (get_or v 0 0)) call.answer
      ∙ told_away entrance _ (body_turns mode edition text words start (length kept))
      (reading_stays (rules_of mode) (kept_tokens text words) (short_zeros edition) start (length statements) (length arguments))

  -- how many records it has written; and 30 is not for a well-formed list
  record Tells : Type 0 where
    statements_many : length (written (number_of r) (records_of (statement_records 0 0) reading)) ≡ get_or (values r) 2 0
    arguments_many : length (written (number_of r) (records_of argument_records reading)) ≡ get_or (values r) 3 0
    formed : WellFormed text words → ¬ (number_of r ≡ number.NotWellFormed)

  tells : Tells
  tells = go (values r) refl (call_says call)
    where
      none : (v : List ℕ) → values r ≡ v → eqb (get_or v 0 0) 0 ≡ false → get_or v 2 0 ≡ 0 → get_or v 3 0 ≡ 0 → (WellFormed text words → ¬ (get_or v 0 0 ≡ number.NotWellFormed)) → Tells
      none v is other s a f = record { statements_many = rw (is, other, s); arguments_many = rw (is, other, a); formed = rw is f }

      go : (v : List ℕ) → values r ≡ v → Says mode edition text words start kept statements arguments v → Tells
      go v is (says_36 k) = none v is refl refl refl (λ f e. omega arith)
      go v is (says_38 k f) = none v is refl refl refl (λ f e. omega arith)
      go v is (says_30 k f) = none v is refl refl refl (λ formed e. f formed)
      go v is (says_35 k f h) = none v is refl refl refl (λ f e. omega arith)
      go v is (says_31 k f h i) = none v is refl refl refl (λ f e. omega arith)
      go v is (says_refused {c = c} l ours g) = none v is (ne_eqb c 0 (λ e. omega (arith, ours.0))) refl refl (λ f e. omega (arith, e, ours.1))
      go v is (says_33 n rd l f h) = none v is refl refl refl (λ f e. omega arith)
      go v is (says_34 n rd l f h k) = none v is refl refl refl (λ f e. omega arith)
      go v is (says_read n rd l f g) =
          let many = body_counted (kept_tokens text words) (short_zeros edition) start (read rd n) in
          let reads = (body_exactly (rules_of mode) (kept_tokens text words) start n rd).1 f in
          record { statements_many = rw (is, reads) many.0; arguments_many = rw (is, reads) many.1; formed = rw is (λ f e. omega arith) }

  -- it was let through and had room: the answer is the reading's
  record Had : Type 0 where
    through : Through (Named mode edition) text words start kept
    answers : values r ≡ body_numbers (kept_tokens text words) (short_zeros edition) start reading

  had : number_of r < number.NotWellFormed → Had
  had small = go (values r) refl (call_says call)
    where
      go : (v : List ℕ) → values r ≡ v → Says mode edition text words start kept statements arguments v → Had
      go v is (says_36 k) = absurd (omega (arith, number_is is))
      go v is (says_38 k f) = absurd (omega (arith, number_is is))
      go v is (says_30 k f) = absurd (omega (arith, number_is is))
      go v is (says_35 k f h) = absurd (omega (arith, number_is is))
      go v is (says_31 k f h i) = absurd (omega (arith, number_is is))
      go v is (says_refused l ours g) = record { through = l; answers = is ∙ rw g }
      go v is (says_33 n rd l f h) = absurd (omega (arith, number_is is))
      go v is (says_34 n rd l f h k) = absurd (omega (arith, number_is is))
      go v is (says_read n rd l f g) = record { through = l; answers = is ∙ rw ((body_exactly (rules_of mode) (kept_tokens text words) start n rd).1 f) }

-- two calls in the same mode and edition from the same start
module _ {mode edition : ℕ} {text words : List ℕ} {start : ℕ} {kept statements arguments : List ℕ} {r : Result BodyRead BodyError} {kept' statements' arguments' : List ℕ}
    {text₂ words₂ kept₂ statements₂ arguments₂ : List ℕ} {r₂ : Result BodyRead BodyError} {kept₂' statements₂' arguments₂' : List ℕ}
    (call : BodyCall mode edition text words start kept statements arguments r kept' statements' arguments')
    (other : BodyCall mode edition text₂ words₂ start kept₂ statements₂ arguments₂ r₂ kept₂' statements₂' arguments₂') where
  -- the answers are equal, and not 30. Turned away, nothing lent has changed; else the kept lists have their own tokens' numbers, and the tables the same records, as
  -- many as the answer says, followed by zeros
  pub record Alike : Type 0 where
    pub answer : r ≡ r₂
    pub formed : ¬ (number_of r ≡ number.NotWellFormed)
    pub list : AfterBoth (turned_away (number_of r)) (OwnNumbers words words₂) kept kept₂ kept' kept₂'
    pub statements_hold : AfterBoth (turned_away (number_of r)) (SameStatements (get_or (values r) 2 0)) statements statements₂ statements' statements₂'
    pub arguments_hold : AfterBoth (turned_away (number_of r)) (SameArguments (get_or (values r) 3 0)) arguments arguments₂ arguments' arguments₂'

  -- in tables of the same lengths, where the calls are not turned away: the same words
  abbrev pub SameWords : Type 0
  SameWords = turned_away (number_of r) ≡ false → (statements' ≡ statements₂') × (arguments' ≡ arguments₂')

  -- a well-formed list, the same kept tokens, the same answer and the same number at the entrance
  alike : WellFormed text words → kept_tokens text words ≡ kept_tokens text₂ words₂ → r ≡ r₂ → (entrance call).0 ≡ (entrance other).0 → Alike
  alike formed agree same said =
      record {
        answer = same;
        formed = (tells call).formed formed;
        list = own_numbers (number_of r) words words₂ (entrance call).0 (away call) call.list (other.list ∙ ap (λ (c : ℕ). kept_after c words₂ kept₂) (sym said));
        statements_hold = same_table (ap number_of same) (statement_records 0 0) (reading call) (reading other) (rw agree) (λ rd. (as_wide 0 0 rd).0) call.statements_hold other.statements_hold (tells call).statements_many;
        arguments_hold = same_table (ap number_of same) argument_records (reading call) (reading other) (rw agree) (λ rd. (as_wide 0 0 rd).1) call.arguments_hold other.arguments_hold (tells call).arguments_many;
      }

  -- both lists well formed, and lent lists of the same lengths, whatever stood in them
  module _ (formed : WellFormed text words) (formed₂ : WellFormed text₂ words₂)
      (room : length kept ≡ length kept₂) (room-s : length statements ≡ length statements₂) (room-a : length arguments ≡ length arguments₂) where
    -- the kept tokens are the same throughout
    pub call_same_tokens : kept_tokens text words ≡ kept_tokens text₂ words₂ → Alike × SameWords
    call_same_tokens agree =
        let said : entrance call ≡ entrance other = ap (λ (d : ℕ × ℕ). chosen (is_mode mode) number.UnknownMode (chosen (is_edition edition) number.UnknownEdition d)) (same_door text words text₂ words₂ start formed formed₂ agree room) in
        let numbers : values r ≡ values r₂ = call.answer ∙ rw (said, agree, room-s, room-a) (sym other.answer) in
        let both = alike formed agree (one_body_answer r r₂ call.own other.own numbers) (ap (λ (d : ℕ × ℕ). d.0) said) in
        (both, (λ e. (same_words room-s (both.statements_hold.same e), same_words room-a (both.arguments_hold.same e))))

    -- white space and comments are put between the tokens of a list, or taken out
    pub call_put_between : PutBetween (all_tokens text words) (all_tokens text₂ words₂) → Alike × SameWords
    call_put_between more = call_same_tokens (put_between text words text₂ words₂ more)

  -- lent lists of any lengths, where the one call had room, its number being below 30, and the other has room for its kept tokens and for as many records
  pub call_same_with_room : WellFormed text₂ words₂
      → kept_tokens text words ≡ kept_tokens text₂ words₂
      → number_of r < number.NotWellFormed
      → length (kept_of words₂) ≤ length kept₂
      → get_or (values r) 2 0 ≤ length statements₂ / statement_width
      → get_or (values r) 3 0 ≤ length arguments₂ / argument_width
      → Alike
  call_same_with_room formed₂ agree small enough room-s room-a =
      let ts = kept_tokens text₂ words₂ in
      let h = had call small in
      let named = h.through.known in
      let l = h.through.list in
      let inside : start < length (kept_of words₂) = omega (arith, l.inside, same_count text words text₂ words₂ agree) in
      let numbers : values r ≡ body_numbers ts (short_zeros edition) start (reading other) = h.answers ∙ rw agree in
      let many = body_counted ts (short_zeros edition) start (reading other) in
      let word : (i : ℕ) → get_or (body_numbers ts (short_zeros edition) start (reading other)) i 0 ≡ get_or (values r) i 0 = λ i. ap (λ (v : List ℕ). get_or v i 0) (sym numbers) in
      let told = with_room named formed₂ inside enough (outcome ts edition start (reading other)) refl (rw (many.0, word 2) room-s) (rw (many.1, word 3) room-a) other in
      alike l.formed agree (one_body_answer r r₂ call.own other.own (numbers ∙ sym told.answer))
      (rw (named.mode_known, named.edition_known, let_through text words start (length kept) l.formed l.room_enough l.inside, let_through text₂ words₂ start (length kept₂) formed₂ enough inside))
