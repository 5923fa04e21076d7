-- Theorems about `read_body`'s own promise: what an accepted call and a refused one say of the tokens and leave in the tables. Assumes nothing.
use Prim.Native.Nat.{ℕ, suc, ◌+◌, ◌-◌, ◌/◌, ◌≤◌, ◌<◌}
use native.Mathlib.Nat.{zero-add}
use native.Mathlib.Omega.{arith}
use mathlib.Core.Path.{◌≡◌, refl, sym, ap, ◌∙◌}
use mathlib.Core.Logic.{◌↔◌}
use mathlib.Core.Bool.{Bool, true, false, cond}
use mathlib.Core.List.{List, [], ◌∷◌, ◌++◌, map}
use borrow.Author.Tests.{ltb-true, ltb-false, le-ltb}
use lib.ListN.{length, get_or, take, drop}
use lib.Dec.{eqb, ltb}
use Rattle.tokens.specs.Number as number
use Rattle.tokens.specs.Number.{statement_width, argument_width, label_type, most_tokens, lenient_mode, strict_mode, first_edition, second_edition}
use Rattle.tokens.specs.Token.{Token, token_at}
use Rattle.tokens.specs.Name.{type_told}
use Rattle.tokens.specs.Kept.{kept_of, kept_tokens}
use Rattle.tokens.specs.WellFormed.{WellFormed}
use Rattle.tokens.specs.Door.{door}
use Rattle.tokens.proofs.DoorLaws.{kept_not_empty, LetThrough, Means, means_30, means_35, means_31, means_through, door_means, let_through}
use Rattle.tokens.proofs.KeptLaws.{kept_rising}
use Rattle.tokens.proofs.TokenLaws.{view_length}
use Rattle.grammar.specs.Reading.{NONE, Reading}
use Rattle.grammar.specs.Rules.{is_mode, rules_of}
use Rattle.grammar.specs.Result.{Answer, read, refused}
use Rattle.grammar.specs.Reader.{body_at}
use Rattle.grammar.specs.Facts.{All}
use Rattle.grammar.specs.Follows.{Follows, FirstWrong, past}
use Rattle.grammar.specs.Records.{statement_records, argument_records, statement_count, argument_count}
use Rattle.grammar.specs.PlainLength.{is_edition, short_zeros, body_instructions, has_length, every, plain_length, body_free_zeros}
use Rattle.grammar.specs.Call.{ReadingNumber, acceptance, refusal_of, refusal, refusal_at, body_numbers, body_entrance, after_door, TellsType, records_of, filled, held_after}
use Rattle.grammar.specs.Tables.{BodyTable, type_word, first_word, end_word, inner_word, Flat, Walk}
use Rattle.grammar.specs.Cases.{Outcome, Row, outcome, braced, tokens_of, rows, strict_rows, edition_rows, type_rows}
use Rattle.grammar.proofs.Lists.{all_map, all_mapped}
use Rattle.grammar.proofs.Numbers.{body_ours, held_refused, tells_accepted, tells_none, tells_at}
use Rattle.grammar.proofs.Demand.{body_exactly, only_one, cursor}
use Rattle.grammar.proofs.Recorded.{as_many, as_wide}
use Rattle.grammar.proofs.Lengths.{none_exactly, none_alike, editions_differ}
use Rattle.grammar.proofs.Tabled.{stored_filled, body_tabled, body_walked, walk_labels_all}
use Rattle.grammar.proofs.Cases.{outcomes, rows_hold, strict_rows_hold, edition_rows_hold, type_rows_hold}
use Rattle.std.specs.Prelude.{Result}
use Rattle.statements.specs.declared.entry.BodyRead.{BodyRead}
use Rattle.statements.specs.declared.entry.BodyError.{BodyError}
use Rattle.statements.specs.Call.{values, number_of, after_reading, reading_at, body_answered, BodyCall}

-- the tables' whole records are enough for a reading's
pub record Room (statements arguments : List ℕ) (rd : Reading) : Type 0 where
  pub for_statements : statement_count rd ≤ length statements / statement_width
  pub for_arguments : argument_count rd ≤ length arguments / argument_width

-- the numbers of two lists of numbers that are equal
pub number_is : {v w : List ℕ} → v ≡ w → get_or v 0 0 ≡ get_or w 0 0
number_is e = ap (λ (u : List ℕ). get_or u 0 0) e

-- all numbers but the plain length
abbrev pub but_length : List ℕ → List ℕ
but_length v = take 4 v ++ drop 5 v

-- they have the first
number_alike : (v w : List ℕ) → but_length v ≡ but_length w → get_or v 0 0 ≡ get_or w 0 0
number_alike v w e = sym (first v) ∙ number_is e ∙ first w
  where
    first : (v : List ℕ) → get_or (but_length v) 0 0 ≡ get_or v 0 0
    first [] = refl
    first (x ∷ v) = refl

-- ---- from the numbers back to the list

-- mode and edition "are among those named"
pub record Named (mode edition : ℕ) : Type 0 where
  pub mode_known : is_mode mode ≡ true
  pub edition_known : is_edition edition ≡ true

-- the call was let through: the numbers that the caller chooses are known, the list is well formed, the kept list long enough, the start inside
pub record Through (Known : Type 0) (text words : List ℕ) (start : ℕ) (kept : List ℕ) : Type 0 where
  pub known : Known
  pub list : LetThrough text words start (length kept) (length (kept_of words))

-- what the numbers of a call say of the list and the tables. 33 and 34 are given only to a body that is accepted otherwise, where the whole records of that
-- table are fewer than needed
pub data Says (mode edition : ℕ) (text words : List ℕ) (start : ℕ) (kept statements arguments : List ℕ) : List ℕ → Type 0 where
  says_36 : is_mode mode ≡ false → Says mode edition text words start kept statements arguments (refusal number.UnknownMode 0)
  says_38 : is_mode mode ≡ true → is_edition edition ≡ false → Says mode edition text words start kept statements arguments (refusal number.UnknownEdition 0)
  says_30 : {at : ℕ} → Named mode edition → ¬ WellFormed text words → Says mode edition text words start kept statements arguments (refusal number.NotWellFormed at)
  says_35 : Named mode edition → WellFormed text words → length kept < length (kept_of words) → Says mode edition text words start kept statements arguments (refusal number.KeptTooShort (length (kept_of words)))
  says_31 : Named mode edition → WellFormed text words → length (kept_of words) ≤ length kept → length (kept_of words) ≤ start → Says mode edition text words start kept statements arguments (refusal number.StartOutside start)
  says_refused : {c q : ℕ} → Through (Named mode edition) text words start kept → ReadingNumber c → reading_at mode text words start ≡ refused c q → Says mode edition text words start kept statements arguments (refusal_at (kept_tokens text words) c q)
  says_33 : (n : ℕ) (rd : Reading)
      → Through (Named mode edition) text words start kept
      → Follows (rules_of mode) (kept_tokens text words) start n rd
      → length statements / statement_width < statement_count rd
      → Says mode edition text words start kept statements arguments (refusal number.StatementsTooSmall (statement_count rd))
  says_34 : (n : ℕ) (rd : Reading)
      → Through (Named mode edition) text words start kept
      → Follows (rules_of mode) (kept_tokens text words) start n rd
      → statement_count rd ≤ length statements / statement_width
      → length arguments / argument_width < argument_count rd
      → Says mode edition text words start kept statements arguments (refusal number.ArgumentsTooSmall (argument_count rd))
  says_read : (n : ℕ) (rd : Reading)
      → Through (Named mode edition) text words start kept
      → Follows (rules_of mode) (kept_tokens text words) start n rd
      → Room statements arguments rd
      → Says mode edition text words start kept statements arguments (body_numbers (kept_tokens text words) (short_zeros edition) start (read rd n))

module _ (mode edition : ℕ) (text words : List ℕ) (start : ℕ) (kept statements arguments : List ℕ) where
  -- behind the door
  reading_says : Through (Named mode edition) text words start kept → (x : Answer Reading) → reading_at mode text words start ≡ x
      → Says mode edition text words start kept statements arguments (after_reading (kept_tokens text words) (short_zeros edition) x start (length statements) (length arguments))
  unfolding after_reading
  reading_says l (refused c q) e = says_refused l (body_ours (rules_of mode) (kept_tokens text words) start c q e) e
  reading_says l (read rd n) e = go (ltb (length statements / statement_width) (statement_count rd)) refl (ltb (length arguments / argument_width) (argument_count rd)) refl
    where
      follows : Follows (rules_of mode) (kept_tokens text words) start n rd
      follows = (body_exactly (rules_of mode) (kept_tokens text words) start n rd).0 e

      go : (b : Bool) → ltb (length statements / statement_width) (statement_count rd) ≡ b → (d : Bool) → ltb (length arguments / argument_width) (argument_count rd) ≡ d
          → Says mode edition text words start kept statements arguments
          (cond b (refusal number.StatementsTooSmall (statement_count rd)) (cond d (refusal number.ArgumentsTooSmall (argument_count rd)) (body_numbers (kept_tokens text words) (short_zeros edition) start (read rd n))))
      go true eb d ed = says_33 n rd l follows (ltb-true _ _ eb)
      go false eb true ed = says_34 n rd l follows (ltb-false _ _ eb) (ltb-true _ _ ed)
      go false eb false ed = says_read n rd l follows (record { for_statements = ltb-false _ _ eb; for_arguments = ltb-false _ _ ed })

  -- and at it
  door_says : Named mode edition → (said : ℕ × ℕ) → Means text words start (length kept) said
      → Says mode edition text words start kept statements arguments (after_door said (after_reading (kept_tokens text words) (short_zeros edition) (reading_at mode text words start) start (length statements) (length arguments)))
  door_says named said (means_30 f) = says_30 named f
  door_says named said (means_35 f h) = says_35 named f h
  door_says named said (means_31 f h k) = says_31 named f h k
  door_says named said (means_through l) = reading_says (record { known = named; list = rw l.count l }) (reading_at mode text words start) refl

  -- and before it
  entrance_says : (b : Bool) → is_mode mode ≡ b → (d : Bool) → is_edition edition ≡ d
      → Says mode edition text words start kept statements arguments (body_answered mode edition text words start (length kept) (length statements) (length arguments))
  entrance_says false e d f = rw e (says_36 e)
  entrance_says true e false f = rw (e, f) (says_38 e f)
  entrance_says true e true f = rw (e, f) (door_says (record { mode_known = e; edition_known = f }) (door text words start (length kept)) (door_means text words start (length kept)))

module _ {mode edition : ℕ} {text words : List ℕ} {start : ℕ} {kept statements arguments : List ℕ} {r : Result BodyRead BodyError} {kept' statements' arguments' : List ℕ}
    (call : BodyCall mode edition text words start kept statements arguments r kept' statements' arguments') where
  abbrev tokens : List Token
  tokens = kept_tokens text words

  -- every call's numbers say so
  pub call_says : Says mode edition text words start kept statements arguments (values r)
  call_says = rw call.answer (entrance_says mode edition text words start kept statements arguments (is_mode mode) refl (is_edition edition) refl)

  -- the answer and the tables are those of the reading rd of n tokens from the start
  pub record Holding (n : ℕ) (rd : Reading) : Type 0 where
    pub answer : values r ≡ body_numbers tokens (short_zeros edition) start (read rd n)
    pub statements_hold : statements' ≡ filled (length statements) (statement_records 0 0 rd)
    pub arguments_hold : arguments' ≡ filled (length arguments) (argument_records rd)

  holding : (n : ℕ) (rd : Reading) → reading_at mode text words start ≡ read rd n → values r ≡ body_numbers tokens (short_zeros edition) start (read rd n) → Holding n rd
  unfolding held_after
  holding n rd e is = record { answer = is; statements_hold = call.statements_hold ∙ rw (e, is); arguments_hold = call.arguments_hold ∙ rw (e, is) }

  -- an accepted call was let through at the door and has read a stretch that follows the grammar, and the tables had room for its records
  pub record Accepted : Type 0 where
    pub through : Through (Named mode edition) text words start kept
    pub n : ℕ
    pub rd : Reading
    pub follows : Follows (rules_of mode) tokens start n rd
    pub room : Room statements arguments rd
    pub holds : Holding n rd

  pub accepted : number_of r ≡ 0 → Accepted
  accepted z = go (values r) refl call_says
    where
      go : (v : List ℕ) → values r ≡ v → Says mode edition text words start kept statements arguments v → Accepted
      go v is (says_36 k) = absurd (omega (arith, number_is is))
      go v is (says_38 k l) = absurd (omega (arith, number_is is))
      go v is (says_30 k f) = absurd (omega (arith, number_is is))
      go v is (says_35 k f h) = absurd (omega (arith, number_is is))
      go v is (says_31 k f h i) = absurd (omega (arith, number_is is))
      go v is (says_refused l ours e) = absurd (omega (arith, number_is is, ours.0))
      go v is (says_33 n rd l f h) = absurd (omega (arith, number_is is))
      go v is (says_34 n rd l f h k) = absurd (omega (arith, number_is is))
      go v is (says_read n rd l f room) = record { through = l; n = n; rd = rd; follows = f; room = room; holds = holding n rd ((body_exactly (rules_of mode) tokens start n rd).1 f) is }

  -- refused by the reading: the door let the call through, and the reader gives this number and cursor; type and size are, for 7, those of the token there
  pub record RefusedThere (c q : ℕ) (told : ℕ × ℕ) : Type 0 where
    pub through : Through (Named mode edition) text words start kept
    pub reads : reading_at mode text words start ≡ refused c q
    pub tells : told ≡ type_told c (token_at tokens q)

  pub refused_there : (c q : ℕ) (told : ℕ × ℕ) → values r ≡ refusal_of c q told → ReadingNumber c → RefusedThere c q told
  refused_there c q told is ours = go (values r) refl call_says
    where
      go : (v : List ℕ) → values r ≡ v → Says mode edition text words start kept statements arguments v → RefusedThere c q told
      go v e (says_36 k) = absurd (omega (arith, number_is (sym is ∙ e), ours.1))
      go v e (says_38 k l) = absurd (omega (arith, number_is (sym is ∙ e), ours.1))
      go v e (says_30 k f) = absurd (omega (arith, number_is (sym is ∙ e), ours.1))
      go v e (says_35 k f h) = absurd (omega (arith, number_is (sym is ∙ e), ours.1))
      go v e (says_31 k f h i) = absurd (omega (arith, number_is (sym is ∙ e), ours.1))
      go v e (says_refused {c = d} {q = p} l o g) =
          let k : c ≡ d = number_is (sym is ∙ e) in
          let m : q ≡ p = ap (λ (w : List ℕ). get_or w 1 0) (sym is ∙ e) in
          let t : told ≡ type_told d (token_at tokens p) = ap (λ (w : List ℕ). (get_or w 5 0, get_or w 6 0)) (sym is ∙ e) in
          record { through = l; reads = rw (k, m) g; tells = rw (k, m) t }
      go v e (says_33 n rd l f h) = absurd (omega (arith, number_is (sym is ∙ e), ours.1))
      go v e (says_34 n rd l f h k) = absurd (omega (arith, number_is (sym is ∙ e), ours.1))
      go v e (says_read n rd l f room) = absurd (omega (arith, number_is (sym is ∙ e), ours.0))

  -- ---- the tables

  tables_of : (n : ℕ) (rd : Reading) → Follows (rules_of mode) tokens start n rd → Holding n rd → BodyTable tokens statements' arguments' 0 (statement_count rd) 0 (argument_count rd) start (start + n)
  tables_of n rd follows holds =
      let wide = as_wide 0 0 rd in
      body_tabled (rules_of mode) tokens start n rd follows statements' arguments' 0 0
      (rw holds.statements_hold (stored_filled statement_width (length statements) (statement_records 0 0 rd) wide.0))
      (rw holds.arguments_hold (stored_filled argument_width (length arguments) (argument_records rd) wide.1))

  -- each word of each record of an accepted call: from number 0 on, between the braces at the start and before the cursor. (That zeros stand behind the records,
  -- the promise says itself.)
  pub call_tables : (q n m size : ℕ) → values r ≡ acceptance q n m size → BodyTable tokens statements' arguments' 0 n 0 m start q
  call_tables q n m size is =
      let a = accepted (number_is is) in
      let told = sym a.holds.answer ∙ is in
      let table = tables_of a.n a.rd a.follows a.holds in
      rw (ap (λ (w : List ℕ). get_or w 1 0) told) at (rw (ap (λ (w : List ℕ). get_or w 2 0) told) at (rw (ap (λ (w : List ℕ). get_or w 3 0) told) at table))

  -- and their ranges, by the words alone: a walk from record 0 behind the opening brace to the number of statements at the closing one
  pub call_ranges : (q n m size : ℕ) → values r ≡ acceptance q n m size → Walk statements' 0 (suc start) n (q - 1)
  call_ranges q n m size is = rw (zero-add n) at (body_walked tokens statements' arguments' 0 n 0 m start q (call_tables q n m size is)).2

  -- for each label among them, its inner records: no labels, from behind its colon to its end
  pub call_labels : (q n m size : ℕ) → values r ≡ acceptance q n m size
      → (x : ℕ) → x < n → type_word statements' x ≡ label_type
      → Flat statements' (suc x) (inner_word statements' x) (suc (suc (first_word statements' x))) (end_word statements' x)
  call_labels q n m size is x = walk_labels_all statements' 0 (suc start) n (q - 1) (call_ranges q n m size is) x (omega arith)

  -- ---- the plain length

  -- an accepted call answers the reading of its tokens
  answers_reading : number_of r ≡ 0 → (k : ℕ) (rd : Reading) → Follows (rules_of mode) tokens start k rd → values r ≡ body_numbers tokens (short_zeros edition) start (read rd k)
  answers_reading z k rd f =
      let a = accepted z in
      let same = only_one (rules_of mode) tokens start a.n k a.rd rd a.follows f in
      a.holds.answer ∙ (λ i. body_numbers tokens (short_zeros edition) start (read (same.1 i) (same.0 i)))

  -- and its list has no more tokens than are let through
  few_tokens : number_of r ≡ 0 → length tokens ≤ most_tokens
  few_tokens z = let a = accepted z in omega (arith, a.through.list.few, (kept_rising words).few, view_length text words (kept_of words))

  -- the fifth number of an accepted call, for the reading of its tokens: the plain length in the edition asked for, and NONE exactly if one of its instructions has no length
  pub call_length : (q n m size : ℕ) → values r ≡ acceptance q n m size
      → (k : ℕ) (rd : Reading) → Follows (rules_of mode) tokens start k rd
      → (size ≡ plain_length (short_zeros edition) rd) × ((size ≡ NONE) ↔ (every has_length (body_instructions rd) ≡ false))
  call_length q n m size is k rd f =
      let told : size ≡ plain_length (short_zeros edition) rd = ap (λ (w : List ℕ). get_or w 4 0) (sym is ∙ answers_reading (number_is is) k rd f) in
      (told, rw told (none_exactly (short_zeros edition) (rules_of mode) tokens start k rd (few_tokens (number_is is)) f))

  -- ---- the cursor

  -- refused with a number of the reading: there is a first token that the rules don't allow, and the cursor is it or one past it
  pub call_cursor : (c q : ℕ) (told : ℕ × ℕ) → values r ≡ refusal_of c q told → ReadingNumber c → (w : ℕ) × FirstWrong (rules_of mode) tokens start w × (q ≡ w + past c (drop w tokens))
  call_cursor c q told is ours =
      let there = refused_there c q told is ours in
      cursor (rules_of mode) tokens start c q (omega (arith, there.through.list.inside, view_length text words (kept_of words))) there.reads

  -- ---- the type

  -- the last two numbers of every call: for 7 type and size of the token at the cursor, for every other number 0
  pub call_type : TellsType tokens (values r)
  call_type = go (values r) call_says
    where
      go : (v : List ℕ) → Says mode edition text words start kept statements arguments v → TellsType tokens v
      go v (says_36 k) = tells_none tokens number.UnknownMode 0 (omega arith)
      go v (says_38 k l) = tells_none tokens number.UnknownEdition 0 (omega arith)
      go v (says_30 {at = at} k f) = tells_none tokens number.NotWellFormed at (omega arith)
      go v (says_35 k f h) = tells_none tokens number.KeptTooShort _ (omega arith)
      go v (says_31 k f h i) = tells_none tokens number.StartOutside _ (omega arith)
      go v (says_refused {c = c} {q = q} l ours e) = tells_at tokens c q
      go v (says_33 n rd l f h) = tells_none tokens number.StatementsTooSmall _ (omega arith)
      go v (says_34 n rd l f h k) = tells_none tokens number.ArgumentsTooSmall _ (omega arith)
      go v (says_read n rd l f room) = tells_accepted tokens _ _ _ _

-- ---- with room

-- the answer and the tables are those of an outcome, accepted or refused
pub record Told (statements arguments : List ℕ) (r : Result BodyRead BodyError) (statements' arguments' : List ℕ) (o : Outcome) : Type 0 where
  pub answer : values r ≡ o.answers
  pub statements_hold : statements' ≡ filled (length statements) o.statements
  pub arguments_hold : arguments' ≡ filled (length arguments) o.arguments

-- a mode and an edition that there are, a well-formed list, a start inside it, a kept list long enough, and tables with room for the reading's records: the call answers the reading
pub with_room : {mode edition : ℕ} {text words : List ℕ} {start : ℕ} {kept statements arguments : List ℕ} {r : Result BodyRead BodyError} {kept' statements' arguments' : List ℕ}
    → Named mode edition → WellFormed text words → start < length (kept_of words) → length (kept_of words) ≤ length kept
    → (o : Outcome) → outcome (kept_tokens text words) edition start (reading_at mode text words start) ≡ o
    → length o.statements ≤ length statements / statement_width
    → length o.arguments ≤ length arguments / argument_width
    → BodyCall mode edition text words start kept statements arguments r kept' statements' arguments'
    → Told statements arguments r statements' arguments' o
unfolding after_reading held_after
with_room {mode} {edition} {text} {words} {start} {kept} {statements} {arguments} {r} {kept'} {statements'} {arguments'} named formed inside enough o is room room' call =
    rw is at (go (reading_at mode text words start) refl (rw (← is) at room) (rw (← is) at room'))
  where
    answered : values r ≡ after_reading (kept_tokens text words) (short_zeros edition) (reading_at mode text words start) start (length statements) (length arguments)
    answered = call.answer ∙ rw (named.mode_known, named.edition_known, let_through text words start (length kept) formed enough inside)

    go : (x : Answer Reading) → reading_at mode text words start ≡ x
        → length (records_of (statement_records 0 0) x) ≤ length statements / statement_width
        → length (records_of argument_records x) ≤ length arguments / argument_width
        → Told statements arguments r statements' arguments' (outcome (kept_tokens text words) edition start x)
    go (read rd n) e hs ha =
        let many = as_many 0 0 rd in
        let told : values r ≡ body_numbers (kept_tokens text words) (short_zeros edition) start (read rd n) = answered ∙ rw e (rw (le-ltb _ _ (rw many.0 at hs), le-ltb _ _ (rw many.1 at ha))) in
        record { answer = told; statements_hold = call.statements_hold ∙ rw (e, told); arguments_hold = call.arguments_hold ∙ rw (e, told) }
    go (refused c q) e hs ha =
        let told : values r ≡ refusal_at (kept_tokens text words) c q = answered ∙ rw e in
        let ours = body_ours (rules_of mode) (kept_tokens text words) start c q e in
        record { answer = told; statements_hold = call.statements_hold ∙ rw told (held_refused c _ statements ours); arguments_hold = call.arguments_hold ∙ rw told (held_refused c _ arguments ours) }

-- ---- the edition

-- of a reading's answers only an accepted one hangs on the edition, and of that the plain length alone
reading_alike : (ts : List Token) (x : Answer Reading) (start st ar : ℕ)
    → (but_length (after_reading ts false x start st ar) ≡ but_length (after_reading ts true x start st ar))
    × (¬ (get_or (after_reading ts false x start st ar) 0 0 ≡ 0) → after_reading ts false x start st ar ≡ after_reading ts true x start st ar)
unfolding after_reading
reading_alike ts (refused c q) start st ar = (refl, (λ n. refl))
reading_alike ts (read rd n) start st ar = go (ltb (st / statement_width) (statement_count rd)) (ltb (ar / argument_width) (argument_count rd))
  where
    answered : Bool → Bool → Bool → List ℕ
    answered short b d =
        cond b (refusal number.StatementsTooSmall (statement_count rd)) (cond d (refusal number.ArgumentsTooSmall (argument_count rd)) (body_numbers ts short start (read rd n)))

    go : (b d : Bool) → (but_length (answered false b d) ≡ but_length (answered true b d)) × (¬ (get_or (answered false b d) 0 0 ≡ 0) → answered false b d ≡ answered true b d)
    go true d = (refl, (λ n. refl))
    go false true = (refl, (λ n. refl))
    go false false = (refl, (λ n. absurd (n refl)))

-- nor does one that was turned away
alike : (b : Bool) (v w away : List ℕ) → (but_length v ≡ but_length w) × (¬ (get_or v 0 0 ≡ 0) → v ≡ w)
    → (but_length (cond b v away) ≡ but_length (cond b w away)) × (¬ (get_or (cond b v away) 0 0 ≡ 0) → cond b v away ≡ cond b w away)
alike true v w away e = e
alike false v w away e = (refl, (λ n. refl))

-- two calls alike but for the edition, 1 in one and 2 in the other
module _ {mode : ℕ} {text words : List ℕ} {start : ℕ} {kept statements arguments : List ℕ} {r₁ r₂ : Result BodyRead BodyError} {kept₁ kept₂ statements₁ statements₂ arguments₁ arguments₂ : List ℕ}
    (first : BodyCall mode first_edition text words start kept statements arguments r₁ kept₁ statements₁ arguments₁)
    (second : BodyCall mode second_edition text words start kept statements arguments r₂ kept₂ statements₂ arguments₂) where
  abbrev said : ℕ × ℕ
  said = body_entrance mode first_edition text words start (length kept)

  numbers_alike : (but_length (values r₁) ≡ but_length (values r₂)) × (¬ (number_of r₁ ≡ 0) → values r₁ ≡ values r₂)
  unfolding is_edition
  numbers_alike =
      rw (first.answer, second.answer)
      (alike (eqb said.0 0)
      (after_reading (kept_tokens text words) false (reading_at mode text words start) start (length statements) (length arguments))
      (after_reading (kept_tokens text words) true (reading_at mode text words start) start (length statements) (length arguments))
      (refusal said.0 said.1) (reading_alike (kept_tokens text words) (reading_at mode text words start) start (length statements) (length arguments)))

  same_number : number_of r₁ ≡ number_of r₂
  same_number = number_alike (values r₁) (values r₂) numbers_alike.0

  -- all they answer and leave is the same, but for the plain length of an accepted call
  pub edition_alone : (but_length (values r₁) ≡ but_length (values r₂)) × (¬ (number_of r₁ ≡ 0) → values r₁ ≡ values r₂) × (kept₁ ≡ kept₂) × (statements₁ ≡ statements₂) × (arguments₁ ≡ arguments₂)
  unfolding is_edition
  edition_alone = (
    numbers_alike.0,
    numbers_alike.1,
    first.list ∙ sym second.list,
    first.statements_hold ∙ ap (λ (c : ℕ). held_after c (records_of (statement_records 0 0) (reading_at mode text words start)) statements) same_number ∙ sym second.statements_hold,
    first.arguments_hold ∙ ap (λ (c : ℕ). held_after c (records_of argument_records (reading_at mode text words start)) arguments) same_number ∙ sym second.arguments_hold,
  )

  -- and that, where the calls are accepted: NONE under one edition is NONE under the other, and lengths differ by exactly the number of zero literals that are no push's operand, in the
  -- reading of the tokens
  pub call_editions : (q n m size₁ : ℕ) → values r₁ ≡ acceptance q n m size₁
      → (k : ℕ) (rd : Reading) → Follows (rules_of mode) (kept_tokens text words) start k rd
      → (size₂ : ℕ) × (values r₂ ≡ acceptance q n m size₂) × ((size₁ ≡ NONE) ↔ (size₂ ≡ NONE)) × (¬ (size₁ ≡ NONE) → size₁ ≡ size₂ + body_free_zeros rd)
  call_editions q n m size₁ is k rd f =
      let told₁ : acceptance q n m size₁ ≡ body_numbers (kept_tokens text words) false start (read rd k) = sym is ∙ answers_reading first (number_is is) k rd f in
      let told₂ : values r₂ ≡ body_numbers (kept_tokens text words) true start (read rd k) = answers_reading second (sym same_number ∙ number_is is) k rd f in
      let word : (i : ℕ) → get_or (acceptance q n m size₁) i 0 ≡ get_or (body_numbers (kept_tokens text words) false start (read rd k)) i 0 = λ i. ap (λ (w : List ℕ). get_or w i 0) told₁ in
      let long : size₁ ≡ plain_length false rd = word 4 in (
        plain_length true rd,
        rw (word 1, word 2, word 3) told₂,
        rw long (none_alike (rules_of mode) (kept_tokens text words) start k rd (few_tokens first (number_is is)) f),
        (λ some. rw long (editions_differ rd (λ e. some (long ∙ e)))),
      )

-- ---- the rows marked P, and those of requests [1], [8] and [10]

-- for every well-formed text and words whose kept tokens are the row's, whatever their texts are where no rule looks at them, with room, a call from start 0 leaves
-- the row's numbers and tables
abbrev pub Answered : ℕ → ℕ → (ℕ → List ℕ) → Row → Type 0
Answered mode edition texts row =
    (text words kept statements arguments : List ℕ) (r : Result BodyRead BodyError) (kept' statements' arguments' : List ℕ)
    → WellFormed text words
    → kept_tokens text words ≡ tokens_of texts 0 (braced row.input)
    → length (kept_of words) ≤ length kept
    → length row.outcome.statements ≤ length statements / statement_width
    → length row.outcome.arguments ≤ length arguments / argument_width
    → BodyCall mode edition text words 0 kept statements arguments r kept' statements' arguments'
    → Told statements arguments r statements' arguments' row.outcome

-- where the reader gives a list of rows their outcomes, a call does
rows_answered : (mode edition : ℕ) (texts : ℕ → List ℕ) (list : List Row) → Named mode edition → outcomes mode edition texts list ≡ map (λ row. row.outcome) list → All (Answered mode edition texts) list
unfolding outcomes
rows_answered mode edition texts list named hold = all_map (λ row. answer row ≡ row.outcome) (Answered mode edition texts) list one (all_mapped answer (λ row. row.outcome) list hold)
  where
    answer : Row → Outcome
    answer row = let all = tokens_of texts 0 (braced row.input) in outcome all edition 0 (body_at (rules_of mode) all 0)

    one : (row : Row) → answer row ≡ row.outcome → Answered mode edition texts row
    one row e text words kept statements arguments r kept' statements' arguments' formed same enough room room' call =
        let some = kept_not_empty text words formed in
        with_room named formed some enough row.outcome (rw same e) room room' call

pub call_rows : {edition : ℕ} → is_edition edition ≡ true → (texts : ℕ → List ℕ) → All (Answered lenient_mode edition texts) rows
unfolding is_mode
call_rows {edition} known texts = rows_answered lenient_mode edition texts rows (record { mode_known = refl; edition_known = known }) (rows_hold edition texts)

-- those of request [1]
pub call_strict_rows : {edition : ℕ} → is_edition edition ≡ true → (texts : ℕ → List ℕ) → All (Answered strict_mode edition texts) strict_rows
unfolding is_mode
call_strict_rows {edition} known texts = rows_answered strict_mode edition texts strict_rows (record { mode_known = refl; edition_known = known }) (strict_rows_hold edition texts)

-- those of request [8]
pub call_edition_rows : (texts : ℕ → List ℕ)
    → All (Answered lenient_mode first_edition texts) (edition_rows (λ first second. first))
    × All (Answered lenient_mode second_edition texts) (edition_rows (λ first second. second))
unfolding is_mode is_edition
call_edition_rows texts = (
  rows_answered lenient_mode first_edition texts (edition_rows (λ first second. first)) (record { mode_known = refl; edition_known = refl }) (edition_rows_hold texts).0,
  rows_answered lenient_mode second_edition texts (edition_rows (λ first second. second)) (record { mode_known = refl; edition_known = refl }) (edition_rows_hold texts).1,
)

-- those of request [10], in both modes
pub call_type_rows : {edition : ℕ} → is_edition edition ≡ true → (texts : ℕ → List ℕ)
    → All (Answered lenient_mode edition texts) type_rows × All (Answered strict_mode edition texts) type_rows
unfolding is_mode
call_type_rows {edition} known texts = (
  rows_answered lenient_mode edition texts type_rows (record { mode_known = refl; edition_known = known }) (type_rows_hold edition texts).0,
  rows_answered strict_mode edition texts type_rows (record { mode_known = refl; edition_known = known }) (type_rows_hold edition texts).1,
)
