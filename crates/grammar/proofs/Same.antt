-- Request [12]: what two calls with the same kept tokens leave. The definition records at two positions differ in their last two words alone; and by a call's number
-- it is told whether it was turned away at its entrance. Assumes nothing.
use Prim.Native.Nat.{ℕ, ◌+◌}
use mathlib.Core.Path.{◌≡◌, refl, sym, ap, ◌∙◌}
use mathlib.Core.Bool.{Bool, true, false, cond, not, true≢false}
use mathlib.Core.List.{List, [], ◌∷◌, map, map-id}
use lib.ListN.{length, get_or, take, length-map}
use lib.Seq.{sets}
use lib.Dec.{eqb}
use Rattle.tokens.specs.Number.{UnknownMode, UnknownEdition}
use Rattle.tokens.specs.Token.{Token, Positions}
use Rattle.tokens.specs.Kept.{kept_of}
use Rattle.tokens.specs.Door.{door, kept_after}
use Rattle.tokens.proofs.DoorLaws.{Means, means_30, means_35, means_31, means_through, door_means}
use Rattle.grammar.specs.Reading.{Reading}
use Rattle.grammar.specs.Records.{statement_records, argument_records}
use Rattle.grammar.specs.Rules.{is_mode}
use Rattle.grammar.specs.PlainLength.{is_edition}
use Rattle.grammar.specs.Result.{Answer, read, refused}
use Rattle.grammar.specs.Facts.{All, HasWords}
use Rattle.grammar.specs.FileReading.{Definition}
use Rattle.grammar.specs.FileRecords.{form_count, form_arguments, definition_record, definition_records, file_statements, file_argument_records}
use Rattle.grammar.specs.Call.{refusal, body_numbers, file_numbers, chosen, file_entrance, body_entrance, after_door, records_of, filled, turned_away, held_after}
use Rattle.grammar.specs.TextRanges.{unplaced_width, placed}
use Rattle.grammar.specs.Same.{AfterBoth, OwnNumbers, SameRecords, SameDefinitions, as_is}
use Rattle.grammar.proofs.Recorded.{as_many}
use Rattle.grammar.proofs.FileRecorded.{file_as_many, two_words}

-- ---- definition records at any positions

-- tokens that stand nowhere: the records at these positions, without their last two words, are those at any
abbrev nowhere : Positions
nowhere = record { start = λ p. 0; end = λ p. 0 }

abbrev placeless : List (List ℕ) → List (List ℕ)
placeless rs = map (take unplaced_width) rs

record_placed : (pos : Positions) (i a : ℕ) (d : Definition) → definition_record pos i a d ≡ placed pos (take unplaced_width (definition_record nowhere i a d))
unfolding definition_record
record_placed pos i a d = rw (two_words d.form)

record_wide : (i a : ℕ) (d : Definition) → HasWords unplaced_width (take unplaced_width (definition_record nowhere i a d))
unfolding definition_record
record_wide i a d = rw (two_words d.form)

records_placed : (pos : Positions) (i a : ℕ) (ds : List Definition) → definition_records pos i a ds ≡ map (placed pos) (placeless (definition_records nowhere i a ds))
unfolding definition_records
records_placed pos i a [] = refl
records_placed pos i a (d ∷ ds) = rw (record_placed pos i a d, records_placed pos (i + form_count d.form) (a + length (form_arguments d.form)) ds)

records_wide : (i a : ℕ) (ds : List Definition) → All (HasWords unplaced_width) (placeless (definition_records nowhere i a ds))
unfolding definition_records
records_wide i a [] = tt
records_wide i a (d ∷ ds) = (record_wide i a d, records_wide (i + form_count d.form) (a + length (form_arguments d.form)) ds)

-- ---- turned away or not

-- what an entrance says is 0, or a number of those that are turned away
abbrev pub Turns : ℕ × ℕ → Type 0
Turns said = turned_away said.0 ≡ not (eqb said.0 0)

chosen_turns : (isOne : Bool) (c : ℕ) (next : ℕ × ℕ) → turned_away c ≡ not (eqb c 0) → Turns next → Turns (chosen isOne c next)
chosen_turns true c next away on = on
chosen_turns false c next away on = away

door_turns : (text words : List ℕ) (start room : ℕ) → Turns (door text words start room)
door_turns text words start room = go (door text words start room) (door_means text words start room)
  where
    go : (said : ℕ × ℕ) → Means text words start room said → Turns said
    go said (means_30 f) = refl
    go said (means_35 f h) = refl
    go said (means_31 f h k) = refl
    go said (means_through l) = refl

pub file_turns : (mode : ℕ) (text words : List ℕ) (room : ℕ) → Turns (file_entrance mode text words room)
file_turns mode text words room = chosen_turns (is_mode mode) UnknownMode (door text words 0 room) refl (door_turns text words 0 room)

pub body_turns : (mode edition : ℕ) (text words : List ℕ) (start room : ℕ) → Turns (body_entrance mode edition text words start room)
body_turns mode edition text words start room =
    chosen_turns (is_mode mode) UnknownMode (chosen (is_edition edition) UnknownEdition (door text words start room)) refl
    (chosen_turns (is_edition edition) UnknownEdition (door text words start room) refl (door_turns text words start room))

-- so the answer's number tells it, where what is answered behind the entrance is none of those
pub told_away : (said : ℕ × ℕ) (then : List ℕ) → Turns said → turned_away (get_or then 0 0) ≡ false → turned_away (get_or (after_door said then) 0 0) ≡ not (eqb said.0 0)
told_away said then turns stays = go (eqb said.0 0) refl
  where
    go : (b : Bool) → eqb said.0 0 ≡ b → turned_away (get_or (cond b then (refusal said.0 said.1)) 0 0) ≡ not b
    go true e = stays
    go false e = turns ∙ rw e

-- ---- what both calls leave

-- the kept lists, by the one number that both entrances say
pub own_numbers : (c : ℕ) {lent lent₂ lent' lent₂' : List ℕ} (words words₂ : List ℕ) (said : ℕ) → turned_away c ≡ not (eqb said 0)
    → lent' ≡ kept_after said words lent
    → lent₂' ≡ kept_after said words₂ lent₂
    → AfterBoth (turned_away c) (OwnNumbers words words₂) lent lent₂ lent' lent₂'
own_numbers c {lent} {lent₂} {lent'} {lent₂'} words words₂ said told is is₂ = go (eqb said 0) told is is₂
  where
    go : (b : Bool) → turned_away c ≡ not b → lent' ≡ cond b (sets lent 0 (kept_of words)) lent → lent₂' ≡ cond b (sets lent₂ 0 (kept_of words₂)) lent₂
        → AfterBoth (turned_away c) (OwnNumbers words words₂) lent lent₂ lent' lent₂'
    go true told is is₂ = record { unchanged = λ e. absurd (true≢false (sym e ∙ told)); same = λ e. record { first = is; second = is₂ } }
    go false told is is₂ = record { unchanged = λ e. (is, is₂); same = λ e. absurd (true≢false (sym told ∙ e)) }

-- what a call with this number writes of a reading's records
abbrev pub written : ℕ → List (List ℕ) → List (List ℕ)
written c rs = cond (eqb c 0) rs []

-- tables, where each has what it writes of the same records
same_records : (c : ℕ) {lent lent₂ lent' lent₂' : List ℕ} (whole whole₂ : List ℕ → List ℕ) (count width : ℕ) (rs rs₂ base : List (List ℕ))
    → lent' ≡ held_after c rs lent
    → lent₂' ≡ held_after c rs₂ lent₂
    → rs ≡ map whole base
    → rs₂ ≡ map whole₂ base
    → All (HasWords width) base
    → length (written c base) ≡ count
    → AfterBoth (turned_away c) (SameRecords whole whole₂ count width) lent lent₂ lent' lent₂'
unfolding held_after
same_records c {lent} {lent₂} whole whole₂ count width rs rs₂ base is is₂ e e₂ wide many =
    record {
      unchanged = λ t. (is ∙ rw t, is₂ ∙ rw t);
      same = λ t. record { parts = written c base; as_many = many; wide = all (eqb c 0); first = is ∙ rw t (holds whole rs lent e (eqb c 0)); second = is₂ ∙ rw t (holds whole₂ rs₂ lent₂ e₂ (eqb c 0)) };
    }
  where
    holds : (whole : List ℕ → List ℕ) (rs : List (List ℕ)) (lent : List ℕ) → rs ≡ map whole base → (b : Bool)
        → cond b (filled (length lent) rs) (filled (length lent) []) ≡ filled (length lent) (map whole (cond b base []))
    holds whole rs lent e true = ap (filled (length lent)) e
    holds whole rs lent e false = refl

    all : (b : Bool) → All (HasWords width) (cond b base [])
    all true = wide
    all false = tt

-- of one length they have the same words
pub same_words : {count width : ℕ} {lent lent₂ lent' lent₂' : List ℕ} → length lent ≡ length lent₂ → SameRecords as_is as_is count width lent lent₂ lent' lent₂' → lent' ≡ lent₂'
same_words long same = same.first ∙ ap (λ (n : ℕ). filled n (map as_is same.parts)) long ∙ sym same.second

-- ---- the records of an answer

-- what holds of the records of every reading
records_all : {A : Type 0} (P : List ℕ → Type 0) (records : A → List (List ℕ)) → ((a : A) → All P (records a)) → (x : Answer A) → All P (records_of records x)
records_all P records each (read a n) = each a
records_all P records each (refused c q) = tt

-- the definition records without their last two words
abbrev unplaced : Answer (List Definition) → List (List ℕ)
unplaced x = records_of (λ ds. placeless (definition_records nowhere 0 0 ds)) x

definitions_placed : (pos : Positions) (x : Answer (List Definition)) → records_of (definition_records pos 0 0) x ≡ map (placed pos) (unplaced x)
definitions_placed pos (read ds n) = records_placed pos 0 0 ds
definitions_placed pos (refused c q) = refl

unplaced_wide : (x : Answer (List Definition)) → All (HasWords unplaced_width) (unplaced x)
unplaced_wide = records_all (HasWords unplaced_width) (λ ds. placeless (definition_records nowhere 0 0 ds)) (records_wide 0 0)

-- as many as the answer says
pub body_counted : (kept : List Token) (short : Bool) (start : ℕ) (x : Answer Reading)
    → (length (records_of (statement_records 0 0) x) ≡ get_or (body_numbers kept short start x) 2 0) × (length (records_of argument_records x) ≡ get_or (body_numbers kept short start x) 3 0)
body_counted kept short start (read rd n) = as_many 0 0 rd
body_counted kept short start (refused c q) = (refl, refl)

pub file_counted : (kept : List Token) (pos : Positions) (x : Answer (List Definition))
    → (length (records_of (definition_records pos 0 0) x) ≡ get_or (file_numbers kept x) 2 0)
    × (length (records_of (file_statements 0 0) x) ≡ get_or (file_numbers kept x) 3 0)
    × (length (records_of file_argument_records x) ≡ get_or (file_numbers kept x) 4 0)
file_counted kept pos (read ds n) = file_as_many pos 0 0 ds
file_counted kept pos (refused c q) = (refl, refl, refl)

-- ---- tables of one reading

module _ {c c₂ : ℕ} (same : c ≡ c₂) {count : ℕ} {lent lent₂ lent' lent₂' : List ℕ} where
  pub same_table : {A : Type 0} {width : ℕ} (records : A → List (List ℕ)) (x x₂ : Answer A) → x ≡ x₂ → ((a : A) → All (HasWords width) (records a))
      → lent' ≡ held_after c (records_of records x) lent
      → lent₂' ≡ held_after c₂ (records_of records x₂) lent₂
      → length (written c (records_of records x)) ≡ count
      → AfterBoth (turned_away c) (SameRecords as_is as_is count width) lent lent₂ lent' lent₂'
  same_table {width = width} records x x₂ e wide is is₂ many =
      same_records c as_is as_is count width (records_of records x) (records_of records x₂) (records_of records x) is (is₂ ∙ rw same)
      (sym (map-id (records_of records x))) (rw e (sym (map-id (records_of records x₂)))) (records_all (HasWords width) records wide x) many

  -- the definitions at two positions
  pub same_definitions : (pos pos₂ : Positions) (x x₂ : Answer (List Definition)) → x ≡ x₂
      → lent' ≡ held_after c (records_of (definition_records pos 0 0) x) lent
      → lent₂' ≡ held_after c₂ (records_of (definition_records pos₂ 0 0) x₂) lent₂
      → length (written c (records_of (definition_records pos 0 0) x)) ≡ count
      → AfterBoth (turned_away c) (SameDefinitions pos pos₂ count) lent lent₂ lent' lent₂'
  same_definitions pos pos₂ x x₂ e is is₂ many =
      same_records c (placed pos) (placed pos₂) count _ (records_of (definition_records pos 0 0) x) (records_of (definition_records pos₂ 0 0) x₂) (unplaced x) is (is₂ ∙ rw same)
      (definitions_placed pos x) (rw e (definitions_placed pos₂ x₂)) (unplaced_wide x) (as_many_placed (eqb c 0) ∙ many)
    where
      as_many_placed : (b : Bool) → length (cond b (unplaced x) []) ≡ length (cond b (records_of (definition_records pos 0 0) x) [])
      as_many_placed true = sym (ap length (definitions_placed pos x) ∙ length-map (unplaced x) (placed pos))
      as_many_placed false = refl
