-- The entry: the kept list as the door leaves it, tables that hold records and then zeros, and the answer for what was read. Assumes nothing.
use Prim.Native.Nat.{ℕ, ◌+◌, ◌-◌, ◌/◌}
use native.Mathlib.Nat.{zero-add, sub-zero}
use native.Mathlib.Omega.{arith}
use mathlib.Core.Path.{◌≡◌, refl, sym, ap, ◌∙◌}
use mathlib.Core.Bool.{Bool, true, false, cond}
use mathlib.Core.List.{List, [], ◌∷◌, flatten}
use borrow.Author.Tests.{ltb-false, eqb-true, eqb-false}
use lib.ListN.{length, get_or, take, drop, replicate}
use lib.Dec.{eqb, ltb}
use Rattle.tokens.specs.Number as number
use Rattle.tokens.specs.Number.{statement_width, argument_width}
use Rattle.tokens.specs.Token.{Token, view}
use Rattle.tokens.specs.Lent.{put_all, cleared_behind}
use Rattle.tokens.specs.Door.{Prepared}
use Rattle.tokens.specs.declared.door.Unready.{Unready}
use Rattle.tokens.specs.declared.door.Unready.TheVariants as unready
use Rattle.tokens.specs.Place.{Place}
use Rattle.tokens.proofs.PlaceLaws.{kept_part}
use Rattle.tokens.proofs.LentLaws.{cleared_none, Wide, records_then_zeros}
use Rattle.grammar.specs.Reading.{NONE, Reading}
use Rattle.grammar.specs.Rules.{Rules, is_mode, rules_of}
use Rattle.grammar.specs.Result as why
use Rattle.grammar.specs.Result.{Res, got, bad, beyond, read, answer}
use Rattle.grammar.specs.Reader.{body_from, body_at}
use Rattle.grammar.specs.Facts.{All}
use Rattle.grammar.specs.Records.{statement_records, argument_records, statement_count, argument_count}
use Rattle.grammar.specs.Call.{refusal, body_numbers, filled, held_after}
use Rattle.grammar.specs.PlainLength.{is_edition, short_zeros, plain_length}
use Rattle.grammar.proofs.Demand.{body_exactly}
use Rattle.grammar.proofs.Numbers.{body_ours, held_refused}
use Rattle.grammar.proofs.Recorded.{as_many, as_wide}
use Rattle.statements.specs.declared.item.Progress.{Progress}
use Rattle.std.specs.Prelude.{Some, None, Result, Ok, Err, IfSome, unwrap_or, ◌≢◌}
use Rattle.lists.specs.declared.before.Before.{Before}
use Rattle.tokens.specs.declared.source.Source.{Source}
use Rattle.tokens.specs.Source.{all, count}
use Rattle.statements.specs.declared.choice.Mode.{Mode}
use Rattle.statements.specs.declared.choice.Mode.TheVariants.{Lenient, Strict}
use Rattle.statements.specs.declared.choice.Edition.{Edition}
use Rattle.statements.specs.declared.choice.Edition.TheVariants.{First, Second}
use Rattle.statements.specs.Choice.{mode_number, edition_number}
use Rattle.statements.specs.declared.entry.BodyRead.{BodyRead}
use Rattle.statements.specs.declared.entry.BodyError.{BodyError}
use Rattle.statements.specs.declared.entry.BodyError.TheVariants.{UnknownMode, UnknownEdition, Refused, StatementsTooSmall, ArgumentsTooSmall}
use Rattle.statements.specs.Answers.{Counting, BodyParsed}
use Rattle.statements.specs.Call.{values, number_of, Own, at_door, after_reading, BodyCall}
use Rattle.statements.specs.Length.{length_from, length_told}
use Rattle.statements.specs.Settled.{settled_read, Settled, BodyTaken}
use Rattle.statements.proofs.LengthLaws.{length_is}

-- ---- records, then zeros

-- records that are all as wide, as the tables' laws take them
pub all_wide : (w : ℕ) (rs : List (List ℕ)) → All (λ r. length r ≡ w) rs → Wide w rs
all_wide w [] h = tt
all_wide w (r ∷ rs) h = (h.0, all_wide w rs h.1)

-- no records
pub filled_none : (n : ℕ) → filled n [] ≡ replicate n 0
unfolding flatten
filled_none n = ap (λ (k : ℕ). replicate k 0) (sub-zero n)

none_left : (w : ℕ) (t u : List ℕ) → length u ≡ length t → cleared_behind w 0 u ≡ filled (length t) []
none_left w t u same = cleared_none w u ∙ ap (λ (n : ℕ). replicate n 0) same ∙ sym (filled_none (length t))

-- ---- the answer

abbrev start_progress : ℕ → Progress
start_progress start = record { at = start; statements = 0; arguments = 0 }

-- a length told, as its number
number_again : (long : ℕ) → (unwrap_or (length_told long) NONE ≡ long) × IfSome (length_told long) (λ n. n ≢ NONE)
number_again long = go (eqb long NONE) refl
  where
    go : (b : Bool) → eqb long NONE ≡ b → (unwrap_or (cond b None (Some long)) NONE ≡ long) × IfSome (cond b None (Some long)) (λ n. n ≢ NONE)
    go true e = (sym (eqb-true long NONE e), tt)
    go false e = (refl, eqb-false long NONE e)

module _ (tokens : List Token) (short : Bool) (st ar : List ℕ) (rd : Reading) (start n : ℕ) where
  abbrev end_progress : Progress
  end_progress = record { at = start + n; statements = statement_count rd; arguments = argument_count rd }

  -- an answer for the reading, and what the settling by it leaves, as they are promised
  record Answers (st₁ ar₁ : List ℕ) (r : Result BodyRead BodyError) (v : List ℕ) : Type 0 where
    said : values r ≡ v
    mine : Own r
    statements_left : cleared_behind statement_width (get_or (values r) 2 0) st₁ ≡ held_after (number_of r) (statement_records 0 0 rd) st
    arguments_left : cleared_behind argument_width (get_or (values r) 3 0) ar₁ ≡ held_after (number_of r) (argument_records rd) ar

  settled_answers : {st₁ ar₁ : List ℕ} → st₁ ≡ put_all statement_width st 0 (statement_records 0 0 rd) → ar₁ ≡ put_all argument_width ar 0 (argument_records rd)
      → length st₁ ≡ length st → length ar₁ ≡ length ar
      → Answers st₁ ar₁ (settled_read end_progress (length_told (plain_length short rd)) (length st) (length ar)) (after_reading tokens short (read rd n) start (length st) (length ar))
  unfolding after_reading held_after
  settled_answers {st₁} {ar₁} es ea ls la = go (ltb (length st / statement_width) (statement_count rd)) refl (ltb (length ar / argument_width) (argument_count rd)) refl
    where
      go : (b : Bool) → ltb (length st / statement_width) (statement_count rd) ≡ b → (d : Bool) → ltb (length ar / argument_width) (argument_count rd) ≡ d
          → Answers st₁ ar₁
          (cond b (Err (StatementsTooSmall (statement_count rd))) (cond d (Err (ArgumentsTooSmall (argument_count rd))) (Ok (record { cursor = start + n; statements = statement_count rd; arguments = argument_count rd; length = length_told (plain_length short rd) }))))
          (cond b (refusal number.StatementsTooSmall (statement_count rd)) (cond d (refusal number.ArgumentsTooSmall (argument_count rd)) (body_numbers tokens short start (read rd n))))
      go true eb d ed = record { said = refl; mine = tt; statements_left = none_left statement_width st st₁ ls; arguments_left = none_left argument_width ar ar₁ la }
      go false eb true ed = record { said = refl; mine = tt; statements_left = none_left statement_width st st₁ ls; arguments_left = none_left argument_width ar ar₁ la }
      go false eb false ed =
          let many = as_many 0 0 rd in
          let wide = as_wide 0 0 rd in
          let long = number_again (plain_length short rd) in
          record {
            said = rw long.0;
            mine = long.1;
            statements_left = records_then_zeros statement_width (statement_records 0 0 rd) st (omega arith) (all_wide statement_width (statement_records 0 0 rd) wide.0) many.0 (ltb-false _ _ eb) es;
            arguments_left = records_then_zeros argument_width (argument_records rd) ar (omega arith) (all_wide argument_width (argument_records rd) wide.1) many.1 (ltb-false _ _ ed) ea;
          }

-- from a place of the list a body can be read, with no records before it
abbrev nothing_before : Before
nothing_before = record { statements = 0; arguments = 0 }

pub body_begins : {words kept : List ℕ} {p : ℕ} → Place words kept p → Counting words kept (start_progress p) nothing_before
body_begins g =
    record {
      list = g.list;
      inside = g.inside;
      statements = omega arith;
      arguments = omega arith;
      statements_before = omega arith;
      arguments_before = omega arith;
    }

-- what the parser read, settled
pub body_taken : (m : Rules) (short : Bool) (source : Source) (start : ℕ) (st ar : List ℕ) {st₁ ar₁ st₂ ar₂ : List ℕ} {x : Result Progress (ℕ × ℕ)} {r : Result BodyRead BodyError}
    → BodyParsed (start_progress start) nothing_before (count source) (body_from m start (drop start (all source))) st ar x st₁ ar₁
    → length st₁ ≡ length st
    → length ar₁ ≡ length ar
    → Settled (all source) x (length_told (length_from short (all source) start)) st₁ ar₁ r st₂ ar₂
    → BodyTaken m short (all source) start st ar r st₂ ar₂
unfolding body_at after_reading
body_taken m short source start st ar {st₁} {ar₁} {st₂} {ar₂} {x} {r} v ls la w = go (body_from m start (drop start (all source))) refl
  where
    go : (y : Res Reading) → body_from m start (drop start (all source)) ≡ y → BodyTaken m short (all source) start st ar r st₂ ar₂
    go (bad y q) e =
        let v' = rw e at v in
        let w' = rw v'.is at w in
        let told = w'.answer.0 in
        let is : r ≡ Err (Refused (why.number y, q + beyond y) told) = w'.answer.1 in
        let ours = body_ours m (all source) start (why.number y) (q + beyond y) (ap answer e) in
        record {
          answer = ap values is ∙ rw (w'.answer.2, e);
          own = rw is ours;
          statements_hold = w'.statements_hold ∙ rw is (none_left statement_width st st₁ ls ∙ sym (held_refused _ _ st ours));
          arguments_hold = w'.arguments_hold ∙ rw is (none_left argument_width ar ar₁ la ∙ sym (held_refused _ _ ar ours));
        }
    go (got rd k) e =
        let v' = rw e at v in
        let w' = rw v'.is at w in
        let long : length_from short (all source) start ≡ plain_length short rd =
        length_is short m (all source) start k rd ((body_exactly m (all source) start k rd).0 (ap answer e)) in
        let is : r ≡ settled_read (end_progress (all source) short st ar rd start k) (length_told (plain_length short rd)) (length st) (length ar) =
        w'.answer ∙ rw (ls, la, long, zero-add (statement_count rd), zero-add (argument_count rd)) in
        let told = settled_answers (all source) short st ar rd start k v'.statements_hold v'.arguments_hold ls la in
        record {
          answer = ap values is ∙ told.said ∙ rw e;
          own = rw is told.mine;
          statements_hold = w'.statements_hold ∙ rw (e, is) told.statements_left;
          arguments_hold = w'.arguments_hold ∙ rw (e, is) told.arguments_left;
        }

-- ---- the mode and the edition

-- a number that is a mode's, or an edition's
pub mode_known : (m : Mode) {mode : ℕ} → mode_number m ≡ mode → is_mode mode ≡ true
unfolding is_mode
mode_known Lenient e = rw (← e)
mode_known Strict e = rw (← e)

pub edition_known : (x : Edition) {edition : ℕ} → edition_number x ≡ edition → is_edition edition ≡ true
unfolding is_edition
edition_known First e = rw (← e)
edition_known Second e = rw (← e)

-- ---- the call

-- 36 and 38: nothing lent has changed
pub call_unknown : {mode edition : ℕ} {text words kept st ar : List ℕ} {start : ℕ} → is_mode mode ≡ false → BodyCall mode edition text words start kept st ar (Err UnknownMode) kept st ar
unfolding held_after
call_unknown e = record { answer = rw e; own = tt; list = rw e; statements_hold = refl; arguments_hold = refl }

pub call_unmeasured : {mode edition : ℕ} {text words kept st ar : List ℕ} {start : ℕ} → is_mode mode ≡ true → is_edition edition ≡ false → BodyCall mode edition text words start kept st ar (Err UnknownEdition) kept st ar
unfolding held_after
call_unmeasured e f = record { answer = rw (e, f); own = tt; list = rw (e, f); statements_hold = refl; arguments_hold = refl }

-- the whole call, by the door's answer: let through, what was read
pub call_read : {mode edition : ℕ} {text words st ar kept kept' st' ar' : List ℕ} {start n : ℕ} {r : Result BodyRead BodyError}
    → is_mode mode ≡ true
    → is_edition edition ≡ true
    → Prepared text words start kept (Ok n) kept'
    → BodyTaken (rules_of mode) (short_zeros edition) (view text words (take (n - 0) kept')) start st ar r st' ar'
    → BodyCall mode edition text words start kept st ar r kept' st' ar'
call_read {text = text} {words} {kept = kept} {start = start} known measured p v =
    let v' = rw (kept_part text words start kept p refl).0 at v in
    record { answer = v'.answer ∙ rw (known, measured, sym p.answer); own = v'.own; list = p.list ∙ rw (known, measured); statements_hold = v'.statements_hold; arguments_hold = v'.arguments_hold }

-- 30, 35 and 31: nothing lent has changed
pub call_refused : {mode edition : ℕ} {text words kept st ar kept' : List ℕ} {start : ℕ} (d : Unready)
    → is_mode mode ≡ true
    → is_edition edition ≡ true
    → Prepared text words start kept (Err d) kept'
    → BodyCall mode edition text words start kept st ar (Err (at_door d)) kept' st ar
unfolding held_after
call_refused (unready.NotWellFormed at) known measured p =
    record { answer = rw (known, measured, sym p.answer); own = tt; list = p.list ∙ rw (known, measured); statements_hold = refl; arguments_hold = refl }
call_refused (unready.KeptTooShort count) known measured p =
    record { answer = rw (known, measured, sym p.answer); own = tt; list = p.list ∙ rw (known, measured); statements_hold = refl; arguments_hold = refl }
call_refused (unready.StartOutside start) known measured p =
    record { answer = rw (known, measured, sym p.answer); own = tt; list = p.list ∙ rw (known, measured); statements_hold = refl; arguments_hold = refl }
