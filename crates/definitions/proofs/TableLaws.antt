-- Laws of tables: a turn of the loop over the entries, its ends, the signs before the brace, and the record. Assumes nothing.
use Prim.Native.Nat.{ℕ, suc, ◌+◌, ◌-◌, ◌≤◌, ◌<◌}
use native.Mathlib.Nat.{add-zero, zero-add}
use native.Mathlib.Numerals.{add-one, add-two}
use native.Mathlib.Omega.{arith}
use mathlib.Core.Path.{◌≡◌, refl, sym, ap, ◌∙◌}
use mathlib.Core.Bool.{Bool, true, false, cond, ◌&&◌}
use mir.Val.{bool_byte}
use mathlib.Core.List.{List, [], ◌∷◌}
use mathlib.Core.Logic.{◌⊎◌, inl, inr, ⊎_elim}
use Rattle.std.specs.Prelude.{Some, None, Result, Ok, Err}
use borrow.Author.Tests.{eq-eqb, ne_eqb, eqb-true}
use lib.Dec.{eqb}
use lib.ListN.{length, drop, length-take, drop_of_length-le}
use Rattle.tokens.specs.Token.{Token, eof_token, token_at, view}
use Rattle.tokens.specs.Place.{kind_at, KindAt, start_at, end_at, text_at, Lined}
use Rattle.tokens.specs.Source.{all, all_from, count}
use Rattle.tokens.specs.declared.source.Source.{Source}
use Rattle.tokens.specs.Number.{InvalidDefinition, statement_width}
use Rattle.tokens.specs.Lent.{put, put_all}
use Rattle.tokens.specs.Kind.{JumpTable, JumpTablePacked, CodeTable, Ident, OpenParen, CloseParen, OpenBrace, CloseBrace, Assign}
use Rattle.tokens.proofs.Laws.{lt_or_le, and_left}
use Rattle.tokens.proofs.LentLaws.{put_length}
use Rattle.tokens.proofs.TokenLaws.{view_kind, view_length, view_past, view_text}
use Rattle.grammar.specs.Rules.{Rules}
use Rattle.grammar.specs.Result.{plain, number, beyond, Res, got, bad, on, refuse, leave, taken, stepped, with_one_more, Step, choose, expect, counted, consed, seq, many}
use Rattle.grammar.specs.FileReading.{TableSort, jump_table, packed_table, code_table, TableEntry, Form, a_table, Definition, digit_total, size_of}
use Rattle.grammar.specs.FileGrammar.{entry_allowed, forget_entry}
use Rattle.grammar.specs.FileReader.{by_kind, kind_table, optional, named, sign, table_entry, ends_table, table_entries, parse_table_body, table_rest, parse_table}
use Rattle.grammar.specs.FileRecords.{entry_type, entry_records, form_arguments, form_count, form_statements}
use Rattle.grammar.specs.Written.{RefusedRead}
use Rattle.grammar.proofs.AtPlace.{look_at, many_ends, many_goes, many_refuses, many_runs_out}
use Rattle.lists.specs.declared.before.Before.{Before}
use Rattle.definitions.specs.declared.record.DefRead.{DefRead}
use Rattle.definitions.specs.declared.table.TableKind.{TableKind}
use Rattle.definitions.specs.declared.table.TableKind.TheVariants.{Jump, Packed, Code}
use Rattle.definitions.specs.declared.table.Entries.{Entries}
use Rattle.definitions.specs.Answers.{definition_number, table_kind, is_named, DefParsed}
use Rattle.definitions.specs.Behind.{Opening, formed, behind_name}
use Rattle.definitions.specs.Found.{definition_of}
use Rattle.definitions.specs.Tables.{table_sort, table_token, size_with, past_sign, past_signs, entries_from, entries_answer, Past, EntriesRead, table_found}
use Rattle.lists.proofs.At.{NoneOf, kind_is, look_table, look_else, expect_yes, expect_no}
use Rattle.definitions.proofs.DefinitionLaws.{chosen}
use Rattle.definitions.proofs.HeadLaws.{refused_parsed, name_missing, name_read}
use Rattle.definitions.proofs.Readers.{Answering, Told, value_told, refusal_told, same_refusal, stops_here, as_stops, counted_stops, seq_stops, seq_at, counted_twice}

-- ---- the loop over the entries

-- how the loop ends: entries, digits, the place of the brace and the table; or the refusal's number and cursor
abbrev pub Outcome : Type 0
Outcome = Result (ℕ × ℕ × ℕ × List ℕ) (ℕ × ℕ)

module _ (sort : TableSort) (i a : ℕ) where
  -- the end that a reading from q has, with m entries and so many digits before it
  abbrev pub outcome : List ℕ → ℕ → ℕ → ℕ → Res (List TableEntry) → Outcome
  outcome table m digits q (got es k) = Ok (m + length es, digits + digit_total es, q + k, put_all statement_width table m (entry_records sort (i + m) a es))
  outcome table m digits q (bad y w) = Err (number y, w + beyond y)

  abbrev pub row : ℕ → ℕ → List ℕ
  row m q = entry_type sort ∷ q ∷ suc q ∷ suc (i + m) ∷ 0 ∷ a ∷ 0 ∷ q ∷ []

  one_more : (table : List ℕ) (m digits q : ℕ) (t : Token) (rest : Res (List TableEntry))
      → outcome table m digits q (counted 1 (consed (record { place = q; token = t }) rest))
      ≡ outcome (put statement_width table m (row m q)) (m + 1) (digits + length t.text) (q + 1) rest
  unfolding put_all entry_records digit_total
  one_more table m digits q t (got es n) =
      let count : m + suc (length es) ≡ m + 1 + length es = omega arith in
      let place : q + (1 + n) ≡ q + 1 + n = omega arith in
      let total : digits + (length t.text + digit_total es) ≡ digits + length t.text + digit_total es = omega arith in
      let next : suc (i + m) ≡ i + (m + 1) = omega arith in
      cc
  one_more table m digits q t (bad y w) = refl

  module _ (all : List Token) where
    -- what the loop comes to from q
    abbrev pub left : List ℕ → ℕ → ℕ → ℕ → Outcome
    left table m digits q = outcome table m digits q (table_entries sort q (drop q all))

    module _ (table : List ℕ) (m digits q : ℕ) where
      abbrev entry : Token → Bool
      entry t = eqb t.kind Ident && entry_allowed sort t

      entry_read : entry (token_at all q) ≡ true → table_entry sort q (drop q all) ≡ got (record { place = q; token = token_at all q }) 1
      unfolding table_entry
      entry_read e =
          look_at (λ t. cond (entry t) (taken (record { place = q; token = t })) (refuse (plain 11))) q all
          ∙ ap (λ b. stepped (cond b (taken (record { place = q; token = token_at all q })) (refuse (plain 11))) q (drop (suc q) all)) e

      entry_refused : entry (token_at all q) ≡ false → table_entry sort q (drop q all) ≡ bad (plain 11) q
      unfolding table_entry
      entry_refused e =
          look_at (λ t. cond (entry t) (taken (record { place = q; token = t })) (refuse (plain 11))) q all
          ∙ ap (λ b. stepped (cond b (taken (record { place = q; token = token_at all q })) (refuse (plain 11))) q (drop (suc q) all)) e

      -- an entry is read and its record written
      pub left_step : q < length all → ((token_at all q).kind ≡ CloseBrace → ⊥) → entry (token_at all q) ≡ true
          → left table m digits q ≡ left (put statement_width table m (row m q)) (m + 1) (digits + length (token_at all q).text) (q + 1)
      unfolding table_entries
      left_step h off e =
          ap (outcome table m digits q)
          (many_goes ends_table forget_entry (λ s. table_entry sort) tt q all (record { place = q; token = token_at all q }) 0 h (ne_eqb _ _ off) (entry_read e))
          ∙ one_more table m digits q (token_at all q) (many ends_table forget_entry (λ s. table_entry sort) tt 0 (q + 1) (drop (q + 1) all))

      -- the loop stops at the brace
      pub left_end : q < length all → (token_at all q).kind ≡ CloseBrace → left table m digits q ≡ Ok (m, digits, q, table)
      unfolding table_entries put_all entry_records digit_total
      left_end h e =
          ap (outcome table m digits q) (many_ends ends_table forget_entry (λ s. table_entry sort) tt q all h (eq-eqb _ _ e))
          ∙ rw (add-zero m, add-zero digits, add-zero q)

      -- another token is refused, also past the end
      pub left_refused : ((token_at all q).kind ≡ CloseBrace → ⊥) → entry (token_at all q) ≡ false → left table m digits q ≡ Err (11, q)
      unfolding table_entries
      left_refused off e =
          let u = entry_refused e in
          ap (outcome table m digits q)
          (⊎_elim (λ (h : q < length all). many_refuses ends_table forget_entry (λ s. table_entry sort) tt q all (plain 11) q h (ne_eqb _ _ off) u)
          (λ (h : length all ≤ q). many_runs_out ends_table forget_entry (λ s. table_entry sort) tt q all (plain 11) q h (ap (table_entry sort q) (sym (drop_of_length-le all h)) ∙ u))
          (lt_or_le q (length all)))
          ∙ ap (λ (w : ℕ). Err (11, w)) (add-zero q)

-- ---- what the loop keeps

-- digits is no more than the start of the next token: tokens don't overlap
pub digits_fit : (text words kept : List ℕ) (q digits : ℕ) → Lined words kept → q < length kept → digits ≤ start_at words kept q
    → digits + length (text_at text words kept q) ≤ end_at words kept q
digits_fit text words kept q digits l h d =
    let r = l.range q h in
    let short : length (text_at text words kept q) ≤ end_at words kept q - start_at words kept q = rw length-take (omega arith) in
    omega arith

pub record Turns (sort : TableSort) (i a : ℕ) (text words kept : List ℕ) (p : ℕ) (st₀ st : List ℕ) (m digits q : ℕ) : Type 0 where
  pub same : left sort i a (view text words kept) st m digits q ≡ left sort i a (view text words kept) st₀ 0 0 p
  pub count : m + p ≡ q
  pub inside : q ≤ length kept
  pub before : q < length kept → digits ≤ start_at words kept q
  pub few : digits ≤ 1048576
  pub size : length st ≡ length st₀

-- ---- the entries and the brace

abbrev brace : List TableEntry → ℕ → List Token → Res (List TableEntry)
brace es = expect CloseBrace (plain 11) (λ c q ts. got es 0)

entries_told : (p : ℕ) → Answering (entries_answer p) (λ es k. record { count = length es; digits = digit_total es; end = p + k })
entries_told p = record { says = λ es k. refl; tells = λ y w. refl }

module _ {sort : TableSort} {p size : ℕ} {before : Before} {st st' : List ℕ} where
  pub entries_refused : {x : Res (List TableEntry)} {f : ℕ × ℕ} → RefusedRead x f.0 f.1 → EntriesRead sort p before size x st (Err f) st'
  entries_refused s = rw s.is (record { is = same_refusal s; table = tt; within = tt })

module _ (sort : TableSort) (p : ℕ) (before : Before) (st : List ℕ) (all : List Token) where
  abbrev i : ℕ
  i = before.statements

  abbrev a : ℕ
  a = before.arguments

  -- the loop comes to the brace at e.2
  pub loop_done : {size : ℕ} (e : ℕ × ℕ × ℕ × List ℕ) → left sort i a all st 0 0 p ≡ Ok e → (token_at all e.2).kind ≡ CloseBrace
      → e.0 + p ≡ e.2 → e.2 + 1 ≤ size → e.1 ≤ 1048576
      → EntriesRead sort p before size (entries_from sort p (drop p all)) st (Ok (record { count = e.0; digits = e.1; end = e.2 + 1 })) e.3
  unfolding entries_from
  loop_done {size} e o h count inside few = go (table_entries sort p (drop p all)) refl o
    where
      go : (x : Res (List TableEntry)) → table_entries sort p (drop p all) ≡ x → outcome sort i a st 0 0 p x ≡ Ok e
          → EntriesRead sort p before size (entries_from sort p (drop p all)) st (Ok (record { count = e.0; digits = e.1; end = e.2 + 1 })) e.3
      go (got es k) u o =
          let ends : p + k ≡ e.2 = cc o in
          let all_of : e.0 ≡ length es = cc (o, zero-add (length es)) in
          let total : e.1 ≡ digit_total es = cc (o, zero-add (digit_total es)) in
          let place : e.2 + 1 ≡ p + (k + 1) = omega arith in
          let written : e.3 ≡ put_all statement_width st 0 (entry_records sort (i + 0) a es) = cc o in
          rw (seq_at (table_entries sort) brace p all u ends ∙ ap (counted k) (expect_yes e.2 all CloseBrace (plain 11) (λ c q ts. got es 0) h))
          (record {
            is = rw (all_of, total, place) refl;
            table = written ∙ rw (add-zero i) refl;
            within = (omega arith, inside, omega arith, few);
          })
      go (bad y w) u o = cc o

  -- the loop is refused
  pub loop_stops : {f : ℕ × ℕ} → left sort i a all st 0 0 p ≡ Err f → RefusedRead (entries_from sort p (drop p all)) f.0 f.1
  unfolding entries_from
  loop_stops {f} o = go (table_entries sort p (drop p all)) refl o
    where
      go : (x : Res (List TableEntry)) → table_entries sort p (drop p all) ≡ x → outcome sort i a st 0 0 p x ≡ Err f → RefusedRead (entries_from sort p (drop p all)) f.0 f.1
      go (got es k) u o = cc o
      go (bad y w) u o = seq_stops (table_entries sort) brace p (drop p all) (record { why = y; place = w; is = u; numbered = (cc o); cursor = (cc o) })

module _ {sort : TableSort} {p : ℕ} {before : Before} {st : List ℕ} (all : List Token) where
  pub body_unopened : {size : ℕ} {st' : List ℕ} → ((token_at all p).kind ≡ OpenBrace → ⊥) → EntriesRead sort p before size (parse_table_body sort p (drop p all)) st (Err (1, p)) st'
  unfolding parse_table_body entries_from
  body_unopened h = entries_refused (stops_here (expect_no p all OpenBrace (plain 1) (λ o. entries_from sort) h) refl)

  pub body_opened : {size q : ℕ} {r : Result Entries (ℕ × ℕ)} {st' : List ℕ} → (token_at all p).kind ≡ OpenBrace → q ≡ suc p → EntriesRead sort q before size (entries_from sort q (drop q all)) st r st'
      → EntriesRead sort p before size (parse_table_body sort p (drop p all)) st r st'
  unfolding parse_table_body entries_from
  body_opened {size} {q} {r} {st'} h q-is s =
      rw (expect_yes p all OpenBrace (plain 1) (λ o. entries_from sort) h) (go (entries_from sort (suc p) (drop (suc p) all)) (rw q-is at s))
    where
      go : (x : Res (List TableEntry)) → EntriesRead sort (suc p) before size x st r st' → EntriesRead sort p before size (with_one_more x) st r st'
      go (got es k) s =
          let place : suc p + k ≡ p + suc k = omega arith in
          let w = rw s.is at s.within in
          record {
            is = s.is ∙ ap (λ e. Ok (record { count = length es; digits = digit_total es; end = e })) place;
            table = s.table;
            within = rw s.is (omega arith, omega arith, omega arith, w.3);
          }
      go (bad y w) s = record { is = s.is; table = tt; within = rw s.is tt }

-- by the kind that was read
module _ (sort : TableSort) (text : List ℕ) {words kept : List ℕ} (p : ℕ) {k : ℕ} (here : KindAt words kept p k) {before : Before} {st : List ℕ} where
  pub body_missing : {f : ℕ × ℕ} → (k ≡ OpenBrace → ⊥) → f ≡ (1, p) → EntriesRead sort p before (length kept) (parse_table_body sort p (drop p (view text words kept))) st (Err f) st
  body_missing h same = rw same (body_unopened (view text words kept) (λ e. h (sym (kind_is text p here refl) ∙ e)))

  pub body_behind : {r : Result Entries (ℕ × ℕ)} {st' : List ℕ} → k ≡ OpenBrace → EntriesRead sort (p + 1) before (length kept) (entries_from sort (p + 1) (drop (p + 1) (view text words kept))) st r st'
      → EntriesRead sort p before (length kept) (parse_table_body sort p (drop p (view text words kept))) st r st'
  body_behind e h = body_opened (view text words kept) (kind_is text p here refl ∙ e) (add-one p) h

-- ---- the signs before the brace

record Signs (sort : TableSort) (p q : ℕ) (all : List Token) : Type 0 where
  count : ℕ
  ends : p + count ≡ q
  is : table_rest sort p (drop p all) ≡ counted count (seq (parse_table_body sort) (λ es x ts. got (a_table sort es) 0) q (drop q all))

-- the place behind a token that may stand at p
pub sign_behind : {words kept : List ℕ} {p kind k n : ℕ} → KindAt words kept p k → 0 < kind → p ≤ length kept → n ≡ bool_byte (eqb k kind)
    → Past p (length kept) (past_sign words kept kind p) (p + n)
unfolding past_sign
sign_behind {words} {kept} {p} {kind} {k} {n} at some low is = go (eqb k kind) refl
  where
    go : (b : Bool) → eqb k kind ≡ b → Past p (length kept) (cond (eqb (kind_at words kept p) kind) (suc p) p) (p + n)
    go true e =
        let one : n ≡ 1 = is ∙ ap bool_byte e in
        let same : k ≡ kind = eqb-true _ _ e in
        record { is = rw (sym at.is, e, one) (add-one p); low = omega arith; high = omega (arith, at.inside) }
    go false e =
        let none : n ≡ 0 = is ∙ ap bool_byte e in
        record { is = rw (sym at.is, e, none) (add-zero p); low = omega arith; high = omega arith }

module _ (text words kept : List ℕ) where
  sign_read : (k p : ℕ) → sign k p (drop p (view text words kept)) ≡ got (tt {0}) (cond (eqb (kind_at words kept p) k) 1 0)
  unfolding optional
  sign_read k p =
      look_at (λ t. cond (eqb t.kind k) (on (λ q ts. got (tt {0}) 0)) (leave (tt {0}))) p (view text words kept)
      ∙ ap (λ x. stepped (cond (eqb x k) (on (λ q ts. got (tt {0}) 0)) (leave (tt {0}))) p (drop (suc p) (view text words kept))) (view_kind text words kept p)
      ∙ go (eqb (kind_at words kept p) k)
    where
      go : (b : Bool) → stepped (cond b (on (λ q ts. got (tt {0}) 0)) (leave (tt {0}))) p (drop (suc p) (view text words kept)) ≡ got (tt {0}) (cond b 1 0)
      go true = refl
      go false = refl

  sign_ends : (k p : ℕ) → p + cond (eqb (kind_at words kept p) k) 1 0 ≡ past_sign words kept k p
  unfolding past_sign
  sign_ends k p = go (eqb (kind_at words kept p) k)
    where
      go : (b : Bool) → p + cond b 1 0 ≡ cond b (suc p) p
      go true = add-one p
      go false = add-zero p

  signs : (sort : TableSort) (p : ℕ) → Signs sort p (past_signs words kept p) (view text words kept)
  unfolding table_rest
  signs sort p =
      record {
        count = n + (m + l);
        ends = omega (arith, sign_ends OpenParen p, sign_ends CloseParen q, sign_ends Assign r);
        is =
            seq_at (sign OpenParen) (λ o. seq (sign CloseParen) (λ c. seq (sign Assign) (λ a. body))) p all (sign_read OpenParen p) (sign_ends OpenParen p)
            ∙ ap (counted n)
            (seq_at (sign CloseParen) (λ c. seq (sign Assign) (λ a. body)) q all (sign_read CloseParen q) (sign_ends CloseParen q)
            ∙ ap (counted m) (seq_at (sign Assign) (λ a. body) r all (sign_read Assign r) (sign_ends Assign r)))
            ∙ ap (counted n) (sym (counted_twice m l (body (past_signs words kept p) (drop (past_signs words kept p) all))))
            ∙ sym (counted_twice n (m + l) (body (past_signs words kept p) (drop (past_signs words kept p) all)));
      }
    where
      all : List Token
      all = view text words kept

      q : ℕ
      q = past_sign words kept OpenParen p

      r : ℕ
      r = past_sign words kept CloseParen q

      n : ℕ
      n = cond (eqb (kind_at words kept p) OpenParen) 1 0

      m : ℕ
      m = cond (eqb (kind_at words kept q) CloseParen) 1 0

      l : ℕ
      l = cond (eqb (kind_at words kept r) Assign) 1 0

      body : ℕ → List Token → Res Form
      body = seq (parse_table_body sort) (λ es x ts. got (a_table sort es) 0)

-- ---- the whole

size_is : (sort : TableSort) (es : List TableEntry) → size_of sort es ≡ size_with sort (length es) (digit_total es)
unfolding size_of
size_is jump_table es = refl
size_is packed_table es = refl
size_is code_table es = refl

table_unnamed : (sort : TableSort) → is_named (definition_number (table_kind sort)) ≡ false
unfolding is_named
table_unnamed jump_table = refl
table_unnamed packed_table = refl
table_unnamed code_table = refl

module _ (sort : TableSort) (first name p : ℕ) (text words kept : List ℕ) {size q : ℕ} {before : Before} {st ar st' : List ℕ} where
  pub table_refused : {ar' : List ℕ} {f : ℕ × ℕ} {r : Result DefRead (ℕ × ℕ)} → q ≡ past_signs words kept p
      → EntriesRead sort q before size (parse_table_body sort q (drop q (view text words kept))) st (Err f) st'
      → r ≡ Err f
      → DefParsed 5 (view text words kept) p before size (behind_name first name (view text words kept) (table_rest sort) p) st ar r st' ar'
  unfolding behind_name
  table_refused q-is h =
      let s = signs text words kept sort p in
      refused_parsed
      (seq_stops (table_rest sort) (formed first name (view text words kept)) p (drop p (view text words kept))
      (as_stops s.is
      (counted_stops s.count
      (seq_stops (parse_table_body sort) (λ es x ts. got (a_table sort es) 0) (past_signs words kept p) (drop (past_signs words kept p) (view text words kept))
      (rw q-is at (refusal_told (entries_told q) _ h.is))))))

  pub table_read : {e : Entries} {r : Result DefRead (ℕ × ℕ)} → q ≡ past_signs words kept p → p ≤ q
      → EntriesRead sort q before size (parse_table_body sort q (drop q (view text words kept))) st (Ok e) st'
      → r ≡ Ok (record { definition = definition_of before (table_found sort first name e); arguments = 0 })
      → DefParsed 5 (view text words kept) p before size (behind_name first name (view text words kept) (table_rest sort) p) st ar r st' ar
  unfolding behind_name form_count form_arguments form_statements put_all
  table_read {e} {r} q-is low h is = go (signs text words kept sort p) (value_told (entries_told q) _ h.is)
    where
      all : List Token
      all = view text words kept

      go : Signs sort p (past_signs words kept p) all → Told (λ es k. record { count = length es; digits = digit_total es; end = q + k }) (parse_table_body sort q (drop q all)) e
          → DefParsed 5 all p before size (behind_name first name all (table_rest sort) p) st ar r st' ar
      go s g =
          let w = h.within in
          let ends : q + g.size ≡ e.end = sym (ap (λ x. x.end) g.same) in
          let count : e.count ≡ length g.value = ap (λ x. x.count) g.same in
          let total : e.digits ≡ digit_total g.value = ap (λ x. x.digits) g.same in
          let end : e.end ≡ p + (s.count + (g.size + 0)) = omega (arith, s.ends) in
          let place : p + (s.count + (g.size + 0)) ≡ p + (s.count + (g.size + 0) + 0) = omega arith in
          let form = s.is ∙ ap (counted s.count) (seq_at (parse_table_body sort) (λ es x ts. got (a_table sort es) 0) (past_signs words kept p) all (rw q-is at g.is) refl) in
          let bytes : size_with sort e.count e.digits ≡ size_of sort g.value = rw (count, total) (sym (size_is sort g.value)) in
          rw (seq_at (table_rest sort) (formed first name all) p all form refl)
          (record {
            is = is ∙ rw (end, bytes, count, add-zero before.arguments) refl;
            statements_hold = (rw g.is at h.table) ∙ rw (add-zero (before.arguments + 0), add-zero before.arguments) refl;
            arguments_hold = refl;
            stands = (refl, place);
            within = rw (is, table_unnamed sort) (omega arith, omega arith, omega arith, omega arith, tt);
          })

-- ---- the first token

module _ (first p : ℕ) (all : List Token) where
  abbrev tables : List (ℕ × Step Definition)
  tables = (JumpTable, on (named first (table_rest jump_table))) ∷ (JumpTablePacked, on (named first (table_rest packed_table))) ∷ (CodeTable, on (named first (table_rest code_table))) ∷ []

  pub table_opens : (kind : TableKind) → (token_at all p).kind ≡ table_token kind
      → parse_table first p (drop p all) ≡ with_one_more (named first (table_rest (table_sort kind)) (suc p) (drop (suc p) all))
  unfolding parse_table choose
  table_opens Jump e = look_table p all (λ t. tables) (λ t. refuse (plain 1)) JumpTable e
  table_opens Packed e = look_table p all (λ t. tables) (λ t. refuse (plain 1)) JumpTablePacked e
  table_opens Code e = look_table p all (λ t. tables) (λ t. refuse (plain 1)) CodeTable e

-- by the kinds that were read
module _ (first : ℕ) (source : Source) (p : ℕ) {k : ℕ} (here : KindAt source.tokens.now source.kept.now p k) where
  pub no_table : {before : Before} {st ar : List ℕ} {f : ℕ × ℕ} → Opening table_token k None → f ≡ (1, p) → DefParsed 7 (all source) p before (count source) (parse_table first p (all_from source p)) st ar (Err f) st ar
  unfolding parse_table
  no_table h same =
      refused_parsed
      (stops_here
      (look_else p (all source) (λ t. tables first p (all source)) (λ t. refuse (plain 1)) k (kind_is source.text.now p here refl) (h Jump, (h Packed, (h Code, tt)))
      ∙ look_at (λ t. refuse (plain 1)) p (all source))
      refl)
      (rw same refl)

  module _ {l : ℕ} (there : KindAt source.tokens.now source.kept.now (p + 1) l) (kind : TableKind) (opens : Opening table_token k (Some kind)) where
    opened : parse_table first p (all_from source p) ≡ with_one_more (named first (table_rest (table_sort kind)) (suc p) (all_from source (suc p)))
    opened = table_opens first p (all source) kind (kind_is source.text.now p here refl ∙ opens)

    pub table_nameless : {before : Before} {st ar : List ℕ} {f : ℕ × ℕ} → (l ≡ Ident → ⊥) → f ≡ (1, p + 1)
        → DefParsed 7 (all source) p before (count source) (parse_table first p (all_from source p)) st ar (Err f) st ar
    table_nameless h same =
        refused_parsed
        (stops_here
        (opened
        ∙ ap with_one_more (name_missing first p (table_rest (table_sort kind)) (all source) (λ e. h (sym (kind_is source.text.now (suc p) there (add-one p)) ∙ e))))
        (add-one p))
        (rw same refl)

    -- by what is read behind its name
    pub table_behind : {before : Before} {st ar : List ℕ} {r : Result DefRead (ℕ × ℕ)} {st' ar' : List ℕ} → l ≡ Ident
        → DefParsed 5 (all source) (p + 2) before (count source) (behind_name first (p + 1) (all source) (table_rest (table_sort kind)) (p + 2)) st ar r st' ar'
        → DefParsed 7 (all source) p before (count source) (parse_table first p (all_from source p)) st ar r st' ar'
    table_behind e h =
        rw opened (name_read first p (table_rest (table_sort kind)) (kind_is source.text.now (suc p) there (add-one p) ∙ e) (add-one p) (add-two p) h)

-- behind Define all three have one reader
pub table_chosen : (rules : Rules) (first : ℕ) (source : Source) (p : ℕ) {k : ℕ} → KindAt source.tokens.now source.kept.now p k → JumpTable ≤ k → k ≤ CodeTable
    → by_kind (kind_table rules first) (plain InvalidDefinition) p (all_from source p) ≡ parse_table first p (all_from source p)
unfolding choose
table_chosen rules first source p {k} here low high =
    chosen source p here rules first k refl
    ∙ ⊎_elim (λ (s : k ≡ 13). rw s) (⊎_elim (λ (s : k ≡ 14). rw s) (λ (s : k ≡ 15). rw s)) which
  where
    which : (k ≡ 13) ⊎ ((k ≡ 14) ⊎ (k ≡ 15))
    which =
        ⊎_elim (λ (l : k < 14). inl (omega arith))
        (λ (l : 14 ≤ k). inr (⊎_elim (λ (g : k < 15). inl (omega arith)) (λ (g : 15 ≤ k). inr (omega arith)) (lt_or_le k 15)))
        (lt_or_le k 14)

-- what is past a macro and none of the four between is a table or behind it
pub past_four : (k : ℕ) → 8 < k → (k ≡ 9 → ⊥) → (k ≡ 10 → ⊥) → (k ≡ 11 → ⊥) → (k ≡ 12 → ⊥) → 13 ≤ k
past_four k h a b c d =
    ⊎_elim (λ (l : k < 10). absurd (a (omega arith)))
    (λ (l : 10 ≤ k).
    ⊎_elim (λ (m : k < 11). absurd (b (omega arith)))
    (λ (m : 11 ≤ k).
    ⊎_elim (λ (n : k < 12). absurd (c (omega arith)))
    (λ (n : 12 ≤ k). ⊎_elim (λ (o : k < 13). absurd (d (omega arith))) (λ (o : 13 ≤ k). o) (lt_or_le k 13))
    (lt_or_le k 12))
    (lt_or_le k 11))
    (lt_or_le k 10)

-- a kind outside these begins no definition
pub none_begins : (rules : Rules) (first : ℕ) {k : ℕ} → (k < 6) ⊎ (15 < k) → NoneOf (kind_table rules first) k
none_begins rules first {k} h =
    (off 9 (omega arith) (omega arith), (off 10 (omega arith) (omega arith), (off 11 (omega arith) (omega arith), (off 12 (omega arith) (omega arith), (off 6 (omega arith) (omega arith), (off 7 (omega arith) (omega arith), (off 8 (omega arith) (omega arith), (off 13 (omega arith) (omega arith), (off 14 (omega arith) (omega arith), (off 15 (omega arith) (omega arith), tt))))))))))
  where
    off : (n : ℕ) → 6 ≤ n → n ≤ 15 → k ≡ n → ⊥
    off n low high e = ⊎_elim (λ (l : k < 6). omega arith) (λ (g : 15 < k). omega arith) h

-- ---- a turn of the loop

module _ {sort : TableSort} {before : Before} {text words kept : List ℕ} {p : ℕ} {st₀ st : List ℕ} {m digits q k : ℕ}
    (t : Turns sort before.statements before.arguments text words kept p st₀ st m digits q)
    (at : KindAt words kept q k) where
  here : (token_at (view text words kept) q).kind ≡ k
  here = kind_is text q at refl

  -- the brace
  pub turn_done : k ≡ CloseBrace → EntriesRead sort p before (length kept) (entries_from sort p (drop p (view text words kept))) st₀ (Ok (record { count = m; digits = digits; end = q + 1 })) st
  turn_done e =
      let inside : q < length kept = omega (arith, at.inside) in
      loop_done sort p before st₀ (view text words kept) (m, digits, q, st)
      (sym t.same ∙ left_end sort before.statements before.arguments (view text words kept) st m digits q (rw view_length inside) (here ∙ e))
      (here ∙ e) t.count (omega arith) t.few

  module _ (off : k ≡ CloseBrace → ⊥) {r : Bool}
      (said : r ≡ (eqb (kind_at words kept q) Ident && entry_allowed sort (token_at (view text words kept) q))) where
    entry_is : (b : Bool) → r ≡ b → (eqb (token_at (view text words kept) q).kind Ident && entry_allowed sort (token_at (view text words kept) q)) ≡ b
    entry_is b e = ap (λ x. eqb x Ident && entry_allowed sort (token_at (view text words kept) q)) (view_kind text words kept q) ∙ sym said ∙ e

    -- another token
    pub turn_refused : r ≡ false → EntriesRead sort p before (length kept) (entries_from sort p (drop p (view text words kept))) st₀ (Err (11, q)) st
    turn_refused e =
        entries_refused
        (loop_stops sort p before st₀ (view text words kept)
        (sym t.same ∙ left_refused sort before.statements before.arguments (view text words kept) st m digits q (λ x. off (sym here ∙ x)) (entry_is false e)))

    module _ (yes : r ≡ true) where
      pub turn_inside : q < length kept
      turn_inside =
          let ident : kind_at words kept q ≡ Ident = eqb-true _ _ (and_left _ _ (sym said ∙ yes)) in
          omega (arith, at.inside, at.is)

      module _ (lined : Lined words kept) {len : ℕ} (counts : len ≡ length (text_at text words kept q)) where
        fit : digits + len ≤ end_at words kept q
        fit = rw counts (digits_fit text words kept q digits lined turn_inside (t.before turn_inside))

        pub turn_few : digits + len ≤ 1048576
        turn_few = omega (arith, fit, lined.end q turn_inside)

        -- an entry and its record
        pub turn_on : {ty : ℕ} {st' : List ℕ} → ty ≡ entry_type sort → st' ≡ put statement_width st m (ty ∷ q ∷ suc q ∷ suc (before.statements + m) ∷ 0 ∷ before.arguments ∷ 0 ∷ q ∷ [])
            → Turns sort before.statements before.arguments text words kept p st₀ st' (m + 1) (digits + len) (q + 1)
        turn_on {ty} {st'} ty-is written =
            let st_is : st' ≡ put statement_width st m (row sort before.statements before.arguments m q) = written ∙ ap (λ y. put statement_width st m (y ∷ q ∷ suc q ∷ suc (before.statements + m) ∷ 0 ∷ before.arguments ∷ 0 ∷ q ∷ [])) ty-is in
            let len_is : len ≡ length (token_at (view text words kept) q).text = counts ∙ ap length (sym (view_text text words kept q)) in
            let inside : q < length kept = turn_inside in
            record {
              same =
                  rw (st_is, len_is)
                  (sym (left_step sort before.statements before.arguments (view text words kept) st m digits q (rw view_length inside) (λ x. off (sym here ∙ x)) (entry_is true yes))
                  ∙ t.same);
              count = omega (arith, t.count);
              inside = omega arith;
              before = λ h. let step : end_at words kept q ≤ start_at words kept (q + 1) = rw add-one (lined.next q (omega arith)) in omega (arith, fit);
              few = turn_few;
              size = rw st_is (put_length statement_width st m (row sort before.statements before.arguments m q) ∙ t.size);
            }

-- past the last token there is no brace
pub no_brace_left : {sort : TableSort} {before : Before} {text words kept : List ℕ} {p : ℕ} {st₀ st : List ℕ} {m digits q : ℕ}
    → Turns sort before.statements before.arguments text words kept p st₀ st m digits q → length kept ≤ q
    → EntriesRead sort p before (length kept) (entries_from sort p (drop p (view text words kept))) st₀ (Err (11, length kept)) st
no_brace_left {sort} {before} {text} {words} {kept} {p} {st₀} {st} {m} {digits} {q} t h =
    let at_end : q ≡ length kept = omega (arith, h, t.inside) in
    let none : token_at (view text words kept) q ≡ eof_token = view_past text words kept q h in
    rw (sym at_end)
    (entries_refused
    (loop_stops sort p before st₀ (view text words kept)
    (sym t.same ∙ left_refused sort before.statements before.arguments (view text words kept) st m digits q (rw none (λ x. omega (arith, x))) (rw none refl))))
