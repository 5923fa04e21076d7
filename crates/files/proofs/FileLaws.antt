-- Laws of the file's loop: what is still to be read, on the tables as they are, comes to what was to be read at the start, on the tables as they were.
-- Assumes nothing.
use Prim.Native.Nat.{ℕ, zero, suc, ◌+◌, ◌-◌, ◌≤◌, ◌<◌, min, ◌*◌}
use native.Mathlib.Nat.{add-zero, zero-add}
use native.Mathlib.Omega.{arith}
use mathlib.Core.Path.{◌≡◌, refl, sym, ap, ◌∙◌}
use mathlib.Core.Bool.{Bool, true, false}
use mathlib.Core.List.{List, [], ◌∷◌, map, map-append}
use borrow.Author.Tests.{eq-eqb, ne_eqb}
use borrow.Rule.Slice.PartMut.{mid_of, put_mid}
use lib.ListN.{length, drop, length-append, length-map}
use Rattle.std.specs.Prelude.{Result, Ok, Err}
use Rattle.tokens.specs.Kind.{Eof}
use Rattle.tokens.specs.Token.{Token, token_at, view, Positions, positions}
use Rattle.tokens.specs.Place.{KindAt}
use Rattle.tokens.specs.Name.{one_of}
use Rattle.tokens.specs.Number.{UnexpectedType, DuplicateMacro, definition_width, statement_width, argument_width}
use Rattle.tokens.specs.Lent.{put_all}
use Rattle.tokens.proofs.TokenLaws.{view_kind, view_length}
use Rattle.tokens.proofs.LentLaws.{put_all_append, rest_written}
use Rattle.grammar.specs.Rules.{Rules}
use Rattle.grammar.specs.Result.{Why, plain, number, beyond, Res, got, bad, counted, consed, many, choose}
use Rattle.grammar.specs.Records.{argument_record}
use Rattle.grammar.specs.FileReading.{Definition, is_macro}
use Rattle.grammar.specs.FileGrammar.{repeats, remember_name}
use Rattle.grammar.specs.FileReader.{by_kind, top_level, checked, ends_file, definition, parse}
use Rattle.grammar.specs.FileRecords.{definition_record, definition_records, form_statements, form_arguments, form_count, behind_declared, file_statements, file_arguments, file_argument_records, file_statement_count}
use Rattle.grammar.proofs.FileRecorded.{form_many}
use Rattle.grammar.proofs.AtPlace.{many_ends, many_goes, many_refuses, many_runs_out}
use Rattle.definitions.specs.declared.record.Definition as code
use Rattle.definitions.specs.declared.record.DefRead.{DefRead}
use Rattle.names.specs.Names.{Seen, Checked}
use Rattle.files.specs.Answers.{Readable, FileParsed}
use Rattle.definitions.specs.Answers.{definition_number, code_definition, is_named, own_statements, own_arguments, DefAdded, DefWithin}
use Rattle.definitions.proofs.HeadLaws.{named_is}

-- ---- the rests of the tables

-- what is put at the beginning of the lent rests stands in the tables behind the records before
pub added : {all : List Token} {pos : Positions} {p d i a size x y z : ℕ} {read : Res Definition} {de st ar de₁ st₁ ar₁ : List ℕ} {r : Result DefRead (ℕ × ℕ)}
    → x ≡ min (d * definition_width) (length de)
    → y ≡ min (i * statement_width) (length st)
    → z ≡ min (a * argument_width) (length ar)
    → DefAdded all pos p (record { statements = i; arguments = a }) size read 0 0 0 (mid_of x (length de - x) de) (mid_of y (length st - y) st) (mid_of z (length ar - z) ar) r de₁ st₁ ar₁
    → DefAdded all pos p (record { statements = i; arguments = a }) size read d i a de st ar r (put_mid x (length de - x) de de₁) (put_mid y (length st - y) st st₁) (put_mid z (length ar - z) ar ar₁)
added {pos = pos} {d = d} {i} {a} {x = x} {y} {z} {read = got v k} {de} {st} {ar} ex ey ez h =
    record {
      is = h.is;
      definitions_hold =
          ap (put_mid x (length de - x) de) h.definitions_hold
          ∙ rest_written definition_width (definition_record pos i a v ∷ []) de d x (omega arith) ex;
      statements_hold =
          ap (put_mid y (length st - y) st) h.statements_hold
          ∙ rest_written statement_width (own_statements (record { statements = i; arguments = a }) v) st i y (omega arith) ey;
      arguments_hold =
          ap (put_mid z (length ar - z) ar) h.arguments_hold
          ∙ rest_written argument_width (own_arguments v) ar a z (omega arith) ez;
      stands = h.stands;
      within = h.within;
    }
added {read = bad w q} ex ey ez h =
    record { is = h.is; definitions_hold = tt; statements_hold = tt; arguments_hold = tt; stands = tt; within = h.within }

-- ---- how the loop ends

-- the place, the three counts and the tables; or the refusal's number and cursor
pub data Outcome : Type 0 where
  ended : ℕ → ℕ → ℕ → ℕ → List ℕ → List ℕ → List ℕ → Outcome
  stopped : ℕ → ℕ → Outcome

-- the end that a reading from place p has, on tables that have d, i and a records
abbrev pub outcome : Positions → List ℕ → List ℕ → List ℕ → ℕ → ℕ → ℕ → ℕ → Res (List Definition) → Outcome
outcome pos de st ar p d i a (got ds k) =
    ended (p + k) (d + length ds) (i + file_statement_count ds) (a + length (file_arguments ds))
    (put_all definition_width de d (definition_records pos i a ds))
    (put_all statement_width st i (file_statements i a ds))
    (put_all argument_width ar a (file_argument_records ds))
outcome pos de st ar p d i a (bad y w) = stopped (number y) (w + beyond y)

same_end : {p d i a p' d' i' a' : ℕ} {de st ar de' st' ar' : List ℕ} → p ≡ p' → d ≡ d' → i ≡ i' → a ≡ a' → de ≡ de' → st ≡ st' → ar ≡ ar'
    → ended p d i a de st ar ≡ ended p' d' i' a' de' st' ar'
same_end e f g h k l m = cc

module _ (pos : Positions) (de st ar : List ℕ) (p d i a : ℕ) (x : Definition) where
  abbrev de⁺ : List ℕ
  de⁺ = put_all definition_width de d (definition_record pos i a x ∷ [])

  abbrev st⁺ : List ℕ
  st⁺ = put_all statement_width st i (form_statements i (behind_declared a x.form) x.form)

  abbrev ar⁺ : List ℕ
  ar⁺ = put_all argument_width ar a (map argument_record (form_arguments x.form))

  -- one definition more, of k tokens
  one_more : (k : ℕ) (rest : Res (List Definition))
      → outcome pos de st ar p d i a (counted k (consed x rest))
      ≡ outcome pos de⁺ st⁺ ar⁺ (p + k) (d + 1) (i + form_count x.form) (a + length (form_arguments x.form)) rest
  unfolding put_all definition_records file_statements file_arguments file_argument_records file_statement_count
  one_more k (got ds n) =
      let ss = form_statements i (behind_declared a x.form) x.form in
      let rest = file_statements (i + form_count x.form) (a + length (form_arguments x.form)) ds in
      let here = form_arguments x.form in
      same_end
      (omega arith)
      (omega arith)
      (omega arith)
      (omega (arith, length-append here (file_arguments ds)))
      refl
      (put_all_append statement_width st i ss rest ∙ ap (λ (n : ℕ). put_all statement_width st⁺ (i + n) rest) (form_many i (behind_declared a x.form) x.form))
      (ap (put_all argument_width ar a) (map-append argument_record here (file_arguments ds))
      ∙ put_all_append argument_width ar a (map argument_record here) (map argument_record (file_arguments ds))
      ∙ ap (λ (n : ℕ). put_all argument_width ar⁺ (a + n) (map argument_record (file_arguments ds))) (length-map here argument_record))
  one_more k (bad y w) = refl

-- the end that the loop comes to from place p, behind macros, fns and tests of these names
abbrev pub left : Rules → List Token → Positions → List ℕ → List ℕ → List ℕ → ℕ → ℕ → ℕ → List (List ℕ) → ℕ → Outcome
left rules all pos de st ar d i a seen p = outcome pos de st ar p d i a (many ends_file remember_name (definition rules true) seen 0 p (drop p all))

-- ---- a turn

module _ (rules : Rules) (all : List Token) (pos : Positions) (de st ar : List ℕ) (d i a : ℕ) (seen : List (List ℕ)) (p : ℕ) where
  -- Eof
  pub left_end : p < length all → (token_at all p).kind ≡ Eof → left rules all pos de st ar d i a seen p ≡ ended p d i a de st ar
  unfolding put_all definition_records file_statements file_arguments file_argument_records file_statement_count
  left_end h e =
      ap (outcome pos de st ar p d i a) (many_ends ends_file remember_name (definition rules true) seen p all h (eq-eqb _ _ e))
      ∙ same_end (add-zero p) (add-zero d) (add-zero i) (add-zero a) refl refl refl

  -- past the end of a list without an Eof
  pub left_out : length all ≤ p → left rules all pos de st ar d i a seen p ≡ stopped UnexpectedType p
  unfolding definition checked top_level by_kind choose
  left_out h =
      ap (outcome pos de st ar p d i a) (many_runs_out ends_file remember_name (definition rules true) seen p all (plain UnexpectedType) p h refl)
      ∙ ap (stopped UnexpectedType) (add-zero p)

  module _ (inside : p < length all) (other : (token_at all p).kind ≡ Eof → ⊥) where
    goes : (x : Definition) (k : ℕ) → definition rules true seen p (drop p all) ≡ got x k → p < p + k
        → left rules all pos de st ar d i a seen p
        ≡ left rules all pos (de⁺ pos de st ar p d i a x) (st⁺ pos de st ar p d i a x) (ar⁺ pos de st ar p d i a x) (d + 1) (i + form_count x.form) (a + length (form_arguments x.form))
        (remember_name seen x) (p + k)
    goes x zero u lt = absurd (none (omega arith))
      where
        none : p < p → ⊥
        none h = omega arith
    goes x (suc n) u lt =
        ap (outcome pos de st ar p d i a) (many_goes ends_file remember_name (definition rules true) seen p all x n inside (ne_eqb _ _ other) u)
        ∙ one_more pos de st ar p d i a x (suc n) (many ends_file remember_name (definition rules true) (remember_name seen x) 0 (p + suc n) (drop (p + suc n) all))

    refuses : (y : Why) (w : ℕ) → definition rules true seen p (drop p all) ≡ bad y w → left rules all pos de st ar d i a seen p ≡ stopped (number y) (w + beyond y)
    refuses y w u = ap (outcome pos de st ar p d i a) (many_refuses ends_file remember_name (definition rules true) seen p all y w inside (ne_eqb _ _ other) u)

    taken : (x : Definition) (k : ℕ) → top_level rules p (drop p all) ≡ got x k → repeats seen x ≡ false → definition rules true seen p (drop p all) ≡ got x k
    unfolding definition checked
    taken x k e new = rw (e, new)

    twice : (x : Definition) (k : ℕ) → top_level rules p (drop p all) ≡ got x k → repeats seen x ≡ true → definition rules true seen p (drop p all) ≡ bad (plain DuplicateMacro) x.name
    unfolding definition checked
    twice x k e old = rw (e, old)

    turned_away_lem : (y : Why) (w : ℕ) → top_level rules p (drop p all) ≡ bad y w → definition rules true seen p (drop p all) ≡ bad y w
    unfolding definition checked
    turned_away_lem y w e = rw e

    repeats_is : (x : Definition) {b : Bool} → is_macro x.form ≡ true → x.token ≡ token_at all x.name → one_of seen (token_at all x.name).text ≡ b → repeats seen x ≡ b
    unfolding repeats
    repeats_is x m n o = rw (m, n) o

    unnamed : (x : Definition) → is_macro x.form ≡ false → repeats seen x ≡ false
    unfolding repeats
    unnamed x m = rw m

    module _ (size : ℕ) (r : Result DefRead (ℕ × ℕ)) (de' st' ar' : List ℕ) where
      abbrev pub Turn : Res Definition → Type 0
      Turn read = DefAdded all pos p (record { statements = i; arguments = a }) size read d i a de st ar r de' st' ar'

      -- the definition is refused
      pub refused : (read : Res Definition) (f : ℕ × ℕ) → top_level rules p (drop p all) ≡ read → Turn read → r ≡ Err f → left rules all pos de st ar d i a seen p ≡ stopped f.0 f.1
      refused (got x k) f e h g = absurd (let z : ◌≡◌ {A = ℕ} 0 1 = cc h.is in omega arith)
      refused (bad y w) f e h g = refuses y w (turned_away_lem y w e) ∙ ap (λ (f : ℕ × ℕ). stopped f.0 f.1) (cc h.is)

      -- what an accepted one tells: the definition and its argument records are those of the reading
      record Told (x : Definition) (k : ℕ) (f : DefRead) : Type 0 where
        found : code_definition (record { statements = i; arguments = a }) x ≡ f.definition
        count : length (form_arguments x.form) ≡ f.arguments
        ends : x.end ≡ p + k
        more : p < p + k

      told : (x : Definition) (k : ℕ) (f : DefRead) → Turn (got x k) → r ≡ Ok f → Told x k f
      told x k f h g =
          let found : code_definition (record { statements = i; arguments = a }) x ≡ f.definition = cc h.is in
          let bounds : DefWithin 8 p size (Ok f) = rw g at h.within in
          let low : p < x.end = rw (← found) at bounds.0 in
          record { found = found; count = (cc h.is); ends = h.stands.1; more = rw h.stands.1 at low }

      -- whether it is a macro, fn or test
      kind_tells : (x : Definition) (k : ℕ) (f : DefRead) {b : Bool} → Told x k f → is_named (definition_number f.definition.kind) ≡ b → is_macro x.form ≡ b
      kind_tells x k f t e = sym (named_is x.form) ∙ ap (λ (f : code.Definition). is_named (definition_number f.kind)) t.found ∙ e

      -- no macro, fn or test
      pub other_found : (read : Res Definition) (f : DefRead) → top_level rules p (drop p all) ≡ read → Turn read → r ≡ Ok f → is_named (definition_number f.definition.kind) ≡ false
          → left rules all pos de st ar d i a seen p ≡ left rules all pos de' st' ar' (d + 1) (i + f.definition.statements) (a + f.arguments) seen f.definition.end
      other_found (got x k) f e h g o =
          let t = told x k f h g in
          let m = kind_tells x k f t o in
          let step = goes x k (taken x k e (unnamed x m)) t.more in
          let same_seen : remember_name seen x ≡ seen = rw m in
          rw (h.definitions_hold, h.statements_hold, h.arguments_hold, ← t.found, ← t.count) (rw (same_seen, ← t.ends) at step)
      other_found (bad y w) f e h g o = absurd (let z : ◌≡◌ {A = ℕ} 0 1 = cc h.is in omega arith)

      -- a macro, fn or test of a new name
      pub macro_found : (read : Res Definition) (f : DefRead) (seen' : List (List ℕ)) → top_level rules p (drop p all) ≡ read → Turn read → r ≡ Ok f → is_named (definition_number f.definition.kind) ≡ true
          → one_of seen (token_at all f.definition.name).text ≡ false
          → seen' ≡ (token_at all f.definition.name).text ∷ seen
          → left rules all pos de st ar d i a seen p ≡ left rules all pos de' st' ar' (d + 1) (i + f.definition.statements) (a + f.arguments) seen' f.definition.end
      macro_found (got x k) f seen' e h g c o s =
          let t = told x k f h g in
          let m = kind_tells x k f t c in
          let new : one_of seen (token_at all x.name).text ≡ false = rw (← t.found) at o in
          let step = goes x k (taken x k e (repeats_is x m h.stands.0 new)) t.more in
          let all_seen : seen' ≡ (token_at all x.name).text ∷ seen = rw (← t.found) at s in
          let same_seen : remember_name seen x ≡ seen' = rw (m, h.stands.0) (sym all_seen) in
          rw (h.definitions_hold, h.statements_hold, h.arguments_hold, ← t.found, ← t.count) (rw (same_seen, ← t.ends) at step)
      macro_found (bad y w) f seen' e h g c o s = absurd (let z : ◌≡◌ {A = ℕ} 0 1 = cc h.is in omega arith)

      -- a macro, fn or test of an earlier one's name
      pub macro_repeats : (read : Res Definition) (f : DefRead) → top_level rules p (drop p all) ≡ read → Turn read → r ≡ Ok f → is_named (definition_number f.definition.kind) ≡ true
          → one_of seen (token_at all f.definition.name).text ≡ true
          → left rules all pos de st ar d i a seen p ≡ stopped DuplicateMacro f.definition.name
      macro_repeats (got x k) f e h g c o =
          let t = told x k f h g in
          let m = kind_tells x k f t c in
          let old : one_of seen (token_at all x.name).text ≡ true = rw (← t.found) at o in
          refuses (plain DuplicateMacro) x.name (twice x k e (repeats_is x m h.stands.0 old)) ∙ ap (stopped DuplicateMacro) (add-zero x.name ∙ ap (λ (f : code.Definition). f.name) t.found)
      macro_repeats (bad y w) f e h g c o = absurd (let z : ◌≡◌ {A = ℕ} 0 1 = cc h.is in omega arith)

-- ---- the same by places of the kept list

module _ (text words kept : List ℕ) (p k : ℕ) (kind : KindAt words kept p k) where
  pub at_eof : k ≡ 0 → (token_at (view text words kept) p).kind ≡ Eof
  at_eof e = view_kind text words kept p ∙ sym kind.is ∙ e

  pub not_eof : (k ≡ 0 → ⊥) → (token_at (view text words kept) p).kind ≡ Eof → ⊥
  not_eof h e = h (kind.is ∙ sym (view_kind text words kept p) ∙ e)

  pub in_view : (k ≡ 0 → ⊥) → p < length (view text words kept)
  in_view h = rw (view_length text words kept) (omega (arith, kind.inside))

-- ---- what the ends promise

module _ (pos : Positions) (de st ar de' st' ar' : List ℕ) where
  pub parsed_ended : (read : Res (List Definition)) (p d i a : ℕ) → ended p d i a de' st' ar' ≡ outcome pos de st ar 0 0 0 0 read → FileParsed pos read de st ar (Ok (record { cursor = p; definitions = d; statements = i; arguments = a })) de' st' ar'
  parsed_ended (got ds k) p d i a e =
      record {
        is = cc (zero-add k, zero-add (length ds), zero-add (file_statement_count ds), zero-add (length (file_arguments ds)));
        definitions_hold = cc;
        statements_hold = cc;
        arguments_hold = cc;
      }
  parsed_ended (bad y w) p d i a e = absurd (let z : ◌≡◌ {A = ℕ} 0 1 = cc in omega arith)

  pub parsed_stopped : (read : Res (List Definition)) (c q : ℕ) → stopped c q ≡ outcome pos de st ar 0 0 0 0 read → FileParsed pos read de st ar (Err (c, q)) de' st' ar'
  parsed_stopped (got ds k) c q e = absurd (let z : ◌≡◌ {A = ℕ} 0 1 = cc in omega arith)
  parsed_stopped (bad y w) c q e = record { is = cc; definitions_hold = tt; statements_hold = tt; arguments_hold = tt }

-- ---- the loop of parse

-- what is still to be read from place p comes to the whole reading; what is remembered of names; and bounds
pub record Loop (rules : Rules) (text words kept de₀ st₀ ar₀ de st ar : List ℕ) (size : ℕ) (now : Seen) (p d i a : ℕ) : Type 0 where
  pub ends : left rules (view text words kept) (positions words kept) de st ar d i a now.names p ≡ outcome (positions words kept) de₀ st₀ ar₀ 0 0 0 0 (parse rules true [] 0 (view text words kept))
  pub same : now.tokens ≡ view text words kept
  pub room : now.room ≡ size
  pub inside : p ≤ length kept
  pub definitions : d ≤ p
  pub statements : i ≤ p
  pub arguments : a ≤ p
  pub names : 8 * length now.names ≤ p

pub loop_begins : (rules : Rules) (text words kept de st ar : List ℕ) {now : Seen} → Readable text words kept now → Loop rules text words kept de st ar de st ar now.room now 0 0 0 0
unfolding parse
loop_begins rules text words kept de st ar ready =
    record {
      ends = rw ready.room.fresh refl;
      same = ready.room.same;
      room = refl;
      inside = omega arith;
      definitions = omega arith;
      statements = omega arith;
      arguments = omega arith;
      names = rw ready.room.fresh (omega arith);
    }

module _ {rules : Rules} {text words kept de₀ st₀ ar₀ de st ar : List ℕ} {size : ℕ} {now : Seen} {p d i a : ℕ}
    (loop : Loop rules text words kept de₀ st₀ ar₀ de st ar size now p d i a) where
  abbrev pub whole : Res (List Definition)
  whole = parse rules true [] 0 (view text words kept)

  -- Eof
  pub loop_ends : {k : ℕ} → KindAt words kept p k → k ≡ 0 → p < length kept → FileParsed (positions words kept) whole de₀ st₀ ar₀ (Ok (record { cursor = p; definitions = d; statements = i; arguments = a })) de st ar
  loop_ends {k} kind e h =
      parsed_ended (positions words kept) de₀ st₀ ar₀ de st ar whole p d i a
      (sym (left_end rules (view text words kept) (positions words kept) de st ar d i a now.names p (rw (view_length text words kept) h) (at_eof text words kept p k kind e)) ∙ loop.ends)

  -- past the end
  pub loop_runs_out : length kept ≤ p → FileParsed (positions words kept) whole de₀ st₀ ar₀ (Err (UnexpectedType, p)) de st ar
  loop_runs_out h =
      parsed_stopped (positions words kept) de₀ st₀ ar₀ de st ar whole UnexpectedType p
      (sym (left_out rules (view text words kept) (positions words kept) de st ar d i a now.names p (rw (view_length text words kept) h)) ∙ loop.ends)

  module _ {k : ℕ} (kind : KindAt words kept p k) (some : k ≡ 0 → ⊥) {r : Result DefRead (ℕ × ℕ)} {de' st' ar' : List ℕ}
      (turn : DefAdded (view text words kept) (positions words kept) p (record { statements = i; arguments = a }) (length kept) (top_level rules p (drop p (view text words kept))) d i a de st ar r de' st' ar') where
    -- a refusal
    pub loop_refuses : (f : ℕ × ℕ) → r ≡ Err f → FileParsed (positions words kept) whole de₀ st₀ ar₀ (Err f) de' st' ar'
    loop_refuses f g =
        parsed_stopped (positions words kept) de₀ st₀ ar₀ de' st' ar' whole f.0 f.1
        (sym
        (refused rules (view text words kept) (positions words kept) de st ar d i a now.names p (in_view text words kept p k kind some) (not_eof text words kept p k kind some) (length kept) r de' st' ar'
        (top_level rules p (drop p (view text words kept))) f refl turn g)
        ∙ loop.ends)

    module _ (f : DefRead) (g : r ≡ Ok f) where
      pub bounds : DefWithin 8 p (length kept) (Ok f)
      bounds = rw g at turn.within

      -- no macro, fn or test
      pub loop_other : is_named (definition_number f.definition.kind) ≡ false
          → Loop rules text words kept de₀ st₀ ar₀ de' st' ar' size now f.definition.end (d + 1) (i + f.definition.statements) (a + f.arguments)
      loop_other o =
          record {
            ends =
                sym
                (other_found rules (view text words kept) (positions words kept) de st ar d i a now.names p (in_view text words kept p k kind some) (not_eof text words kept p k kind some) (length kept) r de' st' ar'
                (top_level rules p (drop p (view text words kept))) f refl turn g o)
                ∙ loop.ends;
            same = loop.same;
            room = loop.room;
            inside = bounds.1;
            definitions = omega (arith, bounds.0, loop.definitions);
            statements = omega (arith, bounds.2, loop.statements);
            arguments = omega (arith, bounds.3, loop.arguments);
            names = omega (arith, bounds.0, loop.names);
          }

      -- a macro, fn or test of a new name
      pub loop_macro : is_named (definition_number f.definition.kind) ≡ true → {b : Bool} {after : Seen}
          → Checked (token_at now.tokens f.definition.name).text now b after → b ≡ false
          → Loop rules text words kept de₀ st₀ ar₀ de' st' ar' size after f.definition.end (d + 1) (i + f.definition.statements) (a + f.arguments)
      loop_macro o {after = after} told new =
          let asked : one_of now.names (token_at (view text words kept) f.definition.name).text ≡ false = rw loop.same at (sym told.is ∙ new) in
          let then : after ≡ record { tokens = view text words kept; names = (token_at (view text words kept) f.definition.name).text ∷ now.names; room = size } = rw (new, loop.same, loop.room) at told.then in
          let long : (p + 8 ≤ f.definition.end) × (f.definition.name < f.definition.end) = rw o at bounds.4 in
          rw then
          record {
            ends =
                sym
                (macro_found rules (view text words kept) (positions words kept) de st ar d i a now.names p (in_view text words kept p k kind some) (not_eof text words kept p k kind some) (length kept) r de' st' ar'
                (top_level rules p (drop p (view text words kept))) f ((token_at (view text words kept) f.definition.name).text ∷ now.names) refl turn g o asked refl)
                ∙ loop.ends;
            same = refl;
            room = refl;
            inside = bounds.1;
            definitions = omega (arith, bounds.0, loop.definitions);
            statements = omega (arith, bounds.2, loop.statements);
            arguments = omega (arith, bounds.3, loop.arguments);
            names = omega (arith, long.0, loop.names);
          }

      -- a macro, fn or test of an earlier one's name
      pub loop_repeats : is_named (definition_number f.definition.kind) ≡ true → {b : Bool} {after : Seen}
          → Checked (token_at now.tokens f.definition.name).text now b after → b ≡ true
          → FileParsed (positions words kept) whole de₀ st₀ ar₀ (Err (DuplicateMacro, f.definition.name)) de' st' ar'
      loop_repeats o told old =
          parsed_stopped (positions words kept) de₀ st₀ ar₀ de' st' ar' whole DuplicateMacro f.definition.name
          (sym
          (macro_repeats rules (view text words kept) (positions words kept) de st ar d i a now.names p (in_view text words kept p k kind some) (not_eof text words kept p k kind some) (length kept) r de' st' ar'
          (top_level rules p (drop p (view text words kept))) f refl turn g o (rw loop.same at (sym told.is ∙ old)))
          ∙ loop.ends)
