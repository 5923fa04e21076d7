-- Laws of macros, fns and tests: Takes and Returns, the list and `=`, the body and the record. Assumes nothing.
use Prim.Native.Nat.{ℕ, suc, ◌+◌, ◌≤◌, ◌<◌, zero-le}
use native.Mathlib.Nat.{add-zero, zero-add}
use native.Mathlib.Numerals.{add-one, add-two}
use native.Mathlib.Omega.{arith}
use mathlib.Core.Path.{◌≡◌, refl, sym, ap, ◌∙◌}
use mathlib.Core.Bool.{true, cond}
use mathlib.Core.List.{List, [], ◌∷◌, ◌++◌, map, map-append}
use mathlib.Core.Logic.{◌⊎◌, inl, inr, ⊎_elim}
use Rattle.std.specs.Result.{IsErrAnd}
use Rattle.std.specs.Prelude.{Some, None, Result, Ok, Err}
use borrow.Author.Tests.{eq-eqb, ne_eqb}
use lib.Dec.{eqb}
use lib.ListN.{length, drop, length-append, length-map}
use Rattle.tokens.specs.Token.{Token, token_at, view}
use Rattle.tokens.specs.Place.{KindAt}
use Rattle.tokens.specs.Source.{all, all_from, count}
use Rattle.tokens.specs.declared.source.Source.{Source}
use Rattle.tokens.specs.Number.{argument_width}
use Rattle.tokens.specs.Lent.{put_all}
use Rattle.tokens.specs.Kind.{Macro, Fn, Test, Ident, Takes, Returns, Assign, OpenParen, CloseParen, OpenBrace, CloseBrace}
use Rattle.tokens.proofs.Laws.{lt_or_le}
use Rattle.tokens.proofs.LentLaws.{put_all_append}
use Rattle.grammar.specs.Reading.{Argument, Reading}
use Rattle.grammar.specs.Rules.{Rules}
use Rattle.grammar.specs.Result.{plain, Res, got, bad, on, refuse, leave, stepped, with_one_more, Step, choose, expect, counted, seq}
use Rattle.grammar.specs.Reader.{entries, closed_list, name_argument, items, groups, body_from}
use Rattle.grammar.specs.Typed.{single_number}
use Rattle.grammar.specs.Records.{argument_record, all_arguments, argument_records, statement_count, argument_count}
use Rattle.grammar.specs.FileReading.{MacroSort, the_macro, the_fn, the_test, Form, a_macro, Definition}
use Rattle.grammar.specs.FileReader.{optional, parse_args, named, macro_rest, parse_macro, by_kind, kind_table}
use Rattle.grammar.specs.FileRecords.{form_arguments, form_count, form_statements}
use Rattle.grammar.specs.Written.{RefusedRead}
use Rattle.grammar.proofs.AtPlace.{look_at}
use Rattle.lists.specs.Answers.{single_answer, SingleRead, ListRead}
use Rattle.statements.specs.Answers.{progressed, body_answer, Counting, BodyParsed}
use Rattle.lists.specs.declared.single.Single.{Single}
use Rattle.lists.specs.declared.argument.Sort.TheVariants as sorts
use Rattle.lists.specs.declared.list.ArgList.{ArgList}
use Rattle.lists.specs.declared.before.Before.{Before}
use Rattle.statements.specs.declared.item.Progress.{Progress}
use Rattle.definitions.specs.declared.record.DefRead.{DefRead}
use Rattle.definitions.specs.declared.macros.MacroKind.{MacroKind}
use Rattle.definitions.specs.declared.macros.MacroKind.TheVariants as macros
use Rattle.definitions.specs.declared.macros.Numbers.{Numbers}
use Rattle.definitions.specs.declared.macros.Tail.{Tail}
use Rattle.definitions.specs.Answers as place
use Rattle.definitions.specs.Answers.{definition_number, macro_kind, is_named, DefParsed}
use Rattle.definitions.specs.Behind.{Opening, formed, behind_name}
use Rattle.definitions.specs.Found.{definition_of}
use Rattle.definitions.specs.Macros.{macro_sort, macro_token, NumberRead, numbers_from, numbers_answer, NumbersRead, head_from, tail_from, tail_answer, TailParsed, macro_found}
use Rattle.lists.proofs.At.{kind_is, handed_on, look_table, look_else, expect_yes, expect_no}
use Rattle.lists.proofs.ListLaws.{Listing, listing_closed, behind}
use Rattle.definitions.proofs.DefinitionLaws.{chosen, ListOf, listed, unlisted}
use Rattle.definitions.proofs.HeadLaws.{refused_parsed, name_missing, name_read}
use Rattle.definitions.proofs.Readers.{Answering, Told, value_told, refusal_told, same_refusal, stops_here, as_stops, seq_stops, seq_at, seq_then_stops, seq_nothing, seq_same, seq_group, expect_group, AtLeast, any_least, expect_least, seq_least}

-- ---- a number that may be missing

module _ (k p : ℕ) (all : List Token) where
  missing : {A : Type 0} (f : ℕ → List Token → Res A) (d : A) → ((token_at all p).kind ≡ k → ⊥) → optional k f d p (drop p all) ≡ got d 0
  unfolding optional
  missing f d h =
      look_at (λ t. cond (eqb t.kind k) (on f) (leave d)) p all
      ∙ ap (λ b. stepped (cond b (on f) (leave d)) p (drop (suc p) all)) (ne_eqb _ _ h)

  present : {A : Type 0} (f : ℕ → List Token → Res A) (d : A) → (token_at all p).kind ≡ k → optional k f d p (drop p all) ≡ with_one_more (f (suc p) (drop (suc p) all))
  unfolding optional
  present f d h =
      look_at (λ t. cond (eqb t.kind k) (on f) (leave d)) p all
      ∙ ap (λ b. stepped (cond b (on f) (leave d)) p (drop (suc p) all)) (eq-eqb _ _ h)

  pub number_missing : {size : ℕ} → ((token_at all p).kind ≡ k → ⊥) → p ≤ size
      → NumberRead p size (optional k single_number 0 p (drop p all)) (Ok (record { number = 0; end = p }))
  number_missing h inside = rw (missing single_number 0 h) (record { is = rw add-zero; within = (omega arith, inside) })

  pub number_there : {size q : ℕ} {r : Result Single (ℕ × ℕ)} → (token_at all p).kind ≡ k → q ≡ suc p → SingleRead q size (single_number q (drop q all)) r
      → NumberRead p size (optional k single_number 0 p (drop p all)) r
  number_there {size} {q} {r} h q-is s = rw (present single_number 0 h) (go (single_number (suc p) (drop (suc p) all)) (rw q-is at s))
    where
      go : (x : Res ℕ) → SingleRead (suc p) size x r → NumberRead p size (with_one_more x) r
      go (got n j) s =
          let place : suc p + j ≡ p + suc j = omega arith in
          let w = rw s.is at s.within in
          record { is = s.is ∙ ap (λ e. Ok (record { number = n; end = e })) place; within = rw s.is (omega arith, omega arith) }
      go (bad y w) s = record { is = s.is; within = rw s.is tt }

-- by the kind that was read
module _ (text : List ℕ) {words kept : List ℕ} (p : ℕ) {k : ℕ} (here : KindAt words kept p k) (kind : ℕ) where
  pub number_absent : (k ≡ kind → ⊥) → p ≤ length kept
      → NumberRead p (length kept) (optional kind single_number 0 p (drop p (view text words kept))) (Ok (record { number = 0; end = p }))
  number_absent h inside = number_missing kind p (view text words kept) (λ e. h (sym (kind_is text p here refl) ∙ e)) inside

  pub number_behind : {r : Result Single (ℕ × ℕ)} → k ≡ kind → SingleRead (p + 1) (length kept) (single_number (p + 1) (drop (p + 1) (view text words kept))) r
      → NumberRead p (length kept) (optional kind single_number 0 p (drop p (view text words kept))) r
  number_behind e h = number_there kind p (view text words kept) (kind_is text p here refl ∙ e) (add-one p) h

single_told : (p : ℕ) → Answering (single_answer p) (λ n k. record { number = n; end = p + k })
single_told p = record { says = λ n k. refl; tells = λ y w. refl }

-- ---- both numbers

-- Returns behind a number
abbrev second : ℕ → ℕ → List Token → Res (ℕ × ℕ)
second t = seq (optional Returns single_number 0) (λ r q ts. got (t, r) 0)

module _ {p size : ℕ} (all : List Token) where
  numbers_refused : {f : ℕ × ℕ} {x : Res (ℕ × ℕ)} → RefusedRead x f.0 f.1 → NumbersRead p size x (Err f)
  numbers_refused s = rw s.is (record { is = same_refusal s; within = tt })

  pub takes_refused : {f : ℕ × ℕ} → NumberRead p size (optional Takes single_number 0 p (drop p all)) (Err f) → NumbersRead p size (numbers_from p (drop p all)) (Err f)
  unfolding numbers_from
  takes_refused h = numbers_refused (seq_stops (optional Takes single_number 0) second p (drop p all) (refusal_told (single_told p) _ h.is))

  module _ {takes : Single} (h : NumberRead p size (optional Takes single_number 0 p (drop p all)) (Ok takes)) where
    pub returns_refused : {f : ℕ × ℕ} → NumberRead takes.end size (optional Returns single_number 0 takes.end (drop takes.end all)) (Err f)
        → NumbersRead p size (numbers_from p (drop p all)) (Err f)
    unfolding numbers_from
    returns_refused k =
        let g = value_told (single_told p) _ h.is in
        numbers_refused
        (seq_then_stops (optional Takes single_number 0) second p all g.is (sym (ap (λ s. s.end) g.same))
        (seq_stops (optional Returns single_number 0) (λ r q ts. got (g.value, r) 0) takes.end (drop takes.end all) (refusal_told (single_told takes.end) _ k.is)))

    pub both_read : {returns : Single} → NumberRead takes.end size (optional Returns single_number 0 takes.end (drop takes.end all)) (Ok returns)
        → NumbersRead p size (numbers_from p (drop p all)) (Ok (record { takes = takes.number; returns = returns.number; end = returns.end }))
    unfolding numbers_from
    both_read {returns} k = go (value_told (single_told p) _ h.is) (value_told (single_told takes.end) _ k.is)
      where
        go : Told (λ n k. record { number = n; end = p + k }) (optional Takes single_number 0 p (drop p all)) takes
            → Told (λ n k. record { number = n; end = takes.end + k }) (optional Returns single_number 0 takes.end (drop takes.end all)) returns
            → NumbersRead p size (seq (optional Takes single_number 0) second p (drop p all)) (Ok (record { takes = takes.number; returns = returns.number; end = returns.end }))
        go g l =
            let first : p + g.size ≡ takes.end = sym (ap (λ s. s.end) g.same) in
            let last : takes.end + l.size ≡ returns.end = sym (ap (λ s. s.end) l.same) in
            let t : takes.number ≡ g.value = ap (λ s. s.number) g.same in
            let r : returns.number ≡ l.value = ap (λ s. s.number) l.same in
            let place : returns.end ≡ p + (g.size + (l.size + 0)) = omega (arith, first, last) in
            rw
            (seq_at (optional Takes single_number 0) second p all g.is first
            ∙ ap (counted g.size) (seq_at (optional Returns single_number 0) (λ r q ts. got (g.value, r) 0) takes.end all l.is last))
            (record { is = rw (t, r, place) refl; within = (omega (arith, h.within.0), omega (arith, k.within.1)) })

numbers_told : (p : ℕ) → Answering (numbers_answer p) (λ n k. record { takes = n.0; returns = n.1; end = p + k })
numbers_told p = record { says = λ n k. refl; tells = λ y w. refl }

-- ---- the list and `=`

list_refused : {p size : ℕ} {f : ℕ × ℕ} {table table' : List ℕ} {x : Res (List Argument)} → RefusedRead x f.0 f.1 → ListRead 0 p size x table (Err f) table'
list_refused s = rw s.is (record { is = same_refusal s; records = tt; within = tt })

-- `( )`: no argument is declared, and nothing is written
pub none_declared : (text : List ℕ) {tokens kept table : List ℕ} {p k : ℕ} → (token_at (view text tokens kept) p).kind ≡ OpenParen → KindAt tokens kept (p + 1) k → k ≡ CloseParen
    → ListRead 0 p (length kept) (parse_args name_argument p (drop p (view text tokens kept))) table (Ok (record { arguments = 0; end = p + 2 })) table
none_declared text {tokens} {kept} {table} {p} opens there closes =
    let inside : p + 1 ≤ length kept = omega (arith, there.inside) in
    let none : Listing text tokens kept sorts.Macro (p + 1) table 0 table (p + 1) 0 0 =
    record { left = refl; from = omega arith; inside = inside; few = omega arith; records = omega arith; same = refl } in
    let place : p + 1 + 1 ≡ p + 2 = omega arith in
    let all = view text tokens kept in
    behind (λ q. closed_list name_argument q (drop q all)) (expect_yes p all OpenParen (plain 1) (λ o. closed_list name_argument) opens)
    (rw place at (listing_closed none there closes))

-- `=` behind a list
abbrev equals : List Argument → ℕ → List Token → Res (List Argument)
equals args = expect Assign (plain 1) (λ a q ts. got args 0)

module _ {p size : ℕ} {table table' : List ℕ} (all : List Token) where
  pub head_refused : {f : ℕ × ℕ} → ListRead 0 p size (parse_args name_argument p (drop p all)) table (Err f) table' → ListRead 0 p size (head_from p (drop p all)) table (Err f) table'
  unfolding head_from
  head_refused h = list_refused (seq_stops (parse_args name_argument) equals p (drop p all) (unlisted _ h))

  module _ {list : ArgList} (h : ListRead 0 p size (parse_args name_argument p (drop p all)) table (Ok list) table') where
    pub no_equals : ((token_at all list.end).kind ≡ Assign → ⊥) → ListRead 0 p size (head_from p (drop p all)) table (Err (1, list.end)) table'
    unfolding head_from
    no_equals k =
        let g = listed _ h in
        list_refused
        (seq_then_stops (parse_args name_argument) equals p all g.is (sym g.ends)
        (stops_here (expect_no list.end all Assign (plain 1) (λ a q ts. got g.args 0) k) refl))

    pub head_read : (token_at all list.end).kind ≡ Assign → list.end + 1 ≤ size
        → ListRead 0 p size (head_from p (drop p all)) table (Ok (record { arguments = list.arguments; end = list.end + 1 })) table'
    unfolding head_from
    head_read k inside = go (listed _ h)
      where
        go : ListOf 0 p size (parse_args name_argument p (drop p all)) table list table'
            → ListRead 0 p size (seq (parse_args name_argument) equals p (drop p all)) table (Ok (record { arguments = list.arguments; end = list.end + 1 })) table'
        go g =
            let place : list.end + 1 ≡ p + (g.tokens + 1) = omega (arith, g.ends) in
            rw
            (seq_at (parse_args name_argument) equals p all g.is (sym g.ends)
            ∙ ap (counted g.tokens) (expect_yes list.end all Assign (plain 1) (λ a q ts. got g.args 0) k))
            (record { is = rw (g.count, place) refl; records = g.records; within = (omega (arith, g.further), inside, omega (arith, g.few)) })

-- by the kinds that were read
module _ (source : Source) (p : ℕ) {table : List ℕ} where
  pub declared_none : {k l : ℕ} → KindAt source.tokens.now source.kept.now p k → KindAt source.tokens.now source.kept.now (p + 1) l → k ≡ OpenParen → l ≡ CloseParen
      → ListRead 0 p (count source) (parse_args name_argument p (all_from source p)) table (Ok (record { arguments = 0; end = p + 2 })) table
  declared_none here there opens closes = none_declared source.text.now (kind_is source.text.now p here refl ∙ opens) there closes

  pub head_handed : {f : ℕ × ℕ} {r : Result ArgList (ℕ × ℕ)} {table' : List ℕ} → ListRead 0 p (count source) (parse_args name_argument p (all_from source p)) table (Err f) table'
      → IsErrAnd r (λ y. y ≡ f)
      → ListRead 0 p (count source) (head_from p (all_from source p)) table r table'
  head_handed h handed = rw (handed_on _ handed) (head_refused (all source) h)

  module _ {list : ArgList} {table' : List ℕ} (h : ListRead 0 p (count source) (parse_args name_argument p (all_from source p)) table (Ok list) table')
      {k : ℕ} (here : KindAt source.tokens.now source.kept.now list.end k) where
    pub head_unequal : {f : ℕ × ℕ} → (k ≡ Assign → ⊥) → f ≡ (1, list.end) → ListRead 0 p (count source) (head_from p (all_from source p)) table (Err f) table'
    head_unequal off same = rw same (no_equals (all source) h (λ e. off (sym (kind_is source.text.now list.end here refl) ∙ e)))

    pub head_equal : k ≡ Assign → ListRead 0 p (count source) (head_from p (all_from source p)) table (Ok (record { arguments = list.arguments; end = list.end + 1 })) table'
    head_equal e = head_read (all source) h (kind_is source.text.now list.end here refl ∙ e) (omega (arith, here.inside))

-- ---- the body

body_told : (s : Progress) → Answering (body_answer s) (λ r k. progressed s k (statement_count r) (argument_count r))
body_told s = record { says = λ r k. refl; tells = λ y w. refl }

-- the body behind both numbers
abbrev body_behind : Rules → ℕ × ℕ → ℕ → List Token → Res ((ℕ × ℕ) × Reading)
body_behind rules n = seq (body_from rules) (λ r q ts. got (n, r) 0)

-- the progress that a body starts with, behind n declared arguments
abbrev pub start : ℕ → ℕ → Progress
start e n = record { at = e; statements = 0; arguments = n }

-- and from there one can be read
pub body_begins : {words kept : List ℕ} {q n e : ℕ} {before : Before} → place.Reading words kept q q before → n ≤ q → q ≤ e → e ≤ length kept → Counting words kept (start e n) before
body_begins g few further inside =
    record {
      list = g.list;
      inside = inside;
      statements = omega arith;
      arguments = omega arith;
      statements_before = g.statements_before;
      arguments_before = g.arguments_before;
    }

tail_told : (n q : ℕ) → Answering (tail_answer n q) (λ x k. record { takes = x.0.0; returns = x.0.1; body = record { at = q + k; statements = statement_count x.1; arguments = n + argument_count x.1 } })
tail_told n q = record { says = λ x k. refl; tells = λ y w. refl }

module _ (rules : Rules) {n q size : ℕ} {before : Before} {st ar st' ar' : List ℕ} (all : List Token) where
  tail_refused : {f : ℕ × ℕ} {x : Res ((ℕ × ℕ) × Reading)} → RefusedRead x f.0 f.1 → TailParsed n q before size x st ar (Err f) st' ar'
  tail_refused s = rw s.is (record { is = same_refusal s; statements_hold = tt; arguments_hold = tt; within = tt })

  pub numbers_are_refused : {f : ℕ × ℕ} → NumbersRead q size (numbers_from q (drop q all)) (Err f) → TailParsed n q before size (tail_from rules q (drop q all)) st ar (Err f) st' ar'
  unfolding tail_from
  numbers_are_refused h = tail_refused (seq_stops numbers_from (body_behind rules) q (drop q all) (refusal_told (numbers_told q) _ h.is))

  module _ {numbers : Numbers} (h : NumbersRead q size (numbers_from q (drop q all)) (Ok numbers)) where
    pub body_is_refused : {f : ℕ × ℕ} → BodyParsed (start numbers.end n) before size (body_from rules numbers.end (drop numbers.end all)) st ar (Err f) st' ar'
        → TailParsed n q before size (tail_from rules q (drop q all)) st ar (Err f) st' ar'
    unfolding tail_from
    body_is_refused k =
        let g = value_told (numbers_told q) _ h.is in
        tail_refused
        (seq_then_stops numbers_from (body_behind rules) q all g.is (sym (ap (λ m. m.end) g.same))
        (seq_stops (body_from rules) (λ b x ts. got (g.value, b) 0) numbers.end (drop numbers.end all) (refusal_told (body_told (start numbers.end n)) _ k.is)))

    pub tail_read : {t : Progress} → BodyParsed (start numbers.end n) before size (body_from rules numbers.end (drop numbers.end all)) st ar (Ok t) st' ar'
        → TailParsed n q before size (tail_from rules q (drop q all)) st ar (Ok (record { takes = numbers.takes; returns = numbers.returns; body = t })) st' ar'
    unfolding tail_from
    tail_read {t} k = go (value_told (numbers_told q) _ h.is) (value_told (body_told (start numbers.end n)) _ k.is)
      where
        go : Told (λ n k. record { takes = n.0; returns = n.1; end = q + k }) (numbers_from q (drop q all)) numbers
            → Told (λ r k. progressed (start numbers.end n) k (statement_count r) (argument_count r)) (body_from rules numbers.end (drop numbers.end all)) t
            → TailParsed n q before size (seq numbers_from (body_behind rules) q (drop q all)) st ar (Ok (record { takes = numbers.takes; returns = numbers.returns; body = t })) st' ar'
        go g b =
            let w = k.within in
            let first : q + g.size ≡ numbers.end = sym (ap (λ m. m.end) g.same) in
            let last : numbers.end + b.size ≡ t.at = sym (ap (λ m. m.at) b.same) in
            let place : numbers.end + b.size ≡ q + (g.size + (b.size + 0)) = omega (arith, first) in
            let count : 0 + statement_count b.value ≡ statement_count b.value = zero-add (statement_count b.value) in
            let takes : numbers.takes ≡ g.value.0 = ap (λ m. m.takes) g.same in
            let returns : numbers.returns ≡ g.value.1 = ap (λ m. m.returns) g.same in
            rw
            (seq_at numbers_from (body_behind rules) q all g.is first
            ∙ ap (counted g.size) (seq_at (body_from rules) (λ b x ts. got (g.value, b) 0) numbers.end all b.is last))
            (record {
              is = rw (takes, returns, b.same, place, count) refl;
              statements_hold = (rw b.is at k.statements_hold) ∙ rw (add-zero before.statements) refl;
              arguments_hold = rw b.is at k.arguments_hold;
              within = (omega (arith, h.within.0), w.1, omega (arith, h.within.0), omega (arith, h.within.0));
            })

-- ---- the whole

abbrev behind_equals : Rules → MacroSort → List Argument → ℕ → List Token → Res Form
behind_equals rules sort args =
    seq (optional Takes single_number 0) (λ takes.
    seq (optional Returns single_number 0) (λ returns. seq (body_from rules) (λ r q ts. got (a_macro sort args takes returns r) 0)))

-- a macro's form, of what the two parts of its reading gave
abbrev composed : MacroSort → List Argument → ((ℕ × ℕ) × Reading) → ℕ → List Token → Res Form
composed sort args x q ts = got (a_macro sort args x.0.0 x.0.1 x.1) 0

-- both numbers and the body, read one by one, are the tail
tail_group : (rules : Rules) (sort : MacroSort) (args : List Argument) (p : ℕ) (ts : List Token) → seq (tail_from rules) (composed sort args) p ts ≡ behind_equals rules sort args p ts
unfolding tail_from numbers_from
tail_group rules sort args p ts =
    seq_group numbers_from (body_behind rules) (composed sort args) p ts
    ∙ seq_same numbers_from (λ n. seq (body_behind rules n) (composed sort args)) last p ts
    (λ n q us. seq_group (body_from rules) (λ r q ts. got (n, r) 0) (composed sort args) q us
    ∙ seq_same (body_from rules) (λ r. seq (λ q ts. got (n, r) 0) (composed sort args)) (λ r. composed sort args (n, r)) q us
    (λ r x vs. seq_nothing (n, r) (composed sort args) x vs))
    ∙ seq_group (optional Takes single_number 0) second last p ts
    ∙ seq_same (optional Takes single_number 0) (λ t. seq (second t) last) (λ t. seq (optional Returns single_number 0) (λ r. last (t, r))) p ts
    (λ t q us. seq_group (optional Returns single_number 0) (λ r q ts. got (t, r) 0) last q us
    ∙ seq_same (optional Returns single_number 0) (λ r. seq (λ q ts. got (t, r) 0) last) (λ r. last (t, r)) q us (λ r x vs. seq_nothing (t, r) last x vs))
  where
    last : ℕ × ℕ → ℕ → List Token → Res Form
    last n = seq (body_from rules) (λ r. composed sort args (n, r))

-- the list and `=`, read one by one, are the head
head_group : (rules : Rules) (sort : MacroSort) (p : ℕ) (ts : List Token) → seq head_from (behind_equals rules sort) p ts ≡ macro_rest rules sort p ts
unfolding head_from macro_rest
head_group rules sort p ts =
    seq_group (parse_args name_argument) equals (behind_equals rules sort) p ts
    ∙ seq_same (parse_args name_argument) (λ args. seq (equals args) (behind_equals rules sort)) (λ args. expect Assign (plain 1) (λ a. behind_equals rules sort args)) p ts
    (λ args q us. expect_group Assign (plain 1) (λ a q ts. got args 0) (behind_equals rules sort) (λ a. behind_equals rules sort args) q us
    (λ t x vs. seq_nothing args (behind_equals rules sort) x vs))

-- `{` and `}`
body_least : (rules : Rules) → AtLeast 2 (body_from rules)
unfolding body_from
body_least rules =
    expect_least 1 OpenBrace (plain 1) _ (λ o.
    seq_least 0 1 (items true 5) _ (any_least (items true 5)) (λ is.
    seq_least 0 1 (groups rules) _ (any_least (groups rules)) (λ gs. expect_least 0 CloseBrace (plain 5) _ (λ c p ts. zero-le))))

-- `(` and `)`
args_least : AtLeast 2 (parse_args name_argument)
unfolding closed_list
args_least =
    expect_least 1 OpenParen (plain 1) _ (λ o.
    seq_least 0 1 (entries name_argument) _ (any_least (entries name_argument)) (λ es. expect_least 0 CloseParen (plain 1) _ (λ c p ts. zero-le)))

-- behind its name a macro takes these and `=`
macro_least : (rules : Rules) (sort : MacroSort) → AtLeast 5 (macro_rest rules sort)
unfolding macro_rest
macro_least rules sort =
    seq_least 2 3 (parse_args name_argument) _ args_least (λ args.
    expect_least 2 Assign (plain 1) _ (λ a.
    seq_least 0 2 (optional Takes single_number 0) _ (any_least (optional Takes single_number 0)) (λ takes.
    seq_least 0 2 (optional Returns single_number 0) _ (any_least (optional Returns single_number 0)) (λ returns. seq_least 2 0 (body_from rules) _ (body_least rules) (λ r p ts. zero-le)))))

pub macro_named : (kind : MacroKind) → is_named (definition_number (macro_kind (macro_sort kind))) ≡ true
unfolding is_named
macro_named macros.Macro = refl
macro_named macros.Fn = refl
macro_named macros.Test = refl

module _ (rules : Rules) (sort : MacroSort) (first name p : ℕ) (all : List Token) where
  -- a macro by the two parts of its reading
  parts_read : (args : List Argument) (m q k : ℕ) (x : (ℕ × ℕ) × Reading)
      → head_from p (drop p all) ≡ got args m → p + m ≡ q → tail_from rules q (drop q all) ≡ got x k
      → macro_rest rules sort p (drop p all) ≡ got (a_macro sort args x.0.0 x.0.1 x.1) (m + (k + 0))
  parts_read args m q k x h ends t =
      sym (head_group rules sort p (drop p all))
      ∙ seq_at head_from (behind_equals rules sort) p all h ends
      ∙ ap (counted m) (sym (tail_group rules sort args q (drop q all)) ∙ seq_at (tail_from rules) (composed sort args) q all t refl)

  module _ {size : ℕ} {before : Before} {st ar ar₁ st' ar' : List ℕ} where
    pub head_is_refused : {f : ℕ × ℕ} {r : Result DefRead (ℕ × ℕ)} → ListRead 0 p size (head_from p (drop p all)) ar (Err f) ar₁ → r ≡ Err f
        → DefParsed 5 all p before size (behind_name first name all (macro_rest rules sort) p) st ar r st' ar'
    unfolding behind_name
    head_is_refused h =
        refused_parsed
        (seq_stops (macro_rest rules sort) (formed first name all) p (drop p all)
        (as_stops (sym (head_group rules sort p (drop p all))) (seq_stops head_from (behind_equals rules sort) p (drop p all) (unlisted _ h))))

    module _ {list : ArgList} (h : ListRead 0 p size (head_from p (drop p all)) ar (Ok list) ar₁) where
      pub tail_is_refused : {f : ℕ × ℕ} {r : Result DefRead (ℕ × ℕ)} → TailParsed list.arguments list.end before size (tail_from rules list.end (drop list.end all)) st ar₁ (Err f) st' ar'
          → r ≡ Err f
          → DefParsed 5 all p before size (behind_name first name all (macro_rest rules sort) p) st ar r st' ar'
      unfolding behind_name
      tail_is_refused t =
          let g = listed _ h in
          refused_parsed
          (seq_stops (macro_rest rules sort) (formed first name all) p (drop p all)
          (as_stops (sym (head_group rules sort p (drop p all)))
          (seq_then_stops head_from (behind_equals rules sort) p all g.is (sym g.ends)
          (as_stops (sym (tail_group rules sort g.args list.end (drop list.end all)))
          (seq_stops (tail_from rules) (composed sort g.args) list.end (drop list.end all) (refusal_told (tail_told list.arguments list.end) _ t.is))))))

      -- the declared arguments come first, and the body's behind them
      pub macro_read : {tail : Tail} {r : Result DefRead (ℕ × ℕ)} → is_named (definition_number (macro_kind sort)) ≡ true → name ≤ p
          → TailParsed list.arguments list.end before size (tail_from rules list.end (drop list.end all)) st ar₁ (Ok tail) st' ar'
          → r ≡ Ok (record { definition = definition_of before (macro_found sort first name list.arguments tail); arguments = tail.body.arguments })
          → DefParsed 5 all p before size (behind_name first name all (macro_rest rules sort) p) st ar r st' ar'
      unfolding behind_name form_count form_arguments form_statements argument_count argument_records
      macro_read {tail} {r} macro low v is = go (listed _ h) (value_told (tail_told list.arguments list.end) _ v.is)
        where
          go : ListOf 0 p size (head_from p (drop p all)) ar list ar₁
              → Told (λ x k. record { takes = x.0.0; returns = x.0.1; body = record { at = list.end + k; statements = statement_count x.1; arguments = list.arguments + argument_count x.1 } }) (tail_from rules list.end (drop list.end all)) tail
              → DefParsed 5 all p before size (behind_name first name all (macro_rest rules sort) p) st ar r st' ar'
          go g b =
              let w = h.within in
              let u = v.within in
              let m = g.tokens in
              let args = g.args in
              let x = b.value.1 in
              let last : list.end + b.size ≡ tail.body.at = sym (ap (λ t. t.body.at) b.same) in
              let place : list.end + b.size ≡ p + (m + (b.size + 0)) = omega (arith, g.ends) in
              let place' : p + (m + (b.size + 0)) ≡ p + (m + (b.size + 0) + 0) = omega arith in
              let bare : list.arguments ≡ length args = g.count ∙ zero-add (length args) in
              let count : length args + argument_count x ≡ length (args ++ all_arguments x) = sym (length-append args (all_arguments x)) in
              let declared : list.arguments ≡ 0 + length (map argument_record args) = rw (zero-add, length-map) bare in
              let parts = parts_read args m list.end b.size b.value g.is (sym g.ends) b.is in
              let long : 5 ≤ m + (b.size + 0) = rw parts at (macro_least rules sort p (drop p all)) in
              rw (seq_at (macro_rest rules sort) (formed first name all) p all parts refl)
              (record {
                is = is ∙ rw (b.same, place, bare, count) refl;
                statements_hold = (rw b.is at v.statements_hold) ∙ rw (bare, add-zero (before.arguments + length args)) refl;
                arguments_hold =
                    (rw b.is at v.arguments_hold)
                    ∙ ap (λ l. put_all argument_width l list.arguments (map argument_record (all_arguments x))) g.records
                    ∙ ap (λ o. put_all argument_width (put_all argument_width ar 0 (map argument_record args)) o (map argument_record (all_arguments x))) declared
                    ∙ sym (put_all_append argument_width ar 0 (map argument_record args) (map argument_record (all_arguments x)))
                    ∙ ap (put_all argument_width ar 0) (sym (map-append argument_record args (all_arguments x)));
                stands = (refl, place');
                within = rw (is, macro) (omega arith, omega arith, omega arith, omega arith, (omega (arith, g.ends), omega (arith, g.ends)));
              })

-- ---- the first token

module _ (rules : Rules) (first p : ℕ) (all : List Token) where
  abbrev pub macro_table : List (ℕ × Step Definition)
  macro_table = (Macro, on (named first (macro_rest rules the_macro))) ∷ (Fn, on (named first (macro_rest rules the_fn))) ∷ (Test, on (named first (macro_rest rules the_test))) ∷ []

  pub macro_opens : (kind : MacroKind) → (token_at all p).kind ≡ macro_token kind
      → parse_macro rules first p (drop p all) ≡ with_one_more (named first (macro_rest rules (macro_sort kind)) (suc p) (drop (suc p) all))
  unfolding parse_macro choose
  macro_opens macros.Macro e = look_table p all (λ t. macro_table) (λ t. refuse (plain 1)) Macro e
  macro_opens macros.Fn e = look_table p all (λ t. macro_table) (λ t. refuse (plain 1)) Fn e
  macro_opens macros.Test e = look_table p all (λ t. macro_table) (λ t. refuse (plain 1)) Test e

-- by the kinds that were read
module _ (rules : Rules) (first : ℕ) (source : Source) (p : ℕ) {k : ℕ} (here : KindAt source.tokens.now source.kept.now p k) where
  pub no_macro_lem : {before : Before} {st ar : List ℕ} {f : ℕ × ℕ} → Opening macro_token k None → f ≡ (1, p)
      → DefParsed 7 (all source) p before (count source) (parse_macro rules first p (all_from source p)) st ar (Err f) st ar
  unfolding parse_macro
  no_macro_lem h same =
      refused_parsed
      (stops_here
      (look_else p (all source) (λ t. macro_table rules first p (all source)) (λ t. refuse (plain 1)) k (kind_is source.text.now p here refl) (h macros.Macro, (h macros.Fn, (h macros.Test, tt)))
      ∙ look_at (λ t. refuse (plain 1)) p (all source))
      refl)
      (rw same refl)

  module _ {l : ℕ} (there : KindAt source.tokens.now source.kept.now (p + 1) l) (kind : MacroKind) (opens : Opening macro_token k (Some kind)) where
    opened : parse_macro rules first p (all_from source p) ≡ with_one_more (named first (macro_rest rules (macro_sort kind)) (suc p) (all_from source (suc p)))
    opened = macro_opens rules first p (all source) kind (kind_is source.text.now p here refl ∙ opens)

    pub macro_nameless : {before : Before} {st ar : List ℕ} {f : ℕ × ℕ} → (l ≡ Ident → ⊥) → f ≡ (1, p + 1)
        → DefParsed 7 (all source) p before (count source) (parse_macro rules first p (all_from source p)) st ar (Err f) st ar
    macro_nameless h same =
        refused_parsed
        (stops_here
        (opened
        ∙ ap with_one_more (name_missing first p (macro_rest rules (macro_sort kind)) (all source) (λ e. h (sym (kind_is source.text.now (suc p) there (add-one p)) ∙ e))))
        (add-one p))
        (rw same refl)

    -- by what is read behind its name
    pub macro_behind : {before : Before} {st ar : List ℕ} {r : Result DefRead (ℕ × ℕ)} {st' ar' : List ℕ} → l ≡ Ident
        → DefParsed 5 (all source) (p + 2) before (count source) (behind_name first (p + 1) (all source) (macro_rest rules (macro_sort kind)) (p + 2)) st ar r st' ar'
        → DefParsed 7 (all source) p before (count source) (parse_macro rules first p (all_from source p)) st ar r st' ar'
    macro_behind e h =
        rw opened (name_read first p (macro_rest rules (macro_sort kind)) (kind_is source.text.now (suc p) there (add-one p) ∙ e) (add-one p) (add-two p) h)

-- behind Define all three have one reader
pub macro_chosen : (rules : Rules) (first : ℕ) (source : Source) (p : ℕ) {k : ℕ} → KindAt source.tokens.now source.kept.now p k → Macro ≤ k → k ≤ Test
    → by_kind (kind_table rules first) (plain 2) p (all_from source p) ≡ parse_macro rules first p (all_from source p)
unfolding choose
macro_chosen rules first source p {k} here low high =
    chosen source p here rules first k refl
    ∙ ⊎_elim (λ (s : k ≡ 6). rw s) (⊎_elim (λ (s : k ≡ 7). rw s) (λ (s : k ≡ 8). rw s)) which
  where
    which : (k ≡ 6) ⊎ ((k ≡ 7) ⊎ (k ≡ 8))
    which =
        ⊎_elim (λ (l : k < 7). inl (omega arith))
        (λ (l : 7 ≤ k). inr (⊎_elim (λ (g : k < 8). inl (omega arith)) (λ (g : 8 ≤ k). inr (omega arith)) (lt_or_le k 8)))
        (lt_or_le k 7)
