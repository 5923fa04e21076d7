-- Items, labels and the body, a unit at a time: what is left to read, put behind what is read, is what the parser promises from the start. Assumes nothing.
use Prim.Native.Nat.{ℕ, zero, suc, ◌+◌, ◌-◌, ◌≤◌, ◌<◌}
use native.Mathlib.Nat.{add-zero, add_assoc, zero-add}
use native.Mathlib.Numerals.{add-one}
use native.Mathlib.Omega.{arith}
use mathlib.Core.Path.{◌≡◌, refl, sym, ap, ◌∙◌}
use mathlib.Core.Bool.{Bool, true, false, cond, ◌||◌, true≢false}
use mathlib.Core.List.{List, [], ◌∷◌, ◌++◌, map, map-append, append-nil, append_assoc, flatten}
use lib.ListN.{length, drop, length-append, length-map}
use lib.Dec.{eqb}
use borrow.Author.Tests.{ne_eqb, eqb-true, eqb-false}
use Rattle.tokens.specs.Number.{statement_width}
use Rattle.tokens.specs.Kind.{Label, CloseBrace, Colon, OpenBrace}
use Rattle.tokens.specs.Token.{Token, token_at}
use Rattle.tokens.specs.declared.source.Source.{Source}
use Rattle.tokens.specs.Source.{all, count}
use Rattle.tokens.specs.Place.{kind_at, KindAt}
use Rattle.tokens.specs.Lent.{put, put_all}
use Rattle.tokens.proofs.TokenLaws.{view_kind, view_length}
use Rattle.tokens.proofs.LentLaws.{put_late}
use Rattle.grammar.specs.Reading.{Simple, Group, Reading}
use Rattle.grammar.specs.Rules.{base}
use Rattle.grammar.specs.Again.{pushing}
use Rattle.grammar.specs.Grammar.{Item, LabelGroup, forget, remember}
use Rattle.grammar.specs.Result.{Why, plain, number, beyond, Res, got, bad, Step, refuse, on, stepped, look, choose, with_one_more, expect, counted, consed, joined, seq, bind, less, many}
use Rattle.grammar.specs.Reader.{item_table, item, ends_items, items, group_rest, label_group, ends_groups, groups, body_from}
use Rattle.grammar.specs.Records.{simple_record, argument_record, arguments_of, group_arguments, simple_records, group_records, group_count, statement_records, argument_records, statement_count, argument_count, all_arguments}
use Rattle.grammar.proofs.AtPlace.{look_at, seq_got, seq_bad, many_ends, many_goes}
use Rattle.grammar.proofs.Holds.{Holds, well, NoneOrOne, many_on, many_stop}
use Rattle.grammar.proofs.Sound.{item_holds, item_some, plain_number, group_holds, group_some}
use Rattle.grammar.proofs.Recorded.{as_many}
use Rattle.lists.specs.declared.before.Before.{Before}
use Rattle.statements.specs.declared.item.Progress.{Progress}
use Rattle.std.specs.Prelude.{Option, Some, None, Result, Ok, Err, is_some}
use Rattle.statements.specs.Answers.{Counting, ProgressWithin, Parsed, progressed, simple_answer, body_answer, simple_arguments, SimpleParsed, BodyParsed, flattened}
use Rattle.statements.specs.Label.{skipped, label_words, label_put, label_opened, takes_in, wrong_in}
use Rattle.lists.proofs.At.{many_bad, test_no, kind_here, kind_inside, expect_taken, expect_refused}
use Rattle.statements.proofs.ItemLaws.{view_inside}
use Rattle.statements.proofs.StatementLaws.{progress_same}
use Rattle.statements.proofs.Pieces.{Piece, no_piece, piece_then, piece_parsed, parsed_piece, refused_parsed, refused_here}

-- ---- the walk of a loop

-- the counts behind what was read
pub counting_next : {words kept : List ℕ} {s t : Progress} {before : Before} → Counting words kept s before → ProgressWithin s (length kept) (Ok t) → Counting words kept t before
counting_next g h =
    record {
      list = g.list;
      inside = h.1;
      statements = omega (arith, g.statements, h.2);
      arguments = omega (arith, g.arguments, h.3);
      statements_before = g.statements_before;
      arguments_before = g.arguments_before;
    }

-- and behind tokens that are passed over
pub counting_skip : {words kept : List ℕ} {s : Progress} {before : Before} (n m : ℕ) → Counting words kept s before → s.at + n ≤ length kept → m ≤ n → Counting words kept (skipped s n m) before
counting_skip n m g h hm =
    record {
      list = g.list;
      inside = h;
      statements = omega (arith, g.statements);
      arguments = omega (arith, g.arguments);
      statements_before = g.statements_before;
      arguments_before = g.arguments_before;
    }

-- the loop at t, with the tables as they are: whatever is promised of the rest from there is promised from the start
pub record Walk (Left : Progress → List ℕ → List ℕ → Result Progress (ℕ × ℕ) → List ℕ → List ℕ → Type 0) (words kept : List ℕ) (before : Before) (t₀ : Progress) (st₀ ar₀ : List ℕ) (t : Progress) (st ar : List ℕ) : Type 0 where
  pub counting : Counting words kept t before
  pub same_statements : length st ≡ length st₀
  pub same_arguments : length ar ≡ length ar₀
  pub onward : (r : Result Progress (ℕ × ℕ)) (st' ar' : List ℕ) → Left t st ar r st' ar' → Left t₀ st₀ ar₀ r st' ar'

-- a turn from t to the next place: it goes forward, and what is promised of the rest behind it is promised from t
pub record Turn (Left : Progress → List ℕ → List ℕ → Result Progress (ℕ × ℕ) → List ℕ → List ℕ → Type 0) (t next : Progress) (st ar st₁ ar₁ : List ℕ) : Type 0 where
  pub forward : t.at < next.at
  pub step : (r : Result Progress (ℕ × ℕ)) (st' ar' : List ℕ) → Left next st₁ ar₁ r st' ar' → Left t st ar r st' ar'

pub walk_start : {Left : Progress → List ℕ → List ℕ → Result Progress (ℕ × ℕ) → List ℕ → List ℕ → Type 0} {words kept : List ℕ} {before : Before} {t : Progress} {st ar : List ℕ} → Counting words kept t before → Walk Left words kept before t st ar t st ar
walk_start h = record { counting = h; same_statements = refl; same_arguments = refl; onward = λ r st ar v. v }

pub walk_step : {Left : Progress → List ℕ → List ℕ → Result Progress (ℕ × ℕ) → List ℕ → List ℕ → Type 0} {words kept : List ℕ} {before : Before} {t₀ t next : Progress} {st₀ ar₀ st ar st₁ ar₁ : List ℕ}
    → Walk Left words kept before t₀ st₀ ar₀ t st ar
    → ProgressWithin t (length kept) (Ok next)
    → length st₁ ≡ length st
    → length ar₁ ≡ length ar
    → Turn Left t next st ar st₁ ar₁
    → Walk Left words kept before t₀ st₀ ar₀ next st₁ ar₁
walk_step w h es ea turn =
    record {
      counting = counting_next w.counting h;
      same_statements = es ∙ w.same_statements;
      same_arguments = ea ∙ w.same_arguments;
      onward = λ r st ar v. w.onward r st ar (turn.step r st ar v);
    }

-- ---- two lists of statements one behind the other

pub arguments_append : (u v : List Simple) → arguments_of (u ++ v) ≡ arguments_of u ++ arguments_of v
unfolding arguments_of
arguments_append [] v = refl
arguments_append (x ∷ u) v = ap (λ l. x.args ++ l) (arguments_append u v) ∙ sym (append_assoc x.args (arguments_of u) (arguments_of v))

records_append : (u v : List Simple) (i a : ℕ) → simple_records i a (u ++ v) ≡ simple_records i a u ++ simple_records (i + length u) (a + length (arguments_of u)) v
unfolding simple_records arguments_of
records_append [] v i a = rw (add-zero i, add-zero a)
records_append (x ∷ u) v i a =
    let first : suc i + length u ≡ i + suc (length u) = omega arith in
    let second : a + length x.args + length (arguments_of u) ≡ a + length (x.args ++ arguments_of u) = omega (arith, length-append x.args (arguments_of u)) in
    ap (λ l. simple_record i a x ∷ l) (records_append u v (suc i) (a + length x.args) ∙ ap (λ k. simple_records (suc i) (a + length x.args) u ++ simple_records k (a + length x.args + length (arguments_of u)) v) first ∙ ap (λ k. simple_records (suc i) (a + length x.args) u ++ simple_records (i + suc (length u)) k v) second)

-- as many records as statements: the grammar's theorem for a body without labels
simple_count : (u : List Simple) (i a : ℕ) → length (simple_records i a u) ≡ length u
unfolding statement_records statement_count group_records group_count
simple_count u i a =
    ap length (sym (append-nil (simple_records i a u))) ∙ (as_many i a (record { main = u; groups = [] })).0 ∙ add-zero (length u)

-- ---- a unit has some tokens

-- whether a unit is read does not hang on the number for a token that begins none
chosen : (table : List (ℕ × Step (List Simple))) (y y' : Why) (k p n : ℕ) (ts : List Token) (u : List Simple) → stepped (choose table (refuse y) k) p ts ≡ got u n → stepped (choose table (refuse y') k) p ts ≡ got u n
unfolding choose
chosen [] y y' k p n ts u e = absurd (let z : ◌≡◌ {A = ℕ} 0 1 = cc in omega arith)
chosen (x ∷ table) y y' k p n ts u e = go (eqb k x.0) (chosen table y y' k p n ts u) e
  where
    go : (b : Bool) → (stepped (choose table (refuse y) k) p ts ≡ got u n → stepped (choose table (refuse y') k) p ts ≡ got u n)
        → stepped (cond b x.1 (choose table (refuse y) k)) p ts ≡ got u n → stepped (cond b x.1 (choose table (refuse y') k)) p ts ≡ got u n
    go true rest e = e
    go false rest e = rest e

unit_shaped : (takes : Bool) (p : ℕ) (ts : List Token) (u : List Simple) (k : ℕ) {T : Why → Token → Type 0} → Holds T (Item takes p) (NoneOrOne (Item takes p)) p (item takes 5 p) ts (got u k) → 0 < k
unit_shaped takes p ts u zero (well h) = item_some takes p [] u h.follows
unit_shaped takes p ts u (suc k) (well h) = omega arith

unit_tokens : (takes : Bool) (wrong p : ℕ) (ts : List Token) (u : List Simple) (k : ℕ) → item takes wrong p ts ≡ got u k → 0 < k
unfolding item look
unit_tokens takes wrong p ts u k e =
    let e' : item takes 5 p ts ≡ got u k = chosen (item_table takes p (token_at ts 0)) (plain wrong) (plain 5) (token_at ts 0).kind p k (drop 1 ts) u e in
    unit_shaped takes p ts u k (rw e' at (item_holds base takes 5 (plain_number base 5 refl refl refl) p ts))

-- ---- where items and labels end

tokens_all : (source : Source) → length (all source) ≡ count source
tokens_all source = view_length source.text.now source.tokens.now source.kept.now

module _ (source : Source) (p : ℕ) where
  pub kind_found : {r k : ℕ} → KindAt source.tokens.now source.kept.now p r → r ≡ k → (token_at (all source) p).kind ≡ k
  kind_found m e = sym (kind_here source.text.now source.tokens.now source.kept.now p m) ∙ e

  pub kind_not : {r k : ℕ} → KindAt source.tokens.now source.kept.now p r → (r ≡ k → ⊥) → (token_at (all source) p).kind ≡ k → ⊥
  kind_not m e h = e (kind_here source.text.now source.tokens.now source.kept.now p m ∙ h)

  -- a token of a kind that is not Eof's, at a place inside the kept list
  kind_there : {r k : ℕ} → KindAt source.tokens.now source.kept.now p r → r ≡ k → 0 < k → ((token_at (all source) p).kind ≡ k) × (p < count source)
  kind_there {k = k} m e h = (
    kind_found m e,
    kind_inside source.tokens.now source.kept.now p k (sym m.is ∙ e) h,
  )

  pub items_go_on : {r : ℕ} {b : Bool} → KindAt source.tokens.now source.kept.now p r → b ≡ (eqb r Label || eqb r CloseBrace) → b ≡ false → ends_items (token_at (all source) p) ≡ false
  items_go_on m e f = rw (kind_here source.text.now source.tokens.now source.kept.now p m) at (sym e ∙ f)

  pub items_stop : {r : ℕ} {b : Bool} → KindAt source.tokens.now source.kept.now p r → b ≡ (eqb r Label || eqb r CloseBrace) → b ≡ true → (ends_items (token_at (all source) p) ≡ true) × (p < count source)
  items_stop {r} m e f =
      let h : (eqb r Label || eqb r CloseBrace) ≡ true = sym e ∙ f in (
        rw (kind_here source.text.now source.tokens.now source.kept.now p m) at h,
        some_kind r m h,
      )
    where
      some_kind : (r : ℕ) → KindAt source.tokens.now source.kept.now p r → (eqb r Label || eqb r CloseBrace) ≡ true → p < count source
      some_kind zero m h = absurd (true≢false (sym h))
      some_kind (suc r) m h = kind_inside source.tokens.now source.kept.now p (suc r) (sym m.is) (omega arith)

  groups_go_on : {r : ℕ} → KindAt source.tokens.now source.kept.now p r → (r ≡ CloseBrace → ⊥) → ends_groups (token_at (all source) p) ≡ false
  groups_go_on m f = test_no (kind_here source.text.now source.tokens.now source.kept.now p m) f

  groups_stop : {r : ℕ} → KindAt source.tokens.now source.kept.now p r → r ≡ CloseBrace → (ends_groups (token_at (all source) p) ≡ true) × (p < count source)
  groups_stop m e = let h = kind_there m e (omega arith) in (rw h.0, h.1)

-- ---- items

-- items are left to read at s
abbrev pub ItemsLeft : Bool → ℕ → Before → ℕ → List Token → Progress → List ℕ → List ℕ → Result Progress (ℕ × ℕ) → List ℕ → List ℕ → Type 0
ItemsLeft takes wrong before size all s = SimpleParsed s before size (flattened (items takes wrong s.at (drop s.at all)))

module _ (takes : Bool) (wrong : ℕ) (before : Before) (size : ℕ) (all : List Token) where
  -- a unit and what is left behind it
  unit_then : {s : Progress} {st ar st₁ ar₁ st₂ ar₂ : List ℕ} {r₁ r : Result Progress (ℕ × ℕ)} (u : List Simple) (k : ℕ) (rest : Res (List (List Simple)))
      → SimpleParsed s before size (got u k) st ar r₁ st₁ ar₁
      → SimpleParsed (progressed s k (length u) (length (arguments_of u))) before size (flattened rest) st₁ ar₁ r st₂ ar₂
      → SimpleParsed s before size (flattened (counted k (consed u rest))) st ar r st₂ ar₂
  unfolding flatten
  unit_then {s} u k (bad y w) v left = rw left.is (refused_parsed simple_answer simple_records simple_arguments before y w refl refl refl)
  unit_then {s} u k (got us k') v left =
      let first = parsed_piece simple_answer simple_records simple_arguments before v refl in
      let second = parsed_piece simple_answer simple_records simple_arguments before left refl in
      let both = piece_then first.1 (simple_count u (before.statements + s.statements) (before.arguments + s.arguments)) (length-map (arguments_of u) argument_record) second.1 in
      rw second.0
      (piece_parsed simple_answer simple_records simple_arguments before (u ++ flatten us) both refl
      (rw (length-append, arguments_append, length-append))
      (records_append u (flatten us) (before.statements + s.statements) (before.arguments + s.arguments) ∙ rw (add_assoc before.statements s.statements (length u), add_assoc before.arguments s.arguments (length (arguments_of u))))
      (ap (map argument_record) (arguments_append u (flatten us)) ∙ map-append argument_record (arguments_of u) (arguments_of (flatten us))))

  -- what an item's promise says of the turn
  pub items_turn : {t next : Progress} {st ar st₁ ar₁ : List ℕ} → length all ≡ size → ends_items (token_at all t.at) ≡ false
      → SimpleParsed t before size (item takes wrong t.at (drop t.at all)) st ar (Ok next) st₁ ar₁
      → Turn (ItemsLeft takes wrong before size all) t next st ar st₁ ar₁
  unfolding items
  items_turn {t} {next} {st} {ar} {st₁} {ar₁} len stop v = go (item takes wrong t.at (drop t.at all)) refl
    where
      go : (x : Res (List Simple)) → item takes wrong t.at (drop t.at all) ≡ x → Turn (ItemsLeft takes wrong before size all) t next st ar st₁ ar₁
      go (bad y w) e = absurd (let f : Ok next ≡ Err (number y, w + beyond y) = v.is ∙ ap (simple_answer t) e in let z : ◌≡◌ {A = ℕ} 0 1 = cc in omega arith)
      go (got u zero) e = absurd (let f = unit_tokens takes wrong t.at (drop t.at all) u zero e in omega arith)
      go (got u (suc n)) e =
          let v' : SimpleParsed t before size (got u (suc n)) st ar (Ok next) st₁ ar₁ = rw e at v in
          let first = parsed_piece simple_answer simple_records simple_arguments before v' refl in
          let is : next ≡ progressed t (suc n) (length u) (length (arguments_of u)) = cc first.0 in
          let whole = many_goes ends_items forget (λ s. item takes wrong) tt t.at all u n (omega (arith, first.1.inside)) stop e in
          record {
            forward = rw is (omega arith);
            step = λ r st' ar' left. rw whole (unit_then u (suc n) (many ends_items forget (λ s. item takes wrong) tt 0 (t.at + suc n) (drop (t.at + suc n) all)) v' (rw is at left));
          }

  -- the loop ends
  pub items_end : {t : Progress} {st ar : List ℕ} → length all ≡ size → t.at < size → ends_items (token_at all t.at) ≡ true
      → SimpleParsed t before size (flattened (items takes wrong t.at (drop t.at all))) st ar (Ok t) st ar
  unfolding items flatten simple_records arguments_of
  items_end {t} {st} {ar} len h stop =
      piece_parsed simple_answer simple_records simple_arguments before [] (no_piece t size st ar (omega arith))
      (ap flattened (many_ends ends_items forget (λ s. item takes wrong) tt t.at all (omega arith) stop))
      refl refl refl

  -- an item is refused
  pub items_refused : {t : Progress} {told : ℕ × ℕ} {st ar st₁ ar₁ : List ℕ} → length all ≡ size → ends_items (token_at all t.at) ≡ false
      → SimpleParsed t before size (item takes wrong t.at (drop t.at all)) st ar (Err told) st₁ ar₁
      → SimpleParsed t before size (flattened (items takes wrong t.at (drop t.at all))) st ar (Err told) st₁ ar₁
  unfolding items
  items_refused {t} {told} {st} {ar} {st₁} {ar₁} len stop v = go (item takes wrong t.at (drop t.at all)) refl
    where
      go : (x : Res (List Simple)) → item takes wrong t.at (drop t.at all) ≡ x → SimpleParsed t before size (flattened (many ends_items forget (λ s. item takes wrong) tt 0 t.at (drop t.at all))) st ar (Err told) st₁ ar₁
      go (got u k) e = absurd (let f : Err told ≡ simple_answer t (got u k) = v.is ∙ ap (simple_answer t) e in let z : ◌≡◌ {A = ℕ} 0 1 = cc in omega arith)
      go (bad y w) e =
          let f : Err told ≡ Err (number y, w + beyond y) = v.is ∙ ap (simple_answer t) e in
          let whole = many_bad ends_items forget (λ s. item takes wrong) tt t.at all y w stop e in
          refused_parsed simple_answer simple_records simple_arguments before y w (ap flattened whole) refl (cc)

-- the loop over items in what the code is lent: a turn, its end, and a refusal
abbrev pub ItemsWalk : Bool → ℕ → Before → Source → Progress → List ℕ → List ℕ → Progress → List ℕ → List ℕ → Type 0
ItemsWalk takes wrong before source = Walk (ItemsLeft takes wrong before (count source) (all source)) source.tokens.now source.kept.now before

module _ (takes : Bool) (wrong : ℕ) (before : Before) (source : Source) {t₀ t : Progress} {st₀ ar₀ st ar : List ℕ} {k : ℕ} {ends : Bool}
    (w : ItemsWalk takes wrong before source t₀ st₀ ar₀ t st ar) (m : KindAt source.tokens.now source.kept.now t.at k) (tested : ends ≡ (eqb k Label || eqb k CloseBrace)) where
  pub items_more : {next : Progress} {st₁ ar₁ : List ℕ} → ends ≡ false
      → SimpleParsed t before (count source) (item takes wrong t.at (drop t.at (all source))) st ar (Ok next) st₁ ar₁
      → length st₁ ≡ length st → length ar₁ ≡ length ar
      → (t.at < next.at) × (next.at ≤ count source) × ItemsWalk takes wrong before source t₀ st₀ ar₀ next st₁ ar₁
  items_more off v es ea =
      let turn = items_turn takes wrong before (count source) (all source) (tokens_all source) (items_go_on source t.at m tested off) v in
      (turn.forward, v.within.1, walk_step w v.within es ea turn)

  pub items_done : ends ≡ true → ItemsLeft takes wrong before (count source) (all source) t₀ st₀ ar₀ (Ok t) st ar
  items_done shut =
      let stop = items_stop source t.at m tested shut in
      w.onward _ _ _ (items_end takes wrong before (count source) (all source) (tokens_all source) stop.1 stop.0)

  pub items_fail : {told : ℕ × ℕ} {st₁ ar₁ : List ℕ} → ends ≡ false
      → SimpleParsed t before (count source) (item takes wrong t.at (drop t.at (all source))) st ar (Err told) st₁ ar₁
      → ItemsLeft takes wrong before (count source) (all source) t₀ st₀ ar₀ (Err told) st₁ ar₁
  items_fail off v = w.onward _ _ _ (items_refused takes wrong before (count source) (all source) (tokens_all source) (items_go_on source t.at m tested off) v)

-- ---- a label

-- label groups, promised as statements are: the answer, the records, and both
abbrev pub groups_answer : Progress → Res (List Group) → Result Progress (ℕ × ℕ)
groups_answer s (got gs k) = Ok (progressed s k (group_count gs) (length (group_arguments gs)))
groups_answer s (bad y w) = Err (number y, w + beyond y)

abbrev pub groups_arguments : List Group → List (List ℕ)
groups_arguments gs = map argument_record (group_arguments gs)

abbrev pub GroupsParsed : Progress → Before → ℕ → Res (List Group) → List ℕ → List ℕ → Result Progress (ℕ × ℕ) → List ℕ → List ℕ → Type 0
GroupsParsed = Parsed groups_answer group_records groups_arguments

-- one group as a list
abbrev one_group : Res Group → Res (List Group)
one_group (got g k) = got (g ∷ []) k
one_group (bad y w) = bad y w

module _ (strict : Bool) (before : Before) (size : ℕ) (all : List Token) (s : Progress) where
  label_step : (token_at all s.at).kind ≡ Label → label_group (pushing strict) [] s.at (drop s.at all) ≡ with_one_more (group_rest (pushing strict) s.at (token_at all s.at) (s.at + 1) (drop (s.at + 1) all))
  unfolding label_group choose
  label_step e =
      look_at (λ t. choose ((Label, on (group_rest (pushing strict) s.at t)) ∷ []) (refuse (plain 5)) t.kind) s.at all
      ∙ rw (e, add-one)

  -- no label, or no colon behind it
  not_a_label : {st ar st' ar' : List ℕ} → ((token_at all s.at).kind ≡ Label → ⊥)
      → GroupsParsed s before size (one_group (label_group (pushing strict) [] s.at (drop s.at all))) st ar (Err (5, s.at)) st' ar'
  unfolding label_group choose
  not_a_label e =
      let step : label_group (pushing strict) [] s.at (drop s.at all) ≡ bad (plain 5) s.at =
      look_at (λ t. choose ((Label, on (group_rest (pushing strict) s.at t)) ∷ []) (refuse (plain 5)) t.kind) s.at all ∙ rw (ne_eqb _ _ e) in
      refused_here groups_answer group_records groups_arguments before 5 s.at (ap one_group step) refl

  no_colon : {st ar st' ar' : List ℕ} → (token_at all s.at).kind ≡ Label → ((token_at all (s.at + 1)).kind ≡ Colon → ⊥)
      → GroupsParsed s before size (one_group (label_group (pushing strict) [] s.at (drop s.at all))) st ar (Err (1, s.at + 1)) st' ar'
  unfolding group_rest
  no_colon e f =
      refused_here groups_answer group_records groups_arguments before 1 (s.at + 1)
      (ap one_group (label_step e ∙ ap with_one_more (expect_refused Colon (plain 1) _ (s.at + 1) all f)))
      refl

  -- the label with its items: its own record goes before theirs
  abbrev the_group : ℕ → List (List Simple) → Group
  the_group n is = record { first = s.at; end = s.at + 2 + n; token = token_at all s.at; inner = flatten is }

  label_read : (x : Res (List (List Simple))) → (token_at all s.at).kind ≡ Label → (token_at all (s.at + 1)).kind ≡ Colon → items strict 6 (s.at + 2) (drop (s.at + 2) all) ≡ x
      → label_group (pushing strict) [] s.at (drop s.at all) ≡ with_one_more (with_one_more (joined x (λ is q ts. got (record { first = s.at; end = q; token = token_at all s.at; inner = flatten is }) 0) (s.at + 2) (drop (s.at + 2) all)))
  unfolding group_rest seq
  label_read x e f g =
      let two : s.at + 1 + 1 ≡ s.at + 2 = omega arith in
      label_step e
      ∙ ap with_one_more (expect_taken Colon (plain 1) (λ c. seq (items strict 6) (λ is q ts. got (record { first = s.at; end = q; token = token_at all s.at; inner = flatten is }) 0)) (s.at + 1) all f)
      ∙ rw (two, g)

  label_piece : {n l m : ℕ} {rs qs : List (List ℕ)} {st ar st₁ ar₁ st₂ : List ℕ} {t : Progress}
      → Piece (skipped s 2 1) size n l m rs qs st ar t st₁ ar₁
      → st₂ ≡ put statement_width st₁ s.statements (label_words s before t)
      → Piece s size (2 + n) (suc l) m (label_words s before t ∷ rs) qs st ar t st₂ ar₁
  unfolding put_all
  label_piece {n} {l} {m} {rs} {qs} {st} {ar} {st₁} {ar₁} {st₂} {t} v w =
      record {
        is = v.is ∙ progress_same (omega arith) (omega arith) refl;
        statements = w ∙ ap (λ (x : List ℕ). put statement_width x s.statements (label_words s before t)) v.statements ∙ put_late 8 rs st (label_words s before t) s.statements (s.statements + 1) (omega arith) (omega arith);
        arguments = v.arguments;
        inside = omega (arith, v.inside);
        few_statements = omega (arith, v.few_statements);
        few_arguments = omega (arith, v.few_arguments);
      }

  label_parsed : {st ar st₁ ar₁ st₂ : List ℕ} {t : Progress}
      → (token_at all s.at).kind ≡ Label
      → (token_at all (s.at + 1)).kind ≡ Colon
      → ItemsLeft strict 6 before size all (skipped s 2 1) st ar (Ok t) st₁ ar₁
      → st₂ ≡ put statement_width st₁ s.statements (label_words s before t)
      → GroupsParsed s before size (one_group (label_group (pushing strict) [] s.at (drop s.at all))) st ar (Ok t) st₂ ar₁
  unfolding group_records group_count group_arguments
  label_parsed {st} {ar} {st₁} {ar₁} {st₂} {t} e f v w = go (items strict 6 (s.at + 2) (drop (s.at + 2) all)) refl
    where
      go : (x : Res (List (List Simple))) → items strict 6 (s.at + 2) (drop (s.at + 2) all) ≡ x
          → GroupsParsed s before size (one_group (label_group (pushing strict) [] s.at (drop s.at all))) st ar (Ok t) st₂ ar₁
      go (bad y q) g = absurd (let f : Ok t ≡ Err (number y, q + beyond y) = v.is ∙ ap (λ x. simple_answer (skipped s 2 1) (flattened x)) g in let z : ◌≡◌ {A = ℕ} 0 1 = cc in omega arith)
      go (got is n) g =
          let v' : SimpleParsed (skipped s 2 1) before size (got (flatten is) n) st ar (Ok t) st₁ ar₁ = rw g at v in
          let first = parsed_piece simple_answer simple_records simple_arguments before v' refl in
          let here : t ≡ progressed (skipped s 2 1) n (length (flatten is)) (length (arguments_of (flatten is))) = cc first.0 in
          let own : before.statements + (s.statements + 1) ≡ suc (before.statements + s.statements) = omega arith in
          let count : s.statements + 1 + length (flatten is) - (s.statements + 1) ≡ length (flatten is) = omega arith in
          let none : n + 0 ≡ n = add-zero n in
          let two : 2 + n ≡ suc (suc n) = omega arith in
          rw here
          (piece_parsed groups_answer group_records groups_arguments before (the_group n is ∷ []) (label_piece first.1 (rw here at w))
          (ap one_group (label_read (got is n) e f g) ∙ rw (none, two))
          (ap Ok (progress_same refl (ap (λ k. s.statements + k) (add-zero (suc (length (flatten is))))) (ap (λ k. s.arguments + length k) (append-nil (arguments_of (flatten is))))))
          (rw (append-nil, own, count, add-one))
          (ap (map argument_record) (append-nil (arguments_of (flatten is)))))

  -- an item of it is refused
  label_refused : {st ar st₁ ar₁ : List ℕ} {told : ℕ × ℕ}
      → (token_at all s.at).kind ≡ Label
      → (token_at all (s.at + 1)).kind ≡ Colon
      → ItemsLeft strict 6 before size all (skipped s 2 1) st ar (Err told) st₁ ar₁
      → GroupsParsed s before size (one_group (label_group (pushing strict) [] s.at (drop s.at all))) st ar (Err told) st₁ ar₁
  label_refused {st} {ar} {st₁} {ar₁} {told} e f v = go (items strict 6 (s.at + 2) (drop (s.at + 2) all)) refl
    where
      go : (x : Res (List (List Simple))) → items strict 6 (s.at + 2) (drop (s.at + 2) all) ≡ x
          → GroupsParsed s before size (one_group (label_group (pushing strict) [] s.at (drop s.at all))) st ar (Err told) st₁ ar₁
      go (got is n) g = absurd (let f : Err told ≡ simple_answer (skipped s 2 1) (got (flatten is) n) = v.is ∙ ap (λ x. simple_answer (skipped s 2 1) (flattened x)) g in let z : ◌≡◌ {A = ℕ} 0 1 = cc in omega arith)
      go (bad y w) g =
          let h : Err told ≡ Err (number y, w + beyond y) = v.is ∙ ap (λ x. simple_answer (skipped s 2 1) (flattened x)) g in
          refused_parsed groups_answer group_records groups_arguments before y w (ap one_group (label_read (bad y w) e f g)) refl (cc)

  -- what the label's writer needs of the items
  label_inside : {words kept st ar st₁ ar₁ : List ℕ} {t : Progress} → Counting words kept s before → length kept ≡ size → ItemsLeft strict 6 before size all (skipped s 2 1) st ar (Ok t) st₁ ar₁
      → s.statements + 1 ≤ t.statements
  label_inside {words} {kept} {st} {ar} {st₁} {ar₁} {t} g len v = go (items strict 6 (s.at + 2) (drop (s.at + 2) all)) refl
    where
      go : (x : Res (List (List Simple))) → items strict 6 (s.at + 2) (drop (s.at + 2) all) ≡ x → s.statements + 1 ≤ t.statements
      go (bad y q) e = absurd (let f : Ok t ≡ Err (number y, q + beyond y) = v.is ∙ ap (λ x. simple_answer (skipped s 2 1) (flattened x)) e in let z : ◌≡◌ {A = ℕ} 0 1 = cc in omega arith)
      go (got us n) e =
          let v' : SimpleParsed (skipped s 2 1) before size (got (flatten us) n) st ar (Ok t) st₁ ar₁ = rw e at v in
          let first = parsed_piece simple_answer simple_records simple_arguments before v' refl in
          let here : t ≡ progressed (skipped s 2 1) n (length (flatten us)) (length (arguments_of (flatten us))) = cc first.0 in
          rw here (omega arith)

-- ---- labels one behind the other

-- without the rule on names those that are seen play no part
names_aside : (strict : Bool) (ts : List Token) (seen seen' : List (List ℕ)) (k p : ℕ) → many ends_groups remember (label_group (pushing strict)) seen k p ts ≡ many ends_groups remember (label_group (pushing strict)) seen' k p ts
unfolding many label_group
names_aside strict [] seen seen' k p = refl
names_aside strict (t ∷ ts) seen seen' (suc k) p = names_aside strict ts seen seen' k (suc p)
names_aside strict (t ∷ ts) seen seen' zero p = go (ends_groups t) refl (names_aside strict ts)
  where
    told : (x : Res Group) → ((seen seen' : List (List ℕ)) (k p : ℕ) → many ends_groups remember (label_group (pushing strict)) seen k p ts ≡ many ends_groups remember (label_group (pushing strict)) seen' k p ts)
        → bind x (λ g n. counted (suc (less n)) (consed g (many ends_groups remember (label_group (pushing strict)) (remember seen g) (less n) (suc p) ts))) ≡ bind x (λ g n. counted (suc (less n)) (consed g (many ends_groups remember (label_group (pushing strict)) (remember seen' g) (less n) (suc p) ts)))
    told (got g n) rest = ap (λ r. counted (suc (less n)) (consed g r)) (rest (remember seen g) (remember seen' g) (less n) (suc p))
    told (bad y w) rest = refl

    go : (b : Bool) → ends_groups t ≡ b → ((seen seen' : List (List ℕ)) (k p : ℕ) → many ends_groups remember (label_group (pushing strict)) seen k p ts ≡ many ends_groups remember (label_group (pushing strict)) seen' k p ts)
        → many ends_groups remember (label_group (pushing strict)) seen zero p (t ∷ ts) ≡ many ends_groups remember (label_group (pushing strict)) seen' zero p (t ∷ ts)
    go true e rest = many_stop ends_groups remember (label_group (pushing strict)) seen p t ts e ∙ sym (many_stop ends_groups remember (label_group (pushing strict)) seen' p t ts e)
    go false e rest =
        many_on ends_groups remember (label_group (pushing strict)) seen p t ts e
        ∙ told (label_group (pushing strict) seen p (t ∷ ts)) rest
        ∙ sym (many_on ends_groups remember (label_group (pushing strict)) seen' p t ts e)

group_shaped : (strict : Bool) (p : ℕ) (ts : List Token) (g : Group) (k : ℕ) {T : Why → Token → Type 0} → Holds T (LabelGroup (pushing strict) [] p) (NoneOrOne (LabelGroup (pushing strict) [] p)) p (label_group (pushing strict) [] p) ts (got g k) → 0 < k
group_shaped strict p ts g zero (well h) = group_some (pushing strict) [] p [] g h.follows
group_shaped strict p ts g (suc k) (well h) = omega arith

group_tokens : (strict : Bool) (p : ℕ) (ts : List Token) (g : Group) (k : ℕ) → label_group (pushing strict) [] p ts ≡ got g k → 0 < k
group_tokens strict p ts g k e = group_shaped strict p ts g k (rw e at (group_holds (pushing strict) [] p ts))

-- and for one of labels alone
groups_count : (gs : List Group) (i a : ℕ) → length (group_records i a gs) ≡ group_count gs
unfolding statement_records statement_count simple_records arguments_of
groups_count gs i a = rw (add-zero i, add-zero a, zero-add) at (as_many i a (record { main = []; groups = gs })).0

-- labels are left to read at s
abbrev pub GroupsLeft : Bool → Before → ℕ → List Token → Progress → List ℕ → List ℕ → Result Progress (ℕ × ℕ) → List ℕ → List ℕ → Type 0
GroupsLeft strict before size all s = GroupsParsed s before size (groups (pushing strict) s.at (drop s.at all))

module _ (strict : Bool) (before : Before) (size : ℕ) (all : List Token) where
  label_then : {s : Progress} {st ar st₁ ar₁ st₂ ar₂ : List ℕ} {r₁ r : Result Progress (ℕ × ℕ)} (g : Group) (k : ℕ) (rest : Res (List Group))
      → GroupsParsed s before size (got (g ∷ []) k) st ar r₁ st₁ ar₁
      → GroupsParsed (progressed s k (group_count (g ∷ [])) (length (group_arguments (g ∷ [])))) before size rest st₁ ar₁ r st₂ ar₂
      → GroupsParsed s before size (counted k (consed g rest)) st ar r st₂ ar₂
  unfolding group_records group_count group_arguments
  label_then {s} g k (bad y w) v left = rw left.is (refused_parsed groups_answer group_records groups_arguments before y w refl refl refl)
  label_then {s} g k (got gs k') v left =
      let first = parsed_piece groups_answer group_records groups_arguments before v refl in
      let second = parsed_piece groups_answer group_records groups_arguments before left refl in
      let both = piece_then first.1 (groups_count (g ∷ []) (before.statements + s.statements) (before.arguments + s.arguments)) (length-map (group_arguments (g ∷ [])) argument_record) second.1 in
      let n : suc (length g.inner) + 0 ≡ suc (length g.inner) = add-zero (suc (length g.inner)) in
      let args : arguments_of g.inner ++ [] ≡ arguments_of g.inner = append-nil (arguments_of g.inner) in
      let own : suc (before.statements + s.statements) + length g.inner ≡ before.statements + (s.statements + suc (length g.inner)) = omega arith in
      rw second.0
      (piece_parsed groups_answer group_records groups_arguments before (g ∷ gs) both refl
      (rw (args, n, length-append))
      (rw (n, args, own, append-nil (simple_records (suc (before.statements + s.statements)) (before.arguments + s.arguments) g.inner), add_assoc before.arguments s.arguments (length (arguments_of g.inner))))
      (rw (args, map-append)))

  -- what a label's promise says of the turn
  groups_turn : {t next : Progress} {st ar st₁ ar₁ : List ℕ} → length all ≡ size → ends_groups (token_at all t.at) ≡ false
      → GroupsParsed t before size (one_group (label_group (pushing strict) [] t.at (drop t.at all))) st ar (Ok next) st₁ ar₁
      → Turn (GroupsLeft strict before size all) t next st ar st₁ ar₁
  unfolding groups
  groups_turn {t} {next} {st} {ar} {st₁} {ar₁} len stop v = go (label_group (pushing strict) [] t.at (drop t.at all)) refl
    where
      go : (x : Res Group) → label_group (pushing strict) [] t.at (drop t.at all) ≡ x → Turn (GroupsLeft strict before size all) t next st ar st₁ ar₁
      go (bad y w) e = absurd (let f : Ok next ≡ Err (number y, w + beyond y) = v.is ∙ ap (λ x. groups_answer t (one_group x)) e in let z : ◌≡◌ {A = ℕ} 0 1 = cc in omega arith)
      go (got g zero) e = absurd (let f = group_tokens strict t.at (drop t.at all) g zero e in omega arith)
      go (got g (suc n)) e =
          let v' : GroupsParsed t before size (got (g ∷ []) (suc n)) st ar (Ok next) st₁ ar₁ = rw e at v in
          let first = parsed_piece groups_answer group_records groups_arguments before v' refl in
          let is : next ≡ progressed t (suc n) (group_count (g ∷ [])) (length (group_arguments (g ∷ []))) = cc first.0 in
          let whole = many_goes ends_groups remember (label_group (pushing strict)) [] t.at all g n (omega (arith, first.1.inside)) stop e in
          let aside = names_aside strict (drop (t.at + suc n) all) (remember [] g) [] 0 (t.at + suc n) in
          record {
            forward = rw is (omega arith);
            step = λ r st' ar' left. rw (whole, aside) (label_then g (suc n) (many ends_groups remember (label_group (pushing strict)) [] 0 (t.at + suc n) (drop (t.at + suc n) all)) v' (rw is at left));
          }

  groups_end : {t : Progress} {st ar : List ℕ} → length all ≡ size → t.at < size → ends_groups (token_at all t.at) ≡ true → GroupsLeft strict before size all t st ar (Ok t) st ar
  unfolding groups group_records group_count group_arguments
  groups_end {t} {st} {ar} len h stop =
      piece_parsed groups_answer group_records groups_arguments before [] (no_piece t size st ar (omega arith))
      (many_ends ends_groups remember (label_group (pushing strict)) [] t.at all (omega arith) stop)
      refl refl refl

  groups_refused : {t : Progress} {told : ℕ × ℕ} {st ar st₁ ar₁ : List ℕ} → length all ≡ size → ends_groups (token_at all t.at) ≡ false
      → GroupsParsed t before size (one_group (label_group (pushing strict) [] t.at (drop t.at all))) st ar (Err told) st₁ ar₁
      → GroupsLeft strict before size all t st ar (Err told) st₁ ar₁
  unfolding groups
  groups_refused {t} {told} {st} {ar} {st₁} {ar₁} len stop v = go (label_group (pushing strict) [] t.at (drop t.at all)) refl
    where
      go : (x : Res Group) → label_group (pushing strict) [] t.at (drop t.at all) ≡ x → GroupsParsed t before size (many ends_groups remember (label_group (pushing strict)) [] 0 t.at (drop t.at all)) st ar (Err told) st₁ ar₁
      go (got g k) e = absurd (let f : Err told ≡ groups_answer t (got (g ∷ []) k) = v.is ∙ ap (λ x. groups_answer t (one_group x)) e in let z : ◌≡◌ {A = ℕ} 0 1 = cc in omega arith)
      go (bad y w) e =
          let f : Err told ≡ Err (number y, w + beyond y) = v.is ∙ ap (λ x. groups_answer t (one_group x)) e in
          let whole = many_bad ends_groups remember (label_group (pushing strict)) [] t.at all y w stop e in
          refused_parsed groups_answer group_records groups_arguments before y w whole refl (cc)

-- ---- the body

-- what was read between two braces, with them
braced : {s t : Progress} {size k n m : ℕ} {rs qs : List (List ℕ)} {st ar st' ar' : List ℕ}
    → Piece (skipped s 1 0) size k n m rs qs st ar t st' ar'
    → t.at < size
    → Piece s size (suc (k + 1)) n m rs qs st ar (skipped t 1 0) st' ar'
braced {s} {t} {st = st} v h =
    let at : t.at ≡ s.at + 1 + _ = ap (λ (x : Progress). x.at) v.is in
    record {
      is = ap (λ (x : Progress). skipped x 1 0) v.is ∙ progress_same (omega arith) (omega arith) refl;
      statements = v.statements ∙ rw (add-zero s.statements);
      arguments = v.arguments;
      inside = omega (arith, h);
      few_statements = omega (arith, v.few_statements);
      few_arguments = omega (arith, v.few_arguments);
    }

-- the closing brace behind what was read
abbrev pub shut : List Token → Result Progress (ℕ × ℕ) → Result Progress (ℕ × ℕ)
shut all (Ok t) = cond (eqb (token_at all t.at).kind CloseBrace) (Ok (skipped t 1 0)) (Err (5, t.at))
shut all (Err f) = Err f

module _ (strict : Bool) (before : Before) (size : ℕ) (all : List Token) (s : Progress) where
  abbrev rest : List (List Simple) → ℕ → List Token → Res Reading
  rest is = seq (groups (pushing strict)) (λ gs. expect CloseBrace (plain 5) (λ c q ts. got (record { main = flatten is; groups = gs }) 0))

  -- no opening brace
  pub no_brace : {st ar st' ar' : List ℕ} → ((token_at all s.at).kind ≡ OpenBrace → ⊥) → BodyParsed s before size (body_from (pushing strict) s.at (drop s.at all)) st ar (Err (1, s.at)) st' ar'
  unfolding body_from
  no_brace e =
      refused_here body_answer statement_records argument_records before 1 s.at (expect_refused OpenBrace (plain 1) (λ o. seq (items true 5) rest) s.at all e) refl

  opened : (token_at all s.at).kind ≡ OpenBrace → body_from (pushing strict) s.at (drop s.at all) ≡ with_one_more (seq (items true 5) rest (s.at + 1) (drop (s.at + 1) all))
  unfolding body_from
  opened e = expect_taken OpenBrace (plain 1) (λ o. seq (items true 5) rest) s.at all e

  -- an item of the macro part is refused
  main_refused : {st ar st₁ ar₁ : List ℕ} {told : ℕ × ℕ} → (token_at all s.at).kind ≡ OpenBrace
      → ItemsLeft true 5 before size all (skipped s 1 0) st ar (Err told) st₁ ar₁
      → BodyParsed s before size (body_from (pushing strict) s.at (drop s.at all)) st ar (Err told) st₁ ar₁
  main_refused {st} {ar} {st₁} {ar₁} {told} e v = go (items true 5 (s.at + 1) (drop (s.at + 1) all)) refl
    where
      go : (x : Res (List (List Simple))) → items true 5 (s.at + 1) (drop (s.at + 1) all) ≡ x → BodyParsed s before size (body_from (pushing strict) s.at (drop s.at all)) st ar (Err told) st₁ ar₁
      go (got us n) f = absurd (let g : Err told ≡ simple_answer (skipped s 1 0) (got (flatten us) n) = v.is ∙ ap (λ x. simple_answer (skipped s 1 0) (flattened x)) f in let z : ◌≡◌ {A = ℕ} 0 1 = cc in omega arith)
      go (bad y w) f =
          let g : Err told ≡ Err (number y, w + beyond y) = v.is ∙ ap (λ x. simple_answer (skipped s 1 0) (flattened x)) f in
          refused_parsed body_answer statement_records argument_records before y w (opened e ∙ ap with_one_more (seq_bad (items true 5) rest (s.at + 1) (drop (s.at + 1) all) y w f)) refl (cc)

  -- the macro part, the labels and the closing brace
  finished : {st ar st₁ ar₁ st₂ ar₂ : List ℕ} {t : Progress} {r : Result Progress (ℕ × ℕ)} (us : List (List Simple)) (n : ℕ)
      → ((q : ℕ) → 0 < (token_at all q).kind → q < size)
      → (token_at all s.at).kind ≡ OpenBrace
      → items true 5 (s.at + 1) (drop (s.at + 1) all) ≡ got us n
      → SimpleParsed (skipped s 1 0) before size (got (flatten us) n) st ar (Ok t) st₁ ar₁
      → GroupsLeft strict before size all t st₁ ar₁ r st₂ ar₂
      → BodyParsed s before size (body_from (pushing strict) s.at (drop s.at all)) st ar (shut all r) st₂ ar₂
  unfolding statement_records argument_records statement_count argument_count all_arguments
  finished {st} {ar} {st₁} {ar₁} {st₂} {ar₂} {t} {r} us n inside e f v w = go (groups (pushing strict) t.at (drop t.at all)) refl
    where
      first : (◌≡◌ {A = Result Progress (ℕ × ℕ)} (Ok t) (Ok (progressed (skipped s 1 0) n (length (flatten us)) (length (arguments_of (flatten us)))))) × Piece (skipped s 1 0) size n (length (flatten us)) (length (arguments_of (flatten us))) (simple_records (before.statements + (s.statements + 0)) (before.arguments + s.arguments) (flatten us)) (simple_arguments (flatten us)) st ar (progressed (skipped s 1 0) n (length (flatten us)) (length (arguments_of (flatten us)))) st₁ ar₁
      first = parsed_piece simple_answer simple_records simple_arguments before v refl

      is : t ≡ progressed (skipped s 1 0) n (length (flatten us)) (length (arguments_of (flatten us)))
      is = cc first.0

      main_piece : Piece (skipped s 1 0) size n (length (flatten us)) (length (arguments_of (flatten us))) (simple_records (before.statements + (s.statements + 0)) (before.arguments + s.arguments) (flatten us)) (simple_arguments (flatten us)) st ar t st₁ ar₁
      main_piece =
          record {
            is = is;
            statements = first.1.statements;
            arguments = first.1.arguments;
            inside = first.1.inside;
            few_statements = first.1.few_statements;
            few_arguments = first.1.few_arguments;
          }

      at : t.at ≡ s.at + 1 + n
      at = ap (λ (x : Progress). x.at) is

      behind : body_from (pushing strict) s.at (drop s.at all) ≡ with_one_more (counted n (rest us t.at (drop t.at all)))
      behind = opened e ∙ ap with_one_more (seq_got (items true 5) rest (s.at + 1) n all us f ∙ ap (λ (p : ℕ). counted n (rest us p (drop p all))) (sym at))

      go : (x : Res (List Group)) → groups (pushing strict) t.at (drop t.at all) ≡ x → BodyParsed s before size (body_from (pushing strict) s.at (drop s.at all)) st ar (shut all r) st₂ ar₂
      go (bad y q) g =
          let told : r ≡ Err (number y, q + beyond y) = w.is ∙ ap (groups_answer t) g in
          rw told (refused_parsed body_answer statement_records argument_records before y q (behind ∙ ap (λ x. with_one_more (counted n x)) (seq_bad (groups (pushing strict)) (λ gs. expect CloseBrace (plain 5) (λ c q ts. got (record { main = flatten us; groups = gs }) 0)) t.at (drop t.at all) y q g)) refl refl)
      go (got gs k) g =
          let w' : GroupsParsed t before size (got gs k) st₁ ar₁ r st₂ ar₂ = rw g at w in
          let second = parsed_piece groups_answer group_records groups_arguments before w' refl in
          rw second.0 (brace (eqb (token_at all (t.at + k)).kind CloseBrace) refl second.1)
        where
          u : Progress
          u = progressed t k (group_count gs) (length (group_arguments gs))

          read_to : body_from (pushing strict) s.at (drop s.at all) ≡ with_one_more (counted n (counted k (expect CloseBrace (plain 5) (λ c q ts. got (record { main = flatten us; groups = gs }) 0) (t.at + k) (drop (t.at + k) all))))
          read_to = behind ∙ ap (λ x. with_one_more (counted n x)) (seq_got (groups (pushing strict)) (λ gs. expect CloseBrace (plain 5) (λ c q ts. got (record { main = flatten us; groups = gs }) 0)) t.at k all gs g)

          brace : (b : Bool) → eqb (token_at all (t.at + k)).kind CloseBrace ≡ b
              → Piece t size k (group_count gs) (length (group_arguments gs)) (group_records (before.statements + t.statements) (before.arguments + t.arguments) gs) (groups_arguments gs) st₁ ar₁ u st₂ ar₂
              → BodyParsed s before size (body_from (pushing strict) s.at (drop s.at all)) st ar (cond b (Ok (skipped u 1 0)) (Err (5, t.at + k))) st₂ ar₂
          brace false h p =
              refused_here body_answer statement_records argument_records before 5 (t.at + k)
              (read_to ∙ ap (λ x. with_one_more (counted n (counted k x))) (expect_refused CloseBrace (plain 5) (λ c q ts. got (record { main = flatten us; groups = gs }) 0) (t.at + k) all (eqb-false _ _ h)))
              refl
          brace true h p =
              let there = eqb-true (token_at all (t.at + k)).kind CloseBrace h in
              let both = piece_then main_piece (simple_count (flatten us) (before.statements + (s.statements + 0)) (before.arguments + s.arguments)) (length-map (arguments_of (flatten us)) argument_record) p in
              let whole = braced both (inside (t.at + k) (rw there (omega arith))) in
              let long : suc (n + (k + 1)) ≡ suc (n + k + 1) = omega arith in
              piece_parsed body_answer statement_records argument_records before (record { main = flatten us; groups = gs }) whole
              (read_to ∙ ap (λ x. with_one_more (counted n (counted k x))) (expect_taken CloseBrace (plain 5) (λ c q ts. got (record { main = flatten us; groups = gs }) 0) (t.at + k) all there) ∙ ap (got (record { main = flatten us; groups = gs })) long)
              (rw length-append)
              (rw (ap (λ (x : Progress). x.statements) is, ap (λ (x : Progress). x.arguments) is, add-zero s.statements, add_assoc before.statements s.statements (length (flatten us)), add_assoc before.arguments s.arguments (length (arguments_of (flatten us)))))
              (map-append argument_record (arguments_of (flatten us)) (group_arguments gs))

  body_parsed : {st ar st₁ ar₁ st₂ ar₂ : List ℕ} {t : Progress} {r : Result Progress (ℕ × ℕ)}
      → ((q : ℕ) → 0 < (token_at all q).kind → q < size)
      → (token_at all s.at).kind ≡ OpenBrace
      → ItemsLeft true 5 before size all (skipped s 1 0) st ar (Ok t) st₁ ar₁
      → GroupsLeft strict before size all t st₁ ar₁ r st₂ ar₂
      → BodyParsed s before size (body_from (pushing strict) s.at (drop s.at all)) st ar (shut all r) st₂ ar₂
  body_parsed {st} {ar} {st₁} {ar₁} {st₂} {ar₂} {t} {r} inside e v w = go (items true 5 (s.at + 1) (drop (s.at + 1) all)) refl
    where
      go : (x : Res (List (List Simple))) → items true 5 (s.at + 1) (drop (s.at + 1) all) ≡ x → BodyParsed s before size (body_from (pushing strict) s.at (drop s.at all)) st ar (shut all r) st₂ ar₂
      go (bad y q) f = absurd (let g : Ok t ≡ Err (number y, q + beyond y) = v.is ∙ ap (λ x. simple_answer (skipped s 1 0) (flattened x)) f in let z : ◌≡◌ {A = ℕ} 0 1 = cc in omega arith)
      go (got us n) f = finished us n inside e f (rw f at v) w

-- ---- the body's loop

-- the body from its brace at s on
abbrev pub BodyLeft : Bool → Before → ℕ → List Token → Progress → List ℕ → List ℕ → Result Progress (ℕ × ℕ) → List ℕ → List ℕ → Type 0
BodyLeft strict before size all s = BodyParsed s before size (body_from (pushing strict) s.at (drop s.at all))

-- the same of the body whose first item stands at t₀
abbrev pub Promised : Bool → Before → ℕ → List Token → Progress → List ℕ → List ℕ → Result Progress (ℕ × ℕ) → List ℕ → List ℕ → Type 0
Promised strict before size all t₀ st₀ ar₀ r st' ar' = (s : Progress) → t₀ ≡ skipped s 1 0 → (token_at all s.at).kind ≡ OpenBrace → BodyLeft strict before size all s st₀ ar₀ r st' ar'

-- labels from t on: whatever is promised of them is promised of the body, with the brace behind them
abbrev pub Onward : Bool → Before → ℕ → List Token → Progress → List ℕ → List ℕ → Progress → List ℕ → List ℕ → Type 0
Onward strict before size all t₀ st₀ ar₀ t st ar = (r : Result Progress (ℕ × ℕ)) (st' ar' : List ℕ) → GroupsLeft strict before size all t st ar r st' ar' → Promised strict before size all t₀ st₀ ar₀ (shut all r) st' ar'

-- the items of a label are read, whose own record is not yet written
pub record InLabel (strict : Bool) (source : Source) (before : Before) (t₀ : Progress) (st₀ ar₀ : List ℕ) (label t : Progress) (st ar : List ℕ) : Type 0 where
  pub here : t ≡ skipped label 2 1
  pub sign : (token_at (all source) label.at).kind ≡ Label
  pub colon : (token_at (all source) (label.at + 1)).kind ≡ Colon
  pub counting : Counting source.tokens.now source.kept.now label before
  pub onward : Onward strict before (count source) (all source) t₀ st₀ ar₀ label st ar

-- the macro part's items, or a label's, if one has been opened
abbrev pub Part : Bool → Source → Before → Progress → List ℕ → List ℕ → Option Progress → Progress → List ℕ → List ℕ → Type 0
Part strict source before t₀ st₀ ar₀ None t st ar = (t ≡ t₀) × (st ≡ st₀) × (ar ≡ ar₀)
Part strict source before t₀ st₀ ar₀ (Some label) t st ar = InLabel strict source before t₀ st₀ ar₀ label t st ar

pub record BodyWalk (strict : Bool) (source : Source) (before : Before) (t₀ : Progress) (st₀ ar₀ : List ℕ) (label : Option Progress) (t : Progress) (st ar : List ℕ) : Type 0 where
  pub counting : Counting source.tokens.now source.kept.now t before
  pub same_statements : length st ≡ length st₀
  pub same_arguments : length ar ≡ length ar₀
  pub part : Part strict source before t₀ st₀ ar₀ label t st ar

-- a label that the code finds opened
pub record Opened (source : Source) (next inside : Progress) : Type 0 where
  pub here : inside ≡ skipped next 2 1
  pub sign : (token_at (all source) next.at).kind ≡ Label
  pub colon : (token_at (all source) (next.at + 1)).kind ≡ Colon
  pub further : next.at + 2 ≤ count source

pub opened_label : (source : Source) {next inside : Progress} → Ok inside ≡ label_opened source.tokens.now source.kept.now next → Opened source next inside
opened_label source {next} {inside} e = go (eqb (kind_at source.tokens.now source.kept.now next.at) Label) (eqb (kind_at source.tokens.now source.kept.now (next.at + 1)) Colon) refl refl e
  where
    go : (b d : Bool) → eqb (kind_at source.tokens.now source.kept.now next.at) Label ≡ b → eqb (kind_at source.tokens.now source.kept.now (next.at + 1)) Colon ≡ d
        → ◌≡◌ {A = Result Progress (ℕ × ℕ)} (Ok inside) (cond b (cond d (Ok (skipped next 2 1)) (Err (1, next.at + 1))) (Err (5, next.at)))
        → Opened source next inside
    go false d f g h = absurd (let z : ◌≡◌ {A = ℕ} 0 1 = cc in omega arith)
    go true false f g h = absurd (let z : ◌≡◌ {A = ℕ} 0 1 = cc in omega arith)
    go true true f g h =
        let there = kind_inside source.tokens.now source.kept.now (next.at + 1) Colon (eqb-true _ _ g) (omega arith) in
        record {
          here = cc h;
          sign = view_kind source.text.now source.tokens.now source.kept.now next.at ∙ eqb-true _ _ f;
          colon = view_kind source.text.now source.tokens.now source.kept.now (next.at + 1) ∙ eqb-true _ _ g;
          further = omega (arith, there);
        }

module _ (strict : Bool) (source : Source) (before : Before) (t₀ : Progress) (st₀ ar₀ : List ℕ) where
  -- the part's items are read up to the next sign: the macro part's, with the tables as they are
  main_read : {t next : Progress} {st ar st₁ ar₁ : List ℕ}
      → BodyWalk strict source before t₀ st₀ ar₀ None t st ar
      → ItemsLeft true 5 before (count source) (all source) t st ar (Ok next) st₁ ar₁
      → Onward strict before (count source) (all source) t₀ st₀ ar₀ next st₁ ar₁
  main_read p v =
      λ r st' ar' left s f brace.
      body_parsed strict before (count source) (all source) s (view_inside source.text.now source.tokens.now source.kept.now) brace (rw (p.part.0, f, p.part.1, p.part.2) at v) left

  -- a label's, with its own record written behind them
  label_told : {t label next : Progress} {st ar st₁ ar₁ : List ℕ}
      → BodyWalk strict source before t₀ st₀ ar₀ (Some label) t st ar
      → ItemsLeft strict 6 before (count source) (all source) t st ar (Ok next) st₁ ar₁
      → Onward strict before (count source) (all source) t₀ st₀ ar₀ next (put statement_width st₁ label.statements (label_words label before next)) ar₁
  label_told {t} {label} {next} {st} {ar} {st₁} {ar₁} p v =
      let v' : ItemsLeft strict 6 before (count source) (all source) (skipped label 2 1) st ar (Ok next) st₁ ar₁ = rw p.part.here at v in
      let on : ends_groups (token_at (all source) label.at) ≡ false = rw p.part.sign in
      let turn = groups_turn strict before (count source) (all source) (tokens_all source) on (label_parsed strict before (count source) (all source) label p.part.sign p.part.colon v' refl) in
      λ r st' ar' left. p.part.onward r st' ar' (turn.step r st' ar' left)

  pub part_read : {t next : Progress} {st ar st₁ ar₁ st₂ : List ℕ} {inside takes : Bool} {wrong : ℕ} (label : Option Progress)
      → inside ≡ is_some label
      → takes ≡ takes_in inside strict
      → wrong ≡ wrong_in inside
      → BodyWalk strict source before t₀ st₀ ar₀ label t st ar
      → ItemsLeft takes wrong before (count source) (all source) t st ar (Ok next) st₁ ar₁
      → st₂ ≡ label_put st₁ label before next
      → Onward strict before (count source) (all source) t₀ st₀ ar₀ next st₂ ar₁
  part_read None e f g p v w = rw w (main_read p (rw (f, g, e) at v))
  part_read (Some label) e f g p v w = rw w (label_told p (rw (f, g, e) at v))

  -- an item is refused
  pub part_refused : {told : ℕ × ℕ} {t : Progress} {st ar st₁ ar₁ : List ℕ} {inside takes : Bool} {wrong : ℕ} (label : Option Progress)
      → inside ≡ is_some label
      → takes ≡ takes_in inside strict
      → wrong ≡ wrong_in inside
      → BodyWalk strict source before t₀ st₀ ar₀ label t st ar
      → ItemsLeft takes wrong before (count source) (all source) t st ar (Err told) st₁ ar₁
      → Promised strict before (count source) (all source) t₀ st₀ ar₀ (Err told) st₁ ar₁
  part_refused None e f g p v =
      λ s here brace. main_refused strict before (count source) (all source) s brace (rw (f, g, e, p.part.0, here, p.part.1, p.part.2) at v)
  part_refused {told} {t} {st} {ar} {st₁} {ar₁} (Some label) e f g p v =
      let v' : ItemsLeft strict 6 before (count source) (all source) (skipped label 2 1) st ar (Err told) st₁ ar₁ = rw (f, g, e, p.part.here) at v in
      let on : ends_groups (token_at (all source) label.at) ≡ false = rw p.part.sign in
      p.part.onward (Err told) st₁ ar₁ (groups_refused strict before (count source) (all source) (tokens_all source) on (label_refused strict before (count source) (all source) label p.part.sign p.part.colon v'))

  -- the body's brace stands behind them
  pub brace_shut : {next : Progress} {st ar : List ℕ} {k : ℕ} → Onward strict before (count source) (all source) t₀ st₀ ar₀ next st ar
      → KindAt source.tokens.now source.kept.now next.at k
      → k ≡ CloseBrace
      → Promised strict before (count source) (all source) t₀ st₀ ar₀ (Ok (skipped next 1 0)) st ar
  brace_shut {next} {st} {ar} w m e =
      let stop = groups_stop source next.at m e in
      let there : (token_at (all source) next.at).kind ≡ CloseBrace = sym (kind_here source.text.now source.tokens.now source.kept.now next.at m) ∙ e in
      let v = w (Ok next) st ar (groups_end strict before (count source) (all source) (tokens_all source) stop.1 stop.0) in
      rw there at v

  -- no label opens there
  pub unopened : {next : Progress} {st ar : List ℕ} {k : ℕ} {f : ℕ × ℕ} → Onward strict before (count source) (all source) t₀ st₀ ar₀ next st ar
      → KindAt source.tokens.now source.kept.now next.at k
      → (k ≡ CloseBrace → ⊥)
      → Err f ≡ label_opened source.tokens.now source.kept.now next
      → Promised strict before (count source) (all source) t₀ st₀ ar₀ (Err f) st ar
  unopened {next} {st} {ar} {k} {f} w m ne e =
      w (Err f) st ar
      (groups_refused strict before (count source) (all source) (tokens_all source) (groups_go_on source next.at m ne)
      (go (eqb (kind_at source.tokens.now source.kept.now next.at) Label) (eqb (kind_at source.tokens.now source.kept.now (next.at + 1)) Colon) refl refl e))
    where
      go : (b d : Bool) → eqb (kind_at source.tokens.now source.kept.now next.at) Label ≡ b → eqb (kind_at source.tokens.now source.kept.now (next.at + 1)) Colon ≡ d
          → ◌≡◌ {A = Result Progress (ℕ × ℕ)} (Err f) (cond b (cond d (Ok (skipped next 2 1)) (Err (1, next.at + 1))) (Err (5, next.at)))
          → GroupsParsed next before (count source) (one_group (label_group (pushing strict) [] next.at (drop next.at (all source)))) st ar (Err f) st ar
      go false d g k h = rw h (not_a_label strict before (count source) (all source) next (λ z. eqb-false _ _ g (sym (view_kind source.text.now source.tokens.now source.kept.now next.at) ∙ z)))
      go true false g k h =
          rw h
          (no_colon strict before (count source) (all source) next (view_kind source.text.now source.tokens.now source.kept.now next.at ∙ eqb-true _ _ g) (λ z. eqb-false _ _ k (sym (view_kind source.text.now source.tokens.now source.kept.now (next.at + 1)) ∙ z)))
      go true true g k h = absurd (let z : ◌≡◌ {A = ℕ} 0 1 = cc in omega arith)

  -- a turn further: a label opens there, and its items are next
  pub body_steps : {next behind : Progress} {st ar : List ℕ} → Counting source.tokens.now source.kept.now next before → Onward strict before (count source) (all source) t₀ st₀ ar₀ next st ar
      → Ok behind ≡ label_opened source.tokens.now source.kept.now next
      → length st ≡ length st₀
      → length ar ≡ length ar₀
      → BodyWalk strict source before t₀ st₀ ar₀ (Some next) behind st ar
  body_steps {next} {behind} {st} {ar} h w e es ea =
      let o = opened_label source e in
      record {
        counting = rw o.here (counting_skip 2 1 h o.further (omega arith));
        same_statements = es;
        same_arguments = ea;
        part = record { here = o.here; sign = o.sign; colon = o.colon; counting = h; onward = w };
      }
