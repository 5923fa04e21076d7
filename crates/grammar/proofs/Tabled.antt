-- The records of a body that follows the grammar are tables as Tables says: each word by the tokens at its places; and their ranges by the words alone.
use Prim.Native.Nat.{ℕ, zero, suc, ◌+◌, ◌-◌, ◌*◌, ◌≤◌, ◌<◌}
use native.Mathlib.Nat.{eq-or-lt_of_le, add-zero, add-suc, suc-add, add_assoc, suc-mul, zero-mul}
use native.Mathlib.Numerals.{add-one, add-two, add-three}
use native.Mathlib.Omega.{arith}
use mathlib.Core.Path.{◌≡◌, refl, sym, ◌∙◌, ap, subst}
use mathlib.Core.Logic.{◌≢◌, ⊎_elim}
use mathlib.Core.Bool.{Bool, true, false}
use mathlib.Core.List.{List, [], ◌∷◌, ◌++◌, map, map-append, flatten, append_assoc}
use lib.ListN.{length, get_or, take, drop, replicate, length-append, length-map, length-drop, take-append-drop}
use lib.Dec.{eqb, ltb}
use borrow.Author.Tests.{eqb-true, eqb-false, ltb-true, ltb-false}
use lib.Seq.{drop_at, take_at, length-take-le}
use Rattle.tokens.specs.Number.{statement_width, argument_width, label_type}
use Rattle.tokens.specs.Kind.{OpenParen, CloseParen, OpenBrace, CloseBrace}
use Rattle.tokens.specs.Token.{Token}
use Rattle.grammar.specs.Reading.{Argument, Entry, Simple, Group, Reading, a_literal, an_opcode, a_label_call, an_invocation, a_constant, an_argument_call, a_builtin, single, enclosed, called, arguments}
use Rattle.grammar.specs.Rules.{Rules}
use Rattle.grammar.specs.Grammar.{Many, none, more, Item, literal, opcode, push, label_call, invocation, constant, argument_call, builtin, forget, LabelGroup, group, remember, Separated, alone, comma, Closed, closed, CallArgument, call_literal, call_name, call_calldata, call_angled, NameArgument, bare, placed, BuiltinArgument, builtin_string, builtin_literal, builtin_name, Body, body}
use Rattle.grammar.specs.Records.{type_of, arguments_of, group_arguments, all_arguments, simple_records, group_records, group_count, argument_record, statement_records, argument_records, statement_count, argument_count}
use Rattle.grammar.specs.Follows.{Follows}
use Rattle.grammar.specs.Facts.{All}
use Rattle.grammar.specs.Call.{filled}
use Rattle.grammar.specs.Tables.{record_of, Stands, StatementAt, literal_at, opcode_at, label_call_at, invocation_at, constant_at, argument_call_at, builtin_at, StatementTable, no_statements, statement, LabelTable, no_labels, label, CallWords, call_literal_words, call_name_words, call_calldata_words, call_angled_words, NameWords, bare_words, placed_words, BuiltinWords, builtin_string_words, builtin_literal_words, builtin_name_words, ListTable, no_arguments, argument, argument_comma, ParenTable, paren_table, BodyTable, body_table, type_word, first_word, end_word, inner_word, Flat, Walk, arrived, onward}
use Rattle.grammar.proofs.Lists.{all_front, all_back}
use Rattle.grammar.proofs.Places.{inner_of, simples, NotCalled, no_parenthesis}
use Rattle.grammar.proofs.Recorded.{simple_count}
use Rattle.grammar.proofs.Standing.{Standing, standing_head, standing_tail, standing_front, standing_back}

module _ (kept : List Token) where
  -- what stands behind two tokens
  behind_two : (p : ℕ) (s t : Token) (xs : List Token) → Standing kept p (s ∷ t ∷ xs) → Standing kept (suc (suc p)) xs
  behind_two p s t xs h = standing_tail kept (suc p) t xs (standing_tail kept p s (t ∷ xs) h)

  -- the kind of the first of the tokens that stand from a place on; of the second, of the third
  pub stands_head : (p : ℕ) (t : Token) (xs : List Token) {kind : ℕ} → Standing kept p (t ∷ xs) → t.kind ≡ kind → Stands kept p kind
  stands_head p t xs h e = ap (λ x. x.kind) (standing_head kept p t xs h) ∙ e

  stands_second : (p : ℕ) (s t : Token) (xs : List Token) {kind : ℕ} → Standing kept p (s ∷ t ∷ xs) → t.kind ≡ kind → Stands kept (suc p) kind
  stands_second p s t xs h e = stands_head (suc p) t xs (standing_tail kept p s (t ∷ xs) h) e

  stands_third : (p : ℕ) (r s t : Token) (xs : List Token) {kind : ℕ} → Standing kept p (r ∷ s ∷ t ∷ xs) → t.kind ≡ kind → Stands kept (suc (suc p)) kind
  stands_third p r s t xs h e = stands_head (suc (suc p)) t xs (behind_two p r s (t ∷ xs) h) e

-- a table holds these records from number i on
abbrev pub Stored : ℕ → List ℕ → ℕ → List (List ℕ) → Type 0
Stored w table i [] = Unit {0}
Stored w table i (r ∷ rs) = (record_of w table i ≡ r) × Stored w table (suc i) rs

-- those in front, and those behind them
pub stored_front : (w : ℕ) (table : List ℕ) (i : ℕ) (xs ys : List (List ℕ)) → Stored w table i (xs ++ ys) → Stored w table i xs
stored_front w table i [] ys h = tt
stored_front w table i (x ∷ xs) ys h = (h.0, stored_front w table (suc i) xs ys h.1)

pub stored_back : (w : ℕ) (table : List ℕ) (i : ℕ) (xs ys : List (List ℕ)) → Stored w table i (xs ++ ys) → Stored w table (i + length xs) ys
stored_back w table i [] ys h = rw (add-zero i) h
stored_back w table i (x ∷ xs) ys h = rw (add-suc i (length xs), ← suc-add i (length xs)) (stored_back w table (suc i) xs ys h.1)

-- records of one width behind i others of that width
stored_behind : (w i : ℕ) (before behind : List ℕ) (rs : List (List ℕ)) → length before ≡ i * w → All (λ r. length r ≡ w) rs → Stored w (before ++ (flatten rs ++ behind)) i rs
unfolding flatten
stored_behind w i before behind [] e h = tt
stored_behind w i before behind (r ∷ rs) e h = (
  rw (append_assoc r (flatten rs) behind) (ap (take w) (drop_at before (r ++ (flatten rs ++ behind)) (i * w) e) ∙ take_at r (flatten rs ++ behind) w h.0),
  subst (λ (l : List ℕ). Stored w l (suc i) rs)
      (append_assoc before r (flatten rs ++ behind) ∙ ap (λ (l : List ℕ). before ++ l) (sym (append_assoc r (flatten rs) behind)))
      (stored_behind w (suc i) (before ++ r) behind rs (length-append before r ∙ omega (arith, e, h.0, suc-mul i w)) h.1),
)

-- records of one width, followed by zeros, are stored from number 0 on
pub stored_filled : (w size : ℕ) (rs : List (List ℕ)) → All (λ r. length r ≡ w) rs → Stored w (filled size rs) 0 rs
stored_filled w size rs h = stored_behind w 0 [] (replicate (size - length (flatten rs)) 0) rs (sym (zero-mul w)) h

-- one argument, with a Comma after it or not, in front of a list
separated_tabled : (U : ℕ → List Token → Argument → Type 0) (One : ℕ → ℕ → List ℕ → Type 0) (kept : List Token) (table : List ℕ)
    → ((p : ℕ) (xs : List Token) (b : Argument) → U p xs b → Standing kept p xs → One p (p + length xs) (argument_record b))
    → (p : ℕ) (xs : List Token) (e : Entry) → Separated U p xs e → Standing kept p xs
    → (a n q : ℕ) → record_of argument_width table a ≡ argument_record e.argument
    → ListTable One kept table (suc a) n (p + length xs) q
    → ListTable One kept table a (suc n) p q
separated_tabled U One kept table one p xs e (alone {a = b} u) k a n q r rest = argument (rw (← r) at (one p xs b u k)) rest
separated_tabled U One kept table one p xs e (comma {xs = us} {a = b} c u f) k a n q r rest =
    argument_comma
    (rw (← r) at (one p us b u (standing_front kept p us (c ∷ []) k)))
    (stands_head kept (p + length us) c [] (standing_back kept p us (c ∷ []) k) f)
    (rw (length-append us (c ∷ []), add-one (length us), add-suc p (length us)) at rest)

-- a list of arguments, each as U says and with at most one Comma after it: its records say so, if those of U do
pub list_tabled : {σ : Type 0} {after : σ → Entry → σ} {W : σ → ℕ → List Token → Entry → Type 0} {U : σ → ℕ → List Token → Argument → Type 0} {One : ℕ → ℕ → List ℕ → Type 0}
    (kept : List Token) (table : List ℕ)
    → ((s : σ) (p : ℕ) (xs : List Token) (e : Entry) → W s p xs e → Separated (U s) p xs e)
    → ((s : σ) (p : ℕ) (xs : List Token) (b : Argument) → U s p xs b → Standing kept p xs → One p (p + length xs) (argument_record b))
    → (s : σ) (p : ℕ) (xs : List Token) (es : List Entry) → Many after W s p xs es → Standing kept p xs
    → (a : ℕ) → Stored argument_width table a (map argument_record (arguments es))
    → ListTable One kept table a (length (arguments es)) p (p + length xs)
list_tabled kept table sep one s p xs es none k a st = rw (add-zero p) no_arguments
list_tabled {after = after} {U = U} {One = One} kept table sep one s p xs es (more {xs = us} {ys = vs} {a = e} {rs = fs} w m) k a st =
    rw (length-append us vs, ← add_assoc p (length us) (length vs))
    (separated_tabled (U s) One kept table (one s) p us e (sep s p us e w) (standing_front kept p us vs k) a (length (arguments fs)) (p + length us + length vs) st.0
    (list_tabled kept table sep one (after s e) (p + length us) vs fs m (standing_back kept p us vs k) (suc a) st.1))

-- a list of arguments in parentheses
pub in_parens : {σ : Type 0} {after : σ → Entry → σ} {W : σ → ℕ → List Token → Entry → Type 0} {U : σ → ℕ → List Token → Argument → Type 0} {One : ℕ → ℕ → List ℕ → Type 0}
    (kept : List Token) (table : List ℕ)
    → ((s : σ) (p : ℕ) (xs : List Token) (e : Entry) → W s p xs e → Separated (U s) p xs e)
    → ((s : σ) (p : ℕ) (xs : List Token) (b : Argument) → U s p xs b → Standing kept p xs → One p (p + length xs) (argument_record b))
    → (s : σ) (p : ℕ) (xs : List Token) (es : List Entry) (o c : Token)
    → o.kind ≡ OpenParen → Many after W s (suc p) xs es → c.kind ≡ CloseParen
    → Standing kept p (o ∷ (xs ++ (c ∷ [])))
    → (a : ℕ) → Stored argument_width table a (map argument_record (arguments es))
    → ParenTable One kept table a (length (arguments es)) p (p + length (o ∷ (xs ++ (c ∷ []))))
in_parens {One = One} kept table sep one s p xs es o c e m k h a st =
    let behind = standing_tail kept p o (xs ++ (c ∷ [])) h in
    let l : suc (suc p + length xs) ≡ p + suc (length (xs ++ (c ∷ []))) = omega (arith, length-append xs (c ∷ [])) in
    rw (← l)
    (paren_table (stands_head kept p o (xs ++ (c ∷ [])) h e)
    (list_tabled kept table sep one s (suc p) xs es m (standing_front kept (suc p) xs (c ∷ []) behind) a st)
    (stands_head kept (suc p + length xs) c [] (standing_back kept (suc p) xs (c ∷ []) behind) k))

-- the same, of a list that ends at its `)`
closed_parens : (U : ℕ → ℕ → List Token → Argument → Type 0) (One : ℕ → ℕ → List ℕ → Type 0) (kept : List Token) (table : List ℕ)
    → ((n p : ℕ) (xs : List Token) (b : Argument) → U n p xs b → Standing kept p xs → One p (p + length xs) (argument_record b))
    → (p : ℕ) (o : Token) (xs : List Token) (args : List Argument) → o.kind ≡ OpenParen → Closed U (suc p) xs args → Standing kept p (o ∷ xs)
    → (a : ℕ) → Stored argument_width table a (map argument_record args)
    → ParenTable One kept table a (length args) p (suc p + length xs)
closed_parens U One kept table one p o xs args e (closed {xs = us} {es = es} c m k) h a st =
    rw (add-suc p (length (us ++ (c ∷ []))), ← suc-add p (length (us ++ (c ∷ [])))) at (in_parens {U = U} {One = One} kept table (λ n q ys b u. u) one 0 p us es o c e m k h a st)

-- an argument of a call, one that is a name, one of a builtin
call_tabled : (kept : List Token) (n p : ℕ) (xs : List Token) (b : Argument) → CallArgument n p xs b → Standing kept p xs → CallWords kept p (p + length xs) (argument_record b)
call_tabled kept n p xs b (call_literal t e) k = rw (add-one p) (call_literal_words (stands_head kept p t [] k e))
call_tabled kept n p xs b (call_name t e) k = rw (add-one p) (call_name_words (stands_head kept p t [] k e))
call_tabled kept n p xs b (call_calldata t e) k = rw (add-one p) (call_calldata_words (stands_head kept p t [] k e))
call_tabled kept n p xs b (call_angled l i r e f g) k = rw (add-three p) (call_angled_words (stands_head kept p l (i ∷ r ∷ []) k e) (stands_second kept p l i (r ∷ []) k f) (stands_third kept p l i r [] k g))

pub name_tabled : (kept : List Token) (n p : ℕ) (xs : List Token) (b : Argument) → NameArgument n p xs b → Standing kept p xs → NameWords kept p (p + length xs) (argument_record b)
name_tabled kept n p xs b (bare t e w) k = rw (add-one p) (bare_words (stands_head kept p t [] k e))
name_tabled kept n p xs b (placed {l = l} c t d e w) k = rw (add-two p) (placed_words (rw (← standing_head kept p c (t ∷ []) k) at d) (stands_second kept p c t [] k e))

builtin_tabled : (kept : List Token) (n p : ℕ) (xs : List Token) (b : Argument) → BuiltinArgument n p xs b → Standing kept p xs → BuiltinWords kept p (p + length xs) (argument_record b)
builtin_tabled kept n p xs b (builtin_string t e) k = rw (add-one p) (builtin_string_words (stands_head kept p t [] k e))
builtin_tabled kept n p xs b (builtin_literal t e) k = rw (add-one p) (builtin_literal_words (stands_head kept p t [] k e))
builtin_tabled kept n p xs b (builtin_name w) k = builtin_name_words (name_tabled kept n p xs b w k)

-- the arguments of what stands in front, and those behind
pub arguments_front : (table : List ℕ) (a : ℕ) (bs cs : List Argument) → Stored argument_width table a (map argument_record (bs ++ cs)) → Stored argument_width table a (map argument_record bs)
arguments_front table a bs cs h = stored_front argument_width table a (map argument_record bs) (map argument_record cs) (rw (map-append argument_record bs cs) at h)

pub arguments_back : (table : List ℕ) (a : ℕ) (bs cs : List Argument) → Stored argument_width table a (map argument_record (bs ++ cs)) → Stored argument_width table (a + length bs) (map argument_record cs)
arguments_back table a bs cs h =
    rw (length-map bs argument_record) at (stored_back argument_width table a (map argument_record bs) (map argument_record cs) (rw (map-append argument_record bs cs) at h))

-- the records behind those of statements
records_back : (statements : List ℕ) (i a : ℕ) (ss : List Simple) (rs : List (List ℕ)) → Stored statement_width statements i (simple_records i a ss ++ rs) → Stored statement_width statements (i + length ss) rs
records_back statements i a ss rs h = rw (simple_count i a ss) at (stored_back statement_width statements i (simple_records i a ss) rs h)

module _ (kept : List Token) (statements table : List ℕ) where
  -- statements whose records the tables hold, wherever these begin
  abbrev Tabled : List Simple → ℕ → ℕ → Type 0
  Tabled ss p q =
      (i a : ℕ) → All (NotCalled kept) ss
      → Stored statement_width statements i (simple_records i a ss)
      → Stored argument_width table a (map argument_record (arguments_of ss))
      → StatementTable kept statements table i (length ss) a (length (arguments_of ss)) p q

  -- one statement in front of others
  in_front : (s : Simple) (ss : List Simple) (e q : ℕ) → e ≡ s.end
      → ((a : ℕ) → NotCalled kept s → Stored argument_width table a (map argument_record s.args) → StatementAt kept table a (length s.args) s.first s.end (type_of s.sort) s.place)
      → Tabled ss e q
      → Tabled (s ∷ ss) s.first q
  unfolding simple_records arguments_of
  in_front s ss e q there one rest i a calls hs ha =
      rw (length-append s.args (arguments_of ss))
      (statement
      (one a calls.0 (arguments_front table a s.args (arguments_of ss) ha))
      hs.0
      (rw there at (rest (suc i) (a + length s.args) calls.1 hs.1 (arguments_back table a s.args (arguments_of ss) ha))))

  item_tabled : (takes : Bool) (p : ℕ) (xs : List Token) (ss : List Simple) → Item takes p xs ss → Standing kept p xs
      → (ts : List Simple) (q : ℕ) → Tabled ts (p + length xs) q
      → Tabled (ss ++ ts) p q
  item_tabled takes p xs ss (literal t e) k ts q rest =
      in_front (single a_literal p t) ts (p + 1) q (add-one p) (λ a c h. literal_at (stands_head kept p t [] k e)) rest
  item_tabled takes p xs ss (opcode t e w) k ts q rest =
      in_front (single an_opcode p t) ts (p + 1) q (add-one p) (λ a c h. opcode_at (stands_head kept p t [] k e)) rest
  item_tabled takes p xs ss (push t v e w f g) k ts q rest =
      in_front (single an_opcode p t) (single a_literal (suc p) v ∷ ts) (suc p) q refl (λ a c h. opcode_at (stands_head kept p t (v ∷ []) k e))
      (in_front (single a_literal (suc p) v) ts (p + 2) q (add-two p) (λ a c h. literal_at (stands_second kept p t v [] k f)) rest)
  item_tabled takes p xs ss (label_call t e) k ts q rest =
      in_front (single a_label_call p t) ts (p + 1) q (add-one p) (λ a c h. label_call_at (stands_head kept p t [] k e) (c refl).1) rest
  item_tabled takes p xs ss (invocation {xs = us} {args = args} t o e f c) k ts q rest =
      in_front (called an_invocation p t (suc (suc p) + length us) args) ts (p + suc (suc (length us))) q (omega arith)
      (λ a n h. invocation_at (stands_head kept p t (o ∷ us) k e) (closed_parens CallArgument (CallWords kept) kept table (call_tabled kept) (suc p) o us args f c (standing_tail kept p t (o ∷ us) k) a h)) rest
  item_tabled takes p xs ss (constant l t r e f g) k ts q rest =
      in_front (enclosed a_constant p t) ts (p + 3) q (add-three p)
      (λ a c h. constant_at (stands_head kept p l (t ∷ r ∷ []) k e) (stands_second kept p l t (r ∷ []) k f) (stands_third kept p l t r [] k g)) rest
  item_tabled takes p xs ss (argument_call l t r e f g) k ts q rest =
      in_front (enclosed an_argument_call p t) ts (p + 3) q (add-three p)
      (λ a c h. argument_call_at (stands_head kept p l (t ∷ r ∷ []) k e) (stands_second kept p l t (r ∷ []) k f) (stands_third kept p l t r [] k g)) rest
  item_tabled takes p xs ss (builtin {xs = us} {args = args} t o e f c) k ts q rest =
      in_front (called a_builtin p t (suc (suc p) + length us) args) ts (p + suc (suc (length us))) q (omega arith)
      (λ a n h. builtin_at (stands_head kept p t (o ∷ us) k e) (closed_parens BuiltinArgument (BuiltinWords kept) kept table (builtin_tabled kept) (suc p) o us args f c (standing_tail kept p t (o ∷ us) k) a h)) rest

  items_tabled : (takes : Bool) (s : Unit {0}) (p : ℕ) (xs : List Token) (is : List (List Simple)) → Many forget (λ s. Item takes) s p xs is → Standing kept p xs
      → Tabled (flatten is) p (p + length xs)
  unfolding flatten arguments_of
  items_tabled takes s p xs is none k = λ i a calls hs ha. rw (add-zero p) no_statements
  items_tabled takes s p xs is (more {xs = us} {ys = vs} {a = ss} {rs = rs} u m) k =
      rw (length-append us vs, ← add_assoc p (length us) (length vs))
      (item_tabled takes p us ss u (standing_front kept p us vs k) (flatten rs) (p + length us + length vs)
      (items_tabled takes tt (p + length us) vs rs m (standing_back kept p us vs k)))

  groups_tabled : (m : Rules) (seen : List (List ℕ)) (p : ℕ) (xs : List Token) (gs : List Group) → Many remember (LabelGroup m) seen p xs gs → Standing kept p xs
      → (i a : ℕ) → All (NotCalled kept) (inner_of gs)
      → Stored statement_width statements i (group_records i a gs)
      → Stored argument_width table a (map argument_record (group_arguments gs))
      → LabelTable kept statements table i (group_count gs) a (length (group_arguments gs)) p (p + length xs)
  unfolding inner_of group_records group_arguments group_count
  groups_tabled m seen p xs gs none k i a calls hs ha = rw (add-zero p) no_labels
  groups_tabled m seen p xs gs (more {ys = vs} {rs = rs} (group {xs = us} {is = is} t c e w f n) h) k i a calls hs ha =
      let there : p + suc (suc (length us)) ≡ suc (suc p) + length us = omega arith in
      let end : p + suc (suc (length (us ++ vs))) ≡ p + suc (suc (length us)) + length vs = omega (arith, length-append us vs) in
      let labels = group_records (suc i + length (flatten is)) (a + length (arguments_of (flatten is))) rs in
      rw (end, there, length-append (arguments_of (flatten is)) (group_arguments rs)) (label
      (stands_head kept p t (c ∷ (us ++ vs)) k e)
      (stands_second kept p t c (us ++ vs) k f)
      hs.0
      (items_tabled m.push_in_labels tt (suc (suc p)) us is n
      (standing_front kept (suc (suc p)) us vs (behind_two kept p t c (us ++ vs) k))
      (suc i) a
      (all_front (NotCalled kept) (flatten is) (inner_of rs) calls)
      (stored_front statement_width statements (suc i) (simple_records (suc i) a (flatten is)) labels hs.1)
      (arguments_front table a (arguments_of (flatten is)) (group_arguments rs) ha))
      (rw there at (groups_tabled m (t.text ∷ seen) (p + suc (suc (length us))) vs rs h (standing_back kept p (t ∷ c ∷ us) vs k)
      (suc i + length (flatten is)) (a + length (arguments_of (flatten is)))
      (all_back (NotCalled kept) (flatten is) (inner_of rs) calls)
      (records_back statements (suc i) a (flatten is) labels hs.1)
      (arguments_back table a (arguments_of (flatten is)) (group_arguments rs) ha))))

  tokens_tabled : (m : Rules) (p : ℕ) (xs : List Token) (r : Reading) → Body m p xs r → Standing kept p xs → All (NotCalled kept) (simples r)
      → (i a : ℕ) → Stored statement_width statements i (statement_records i a r)
      → Stored argument_width table a (argument_records r)
      → BodyTable kept statements table i (statement_count r) a (argument_count r) p (p + length xs)
  unfolding statement_records argument_records statement_count argument_count all_arguments
  tokens_tabled m p xs r (body {xs = us} {ys = vs} {is = is} {gs = gs} o c e n g f) k calls i a hs ha =
      let end : p + suc (length (us ++ (vs ++ (c ∷ [])))) ≡ suc (suc p + length us + length vs) = omega (arith, length-append us (vs ++ (c ∷ [])), length-append vs (c ∷ [])) in
      let inside = standing_tail kept p o (us ++ (vs ++ (c ∷ []))) k in
      let behind = standing_back kept (suc p) us (vs ++ (c ∷ [])) inside in
      let labels = group_records (i + length (flatten is)) (a + length (arguments_of (flatten is))) gs in
      rw (end, length-append (arguments_of (flatten is)) (group_arguments gs)) (body_table
      (stands_head kept p o (us ++ (vs ++ (c ∷ []))) k e)
      (items_tabled true tt (suc p) us is n (standing_front kept (suc p) us (vs ++ (c ∷ [])) inside) i a
      (all_front (NotCalled kept) (flatten is) (inner_of gs) calls)
      (stored_front statement_width statements i (simple_records i a (flatten is)) labels hs)
      (arguments_front table a (arguments_of (flatten is)) (group_arguments gs) ha))
      (groups_tabled m [] (suc p + length us) vs gs g (standing_front kept (suc p + length us) vs (c ∷ []) behind)
      (i + length (flatten is)) (a + length (arguments_of (flatten is)))
      (all_back (NotCalled kept) (flatten is) (inner_of gs) calls)
      (records_back statements i a (flatten is) labels hs)
      (arguments_back table a (arguments_of (flatten is)) (group_arguments gs) ha))
      (stands_head kept (suc p + length us + length vs) c [] (standing_back kept (suc p + length us) vs (c ∷ []) behind) f))

-- a body whose records the tables hold, behind i statement and a argument records. What stands behind it decides that no `(` follows a label call
pub body_tabled : (m : Rules) (kept : List Token) (p n : ℕ) (r : Reading) → Follows m kept p n r
    → (statements table : List ℕ) (i a : ℕ) → Stored statement_width statements i (statement_records i a r) → Stored argument_width table a (argument_records r)
    → BodyTable kept statements table i (statement_count r) a (argument_count r) p (p + n)
body_tabled m kept p n r h statements table i a hs ha =
    rw (length-take-le n (drop p kept) (omega (arith, length-drop p kept, h.0))) at
    (tokens_tabled kept statements table m p (take n (drop p kept)) r h.1 (drop n (drop p kept), sym (take-append-drop n (drop p kept))) (no_parenthesis m kept p n r h) i a hs ha)

-- no argument ends before it begins, and no list
pub name_rises : (kept : List Token) (p q : ℕ) (w : List ℕ) → NameWords kept p q w → p ≤ q
name_rises kept p q w (bare_words h) = omega arith
name_rises kept p q w (placed_words l h) = omega arith

call_rises : (kept : List Token) (p q : ℕ) (w : List ℕ) → CallWords kept p q w → p ≤ q
call_rises kept p q w (call_literal_words h) = omega arith
call_rises kept p q w (call_name_words h) = omega arith
call_rises kept p q w (call_calldata_words h) = omega arith
call_rises kept p q w (call_angled_words h i j) = omega arith

builtin_rises : (kept : List Token) (p q : ℕ) (w : List ℕ) → BuiltinWords kept p q w → p ≤ q
builtin_rises kept p q w (builtin_string_words h) = omega arith
builtin_rises kept p q w (builtin_literal_words h) = omega arith
builtin_rises kept p q w (builtin_name_words h) = name_rises kept p q w h

pub list_rises : (One : ℕ → ℕ → List ℕ → Type 0) → ((p q : ℕ) (w : List ℕ) → One p q w → p ≤ q) → (kept : List Token) (table : List ℕ) (a n p q : ℕ) → ListTable One kept table a n p q → p ≤ q
list_rises One one kept table a n p q no_arguments = omega arith
list_rises One one kept table a n p q (argument {m = m} {e = e} o rest) = omega (arith, one p e (record_of argument_width table a) o, list_rises One one kept table (suc a) m e q rest)
list_rises One one kept table a n p q (argument_comma {m = m} {e = e} o c rest) = omega (arith, one p e (record_of argument_width table a) o, list_rises One one kept table (suc a) m (suc e) q rest)

-- a statement that is no label has a range that is not empty, and another type
statement_rises : (kept : List Token) (table : List ℕ) (a m p q type place : ℕ) → StatementAt kept table a m p q type place → (p < q) × (type ≢ label_type)
statement_rises kept table a m p q type place (literal_at h) = omega arith
statement_rises kept table a m p q type place (opcode_at h) = omega arith
statement_rises kept table a m p q type place (label_call_at h n) = omega arith
statement_rises kept table a m p q type place (invocation_at h (paren_table {q = e} o l c)) = omega (arith, list_rises (CallWords kept) (call_rises kept) kept table a m (suc (suc p)) e l)
statement_rises kept table a m p q type place (constant_at h i j) = omega arith
statement_rises kept table a m p q type place (argument_call_at h i j) = omega arith
statement_rises kept table a m p q type place (builtin_at h (paren_table {q = e} o l c)) = omega (arith, list_rises (BuiltinWords kept) (builtin_rises kept) kept table a m (suc (suc p)) e l)

pub flat_rises : (statements : List ℕ) (i n p q : ℕ) → Flat statements i n p q → p ≤ q
flat_rises statements i zero p q h = omega arith
flat_rises statements i (suc n) p q h = omega (arith, h.3, flat_rises statements (suc i) n (end_word statements i) q h.4)

-- a step past record i, which has these words
step : (statements : List ℕ) (i type p e f k x y z j q : ℕ) → record_of statement_width statements i ≡ type ∷ p ∷ e ∷ f ∷ k ∷ x ∷ y ∷ z ∷ []
    → p < e
    → (type ≡ label_type → Flat statements (suc i) k (suc (suc p)) e)
    → (type ≢ label_type → k ≡ 0)
    → Walk statements (suc i + k) e j q
    → Walk statements i p j q
step statements i type p e f k x y z j q r up inner other rest =
    onward {i = i} {p = p} {j = j} {q = q} (ap (λ w. get_or w 1 0) r) (rw r up) (record { in_label = rw r inner; elsewhere = rw r other }) (rw r rest)

module _ (kept : List Token) (statements table : List ℕ) where
  -- inside a label
  flat : (i n a m p q : ℕ) → StatementTable kept statements table i n a m p q → Flat statements i n p q
  flat i n a m p q no_statements = refl
  flat i n a m p q (statement {n = l} {k = k} {m = h} {e = e} {type = type} {place = place} s r rest) =
      let up = statement_rises kept table a k p e type place s in
      rw r (up.1, refl, refl, up.0, flat (suc i) l (a + k) h e q rest)

  walk_statements : (i n a m p e : ℕ) → StatementTable kept statements table i n a m p e
      → (j q : ℕ) → Walk statements (i + n) e j q
      → Walk statements i p j q
  walk_statements i n a m p e no_statements j q rest = rw (add-zero i) at rest
  walk_statements i n a m p e (statement {n = l} {k = k} {m = h} {e = d} {type = type} {place = place} s r behind) j q rest =
      let up = statement_rises kept table a k p d type place s in
      step statements i type p d (suc i) 0 a k place j q r up.0 (λ x. absurd (up.1 x)) (λ x. refl)
      (rw (add-zero (suc i)) (walk_statements (suc i) l (a + k) h d e behind j q (rw (add-suc i l, ← suc-add i l) at rest)))

  walk_labels : (i n a m p q : ℕ) → LabelTable kept statements table i n a m p q → Walk statements i p (i + n) q
  walk_labels i n a m p q no_labels = rw (add-zero i) arrived
  walk_labels i n a m p q (label {k = k} {n = l} {h = h} {m = o} {e = e} s c r inner rest) =
      let within = flat (suc i) k a h (suc (suc p)) e inner in
      let end : i + (suc k + l) ≡ suc i + k + l = omega arith in
      rw end (step statements i label_type p e (suc i) k a 0 p (suc i + k + l) q r (omega (arith, flat_rises statements (suc i) k (suc (suc p)) e within)) (λ x. within) (λ x. absurd (x refl))
      (walk_labels (suc i + k) l (a + h) o e q rest))

-- no record that lies flat is a label
flat_none : (statements : List ℕ) (i n p q : ℕ) → Flat statements i n p q → (x : ℕ) → i ≤ x → x < i + n → type_word statements x ≢ label_type
flat_none statements i zero p q h x l b = absurd (omega arith)
flat_none statements i (suc n) p q h x l b =
    ⊎_elim (λ (here : i ≡ x). rw (← here) h.0) (λ (later : i < x). flat_none statements (suc i) n (end_word statements i) q h.4 x later (omega arith)) (eq-or-lt_of_le l)

-- every label among the records that a walk passes, and those that these hold, holds its inner ones flat
pub walk_labels_all : (statements : List ℕ) (i p j q : ℕ) → Walk statements i p j q
    → (x : ℕ) → i ≤ x → x < j → type_word statements x ≡ label_type
    → Flat statements (suc x) (inner_word statements x) (suc (suc (first_word statements x))) (end_word statements x)
walk_labels_all statements i p j q arrived x l h e = absurd (omega arith)
walk_labels_all statements i p j q (onward f up held rest) x l h e =
    go (eqb (type_word statements i) label_type) refl (walk_labels_all statements (suc i + inner_word statements i) (end_word statements i) j q rest x)
  where
    Held_flat : Type 0
    Held_flat = Flat statements (suc x) (inner_word statements x) (suc (suc (first_word statements x))) (end_word statements x)

    -- what record i holds are no labels
    None : Type 0
    None = (y : ℕ) → suc i ≤ y → y < suc i + inner_word statements i → type_word statements y ≢ label_type

    -- and behind these the walk goes on
    Later : Type 0
    Later = suc i + inner_word statements i ≤ x → x < j → type_word statements x ≡ label_type → Held_flat

    behind : None → Later → i < x → (b : Bool) → ltb x (suc i + inner_word statements i) ≡ b → Held_flat
    behind free later k true g = absurd (free x k (ltb-true _ _ g) e)
    behind free later k false g = later (ltb-false _ _ g) h e

    apart : None → Later → Held_flat
    apart free later =
        ⊎_elim (λ (here : i ≡ x). rw (← here) (held.in_label (ap (type_word statements) here ∙ e)))
        (λ (k : i < x). behind free later k (ltb x (suc i + inner_word statements i)) refl)
        (eq-or-lt_of_le l)

    go : (b : Bool) → eqb (type_word statements i) label_type ≡ b → Later → Held_flat
    go true g later = apart (flat_none statements (suc i) (inner_word statements i) (suc (suc (first_word statements i))) (end_word statements i) (held.in_label (eqb-true _ _ g))) later
    go false g later = apart (λ y a b. absurd (omega (arith, held.elsewhere (eqb-false _ _ g)))) later

-- the ranges by the words alone: from behind the opening brace to the closing one, up to the last record
pub body_walked : (kept : List Token) (statements table : List ℕ) (i n a m p q : ℕ) → BodyTable kept statements table i n a m p q
    → Stands kept p OpenBrace × Stands kept (q - 1) CloseBrace × Walk statements i (suc p) (i + n) (q - 1)
body_walked kept statements table i n a m p q (body_table {n = l} {k = k} {m = h} {h = g} {e = e} {q = d} o s t c) =
    let end : suc d - 1 ≡ d = omega arith in
    rw (end, ← add_assoc i l k) (o, c, walk_statements kept statements table i l a h (suc p) e s (i + l + k) d (walk_labels kept statements table (i + l) k (a + h) g e d t))
