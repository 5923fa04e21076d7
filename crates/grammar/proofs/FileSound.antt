-- Each reader of a definition does what its family of the grammar says: `Holds`, from the lists up to a definition at top level.
use Prim.Native.Nat.{ℕ, suc, ◌+◌, ◌-◌, ◌<◌, zero-le}
use native.Mathlib.Nat.{add-zero}
use native.Mathlib.Omega.{arith}
use mathlib.Core.Path.{◌≡◌, refl, sym, ◌∙◌, ap}
use mathlib.Core.Bool.{Bool, true, false, cond, ◌&&◌, ◌||◌, or-true, and-false, and-eq-true_iff, false≢true}
use mathlib.Core.List.{List, [], ◌∷◌, ◌++◌, append-nil}
use lib.ListN.{length, take, drop}
use lib.Dec.{eqb}
use borrow.Author.Tests.{eqb-true}
use Rattle.tokens.specs.Token.{Token, token_at}
use Rattle.tokens.specs.Byte.{bytes}
use Rattle.tokens.specs.Kind.{Include, Define, Pound, Macro, Fn, Test, Function, Event, Constant, Error, JumpTable, JumpTablePacked, CodeTable, Takes, Returns, View, Pure, Payable, NonPayable, Assign, OpenParen, CloseParen, OpenBrace, CloseBrace, FreeStoragePointer, Ident, Literal, Num, Str}
use Rattle.tokens.specs.WellFormed.{text_good, extra_good}
use Rattle.grammar.specs.Reading.{Argument}
use Rattle.grammar.specs.Rules.{Rules}
use Rattle.grammar.specs.Grammar.{none, Closed, closed, NameArgument, body}
use Rattle.grammar.specs.Result.{Why, plain, number, beyond, Res, got, bad, refuse, on, taken, with_one_more, choose, expect, seq}
use Rattle.grammar.specs.Reader.{closed_list, name_argument, body_from}
use Rattle.grammar.specs.Typed.{typed_argument, single_number}
use Rattle.grammar.specs.Follows.{proper, all_proper, past}
use Rattle.grammar.specs.FileReading.{literal_at, pointer_at, MacroSort, the_macro, the_fn, the_test, TableSort, jump_table, packed_table, code_table, TableEntry, Form, a_function, an_event, a_defined_constant, an_error, a_macro, a_table, Definition}
use Rattle.grammar.specs.FileGrammar.{Optional, absent, present, Lone, lone, TypedList, typed_list, Parens, parens, Counted, counting, FunctionType, is_view, is_pure, is_payable, is_non_payable, ConstantValue, value_literal, value_pointer, MacroKind, is_macro_kind, is_fn_kind, is_test_kind, TableKind, is_jump, is_packed, is_code, entry_allowed, OneEntry, one_entry, forget_entry, TableBody, table_body, Sign, Rest, of_function, of_event, of_constant, of_error, of_macro, of_table, Defined, include, define}
use Rattle.grammar.specs.FileReader.{by_kind, optional, parse_args, named, parse_imports, function_type, function_rest, parse_function, event_rest, parse_event, constant_value, constant_rest, parse_constant, error_rest, parse_custom_error, macro_rest, parse_macro, table_entry, ends_table, table_entries, parse_table_body, sign, table_rest, parse_table, kind_table, parse_definition, top_table, top_level}
use Rattle.grammar.specs.FileFollows.{has_typed, past_in, is_definition_number}
use Rattle.grammar.proofs.Lists.{mark, word}
use Rattle.grammar.proofs.Holds.{Holds, well, ill, StepHolds, refusing, going, Finish, got_holds, cond_says, choose_says, look_holds, holds_map, seq_holds, NoneOrOne, nothing, one, many_holds}
use Rattle.grammar.proofs.Sound.{Any, expect_holds, closed_holds, name_holds, name_some, body_holds}
use Rattle.grammar.proofs.FileHolds.{Near, Inner, inner_told, plain_inner, by_kind_holds, optional_holds, expect_run}
use Rattle.grammar.proofs.FileTyped.{typed_list_holds}

-- a reader, and a value made of its value and the place behind it
then_holds : {A B : Type 0} {T : Why → Token → Type 0} {G : List Token → A → Type 0} {M : List Token → Type 0} {P : List Token → B → Type 0} {L : List Token → Type 0} (u : ℕ → List Token → Res A) (make : ℕ → A → B) (p : ℕ) (ts : List Token)
    → Holds T G M p (u p) ts (u p ts)
    → ((xs : List Token) (a : A) → G xs a → P xs (make (p + length xs) a))
    → ((xs : List Token) → M xs → L xs)
    → Holds T P L p (seq u (λ a q us. got (make q a) 0) p) ts (seq u (λ a q us. got (make q a) 0) p ts)
unfolding all_proper
then_holds {P = P} {L = L} u make p ts h good fin =
    seq_holds P L u (λ a q us. got (make q a) 0) p ts h
    (λ n a w g. got_holds (rw (append-nil (take n ts)) (good (take n ts) a g)))
    (λ xs k. ([], refl, rw (append-nil xs) (fin xs k)))

-- a refusal of whatever stands here
bad_holds : {A : Type 0} {T : Why → Token → Type 0} {P : List Token → A → Type 0} {L : List Token → Type 0} (y : Why) (p : ℕ) (ts : List Token) → T y (token_at ts 0) → Finish L [] → Holds T P L p (λ us. bad y p) ts (bad y p)
bad_holds y p ts told fin = ill (record { off = 0; place = sym (add-zero p); within = zero-le; told = told; goes = fin; sure = λ us e. refl })

module _ (m : Rules) where
  one_told : (typed : Bool) (t : Token) → Inner m typed (plain 1) t
  one_told typed = plain_inner m typed 1 refl refl refl

  parens_hold : (typed : Bool) (U : ℕ → List Token → List Argument → Type 0) (read : ℕ → ℕ → List Token → Res Argument)
      → ((p : ℕ) (ts : List Token) → Holds (Inner m typed) (U p) (Any (U p)) p (closed_list read p) ts (closed_list read p ts))
      → ((p : ℕ) → U p (mark CloseParen ∷ []) [])
      → (p : ℕ) (ts : List Token)
      → Holds (Inner m typed) (Parens U p) (Any (Parens U p)) p (parse_args read p) ts (parse_args read p ts)
  unfolding proper all_proper text_good extra_good
  parens_hold typed U read lists empty p ts =
      expect_holds OpenParen (plain 1) (λ o. closed_list read) p refl (one_told typed)
      (mark OpenParen ∷ mark CloseParen ∷ [], refl, ([], parens (mark OpenParen) refl (empty (suc p))))
      (λ o e us. holds_map (λ y t h. h) (λ xs args h. parens o e h) (λ xs h. (h.0, parens o e h.1)) (lists (suc p) us))
      ts

  abbrev Typed : Bool → ℕ → List Token → List Argument → Type 0
  Typed events = Parens (TypedList events)

  typed_parens : (events : Bool) (p : ℕ) (ts : List Token)
      → Holds (Inner m true) (Typed events p) (Any (Typed events p)) p (parse_args (typed_argument events) p) ts (parse_args (typed_argument events) p ts)
  typed_parens events = parens_hold true (TypedList events) (typed_argument events) (typed_list_holds m events) (λ p. typed_list (mark CloseParen) none refl)

  abbrev Names : ℕ → List Token → List Argument → Type 0
  Names = Parens (Closed NameArgument)

  name_parens : (p : ℕ) (ts : List Token) → Holds (Inner m false) (Names p) (Any (Names p)) p (parse_args name_argument p) ts (parse_args name_argument p ts)
  unfolding past
  name_parens =
      parens_hold false (Closed NameArgument) name_argument
      (λ p ts. holds_map (inner_told m) (λ xs a h. h) (λ xs h. h) (closed_holds NameArgument name_argument (name_holds m) name_some (λ t. (refl, refl)) p ts))
      (λ p. closed (mark CloseParen) none refl)

  -- Takes and Returns
  count_holds : (k : ℕ) → eqb 0 k ≡ false → (p : ℕ) (ts : List Token)
      → Holds (Inner m false) (Optional 0 (Counted k)) (Any (Optional 0 (Counted k))) p (optional k single_number 0 p) ts (optional k single_number 0 p ts)
  unfolding single_number proper all_proper text_good extra_good
  count_holds k n p ts =
      optional_holds k single_number 0 p n absent
      (λ t e us. expect_holds OpenParen (plain 1) (λ o. expect Num (plain 9) (λ x. expect CloseParen (plain 1) (λ c q vs. got x.extra 0))) (suc p) refl (one_told false)
      (mark OpenParen ∷ mark Num ∷ mark CloseParen ∷ [], refl, (0, present (counting t (mark OpenParen) (mark Num) (mark CloseParen) e refl refl refl)))
      (λ o f vs. expect_holds Num (plain 9) (λ x. expect CloseParen (plain 1) (λ c q vs. got x.extra 0)) (suc (suc p)) refl (plain_inner m false 9 refl refl refl)
      (mark Num ∷ mark CloseParen ∷ [], refl, (0, present (counting t o (mark Num) (mark CloseParen) e f refl refl)))
      (λ x g ws. expect_holds CloseParen (plain 1) (λ c q vs. got x.extra 0) (suc (suc (suc p))) refl (one_told false)
      (mark CloseParen ∷ [], refl, (x.extra, present (counting t o x (mark CloseParen) e f g refl)))
      (λ c h zs. got_holds (present (counting t o x c e f g h)))
      ws)
      vs)
      us)
      ts

  sign_holds : (k : ℕ) → eqb 0 k ≡ false → (p : ℕ) (ts : List Token)
      → Holds (Inner m false) (Optional tt (Sign k)) (Any (Optional tt (Sign k))) p (sign k p) ts (sign k p ts)
  sign_holds k n p ts = optional_holds k (λ q us. got tt 0) tt p n absent (λ t e us. got_holds (present (lone t e))) ts

  -- functions
  abbrev Typing : List Token → ℕ → Type 0
  Typing = Lone (λ t. FunctionType t.kind)

  type_holds : (p : ℕ) (ts : List Token) → Holds (Inner m true) Typing (Any Typing) p (function_type p) ts (function_type p ts)
  unfolding function_type choose proper all_proper text_good extra_good
  type_holds p ts =
      look_holds (λ t. choose ((View, taken 1) ∷ (Pure, taken 2) ∷ (Payable, taken 3) ∷ (NonPayable, taken 4) ∷ []) (refuse (plain 1)) t.kind) p
      (λ t. choose_says (StepHolds (Inner m true) Typing (Any Typing) p t) ((View, taken 1) ∷ (Pure, taken 2) ∷ (Payable, taken 3) ∷ (NonPayable, taken 4) ∷ []) (refuse (plain 1)) t.kind (
        (λ e. going (λ us. got_holds (lone t (is_view e)))),
        λ n₁. (
          (λ e. going (λ us. got_holds (lone t (is_pure e)))),
          λ n₂. (
            (λ e. going (λ us. got_holds (lone t (is_payable e)))),
            λ n₃. (
              (λ e. going (λ us. got_holds (lone t (is_non_payable e)))),
              λ n₄. refusing (one_told true t) (mark View ∷ [], refl, (1, lone (mark View) (is_view refl))),
            ),
          ),
        ),
      ))
      tt ts

  none_typed : (p : ℕ) → Typed false p (mark OpenParen ∷ mark CloseParen ∷ []) []
  none_typed p = parens (mark OpenParen) refl (typed_list (mark CloseParen) none refl)

  -- what may stand behind a name can be begun and finished
  abbrev Reads : Bool → ℕ → (ℕ → List Token → Res Form) → Type 0
  Reads typed kind rest = (p : ℕ) (ts : List Token) → Holds (Inner m typed) (Rest m kind p) (Any (Rest m kind p)) p (rest p) ts (rest p ts)

  abbrev Starts : ℕ → Type 0
  Starts kind = (p : ℕ) → Finish (Any (Rest m kind p)) []

  function_holds : (kind : ℕ) → kind ≡ Function → Reads true kind function_rest
  unfolding function_rest proper all_proper text_good extra_good
  function_holds kind e p ts =
      seq_holds (Rest m kind p) (Any (Rest m kind p)) (parse_args (typed_argument false)) _ p ts (typed_parens false p ts)
      (λ n ins h k. seq_holds (λ ys. Rest m kind p (take n ts ++ ys)) (λ ys. Any (Rest m kind p) (take n ts ++ ys)) function_type _ (p + length (take n ts)) (drop n ts)
      (type_holds (p + length (take n ts)) (drop n ts))
      (λ j ty h' k'. expect_holds Returns (plain 1) _ (p + length (take n ts) + length (take j (drop n ts))) refl (one_told true)
      (mark Returns ∷ mark OpenParen ∷ mark CloseParen ∷ [], refl, (_, of_function (mark Returns) e k k' refl (none_typed _)))
      (λ r f us. then_holds (parse_args (typed_argument false)) (λ q outs. a_function ins ty outs) (suc (p + length (take n ts) + length (take j (drop n ts)))) us
      (typed_parens false (suc (p + length (take n ts) + length (take j (drop n ts)))) us)
      (λ xs outs g. of_function r e k k' f g)
      (λ xs g. (_, of_function r e k k' f g.1)))
      (drop j (drop n ts)))
      (λ ys g. (mark Returns ∷ mark OpenParen ∷ mark CloseParen ∷ [], refl, (_, of_function (mark Returns) e k g.1 refl (none_typed _)))))
      (λ xs g. (mark View ∷ mark Returns ∷ mark OpenParen ∷ mark CloseParen ∷ [], refl, (_, of_function (mark Returns) e g.1 (lone (mark View) (is_view refl)) refl (none_typed _))))

  function_starts : (kind : ℕ) → kind ≡ Function → Starts kind
  unfolding proper all_proper text_good extra_good
  function_starts kind e p = (
    mark OpenParen ∷ mark CloseParen ∷ mark View ∷ mark Returns ∷ mark OpenParen ∷ mark CloseParen ∷ [],
    refl,
    (_, of_function (mark Returns) e (none_typed p) (lone (mark View) (is_view refl)) refl (none_typed _)),
  )

  -- events and errors
  event_holds : (kind : ℕ) → kind ≡ Event → Reads true kind event_rest
  unfolding event_rest
  event_holds kind e p ts =
      then_holds (parse_args (typed_argument true)) (λ q args. an_event args) p ts (typed_parens true p ts) (λ xs args g. of_event e g) (λ xs g. (_, of_event e g.1))

  event_starts : (kind : ℕ) → kind ≡ Event → Starts kind
  unfolding proper all_proper text_good extra_good
  event_starts kind e p = (mark OpenParen ∷ mark CloseParen ∷ [], refl, (_, of_event e (parens (mark OpenParen) refl (typed_list (mark CloseParen) none refl))))

  error_holds : (kind : ℕ) → kind ≡ Error → Reads true kind error_rest
  unfolding error_rest
  error_holds kind e p ts =
      then_holds (parse_args (typed_argument false)) (λ q args. an_error args) p ts (typed_parens false p ts) (λ xs args g. of_error e g) (λ xs g. (_, of_error e g.1))

  error_starts : (kind : ℕ) → kind ≡ Error → Starts kind
  unfolding proper all_proper text_good extra_good
  error_starts kind e p = (mark OpenParen ∷ mark CloseParen ∷ [], refl, (_, of_error e (none_typed p)))

  -- constants
  value_holds : (p : ℕ) (ts : List Token)
      → Holds (Inner m false) (Lone (ConstantValue p)) (Any (Lone (ConstantValue p))) p (constant_value p) ts (constant_value p ts)
  unfolding constant_value choose proper all_proper text_good extra_good
  value_holds p ts =
      look_holds (λ t. choose ((FreeStoragePointer, taken (pointer_at p)) ∷ (Literal, taken (literal_at p)) ∷ []) (refuse (plain 3)) t.kind) p
      (λ t. choose_says (StepHolds (Inner m false) (Lone (ConstantValue p)) (Any (Lone (ConstantValue p))) p t) ((FreeStoragePointer, taken (pointer_at p)) ∷ (Literal, taken (literal_at p)) ∷ []) (refuse (plain 3)) t.kind (
        (λ e. going (λ us. got_holds (lone t (value_pointer e)))),
        λ n₁. (
          (λ e. going (λ us. got_holds (lone t (value_literal e)))),
          λ n₂. refusing (plain_inner m false 3 refl refl refl t) (mark FreeStoragePointer ∷ [], refl, (_, lone (mark FreeStoragePointer) (value_pointer refl))),
        ),
      ))
      tt ts

  constant_holds : (kind : ℕ) → kind ≡ Constant → Reads false kind constant_rest
  unfolding constant_rest proper all_proper text_good extra_good
  constant_holds kind e p ts =
      expect_holds Assign (plain 1) (λ a. seq constant_value (λ v q us. got (a_defined_constant v) 0)) p refl (one_told false)
      (mark Assign ∷ mark FreeStoragePointer ∷ [], refl, (_, of_constant (mark Assign) e refl (lone (mark FreeStoragePointer) (value_pointer refl))))
      (λ a f us. then_holds constant_value (λ q v. a_defined_constant v) (suc p) us (value_holds (suc p) us) (λ xs v g. of_constant a e f g) (λ xs g. (_, of_constant a e f g.1)))
      ts

  constant_starts : (kind : ℕ) → kind ≡ Constant → Starts kind
  unfolding proper all_proper text_good extra_good
  constant_starts kind e p = (mark Assign ∷ mark FreeStoragePointer ∷ [], refl, (_, of_constant (mark Assign) e refl (lone (mark FreeStoragePointer) (value_pointer refl))))

  -- macros, fns and tests
  macro_holds : (kind : ℕ) (sort : MacroSort) → MacroKind kind sort → Reads false kind (macro_rest m sort)
  unfolding macro_rest proper all_proper text_good extra_good
  macro_holds kind sort e p ts =
      seq_holds (Rest m kind p) (Any (Rest m kind p)) (parse_args name_argument) _ p ts (name_parens p ts)
      (λ n args h k. expect_holds Assign (plain 1) _ (p + length (take n ts)) refl (one_told false)
      (mark Assign ∷ mark OpenBrace ∷ mark CloseBrace ∷ [], refl, (_, of_macro (mark Assign) e k refl absent absent (body (mark OpenBrace) (mark CloseBrace) refl none none refl)))
      (λ a f us. seq_holds (λ ys. Rest m kind p (take n ts ++ (a ∷ ys))) (λ ys. Any (Rest m kind p) (take n ts ++ (a ∷ ys))) (optional Takes single_number 0) _ (suc (p + length (take n ts))) us
      (count_holds Takes refl (suc (p + length (take n ts))) us)
      (λ i tk h₁ k₁. seq_holds (λ ys. Rest m kind p (take n ts ++ (a ∷ (take i us ++ ys)))) (λ ys. Any (Rest m kind p) (take n ts ++ (a ∷ (take i us ++ ys)))) (optional Returns single_number 0) _ (suc (p + length (take n ts)) + length (take i us)) (drop i us)
      (count_holds Returns refl (suc (p + length (take n ts)) + length (take i us)) (drop i us))
      (λ j rt h₂ k₂. then_holds (body_from m) (λ q r. a_macro sort args tk rt r) (suc (p + length (take n ts)) + length (take i us) + length (take j (drop i us))) (drop j (drop i us))
      (holds_map (inner_told m) (λ xs r g. g) (λ xs g. g) (body_holds m (suc (p + length (take n ts)) + length (take i us) + length (take j (drop i us))) (drop j (drop i us))))
      (λ xs r g. of_macro a e k f k₁ k₂ g)
      (λ xs g. (_, of_macro a e k f k₁ k₂ g.1)))
      (λ ys g. (mark OpenBrace ∷ mark CloseBrace ∷ [], refl, (_, of_macro a e k f k₁ g.1 (body (mark OpenBrace) (mark CloseBrace) refl none none refl)))))
      (λ ys g. (mark OpenBrace ∷ mark CloseBrace ∷ [], refl, (_, of_macro a e k f g.1 absent (body (mark OpenBrace) (mark CloseBrace) refl none none refl)))))
      (drop n ts))
      (λ xs g. (mark Assign ∷ mark OpenBrace ∷ mark CloseBrace ∷ [], refl, (_, of_macro (mark Assign) e g.1 refl absent absent (body (mark OpenBrace) (mark CloseBrace) refl none none refl))))

  macro_starts : (kind : ℕ) (sort : MacroSort) → MacroKind kind sort → Starts kind
  unfolding proper all_proper text_good extra_good
  macro_starts kind sort e p = (
    mark OpenParen ∷ mark CloseParen ∷ mark Assign ∷ mark OpenBrace ∷ mark CloseBrace ∷ [],
    refl,
    (_, of_macro (mark Assign) e (parens (mark OpenParen) refl (closed (mark CloseParen) none refl)) refl absent absent (body (mark OpenBrace) (mark CloseBrace) refl none none refl)),
  )

  -- tables
  pub entry_holds : (sort : TableSort) (p : ℕ) (ts : List Token) → Holds (Inner m false) (OneEntry sort p) (NoneOrOne (OneEntry sort p)) p (table_entry sort p) ts (table_entry sort p ts)
  unfolding table_entry all_proper
  entry_holds sort p ts =
      look_holds (λ t. cond (eqb t.kind Ident && entry_allowed sort t) (taken (record { place = p; token = t })) (refuse (plain 11))) p
      (λ t. cond_says (StepHolds (Inner m false) (OneEntry sort p) (NoneOrOne (OneEntry sort p)) p t) (eqb t.kind Ident && entry_allowed sort t)
      (λ e. let b = (and-eq-true_iff (eqb t.kind Ident) (entry_allowed sort t)).0 e in going (λ us. got_holds (one_entry t (eqb-true t.kind Ident b.0) b.1)))
      (λ e. refusing (plain_inner m false 11 refl refl refl t) ([], refl, nothing)))
      tt ts

  pub entry_some : (sort : TableSort) (p : ℕ) (xs : List Token) (e : TableEntry) → OneEntry sort p xs e → 0 < length xs
  entry_some sort p xs e (one_entry t k a) = omega arith

  table_body_holds : (sort : TableSort) (p : ℕ) (ts : List Token) → Holds (Inner m false) (TableBody sort p) (Any (TableBody sort p)) p (parse_table_body sort p) ts (parse_table_body sort p ts)
  unfolding parse_table_body table_entries proper all_proper text_good extra_good
  table_body_holds sort p ts =
      expect_holds OpenBrace (plain 1) _ p refl (one_told false)
      (mark OpenBrace ∷ mark CloseBrace ∷ [], refl, (_, table_body (mark OpenBrace) (mark CloseBrace) refl none refl))
      (λ o e us. seq_holds (λ xs. TableBody sort p (o ∷ xs)) (λ xs. Any (TableBody sort p) (o ∷ xs)) (table_entries sort) (λ es. expect CloseBrace (plain 11) (λ c q vs. got es 0)) (suc p) us
      (many_holds ends_table forget_entry (λ s. table_entry sort) (λ s. OneEntry sort) (λ s. entry_holds sort) (λ s. entry_some sort) us 0 tt (suc p))
      (λ n es h k. expect_holds CloseBrace (plain 11) (λ c q vs. got es 0) (suc p + length (take n us)) refl (plain_inner m false 11 refl refl refl)
      (mark CloseBrace ∷ [], refl, (es, table_body o (mark CloseBrace) e k refl))
      (λ c f vs. got_holds (table_body o c e k f))
      (drop n us))
      (λ xs g. (mark CloseBrace ∷ [], refl, (_, table_body o (mark CloseBrace) e g.1 refl))))
      ts

  empty_table : (sort : TableSort) (p : ℕ) → TableBody sort p (mark OpenBrace ∷ mark CloseBrace ∷ []) []
  empty_table sort p = table_body (mark OpenBrace) (mark CloseBrace) refl none refl

  table_holds : (kind : ℕ) (sort : TableSort) → TableKind kind sort → Reads false kind (table_rest sort)
  unfolding table_rest proper all_proper text_good extra_good
  table_holds kind sort e p ts =
      seq_holds (Rest m kind p) (Any (Rest m kind p)) (sign OpenParen) _ p ts (sign_holds OpenParen refl p ts)
      (λ n u h k. seq_holds (λ ys. Rest m kind p (take n ts ++ ys)) (λ ys. Any (Rest m kind p) (take n ts ++ ys)) (sign CloseParen) _ (p + length (take n ts)) (drop n ts)
      (sign_holds CloseParen refl (p + length (take n ts)) (drop n ts))
      (λ i v h₁ k₁. seq_holds (λ ys. Rest m kind p (take n ts ++ (take i (drop n ts) ++ ys))) (λ ys. Any (Rest m kind p) (take n ts ++ (take i (drop n ts) ++ ys))) (sign Assign) _ (p + length (take n ts) + length (take i (drop n ts))) (drop i (drop n ts))
      (sign_holds Assign refl (p + length (take n ts) + length (take i (drop n ts))) (drop i (drop n ts)))
      (λ j w h₂ k₂. then_holds (parse_table_body sort) (λ q es. a_table sort es) (p + length (take n ts) + length (take i (drop n ts)) + length (take j (drop i (drop n ts)))) (drop j (drop i (drop n ts)))
      (table_body_holds sort (p + length (take n ts) + length (take i (drop n ts)) + length (take j (drop i (drop n ts)))) (drop j (drop i (drop n ts))))
      (λ xs es g. of_table e k k₁ k₂ g)
      (λ xs g. (_, of_table e k k₁ k₂ g.1)))
      (λ ys g. (mark OpenBrace ∷ mark CloseBrace ∷ [], refl, (_, of_table e k k₁ g.1 (empty_table sort _)))))
      (λ ys g. (mark OpenBrace ∷ mark CloseBrace ∷ [], refl, (_, of_table e k g.1 absent (empty_table sort _)))))
      (λ xs g. (mark OpenBrace ∷ mark CloseBrace ∷ [], refl, (_, of_table e g.1 absent absent (empty_table sort _))))

  table_starts : (kind : ℕ) (sort : TableSort) → TableKind kind sort → Starts kind
  unfolding proper all_proper text_good extra_good
  table_starts kind sort e p = (mark OpenBrace ∷ mark CloseBrace ∷ [], refl, (_, of_table e absent absent absent (empty_table sort _)))

  -- behind `#define` d at p and its kind k: a name, and what stands behind it
  named_holds : (typed : Bool) (rest : ℕ → List Token → Res Form) (p : ℕ) (d k : Token) → d.kind ≡ Define → Reads typed k.kind rest → Starts k.kind → (ts : List Token)
      → Holds (Inner m typed) (λ xs. Defined m p (d ∷ k ∷ xs)) (λ xs. NoneOrOne (Defined m p) (d ∷ k ∷ xs)) (suc (suc p)) (named p rest (suc (suc p))) ts (named p rest (suc (suc p)) ts)
  unfolding named proper all_proper text_good extra_good bytes
  named_holds typed rest p d k e reads starts ts =
      let fin = starts (suc (suc (suc p))) in
      expect_holds Ident (plain 1) _ (suc (suc p)) refl (one_told typed)
      (word Ident "a" ∷ fin.0, fin.1, one (define d k (word Ident "a") e refl fin.2.1))
      (λ n f us. then_holds rest (λ q x. record { first = p; end = q; name = suc (suc p); token = n; form = x }) (suc (suc (suc p))) us (reads (suc (suc (suc p))) us)
      (λ xs x g. define d k n e f g)
      (λ xs g. one (define d k n e f g.1)))
      ts

  -- a definition's reader, from its kind on
  abbrev Begun : Bool → ℕ → Token → (ℕ → List Token → Res Definition) → Type 0
  Begun typed p d read =
      (ts : List Token)
      → Holds (Inner m typed) (λ xs. Defined m p (d ∷ xs)) (λ xs. NoneOrOne (Defined m p) (d ∷ xs)) (suc p) (read (suc p)) ts (read (suc p) ts)

  -- `#define` can be finished
  define_starts : (p : ℕ) (d : Token) → d.kind ≡ Define → Finish (λ xs. NoneOrOne (Defined m p) (d ∷ xs)) []
  unfolding proper all_proper text_good extra_good bytes
  define_starts p d e =
      let fin = constant_starts Constant refl (suc (suc (suc p))) in
      (mark Constant ∷ word Ident "a" ∷ fin.0, fin.1, one (define d (mark Constant) (word Ident "a") e refl fin.2.1))

  kind_holds : (typed : Bool) (kind : ℕ) (rest : ℕ → List Token → Res Form) (p : ℕ) (d : Token) → d.kind ≡ Define → eqb 0 kind ≡ false
      → ((k : ℕ) → k ≡ kind → Reads typed k rest)
      → ((k : ℕ) → k ≡ kind → Starts k)
      → Begun typed p d (expect kind (plain 1) (λ k. named p rest))
  kind_holds typed kind rest p d e n reads starts ts =
      expect_holds kind (plain 1) (λ k. named p rest) (suc p) n (one_told typed) (define_starts p d e)
      (λ k f. named_holds typed rest p d k e (reads k.kind f) (starts k.kind f))
      ts

  parse_macro_holds : (p : ℕ) (d : Token) → d.kind ≡ Define → Begun false p d (parse_macro m p)
  unfolding parse_macro choose
  parse_macro_holds p d e ts =
      look_holds (λ k. choose ((Macro, on (named p (macro_rest m the_macro))) ∷ (Fn, on (named p (macro_rest m the_fn))) ∷ (Test, on (named p (macro_rest m the_test))) ∷ []) (refuse (plain 1)) k.kind) (suc p)
      (λ k. choose_says (StepHolds (Inner m false) (λ xs. Defined m p (d ∷ xs)) (λ xs. NoneOrOne (Defined m p) (d ∷ xs)) (suc p) k)
      ((Macro, on (named p (macro_rest m the_macro))) ∷ (Fn, on (named p (macro_rest m the_fn))) ∷ (Test, on (named p (macro_rest m the_test))) ∷ []) (refuse (plain 1)) k.kind (
        (λ f. going (named_holds false (macro_rest m the_macro) p d k e (macro_holds k.kind the_macro (is_macro_kind f)) (macro_starts k.kind the_macro (is_macro_kind f)))),
        λ n₁. (
          (λ f. going (named_holds false (macro_rest m the_fn) p d k e (macro_holds k.kind the_fn (is_fn_kind f)) (macro_starts k.kind the_fn (is_fn_kind f)))),
          λ n₂. (
            (λ f. going (named_holds false (macro_rest m the_test) p d k e (macro_holds k.kind the_test (is_test_kind f)) (macro_starts k.kind the_test (is_test_kind f)))),
            λ n₃. refusing (one_told false k) (define_starts p d e),
          ),
        ),
      ))
      tt ts

  parse_table_holds : (p : ℕ) (d : Token) → d.kind ≡ Define → Begun false p d (parse_table p)
  unfolding parse_table choose
  parse_table_holds p d e ts =
      look_holds (λ k. choose ((JumpTable, on (named p (table_rest jump_table))) ∷ (JumpTablePacked, on (named p (table_rest packed_table))) ∷ (CodeTable, on (named p (table_rest code_table))) ∷ []) (refuse (plain 1)) k.kind) (suc p)
      (λ k. choose_says (StepHolds (Inner m false) (λ xs. Defined m p (d ∷ xs)) (λ xs. NoneOrOne (Defined m p) (d ∷ xs)) (suc p) k)
      ((JumpTable, on (named p (table_rest jump_table))) ∷ (JumpTablePacked, on (named p (table_rest packed_table))) ∷ (CodeTable, on (named p (table_rest code_table))) ∷ []) (refuse (plain 1)) k.kind (
        (λ f. going (named_holds false (table_rest jump_table) p d k e (table_holds k.kind jump_table (is_jump f)) (table_starts k.kind jump_table (is_jump f)))),
        λ n₁. (
          (λ f. going (named_holds false (table_rest packed_table) p d k e (table_holds k.kind packed_table (is_packed f)) (table_starts k.kind packed_table (is_packed f)))),
          λ n₂. (
            (λ f. going (named_holds false (table_rest code_table) p d k e (table_holds k.kind code_table (is_code f)) (table_starts k.kind code_table (is_code f)))),
            λ n₃. refusing (one_told false k) (define_starts p d e),
          ),
        ),
      ))
      tt ts

  -- by its kind
  by_kinds : (p : ℕ) (d : Token) → d.kind ≡ Define → (ts : List Token)
      → Holds (Inner m (has_typed (token_at ts 0).kind)) (λ xs. Defined m p (d ∷ xs)) (λ xs. NoneOrOne (Defined m p) (d ∷ xs)) (suc p) (by_kind (kind_table m p) (plain 2) (suc p)) ts (by_kind (kind_table m p) (plain 2) (suc p) ts)
  unfolding parse_function parse_event parse_constant parse_custom_error
  by_kinds p d e ts =
      by_kind_holds (kind_table m p) (plain 2) (suc p) ts
      (choose_says (λ u. Holds (Inner m (has_typed (token_at ts 0).kind)) (λ xs. Defined m p (d ∷ xs)) (λ xs. NoneOrOne (Defined m p) (d ∷ xs)) (suc p) (u (suc p)) ts (u (suc p) ts)) (kind_table m p) (λ q us. bad (plain 2) q) (token_at ts 0).kind (
        (λ k. rw k (kind_holds true Function function_rest p d e refl function_holds function_starts ts)),
        λ n₁. (
          (λ k. rw k (kind_holds true Event event_rest p d e refl event_holds event_starts ts)),
          λ n₂. (
            (λ k. rw k (kind_holds false Constant constant_rest p d e refl constant_holds constant_starts ts)),
            λ n₃. (
              (λ k. rw k (kind_holds true Error error_rest p d e refl error_holds error_starts ts)),
              λ n₄. (
                (λ k. rw k (parse_macro_holds p d e ts)),
                λ n₅. (
                  (λ k. rw k (parse_macro_holds p d e ts)),
                  λ n₆. (
                    (λ k. rw k (parse_macro_holds p d e ts)),
                    λ n₇. (
                      (λ k. rw k (parse_table_holds p d e ts)),
                      λ n₈. (
                        (λ k. rw k (parse_table_holds p d e ts)),
                        λ n₉. (
                          (λ k. rw k (parse_table_holds p d e ts)),
                          λ n. bad_holds (plain 2) (suc p) ts (plain_inner m (has_typed (token_at ts 0).kind) 2 refl refl refl (token_at ts 0)) (define_starts p d e),
                        ),
                      ),
                    ),
                  ),
                ),
              ),
            ),
          ),
        ),
      ))

  -- what is told whatever the kind
  abbrev Told : Why → Token → Type 0
  Told y t = Near y t × (is_definition_number m (number y) ≡ true)

  define_holds : (p : ℕ) (ts : List Token) → Holds Told (Defined m p) (NoneOrOne (Defined m p)) p (parse_definition m p) ts (parse_definition m p ts)
  unfolding parse_definition all_proper
  define_holds p ts =
      expect_holds Define (plain 1) (λ d. by_kind (kind_table m p) (plain 2)) p refl (λ t. let h = one_told false t in ((false, h.0), h.1)) ([], refl, nothing)
      (λ d e us. holds_map (λ y t h. ((has_typed (token_at us 0).kind, h.0), h.1)) (λ xs a h. h) (λ xs h. h) (by_kinds p d e us))
      ts

  import_holds : (typed : Bool) (p : ℕ) (ts : List Token) → Holds (Inner m typed) (Defined m p) (NoneOrOne (Defined m p)) p (parse_imports p) ts (parse_imports p ts)
  unfolding parse_imports proper all_proper text_good extra_good
  import_holds typed p ts =
      expect_holds Include (plain 1) _ p refl (one_told typed) ([], refl, nothing)
      (λ i e us. expect_holds Str (plain 1) _ (suc p) refl (one_told typed) (mark Str ∷ [], refl, one (include i (mark Str) e refl)) (λ s f vs. got_holds (include i s e f)) us)
      ts

  -- what is told at top level: the number is a definition's, or 21
  abbrev pub Top : Why → Token → Type 0
  Top y t = Near y t × ((is_definition_number m (number y) || eqb (number y) 21) ≡ true)

  pub top_holds : (p : ℕ) (ts : List Token) → Holds Top (Defined m p) (NoneOrOne (Defined m p)) p (top_level m p) ts (top_level m p ts)
  unfolding top_level all_proper past past_in
  top_holds p ts =
      by_kind_holds (top_table m) (plain 1) p ts
      (choose_says (λ u. Holds Top (Defined m p) (NoneOrOne (Defined m p)) p (u p) ts (u p ts)) (top_table m) (λ q us. bad (plain 1) q) (token_at ts 0).kind (
        (λ k. holds_map (λ y t h. ((false, h.0), rw h.1)) (λ xs a h. h) (λ xs h. h) (import_holds false p ts)),
        λ n₁. (
          (λ k. bad_holds (plain 21) p ts ((false, refl), or-true (is_definition_number m 21)) ([], refl, nothing)),
          λ n₂. (
            (λ k. holds_map (λ y t h. (h.0, rw h.1)) (λ xs a h. h) (λ xs h. h) (define_holds p ts)),
            λ n₃. bad_holds (plain 1) p ts ((false, refl), refl) ([], refl, nothing),
          ),
        ),
      ))

  -- 21 is given for a Pound, and there alone
  pub pound_only : (p : ℕ) (ts : List Token) (y : Why) (q : ℕ) → top_level m p ts ≡ bad y q → number y ≡ 21 → ((token_at ts 0).kind ≡ Pound) × (q ≡ p)
  unfolding top_level by_kind
  pound_only p ts y q =
      choose_says (λ u. u p ts ≡ bad y q → number y ≡ 21 → ((token_at ts 0).kind ≡ Pound) × (q ≡ p)) (top_table m) (λ r us. bad (plain 1) r) (token_at ts 0).kind (
        (λ k e n. absurd (not_inner (λ y t h. h.1) (rw e at (import_holds false p ts)) n)),
        λ n₁. (
          (λ k e n. (k, cc)),
          λ n₂. (
            (λ k e n. absurd (not_inner (λ y t h. h.1) (rw e at (define_holds p ts)) n)),
            λ n₃ e n. absurd (omega (arith, let z : plain 1 ≡ y = cc in ap number z)),
          ),
        ),
      )
    where
      not_inner : {T : Why → Token → Type 0} {f : List Token → Res Definition} → ((y : Why) (t : Token) → T y t → is_definition_number m (number y) ≡ true)
          → Holds T (Defined m p) (NoneOrOne (Defined m p)) p f ts (bad y q)
          → number y ≡ 21
          → ⊥
      not_inner g (ill h) n = false≢true (sym (and-false m.names_once) ∙ ap (is_definition_number m) (sym n) ∙ g y (token_at (drop h.off ts) 0) h.told)

  -- where the cursor stands, by the kind of what is defined
  wrong_at : (typed : Bool) (p : ℕ) (ts : List Token) (y : Why) (q : ℕ) {P : List Token → Definition → Type 0} {L : List Token → Type 0} {f : List Token → Res Definition} → Holds (Inner m typed) P L p f ts (bad y q)
      → beyond y ≡ past_in typed (number y) (drop (q - p) ts)
  unfolding past past_in
  wrong_at typed p ts y q (ill h) = let o : h.off ≡ q - p = omega (arith, h.place) in h.told.0 ∙ ap (λ k. past_in typed (number y) (drop k ts)) o

  define_cursor : (p : ℕ) (ts : List Token) (y : Why) (q : ℕ) → (token_at ts 0).kind ≡ Define → parse_definition m p ts ≡ bad y q → beyond y ≡ past_in (has_typed (token_at ts 1).kind) (number y) (drop (q - p) ts)
  unfolding parse_definition past past_in
  define_cursor p [] y q k e = absurd (omega (arith, k))
  define_cursor p (d ∷ us) y q k e =
      at (rw (was (by_kind (kind_table m p) (plain 2) (suc p) us) (sym (expect_run Define (plain 1) (λ d. by_kind (kind_table m p) (plain 2)) p d us k) ∙ e)) at (by_kinds p d k us))
    where
      was : (r : Res Definition) → with_one_more r ≡ bad y q → r ≡ bad y q
      was (got a n) f = absurd (omega (arith, let z : ◌≡◌ {A = ℕ} 0 1 = cc in z))
      was (bad z w) f = f

      at : {P : List Token → Definition → Type 0} {L : List Token → Type 0} {f : List Token → Res Definition} → Holds (Inner m (has_typed (token_at us 0).kind)) P L (suc p) f us (bad y q)
          → beyond y ≡ past_in (has_typed (token_at us 0).kind) (number y) (drop (q - p) (d ∷ us))
      at (ill h) = let o : suc h.off ≡ q - p = omega (arith, h.place) in h.told.0 ∙ ap (λ j. past_in (has_typed (token_at us 0).kind) (number y) (drop j (d ∷ us))) o

  -- a number other than 4 and 8, at the first token
  plain_cursor : (typed : Bool) (c p q : ℕ) (ts : List Token) (y : Why) → eqb c 4 ≡ false → eqb c 8 ≡ false → ◌≡◌ {A = Res Definition} (bad (plain c) p) (bad y q) → beyond y ≡ past_in typed (number y) (drop (q - p) ts)
  unfolding past past_in
  plain_cursor typed c p q ts y h k e =
      let z : plain c ≡ y = cc in
      let n : cond (typed && eqb c 8) 0 (past c (drop (q - p) ts)) ≡ 0 = rw h (rw k (rw (and-false typed))) in
      ap beyond (sym z) ∙ sym n ∙ ap (λ x. past_in typed (number x) (drop (q - p) ts)) z

  pub top_cursor : (p : ℕ) (ts : List Token) (y : Why) (q : ℕ) → top_level m p ts ≡ bad y q → beyond y ≡ past_in (has_typed (token_at ts 1).kind) (number y) (drop (q - p) ts)
  unfolding top_level by_kind
  top_cursor p ts y q =
      choose_says (λ u. u p ts ≡ bad y q → beyond y ≡ past_in (has_typed (token_at ts 1).kind) (number y) (drop (q - p) ts)) (top_table m) (λ r us. bad (plain 1) r) (token_at ts 0).kind (
        (λ k e. wrong_at (has_typed (token_at ts 1).kind) p ts y q (rw e at (import_holds (has_typed (token_at ts 1).kind) p ts))),
        λ n₁. (
          (λ k e. plain_cursor (has_typed (token_at ts 1).kind) 21 p q ts y refl refl e),
          λ n₂. (
            (λ k e. define_cursor p ts y q k e),
            λ n₃ e. plain_cursor (has_typed (token_at ts 1).kind) 1 p q ts y refl refl e,
          ),
        ),
      )

pub defined_some : (m : Rules) (p : ℕ) (xs : List Token) (d : Definition) → Defined m p xs d → 0 < length xs
defined_some m p xs d (include i s e f) = omega arith
defined_some m p xs d (define t k n e f r) = omega arith

-- a definition begins at its place and ends behind its tokens
pub defined_range : (m : Rules) (p : ℕ) (xs : List Token) (d : Definition) → Defined m p xs d → (d.first ≡ p) × (d.end ≡ p + length xs) × (p < d.end)
defined_range m p xs d (include i s e f) = (refl, omega arith, omega arith)
defined_range m p xs d (define t k n e f r) = (refl, omega arith, omega arith)

-- so what the reader reads begins where it reads
pub top_first : (m : Rules) (p : ℕ) (ts : List Token) (d : Definition) (n : ℕ) → top_level m p ts ≡ got d n → d.first ≡ p
top_first m p ts d n e = at (rw e at (top_holds m p ts))
  where
    at : {T : Why → Token → Type 0} {L : List Token → Type 0} {f : List Token → Res Definition} → Holds T (Defined m p) L p f ts (got d n) → d.first ≡ p
    at (well g) = (defined_range m p (take n ts) d g.follows).0
