-- What follows the grammar is read: a definition's derivation, before any tokens, gives the reader's value.
use Prim.Native.Nat.{ℕ, suc, ◌+◌}
use mathlib.Core.Path.{◌≡◌, refl, ◌∙◌, ap}
use mathlib.Core.Bool.{Bool, true, false, cond, and-eq-true_iff}
use mathlib.Core.List.{List, [], ◌∷◌, ◌++◌, append_assoc}
use lib.ListN.{length, length-append}
use lib.Dec.{eqb}
use borrow.Author.Tests.{eq-eqb}
use Rattle.tokens.specs.Token.{Token, token_at}
use Rattle.tokens.specs.Kind.{Define, Takes, Returns, Assign, OpenParen, CloseParen, OpenBrace, CloseBrace, Ident}
use Rattle.grammar.specs.Reading.{Argument, Reading}
use Rattle.grammar.specs.Rules.{Rules}
use Rattle.grammar.specs.Grammar.{Closed, NameArgument, Body, body}
use Rattle.grammar.specs.Result.{plain, Res, got, refuse, taken, stepped, with_one_more, look, choose, expect, seq}
use Rattle.grammar.specs.Reader.{closed_list, name_argument, body_from}
use Rattle.grammar.specs.Typed.{typed_argument, single_number}
use Rattle.grammar.specs.FileReading.{Value, MacroSort, TableSort, TableEntry, Form, a_function, an_event, a_defined_constant, an_error, a_macro, a_table, Definition}
use Rattle.grammar.specs.FileGrammar.{Optional, absent, present, Lone, lone, TypedList, Parens, parens, Counted, counting, FunctionType, is_view, is_pure, is_payable, is_non_payable, ConstantValue, value_literal, value_pointer, is_macro_kind, is_fn_kind, is_test_kind, is_jump, is_packed, is_code, entry_allowed, OneEntry, one_entry, forget_entry, TableBody, table_body, Sign, Rest, of_function, of_event, of_constant, of_error, of_macro, of_table, Defined, include, define}
use Rattle.grammar.specs.FileReader.{by_kind, optional, parse_args, named, parse_imports, function_type, function_rest, parse_function, event_rest, parse_event, constant_value, constant_rest, parse_constant, error_rest, parse_custom_error, macro_rest, parse_macro, table_entry, ends_table, table_entries, parse_table_body, sign, table_rest, parse_table, kind_table, parse_definition, top_level}
use Rattle.grammar.proofs.Sound.{name_holds, name_some}
use Rattle.grammar.proofs.Complete.{Opens, opening, seq_complete, then_complete, many_complete, calm, calm_comma, calm_close, closed_complete, name_complete, name_opens, body_complete}
use Rattle.grammar.proofs.FileHolds.{expect_run}
use Rattle.grammar.proofs.FileTyped.{typed_list_complete}
use Rattle.grammar.proofs.FileSound.{entry_holds, entry_some}

-- optional things: what stands behind them must not look like them
count_complete : (k p n : ℕ) (xs ys : List Token) → eqb k k ≡ true → Optional 0 (Counted k) xs n → eqb (token_at ys 0).kind k ≡ false
    → optional k single_number 0 p (xs ++ ys) ≡ got n (length xs)
unfolding optional single_number look
count_complete k p n xs ys r absent h = rw h
count_complete k p n xs ys r (present (counting t o x c e f g i)) h = rw e (rw r (rw f (rw g (rw i))))

sign_complete : (k p : ℕ) (u : Unit {0}) (xs ys : List Token) → eqb k k ≡ true → Optional tt (Sign k) xs u → eqb (token_at ys 0).kind k ≡ false
    → sign k p (xs ++ ys) ≡ got u (length xs)
unfolding optional look
sign_complete k p u xs ys r absent h = rw h
sign_complete k p u xs ys r (present (lone t e)) h = rw e (rw r)

count_first : (k j n : ℕ) (xs ys : List Token) → Optional 0 (Counted k) xs n → eqb k j ≡ false → eqb (token_at ys 0).kind j ≡ false → eqb (token_at (xs ++ ys) 0).kind j ≡ false
count_first k j n xs ys absent g h = h
count_first k j n xs ys (present (counting t o x c e f i l)) g h = rw e g

sign_first : (k j : ℕ) (u : Unit {0}) (xs ys : List Token) → Optional tt (Sign k) xs u → eqb k j ≡ false → eqb (token_at ys 0).kind j ≡ false → eqb (token_at (xs ++ ys) 0).kind j ≡ false
sign_first k j u xs ys absent g h = h
sign_first k j u xs ys (present (lone t e)) g h = rw e g

body_first : (m : Rules) (j p : ℕ) (xs ys : List Token) (r : Reading) → Body m p xs r → eqb OpenBrace j ≡ false → eqb (token_at (xs ++ ys) 0).kind j ≡ false
body_first m j p xs ys r (body o c e i g f) h = rw e h

table_first : (sort : TableSort) (j p : ℕ) (xs ys : List Token) (es : List TableEntry) → TableBody sort p xs es → eqb OpenBrace j ≡ false → eqb (token_at (xs ++ ys) 0).kind j ≡ false
table_first sort j p xs ys es (table_body o c e i f) h = rw e h

parens_complete : (U : ℕ → List Token → List Argument → Type 0) (read : ℕ → ℕ → List Token → Res Argument)
    → ((p : ℕ) (xs : List Token) (args : List Argument) → U p xs args → (ys : List Token) → closed_list read p (xs ++ ys) ≡ got args (length xs))
    → (p : ℕ) (xs : List Token) (args : List Argument) → Parens U p xs args → (ys : List Token)
    → parse_args read p (xs ++ ys) ≡ got args (length xs)
unfolding look
parens_complete U read lists p xs args (parens {xs = us} o e u) ys = rw e (ap with_one_more (lists (suc p) us args u ys))

type_complete : (p ty : ℕ) (xs ys : List Token) → Lone (λ t. FunctionType t.kind) xs ty → function_type p (xs ++ ys) ≡ got ty (length xs)
unfolding function_type look choose
type_complete p ty xs ys (lone t (is_view e)) = rw e
type_complete p ty xs ys (lone t (is_pure e)) = rw e
type_complete p ty xs ys (lone t (is_payable e)) = rw e
type_complete p ty xs ys (lone t (is_non_payable e)) = rw e

value_complete : (p : ℕ) (v : Value) (xs ys : List Token) → Lone (ConstantValue p) xs v → constant_value p (xs ++ ys) ≡ got v (length xs)
unfolding constant_value look choose
value_complete p v xs ys (lone t (value_literal e)) = rw e
value_complete p v xs ys (lone t (value_pointer e)) = rw e

module _ (m : Rules) where
  typed_complete : (events : Bool) (p : ℕ) (xs : List Token) (args : List Argument) → Parens (TypedList events) p xs args → (ys : List Token) → parse_args (typed_argument events) p (xs ++ ys) ≡ got args (length xs)
  typed_complete events = parens_complete (TypedList events) (typed_argument events) (typed_list_complete m events)

  names_complete : (p : ℕ) (xs : List Token) (args : List Argument) → Parens (Closed NameArgument) p xs args → (ys : List Token) → parse_args name_argument p (xs ++ ys) ≡ got args (length xs)
  names_complete =
      parens_complete (Closed NameArgument) name_argument
      (closed_complete NameArgument name_argument (name_holds m) name_some calm (λ n q vs a u ws f. name_complete n q vs a u ws) name_opens calm_comma calm_close)

  entry_opens : (sort : TableSort) (p : ℕ) (xs : List Token) (e : TableEntry) → OneEntry sort p xs e → Opens ends_table (λ t. true) xs
  entry_opens sort p xs e (one_entry t k a) = opening t [] (rw k) refl

  entry_complete : (sort : TableSort) (p : ℕ) (xs : List Token) (e : TableEntry) → OneEntry sort p xs e → (ys : List Token) → table_entry sort p (xs ++ ys) ≡ got e (length xs)
  unfolding table_entry look
  entry_complete sort p xs e (one_entry t k a) ys =
      ap (λ b. stepped (cond b (taken e) (refuse (plain 11))) p ys) ((and-eq-true_iff (eqb t.kind Ident) (entry_allowed sort t)).1 (eq-eqb t.kind Ident k, a))

  table_body_complete : (sort : TableSort) (p : ℕ) (xs : List Token) (es : List TableEntry) → TableBody sort p xs es → (ys : List Token) → parse_table_body sort p (xs ++ ys) ≡ got es (length xs)
  unfolding parse_table_body table_entries look
  table_body_complete sort p xs es (table_body {xs = us} o c e k f) ys =
      rw (append_assoc us (c ∷ []) ys, length-append us (c ∷ [])) (rw e (ap with_one_more
      (seq_complete (table_entries sort) (λ fs. expect CloseBrace (plain 11) (λ d q ts. got fs 0)) (suc p) 1 us (c ∷ ys) es es
      (many_complete ends_table forget_entry (λ s. table_entry sort) (λ s. OneEntry sort) (λ s. entry_holds m sort) (λ s. entry_some m sort) (λ t. true) (λ s. entry_opens sort)
      (λ s q vs x u ws h. entry_complete sort q vs x u ws) (λ t h. refl) refl tt (suc p) us es k (c ∷ ys) (rw f))
      (rw f))))

  -- what stands behind a name, before any tokens
  abbrev Whole : (ℕ → List Token → Res Form) → ℕ → List Token → Form → Type 0
  Whole rest p xs f = (ys : List Token) → rest p (xs ++ ys) ≡ got f (length xs)

  function_complete : (p ty : ℕ) (xs ts zs : List Token) (ins outs : List Argument) (r : Token)
      → Parens (TypedList false) p xs ins
      → Lone (λ t. FunctionType t.kind) ts ty
      → r.kind ≡ Returns
      → Parens (TypedList false) (suc (p + length xs + length ts)) zs outs
      → Whole function_rest p (xs ++ (ts ++ (r ∷ zs))) (a_function ins ty outs)
  unfolding function_rest look
  function_complete p ty xs ts zs ins outs r i t e o ys =
      rw (append_assoc xs (ts ++ (r ∷ zs)) ys, append_assoc ts (r ∷ zs) ys, length-append xs (ts ++ (r ∷ zs)), length-append ts (r ∷ zs))
      (seq_complete (parse_args (typed_argument false)) _ p (length ts + suc (length zs)) xs (ts ++ (r ∷ (zs ++ ys))) ins (a_function ins ty outs) (typed_complete false p xs ins i (ts ++ (r ∷ (zs ++ ys))))
      (seq_complete function_type _ (p + length xs) (suc (length zs)) ts (r ∷ (zs ++ ys)) ty (a_function ins ty outs) (type_complete (p + length xs) ty ts (r ∷ (zs ++ ys)) t)
      (rw e (ap with_one_more (then_complete (parse_args (typed_argument false)) (λ q x. a_function ins ty x) (suc (p + length xs + length ts)) zs ys outs (typed_complete false (suc (p + length xs + length ts)) zs outs o ys))))))

  event_complete : (p : ℕ) (xs : List Token) (args : List Argument) → Parens (TypedList true) p xs args → Whole event_rest p xs (an_event args)
  unfolding event_rest
  event_complete p xs args h ys = then_complete (parse_args (typed_argument true)) (λ q x. an_event x) p xs ys args (typed_complete true p xs args h ys)

  error_complete : (p : ℕ) (xs : List Token) (args : List Argument) → Parens (TypedList false) p xs args → Whole error_rest p xs (an_error args)
  unfolding error_rest
  error_complete p xs args h ys = then_complete (parse_args (typed_argument false)) (λ q x. an_error x) p xs ys args (typed_complete false p xs args h ys)

  constant_complete : (p : ℕ) (a : Token) (vs : List Token) (v : Value) → a.kind ≡ Assign → Lone (ConstantValue (suc p)) vs v → Whole constant_rest p (a ∷ vs) (a_defined_constant v)
  unfolding constant_rest look
  constant_complete p a vs v e h ys =
      rw e (ap with_one_more (then_complete constant_value (λ q x. a_defined_constant x) (suc p) vs ys v (value_complete (suc p) v vs ys h)))

  macro_complete : (sort : MacroSort) (p takes returns : ℕ) (xs ts rs bs : List Token) (args : List Argument) (r : Reading) (a : Token)
      → Parens (Closed NameArgument) p xs args
      → a.kind ≡ Assign
      → Optional 0 (Counted Takes) ts takes
      → Optional 0 (Counted Returns) rs returns
      → Body m (suc (p + length xs) + length ts + length rs) bs r
      → Whole (macro_rest m sort) p (xs ++ (a ∷ (ts ++ (rs ++ bs)))) (a_macro sort args takes returns r)
  unfolding macro_rest look
  macro_complete sort p takes returns xs ts rs bs args r a i e t s b ys =
      rw (append_assoc xs (a ∷ (ts ++ (rs ++ bs))) ys, append_assoc ts (rs ++ bs) ys, append_assoc rs bs ys, length-append xs (a ∷ (ts ++ (rs ++ bs))), length-append ts (rs ++ bs), length-append rs bs)
      (seq_complete (parse_args name_argument) _ p (suc (length ts + (length rs + length bs))) xs (a ∷ (ts ++ (rs ++ (bs ++ ys)))) args (a_macro sort args takes returns r) (names_complete p xs args i (a ∷ (ts ++ (rs ++ (bs ++ ys)))))
      (rw e (ap with_one_more
      (seq_complete (optional Takes single_number 0) _ (suc (p + length xs)) (length rs + length bs) ts (rs ++ (bs ++ ys)) takes (a_macro sort args takes returns r)
      (count_complete Takes (suc (p + length xs)) takes ts (rs ++ (bs ++ ys)) refl t
      (count_first Returns Takes returns rs (bs ++ ys) s refl (body_first m Takes (suc (p + length xs) + length ts + length rs) bs ys r b refl)))
      (seq_complete (optional Returns single_number 0) _ (suc (p + length xs) + length ts) (length bs) rs (bs ++ ys) returns (a_macro sort args takes returns r)
      (count_complete Returns (suc (p + length xs) + length ts) returns rs (bs ++ ys) refl s (body_first m Returns (suc (p + length xs) + length ts + length rs) bs ys r b refl))
      (then_complete (body_from m) (λ q x. a_macro sort args takes returns x) (suc (p + length xs) + length ts + length rs) bs ys r
      (body_complete m (suc (p + length xs) + length ts + length rs) bs r b ys)))))))

  table_complete : (sort : TableSort) (p : ℕ) (u v w : Unit {0}) (os cs zs bs : List Token) (es : List TableEntry)
      → Optional tt (Sign OpenParen) os u
      → Optional tt (Sign CloseParen) cs v
      → Optional tt (Sign Assign) zs w
      → TableBody sort (p + length os + length cs + length zs) bs es
      → Whole (table_rest sort) p (os ++ (cs ++ (zs ++ bs))) (a_table sort es)
  unfolding table_rest
  table_complete sort p u v w os cs zs bs es o c z b ys =
      let q : ℕ = p + length os + length cs + length zs in
      rw (append_assoc os (cs ++ (zs ++ bs)) ys, append_assoc cs (zs ++ bs) ys, append_assoc zs bs ys, length-append os (cs ++ (zs ++ bs)), length-append cs (zs ++ bs), length-append zs bs)
      (seq_complete (sign OpenParen) _ p (length cs + (length zs + length bs)) os (cs ++ (zs ++ (bs ++ ys))) u (a_table sort es)
      (sign_complete OpenParen p u os (cs ++ (zs ++ (bs ++ ys))) refl o
      (sign_first CloseParen OpenParen v cs (zs ++ (bs ++ ys)) c refl (sign_first Assign OpenParen w zs (bs ++ ys) z refl (table_first sort OpenParen q bs ys es b refl))))
      (seq_complete (sign CloseParen) _ (p + length os) (length zs + length bs) cs (zs ++ (bs ++ ys)) v (a_table sort es)
      (sign_complete CloseParen (p + length os) v cs (zs ++ (bs ++ ys)) refl c (sign_first Assign CloseParen w zs (bs ++ ys) z refl (table_first sort CloseParen q bs ys es b refl)))
      (seq_complete (sign Assign) _ (p + length os + length cs) (length bs) zs (bs ++ ys) w (a_table sort es)
      (sign_complete Assign (p + length os + length cs) w zs (bs ++ ys) refl z (table_first sort Assign q bs ys es b refl))
      (then_complete (parse_table_body sort) (λ r x. a_table sort x) q bs ys es (table_body_complete sort q bs es b ys)))))

  -- a name, and what stands behind it
  named_complete : (rest : ℕ → List Token → Res Form) (p : ℕ) (n : Token) (xs ys : List Token) (f : Form) → n.kind ≡ Ident → rest (suc (suc (suc p))) (xs ++ ys) ≡ got f (length xs)
      → named p rest (suc (suc p)) (n ∷ (xs ++ ys)) ≡ got (record { first = p; end = suc (suc (suc p)) + length xs; name = suc (suc p); token = n; form = f }) (suc (length xs))
  unfolding named look
  named_complete rest p n xs ys f e h =
      expect_run Ident (plain 1) (λ i. seq rest (λ x q ts. got (record { first = p; end = q; name = suc (suc p); token = i; form = x }) 0)) (suc (suc p)) n (xs ++ ys) e
      ∙ (ap with_one_more (then_complete rest (λ q x. record { first = p; end = q; name = suc (suc p); token = n; form = x }) (suc (suc (suc p))) xs ys f h))

  -- by its kind
  kind_complete : (p : ℕ) (k n : Token) (xs ys : List Token) (f : Form) → n.kind ≡ Ident → Rest m k.kind (suc (suc (suc p))) xs f
      → by_kind (kind_table m p) (plain 2) (suc p) (k ∷ n ∷ (xs ++ ys)) ≡ got (record { first = p; end = suc (suc (suc p)) + length xs; name = suc (suc p); token = n; form = f }) (suc (suc (length xs)))
  unfolding by_kind choose parse_function parse_event parse_constant parse_custom_error parse_macro parse_table look
  kind_complete p k n xs ys f e (of_function {type = ty} {xs = us} {ts = ts} {ys = zs} {inputs = ins} {outputs = outs} r g i t h o) =
      rw g (ap with_one_more (named_complete function_rest p n xs ys f e (function_complete (suc (suc (suc p))) ty us ts zs ins outs r i t h o ys)))
  kind_complete p k n xs ys f e (of_event {args = args} g h) = rw g (ap with_one_more (named_complete event_rest p n xs ys f e (event_complete (suc (suc (suc p))) xs args h ys)))
  kind_complete p k n xs ys f e (of_constant {vs = vs} {v = v} a g h i) = rw g (ap with_one_more (named_complete constant_rest p n xs ys f e (constant_complete (suc (suc (suc p))) a vs v h i ys)))
  kind_complete p k n xs ys f e (of_error {args = args} g h) = rw g (ap with_one_more (named_complete error_rest p n xs ys f e (error_complete (suc (suc (suc p))) xs args h ys)))
  kind_complete p k n xs ys f e (of_macro {takes = tk} {returns = rt} {sort = sort} {xs = us} {ts = ts} {rs = rs} {bs = bs} {args = args} {r = r} a (is_macro_kind g) i h t s b) =
      rw g (ap with_one_more (named_complete (macro_rest m sort) p n xs ys f e (macro_complete sort (suc (suc (suc p))) tk rt us ts rs bs args r a i h t s b ys)))
  kind_complete p k n xs ys f e (of_macro {takes = tk} {returns = rt} {sort = sort} {xs = us} {ts = ts} {rs = rs} {bs = bs} {args = args} {r = r} a (is_fn_kind g) i h t s b) =
      rw g (ap with_one_more (named_complete (macro_rest m sort) p n xs ys f e (macro_complete sort (suc (suc (suc p))) tk rt us ts rs bs args r a i h t s b ys)))
  kind_complete p k n xs ys f e (of_macro {takes = tk} {returns = rt} {sort = sort} {xs = us} {ts = ts} {rs = rs} {bs = bs} {args = args} {r = r} a (is_test_kind g) i h t s b) =
      rw g (ap with_one_more (named_complete (macro_rest m sort) p n xs ys f e (macro_complete sort (suc (suc (suc p))) tk rt us ts rs bs args r a i h t s b ys)))
  kind_complete p k n xs ys f e (of_table {u = u} {v = v} {w = w} {sort = sort} {os = os} {cs = cs} {zs = zs} {bs = bs} {es = es} (is_jump g) o c z b) =
      rw g (ap with_one_more (named_complete (table_rest sort) p n xs ys f e (table_complete sort (suc (suc (suc p))) u v w os cs zs bs es o c z b ys)))
  kind_complete p k n xs ys f e (of_table {u = u} {v = v} {w = w} {sort = sort} {os = os} {cs = cs} {zs = zs} {bs = bs} {es = es} (is_packed g) o c z b) =
      rw g (ap with_one_more (named_complete (table_rest sort) p n xs ys f e (table_complete sort (suc (suc (suc p))) u v w os cs zs bs es o c z b ys)))
  kind_complete p k n xs ys f e (of_table {u = u} {v = v} {w = w} {sort = sort} {os = os} {cs = cs} {zs = zs} {bs = bs} {es = es} (is_code g) o c z b) =
      rw g (ap with_one_more (named_complete (table_rest sort) p n xs ys f e (table_complete sort (suc (suc (suc p))) u v w os cs zs bs es o c z b ys)))

  define_complete : (p : ℕ) (d : Token) (ts : List Token) (r : Res Definition) → d.kind ≡ Define → by_kind (kind_table m p) (plain 2) (suc p) ts ≡ r → top_level m p (d ∷ ts) ≡ with_one_more r
  unfolding top_level by_kind parse_definition look choose
  define_complete p d ts r e h = rw e (ap with_one_more h)

  -- a definition before any tokens
  pub top_complete : (p : ℕ) (xs : List Token) (d : Definition) → Defined m p xs d → (ys : List Token) → top_level m p (xs ++ ys) ≡ got d (length xs)
  unfolding top_level by_kind parse_imports look choose
  top_complete p xs d (include i s e f) ys = rw e (rw f)
  top_complete p xs d (define {xs = us} {f = f} t k n e g r) ys =
      define_complete p t (k ∷ n ∷ (us ++ ys)) (got d (suc (suc (length us)))) e (kind_complete p k n us ys f g r)
