-- The records of a file that follows the grammar are tables as FileTables says: each word by the tokens at its places; and the ranges of a definition's
-- statements by the words alone.
use Prim.Native.Nat.{ℕ, zero, suc, ◌+◌, ◌-◌, ◌≤◌, ◌<◌}
use native.Mathlib.Nat.{add-zero, zero-add, add-suc, suc-add}
use native.Mathlib.Numerals.{add-one, add-four}
use native.Mathlib.Omega.{arith}
use mathlib.Core.Path.{◌≡◌, refl, sym, ◌∙◌, ap, subst}
use mathlib.Core.Logic.{◌≢◌}
use mathlib.Core.Bool.{Bool, true, false}
use mathlib.Core.List.{List, [], ◌∷◌, ◌++◌, map}
use lib.ListN.{length, take, drop, length-append, length-drop, take-append-drop}
use lib.Seq.{take_at, length-take-le}
use Rattle.tokens.specs.Number.{definition_width, statement_width, argument_width, label_type, import_definition, macro_definition, test_definition, jump_table_definition, code_table_definition, error_definition}
use Rattle.tokens.specs.Token.{Token, token_at, Positions}
use Rattle.tokens.specs.Kind.{Takes, Returns, Assign, OpenParen, CloseParen}
use Rattle.grammar.specs.Reading.{Argument, Entry, Reading, NONE}
use Rattle.grammar.specs.Rules.{Rules}
use Rattle.grammar.specs.Grammar.{Many, none, more, Separated, Closed, closed, NameArgument, Location, Body}
use Rattle.grammar.specs.Records.{argument_record, argument_records, argument_count, all_arguments}
use Rattle.grammar.specs.Follows.{Follows}
use Rattle.grammar.specs.FileReading.{Value, MacroSort, TableSort, TableEntry, Form, Definition, digit_total, size_of}
use Rattle.grammar.specs.FileGrammar.{Optional, absent, present, Lone, lone, IsIndexed, IsName, TypedArgument, typed, TypedEntry, typed_entry, TypedList, typed_list, Parens, parens, Counted, counting, FunctionType, ConstantValue, value_literal, value_pointer, MacroKind, is_macro_kind, is_fn_kind, is_test_kind, TableKind, is_jump, is_packed, is_code, OneEntry, one_entry, forget_entry, table_body, Sign, Rest, of_function, of_event, of_constant, of_error, of_macro, of_table, Defined, include, define, remember_name, Fresh, fresh}
use Rattle.grammar.specs.FileRecords.{macro_number, table_number, entry_type, entry_records, form_arguments, form_count, form_statements, value_words, behind_declared, definition_record, definition_records, file_statements, file_arguments, file_argument_records, file_statement_count}
use Rattle.grammar.specs.FileFollows.{FollowsFile}
use Rattle.grammar.specs.Tables.{record_of, NameWords, ParenTable, paren_table, end_word, inner_word, Flat, Walk, arrived, onward}
use Rattle.grammar.specs.FileTables.{Perhaps, nothing_there, one_there, TypedWords, typed_words, CountAt, no_count, count, SignAt, no_sign, sign, ValueAt, literal_value, pointer_value, MacroAt, macro_at, fn_at, test_at, EntryTable, no_entries, entry, TableAt, jump_table_at, packed_table_at, code_table_at, Head, Words, DefinitionAt, import_at, function_at, event_at, constant_defined_at, error_at, macro_defined_at, table_defined_at, definition_words, FileTable, no_definitions, defined, Braced, StatementsOf}
use Rattle.grammar.proofs.Standing.{Standing, standing_head, standing_tail, standing_front, standing_back}
use Rattle.grammar.proofs.FileRecorded.{form_many}
use Rattle.grammar.proofs.FileSound.{defined_range}
use Rattle.grammar.proofs.Demand.{body_some}
use Rattle.grammar.proofs.Tabled.{Stored, stands_head, stored_front, stored_back, in_parens, name_tabled, name_rises, list_rises, flat_rises, arguments_front, arguments_back, body_tabled, body_walked}

-- what holds of the first token holds of the one at its place
head_is : (kept : List Token) (p : ℕ) (t : Token) (xs : List Token) (K : Token → Type 0) → Standing kept p (t ∷ xs) → K t → K (token_at kept p)
head_is kept p t xs K h k = subst K (sym (standing_head kept p t xs h)) k

-- ---- arguments

perhaps : (kept : List Token) (K : Token → ℕ → Type 0) (d p : ℕ) (xs : List Token) (v : ℕ) → Optional d (Lone K) xs v → Standing kept p xs → Perhaps kept K d p (p + length xs) v
perhaps kept K d p xs v absent h = rw (add-zero p) nothing_there
perhaps kept K d p xs v (present (lone t k)) h = rw (add-one p) (one_there (head_is kept p t [] (λ x. K x v) h k))

typed_words_lem : (events : Bool) (kept : List Token) (p : ℕ) (xs : List Token) (b : Argument) → TypedArgument events p xs b → Standing kept p xs → TypedWords events kept p (p + length xs) (argument_record b)
typed_words_lem events kept p xs b (typed {ix = ix} {l = l} {n = n} {is = is} {ls = ls} {ns = ns} t k i j o) h =
    let behind = standing_tail kept p t (is ++ (ls ++ ns)) h in
    let later = standing_back kept (suc p) is (ls ++ ns) behind in
    let e : suc p + length is + length ls + length ns ≡ p + suc (length (is ++ (ls ++ ns))) = omega (arith, length-append is (ls ++ ns), length-append ls ns) in
    subst (λ q. TypedWords events kept p q (argument_record b)) e
    (typed_words (stands_head kept p t (is ++ (ls ++ ns)) h k)
    (perhaps kept (IsIndexed events) 0 (suc p) is ix i (standing_front kept (suc p) is (ls ++ ns) behind))
    (perhaps kept (λ x. Location x.kind) 0 (suc p + length is) ls l j (standing_front kept (suc p + length is) ls ns later))
    (perhaps kept (IsName (suc p + length is + length ls)) NONE (suc p + length is + length ls) ns n o (standing_back kept (suc p + length is) ls ns later)))

typed_separated : (events b : Bool) (p : ℕ) (xs : List Token) (e : Entry) → TypedEntry events b p xs e → Separated (TypedArgument events) p xs e
typed_separated events b p xs e (typed_entry h s) = s

typed_parens : (events : Bool) (kept : List Token) (table : List ℕ) (p : ℕ) (xs : List Token) (args : List Argument) → Parens (TypedList events) p xs args → Standing kept p xs
    → (a : ℕ) → Stored argument_width table a (map argument_record args)
    → ParenTable (TypedWords events kept) kept table a (length args) p (p + length xs)
typed_parens events kept table p xs args (parens o e (typed_list {xs = us} {es = es} c m k)) h a st =
    in_parens {U = λ b. TypedArgument events} kept table (typed_separated events) (λ s. typed_words_lem events kept) true p us es o c e m k h a st

name_parens : (kept : List Token) (table : List ℕ) (p : ℕ) (xs : List Token) (args : List Argument) → Parens (Closed NameArgument) p xs args → Standing kept p xs
    → (a : ℕ) → Stored argument_width table a (map argument_record args)
    → ParenTable (NameWords kept) kept table a (length args) p (p + length xs)
name_parens kept table p xs args (parens o e (closed {xs = us} {es = es} c m k)) h a st =
    in_parens {U = NameArgument} kept table (λ s q vs x w. w) (name_tabled kept) 0 p us es o c e m k h a st

-- ---- counts, signs, values, entries

count_at : (kept : List Token) (kind p : ℕ) (xs : List Token) (v : ℕ) → Optional 0 (Counted kind) xs v → Standing kept p xs → CountAt kept kind p (p + length xs) v
count_at kept kind p xs v absent h = rw (add-zero p) no_count
count_at kept kind p xs v (present (counting k o n c e f g i)) h =
    let ho = standing_tail kept p k (o ∷ n ∷ c ∷ []) h in
    let hn = standing_tail kept (suc p) o (n ∷ c ∷ []) ho in
    let hc = standing_tail kept (suc (suc p)) n (c ∷ []) hn in
    rw (add-four p) (subst (λ t. CountAt kept kind p (suc (suc (suc (suc p)))) t.extra) (standing_head kept (suc (suc p)) n (c ∷ []) hn)
    (count (stands_head kept p k (o ∷ n ∷ c ∷ []) h e) (stands_head kept (suc p) o (n ∷ c ∷ []) ho f) (stands_head kept (suc (suc p)) n (c ∷ []) hn g) (stands_head kept (suc (suc (suc p))) c [] hc i)))

sign_at : (kept : List Token) (kind p : ℕ) (xs : List Token) (u : Unit {0}) → Optional tt (Sign kind) xs u → Standing kept p xs → SignAt kept kind p (p + length xs)
sign_at kept kind p xs u absent h = rw (add-zero p) no_sign
sign_at kept kind p xs u (present (lone t e)) h = rw (add-one p) (sign (stands_head kept p t [] h e))

entries_tabled : (kept : List Token) (statements : List ℕ) (sort : TableSort) (a : ℕ) (s : Unit {0}) (p : ℕ) (xs : List Token) (es : List TableEntry) → Many forget_entry (λ s. OneEntry sort) s p xs es → Standing kept p xs
    → (i : ℕ) → Stored statement_width statements i (entry_records sort i a es)
    → EntryTable kept statements (entry_type sort) a i (length es) p (p + length xs) (digit_total es)
unfolding entry_records digit_total
entries_tabled kept statements sort a s p xs es none h i st = rw (add-zero p) no_entries
entries_tabled kept statements sort a s p xs es (more {ys = vs} {rs = rs} (one_entry t k w) m) h i st =
    rw (add-suc p (length vs), ← suc-add p (length vs), ← standing_head kept p t vs h)
    (entry (stands_head kept p t vs h k) st.0
    (rw (add-one p) at (entries_tabled kept statements sort a tt (p + 1) vs rs m (standing_back kept p (t ∷ []) vs h) (suc i) st.1)))

value_at : (kept : List Token) (q : ℕ) (t : Token) (v : Value) → ConstantValue q t v → Standing kept q (t ∷ []) → (value : ℕ) × ValueAt kept q value × (value_words v ≡ value ∷ q ∷ [])
value_at kept q t v (value_literal e) h = (1, literal_value (stands_head kept q t [] h e), refl)
value_at kept q t v (value_pointer e) h = (2, pointer_value (stands_head kept q t [] h e), refl)

macro_at_lem : (kind : ℕ) (sort : MacroSort) → MacroKind kind sort → MacroAt kind (macro_number sort)
macro_at_lem kind sort (is_macro_kind e) = macro_at e
macro_at_lem kind sort (is_fn_kind e) = fn_at e
macro_at_lem kind sort (is_test_kind e) = test_at e

table_at : (kind : ℕ) (sort : TableSort) (es : List TableEntry) → TableKind kind sort → TableAt kind (length es) (digit_total es) (table_number sort) (entry_type sort) (size_of sort es)
unfolding size_of
table_at kind sort es (is_jump e) = jump_table_at e
table_at kind sort es (is_packed e) = packed_table_at e
table_at kind sort es (is_code e) = code_table_at e

-- ---- definitions

-- the arguments of two lists one behind the other
apart : (table : List ℕ) (a : ℕ) (xs ys : List Argument) → Stored argument_width table a (map argument_record (xs ++ ys))
    → Stored argument_width table a (map argument_record xs) × Stored argument_width table (a + length xs) (map argument_record ys)
apart table a xs ys st = (arguments_front table a xs ys st, arguments_back table a xs ys st)

definition_moved : {kept : List Token} {statements table : List ℕ} {i n a m m' p e e' : ℕ} {w : Words} → m ≡ m' → e ≡ e' → DefinitionAt kept statements table i n a m p e w → DefinitionAt kept statements table i n a m' p e' w
definition_moved f g h = rw g at (rw f at h)

-- a body that stands in the list
follows : (m : Rules) (kept : List Token) (p : ℕ) (bs : List Token) (r : Reading) → Body m p bs r → Standing kept p bs → Follows m kept p (length bs) r
follows m kept p bs r b h = (
  omega (arith, length-drop p kept, ap length h.1, length-append bs h.0, body_some m p bs r b),
  rw (h.1, take_at bs h.0 (length bs) refl) b,
)

-- a definition from place p on whose arguments and statements the tables hold, and its record
abbrev Recorded : List Token → Positions → List ℕ → List ℕ → ℕ → ℕ → ℕ → Definition → Type 0
Recorded kept pos statements table i a p d =
    (w : Words)
    × DefinitionAt kept statements table i (form_count d.form) a (length (form_arguments d.form)) p d.end w
    × (definition_record pos i a d ≡ definition_words pos i (form_count d.form) a p d.end w)

rest_tabled : (m : Rules) (kept : List Token) (pos : Positions) (statements table : List ℕ) (i a kind p : ℕ) (t : Token) (xs : List Token) (f : Form) → Head kept p kind → Rest m kind (suc (suc (suc p))) xs f → Standing kept (suc (suc (suc p))) xs
    → Stored statement_width statements i (form_statements i (behind_declared a f) f)
    → Stored argument_width table a (map argument_record (form_arguments f))
    → Recorded kept pos statements table i a p (record { first = p; end = suc (suc (suc p)) + length xs; name = suc (suc p); token = t; form = f })
unfolding form_statements form_arguments form_count definition_record argument_records argument_count
rest_tabled m kept pos statements table i a kind p t xs f head (of_function {xs = us} {ys = vs} {inputs = inputs} {outputs = outputs} r e ins (lone {a = type} y k) g outs) h hs ha =
    let place : ℕ = suc (suc (suc p)) in
    let q : ℕ = place + length us in
    let hy = standing_back kept place us (y ∷ r ∷ vs) h in
    let hr = standing_tail kept q y (r ∷ vs) hy in
    let two = apart table a inputs (outputs ++ []) ha in (
      _,
      definition_moved (omega (arith, length-append inputs (outputs ++ []), length-append outputs [])) (omega (arith, length-append us (y ∷ r ∷ vs)))
          (function_at (subst (Head kept p) e head)
          (typed_parens false kept table place us inputs ins (standing_front kept place us (y ∷ r ∷ vs) h) a two.0)
          (head_is kept q y (r ∷ vs) (λ x. FunctionType x.kind type) hy k)
          (stands_head kept (suc q) r vs hr g)
          (typed_parens false kept table (suc (suc q)) vs outputs (rw (add-one q) at outs) (standing_tail kept (suc q) r vs hr) (a + length inputs) (apart table (a + length inputs) outputs [] two.1).0)),
      refl,
    )
rest_tabled m kept pos statements table i a kind p t xs f head (of_event {args = args} e ins) h hs ha = (
  _,
  definition_moved (omega (arith, length-append args [])) refl
      (event_at (subst (Head kept p) e head) (typed_parens true kept table (suc (suc (suc p))) xs args ins h a (apart table a args [] ha).0)),
  refl,
)
rest_tabled m kept pos statements table i a kind p t xs f head (of_constant {v = v} z e g (lone y k)) h hs ha =
    let place : ℕ = suc (suc (suc p)) in
    let c = value_at kept (suc place) y v k (standing_tail kept place z (y ∷ []) h) in (
      _,
      definition_moved refl (omega arith) (constant_defined_at (subst (Head kept p) e head) (stands_head kept place z (y ∷ []) h g) c.1),
      rw c.2,
    )
rest_tabled m kept pos statements table i a kind p t xs f head (of_error {args = args} e ins) h hs ha = (
  _,
  definition_moved (omega (arith, length-append args [])) refl
      (error_at (subst (Head kept p) e head) (typed_parens false kept table (suc (suc (suc p))) xs args ins h a (apart table a args [] ha).0)),
  refl,
)
rest_tabled m kept pos statements table i a kind p t xs f head (of_macro {takes = takes} {returns = returns} {sort = sort} {xs = us} {ts = ts} {rs = rs} {bs = bs} {args = args} {r = r} z k ins e tk rt b) h hs ha =
    let place : ℕ = suc (suc (suc p)) in
    let q : ℕ = place + length us in
    let s : ℕ = suc q + length ts in
    let hz = standing_back kept place us (z ∷ (ts ++ (rs ++ bs))) h in
    let ht = standing_tail kept q z (ts ++ (rs ++ bs)) hz in
    let hr = standing_back kept (suc q) ts (rs ++ bs) ht in
    let hb = standing_back kept s rs bs hr in
    let two = apart table a args (all_arguments r) ha in (
      _,
      definition_moved (sym (length-append args (all_arguments r))) (omega (arith, length-append us (z ∷ (ts ++ (rs ++ bs))), length-append ts (rs ++ bs), length-append rs bs))
          (macro_defined_at head (macro_at_lem kind sort k)
          (name_parens kept table place us args ins (standing_front kept place us (z ∷ (ts ++ (rs ++ bs))) h) a two.0)
          (stands_head kept q z (ts ++ (rs ++ bs)) hz e)
          (count_at kept Takes (suc q) ts takes tk (standing_front kept (suc q) ts (rs ++ bs) ht))
          (count_at kept Returns s rs returns rt (standing_front kept s rs bs hr))
          (body_tabled m kept (s + length rs) (length bs) r (follows m kept (s + length rs) bs r b hb) statements table i (a + length args) (rw (add-zero (a + length args)) at hs) two.1)),
      refl,
    )
rest_tabled m kept pos statements table i a kind p t xs f head (of_table {u = u} {v = v} {w = w} {sort = sort} {os = os} {cs = cs} {zs = zs} {es = es} k o c z (table_body {xs = us} x y e n g)) h hs ha =
    let place : ℕ = suc (suc (suc p)) in
    let bs : List Token = x ∷ (us ++ (y ∷ [])) in
    let q : ℕ = place + length os in
    let r : ℕ = q + length cs in
    let s : ℕ = r + length zs in
    let hc = standing_back kept place os (cs ++ (zs ++ bs)) h in
    let hz = standing_back kept q cs (zs ++ bs) hc in
    let hb = standing_back kept r zs bs hz in
    let he = standing_tail kept s x (us ++ (y ∷ [])) hb in (
      _,
      definition_moved refl (omega (arith, length-append os (cs ++ (zs ++ bs)), length-append cs (zs ++ bs), length-append zs bs, length-append us (y ∷ [])))
          (table_defined_at head (table_at kind sort es k)
          (sign_at kept OpenParen place os u o (standing_front kept place os (cs ++ (zs ++ bs)) h))
          (sign_at kept CloseParen q cs v c (standing_front kept q cs (zs ++ bs) hc))
          (sign_at kept Assign r zs w z (standing_front kept r zs bs hz))
          (stands_head kept s x (us ++ (y ∷ [])) hb e)
          (entries_tabled kept statements sort a tt (suc s) us es n (standing_front kept (suc s) us (y ∷ []) he) i (simp add-zero at hs))
          (stands_head kept (suc s + length us) y [] (standing_back kept (suc s) us (y ∷ []) he) g)),
      refl,
    )

definition_tabled : (m : Rules) (kept : List Token) (pos : Positions) (statements table : List ℕ) (i a p : ℕ) (xs : List Token) (d : Definition) → Defined m p xs d → Standing kept p xs
    → Stored statement_width statements i (form_statements i (behind_declared a d.form) d.form)
    → Stored argument_width table a (map argument_record (form_arguments d.form))
    → Recorded kept pos statements table i a p d
unfolding form_arguments form_count definition_record
definition_tabled m kept pos statements table i a p xs d (include t s e f) h hs ha =
    (_, import_at (stands_head kept p t (s ∷ []) h e) (stands_head kept (suc p) s [] (standing_tail kept p t (s ∷ []) h) f), refl)
definition_tabled m kept pos statements table i a p xs d (define {xs = us} {f = f} t k n e g r) h hs ha =
    let hk = standing_tail kept p t (k ∷ n ∷ us) h in
    let hn = standing_tail kept (suc p) k (n ∷ us) hk in
    rest_tabled m kept pos statements table i a k.kind p n us f (record { defines = stands_head kept p t (k ∷ n ∷ us) h e; keyword = stands_head kept (suc p) k (n ∷ us) hk refl; named = stands_head kept (suc (suc p)) n us hn g })
    r (standing_tail kept (suc (suc p)) n us hn) hs ha

-- ---- files

file_moved : {kept : List Token} {pos : Positions} {definitions statements table : List ℕ} {d k i n a m p p' q q' : ℕ} → p ≡ p' → q ≡ q' → FileTable kept pos definitions statements table d k i n a m p q → FileTable kept pos definitions statements table d k i n a m p' q'
file_moved f g h = rw g at (rw f at h)

several_tabled : (m : Rules) (names : Bool) (kept : List Token) (pos : Positions) (definitions statements table : List ℕ) (seen : List (List ℕ)) (p : ℕ) (xs : List Token) (ds : List Definition) → Many remember_name (Fresh m names) seen p xs ds → Standing kept p xs
    → (d i a : ℕ)
    → Stored definition_width definitions d (definition_records pos i a ds)
    → Stored statement_width statements i (file_statements i a ds)
    → Stored argument_width table a (map argument_record (file_arguments ds))
    → FileTable kept pos definitions statements table d (length ds) i (file_statement_count ds) a (length (file_arguments ds)) p (p + length xs)
unfolding definition_records file_statements file_arguments file_statement_count
several_tabled m names kept pos definitions statements table seen p xs ds none h d i a hd hs ha = rw (add-zero p) no_definitions
several_tabled m names kept pos definitions statements table seen p xs ds (more {xs = us} {ys = vs} {a = c} {rs = es} (fresh x f) rest) h d i a hd hs ha =
    let mine : List (List ℕ) = form_statements i (behind_declared a c.form) c.form in
    let n : ℕ = form_count c.form in
    let l : ℕ = length (form_arguments c.form) in
    let two = apart table a (form_arguments c.form) (file_arguments es) ha in
    let this = definition_tabled m kept pos statements table i a p us c x (standing_front kept p us vs h) (stored_front statement_width statements i mine (file_statements (i + n) (a + l) es) hs) two.0 in
    let later = rw (form_many i (behind_declared a c.form) c.form) at (stored_back statement_width statements i mine (file_statements (i + n) (a + l) es) hs) in
    rw (length-append (form_arguments c.form) (file_arguments es))
    (defined {q = p + length (us ++ vs)} this.0 this.1 (hd.0 ∙ this.2)
    (file_moved (sym (defined_range m p us c x).1) (omega (arith, length-append us vs))
    (several_tabled m names kept pos definitions statements table (remember_name seen c) (p + length us) vs es rest (standing_back kept p us vs h) (suc d) (i + n) (a + l) hd.1 later two.1)))

-- a file whose records the three tables hold
pub file_tabled : (m : Rules) (names : Bool) (kept : List Token) (pos : Positions) (n : ℕ) (ds : List Definition) → FollowsFile m names kept n ds
    → (definitions statements table : List ℕ)
    → Stored definition_width definitions 0 (definition_records pos 0 0 ds)
    → Stored statement_width statements 0 (file_statements 0 0 ds)
    → Stored argument_width table 0 (file_argument_records ds)
    → FileTable kept pos definitions statements table 0 (length ds) 0 (file_statement_count ds) 0 (length (file_arguments ds)) 0 n
unfolding file_argument_records
file_tabled m names kept pos n ds h definitions statements table hd hs ha =
    file_moved refl (omega (arith, length-take-le n kept (omega (arith, h.0))))
    (several_tabled m names kept pos definitions statements table [] 0 (take n kept) ds h.2 (drop n kept, sym (take-append-drop n kept)) 0 0 0 hd hs ha)

-- ---- the ranges by the words alone

entries_flat : (kept : List Token) (statements : List ℕ) (type a i n p q digits : ℕ) → type ≢ label_type → EntryTable kept statements type a i n p q digits → Flat statements i n p q
entries_flat kept statements type a i n p q digits other no_entries = refl
entries_flat kept statements type a i n p q digits other (entry {n = k} {digits = l} s e rest) = rw e (other, refl, refl, omega arith, entries_flat kept statements type a (suc i) k (suc p) q l other rest)

macro_numbers : (kind number : ℕ) → MacroAt kind number → (macro_definition ≤ number) × (number ≤ test_definition)
macro_numbers kind number (macro_at e) = omega arith
macro_numbers kind number (fn_at e) = omega arith
macro_numbers kind number (test_at e) = omega arith

table_numbers : (kind n digits number type size : ℕ) → TableAt kind n digits number type size → (jump_table_definition ≤ number) × (number ≤ code_table_definition) × (type ≢ label_type)
table_numbers kind n digits number type size (jump_table_at e) = omega arith
table_numbers kind n digits number type size (packed_table_at e) = omega arith
table_numbers kind n digits number type size (code_table_at e) = omega arith

-- nothing goes backwards
parens_rise : (One : ℕ → ℕ → List ℕ → Type 0) → ((p q : ℕ) (w : List ℕ) → One p q w → p ≤ q) → (kept : List Token) (table : List ℕ) (a m p q : ℕ) → ParenTable One kept table a m p q → p ≤ q
parens_rise One one kept table a m p q (paren_table {q = e} o l c) = omega (arith, list_rises One one kept table a m (suc p) e l)

count_rises : (kept : List Token) (kind p q v : ℕ) → CountAt kept kind p q v → p ≤ q
count_rises kept kind p q v no_count = omega arith
count_rises kept kind p q v (count x y z w) = omega arith

sign_rises : (kept : List Token) (kind p q : ℕ) → SignAt kept kind p q → p ≤ q
sign_rises kept kind p q no_sign = omega arith
sign_rises kept kind p q (sign x) = omega arith

perhaps_rises : (kept : List Token) (K : Token → ℕ → Type 0) (d p q v : ℕ) → Perhaps kept K d p q v → p ≤ q
perhaps_rises kept K d p q v nothing_there = omega arith
perhaps_rises kept K d p q v (one_there k) = omega arith

typed_rises : (events : Bool) (kept : List Token) (p q : ℕ) (w : List ℕ) → TypedWords events kept p q w → p ≤ q
typed_rises events kept p q w (typed_words {r = r} {s = s} {indexed = x} {location = l} {name = n} t i j o) =
    omega (arith, perhaps_rises kept (IsIndexed events) 0 (suc p) r x i, perhaps_rises kept (λ t. Location t.kind) 0 r s l j, perhaps_rises kept (IsName s) NONE s q n o)

typed_parens_rise : (events : Bool) (kept : List Token) (table : List ℕ) (a m p q : ℕ) → ParenTable (TypedWords events kept) kept table a m p q → p ≤ q
typed_parens_rise events kept = parens_rise (TypedWords events kept) (typed_rises events kept) kept

walk_rises : (statements : List ℕ) (i p j q : ℕ) → Walk statements i p j q → p ≤ q
walk_rises statements i p j q arrived = omega arith
walk_rises statements i p j q (onward e l h rest) = omega (arith, l, walk_rises statements (suc i + inner_word statements i) (end_word statements i) j q rest)

-- a definition has a token
pub definition_rises : (kept : List Token) (statements table : List ℕ) (i n a m p e : ℕ) (w : Words) → DefinitionAt kept statements table i n a m p e w → p < e
definition_rises kept statements table i n a m p e w (import_at x y) = omega arith
definition_rises kept statements table i n a m p e w (function_at {m = l} {k = k} {q = q} x y z u v) =
    omega (arith, typed_parens_rise false kept table a l (suc (suc (suc p))) q y, typed_parens_rise false kept table (a + l) k (suc (suc q)) e v)
definition_rises kept statements table i n a m p e w (event_at x y) = omega (arith, typed_parens_rise true kept table a m (suc (suc (suc p))) e y)
definition_rises kept statements table i n a m p e w (constant_defined_at x y z) = omega arith
definition_rises kept statements table i n a m p e w (error_at x y) = omega (arith, typed_parens_rise false kept table a m (suc (suc (suc p))) e y)
definition_rises kept statements table i n a m p e w (macro_defined_at {m = l} {h = h} {q = q} {r = r} {s = s} {takes = takes} {returns = returns} x k y z t u b) =
    omega (
      arith,
      parens_rise (NameWords kept) (name_rises kept) kept table a l (suc (suc (suc p))) q y,
      count_rises kept Takes (suc q) r takes t,
      count_rises kept Returns r s returns u,
      walk_rises statements i (suc s) (i + n) (e - 1) (body_walked kept statements table i n (a + l) h s e b).2,
    )
definition_rises kept statements table i n a m p e w (table_defined_at {q = q} {r = r} {s = s} {e = d} {kind = kind} {number = number} {type = type} {size = size} {digits = digits} x k y z t o b c) =
    omega (
      arith,
      sign_rises kept OpenParen (suc (suc (suc p))) q y,
      sign_rises kept CloseParen q r z,
      sign_rises kept Assign r s t,
      flat_rises statements i n (suc s) d (entries_flat kept statements type a i n (suc s) d digits (table_numbers kind n digits number type size k).2 b),
    )

-- a file doesn't go backwards either
pub file_rises : (kept : List Token) (pos : Positions) (definitions statements table : List ℕ) (d k i n a m p q : ℕ) → FileTable kept pos definitions statements table d k i n a m p q → p ≤ q
file_rises kept pos definitions statements table d k i n a m p q no_definitions = omega arith
file_rises kept pos definitions statements table d k i n a m p q (defined {k = o} {n = c} {l = t} {m = l} {h = g} {e = e} w x r rest) =
    omega (arith, definition_rises kept statements table i c a l p e w x, file_rises kept pos definitions statements table (suc d) o (i + c) t (a + l) g e q rest)

-- what StatementsOf says, of the record's words
record Said (kept : List Token) (statements : List ℕ) (i n p e kind : ℕ) : Type 0 where
  least : import_definition ≤ kind
  most : kind ≤ code_table_definition
  of_macro : macro_definition ≤ kind → kind ≤ test_definition → Braced kept p e (λ x y. Walk statements i x (i + n) y)
  of_table : jump_table_definition ≤ kind → Braced kept p e (λ x y. Flat statements i n x y)
  of_other : kind ≤ error_definition → n ≡ 0

without : (kept : List Token) (statements : List ℕ) (i p e kind : ℕ) → import_definition ≤ kind → kind ≤ error_definition → Said kept statements i 0 p e kind
without kept statements i p e kind l h =
    record { least = l; most = omega arith; of_macro = λ x y. absurd (omega arith); of_table = λ x. absurd (omega arith); of_other = λ x. refl }

definition_said : (kept : List Token) (statements table : List ℕ) (i n a m p e : ℕ) (w : Words) → DefinitionAt kept statements table i n a m p e w → Said kept statements i n p e w.kind
definition_said kept statements table i n a m p e w (import_at x y) = without kept statements i p e w.kind (omega arith) (omega arith)
definition_said kept statements table i n a m p e w (function_at x y z u v) = without kept statements i p e w.kind (omega arith) (omega arith)
definition_said kept statements table i n a m p e w (event_at x y) = without kept statements i p e w.kind (omega arith) (omega arith)
definition_said kept statements table i n a m p e w (constant_defined_at x y z) = without kept statements i p e w.kind (omega arith) (omega arith)
definition_said kept statements table i n a m p e w (error_at x y) = without kept statements i p e w.kind (omega arith) (omega arith)
definition_said kept statements table i n a m p e w (macro_defined_at {m = l} {h = h} {q = q} {r = r} {s = s} {kind = kind} {number = number} {takes = takes} {returns = returns} x k y z t u b) =
    let o = body_walked kept statements table i n (a + l) h s e b in
    let c = macro_numbers kind number k in
    let up : p < s = omega (arith, parens_rise (NameWords kept) (name_rises kept) kept table a l (suc (suc (suc p))) q y, count_rises kept Takes (suc q) r takes t, count_rises kept Returns r s returns u) in
    record {
      least = omega arith;
      most = omega arith;
      of_macro = λ f g. record { b = s; behind = up; opens = o.0; closes = o.1; between = o.2 };
      of_table = λ f. absurd (omega arith);
      of_other = λ f. absurd (omega arith);
    }
definition_said kept statements table i n a m p e w (table_defined_at {q = q} {r = r} {s = s} {e = d} {kind = kind} {number = number} {type = type} {size = size} {digits = digits} x k y z t o b c) =
    let numbers = table_numbers kind n digits number type size k in
    let l : suc d - 1 ≡ d = omega arith in
    let up : p < s = omega (arith, sign_rises kept OpenParen (suc (suc (suc p))) q y, sign_rises kept CloseParen q r z, sign_rises kept Assign r s t) in
    record {
      least = omega arith;
      most = omega arith;
      of_macro = λ f g. absurd (omega arith);
      of_table = λ f. record { b = s; behind = up; opens = o; closes = rw l c; between = rw l (entries_flat kept statements type a i n (suc s) d digits numbers.2 b) };
      of_other = λ f. absurd (omega arith);
    }

definition_walked : (kept : List Token) (pos : Positions) (definitions statements table : List ℕ) (d i n a m p e : ℕ) (w : Words) → DefinitionAt kept statements table i n a m p e w → record_of definition_width definitions d ≡ definition_words pos i n a p e w
    → StatementsOf kept definitions statements d
definition_walked kept pos definitions statements table d i n a m p e w h r =
    let said = definition_said kept statements table i n a m p e w h in
    record { least = rw r said.least; most = rw r said.most; of_macro = rw r said.of_macro; of_table = rw r said.of_table; of_other = rw r said.of_other }

walked : (kept : List Token) (pos : Positions) (definitions statements table : List ℕ) (d k i n a m p q : ℕ) → FileTable kept pos definitions statements table d k i n a m p q
    → (j : ℕ) → j < k → StatementsOf kept definitions statements (d + j)
walked kept pos definitions statements table d k i n a m p q no_definitions j below = absurd (omega arith)
walked kept pos definitions statements table d k i n a m p q (defined {n = c} {m = l} {e = e} w x r rest) zero below =
    rw (add-zero d) (definition_walked kept pos definitions statements table d i c a l p e w x r)
walked kept pos definitions statements table d k i n a m p q (defined {k = o} {n = c} {l = t} {m = l} {h = g} {e = e} w x r rest) (suc j) below =
    rw (add-suc d j, ← suc-add d j) (walked kept pos definitions statements table (suc d) o (i + c) t (a + l) g e q rest j (omega arith))

-- the statements of each definition, by the words alone but for the braces
pub file_walked : (kept : List Token) (pos : Positions) (definitions statements table : List ℕ) (k n m q : ℕ) → FileTable kept pos definitions statements table 0 k 0 n 0 m 0 q
    → (d : ℕ) → d < k → StatementsOf kept definitions statements d
file_walked kept pos definitions statements table k n m q h d below =
    rw (zero-add d) at (walked kept pos definitions statements table 0 k 0 n 0 m 0 q h d below)
