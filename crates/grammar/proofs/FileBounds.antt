-- A file never has more definitions, statements or arguments than tokens before its Eof: so that every count and every number of a record is at most the
-- number of tokens.
use Prim.Native.Nat.{ℕ, suc, ◌+◌, ◌≤◌, ◌<◌, zero-le}
use native.Mathlib.Omega.{arith}
use mathlib.Core.Path.{◌≡◌, refl}
use mathlib.Core.Bool.{Bool, true, false}
use mathlib.Core.List.{List, [], ◌∷◌, ◌++◌, flatten}
use lib.ListN.{length, take, drop, length-append, length-drop, length-map}
use lib.Seq.{length-take-le}
use Rattle.tokens.specs.Token.{Token}
use Rattle.grammar.specs.Reading.{Argument, Entry, Simple, Group, Reading}
use Rattle.grammar.specs.Rules.{Rules}
use Rattle.grammar.specs.Grammar.{Many, none, more, Separated, alone, comma, Closed, closed, CallArgument, NameArgument, BuiltinArgument, Item, literal, opcode, push, label_call, invocation, constant, argument_call, builtin, forget, LabelGroup, group, remember, Body, body, counts}
use Rattle.grammar.specs.Records.{arguments_of, group_arguments, all_arguments, group_count, statement_count, argument_count}
use Rattle.grammar.specs.Follows.{Follows}
use Rattle.grammar.specs.FileReading.{TableSort, TableEntry, Form, Definition}
use Rattle.grammar.specs.FileGrammar.{TypedArgument, TypedEntry, typed_entry, type_may, TypedList, typed_list, Parens, parens, OneEntry, one_entry, forget_entry, TableBody, table_body, Rest, of_function, of_event, of_constant, of_error, of_macro, of_table, Defined, include, define, remember_name, Fresh, fresh}
use Rattle.grammar.specs.FileRecords.{form_arguments, form_count, file_arguments, file_statement_count}
use Rattle.grammar.specs.FileFollows.{FollowsFile}
use Rattle.grammar.proofs.Sound.{call_some, name_some, builtin_some}
use Rattle.grammar.proofs.FileTyped.{typed_some}
use Rattle.grammar.proofs.FileSound.{defined_some}

-- the sum of a measure over a list
total : {A : Type 0} → (A → ℕ) → List A → ℕ
total f [] = 0
total f (a ∷ rs) = f a + total f rs

-- units that measure no more than their tokens
many_total : {σ A : Type 0} (after : σ → A → σ) (U : σ → ℕ → List Token → A → Type 0) (f : A → ℕ) → ((s : σ) (p : ℕ) (xs : List Token) (a : A) → U s p xs a → f a ≤ length xs)
    → (s : σ) (p : ℕ) (xs : List Token) (rs : List A) → Many after U s p xs rs
    → total f rs ≤ length xs
unfolding total
many_total after U f h s p xs rs none = zero-le
many_total after U f h s p xs rs (more {xs = us} {ys = vs} {a = a} {rs = qs} u m) =
    omega (arith, h s p us a u, many_total after U f h (after s a) (p + length us) vs qs m, length-append us vs)

total_one : {A : Type 0} (rs : List A) → total (λ a. 1) rs ≡ length rs
unfolding total
total_one [] = refl
total_one (a ∷ rs) = omega (arith, total_one rs)

-- lists of arguments
entry_long : (U : ℕ → List Token → Argument → Type 0) → ((p : ℕ) (xs : List Token) (a : Argument) → U p xs a → 0 < length xs) → (p : ℕ) (xs : List Token) (e : Entry) → Separated U p xs e → 1 ≤ length xs
entry_long U some p xs e (alone {a = a} u) = some p xs a u
entry_long U some p xs e (comma {xs = us} {a = a} c u k) = omega (arith, some p us a u, length-append us (c ∷ []))

closed_long : (W : ℕ → ℕ → List Token → Argument → Type 0) → ((n p : ℕ) (xs : List Token) (a : Argument) → W n p xs a → 0 < length xs) → (p : ℕ) (xs : List Token) (args : List Argument) → Closed W p xs args → length args ≤ length xs
closed_long W some p xs args (closed {xs = us} {es = es} c m k) =
    omega (
      arith,
      many_total counts (λ n. Separated (W n)) (λ e. 1) (λ n. entry_long (W n) (some n)) 0 p us es m,
      total_one es,
      length-map es (λ e. e.argument),
      length-append us (c ∷ []),
    )

typed_entry_long : (events b : Bool) (p : ℕ) (xs : List Token) (e : Entry) → TypedEntry events b p xs e → 1 ≤ length xs
typed_entry_long events b p xs e (typed_entry h s) = entry_long (TypedArgument events) (typed_some events) p xs e s

typed_list_long : (events : Bool) (p : ℕ) (xs : List Token) (args : List Argument) → TypedList events p xs args → length args ≤ length xs
typed_list_long events p xs args (typed_list {xs = us} {es = es} c m k) =
    omega (
      arith,
      many_total type_may (TypedEntry events) (λ e. 1) (typed_entry_long events) true p us es m,
      total_one es,
      length-map es (λ e. e.argument),
      length-append us (c ∷ []),
    )

parens_long : (U : ℕ → List Token → List Argument → Type 0) → ((p : ℕ) (xs : List Token) (args : List Argument) → U p xs args → length args ≤ length xs) → (p : ℕ) (xs : List Token) (args : List Argument) → Parens U p xs args → length args ≤ length xs
parens_long U h p xs args (parens {xs = us} o e u) = omega (arith, h (suc p) us args u)

-- statements
arguments_append : (ss ts : List Simple) → length (arguments_of (ss ++ ts)) ≡ length (arguments_of ss) + length (arguments_of ts)
unfolding arguments_of
arguments_append [] ts = omega arith
arguments_append (s ∷ ss) ts = omega (arith, arguments_append ss ts, length-append s.args (arguments_of (ss ++ ts)), length-append s.args (arguments_of ss))

item_long : (takes : Bool) (p : ℕ) (xs : List Token) (ss : List Simple) → Item takes p xs ss → (length ss ≤ length xs) × (length (arguments_of ss) ≤ length xs)
unfolding arguments_of
item_long takes p xs ss (literal t e) = (omega arith, omega arith)
item_long takes p xs ss (opcode t e w) = (omega arith, omega arith)
item_long takes p xs ss (push t v e w k f) = (omega arith, omega arith)
item_long takes p xs ss (label_call t e) = (omega arith, omega arith)
item_long takes p xs ss (invocation {xs = us} {args = args} t o e f c) = (
  omega arith,
  omega (arith, closed_long CallArgument call_some (suc (suc p)) us args c, length-append args []),
)
item_long takes p xs ss (constant l t r e f g) = (omega arith, omega arith)
item_long takes p xs ss (argument_call l t r e f g) = (omega arith, omega arith)
item_long takes p xs ss (builtin {xs = us} {args = args} t o e f c) = (
  omega arith,
  omega (arith, closed_long BuiltinArgument builtin_some (suc (suc p)) us args c, length-append args []),
)

flat_length : (is : List (List Simple)) → length (flatten is) ≡ total length is
unfolding total flatten
flat_length [] = refl
flat_length (ss ∷ is) = omega (arith, length-append ss (flatten is), flat_length is)

flat_arguments : (is : List (List Simple)) → length (arguments_of (flatten is)) ≡ total (λ ss. length (arguments_of ss)) is
unfolding total flatten arguments_of
flat_arguments [] = refl
flat_arguments (ss ∷ is) = omega (arith, arguments_append ss (flatten is), flat_arguments is)

items_long : (takes : Bool) (p : ℕ) (xs : List Token) (is : List (List Simple)) → Many forget (λ s. Item takes) tt p xs is
    → (length (flatten is) ≤ length xs) × (length (arguments_of (flatten is)) ≤ length xs)
items_long takes p xs is m = (
  omega (arith, flat_length is, many_total forget (λ s. Item takes) length (λ s q us a u. (item_long takes q us a u).0) tt p xs is m),
  omega (arith, flat_arguments is, many_total forget (λ s. Item takes) (λ ss. length (arguments_of ss)) (λ s q us a u. (item_long takes q us a u).1) tt p xs is m),
)

group_long : (m : Rules) (seen : List (List ℕ)) (p : ℕ) (xs : List Token) (g : Group) → LabelGroup m seen p xs g → (suc (length g.inner) ≤ length xs) × (length (arguments_of g.inner) ≤ length xs)
group_long m seen p xs g (group {xs = us} {is = is} t c e w f k) =
    let i = items_long m.push_in_labels (suc (suc p)) us is k in
    (omega (arith, i.0), omega (arith, i.1))

groups_counted : (gs : List Group) → group_count gs ≡ total (λ g. suc (length g.inner)) gs
unfolding total group_count
groups_counted [] = refl
groups_counted (g ∷ gs) = omega (arith, groups_counted gs)

groups_arguments_lem : (gs : List Group) → length (group_arguments gs) ≡ total (λ g. length (arguments_of g.inner)) gs
unfolding total group_arguments
groups_arguments_lem [] = refl
groups_arguments_lem (g ∷ gs) = omega (arith, length-append (arguments_of g.inner) (group_arguments gs), groups_arguments_lem gs)

-- a body has no more statements and no more arguments than tokens
pub body_long : (m : Rules) (p : ℕ) (xs : List Token) (r : Reading) → Body m p xs r → (statement_count r ≤ length xs) × (length (all_arguments r) ≤ length xs)
unfolding statement_count all_arguments
body_long m p xs r (body {xs = us} {ys = vs} {is = is} {gs = gs} o c e k g f) =
    let i = items_long true (suc p) us is k in
    let n : group_count gs ≤ length vs = omega (arith, groups_counted gs, many_total remember (LabelGroup m) (λ x. suc (length x.inner)) (λ s q ws a u. (group_long m s q ws a u).0) [] (suc p + length us) vs gs g) in
    let a : length (group_arguments gs) ≤ length vs = omega (arith, groups_arguments_lem gs, many_total remember (LabelGroup m) (λ x. length (arguments_of x.inner)) (λ s q ws a u. (group_long m s q ws a u).1) [] (suc p + length us) vs gs g) in (
      omega (arith, i.0, length-append us (vs ++ (c ∷ [])), length-append vs (c ∷ [])),
      omega (arith, i.1, length-append us (vs ++ (c ∷ [])), length-append vs (c ∷ []), length-append (arguments_of (flatten is)) (group_arguments gs)),
    )

-- so it has no more than there are kept tokens: what room is always enough
pub follows_fits : (m : Rules) (kept : List Token) (p n : ℕ) (r : Reading) → Follows m kept p n r → (statement_count r ≤ length kept) × (argument_count r ≤ length kept)
unfolding argument_count
follows_fits m kept p n r f =
    let h = body_long m p (take n (drop p kept)) r f.1 in
    let len = length-take-le n (drop p kept) (omega (arith, length-drop p kept, f.0)) in
    (omega (arith, h.0, f.0), omega (arith, h.1, f.0))

-- tables
entry_takes : (sort : TableSort) (p : ℕ) (xs : List Token) (e : TableEntry) → OneEntry sort p xs e → 1 ≤ length xs
entry_takes sort p xs e (one_entry t k a) = omega arith

table_long : (sort : TableSort) (p : ℕ) (xs : List Token) (es : List TableEntry) → TableBody sort p xs es → length es ≤ length xs
table_long sort p xs es (table_body {xs = us} o c e k f) =
    omega (arith, many_total forget_entry (λ s. OneEntry sort) (λ e. 1) (λ s. entry_takes sort) tt (suc p) us es k, total_one es, length-append us (c ∷ []))

-- what stands behind a name
rest_long : (m : Rules) (kind p : ℕ) (xs : List Token) (f : Form) → Rest m kind p xs f → (form_count f ≤ length xs) × (length (form_arguments f) ≤ length xs)
unfolding form_count form_arguments
rest_long m kind p xs f (of_function {xs = us} {ts = ts} {ys = vs} {inputs = ins} {outputs = outs} r e i t h o) = (
  zero-le,
  omega (
    arith,
    parens_long (TypedList false) (typed_list_long false) p us ins i,
    parens_long (TypedList false) (typed_list_long false) (suc (p + length us + length ts)) vs outs o,
    length-append ins (outs ++ []),
    length-append outs [],
    length-append us (ts ++ (r ∷ vs)),
    length-append ts (r ∷ vs),
  ),
)
rest_long m kind p xs f (of_event {args = args} e i) = (zero-le, omega (arith, parens_long (TypedList true) (typed_list_long true) p xs args i, length-append args []))
rest_long m kind p xs f (of_constant a e h v) = (zero-le, zero-le)
rest_long m kind p xs f (of_error {args = args} e i) = (zero-le, omega (arith, parens_long (TypedList false) (typed_list_long false) p xs args i, length-append args []))
rest_long m kind p xs f (of_macro {xs = us} {ts = ts} {rs = rs} {bs = bs} {args = args} {r = r} a k i e t s b) =
    let w = body_long m (suc (p + length us) + length ts + length rs) bs r b in
    let l : length (us ++ (a ∷ (ts ++ (rs ++ bs)))) ≡ length us + suc (length ts + (length rs + length bs)) = omega (arith, length-append us (a ∷ (ts ++ (rs ++ bs))), length-append ts (rs ++ bs), length-append rs bs) in (
      omega (arith, w.0),
      omega (arith, w.1, parens_long (Closed NameArgument) (closed_long NameArgument name_some) p us args i, length-append args (all_arguments r)),
    )
rest_long m kind p xs f (of_table {sort = sort} {os = os} {cs = cs} {zs = zs} {bs = bs} {es = es} k o c z b) = (
  omega (
    arith,
    table_long sort (p + length os + length cs + length zs) bs es b,
    length-append os (cs ++ (zs ++ bs)),
    length-append cs (zs ++ bs),
    length-append zs bs,
  ),
  zero-le,
)

-- a definition has no more statements and no more arguments than tokens
pub defined_long : (m : Rules) (p : ℕ) (xs : List Token) (d : Definition) → Defined m p xs d → (form_count d.form ≤ length xs) × (length (form_arguments d.form) ≤ length xs)
unfolding form_count form_arguments
defined_long m p xs d (include i s e f) = (zero-le, zero-le)
defined_long m p xs d (define {xs = us} {f = f} t k n e g r) =
    let w = rest_long m k.kind (suc (suc (suc p))) us f r in
    (omega (arith, w.0), omega (arith, w.1))

several_long : (m : Rules) (names : Bool) (seen : List (List ℕ)) (p : ℕ) (xs : List Token) (ds : List Definition) → Many remember_name (Fresh m names) seen p xs ds
    → (length ds ≤ length xs) × (file_statement_count ds ≤ length xs) × (length (file_arguments ds) ≤ length xs)
unfolding file_statement_count file_arguments
several_long m names seen p xs ds none = (zero-le, zero-le, zero-le)
several_long m names seen p xs ds (more {xs = us} {ys = vs} {a = d} {rs = es} (fresh x f) rest) =
    let w = defined_long m p us d x in
    let r = several_long m names (remember_name seen d) (p + length us) vs es rest in
    let l : length (us ++ vs) ≡ length us + length vs = length-append us vs in
    (omega (arith, r.0, defined_some m p us d x), omega (arith, w.0, r.1), omega (arith, w.1, r.2, length-append (form_arguments d.form) (file_arguments es)))

-- a file has no more definitions, statements and arguments than tokens before its Eof
pub file_bounded : (m : Rules) (names : Bool) (kept : List Token) (n : ℕ) (ds : List Definition) → FollowsFile m names kept n ds
    → (length ds ≤ n) × (file_statement_count ds ≤ n) × (length (file_arguments ds) ≤ n)
file_bounded m names kept n ds h =
    let r = several_long m names [] 0 (take n kept) ds h.2 in
    let l : length (take n kept) ≡ n = length-take-le n kept (omega (arith, h.0)) in
    (omega (arith, r.0), omega (arith, r.1), omega (arith, r.2))
