-- The tokens fix the tables of a file: two sets of tables that both say of the same tokens what FileTables says hold the same records.
use Prim.Native.Nat.{ℕ, suc, ◌+◌, ◌<◌}
use native.Mathlib.Omega.{arith}
use mathlib.Core.Path.{◌≡◌, refl, sym, ◌∙◌}
use mathlib.Core.Logic.{◌≢◌, ⊎_elim}
use mathlib.Core.Bool.{Bool, true, false}
use mathlib.Core.List.{List}
use Rattle.tokens.specs.Number.{definition_width, statement_width, argument_width}
use Rattle.tokens.specs.Token.{Token, token_at, Positions}
use Rattle.tokens.specs.Kind.{Eof, Function, Error, Takes, Returns, Indexed, Storage, Assign, OpenParen, CloseParen, OpenBrace, CloseBrace, Comma, Ident, PrimitiveType}
use Rattle.grammar.specs.Reading.{NONE}
use Rattle.grammar.specs.Grammar.{Location, calldata, memory, storage}
use Rattle.grammar.specs.FileGrammar.{IsIndexed, is_indexed, IsName, is_name, FunctionType, is_view, is_pure, is_payable, is_non_payable}
use Rattle.grammar.specs.Tables.{Stands, NameWords, ParenTable, BodyTable, body_table}
use Rattle.grammar.specs.FileTables.{Perhaps, nothing_there, one_there, TypedWords, typed_words, CountAt, no_count, count, SignAt, no_sign, sign, ValueAt, literal_value, pointer_value, MacroAt, macro_at, fn_at, test_at, EntryTable, no_entries, entry, TableAt, jump_table_at, packed_table_at, code_table_at, Words, DefinitionAt, import_at, function_at, event_at, constant_defined_at, error_at, macro_defined_at, table_defined_at, FileTable, no_definitions, defined}
use Rattle.grammar.proofs.Only.{SameRecords, Follower, Decided, parens_only, NameStarts, name_decided, body_only, same_append}

-- ---- arguments with a type

-- a piece that may be missing, where K says one number of a token, and B of the kind behind the piece, which K doesn't take
module _ (kept : List Token) (K : Token → ℕ → Type 0) (d : ℕ) (B : ℕ → Type 0) where
  perhaps_only : ((t : Token) (x y : ℕ) → K t x → K t y → x ≡ y) → ((t : Token) (x : ℕ) → K t x → B t.kind → ⊥)
      → (p q q' v v' : ℕ) → Perhaps kept K d p q v → B (token_at kept q).kind → Perhaps kept K d p q' v' → B (token_at kept q').kind
      → (q ≡ q') × (v ≡ v')
  perhaps_only one other p q q' v v' nothing_there b nothing_there b' = (refl, refl)
  perhaps_only one other p q q' v v' nothing_there b (one_there k') b' = absurd (other (token_at kept p) v' k' b)
  perhaps_only one other p q q' v v' (one_there k) b nothing_there b' = absurd (other (token_at kept p) v k b')
  perhaps_only one other p q q' v v' (one_there k) b (one_there k') b' = (refl, one (token_at kept p) v v' k k')

  -- what may stand where the piece begins
  perhaps_front : (C : ℕ → Type 0) → ((t : Token) (x : ℕ) → K t x → C t.kind) → ((kind : ℕ) → B kind → C kind)
      → (p q v : ℕ) → Perhaps kept K d p q v → B (token_at kept q).kind → C (token_at kept p).kind
  perhaps_front C taken not p q v nothing_there b = not (token_at kept p).kind b
  perhaps_front C taken not p q v (one_there k) b = taken (token_at kept p) v k

indexed_kind : (events : Bool) (t : Token) (x : ℕ) → IsIndexed events t x → (t.kind ≡ Indexed) × (x ≡ 1)
indexed_kind events t x (is_indexed e k) = (k, refl)

-- the locations are neighbours, and so are their numbers
location_kind : (kind x : ℕ) → Location kind x → (kind ≡ Indexed + x) × (Indexed < kind) × (kind < suc Storage)
location_kind kind x (calldata e) = omega arith
location_kind kind x (memory e) = omega arith
location_kind kind x (storage e) = omega arith

name_kind : (s : ℕ) (t : Token) (x : ℕ) → IsName s t x → (t.kind ≡ Ident) × (x ≡ s)
name_kind s t x (is_name k e) = (k, refl)

abbrev TypeStarts : ℕ → Type 0
TypeStarts kind = kind ≡ PrimitiveType

-- what stands behind a name is no name, and no location or Indexed, whose kinds are less
abbrev BehindName : ℕ → Type 0
BehindName kind = (Storage < kind) × (kind ≢ Ident)

abbrev BehindLocation : ℕ → Type 0
BehindLocation kind = Storage < kind

abbrev BehindIndexed : ℕ → Type 0
BehindIndexed kind = Indexed < kind

behind_type : (kept : List Token) (q : ℕ) → Follower TypeStarts kept q → BehindName (token_at kept q).kind
behind_type kept q = ⊎_elim (λ (h : Stands kept q PrimitiveType). omega arith) (⊎_elim (λ (h : Stands kept q Comma). omega arith) (λ (h : Stands kept q CloseParen). omega arith))

typed_starts : (events : Bool) (kept : List Token) (p q : ℕ) (w : List ℕ) → TypedWords events kept p q w → TypeStarts (token_at kept p).kind
typed_starts events kept p q w (typed_words t x y z) = t

typed_only : (events : Bool) (kept : List Token) (p q q' : ℕ) (w w' : List ℕ)
    → TypedWords events kept p q w → Follower TypeStarts kept q
    → TypedWords events kept p q' w' → Follower TypeStarts kept q' → (q ≡ q') × (w ≡ w')
typed_only events kept p q q' w w' (typed_words {r = r} {s = s} {indexed = i} {location = l} {name = n} t x y z) f (typed_words {r = r'} {s = s'} {indexed = i'} {location = l'} {name = n'} t' x' y' z') f' =
    let named = perhaps_front kept (IsName s) NONE BehindName BehindLocation (λ u v k. omega (arith, name_kind s u v k)) (λ kind b. b.0) s q n z (behind_type kept q f) in
    let named' = perhaps_front kept (IsName s') NONE BehindName BehindLocation (λ u v k. omega (arith, name_kind s' u v k)) (λ kind b. b.0) s' q' n' z' (behind_type kept q' f') in
    let K : Token → ℕ → Type 0 = λ u. Location u.kind in
    let located = perhaps_front kept K 0 BehindLocation BehindIndexed (λ u v k. (location_kind u.kind v k).1) (λ kind b. omega arith) r s l y named in
    let located' = perhaps_front kept K 0 BehindLocation BehindIndexed (λ u v k. (location_kind u.kind v k).1) (λ kind b. omega arith) r' s' l' y' named' in
    let one = perhaps_only kept (IsIndexed events) 0 BehindIndexed
    (λ u v v' k k'. omega (arith, indexed_kind events u v k, indexed_kind events u v' k'))
    (λ u v k b. omega (arith, indexed_kind events u v k))
    (suc p) r r' i i' x located x' located' in
    let two = perhaps_only kept K 0 BehindLocation
    (λ u v v' k k'. omega (arith, location_kind u.kind v k, location_kind u.kind v' k'))
    (λ u v k b. omega (arith, location_kind u.kind v k))
    r s s' l l' y named (rw (sym one.0) at y') named' in
    let three = perhaps_only kept (IsName s) NONE BehindName
    (λ u v v' k k'. omega (arith, name_kind s u v k, name_kind s u v' k'))
    (λ u v k b. b.1 (name_kind s u v k).0)
    s q q' n n' z (behind_type kept q f) (rw (sym two.0) at z') (behind_type kept q' f') in
    (three.0, (cc))

typed_decided : (events : Bool) (kept : List Token) → Decided kept (TypedWords events kept) TypeStarts
typed_decided events kept = record { starts = typed_starts events kept; no_comma = λ h. omega arith; no_end = λ h. omega arith; only = typed_only events kept }

-- ---- counts, signs, values, entries

-- behind a count or a sign that may be missing stands another kind
count_only : (kept : List Token) (kind p q q' v v' : ℕ) → CountAt kept kind p q v → (token_at kept q).kind ≢ kind → CountAt kept kind p q' v' → (token_at kept q').kind ≢ kind → (q ≡ q') × (v ≡ v')
count_only kept kind p q q' v v' no_count b no_count b' = (refl, refl)
count_only kept kind p q q' v v' no_count b (count k x y z) b' = absurd (b k)
count_only kept kind p q q' v v' (count k x y z) b no_count b' = absurd (b' k)
count_only kept kind p q q' v v' (count k x y z) b (count k' x' y' z') b' = (refl, refl)

count_front : (kept : List Token) (kind p q v : ℕ) (B : ℕ → Type 0) → CountAt kept kind p q v → B kind → B (token_at kept q).kind → B (token_at kept p).kind
count_front kept kind p q v B no_count t b = b
count_front kept kind p q v B (count k x y z) t b = rw k t

sign_only : (kept : List Token) (kind p q q' : ℕ) → SignAt kept kind p q → (token_at kept q).kind ≢ kind → SignAt kept kind p q' → (token_at kept q').kind ≢ kind → q ≡ q'
sign_only kept kind p q q' no_sign b no_sign b' = refl
sign_only kept kind p q q' no_sign b (sign k) b' = absurd (b k)
sign_only kept kind p q q' (sign k) b no_sign b' = absurd (b' k)
sign_only kept kind p q q' (sign k) b (sign k') b' = refl

sign_front : (kept : List Token) (kind p q : ℕ) (B : ℕ → Type 0) → SignAt kept kind p q → B kind → B (token_at kept q).kind → B (token_at kept p).kind
sign_front kept kind p q B no_sign t b = b
sign_front kept kind p q B (sign k) t b = rw k t

value_only : (kept : List Token) (p x y : ℕ) → ValueAt kept p x → ValueAt kept p y → x ≡ y
value_only kept p x y (literal_value h) (literal_value k) = refl
value_only kept p x y (literal_value h) (pointer_value k) = absurd (omega arith)
value_only kept p x y (pointer_value h) (literal_value k) = absurd (omega arith)
value_only kept p x y (pointer_value h) (pointer_value k) = refl

-- numbers in the order of the kinds
type_number : (kind x : ℕ) → FunctionType kind x → kind ≡ Returns + x
type_number kind x (is_view e) = omega arith
type_number kind x (is_pure e) = omega arith
type_number kind x (is_payable e) = omega arith
type_number kind x (is_non_payable e) = omega arith

-- the kinds with a body come before Function, those of tables behind Error
macro_number_lem : (kind x : ℕ) → MacroAt kind x → (kind ≡ x) × (kind < Function)
macro_number_lem kind x (macro_at e) = omega arith
macro_number_lem kind x (fn_at e) = omega arith
macro_number_lem kind x (test_at e) = omega arith

table_kind_lem : (kind n digits x type size : ℕ) → TableAt kind n digits x type size → Error < kind
table_kind_lem kind n digits x type size (jump_table_at e) = omega arith
table_kind_lem kind n digits x type size (packed_table_at e) = omega arith
table_kind_lem kind n digits x type size (code_table_at e) = omega arith

table_only : (kind n n' digits digits' x x' type type' size size' : ℕ) → TableAt kind n digits x type size → TableAt kind n' digits' x' type' size'
    → (x ≡ x') × (type ≡ type') × (n ≡ n' → digits ≡ digits' → size ≡ size')
table_only kind n n' digits digits' x x' type type' size size' (jump_table_at e) (jump_table_at f) = (refl, refl, λ g h. omega arith)
table_only kind n n' digits digits' x x' type type' size size' (jump_table_at e) (packed_table_at f) = absurd (omega arith)
table_only kind n n' digits digits' x x' type type' size size' (jump_table_at e) (code_table_at f) = absurd (omega arith)
table_only kind n n' digits digits' x x' type type' size size' (packed_table_at e) (jump_table_at f) = absurd (omega arith)
table_only kind n n' digits digits' x x' type type' size size' (packed_table_at e) (packed_table_at f) = (refl, refl, λ g h. omega arith)
table_only kind n n' digits digits' x x' type type' size size' (packed_table_at e) (code_table_at f) = absurd (omega arith)
table_only kind n n' digits digits' x x' type type' size size' (code_table_at e) (jump_table_at f) = absurd (omega arith)
table_only kind n n' digits digits' x x' type type' size size' (code_table_at e) (packed_table_at f) = absurd (omega arith)
table_only kind n n' digits digits' x x' type type' size size' (code_table_at e) (code_table_at f) = (refl, refl, λ g h. rw h)

entries_only : (kept : List Token) (s u : List ℕ) (type a i n n' p q q' digits digits' : ℕ)
    → EntryTable kept s type a i n p q digits → Stands kept q CloseBrace
    → EntryTable kept u type a i n' p q' digits' → Stands kept q' CloseBrace
    → (n ≡ n') × (q ≡ q') × (digits ≡ digits') × SameRecords statement_width s u i n
entries_only kept s u type a i n n' p q q' digits digits' no_entries c no_entries c' = (refl, refl, refl, tt)
entries_only kept s u type a i n n' p q q' digits digits' no_entries c (entry e' r' rest') c' = absurd (omega arith)
entries_only kept s u type a i n n' p q q' digits digits' (entry e r rest) c no_entries c' = absurd (omega arith)
entries_only kept s u type a i n n' p q q' digits digits' (entry {n = k} {digits = l} e r rest) c (entry {n = k'} {digits = l'} e' r' rest') c' =
    let later = entries_only kept s u type a (suc i) k k' (suc p) q q' l l' rest c rest' c' in
    (omega arith, later.1, omega arith, (r ∙ sym r', later.3))

-- Takes and Returns up to a body
counts_only : (kept : List Token) (p r r' s s' x x' y y' : ℕ)
    → CountAt kept Takes p r x → CountAt kept Returns r s y → Stands kept s OpenBrace
    → CountAt kept Takes p r' x' → CountAt kept Returns r' s' y' → Stands kept s' OpenBrace
    → (s ≡ s') × (x ≡ x') × (y ≡ y')
counts_only kept p r r' s s' x x' y y' t u o t' u' o' =
    let one = count_only kept Takes p r r' x x' t (count_front kept Returns r s y (λ k. k ≢ Takes) u (omega arith) (omega arith)) t' (count_front kept Returns r' s' y' (λ k. k ≢ Takes) u' (omega arith) (omega arith)) in
    let two = count_only kept Returns r s s' y y' u (omega arith) (rw (sym one.0) at u') (omega arith) in
    (two.0, one.1, two.1)

-- the signs of a table up to its brace
signs_only : (kept : List Token) (p q q' r r' s s' : ℕ)
    → SignAt kept OpenParen p q → SignAt kept CloseParen q r → SignAt kept Assign r s → Stands kept s OpenBrace
    → SignAt kept OpenParen p q' → SignAt kept CloseParen q' r' → SignAt kept Assign r' s' → Stands kept s' OpenBrace
    → s ≡ s'
signs_only kept p q q' r r' s s' x y z o x' y' z' o' =
    let C : ℕ → Type 0 = λ k. k ≢ OpenParen in
    let D : ℕ → Type 0 = λ k. k ≢ CloseParen in
    let one = sign_only kept OpenParen p q q' x
    (sign_front kept CloseParen q r C y (omega arith) (sign_front kept Assign r s C z (omega arith) (omega arith)))
    x' (sign_front kept CloseParen q' r' C y' (omega arith) (sign_front kept Assign r' s' C z' (omega arith) (omega arith))) in
    let two = sign_only kept CloseParen q r r' y (sign_front kept Assign r s D z (omega arith) (omega arith)) (rw (sym one) at y') (sign_front kept Assign r' s' D z' (omega arith) (omega arith)) in
    sign_only kept Assign r s s' z (omega arith) (rw (sym two) at z') (omega arith)

body_opens : (kept : List Token) (s t : List ℕ) (i n a m p q : ℕ) → BodyTable kept s t i n a m p q → Stands kept p OpenBrace
body_opens kept s t i n a m p q (body_table o x y c) = o

-- ---- definitions

-- two definitions with the same counts, end and words, and the same records
abbrev SameDefinition : List ℕ → List ℕ → List ℕ → List ℕ → ℕ → ℕ → ℕ → ℕ → ℕ → ℕ → ℕ → ℕ → Words → Words → Type 0
SameDefinition s t u v i n n' a m m' e e' w w' =
    (n ≡ n') × (m ≡ m') × (e ≡ e') × (w ≡ w') × SameRecords statement_width s u i n × SameRecords argument_width t v a m

module _ (kept : List Token) (s t u v : List ℕ) where
  typed_parens : (events : Bool) (a m m' p q q' : ℕ) → ParenTable (TypedWords events kept) kept t a m p q → ParenTable (TypedWords events kept) kept v a m' p q'
      → (m ≡ m') × (q ≡ q') × SameRecords argument_width t v a m
  typed_parens events = parens_only kept (TypedWords events kept) TypeStarts (typed_decided events kept) t v

  definition_only : {i n n' a m m' p e e' : ℕ} {w w' : Words} → DefinitionAt kept s t i n a m p e w → DefinitionAt kept u v i n' a m' p e' w' → SameDefinition s t u v i n n' a m m' e e' w w'
  definition_only (import_at x y) (import_at x' y') = (refl, refl, refl, refl, tt, tt)
  definition_only {a = a} {p = p} (function_at {m = m} {k = k} {q = q} {e = e} {type = x} h ins y r outs) (function_at {m = m'} {k = k'} {q = q'} {e = e'} {type = x'} h' ins' y' r' outs') =
      let one = typed_parens false a m m' (suc (suc (suc p))) q q' ins ins' in
      let two = typed_parens false (a + m) k k' (suc (suc q)) e e' outs (rw (sym one.0, sym one.1) at outs') in
      let type : x ≡ x' = omega (arith, type_number _ x y, type_number _ x' (rw (sym one.1) at y')) in
      (refl, omega arith, two.1, (cc), tt, same_append argument_width t v a m k one.2 two.2)
  definition_only {a = a} {p = p} (event_at {m = m} {q = q} h ins) (event_at {m = m'} {q = q'} h' ins') =
      let one = typed_parens true a m m' (suc (suc (suc p))) q q' ins ins' in
      (refl, one.0, one.1, (cc), tt, one.2)
  definition_only {p = p} (constant_defined_at {value = x} h e y) (constant_defined_at {value = x'} h' e' y') =
      (refl, refl, refl, (cc (value_only kept (suc (suc (suc (suc p)))) x x' y y')), tt, tt)
  definition_only {a = a} {p = p} (error_at {m = m} {q = q} h ins) (error_at {m = m'} {q = q'} h' ins') =
      let one = typed_parens false a m m' (suc (suc (suc p))) q q' ins ins' in
      (refl, one.0, one.1, (cc), tt, one.2)
  definition_only {i = i} {a = a} {p = p} (macro_defined_at {n = n} {m = m} {h = l} {q = q} {r = r} {s = b} {e = e} {kind = kind} {number = x} {takes = y} {returns = z} h k ins g tk rt body) (macro_defined_at {n = n'} {m = m'} {h = l'} {q = q'} {r = r'} {s = b'} {e = e'} {kind = kind'} {number = x'} {takes = y'} {returns = z'} h' k' ins' g' tk' rt' body') =
      let one = parens_only kept (NameWords kept) NameStarts (name_decided kept) t v a m m' (suc (suc (suc p))) q q' ins ins' in
      let two = counts_only kept (suc q) r r' b b' y y' z z' tk rt (body_opens kept s t i n (a + m) l b e body) (rw (sym one.1) at tk') rt' (body_opens kept u v i n' (a + m') l' b' e' body') in
      let three = body_only kept s t u v i n n' (a + m) l l' b e e' body (rw (sym one.0, sym two.0) at body') in
      let number : x ≡ x' = omega (arith, macro_number_lem kind x k, macro_number_lem kind' x' k') in
      (three.0, omega arith, three.2, (cc), three.3, same_append argument_width t v a m l one.2 three.4)
  definition_only {i = i} {a = a} {p = p} (table_defined_at {n = n} {q = q} {r = r} {s = b} {e = e} {kind = kind} {number = x} {type = y} {size = z} {digits = l} h k c d f o es g) (table_defined_at {n = n'} {q = q'} {r = r'} {s = b'} {e = e'} {kind = kind'} {number = x'} {type = y'} {size = z'} {digits = l'} h' k' c' d' f' o' es' g') =
      let same : kind ≡ kind' = omega arith in
      let one = table_only kind n n' l l' x x' y y' z z' k (rw (sym same) at k') in
      let two = signs_only kept (suc (suc (suc p))) q q' r r' b b' c d f o c' d' f' o' in
      let three = entries_only kept s u y a i n n' (suc b) e e' l l' es g (rw (sym one.1, sym two) at es') g' in
      let size : z ≡ z' = one.2 three.0 three.2 in
      (three.0, refl, omega arith, (cc), three.3, tt)
  -- two different ones: the kinds at place p or p + 1 differ
  definition_only (import_at x y) (function_at h' b' c' d' e') = absurd (omega arith)
  definition_only (import_at x y) (event_at h' b') = absurd (omega arith)
  definition_only (import_at x y) (constant_defined_at h' b' c') = absurd (omega arith)
  definition_only (import_at x y) (error_at h' b') = absurd (omega arith)
  definition_only (import_at x y) (macro_defined_at h' k' b' c' d' e' f') = absurd (omega arith)
  definition_only (import_at x y) (table_defined_at h' k' b' c' d' e' f' g') = absurd (omega arith)
  definition_only (function_at h b c d e) (import_at x' y') = absurd (omega arith)
  definition_only (function_at h b c d e) (event_at h' b') = absurd (omega arith)
  definition_only (function_at h b c d e) (constant_defined_at h' b' c') = absurd (omega arith)
  definition_only (function_at h b c d e) (error_at h' b') = absurd (omega arith)
  definition_only (function_at h b c d e) (macro_defined_at h' k' b' c' d' e' f') = absurd (omega (arith, macro_number_lem _ _ k'))
  definition_only (function_at h b c d e) (table_defined_at h' k' b' c' d' e' f' g') = absurd (omega (arith, table_kind_lem _ _ _ _ _ _ k'))
  definition_only (event_at h b) (import_at x' y') = absurd (omega arith)
  definition_only (event_at h b) (function_at h' b' c' d' e') = absurd (omega arith)
  definition_only (event_at h b) (constant_defined_at h' b' c') = absurd (omega arith)
  definition_only (event_at h b) (error_at h' b') = absurd (omega arith)
  definition_only (event_at h b) (macro_defined_at h' k' b' c' d' e' f') = absurd (omega (arith, macro_number_lem _ _ k'))
  definition_only (event_at h b) (table_defined_at h' k' b' c' d' e' f' g') = absurd (omega (arith, table_kind_lem _ _ _ _ _ _ k'))
  definition_only (constant_defined_at h b c) (import_at x' y') = absurd (omega arith)
  definition_only (constant_defined_at h b c) (function_at h' b' c' d' e') = absurd (omega arith)
  definition_only (constant_defined_at h b c) (event_at h' b') = absurd (omega arith)
  definition_only (constant_defined_at h b c) (error_at h' b') = absurd (omega arith)
  definition_only (constant_defined_at h b c) (macro_defined_at h' k' b' c' d' e' f') = absurd (omega (arith, macro_number_lem _ _ k'))
  definition_only (constant_defined_at h b c) (table_defined_at h' k' b' c' d' e' f' g') = absurd (omega (arith, table_kind_lem _ _ _ _ _ _ k'))
  definition_only (error_at h b) (import_at x' y') = absurd (omega arith)
  definition_only (error_at h b) (function_at h' b' c' d' e') = absurd (omega arith)
  definition_only (error_at h b) (event_at h' b') = absurd (omega arith)
  definition_only (error_at h b) (constant_defined_at h' b' c') = absurd (omega arith)
  definition_only (error_at h b) (macro_defined_at h' k' b' c' d' e' f') = absurd (omega (arith, macro_number_lem _ _ k'))
  definition_only (error_at h b) (table_defined_at h' k' b' c' d' e' f' g') = absurd (omega (arith, table_kind_lem _ _ _ _ _ _ k'))
  definition_only (macro_defined_at h k b c d e f) (import_at x' y') = absurd (omega arith)
  definition_only (macro_defined_at h k b c d e f) (function_at h' b' c' d' e') = absurd (omega (arith, macro_number_lem _ _ k))
  definition_only (macro_defined_at h k b c d e f) (event_at h' b') = absurd (omega (arith, macro_number_lem _ _ k))
  definition_only (macro_defined_at h k b c d e f) (constant_defined_at h' b' c') = absurd (omega (arith, macro_number_lem _ _ k))
  definition_only (macro_defined_at h k b c d e f) (error_at h' b') = absurd (omega (arith, macro_number_lem _ _ k))
  definition_only (macro_defined_at h k b c d e f) (table_defined_at h' k' b' c' d' e' f' g') = absurd (omega (arith, macro_number_lem _ _ k, table_kind_lem _ _ _ _ _ _ k'))
  definition_only (table_defined_at h k b c d e f g) (import_at x' y') = absurd (omega arith)
  definition_only (table_defined_at h k b c d e f g) (function_at h' b' c' d' e') = absurd (omega (arith, table_kind_lem _ _ _ _ _ _ k))
  definition_only (table_defined_at h k b c d e f g) (event_at h' b') = absurd (omega (arith, table_kind_lem _ _ _ _ _ _ k))
  definition_only (table_defined_at h k b c d e f g) (constant_defined_at h' b' c') = absurd (omega (arith, table_kind_lem _ _ _ _ _ _ k))
  definition_only (table_defined_at h k b c d e f g) (error_at h' b') = absurd (omega (arith, table_kind_lem _ _ _ _ _ _ k))
  definition_only (table_defined_at h k b c d e f g) (macro_defined_at h' k' b' c' d' e' f') = absurd (omega (arith, table_kind_lem _ _ _ _ _ _ k, macro_number_lem _ _ k'))

-- ---- files

-- a definition begins with a token that is no Eof
not_at_end : {kept : List Token} {s t : List ℕ} {i n a m p e : ℕ} {w : Words} → DefinitionAt kept s t i n a m p e w → Stands kept p Eof → ⊥
not_at_end (import_at x y) z = omega arith
not_at_end (function_at h b c d e) z = omega arith
not_at_end (event_at h b) z = omega arith
not_at_end (constant_defined_at h b c) z = omega arith
not_at_end (error_at h b) z = omega arith
not_at_end (macro_defined_at h k b c d e f) z = omega arith
not_at_end (table_defined_at h k b c d e f g) z = omega arith

-- a file up to its Eof: how many records it has, where it ends, and each of their words
pub file_only : (kept : List Token) (pos : Positions) (r s t u v w : List ℕ) (d k k' i n n' a m m' p q q' : ℕ)
    → FileTable kept pos r s t d k i n a m p q → Stands kept q Eof
    → FileTable kept pos u v w d k' i n' a m' p q' → Stands kept q' Eof
    → (k ≡ k') × (n ≡ n') × (m ≡ m') × (q ≡ q')
    × SameRecords definition_width r u d k × SameRecords statement_width s v i n × SameRecords argument_width t w a m
file_only kept pos r s t u v w d k k' i n n' a m m' p q q' no_definitions e no_definitions e' = (refl, refl, refl, refl, tt, tt, tt)
file_only kept pos r s t u v w d k k' i n n' a m m' p q q' no_definitions e (defined x' h' g' rest') e' = absurd (not_at_end h' e)
file_only kept pos r s t u v w d k k' i n n' a m m' p q q' (defined x h g rest) e no_definitions e' = absurd (not_at_end h e')
file_only kept pos r s t u v w d k k' i n n' a m m' p q q' (defined {k = c} {n = y} {l = l} {m = z} {h = b} {e = o} x h g rest) e (defined {k = c'} {n = y'} {l = l'} {m = z'} {h = b'} {e = o'} x' h' g' rest') e' =
    let one = definition_only kept s t v w h h' in
    let later = file_only kept pos r s t u v w (suc d) c c' (i + y) l l' (a + z) b b' o q q' rest e (rw (sym one.0, sym one.1, sym one.2) at rest') e' in (
      omega arith,
      omega arith,
      omega arith,
      later.3,
      ((cc), later.4),
      same_append statement_width s v i y l one.4 later.5,
      same_append argument_width t w a z b one.5 later.6,
    )
