-- The tokens fix the tables: two tables that both say of the same tokens what Tables says hold the same records.
use Prim.Native.Nat.{ℕ, zero, suc, ◌+◌}
use native.Mathlib.Nat.{add-zero, add-suc, suc-add, zero-add}
use native.Mathlib.Omega.{arith}
use mathlib.Core.Path.{◌≡◌, refl, sym, ◌∙◌, ap, ap₂, subst, subst₂, subst₃}
use mathlib.Core.Logic.{◌≢◌, ◌⊎◌, inl, inr, ⊎_elim}
use mathlib.Core.Bool.{cond}
use mathlib.Core.List.{List, [], ◌∷◌}
use lib.ListN.{get_or}
use lib.Dec.{eqb}
use borrow.Author.Tests.{ne_eqb}
use Rattle.tokens.specs.Number.{statement_width, argument_width, name_form, string_form, literal_form, call_literal_form, call_name_form, call_angled_form, in_calldata, in_memory, in_storage, literal_type, opcode_type, label_call_type, invocation_type, constant_type, argument_call_type, builtin_type}
use Rattle.tokens.specs.Token.{Token, token_at}
use Rattle.tokens.specs.Kind.{Calldata, Memory, Storage, OpenParen, CloseParen, CloseBrace, OpenBracket, LeftAngle, Comma, Ident, Label, Literal, Opcode, Str}
use Rattle.grammar.specs.Reading.{NONE}
use Rattle.grammar.specs.Grammar.{Location, calldata, memory, storage}
use Rattle.grammar.specs.Tables.{record_of, Stands, one_token_words, CallWords, call_literal_words, call_name_words, call_calldata_words, call_angled_words, NameWords, bare_words, placed_words, BuiltinWords, builtin_string_words, builtin_literal_words, builtin_name_words, ListTable, no_arguments, argument, argument_comma, ParenTable, paren_table, StatementAt, literal_at, opcode_at, label_call_at, invocation_at, constant_at, argument_call_at, builtin_at, StatementTable, no_statements, statement, LabelTable, no_labels, label, BodyTable, body_table}

-- two tables hold the same n records from number i on, w words each
abbrev pub SameRecords : ℕ → List ℕ → List ℕ → ℕ → ℕ → Type 0
SameRecords w t u i zero = Unit {0}
SameRecords w t u i (suc n) = (record_of w t i ≡ record_of w u i) × SameRecords w t u (suc i) n

-- what may stand behind an argument: the first token of another, a Comma, or the `)`
abbrev pub Follower : (ℕ → Type 0) → List Token → ℕ → Type 0
Follower Starts kept q = Starts (token_at kept q).kind ⊎ (Stands kept q Comma ⊎ Stands kept q CloseParen)

-- the tokens fix an argument: it begins with a kind as Starts says, which is no Comma and no `)`, and its end and words are decided where such a token stands behind it
pub record Decided (kept : List Token) (One : ℕ → ℕ → List ℕ → Type 0) (Starts : ℕ → Type 0) : Type 0 where
  pub starts : (p q : ℕ) (w : List ℕ) → One p q w → Starts (token_at kept p).kind
  pub no_comma : Starts Comma → ⊥
  pub no_end : Starts CloseParen → ⊥
  pub only : (p q q' : ℕ) (w w' : List ℕ) → One p q w → Follower Starts kept q → One p q' w' → Follower Starts kept q' → (q ≡ q') × (w ≡ w')

module _ (kept : List Token) (One : ℕ → ℕ → List ℕ → Type 0) (Starts : ℕ → Type 0) (decided : Decided kept One Starts) where
  -- a list up to a `)` begins with an argument or is empty
  list_starts : (table : List ℕ) (a m p q : ℕ) → ListTable One kept table a m p q → Stands kept q CloseParen → Starts (token_at kept p).kind ⊎ Stands kept p CloseParen
  list_starts table a m p q no_arguments c = inr c
  list_starts table a m p q (argument {e = e} o rest) c = inl (decided.starts p e (record_of argument_width table a) o)
  list_starts table a m p q (argument_comma {e = e} o s rest) c = inl (decided.starts p e (record_of argument_width table a) o)

  -- so it may stand behind an argument
  follows : (p : ℕ) → Starts (token_at kept p).kind ⊎ Stands kept p CloseParen → Follower Starts kept p
  follows p (inl h) = inl h
  follows p (inr h) = inr (inr h)

  -- no argument begins with a `)`, and no list up to one with a Comma
  not_closed : (p q : ℕ) (w : List ℕ) → One p q w → Stands kept p CloseParen → ⊥
  not_closed p q w o c = decided.no_end (subst Starts c (decided.starts p q w o))

  not_comma : (p : ℕ) → Starts (token_at kept p).kind ⊎ Stands kept p CloseParen → Stands kept p Comma → ⊥
  not_comma p (inl h) c = decided.no_comma (subst Starts c h)
  not_comma p (inr h) c = omega arith

  module _ (t u : List ℕ) where
    list_only : (a m m' p q q' : ℕ) → ListTable One kept t a m p q → Stands kept q CloseParen → ListTable One kept u a m' p q' → Stands kept q' CloseParen
        → (m ≡ m') × (q ≡ q') × SameRecords argument_width t u a m
    list_only a m m' p q q' no_arguments c no_arguments c' = (refl, refl, tt)
    list_only a m m' p q q' no_arguments c (argument {e = e} o rest) c' = absurd (not_closed p e (record_of argument_width u a) o c)
    list_only a m m' p q q' no_arguments c (argument_comma {e = e} o s rest) c' = absurd (not_closed p e (record_of argument_width u a) o c)
    list_only a m m' p q q' (argument {e = e} o rest) c no_arguments c' = absurd (not_closed p e (record_of argument_width t a) o c')
    list_only a m m' p q q' (argument {m = n} {e = e} o rest) c (argument {m = n'} {e = e'} o' rest') c' =
        let f = list_starts t (suc a) n e q rest c in
        let f' = list_starts u (suc a) n' e' q' rest' c' in
        let one = decided.only p e e' (record_of argument_width t a) (record_of argument_width u a) o (follows e f) o' (follows e' f') in
        let more = list_only (suc a) n n' e q q' rest c (subst (λ x. ListTable One kept u (suc a) n' x q') (sym one.0) rest') c' in
        (ap suc more.0, more.1, (one.1, more.2))
    list_only a m m' p q q' (argument {m = n} {e = e} o rest) c (argument_comma {m = n'} {e = e'} o' s' rest') c' =
        let f = list_starts t (suc a) n e q rest c in
        let one = decided.only p e e' (record_of argument_width t a) (record_of argument_width u a) o (follows e f) o' (inr (inl s')) in
        absurd (not_comma e f (rw one.0 s'))
    list_only a m m' p q q' (argument_comma {e = e} o s rest) c no_arguments c' = absurd (not_closed p e (record_of argument_width t a) o c')
    list_only a m m' p q q' (argument_comma {m = n} {e = e} o s rest) c (argument {m = n'} {e = e'} o' rest') c' =
        let f' = list_starts u (suc a) n' e' q' rest' c' in
        let one = decided.only p e e' (record_of argument_width t a) (record_of argument_width u a) o (inr (inl s)) o' (follows e' f') in
        absurd (not_comma e' f' (rw one.0 at s))
    list_only a m m' p q q' (argument_comma {m = n} {e = e} o s rest) c (argument_comma {m = n'} {e = e'} o' s' rest') c' =
        let one = decided.only p e e' (record_of argument_width t a) (record_of argument_width u a) o (inr (inl s)) o' (inr (inl s')) in
        let more = list_only (suc a) n n' (suc e) q q' rest c (subst (λ x. ListTable One kept u (suc a) n' (suc x) q') (sym one.0) rest') c' in
        (ap suc more.0, more.1, (one.1, more.2))

-- and so a list in parentheses
pub parens_only : (kept : List Token) (One : ℕ → ℕ → List ℕ → Type 0) (Starts : ℕ → Type 0) → Decided kept One Starts
    → (t u : List ℕ) (a m m' p q q' : ℕ) → ParenTable One kept t a m p q → ParenTable One kept u a m' p q'
    → (m ≡ m') × (q ≡ q') × SameRecords argument_width t u a m
parens_only kept One Starts decided t u a m m' p q q' (paren_table {q = e} o l c) (paren_table {q = e'} o' l' c') =
    let inside = list_only kept One Starts decided t u a m m' (suc p) e e' l c l' c' in
    (inside.0, ap suc inside.1, inside.2)

-- where the words are a function of the place, with the end among them, they and the end are decided
by_words : (One : ℕ → ℕ → List ℕ → Type 0) (words : ℕ → List ℕ) → ((p q : ℕ) (w : List ℕ) → One p q w → (w ≡ words p) × (q ≡ get_or w 6 0))
    → (p q q' : ℕ) (w w' : List ℕ) → One p q w → One p q' w' → (q ≡ q') × (w ≡ w')
by_words One words fixed p q q' w w' o o' =
    let f = fixed p q w o in
    let f' = fixed p q' w' o' in
    let same = f.0 ∙ sym f'.0 in
    (f.1 ∙ ap (λ x. get_or x 6 0) same ∙ sym f'.1, same)

-- a name without a type begins with a location or an Ident
abbrev pub NameStarts : ℕ → Type 0
NameStarts kind = (kind ≡ Ident) ⊎ ((kind ≡ Calldata) ⊎ ((kind ≡ Memory) ⊎ (kind ≡ Storage)))

no_name : (kind : ℕ) → NameStarts kind → (kind ≢ Comma) × (kind ≢ CloseParen)
no_name kind (inl h) = omega arith
no_name kind (inr (inl h)) = omega arith
no_name kind (inr (inr (inl h))) = omega arith
no_name kind (inr (inr (inr h))) = omega arith

location_starts : (kind l : ℕ) → Location kind l → NameStarts kind
location_starts kind l (calldata h) = inr (inl h)
location_starts kind l (memory h) = inr (inr (inl h))
location_starts kind l (storage h) = inr (inr (inr h))

-- the words of a name at p whose first token is of this kind
abbrev name_words_of : ℕ → ℕ → List ℕ
name_words_of kind p =
    cond (eqb kind Ident) (one_token_words name_form p)
    (name_form ∷ NONE ∷ suc p ∷ 0 ∷ cond (eqb kind Calldata) in_calldata (cond (eqb kind Memory) in_memory in_storage) ∷ p ∷ suc (suc p) ∷ [])

name_starts : (kept : List Token) (p q : ℕ) (w : List ℕ) → NameWords kept p q w → NameStarts (token_at kept p).kind
name_starts kept p q w (bare_words h) = inl h
name_starts kept p q w (placed_words {l = l} x h) = location_starts (token_at kept p).kind l x

name_words : (kept : List Token) (p q : ℕ) (w : List ℕ) → NameWords kept p q w → (w ≡ name_words_of (token_at kept p).kind p) × (q ≡ get_or w 6 0)
name_words kept p q w (bare_words h) = (rw h, refl)
name_words kept p q w (placed_words (calldata g) h) = (rw g, refl)
name_words kept p q w (placed_words (memory g) h) = (rw g, refl)
name_words kept p q w (placed_words (storage g) h) = (rw g, refl)

pub name_decided : (kept : List Token) → Decided kept (NameWords kept) NameStarts
name_decided kept = record {
  starts = name_starts kept;
  no_comma = λ h. (no_name Comma h).0 refl;
  no_end = λ h. (no_name CloseParen h).1 refl;
  only = λ p q q' w w' o f o' f'. by_words (NameWords kept) (λ x. name_words_of (token_at kept x).kind x) (name_words kept) p q q' w w' o o';
}

-- of the arguments of calls and builtins it is enough that they begin with neither
abbrev Begins : ℕ → Type 0
Begins kind = (kind ≢ Comma) × (kind ≢ CloseParen)

begins_decided : (kept : List Token) (One : ℕ → ℕ → List ℕ → Type 0) (words : ℕ → List ℕ)
    → ((p q : ℕ) (w : List ℕ) → One p q w → Begins (token_at kept p).kind)
    → ((p q : ℕ) (w : List ℕ) → One p q w → (w ≡ words p) × (q ≡ get_or w 6 0))
    → Decided kept One Begins
begins_decided kept One words begins fixed = record {
  starts = begins;
  no_comma = λ h. h.0 refl;
  no_end = λ h. h.1 refl;
  only = λ p q q' w w' o f o' f'. by_words One words fixed p q q' w w' o o';
}

abbrev call_words_of : ℕ → ℕ → List ℕ
call_words_of kind p =
    cond (eqb kind Literal) (one_token_words call_literal_form p)
    (cond (eqb kind LeftAngle) (call_angled_form ∷ NONE ∷ suc p ∷ 0 ∷ 0 ∷ p ∷ suc (suc (suc p)) ∷ []) (one_token_words call_name_form p))

call_begins : (kept : List Token) (p q : ℕ) (w : List ℕ) → CallWords kept p q w → Begins (token_at kept p).kind
call_begins kept p q w (call_literal_words h) = omega arith
call_begins kept p q w (call_name_words h) = omega arith
call_begins kept p q w (call_calldata_words h) = omega arith
call_begins kept p q w (call_angled_words h i j) = omega arith

call_words : (kept : List Token) (p q : ℕ) (w : List ℕ) → CallWords kept p q w → (w ≡ call_words_of (token_at kept p).kind p) × (q ≡ get_or w 6 0)
call_words kept p q w (call_literal_words h) = (rw h, refl)
call_words kept p q w (call_name_words h) = (rw h, refl)
call_words kept p q w (call_calldata_words h) = (rw h, refl)
call_words kept p q w (call_angled_words h i j) = (rw h, refl)

call_decided : (kept : List Token) → Decided kept (CallWords kept) Begins
call_decided kept = begins_decided kept (CallWords kept) (λ p. call_words_of (token_at kept p).kind p) (call_begins kept) (call_words kept)

abbrev builtin_words_of : ℕ → ℕ → List ℕ
builtin_words_of kind p = cond (eqb kind Str) (one_token_words string_form p) (cond (eqb kind Literal) (one_token_words literal_form p) (name_words_of kind p))

-- a name is no string and no literal
builtin_name_words_lem : (kind p : ℕ) → NameStarts kind → name_words_of kind p ≡ builtin_words_of kind p
builtin_name_words_lem kind p (inl h) = rw h
builtin_name_words_lem kind p (inr (inl h)) = rw h
builtin_name_words_lem kind p (inr (inr (inl h))) = rw h
builtin_name_words_lem kind p (inr (inr (inr h))) = rw h

builtin_begins : (kept : List Token) (p q : ℕ) (w : List ℕ) → BuiltinWords kept p q w → Begins (token_at kept p).kind
builtin_begins kept p q w (builtin_string_words h) = omega arith
builtin_begins kept p q w (builtin_literal_words h) = omega arith
builtin_begins kept p q w (builtin_name_words h) = no_name (token_at kept p).kind (name_starts kept p q w h)

builtin_words : (kept : List Token) (p q : ℕ) (w : List ℕ) → BuiltinWords kept p q w → (w ≡ builtin_words_of (token_at kept p).kind p) × (q ≡ get_or w 6 0)
builtin_words kept p q w (builtin_string_words h) = (rw h, refl)
builtin_words kept p q w (builtin_literal_words h) = (rw h, refl)
builtin_words kept p q w (builtin_name_words h) =
    let named = name_words kept p q w h in
    (named.0 ∙ builtin_name_words_lem (token_at kept p).kind p (name_starts kept p q w h), named.1)

builtin_decided : (kept : List Token) → Decided kept (BuiltinWords kept) Begins
builtin_decided kept = begins_decided kept (BuiltinWords kept) (λ p. builtin_words_of (token_at kept p).kind p) (builtin_begins kept) (builtin_words kept)

-- records one behind the other
pub same_append : (w : ℕ) (t u : List ℕ) (i n k : ℕ) → SameRecords w t u i n → SameRecords w t u (i + n) k → SameRecords w t u i (n + k)
same_append w t u i zero k h g = rw (zero-add k) (rw (add-zero i) at g)
same_append w t u i (suc n) k h g = rw (suc-add n k) (h.0, same_append w t u (suc i) n k h.1 (rw (add-suc i n, ← suc-add i n) at g))

-- the type of a statement by the kinds of its first two tokens
abbrev type_by : ℕ → ℕ → ℕ
type_by first second =
    cond (eqb first Literal) literal_type
    (cond (eqb first Opcode) opcode_type
    (cond (eqb first Ident) (cond (eqb second OpenParen) invocation_type label_call_type)
    (cond (eqb first OpenBracket) constant_type
    (cond (eqb first LeftAngle) argument_call_type builtin_type))))

module _ (kept : List Token) where
  statement_type : (table : List ℕ) (a k p e type place : ℕ) → StatementAt kept table a k p e type place → type ≡ type_by (token_at kept p).kind (token_at kept (suc p)).kind
  statement_type table a k p e type place (literal_at h) = rw h
  statement_type table a k p e type place (opcode_at h) = rw h
  statement_type table a k p e type place (label_call_at h n) = rw (h, ne_eqb (token_at kept (suc p)).kind OpenParen n)
  statement_type table a k p e type place (invocation_at h (paren_table o l c)) = rw (h, o)
  statement_type table a k p e type place (constant_at h i j) = rw h
  statement_type table a k p e type place (argument_call_at h i j) = rw h
  statement_type table a k p e type place (builtin_at h x) = rw h

  -- a statement never begins with a Label or a `}`
  statement_begins : (table : List ℕ) (a k p e type place : ℕ) → StatementAt kept table a k p e type place → ((token_at kept p).kind ≢ Label) × ((token_at kept p).kind ≢ CloseBrace)
  statement_begins table a k p e type place (literal_at h) = omega arith
  statement_begins table a k p e type place (opcode_at h) = omega arith
  statement_begins table a k p e type place (label_call_at h n) = omega arith
  statement_begins table a k p e type place (invocation_at h x) = omega arith
  statement_begins table a k p e type place (constant_at h i j) = omega arith
  statement_begins table a k p e type place (argument_call_at h i j) = omega arith
  statement_begins table a k p e type place (builtin_at h x) = omega arith

  -- two statements at one place, of one type
  typed_only : (t u : List ℕ) (a k k' p e e' type place place' : ℕ) → StatementAt kept t a k p e type place → StatementAt kept u a k' p e' type place'
      → (k ≡ k') × (e ≡ e') × (place ≡ place') × SameRecords argument_width t u a k
  typed_only t u a k k' p e e' type place place' (literal_at h) (literal_at h') = (refl, refl, refl, tt)
  typed_only t u a k k' p e e' type place place' (opcode_at h) (opcode_at h') = (refl, refl, refl, tt)
  typed_only t u a k k' p e e' type place place' (label_call_at h n) (label_call_at h' n') = (refl, refl, refl, tt)
  typed_only t u a k k' p e e' type place place' (invocation_at h x) (invocation_at h' x') =
      let inside = parens_only kept (CallWords kept) Begins (call_decided kept) t u a k k' (suc p) e e' x x' in
      (inside.0, inside.1, refl, inside.2)
  typed_only t u a k k' p e e' type place place' (constant_at h i j) (constant_at h' i' j') = (refl, refl, refl, tt)
  typed_only t u a k k' p e e' type place place' (argument_call_at h i j) (argument_call_at h' i' j') = (refl, refl, refl, tt)
  typed_only t u a k k' p e e' type place place' (builtin_at h x) (builtin_at h' x') =
      let inside = parens_only kept (BuiltinWords kept) Begins (builtin_decided kept) t u a k k' (suc p) e e' x x' in
      (inside.0, inside.1, refl, inside.2)

  -- and so of any
  statement_only : (t u : List ℕ) (a k k' p e e' type type' place place' : ℕ) → StatementAt kept t a k p e type place → StatementAt kept u a k' p e' type' place'
      → (type ≡ type') × (k ≡ k') × (e ≡ e') × (place ≡ place') × SameRecords argument_width t u a k
  statement_only t u a k k' p e e' type type' place place' h h' =
      let same = statement_type t a k p e type place h ∙ sym (statement_type u a k' p e' type' place' h') in
      let typed = typed_only t u a k k' p e e' type place place' h (subst (λ x. StatementAt kept u a k' p e' x place') (sym same) h') in
      (same, typed.0, typed.1, typed.2, typed.3)

  -- where statements end: at a Label or a `}`
  abbrev Stop : ℕ → Type 0
  Stop q = Stands kept q Label ⊎ Stands kept q CloseBrace

  not_stopped : (table : List ℕ) (a k p e type place : ℕ) → StatementAt kept table a k p e type place → Stop p → ⊥
  not_stopped table a k p e type place h stop = ⊎_elim (statement_begins table a k p e type place h).0 (statement_begins table a k p e type place h).1 stop

  -- labels up to a `}` begin where statements end
  labels_stop : (statements table : List ℕ) (i n a m p q : ℕ) → LabelTable kept statements table i n a m p q → Stands kept q CloseBrace → Stop p
  labels_stop statements table i n a m p q no_labels c = inr c
  labels_stop statements table i n a m p q (label h j r inner rest) c = inl h

  module _ (s t u v : List ℕ) where
    statements_only : (i n n' a m m' p q q' : ℕ) → StatementTable kept s t i n a m p q → Stop q → StatementTable kept u v i n' a m' p q' → Stop q'
        → (n ≡ n') × (m ≡ m') × (q ≡ q') × SameRecords statement_width s u i n × SameRecords argument_width t v a m
    statements_only i n n' a m m' p q q' no_statements c no_statements c' = (refl, refl, refl, tt, tt)
    statements_only i n n' a m m' p q q' no_statements c (statement {k = k} {e = e} {type = type} {place = place} h r rest) c' = absurd (not_stopped v a k p e type place h c)
    statements_only i n n' a m m' p q q' (statement {k = k} {e = e} {type = type} {place = place} h r rest) c no_statements c' = absurd (not_stopped t a k p e type place h c')
    statements_only i n n' a m m' p q q' (statement {n = l} {k = k} {m = o} {e = e} {type = type} {place = place} h r rest) c
        (statement {n = l'} {k = k'} {m = o'} {e = e'} {type = type'} {place = place'} h' r' rest') c' =
        let one = statement_only t v a k k' p e e' type type' place place' h h' in
        let moved = subst₂ (λ x y. StatementTable kept u v (suc i) l' (a + x) o' y q') (sym one.1) (sym one.2) rest' in
        let more = statements_only (suc i) l l' (a + k) o o' e q q' rest c moved c' in
        (ap suc more.0, ap₂ ◌+◌ one.1 more.1, more.2, ((cc (one.0, one.1, one.2, one.3, r, r')), more.3), same_append argument_width t v a k o one.4 more.4)

    labels_only : (i n n' a m m' p q q' : ℕ) → LabelTable kept s t i n a m p q → Stands kept q CloseBrace → LabelTable kept u v i n' a m' p q' → Stands kept q' CloseBrace
        → (n ≡ n') × (m ≡ m') × (q ≡ q') × SameRecords statement_width s u i n × SameRecords argument_width t v a m
    labels_only i n n' a m m' p q q' no_labels c no_labels c' = (refl, refl, refl, tt, tt)
    labels_only i n n' a m m' p q q' no_labels c (label h j r inner rest) c' = absurd (omega arith)
    labels_only i n n' a m m' p q q' (label h j r inner rest) c no_labels c' = absurd (omega arith)
    labels_only i n n' a m m' p q q' (label {k = k} {n = l} {h = g} {m = o} {e = e} h j r inner rest) c
        (label {k = k'} {n = l'} {h = g'} {m = o'} {e = e'} h' j' r' inner' rest') c' =
        let stop = labels_stop s t (suc i + k) l (a + g) o e q rest c in
        let stop' = labels_stop u v (suc i + k') l' (a + g') o' e' q' rest' c' in
        let one = statements_only (suc i) k k' a g g' (suc (suc p)) e e' inner stop inner' stop' in
        let moved = subst₃ (λ x y z. LabelTable kept u v (suc i + x) l' (a + y) o' z q') (sym one.0) (sym one.1) (sym one.2) rest' in
        let more = labels_only (suc i + k) l l' (a + g) o o' e q q' rest c moved c' in
        let own : record_of statement_width s i ≡ record_of statement_width u i = cc (one.0, one.2, r, r') in (
          ap₂ (λ x y. suc x + y) one.0 more.0,
          ap₂ ◌+◌ one.1 more.1,
          more.2,
          rw (suc-add k l) (own, same_append statement_width s u (suc i) k l one.3 more.3),
          same_append argument_width t v a g o one.4 more.4,
        )

-- a body: how many records it has, where it ends, and each of their words
pub body_only : (kept : List Token) (s t u v : List ℕ) (i n n' a m m' p q q' : ℕ) → BodyTable kept s t i n a m p q → BodyTable kept u v i n' a m' p q'
    → (n ≡ n') × (m ≡ m') × (q ≡ q') × SameRecords statement_width s u i n × SameRecords argument_width t v a m
body_only kept s t u v i n n' a m m' p q q' (body_table {n = l} {k = k} {m = g} {h = o} {e = e} {q = d} b h ls c)
    (body_table {n = l'} {k = k'} {m = g'} {h = o'} {e = e'} {q = d'} b' h' ls' c') =
    let stop = labels_stop kept s t (i + l) k (a + g) o e d ls c in
    let stop' = labels_stop kept u v (i + l') k' (a + g') o' e' d' ls' c' in
    let one = statements_only kept s t u v i l l' a g g' (suc p) e e' h stop h' stop' in
    let moved = subst₃ (λ x y z. LabelTable kept u v (i + x) k' (a + y) o' z d') (sym one.0) (sym one.1) (sym one.2) ls' in
    let more = labels_only kept s t u v (i + l) k k' (a + g) o o' e d d' ls c moved c' in
    (ap₂ ◌+◌ one.0 more.0, ap₂ ◌+◌ one.1 more.1, ap suc more.2, same_append statement_width s u i l k one.3 more.3, same_append argument_width t v a g o one.4 more.4)
