-- Where a token is read is where the document says that it stands: inside braces, inside a code table's. Assumes nothing.
use Prim.Native.Nat.{ℕ, zero, suc, ◌+◌, ◌-◌, ◌≤◌, ◌<◌}
use Prim.Native.Char.{code}
use mathlib.Core.Path.{◌≡◌, refl, sym, ap, subst, ◌∙◌}
use mathlib.Core.Bool.{Bool, true, false, cond, not, ◌&&◌, false≢true, true≢false}
use mathlib.Core.List.{List}
use mathlib.Core.Logic.{⊎_elim, ◌↔◌}
use native.Mathlib.Omega.{arith}
use borrow.Author.Tests.{eqb-true, eqb-false, ne_eqb}
use lib.Dec.{eqb, ltb}
use lib.ListN.{get_or, drop}
use Rattle.tokens.specs.Byte.{bytes}
use Rattle.tokens.specs.Kind.{Eof, CodeTable, OpenBrace, CloseBrace, Ident, Num}
use Rattle.tokens.specs.Token.{token_count, kind_of}
use Rattle.tokens.proofs.Laws.{lt_or_le}
use Rattle.spelling.specs.Spelling.{spelt, value_of, marks, no_opcode, opcode_of}
use Rattle.lexemes.specs.Bytes.{begins}
use Rattle.lexemes.specs.Contexts.{is_code, is_body, is_inside, after}
use Rattle.lexemes.specs.Shapes.{Shape, space, line, block, string, define, include, mark, entry, literal, number, word, pointer}
use Rattle.lexemes.specs.Words.{Told, in_braces, by_place, word_of}
use Rattle.lexemes.specs.Texts.{told, token_words, IsToken}
use Rattle.lexemes.specs.Right.{opens_at, closes_at, context_at, words_of, Right}
use Rattle.lexemes.specs.Braces.{NoneBetween, InBraces, BehindTable, InCodeTable}
use Rattle.lexemes.proofs.SpellingLaws.{passing, given_passes}
use Rattle.lexemes.specs.declared.Context.{Context}
use Rattle.lexemes.specs.declared.Context.TheVariants.{Out, Wait, Body, Code}

-- outside braces, with a code table's still to come
is_wait : Context → Bool
is_wait Out = false
is_wait Wait = true
is_wait Body = false
is_wait Code = false

-- a test that goes one way
by_test : {A : Type 0} (P : A → Type 0) (t : Bool) {a b : A} → (t ≡ true → P a) → (t ≡ false → P b) → P (cond t a b)
by_test P true p q = p refl
by_test P false p q = q refl

-- ---- a CodeTable stands outside braces

-- this is no CodeTable's kind
abbrev NoTable : Told → Type 0
NoTable t = ¬ (t.0 ≡ CodeTable)

-- inside braces no word is one
word_no_table : (c : Context) (w : List ℕ) (next : ℕ) → is_inside c ≡ true → NoTable (word_of c w next)
unfolding word_of by_place in_braces is_code is_body
word_no_table Out w next e = absurd (false≢true e)
word_no_table Wait w next e = absurd (false≢true e)
word_no_table Body w next e =
    by_test NoTable (eqb next (code ":")) (λ _ k. omega arith)
    (λ _. by_test NoTable (eqb next (code "(") && begins (bytes "__") w) (λ _ k. omega arith)
    (λ _. by_test NoTable (ltb (opcode_of w) no_opcode) (λ _ k. omega arith) (λ _ k. omega arith)))
word_no_table Code w next e = λ k. omega arith

-- no mark is one
mark_no_table : (w : List ℕ) → ¬ (value_of marks Eof w ≡ CodeTable)
unfolding marks spelt passing
mark_no_table w e = true≢false (sym (given_passes (λ k. not (eqb k CodeTable)) marks Eof w refl refl) ∙ rw e)

-- no other lexeme is one anywhere
shape_no_table : {c : Context} {w rest : List ℕ} {k : ℕ} → Shape c w rest k → ¬ (k ≡ CodeTable)
shape_no_table (space h a) e = omega arith
shape_no_table (line b a) e = omega arith
shape_no_table (block h b x f) e = omega arith
shape_no_table (string h q x a) e = omega arith
shape_no_table (define x n) e = omega arith
shape_no_table (include x n) e = omega arith
shape_no_table {w = w} (mark v p) e = mark_no_table w (v ∙ e)
shape_no_table (entry o h a) e = omega arith
shape_no_table (literal o h b a) e = omega arith
shape_no_table (number o h a x) e = omega arith
shape_no_table (word o h a d) e = omega arith
shape_no_table (pointer o x) e = omega arith

told_no_table : {c : Context} {w rest : List ℕ} {k : ℕ} (next : ℕ) → Shape c w rest k → is_inside c ≡ true → NoTable (told c k w next)
unfolding told
told_no_table {c} {w} {k = k} next s e =
    by_test NoTable (eqb k Ident) (λ _. word_no_table c w next e) (λ _. by_test NoTable (eqb k Num) (λ _ n. omega arith) (λ _. shape_no_table s))

module _ (words : List ℕ) where
  -- what held up to number i of the tokens since, and holds of the one at i, holds up to the next
  none_more : (kind a i : ℕ) → NoneBetween words kind a i → ¬ (kind_of words i ≡ kind) → NoneBetween words kind a (suc i)
  none_more kind a i n k m l h e =
      ⊎_elim (λ (b : m < i). n m l b e) (λ (b : i ≤ m). let z : m ≡ i = omega arith in k (subst (λ (x : ℕ). kind_of words x ≡ kind) z e)) (lt_or_le m i)

  none_yet : (kind a : ℕ) → NoneBetween words kind a (suc a)
  none_yet kind a m l h e = absurd (omega arith)

  -- ---- inside braces

  braces_open : (i : ℕ) → eqb (kind_of words i) OpenBrace ≡ true → InBraces words (suc i)
  braces_open i h = record { brace = i; before = omega arith; opening = eqb-true (kind_of words i) OpenBrace h; unclosed = none_yet CloseBrace i }

  braces_stay : (i : ℕ) → eqb (kind_of words i) CloseBrace ≡ false → InBraces words i → InBraces words (suc i)
  braces_stay i h b =
      let l = b.before in
      record { brace = b.brace; before = omega arith; opening = b.opening; unclosed = none_more CloseBrace b.brace i b.unclosed (eqb-false (kind_of words i) CloseBrace h) }

  -- a context in which one reads inside braces, if at all
  abbrev If : Type 0 → Context → Type 0
  If A c = is_inside c ≡ true → A

  step_inside : (i : ℕ) (c : Context) → If (InBraces words i) c → If (InBraces words (suc i)) (after c (kind_of words i))
  unfolding after is_body is_code
  step_inside i Out f =
      by_test (If (InBraces words (suc i))) (eqb (kind_of words i) CodeTable) (λ _ e. absurd (false≢true e))
      (λ _. by_test (If (InBraces words (suc i))) (eqb (kind_of words i) OpenBrace) (λ h _. braces_open i h) (λ _ e. absurd (false≢true e)))
  step_inside i Wait f = by_test (If (InBraces words (suc i))) (eqb (kind_of words i) OpenBrace) (λ h _. braces_open i h) (λ _ e. absurd (false≢true e))
  step_inside i Body f = by_test (If (InBraces words (suc i))) (eqb (kind_of words i) CloseBrace) (λ _ e. absurd (false≢true e)) (λ h _. braces_stay i h (f refl))
  step_inside i Code f = by_test (If (InBraces words (suc i))) (eqb (kind_of words i) CloseBrace) (λ _ e. absurd (false≢true e)) (λ h _. braces_stay i h (f refl))

  inside_braces : (i : ℕ) → If (InBraces words i) (context_at words i)
  unfolding context_at is_body is_code
  inside_braces zero e = absurd (false≢true e)
  inside_braces (suc i) e = step_inside i (context_at words i) (inside_braces i) e

  -- behind an OpenBrace, and as long as no CloseBrace comes
  after_open : (c : Context) → is_inside (after c OpenBrace) ≡ true
  unfolding after is_body is_code
  after_open Out = refl
  after_open Wait = refl
  after_open Body = refl
  after_open Code = refl

  after_other : (c : Context) (k : ℕ) → is_inside c ≡ true → eqb k CloseBrace ≡ false → after c k ≡ c
  unfolding after is_body is_code
  after_other Out k e h = absurd (false≢true e)
  after_other Wait k e h = absurd (false≢true e)
  after_other Body k e h = rw h
  after_other Code k e h = rw h

  -- the same context from number b + 1 on, as long as no CloseBrace comes
  stays_inside : (b n : ℕ) → is_inside (context_at words (suc b)) ≡ true → NoneBetween words CloseBrace b (suc b + n) → context_at words (suc b + n) ≡ context_at words (suc b)
  unfolding context_at
  stays_inside b zero e f = let z : suc b + 0 ≡ suc b = omega arith in rw z
  stays_inside b (suc n) e f =
      let z : suc b + suc n ≡ suc (suc b + n) = omega arith in
      let r = stays_inside b n e (λ m l h. f m l (omega arith)) in
      rw z (after_other (context_at words (suc b + n)) (kind_of words (suc b + n)) (rw r e) (ne_eqb (kind_of words (suc b + n)) CloseBrace (f (suc b + n) (omega arith) (omega arith))) ∙ r)

  braces_inside : (i : ℕ) → InBraces words i → is_inside (context_at words i) ≡ true
  unfolding context_at
  braces_inside i b =
      let l = b.before in
      let z : suc b.brace + (i - suc b.brace) ≡ i = omega arith in
      let o : is_inside (context_at words (suc b.brace)) ≡ true = rw b.opening (after_open (context_at words b.brace)) in
      let r = stays_inside b.brace (i - suc b.brace) o (rw z b.unclosed) in
      let s : context_at words i ≡ context_at words (suc b.brace) = rw z at r in
      rw s o

  -- a token is read inside braces exactly if it stands inside braces
  pub inside_exactly : (i : ℕ) → (is_inside (context_at words i) ≡ true) ↔ InBraces words i
  inside_exactly i = (inside_braces i, braces_inside i)

  -- ---- inside a code table's braces

  -- a context in which a code table's braces are still to come, or in them, if at all
  abbrev IfWait : Type 0 → Context → Type 0
  IfWait A c = is_wait c ≡ true → A

  abbrev IfCode : Type 0 → Context → Type 0
  IfCode A c = is_code c ≡ true → A

  table_comes : (i : ℕ) → eqb (kind_of words i) CodeTable ≡ true → BehindTable words (suc i)
  table_comes i h = record { table = i; before = omega arith; is = eqb-true (kind_of words i) CodeTable h; since = none_yet OpenBrace i }

  table_stays : (i : ℕ) → eqb (kind_of words i) OpenBrace ≡ false → BehindTable words i → BehindTable words (suc i)
  table_stays i h b =
      let l = b.before in
      record { table = b.table; before = omega arith; is = b.is; since = none_more OpenBrace b.table i b.since (eqb-false (kind_of words i) OpenBrace h) }

  step_wait : (i : ℕ) (c : Context) → IfWait (BehindTable words i) c → IfWait (BehindTable words (suc i)) (after c (kind_of words i))
  unfolding after is_wait
  step_wait i Out f =
      by_test (IfWait (BehindTable words (suc i))) (eqb (kind_of words i) CodeTable) (λ h _. table_comes i h)
      (λ _. by_test (IfWait (BehindTable words (suc i))) (eqb (kind_of words i) OpenBrace) (λ _ e. absurd (false≢true e)) (λ _ e. absurd (false≢true e)))
  step_wait i Wait f = by_test (IfWait (BehindTable words (suc i))) (eqb (kind_of words i) OpenBrace) (λ _ e. absurd (false≢true e)) (λ h _. table_stays i h (f refl))
  step_wait i Body f = by_test (IfWait (BehindTable words (suc i))) (eqb (kind_of words i) CloseBrace) (λ _ e. absurd (false≢true e)) (λ _ e. absurd (false≢true e))
  step_wait i Code f = by_test (IfWait (BehindTable words (suc i))) (eqb (kind_of words i) CloseBrace) (λ _ e. absurd (false≢true e)) (λ _ e. absurd (false≢true e))

  waits : (i : ℕ) → IfWait (BehindTable words i) (context_at words i)
  unfolding context_at is_wait
  waits zero e = absurd (false≢true e)
  waits (suc i) e = step_wait i (context_at words i) (waits i) e

  code_opens : (i : ℕ) → BehindTable words i → eqb (kind_of words i) OpenBrace ≡ true → InCodeTable words (suc i)
  code_opens i b h = record { brace = i; behind = b; before = omega arith; opening = eqb-true (kind_of words i) OpenBrace h; unclosed = none_yet CloseBrace i }

  code_stays : (i : ℕ) → eqb (kind_of words i) CloseBrace ≡ false → InCodeTable words i → InCodeTable words (suc i)
  code_stays i h b =
      let l = b.before in
      record { brace = b.brace; behind = b.behind; before = omega arith; opening = b.opening; unclosed = none_more CloseBrace b.brace i b.unclosed (eqb-false (kind_of words i) CloseBrace h) }

  step_code : (i : ℕ) (c : Context) → IfWait (BehindTable words i) c → IfCode (InCodeTable words i) c → IfCode (InCodeTable words (suc i)) (after c (kind_of words i))
  unfolding after is_code is_wait
  step_code i Out b f =
      by_test (IfCode (InCodeTable words (suc i))) (eqb (kind_of words i) CodeTable) (λ _ e. absurd (false≢true e))
      (λ _. by_test (IfCode (InCodeTable words (suc i))) (eqb (kind_of words i) OpenBrace) (λ _ e. absurd (false≢true e)) (λ _ e. absurd (false≢true e)))
  step_code i Wait b f = by_test (IfCode (InCodeTable words (suc i))) (eqb (kind_of words i) OpenBrace) (λ h _. code_opens i (b refl) h) (λ _ e. absurd (false≢true e))
  step_code i Body b f = by_test (IfCode (InCodeTable words (suc i))) (eqb (kind_of words i) CloseBrace) (λ _ e. absurd (false≢true e)) (λ _ e. absurd (false≢true e))
  step_code i Code b f = by_test (IfCode (InCodeTable words (suc i))) (eqb (kind_of words i) CloseBrace) (λ _ e. absurd (false≢true e)) (λ h _. code_stays i h (f refl))

  codes : (i : ℕ) → IfCode (InCodeTable words i) (context_at words i)
  unfolding context_at is_code
  codes zero e = absurd (false≢true e)
  codes (suc i) e = step_code i (context_at words i) (waits i) (codes i) e

  -- as long as no OpenBrace comes one waits for it
  wait_other : (c : Context) (k : ℕ) → c ≡ Wait → eqb k OpenBrace ≡ false → after c k ≡ Wait
  unfolding after
  wait_other c k e h = rw (e, h)

  stays_waiting : (b n : ℕ) → context_at words (suc b) ≡ Wait → NoneBetween words OpenBrace b (suc b + n) → context_at words (suc b + n) ≡ Wait
  unfolding context_at
  stays_waiting b zero e f = let z : suc b + 0 ≡ suc b = omega arith in rw z e
  stays_waiting b (suc n) e f =
      let z : suc b + suc n ≡ suc (suc b + n) = omega arith in
      let r = stays_waiting b n e (λ m l h. f m l (omega arith)) in
      rw z (wait_other (context_at words (suc b + n)) (kind_of words (suc b + n)) r (ne_eqb (kind_of words (suc b + n)) OpenBrace (f (suc b + n) (omega arith) (omega arith))))

  -- behind a CodeTable that stands outside braces
  after_table : (c : Context) → is_inside c ≡ false → after c CodeTable ≡ Wait
  unfolding after is_body is_code
  after_table Out e = refl
  after_table Wait e = refl
  after_table Body e = absurd (false≢true (sym e))
  after_table Code e = absurd (false≢true (sym e))

  after_wait : after Wait OpenBrace ≡ Code
  unfolding after
  after_wait = refl

-- of a list that is right token by token
module _ (text words : List ℕ) (right : Right text words) where
  table_outside : (i : ℕ) → i + 1 < token_count words → kind_of words i ≡ CodeTable → is_inside (context_at words i) ≡ false
  unfolding token_words
  table_outside i h k = go (is_inside (context_at words i)) refl
    where
      t : IsToken (context_at words i) (opens_at words i) (drop (opens_at words i) text) (closes_at words i - opens_at words i) (words_of words i)
      t = (right.each i h).1

      go : (b : Bool) → is_inside (context_at words i) ≡ b → b ≡ false
      go false e = refl
      go true e = absurd (told_no_table (get_or (drop (opens_at words i) text) (closes_at words i - opens_at words i) 0) t.lexeme.shape.1 e (sym (ap (λ (x : List ℕ). get_or x 0 0) t.words) ∙ k))

  code_inside : (i : ℕ) → i < token_count words → InCodeTable words i → is_code (context_at words i) ≡ true
  unfolding context_at is_body is_code
  code_inside i h b =
      let l = b.before in
      let j = b.brace in
      let y = b.behind in
      let m = y.before in
      let o = table_outside y.table (omega arith) y.is in
      let w₁ : context_at words (suc y.table) ≡ Wait = rw y.is (after_table words (context_at words y.table) o) in
      let z₁ : suc y.table + (j - suc y.table) ≡ j = omega arith in
      let w₂ : context_at words j ≡ Wait = rw z₁ at (stays_waiting words y.table (j - suc y.table) w₁ (rw z₁ y.since)) in
      let c₁ : context_at words (suc j) ≡ Code = rw (w₂, b.opening) (after_wait words) in
      let z₂ : suc j + (i - suc j) ≡ i = omega arith in
      let c₂ : context_at words i ≡ context_at words (suc j) = rw z₂ at (stays_inside words j (i - suc j) (rw c₁ refl) (rw z₂ b.unclosed)) in
      rw (c₂, c₁)

  -- a token is read inside a code table's braces exactly if it stands inside braces that are next after a CodeTable
  pub code_exactly : (i : ℕ) → i < token_count words → (is_code (context_at words i) ≡ true) ↔ InCodeTable words i
  code_exactly i h = (codes words i, code_inside i h)
