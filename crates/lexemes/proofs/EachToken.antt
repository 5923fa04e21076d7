-- What holds of every token of a text: its lexeme is not empty, its kind is known and not Eof, its text and extra are as "well formed" asks, and a Str stands between
-- quotes; and where a token of a list begins and ends, by its number. Assumes nothing.
use Prim.Native.Nat.{ℕ, ◌+◌, ◌-◌, ◌≤◌, ◌<◌}
use Prim.Native.Char.{code}
use mathlib.Core.Path.{◌≡◌, refl, sym, ap, ◌∙◌}
use mathlib.Core.Bool.{Bool, true, false, cond, not, ◌&&◌, false≢true}
use mathlib.Core.List.{List, [], ◌∷◌}
use native.Mathlib.Omega.{arith}
use borrow.Author.Tests.{ltb-true, ltb-false, lt-ltb, le-leb, eq-eqb, ne_eqb, not-true}
use lib.Dec.{ltb, eqb}
use lib.ListN.{length, get_or, take, drop}
use lib.Seq.{length-take-le}
use Rattle.tokens.specs.Byte.{bytes, is_hex, all_hex}
use Rattle.tokens.specs.Kind.{kinds, Eof, Whitespace, Comment, Include, Define, FreeStoragePointer, Ident, Label, Literal, Opcode, Num, Str, BuiltinFunction, PrimitiveType}
use Rattle.tokens.specs.Literal.{is_literal}
use Rattle.tokens.specs.Name.{reserved}
use Rattle.tokens.specs.Number.{longest_literal}
use Rattle.tokens.specs.Token.{kind_of, start_of, end_of, extra_of}
use Rattle.tokens.specs.WellFormed.{text_good, extra_good}
use Rattle.tokens.proofs.Laws.{and_left, and_right}
use Rattle.spelling.specs.Spelling.{spelt, value_of, marks, keywords, no_opcode, opcode_of, kind_outside}
use Rattle.lexemes.specs.Bytes.{is_quote, all, begins, first}
use Rattle.lexemes.specs.Contexts.{is_code, is_body}
use Rattle.lexemes.specs.Reads.{eof_at}
use Rattle.lexemes.specs.Right.{opens_at, closes_at, words_of}
use Rattle.lexemes.specs.Shapes.{Shape, space, line, block, string, define, include, mark, entry, literal, number, word, pointer}
use Rattle.lexemes.specs.Texts.{decimal, too_large, told, quotes, token_words, IsToken}
use Rattle.lexemes.specs.Words.{Told, plain, in_braces, by_place, word_of}
use Rattle.lexemes.specs.declared.Context.{Context}
use Rattle.lexemes.proofs.SpellingLaws.{passing, given_passes}
use Rattle.lexemes.proofs.FoundLaws.{shape_some}

-- ---- what a list of spellings gives

-- ---- kinds of which nothing more is asked

-- a known kind that is neither Eof, Literal nor Str
ordinary : ℕ → Bool
ordinary k = ltb 0 k && ltb k kinds && not (eqb k Literal) && not (eqb k Str)

keywords_ordinary : passing ordinary keywords ≡ true
unfolding passing ordinary keywords spelt
keywords_ordinary = refl

-- marks come before all kinds of words
marks_first : passing (λ k. ltb k Ident) marks ≡ true
unfolding passing marks spelt
marks_first = refl

-- whatever two tests say
true_anyway : (a b : Bool) → cond a true (cond b true true) ≡ true
true_anyway true b = refl
true_anyway false true = refl
true_anyway false false = refl

-- an extra of 0 is right for every kind
no_extra : (k : ℕ) → extra_good k 0 ≡ true
unfolding extra_good
no_extra k = true_anyway (eqb k Opcode) (eqb k Num)

-- ---- words

-- an ordinary kind, with an extra that is right for it
usual : Told → Bool
usual t = ordinary t.0 && extra_good t.0 t.1

plain_usual : (k : ℕ) → ordinary k ≡ true → usual (plain k) ≡ true
unfolding usual
plain_usual k h = rw (h, no_extra k)

either_usual : (b : Bool) (x y : Told) → (b ≡ true → usual x ≡ true) → usual y ≡ true → usual (cond b x y) ≡ true
either_usual true x y p q = p refl
either_usual false x y p q = q

outside_usual : (w : List ℕ) → usual (plain (kind_outside w)) ≡ true
unfolding ordinary
outside_usual w = plain_usual (kind_outside w) (given_passes ordinary keywords (cond (reserved w) PrimitiveType Ident) w keywords_ordinary (other (reserved w)))
  where
    other : (b : Bool) → ordinary (cond b PrimitiveType Ident) ≡ true
    other true = refl
    other false = refl

inside_usual : (w : List ℕ) → usual (in_braces w) ≡ true
unfolding usual in_braces ordinary extra_good
inside_usual w =
    either_usual (ltb (opcode_of w) no_opcode) (Opcode, opcode_of w) (plain Ident) (λ e. let small = ltb-true (opcode_of w) no_opcode e in le-leb (opcode_of w) 255 (omega arith)) refl

word_usual : (c : Context) (w : List ℕ) (next : ℕ) → usual (word_of c w next) ≡ true
unfolding usual word_of by_place ordinary extra_good
word_usual c w next =
    either_usual (is_code c) (plain Ident) _ (λ _. refl)
    (either_usual (eqb next (code ":")) (plain Label) _ (λ _. refl)
    (either_usual (eqb next (code "(") && begins (bytes "__") w) (plain BuiltinFunction) _ (λ _. refl)
    (either_usual (is_body c) (in_braces w) (plain (kind_outside w)) (λ _. inside_usual w) (outside_usual w))))

-- ---- lexemes

-- the bytes w are a lexeme of kind k; kind and extra of its token are t
pub record Sound (w : List ℕ) (k : ℕ) (t : Told) : Type 0 where
  pub some : 0 < length w
  pub room : quotes k + quotes k ≤ length w
  pub known : (0 < t.0) × (t.0 < kinds)
  -- token and lexeme leave the same quotes out
  pub quoting : quotes t.0 ≡ quotes k
  -- of a lexeme that leaves none out all bytes are the token's
  pub text : (p : List ℕ) → (quotes k ≡ 0 → p ≡ w) → text_good t.0 p ≡ true
  pub extra : extra_good t.0 t.1 ≡ true
  pub quoted : t.0 ≡ Str → (is_quote (first w) ≡ true) × (get_or w (length w - 1) 0 ≡ first w)

record Ordinary (k : ℕ) : Type 0 where
  known : (0 < k) × (k < kinds)
  no_literal : eqb k Literal ≡ false
  no_string : eqb k Str ≡ false

ordinary_says : (k : ℕ) → ordinary k ≡ true → Ordinary k
unfolding ordinary
ordinary_says k h =
    let some = ltb 0 k in
    let few = ltb k kinds in
    let literal = not (eqb k Literal) in
    let string = not (eqb k Str) in
    let upto-literal = and_left (some && few && literal) string h in
    let upto-few = and_left (some && few) literal upto-literal in
    record {
      known = (ltb-true _ _ (and_left some few upto-few), ltb-true _ _ (and_right some few upto-few));
      no_literal = not-true _ (and_right (some && few) literal upto-literal);
      no_string = not-true _ (and_right (some && few && literal) string h);
    }

-- the text of an ordinary kind may be anything but empty
ordinary_text : (k : ℕ) (p : List ℕ) → eqb k Literal ≡ false → 0 < length p → text_good k p ≡ true
unfolding text_good
ordinary_text k p e h = rw (e, lt-ltb 0 (length p) h) (true_anyway (eqb k Ident) (eqb k Label))

usual_sound : (w : List ℕ) (k : ℕ) (t : Told) → 0 < length w → quotes k ≡ 0 → usual t ≡ true → Sound w k t
unfolding usual quotes
usual_sound w k t some none h =
    let is = ordinary_says t.0 (and_left (ordinary t.0) (extra_good t.0 t.1) h) in
    record {
      some = some;
      room = omega (arith, none);
      known = is.known;
      quoting = rw is.no_string (sym none);
      text = λ p e. rw (e none) (ordinary_text t.0 w is.no_literal some);
      extra = and_right (ordinary t.0) (extra_good t.0 t.1) h;
      quoted = λ e. absurd (false≢true (sym is.no_string ∙ eq-eqb _ _ e));
    }

-- a mark's kind comes before all kinds of words
mark_low : (w : List ℕ) {k : ℕ} → value_of marks Eof w ≡ k → k < Ident
mark_low w {k} e = rw e at (ltb-true (value_of marks Eof w) Ident (given_passes (λ k. ltb k Ident) marks Eof w marks_first refl))

low_ordinary : (k : ℕ) → 0 < k → k < Ident → ordinary k ≡ true
unfolding ordinary
low_ordinary k h l = simp (lt-ltb 0 k h, lt-ltb k kinds (omega arith), ne_eqb k Literal (λ e. omega arith), ne_eqb k Str (λ e. omega arith))

low_quotes : (k : ℕ) → k < Ident → quotes k ≡ 0
unfolding quotes
low_quotes k l = rw (ne_eqb k Str (λ e. omega arith))

low_told : (c : Context) (k : ℕ) (w : List ℕ) (next : ℕ) → k < Ident → told c k w next ≡ plain k
unfolding told
low_told c k w next l = rw (ne_eqb k Ident (λ e. omega arith), ne_eqb k Num (λ e. omega arith))

all_hex_lem : (w : List ℕ) → all is_hex w ≡ all_hex w
unfolding all all_hex
all_hex_lem [] = refl
all_hex_lem (b ∷ w) = rw (all_hex_lem w)

literal_is : (w : List ℕ) → 3 ≤ length w → begins (bytes "0x") w ≡ true → all is_hex (drop 2 w) ≡ true → too_large Literal w ≡ false → is_literal w ≡ true
unfolding is_literal begins bytes too_large
literal_is w h b a small = simp (b, le-leb 3 (length w) h, le-leb (length w) longest_literal (ltb-false longest_literal (length w) small), ← all_hex_lem, a)

-- ---- by shape

-- a lexeme whose token is plain
plain_sound : (w : List ℕ) (k : ℕ) → 0 < length w → quotes k ≡ 0 → ordinary k ≡ true → Sound w k (plain k)
plain_sound w k h none is = usual_sound w k (plain k) h none (plain_usual k is)

shape_sound : (c : Context) (w rest : List ℕ) {k : ℕ} (next : ℕ) → Shape c w rest k → 0 < length w → too_large k w ≡ false → Sound w k (told c k w next)
unfolding told quotes ordinary bytes text_good extra_good usual
shape_sound c w rest next (space h a) some small = plain_sound w Whitespace some refl refl
shape_sound c w rest next (line b a) some small = plain_sound w Comment some refl refl
shape_sound c w rest next (block h b e n) some small = plain_sound w Comment some refl refl
shape_sound c w rest next (string h q e a) some small =
    record { some = some; room = h; known = (omega arith, omega arith); quoting = refl; text = λ p e. refl; extra = refl; quoted = λ _. (q, e) }
shape_sound c w rest next (define e b) some small = plain_sound w Define some refl refl
shape_sound c w rest next (include e b) some small = plain_sound w Include some refl refl
shape_sound c w rest next (mark {k} e h) some small =
    let low = mark_low w e in
    rw (low_told c k w next low) (plain_sound w k some (low_quotes k low) (low_ordinary k h low))
shape_sound c w rest next (entry x h a) some small = usual_sound w Ident (word_of c w next) some refl (word_usual c w next)
shape_sound c w rest next (literal x h b a) some small =
    record {
      some = some;
      room = omega arith;
      known = (omega arith, omega arith);
      quoting = refl;
      text = λ p e. rw (e refl) (literal_is w h b a small);
      extra = refl;
      quoted = λ e. absurd (omega (arith, e));
    }
shape_sound c w rest next (number x h a b) some small = usual_sound w Num (Num, decimal w) some refl refl
shape_sound c w rest next (word x h a b) some small = usual_sound w Ident (word_of c w next) some refl (word_usual c w next)
shape_sound c w rest next (pointer x e) some small = plain_sound w FreeStoragePointer some refl refl

-- ---- by number

-- token number i of the words is the one that n of the bytes bs are, which begin at byte s
module _ (words : List ℕ) (i : ℕ) {c : Context} {s n : ℕ} {bs : List ℕ} (is : IsToken c s bs n (words_of words i)) where
  abbrev its_bytes : List ℕ
  its_bytes = take n bs

  abbrev its_told : Told
  its_told = told c is.kind its_bytes (get_or bs n 0)

  pub sound_at : Sound its_bytes is.kind its_told
  sound_at = let s = is.lexeme.shape.1 in shape_sound c its_bytes (drop n bs) (get_or bs n 0) s (shape_some s) is.small

  pub size_at : length its_bytes ≡ n
  size_at = length-take-le n bs is.lexeme.shape.0

  pub kind_at : kind_of words i ≡ its_told.0
  unfolding token_words
  kind_at = ap (λ (t : List ℕ). get_or t 0 0) is.words

  pub start_at_lem : start_of words i ≡ s + quotes is.kind
  unfolding token_words
  start_at_lem = ap (λ (t : List ℕ). get_or t 1 0) is.words

  pub end_at_lem : end_of words i ≡ s + n - quotes is.kind
  unfolding token_words
  end_at_lem = ap (λ (t : List ℕ). get_or t 2 0) is.words ∙ rw size_at

  pub extra_at_lem : extra_of words i ≡ its_told.1
  unfolding token_words
  extra_at_lem = ap (λ (t : List ℕ). get_or t 3 0) is.words

  pub quotes_at : quotes (kind_of words i) ≡ quotes is.kind
  quotes_at = rw kind_at sound_at.quoting

  -- with the quotes that it leaves out it begins and ends where its bytes do
  pub opens_at_lem : opens_at words i ≡ s
  opens_at_lem = omega (arith, start_at_lem, quotes_at)

  pub closes_at_lem : closes_at words i ≡ s + n
  closes_at_lem = omega (arith, end_at_lem, quotes_at, sound_at.room, size_at)

-- an Eof at byte s
module _ (words : List ℕ) (i : ℕ) {s : ℕ} (is : words_of words i ≡ eof_at s) where
  pub eof_kind : kind_of words i ≡ Eof
  eof_kind = ap (λ (t : List ℕ). get_or t 0 0) is

  pub eof_start : start_of words i ≡ s
  eof_start = ap (λ (t : List ℕ). get_or t 1 0) is

  pub eof_end : end_of words i ≡ s
  eof_end = ap (λ (t : List ℕ). get_or t 2 0) is

  pub eof_extra : extra_of words i ≡ 0
  eof_extra = ap (λ (t : List ℕ). get_or t 3 0) is

  pub eof_opens : opens_at words i ≡ s
  unfolding quotes
  eof_opens = rw (eof_kind, eof_start) (omega arith)

  pub eof_closes : closes_at words i ≡ s
  unfolding quotes
  eof_closes = rw (eof_kind, eof_end) (omega arith)
