-- Request [4]: the ranges of a reading's tokens, with the left-out quotes, cover the text. Assumes nothing.
use Prim.Native.Nat.{ℕ, ◌+◌, ◌-◌, ◌≤◌, ◌<◌}
use mathlib.Core.Path.{◌≡◌, sym, ap, ◌∙◌}
use mathlib.Core.Bool.{true}
use mathlib.Core.List.{List, flatten}
use mathlib.Core.Logic.{⊎_elim}
use native.Mathlib.Nat.{eq-or-lt_of_le}
use native.Mathlib.Omega.{arith}
use lib.ListN.{get_or, take, drop}
use lib.Seq.{get_or-take, get_or-drop}
use Rattle.tokens.specs.Kind.{Str}
use Rattle.tokens.specs.Token.{token_count, kind_of, start_of, end_of}
use Rattle.lexemes.specs.Bytes.{is_quote, first}
use Rattle.lexemes.specs.Reads.{Reading}
use Rattle.lexemes.specs.Right.{opens_at, closes_at, words_of, Covers, Right}
use Rattle.lexemes.specs.Texts.{quotes, IsToken}
use Rattle.lexemes.specs.declared.Context.{Context}
use Rattle.lexemes.proofs.EachToken.{sound_at, size_at, kind_at, start_at_lem, end_at_lem, quotes_at, eof_kind, eof_opens, eof_closes}
use Rattle.lexemes.proofs.RightLaws.{reading_right}

-- byte j of the n bytes from byte s on
byte_of : (text : List ℕ) (s n j : ℕ) → j < n → get_or (take n (drop s text)) j 0 ≡ get_or text (s + j) 0
byte_of text s n j h = get_or-take n (drop s text) j 0 h ∙ get_or-drop s text j 0

-- a Str stands between two equal quotes
string_quoted : (text words : List ℕ) (i : ℕ) {c : Context} (s n : ℕ) → IsToken c s (drop s text) n (words_of words i) → kind_of words i ≡ Str
    → (0 < start_of words i) × (start_of words i ≤ end_of words i) × (is_quote (get_or text s 0) ≡ true) × (get_or text (end_of words i) 0 ≡ get_or text s 0)
unfolding quotes
string_quoted text words i s n is e =
    let sound = sound_at words i is in
    let size = size_at words i is in
    let one : quotes is.kind ≡ 1 = sym (quotes_at words i is) ∙ ap quotes e in
    let some : 0 < n = omega (arith, sound.some) in
    let (quote, closed) = sound.quoted (sym (kind_at words i is) ∙ e) in
    let opening : get_or text s 0 ≡ first (take n (drop s text)) = ap (λ (j : ℕ). get_or text j 0) (omega arith) ∙ sym (byte_of text s n 0 some) in
    let closing : get_or text (end_of words i) 0 ≡ get_or (take n (drop s text)) (n - 1) 0 =
    ap (λ (j : ℕ). get_or text j 0) (omega (arith, end_at_lem words i is, some)) ∙ sym (byte_of text s n (n - 1) (omega arith)) in
    (omega (arith, start_at_lem words i is), omega (arith, start_at_lem words i is, end_at_lem words i is, sound.room), rw opening quote, closing ∙ rw size at closed ∙ sym opening)

pub right_covers : (text words : List ℕ) → Right text words → Covers text words
right_covers text words right =
    record {
      any = right.some;
      start = right.start;
      next = right.next;
      end = λ i e. let is = right.last i e in (eof_opens words i is, eof_closes words i is);
      some = λ i h. let is = (right.each i h).1 in omega (arith, (sound_at words i is).some, size_at words i is);
      quoted = λ i h e.
          ⊎_elim
          (λ (l : i + 1 ≡ token_count words). absurd (omega (arith, eof_kind words i (right.last i l))))
          (λ (l : i + 1 < token_count words). string_quoted text words i (opens_at words i) (closes_at words i - opens_at words i) (right.each i l).1 e)
          (eq-or-lt_of_le (omega arith));
    }

pub reading_covers : (text : List ℕ) (ts : List (List ℕ)) → Reading text ts → Covers text (flatten ts)
reading_covers text ts r = right_covers text (flatten ts) (reading_right text ts r)
