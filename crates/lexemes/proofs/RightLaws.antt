-- Request [4]: a list of words is a text's reading exactly if it is right token by token. Assumes nothing.
use Prim.Native.Nat.{ℕ, zero, suc, ◌+◌, ◌-◌, ◌*◌, ◌≤◌, ◌<◌}
use mathlib.Core.Path.{◌≡◌, refl, sym, ap, ◌∙◌}
use mathlib.Core.List.{List, [], ◌∷◌, ◌++◌, flatten}
use mathlib.Core.Logic.{⊎_elim}
use native.Mathlib.Nat.{eq-or-lt_of_le}
use native.Mathlib.Numerals.{add-one, towards_suc}
use native.Mathlib.Omega.{arith}
use lib.ListN.{length, get_or, drop, length-append, length-drop, drop_of_length-le}
use lib.Seq.{drop-cons}
use Rattle.tokens.specs.Number.{token_width}
use Rattle.tokens.specs.Token.{token_count, kind_of}
use Rattle.lexemes.specs.Reads.{kind_in, eof_at, Reads, ends, goes, Reading}
use Rattle.lexemes.specs.Right.{opens_at, closes_at, context_at, words_of, Right}
use Rattle.lexemes.specs.Texts.{token_words, IsToken}
use Rattle.lexemes.specs.declared.Context.{Context}
use Rattle.lexemes.proofs.EachToken.{opens_at_lem, closes_at_lem, eof_opens}

-- ---- words by fours

four_words : (l : List ℕ) (a : ℕ) → a + 3 < length l → drop a l ≡ get_or l a 0 ∷ get_or l (a + 1) 0 ∷ get_or l (a + 2) 0 ∷ get_or l (a + 3) 0 ∷ drop (a + 4) l
four_words l a h =
    simp towards_suc
    (rw (drop-cons l a 0 (omega arith), drop-cons l (suc a) 0 (omega arith), drop-cons l (suc (suc a)) 0 (omega arith), drop-cons l (suc (suc (suc a))) 0 (omega arith)))

module _ (words : List ℕ) (i : ℕ) where
  -- the words from token number i on are its four and those behind
  drop_token : i < token_count words → drop (i * token_width) words ≡ words_of words i ++ drop (suc i * token_width) words
  drop_token h =
      let on : i * token_width + 4 ≡ suc i * token_width = omega arith in
      rw (four_words words (i * token_width) (omega arith), on)

  -- where they are these four and a rest, the token is these, and the rest is behind it
  first_token : {kind start end extra : ℕ} (rest : List ℕ) → drop (i * token_width) words ≡ kind ∷ start ∷ end ∷ extra ∷ rest
      → (i < token_count words) × (words_of words i ≡ kind ∷ start ∷ end ∷ extra ∷ []) × (drop (suc i * token_width) words ≡ rest)
  first_token rest d =
      let inside : i < token_count words = omega (arith, ap length d, length-drop (i * token_width) words) in
      let e = drop_token inside in
      (inside, (cc), (cc))

-- ---- a reading is right

-- its words are four a token
pub reads_words : {text : List ℕ} {c : Context} {s : ℕ} {ts : List (List ℕ)} → Reads text c s ts → length (flatten ts) ≡ length ts * token_width
unfolding flatten token_words
reads_words (ends e) = refl
reads_words (goes {t = t} {ts = ts} l is rest) = omega (arith, length-append t (flatten ts), ap length is.words, reads_words rest)

module _ (text words : List ℕ) where
  -- from number i on, which begins at byte s
  record RightFrom (i s : ℕ) : Type 0 where
    some : i < token_count words
    start : opens_at words i ≡ s
    next : (j : ℕ) → i ≤ j → j + 1 < token_count words → opens_at words (j + 1) ≡ closes_at words j
    each : (j : ℕ) → i ≤ j → j + 1 < token_count words
        → (opens_at words j < length text)
        × IsToken (context_at words j) (opens_at words j) (drop (opens_at words j) text) (closes_at words j - opens_at words j) (words_of words j)
    last : (j : ℕ) → i ≤ j → j + 1 ≡ token_count words → words_of words j ≡ eof_at (length text)

  end_right : (i s : ℕ) → s ≡ length text → drop (i * token_width) words ≡ eof_at s → RightFrom i s
  end_right i s e d =
      let f = first_token words i [] d in
      let count : token_count words ≡ suc i = omega (arith, f.0, ap length f.2, length-drop (suc i * token_width) words) in
      record {
        some = f.0;
        start = eof_opens words i f.1;
        next = λ j h l. absurd (omega arith);
        each = λ j h l. absurd (omega arith);
        last = λ j h l. let same : j ≡ i = omega arith in rw (same, ← e) f.1;
      }

  more_right : (i s n : ℕ) (t rest : List ℕ) → s < length text → IsToken (context_at words i) s (drop s text) n t → drop (i * token_width) words ≡ t ++ rest
      → (drop (suc i * token_width) words ≡ rest → kind_of words i ≡ kind_in t → RightFrom (suc i) (s + n)) → RightFrom i s
  unfolding token_words
  more_right i s n t rest l is d below =
      let f = first_token words i rest (rw is.words at d) in
      let here : words_of words i ≡ t = f.1 ∙ sym is.words in
      let its : IsToken (context_at words i) s (drop s text) n (words_of words i) = rw here is in
      let behind = below f.2 (ap kind_in here) in
      let opens = opens_at_lem words i its in
      let closes = closes_at_lem words i its in
      let size : closes_at words i - opens_at words i ≡ n = omega arith in
      record {
        some = f.0;
        start = opens;
        next = λ j h k.
            ⊎_elim (λ (e : i ≡ j). rw (← e, add-one i) (behind.start ∙ sym closes)) (λ (e : i < j). behind.next j e k) (eq-or-lt_of_le h);
        each = λ j h k.
            ⊎_elim (λ (e : i ≡ j). rw (← e) (rw opens l, rw (size, opens) its)) (λ (e : i < j). behind.each j e k) (eq-or-lt_of_le h);
        last = λ j h k. ⊎_elim (λ (e : i ≡ j). absurd (omega (arith, behind.some))) (λ (e : i < j). behind.last j e k) (eq-or-lt_of_le h);
      }

  reads_right : {c : Context} {s : ℕ} {ts : List (List ℕ)} → Reads text c s ts → (i : ℕ) → drop (i * token_width) words ≡ flatten ts → context_at words i ≡ c → RightFrom i s
  unfolding flatten context_at
  reads_right (ends {s = s} e) i d x = end_right i s e d
  reads_right (goes {s = s} {n = n} {t = t} {ts = ts} l is rest) i d x =
      more_right i s n t (flatten ts) l (rw x is) d (λ behind k. reads_right rest (suc i) behind (rw (x, k)))

pub reading_right : (text : List ℕ) (ts : List (List ℕ)) → Reading text ts → Right text (flatten ts)
unfolding context_at
reading_right text ts r =
    let from = reads_right text (flatten ts) r 0 refl refl in
    record {
      whole = omega (arith, reads_words r);
      some = from.some;
      start = from.start;
      next = λ i. from.next i (omega arith);
      each = λ i. from.each i (omega arith);
      last = λ i. from.last i (omega arith);
    }

-- ---- what is right is a reading

-- the tokens from number i on
module _ (text words : List ℕ) (right : Right text words) where
  abbrev ReadFrom : ℕ → Type 0
  ReadFrom i = (ts : List (List ℕ)) × Reads text (context_at words i) (opens_at words i) ts × (drop (i * token_width) words ≡ flatten ts)

  read_from : (left i : ℕ) → i + suc left ≡ token_count words → ReadFrom i
  unfolding flatten context_at
  read_from zero i e =
      let is = right.last i (omega arith) in
      let s = opens_at words i in
      let at : s ≡ length text = eof_opens words i is in
      let over : drop (suc i * token_width) words ≡ [] = drop_of_length-le words {i = suc i * token_width} (omega (arith, right.whole)) in
      (eof_at s ∷ [], ends at, drop_token words i (omega arith) ∙ ap (λ (t : List ℕ). t ++ drop (suc i * token_width) words) is ∙ rw (over, at))
  read_from (suc left) i e =
      let (l, is) = right.each i (omega arith) in
      let (ts, reads, flat) = read_from left (suc i) (omega arith) in
      let behind : opens_at words (suc i) ≡ opens_at words i + (closes_at words i - opens_at words i) = rw (add-one i) at (right.next i (omega arith)) ∙ closes_at_lem words i is in
      (words_of words i ∷ ts, goes l is (rw behind at reads), drop_token words i (omega arith) ∙ rw flat)

pub right_reading : (text words : List ℕ) → Right text words → (ts : List (List ℕ)) × Reading text ts × (words ≡ flatten ts)
unfolding context_at
right_reading text words right =
    let (ts, reads, flat) = read_from text words right (token_count words - 1) 0 (omega (arith, right.some)) in
    (ts, rw right.start at reads, flat)
