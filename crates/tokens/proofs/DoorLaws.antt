-- The door's walks over the tokens, a turn at a time, and what its answers mean. Assumes nothing.
use Prim.Native.Nat.{ℕ, zero, suc, ◌+◌, ◌-◌, ◌*◌, ◌≤◌, ◌<◌}
use mathlib.Core.Path.{◌≡◌, refl, sym, ap, ◌∙◌}
use mathlib.Core.Bool.{Bool, true, false, cond, not, ◌&&◌, and-true, and-false, true≢false, false≢true}
use borrow.Author.Tests.{not-true, ltb-true, ltb-false, leb-true, eqb-true, lt-ltb, le-ltb, le-leb, eq-eqb, ne_eqb}
use lib.Dec.{ltb, leb, eqb}
use mathlib.Core.List.{List, [], ◌∷◌, ◌++◌, append-nil}
use mathlib.Core.Logic.{⊎_elim}
use native.Mathlib.Nat.{eq-or-lt_of_le, add-zero, sub-zero}
use native.Mathlib.Omega.{arith}
use native.Mathlib.Numerals.{add-one}
use lib.ListN.{length, get_or, set, take, drop, drop_of_length-le}
use lib.Seq.{sets, set-set, sets-eq, length-take-le}
use Rattle.tokens.specs.Kind.{Eof, kinds}
use Rattle.tokens.specs.Literal.{is_literal}
use Rattle.tokens.specs.Token.{kind_of, start_of, end_of, extra_of, token_count, part, numbers}
use Rattle.tokens.specs.WellFormed.{good_after, good, bad_from, first_bad, prev_end, range_good, eof_good, text_good, extra_good, contents_good, whole_good, WellFormed}
use Rattle.tokens.specs.Number as number
use Rattle.std.specs.Prelude.{Option, Some, None}
use Rattle.std.proofs.lemmas.Option.{none-some, same_Some}
use Rattle.tokens.specs.Door.{door}
use Rattle.tokens.specs.Kept.{dropped, kept_from, kept_of, keep_unless}
use Rattle.tokens.specs.Keep.{EofLast}
use Rattle.tokens.proofs.Laws.{lt_or_le, left_step, left_none, and_left, and_right}
use Rattle.tokens.proofs.FormedLaws.{whole_says, good_says}

-- ---- the first bad token

-- the test with the end that was carried along is the test
pub good_is : (text words : List ℕ) {prev : ℕ} (i : ℕ) {b : Bool} → prev ≡ prev_end words i → good_after text words prev i ≡ b → good text words i ≡ b
unfolding good
good_is text words i e h = rw e at h

module _ (text words : List ℕ) (n i : ℕ) where
  -- a good token is passed
  pub bad_later : i < n → good text words i ≡ true → bad_from text words (n - i) i ≡ bad_from text words (n - (i + 1)) (i + 1)
  unfolding bad_from
  bad_later h e = rw (left_step n i h, e)

  -- a bad one is the answer
  pub bad_here : i < n → good text words i ≡ false → bad_from text words (n - i) i ≡ i
  unfolding bad_from
  bad_here h e = rw (left_step n i h, e)

  -- none is left
  pub bad_none : n ≤ i → bad_from text words (n - i) i ≡ i
  unfolding bad_from
  bad_none h = rw (left_none n i h)

-- a kind below Ident and other than Eof, as the first test of `contents_good` has it
abbrev Plain : ℕ → Bool → Type 0
Plain kind b = (not (eqb kind 0) && ltb kind 38) ≡ b

-- behind that test, a kind other than Eof is Ident or one above it
pub not_plain : (kind : ℕ) → Plain kind false → (kind ≡ 0 → ⊥) → 38 ≤ kind
not_plain kind h e = ltb-false _ _ (rw (ne_eqb kind 0 e) at h)

-- a kind that is not Eof
not_zero : (k : ℕ) → not (eqb k Eof) ≡ true → 0 < k
not_zero zero e = absurd (true≢false (sym e))
not_zero (suc k) e = omega arith

-- what a token that is not the last one is asked, kind by kind
module _ (text : List ℕ) (kind start end extra : ℕ) where
  abbrev Asked : Bool → Type 0
  Asked b = (ltb kind kinds && eof_good false kind && contents_good text kind start end extra) ≡ b

  -- a plain kind has no text of its own and no extra
  pub asked_plain : Plain kind true → Asked (eqb extra 0)
  unfolding eof_good contents_good text_good extra_good
  asked_plain h =
      let no_eof = not-true (eqb kind 0) (and_left (not (eqb kind 0)) (ltb kind 38) h) in
      let below = ltb-true kind 38 (and_right (not (eqb kind 0)) (ltb kind 38) h) in
      rw (lt-ltb kind 46 (omega arith), no_eof, ne_eqb kind 38 (λ e. omega arith), ne_eqb kind 39 (λ e. omega arith), ne_eqb kind 40 (λ e. omega arith), ne_eqb kind 41 (λ e. omega arith), ne_eqb kind 42 (λ e. omega arith))

  pub asked_opcode : kind ≡ 41 → Asked (leb extra 255)
  unfolding eof_good contents_good text_good extra_good
  asked_opcode h = rw h

  pub asked_number : kind ≡ 42 → Asked true
  unfolding eof_good contents_good text_good extra_good
  asked_number h = rw h

  pub asked_literal : kind ≡ 40 → extra ≡ 0 → Asked (is_literal (part text start end))
  unfolding eof_good contents_good text_good extra_good
  asked_literal h e = rw (h, e, and-true)

  -- only Opcode and Num have an extra
  pub asked_extra : (kind ≡ 41 → ⊥) → (kind ≡ 42 → ⊥) → (extra ≡ 0 → ⊥) → Asked false
  unfolding contents_good extra_good
  asked_extra a b e = rw (ne_eqb kind 41 a, ne_eqb kind 42 b, ne_eqb extra 0 e, and-false, and-false)

  -- an Eof stands last
  pub asked_eof : kind ≡ 0 → Asked false
  unfolding eof_good
  asked_eof h = rw h

  -- but for a Literal, only Ident and Label have a text of their own
  pub asked_name : 38 ≤ kind → kind < 40 → extra ≡ 0 → Asked (ltb 0 (length (part text start end)))
  unfolding eof_good contents_good text_good extra_good
  asked_name h k e =
      ⊎_elim
      (λ (i : kind < 39). let is : kind ≡ 38 = omega arith in rw (is, e, and-true))
      (λ (i : 39 ≤ kind). let is : kind ≡ 39 = omega arith in rw (is, e, and-true))
      (lt_or_le kind 39)

  pub asked_rest : 40 ≤ kind → (kind ≡ 40 → ⊥) → (kind ≡ 41 → ⊥) → (kind ≡ 42 → ⊥) → extra ≡ 0 → Asked (ltb kind kinds)
  unfolding eof_good contents_good text_good extra_good
  asked_rest h a b d e =
      rw (ne_eqb kind 0 (λ i. omega arith), ne_eqb kind 38 (λ i. omega arith), ne_eqb kind 39 (λ i. omega arith), ne_eqb kind 40 a, ne_eqb kind 41 b, ne_eqb kind 42 d, e, and-true, and-true)

  -- whatever it is, one that passes is no Eof
  pub asked_some : Asked true → 0 < kind
  unfolding eof_good
  asked_some e = not_zero kind (and_right (ltb kind kinds) _ (and_left (ltb kind kinds && not (eqb kind Eof)) _ e))

-- and the last one
pub asked_last : (text : List ℕ) (kind start end extra : ℕ) → (eqb kind Eof && eqb extra 0) ≡ (ltb kind kinds && eof_good true kind && contents_good text kind start end extra)
unfolding eof_good contents_good text_good extra_good
asked_last text zero start end extra = refl
asked_last text (suc kind) start end extra = rw (ne_eqb (suc kind) 0 (λ e. omega arith), and-false)

-- the token that was passed is the one before the next
pub prev_next : (words : List ℕ) (i : ℕ) → end_of words i ≡ prev_end words (i + 1)
unfolding prev_end
prev_next words i = rw add-one

-- ---- the kept list

-- a token counts for one at most
pub one_most : (b : Bool) → cond b 0 1 ≤ 1
one_most true = omega arith
one_most false = omega arith

-- a number before the rest counts for one, unless it is dropped
counted : (b : Bool) (i : ℕ) (rest : List ℕ) → length (keep_unless b i rest) ≡ cond b 0 1 + length rest
counted true i rest = omega arith
counted false i rest = omega arith

-- a number that is written where the next one is written is of no account
sets_over : (t rest : List ℕ) (m v : ℕ) → 0 < length rest → sets (set t m v) m rest ≡ sets t m rest
sets_over t [] m v h = absurd (omega arith)
sets_over t (x ∷ rest) m v h = rw (set-set t m v x)

-- a turn of `keep`: the number is written, and stays unless it is dropped
pub keep_turn : (b : Bool) (t rest : List ℕ) (m i : ℕ) → (b ≡ true → 0 < length rest) → sets (set t m i) (m + cond b 0 1) rest ≡ sets t m (keep_unless b i rest)
keep_turn true t rest m i some = rw add-zero (sets_over t rest m i (some refl))
keep_turn false t rest m i some = rw add-one

module _ (words : List ℕ) (n i : ℕ) where
  pub kept_turn : i < n → kept_from words (n - i) i ≡ keep_unless (dropped (kind_of words i)) i (kept_from words (n - (i + 1)) (i + 1))
  unfolding kept_from
  kept_turn h = rw (left_step n i h)

  pub kept_count : i < n → length (kept_from words (n - i) i) ≡ cond (dropped (kind_of words i)) 0 1 + length (kept_from words (n - (i + 1)) (i + 1))
  unfolding kept_from
  kept_count h = rw (left_step n i h) (counted (dropped (kind_of words i)) i (kept_from words (n - (i + 1)) (i + 1)))

  pub kept_none : n ≤ i → kept_from words (n - i) i ≡ []
  unfolding kept_from
  kept_none h = rw (left_none n i h)

-- ---- what the door's answers mean

-- let through: the list is well formed, and the count, the room and the start are as they should be
pub record LetThrough (text words : List ℕ) (start room n : ℕ) : Type 0 where
  pub formed : WellFormed text words
  pub few : token_count words ≤ 65536
  pub count : length (kept_of words) ≡ n
  pub room_enough : n ≤ room
  pub inside : start < n

-- b is the first bad one of `left` tokens from number i on, or the number behind them
pub record First (text words : List ℕ) (left i b : ℕ) : Type 0 where
  pub from : i ≤ b
  pub upto : b ≤ i + left
  pub before : (j : ℕ) → i ≤ j → j < b → good text words j ≡ true
  pub there : b < i + left → good text words b ≡ false

bad_walk : (text words : List ℕ) (left i : ℕ) → First text words left i (bad_from text words left i)
unfolding bad_from
bad_walk text words zero i =
    record { from = omega arith; upto = omega arith; before = λ j a b. absurd (none i j a b); there = λ h. absurd (past i h) }
  where
    none : (i j : ℕ) → i ≤ j → j < i → ⊥
    none i j a b = omega arith

    past : (i : ℕ) → i < i + zero → ⊥
    past i h = omega arith
bad_walk text words (suc left) i = go (good text words i) refl (bad_walk text words left (i + 1))
  where
    go : (t : Bool) → good text words i ≡ t → First text words left (i + 1) (bad_from text words left (i + 1)) → First text words (suc left) i (cond t (bad_from text words left (i + 1)) i)
    go true e f =
        record {
          from = omega arith;
          upto = omega arith;
          before = λ j a b. ⊎_elim (λ (same : i ≡ j). rw (← same) e) (λ (later : i < j). f.before j (omega arith) b) (eq-or-lt_of_le a);
          there = λ h. f.there (omega arith);
        }
    go false e f = record { from = omega arith; upto = omega arith; before = λ j a b. absurd (none j a b); there = λ h. e }
      where
        none : (j : ℕ) → i ≤ j → j < i → ⊥
        none j a b = omega arith

-- the first bad token's number: every token before it is good, and it is bad itself unless it is the number of tokens
pub first_bad_lem : (text words : List ℕ) → First text words (token_count words) 0 (first_bad text words)
unfolding first_bad
first_bad_lem text words = bad_walk text words (token_count words) 0

-- all good: the walk passes them
formed : (text words : List ℕ) → whole_good text words ≡ true → token_count words ≤ first_bad text words → WellFormed text words
formed text words w h = record { whole = w; each = λ i b. (first_bad_lem text words).before i (omega arith) (omega arith) }

-- one bad: it is not well formed
unformed : (text words : List ℕ) → first_bad text words < token_count words → ¬ (WellFormed text words)
unformed text words h f = let yes-no : true ≡ false = sym (f.each (first_bad text words) h) ∙ (first_bad_lem text words).there (omega arith) in true≢false yes-no

-- what each number of the door means: 30 is given exactly to a list that is not well formed, 35 and 31 to a well-formed one
pub data Means (text words : List ℕ) (start room : ℕ) : ℕ × ℕ → Type 0 where
  means_30 : {at : ℕ} → ¬ (WellFormed text words) → Means text words start room (number.NotWellFormed, at)
  means_35 : WellFormed text words → room < length (kept_of words) → Means text words start room (number.KeptTooShort, length (kept_of words))
  means_31 : WellFormed text words → length (kept_of words) ≤ room → length (kept_of words) ≤ start → Means text words start room (number.StartOutside, start)
  means_through : {n : ℕ} → LetThrough text words start room n → Means text words start room (0, n)

pub door_means : (text words : List ℕ) (start room : ℕ) → Means text words start room (door text words start room)
unfolding door
door_means text words start room = go (whole_good text words) refl
  where
    n : ℕ
    n = length (kept_of words)

    started : WellFormed text words → token_count words ≤ 65536 → n ≤ room → (t : Bool) → ltb start n ≡ t → Means text words start room (cond t (0, n) (number.StartOutside, start))
    started f w h true e = means_through (record { formed = f; few = w; count = refl; room_enough = h; inside = ltb-true _ _ e })
    started f w h false e = means_31 f h (ltb-false _ _ e)

    roomy : WellFormed text words → token_count words ≤ 65536 → (t : Bool) → ltb room n ≡ t → Means text words start room (cond t (number.KeptTooShort, n) (cond (ltb start n) (0, n) (number.StartOutside, start)))
    roomy f w true e = means_35 f (ltb-true _ _ e)
    roomy f w false e = started f w (ltb-false _ _ e) (ltb start n) refl

    walked : whole_good text words ≡ true → (t : Bool) → ltb (first_bad text words) (token_count words) ≡ t → Means text words start room (cond t (number.NotWellFormed, first_bad text words) (cond (ltb room n) (number.KeptTooShort, n) (cond (ltb start n) (0, n) (number.StartOutside, start))))
    walked w true e = means_30 (unformed text words (ltb-true _ _ e))
    walked w false e = roomy (formed text words w (ltb-false _ _ e)) (whole_says text words w).few (ltb room n) refl

    go : (t : Bool) → whole_good text words ≡ t → Means text words start room (cond t (cond (ltb (first_bad text words) (token_count words)) (number.NotWellFormed, first_bad text words) (cond (ltb room n) (number.KeptTooShort, n) (cond (ltb start n) (0, n) (number.StartOutside, start)))) (number.NotWellFormed, 0))
    go true e = walked e (ltb (first_bad text words) (token_count words)) refl
    go false e = means_30 (λ f. true≢false (sym f.whole ∙ e))

-- let through with the count n
pub ready : (text words : List ℕ) (start room : ℕ) {n : ℕ} → (0, n) ≡ door text words start room → LetThrough text words start room n
ready text words start room {n} e = go (door text words start room) (door_means text words start room) (ap (λ (d : ℕ × ℕ). d.0) e) (ap (λ (d : ℕ × ℕ). d.1) e)
  where
    go : (d : ℕ × ℕ) → Means text words start room d → 0 ≡ d.0 → n ≡ d.1 → LetThrough text words start room n
    go d (means_30 f) a b = absurd (omega (arith, a))
    go d (means_35 f h) a b = absurd (omega (arith, a))
    go d (means_31 f h k) a b = absurd (omega (arith, a))
    go d (means_through l) a b = rw b l

-- and the other way round: a well-formed list, a start inside it and room for the kept list
pub let_through : (text words : List ℕ) (start room : ℕ) → WellFormed text words → length (kept_of words) ≤ room → start < length (kept_of words)
    → door text words start room ≡ (0, length (kept_of words))
let_through text words start room formed enough inside = go (door text words start room) (door_means text words start room)
  where
    go : (d : ℕ × ℕ) → Means text words start room d → d ≡ (0, length (kept_of words))
    go d (means_30 f) = absurd (f formed)
    go d (means_35 f h) = absurd (omega arith)
    go d (means_31 f h k) = absurd (omega arith)
    go d (means_through l) = ap (λ (n : ℕ). (0, n)) (sym l.count)

-- of a well-formed list the door asks the kept count alone
pub door_formed : (text words : List ℕ) (start room : ℕ) → WellFormed text words
    → door text words start room
    ≡ cond (ltb room (length (kept_of words))) (number.KeptTooShort, length (kept_of words))
    (cond (ltb start (length (kept_of words))) (0, length (kept_of words)) (number.StartOutside, start))
unfolding door
door_formed text words start room f =
    let none : token_count words ≤ first_bad text words = ⊎_elim (λ (h : first_bad text words < token_count words). absurd (unformed text words h f)) (λ (h : token_count words ≤ first_bad text words). h) (lt_or_le (first_bad text words) (token_count words)) in
    rw (f.whole, le-ltb _ _ none)

-- ---- the kept list of a well-formed list

-- a token that is not dropped is in the kept list, so that it is not empty
kept_some : (words : List ℕ) (left i j : ℕ) → i ≤ j → j < i + left → dropped (kind_of words j) ≡ false → 0 < length (kept_from words left i)
unfolding kept_from
kept_some words zero i j a b e = absurd (none i j a b)
  where
    none : (i j : ℕ) → i ≤ j → j < i + zero → ⊥
    none i j a b = omega arith
kept_some words (suc left) i j a b e = go (dropped (kind_of words i)) refl (λ h. kept_some words left (i + 1) j h (omega arith) e)
  where
    go : (t : Bool) → dropped (kind_of words i) ≡ t → (i + 1 ≤ j → 0 < length (kept_from words left (i + 1))) → 0 < length (keep_unless t i (kept_from words left (i + 1)))
    go true t rest =
        ⊎_elim (λ (same : i ≡ j). absurd (true≢false (sym t ∙ ap (λ (k : ℕ). dropped (kind_of words k)) same ∙ e))) (λ (later : i < j). rest (omega arith)) (eq-or-lt_of_le a)
    go false t rest = omega arith

-- behind Eof the first two kinds are dropped, and no other is
pub dropped_first : (kind : ℕ) → 0 < kind → kind ≤ 2 → dropped kind ≡ true
unfolding dropped
dropped_first kind p h =
    ⊎_elim (λ (i : kind < 2). let is : kind ≡ 1 = omega arith in rw is) (λ (i : 2 ≤ kind). let is : kind ≡ 2 = omega arith in rw is) (lt_or_le kind 2)

pub kept_late : (kind : ℕ) → 2 < kind → dropped kind ≡ false
unfolding dropped
kept_late kind h = rw (ne_eqb kind 1 (λ e. omega arith), ne_eqb kind 2 (λ e. omega arith))

-- the last token is kept
pub last_kept : (words : List ℕ) → EofLast words → (i : ℕ) → i + 1 ≡ token_count words → dropped (kind_of words i) ≡ false
unfolding dropped
last_kept words eof i e = rw (eof.last i e)

-- where it is: from each on one is still to come, and behind a dropped one too
module _ (words : List ℕ) (eof : EofLast words) (i : ℕ) (h : i < token_count words) where
  pub kept_ahead : 0 < length (kept_from words (token_count words - i) i)
  kept_ahead = kept_some words (token_count words - i) i (token_count words - 1) (omega arith) (omega arith) (last_kept words eof (token_count words - 1) (omega arith))

  -- the last one itself
  pub kept_end : i + 1 ≡ token_count words → kept_from words (token_count words - i) i ≡ i ∷ []
  kept_end e =
      kept_turn words (token_count words) i h
      ∙ rw (last_kept words eof i e) (ap (λ (rest : List ℕ). i ∷ rest) (kept_none words (token_count words) (i + 1) (omega arith)))

  pub kept_behind : dropped (kind_of words i) ≡ true → 0 < length (kept_from words (token_count words - (i + 1)) (i + 1))
  kept_behind e =
      ⊎_elim
      (λ (end : i + 1 ≡ token_count words). absurd (true≢false (sym e ∙ last_kept words eof i end)))
      (λ (more : i + 1 < token_count words). kept_some words (token_count words - (i + 1)) (i + 1) (token_count words - 1) (omega arith) (omega arith) (last_kept words eof (token_count words - 1) (omega arith)))
      (eq-or-lt_of_le (omega arith))

-- the last token of a well-formed list is an Eof
pub last_is_eof : (text words : List ℕ) → WellFormed text words → (i : ℕ) → i + 1 ≡ token_count words → kind_of words i ≡ Eof
unfolding eof_good
last_is_eof text words f i e = eqb-true _ _ (rw (eq-eqb _ _ e) at (good_says text words i (f.each i (omega arith))).eof)

-- and no other is
pub others_not : (text words : List ℕ) → WellFormed text words → (i : ℕ) → i + 1 < token_count words → 0 < kind_of words i
unfolding eof_good
others_not text words f i h =
    not_zero (kind_of words i) (rw (ne_eqb (i + 1) (token_count words) (λ e. omega arith)) at (good_says text words i (f.each i (omega arith))).eof)

pub eof_last : (text words : List ℕ) → WellFormed text words → EofLast words
eof_last text words f = record { some = (whole_says text words f.whole).some; last = last_is_eof text words f; others = others_not text words f }

-- it is kept, so that a file, read from start 0, never gets 31
pub kept_not_empty : (text words : List ℕ) → WellFormed text words → 0 < length (kept_of words)
unfolding kept_of dropped
kept_not_empty text words f =
    let some = (whole_says text words f.whole).some in
    let last = last_is_eof text words f (token_count words - 1) (omega arith) in
    kept_some words (token_count words) 0 (token_count words - 1) (omega arith) (omega arith) (rw last)

-- a file's door: 30, 35 or the kept count
pub file_not_31 : (text words : List ℕ) (room : ℕ) {at : ℕ} → (number.StartOutside, at) ≡ door text words 0 room → ⊥
file_not_31 text words room e = go (door text words 0 room) (door_means text words 0 room) (ap (λ (d : ℕ × ℕ). d.0) e)
  where
    go : (d : ℕ × ℕ) → Means text words 0 room d → number.StartOutside ≡ d.0 → ⊥
    go d (means_30 f) a = omega (arith, a)
    go d (means_35 f h) a = omega (arith, a)
    go d (means_31 f h k) a = omega (arith, k, kept_not_empty text words f)
    go d (means_through l) a = omega (arith, a)

-- ---- the walk that tests and counts

-- the kept count where no token is bad
abbrev pub count_good : List ℕ → List ℕ → Option ℕ
count_good text words = cond (ltb (first_bad text words) (token_count words)) None (Some (length (kept_of words)))

-- token number i, the last one or not, is as it should be, but that it may end behind the text
pub record Sound (text words : List ℕ) (last : Bool) (i : ℕ) : Type 0 where
  pub behind : prev_end words i ≤ start_of words i
  pub range : start_of words i ≤ end_of words i
  pub asked : (ltb (kind_of words i) kinds && eof_good last (kind_of words i) && contents_good text (kind_of words i) (start_of words i) (end_of words i) (extra_of words i)) ≡ true

-- a range's test and what it says
range_says : (size prev start end : ℕ) → range_good size prev start end ≡ true → (prev ≤ start) × (start ≤ end) × (end ≤ size)
unfolding range_good
range_says size prev start end e =
    let two = and_left (leb prev start && leb start end) (leb end size) e in
    (leb-true _ _ (and_left (leb prev start) (leb start end) two), leb-true _ _ (and_right (leb prev start) (leb start end) two), leb-true _ _ (and_right (leb prev start && leb start end) (leb end size) e))

range_holds : (size prev start end : ℕ) → prev ≤ start → start ≤ end → end ≤ size → range_good size prev start end ≡ true
unfolding range_good
range_holds size prev start end a b h = rw (le-leb _ _ a, le-leb _ _ b, le-leb _ _ h)

-- the second of four tests that hold, and the others
second_of_four : (a r e d : Bool) → (a && r && e && d) ≡ true → (r ≡ true) × ((a && e && d) ≡ true)
second_of_four true true e d h = (refl, h)
second_of_four true false e d h = absurd (false≢true h)
second_of_four false r e d h = absurd (false≢true h)

-- a good token is sound and ends in the text, and the other way round
good_sound : (text words : List ℕ) (i : ℕ) → good text words i ≡ true → Sound text words (eqb (i + 1) (token_count words)) i × (end_of words i ≤ length text)
unfolding good good_after
good_sound text words i g =
    let kind = kind_of words i in
    let start = start_of words i in
    let end = end_of words i in
    let asked = contents_good text kind start end (extra_of words i) in
    let both = second_of_four (ltb kind kinds) (range_good (length text) (prev_end words i) start end) (eof_good (eqb (i + 1) (token_count words)) kind) asked g in
    let range = range_says (length text) (prev_end words i) start end both.0 in
    (record { behind = range.0; range = range.1; asked = both.1 }, range.2)

sound_good : (text words : List ℕ) (i : ℕ) → Sound text words (eqb (i + 1) (token_count words)) i → end_of words i ≤ length text → good text words i ≡ true
unfolding good good_after
sound_good text words i s h = rw (range_holds (length text) (prev_end words i) (start_of words i) (end_of words i) s.behind s.range h, and-true) s.asked

-- the ends only grow
ends_grow : (text words : List ℕ) (i : ℕ) → ((j : ℕ) → j < i → Sound text words false j) → (j : ℕ) → j < i → end_of words j ≤ prev_end words i
unfolding prev_end
ends_grow text words zero each j h = absurd (none j h)
  where
    none : (j : ℕ) → j < 0 → ⊥
    none j h = omega arith
ends_grow text words (suc i) each j h = go (ends_grow text words i (λ k b. each k (omega arith))) (each i (omega arith))
  where
    go : ((j : ℕ) → j < i → end_of words j ≤ prev_end words i) → Sound text words false i → end_of words j ≤ end_of words i
    go before s =
        ⊎_elim (λ (same : j ≡ i). rw same (omega arith)) (λ (earlier : j < i). omega (arith, before j earlier, s.behind, s.range))
        (eq-or-lt_of_le (omega arith))

-- one is bad: nothing is counted
none_counted : (text words : List ℕ) (i : ℕ) → i < token_count words → (good text words i ≡ true → ⊥) → None ≡ count_good text words
none_counted text words i h bad =
    ⊎_elim
    (λ (b : first_bad text words < token_count words). rw (lt-ltb _ _ b))
    (λ (b : token_count words ≤ first_bad text words). absurd (bad ((first_bad_lem text words).before i (omega arith) (omega arith))))
    (lt_or_le (first_bad text words) (token_count words))

-- none is bad: the kept ones are counted
all_counted : (text words : List ℕ) → WellFormed text words → Some (length (kept_of words)) ≡ count_good text words
all_counted text words f =
    ⊎_elim
    (λ (b : first_bad text words < token_count words). absurd (unformed text words b f))
    (λ (b : token_count words ≤ first_bad text words). rw (le-ltb _ _ b))
    (lt_or_le (first_bad text words) (token_count words))

-- token number i stands in these four words
pub record Stands (words : List ℕ) (i : ℕ) (four : List ℕ) : Type 0 where
  kind : get_or four 0 0 ≡ kind_of words i
  start : get_or four 1 0 ≡ start_of words i
  end : get_or four 2 0 ≡ end_of words i
  extra : get_or four 3 0 ≡ extra_of words i

-- the words of a list that is good as a whole are four a token
whole_words : (text words : List ℕ) → whole_good text words ≡ true → length words ≡ token_count words * 4
whole_words text words e = omega (arith, (whole_says text words e).four)

-- the walk stands at token number i: the tokens before it are sound, and the kept ones of them are counted, and the last one with them
pub record Walked (text words : List ℕ) (count prev i : ℕ) : Type 0 where
  pub inside : i < token_count words
  pub prev_is : prev ≡ prev_end words i
  pub few : count ≤ i + 1
  pub counts : count + length (kept_from words (token_count words - i) i) ≡ 1 + length (kept_of words)
  pub each : (j : ℕ) → j < i → Sound text words false j

-- the four words from a place on
abbrev words_at : List ℕ → ℕ → List ℕ
words_at words at = get_or words at 0 ∷ get_or words (at + 1) 0 ∷ get_or words (at + 2) 0 ∷ get_or words (at + 3) 0 ∷ []

-- the walk stands at these words, which are those of token number i
pub record Placed (text words : List ℕ) (count prev at : ℕ) : Type 0 where
  pub i : ℕ
  pub place : i * 4 ≡ at
  pub walked : Walked text words count prev i

module _ {text words : List ℕ} {count prev at : ℕ} (l : Placed text words count prev at) where
  pub placed_stands : Stands words l.i (words_at words at)
  placed_stands = record { kind = rw l.place; start = rw l.place; end = rw l.place; extra = rw l.place }

  pub placed_next : {count' prev' : ℕ} → Walked text words count' prev' (l.i + 1) → Placed text words count' prev' (at + 4)
  placed_next w = record { i = l.i + 1; place = omega (arith, l.place); walked = w }

module _ (text words : List ℕ) (whole : whole_good text words ≡ true) where
  -- the place tells whether it is the last one
  pub before_last : {count prev at : ℕ} (l : Placed text words count prev at) → at < length words - 4 → l.i + 1 < token_count words
  before_last l h = omega (arith, l.place, whole_words text words whole)

  pub at_last : {count prev at : ℕ} (l : Placed text words count prev at) → length words - 4 ≤ at → l.i + 1 ≡ token_count words
  at_last l h = omega (arith, l.place, l.walked.inside, whole_words text words whole)

  -- before the first token
  pub walk_start : Walked text words 1 0 0
  unfolding prev_end kept_of
  walk_start =
      record {
        inside = (whole_says text words whole).some;
        prev_is = refl;
        few = omega arith;
        counts = rw sub-zero;
        each = λ j h. absurd (none j h);
      }
    where
      none : (j : ℕ) → j < 0 → ⊥
      none j h = omega arith

  pub placed_first : Placed text words 1 0 0
  placed_first = record { i = 0; place = refl; walked = walk_start }

  module _ {count prev i : ℕ} (w : Walked text words count prev i) {four : List ℕ} (t : Stands words i four) where
    -- what the token is asked, as the last one or as another
    abbrev Ask : Bool → ℕ → ℕ → ℕ → ℕ → Bool → Type 0
    Ask last kind start end extra b = (ltb kind kinds && eof_good last kind && contents_good text kind start end extra) ≡ b

    -- it starts before the one before it ends
    pub starts_early : get_or four 1 0 < prev → None ≡ count_good text words
    starts_early h = none_counted text words i w.inside (λ g. omega (arith, h, t.start, w.prev_is, (good_sound text words i g).0.behind))

    -- it ends before its start
    pub ends_early : get_or four 2 0 < get_or four 1 0 → None ≡ count_good text words
    ends_early h = none_counted text words i w.inside (λ g. omega (arith, h, t.start, t.end, (good_sound text words i g).0.range))

    -- it is not the last one, and its kind, text or extra is not as it should be
    pub asked_wrong : i + 1 < token_count words → Ask false (get_or four 0 0) (get_or four 1 0) (get_or four 2 0) (get_or four 3 0) false → None ≡ count_good text words
    asked_wrong b h =
        none_counted text words i w.inside
        (λ g.
        let yes : Ask false (kind_of words i) (start_of words i) (end_of words i) (extra_of words i) true = rw (ne_eqb (i + 1) (token_count words) (λ e. omega (arith, e, b))) at (good_sound text words i g).0.asked in
        true≢false (sym yes ∙ rw (t.kind, t.start, t.end, t.extra) at h))

    -- its range is not as it should be
    pub range_wrong : range_good (length text) prev (get_or four 1 0) (get_or four 2 0) ≡ false → None ≡ count_good text words
    range_wrong h =
        none_counted text words i w.inside
        (λ g.
        let s = good_sound text words i g in
        let yes = range_holds (length text) (prev_end words i) (start_of words i) (end_of words i) s.0.behind s.0.range s.1 in
        true≢false (sym yes ∙ rw (t.start, t.end, w.prev_is) at h))

    -- it is the last one, and no Eof or one with an extra
    pub last_wrong : i + 1 ≡ token_count words → (eqb (get_or four 0 0) Eof && eqb (get_or four 3 0) 0) ≡ false → None ≡ count_good text words
    last_wrong b h =
        none_counted text words i w.inside
        (λ g.
        let yes : Ask true (kind_of words i) (start_of words i) (end_of words i) (extra_of words i) true = rw (eq-eqb (i + 1) (token_count words) b) at (good_sound text words i g).0.asked in
        true≢false (sym yes ∙ sym (asked_last text (kind_of words i) (start_of words i) (end_of words i) (extra_of words i)) ∙ rw (t.kind, t.extra) at h))

    -- it is not the last one, and sound: on to the next
    pub walk_on : i + 1 < token_count words → prev ≤ get_or four 1 0 → get_or four 1 0 ≤ get_or four 2 0
        → Ask false (get_or four 0 0) (get_or four 1 0) (get_or four 2 0) (get_or four 3 0) true
        → Walked text words (count + cond (dropped (get_or four 0 0)) 0 1) (get_or four 2 0) (i + 1)
    walk_on b from to asked =
        let step = kept_count words (token_count words) i w.inside in
        let here : Sound text words false i = record { behind = rw (w.prev_is, t.start) at from; range = rw (t.start, t.end) at to; asked = rw (t.kind, t.start, t.end, t.extra) at asked } in
        rw (t.kind, t.end)
        record {
          inside = b;
          prev_is = prev_next words i;
          few = omega (arith, w.few, one_most (dropped (kind_of words i)));
          counts = omega (arith, w.counts, step);
          each = λ j h. ⊎_elim (λ (same : j ≡ i). rw same here) (λ (earlier : j < i). w.each j earlier) (eq-or-lt_of_le (omega arith));
        }

    -- it is the last one, sound, and ends in the text: all are good, since all end in the text
    all_good : i + 1 ≡ token_count words → Sound text words true i → end_of words i ≤ length text → WellFormed text words
    all_good b here end =
        record { whole = whole; each = λ j h. ⊎_elim (λ (same : j ≡ i). rw same last) (λ (earlier : j < i). before j earlier) (eq-or-lt_of_le (omega (arith, b))) }
      where
        before : (j : ℕ) → j < i → good text words j ≡ true
        before j h =
            sound_good text words j
            (rw (ne_eqb (j + 1) (token_count words) (λ e. omega (arith, w.inside))) (w.each j h))
            (omega (arith, ends_grow text words i w.each j h))

        last : good text words i ≡ true
        last = sound_good text words i (rw (eq-eqb (i + 1) (token_count words) b) here) end

    -- so that what is counted is the kept count
    pub walk_end : i + 1 ≡ token_count words → range_good (length text) prev (get_or four 1 0) (get_or four 2 0) ≡ true
        → (eqb (get_or four 0 0) Eof && eqb (get_or four 3 0) 0) ≡ true
        → Some count ≡ count_good text words
    walk_end b range last =
        let said = range_says (length text) (prev_end words i) (start_of words i) (end_of words i) (rw (t.start, t.end, w.prev_is) at range) in
        let asked = sym (asked_last text (kind_of words i) (start_of words i) (end_of words i) (extra_of words i)) ∙ (rw (t.kind, t.extra) at last) in
        let here : Sound text words true i = record { behind = said.0; range = said.1; asked = asked } in
        let all = all_good b here said.2 in
        let one = rw (last_kept words (eof_last text words all) i b) at (kept_count words (token_count words) i w.inside) in
        let none = ap length (kept_none words (token_count words) (i + 1) (omega (arith, b))) in
        let counted : count ≡ length (kept_of words) = omega (arith, one, none, w.counts) in
        ap Some counted ∙ all_counted text words all

-- ---- what the count says

-- a list that is not counted has a bad token
pub none_says : (text words : List ℕ) → None ≡ count_good text words → ltb (first_bad text words) (token_count words) ≡ true
none_says text words e = go (ltb (first_bad text words) (token_count words)) refl
  where
    go : (t : Bool) → ltb (first_bad text words) (token_count words) ≡ t → ltb (first_bad text words) (token_count words) ≡ true
    go true b = b
    go false b = absurd (none-some _ (rw b at e))

-- in one that is counted no token is bad, and the count is the kept count
pub some_says : (text words : List ℕ) {n : ℕ} → Some n ≡ count_good text words → (ltb (first_bad text words) (token_count words) ≡ false) × (n ≡ length (kept_of words))
some_says text words {n} e = go (ltb (first_bad text words) (token_count words)) refl
  where
    go : (t : Bool) → ltb (first_bad text words) (token_count words) ≡ t → (ltb (first_bad text words) (token_count words) ≡ false) × (n ≡ length (kept_of words))
    go true b = absurd (none-some _ (sym (rw b at e)))
    go false b = (b, same_Some _ _ (rw b at e))

-- ---- all numbers

-- one number written: the rest is still to come
pub numbers_turn : (t : List ℕ) (n i : ℕ) → i < n → sets (set t i i) (i + 1) (numbers (i + 1) (n - (i + 1))) ≡ sets t i (numbers i (n - i))
unfolding numbers
numbers_turn t n i h = rw (left_step n i h, add-one)

-- none is left
pub numbers_none : (t : List ℕ) (n i : ℕ) → n ≤ i → sets t i (numbers i (n - i)) ≡ t
unfolding numbers
numbers_none t n i h = rw (left_none n i h)

numbers_length : (n i : ℕ) → length (numbers i n) ≡ n
unfolding numbers
numbers_length zero i = refl
numbers_length (suc n) i = ap suc (numbers_length n (i + 1))

-- written over the first n, with what lies behind those: written into the whole
pub numbers_front : (t : List ℕ) (n : ℕ) → n ≤ length t → sets (take n t) 0 (numbers 0 n) ++ drop n t ≡ sets t 0 (numbers 0 n)
numbers_front t n h =
    let long = numbers_length n 0 in
    let all : 0 + length (numbers 0 n) ≡ n = omega (arith, long) in
    let front = length-take-le n t h in
    let none : drop (0 + length (numbers 0 n)) (take n t) ≡ [] = drop_of_length-le (take n t) (omega (arith, long, front)) in
    ap (λ (l : List ℕ). l ++ drop n t) (sets-eq (numbers 0 n) (take n t) 0 (omega (arith, long, front)) ∙ ap (λ (l : List ℕ). numbers 0 n ++ l) none ∙ append-nil (numbers 0 n))
    ∙ sym (sets-eq (numbers 0 n) t 0 (omega (arith, long, h)) ∙ ap (λ (k : ℕ). numbers 0 n ++ drop k t) all)

-- no more are kept than there are
pub kept_few : (words : List ℕ) (left i : ℕ) → length (kept_from words left i) ≤ left
unfolding kept_from
kept_few words zero i = omega arith
kept_few words (suc left) i = go (dropped (kind_of words i)) (kept_few words left (i + 1))
  where
    go : (b : Bool) → length (kept_from words left (i + 1)) ≤ left → length (keep_unless b i (kept_from words left (i + 1))) ≤ suc left
    go true h = omega arith
    go false h = omega arith

-- where as many are kept as there are, the kept ones are all numbers
kept_all : (words : List ℕ) (left i : ℕ) → length (kept_from words left i) ≡ left → kept_from words left i ≡ numbers i left
unfolding kept_from numbers
kept_all words zero i e = refl
kept_all words (suc left) i e = go (dropped (kind_of words i)) e (kept_few words left (i + 1)) (kept_all words left (i + 1))
  where
    go : (b : Bool) → length (keep_unless b i (kept_from words left (i + 1))) ≡ suc left → length (kept_from words left (i + 1)) ≤ left → (length (kept_from words left (i + 1)) ≡ left → kept_from words left (i + 1) ≡ numbers (i + 1) left) → keep_unless b i (kept_from words left (i + 1)) ≡ i ∷ numbers (i + 1) left
    go true e few rest = absurd (clash e few)
      where
        clash : {k : ℕ} → k ≡ suc left → k ≤ left → ⊥
        clash e h = omega arith
    go false e few rest = ap (λ (xs : List ℕ). i ∷ xs) (rest (omega arith))

-- the kept list of a list of which every token is kept
pub kept_is_all : (words : List ℕ) {n : ℕ} → n ≡ length (kept_of words) → n ≡ token_count words → numbers 0 n ≡ kept_of words
unfolding kept_of
kept_is_all words e all = ap (numbers 0) all ∙ sym (kept_all words (token_count words) 0 (sym e ∙ all))
