-- Request [12]: bytes put into the text with a token of white space or a comment for them. The list stays well formed, and has that token more. Assumes nothing.
use Prim.Native.Nat.{ℕ, zero, suc, ◌+◌, ◌-◌, ◌≤◌, ◌<◌}
use native.Mathlib.Nat.{eq-or-lt_of_le}
use native.Mathlib.Numerals.{add-one}
use native.Mathlib.Omega.{arith}
use mathlib.Core.Path.{◌≡◌, refl, sym, ap, subst, ◌∙◌}
use mathlib.Core.Bool.{Bool, true, false, ◌&&◌, ◌||◌, false≢true}
use mathlib.Core.Logic.{⊎_elim}
use mathlib.Core.List.{List, [], ◌∷◌, ◌++◌, append_assoc}
use borrow.Author.Tests.{eqb-true, eqb-false, eq-eqb, ne_eqb}
use lib.ListN.{length, get_or, take, drop, length-append, length-drop}
use lib.Seq.{length-take-le, take-append-le, drop-append-le, take-take, drop-drop, drop-append-add}
use lib.Dec.{ltb, eqb}
use Rattle.tokens.specs.Kind.{kinds, Whitespace, Comment}
use Rattle.tokens.specs.Number.{most_bytes, most_tokens}
use Rattle.tokens.specs.Token.{token_count, kind_of, start_of, end_of, extra_of, part, token_of, view, numbers, all_tokens}
use Rattle.tokens.specs.WellFormed.{good, prev_end, eof_good, text_good, extra_good, contents_good, WellFormed}
use Rattle.tokens.specs.Kept.{dropped}
use Rattle.tokens.specs.PutBetween.{PutBetween, done, both, put, fields_of, PutAt}
use Rattle.tokens.proofs.Laws.{lt_or_le, drop_take}
use Rattle.tokens.proofs.FormedLaws.{whole_says, whole_then, Good, good_then}
use Rattle.tokens.proofs.PlaceLaws.{good_at, ends_before}

-- ---- parts of the text

module _ (text : List ℕ) (b : ℕ) (more : List ℕ) (inside : b ≤ length text) where
  abbrev longer : List ℕ
  longer = take b text ++ (more ++ drop b text)

  -- before b
  part_before : (s e : ℕ) → s ≤ e → e ≤ b → part longer s e ≡ part text s e
  part_before s e h k =
      let long : length (take b text) ≡ b = length-take-le b text inside in
      ap (take (e - s)) (drop-append-le s (take b text) (more ++ drop b text) (omega arith))
      ∙ take-append-le (e - s) (drop s (take b text)) (more ++ drop b text) (omega (arith, length-drop s (take b text)))
      ∙ ap (take (e - s)) (drop_take s b text)
      ∙ take-take (e - s) (b - s) (drop s text) (omega arith)

  -- and behind
  part_behind : (s e : ℕ) → b ≤ s → part longer (s + length more) (e + length more) ≡ part text s e
  part_behind s e h =
      let long : length (take b text ++ more) ≡ b + length more = length-append (take b text) more ∙ ap (λ (n : ℕ). n + length more) (length-take-le b text inside) in
      let at : s + length more ≡ length (take b text ++ more) + (s - b) = omega arith in
      let size : e + length more - (s + length more) ≡ e - s = omega arith in
      let on : b + (s - b) ≡ s = omega arith in
      let rest : drop (s + length more) longer ≡ drop s text =
      ap (drop (s + length more)) (sym (append_assoc (take b text) more (drop b text)))
      ∙ ap (λ (n : ℕ). drop n ((take b text ++ more) ++ drop b text)) at
      ∙ drop-append-add (take b text ++ more) (drop b text) (s - b)
      ∙ drop-drop (s - b) b text
      ∙ ap (λ (n : ℕ). drop n text) on in
      rw (size, rest)

  longer_by : length longer ≡ length text + length more
  longer_by = omega (arith, length-append (take b text) (more ++ drop b text), length-append more (drop b text), length-drop b text, length-take-le b text inside)

-- ---- the fields of a token, from its four words

module _ (words : List ℕ) (j : ℕ) {kind start end extra : ℕ} (is : fields_of words j ≡ kind ∷ start ∷ end ∷ extra ∷ []) where
  kind_is : kind_of words j ≡ kind
  kind_is = ap (λ (w : List ℕ). get_or w 0 0) is

  start_is : start_of words j ≡ start
  start_is = ap (λ (w : List ℕ). get_or w 1 0) is

  end_is : end_of words j ≡ end
  end_is = ap (λ (w : List ℕ). get_or w 2 0) is

  extra_is : extra_of words j ≡ extra
  extra_is = ap (λ (w : List ℕ). get_or w 3 0) is

  -- the token of these fields
  token_is : (text : List ℕ) → token_of text words j ≡ record { kind = kind; text = part text start end; extra = extra }
  unfolding token_of
  token_is text = rw (kind_is, start_is, end_is, extra_is)

-- the numbers behind two are equal exactly if these are
next_same : (m a c : ℕ) {d : ℕ} → m ≡ suc c → d ≡ suc a → eqb d m ≡ eqb a c
next_same m a c {d} e f = go (eqb a c) refl
  where
    go : (same : Bool) → eqb a c ≡ same → eqb d m ≡ same
    go true s = eq-eqb d m (omega (arith, eqb-true a c s, e, f))
    go false s = ne_eqb d m (λ g. eqb-false a c s (omega (arith, e, f, g)))

-- what is asked of white space and comments as to kind, Eof, text and extra
blank_good : (kind : ℕ) → dropped kind ≡ true → (ltb kind kinds ≡ true) × (eof_good false kind ≡ true) × ((bytes : List ℕ) → (text_good kind bytes && extra_good kind 0) ≡ true)
unfolding dropped eof_good text_good extra_good
blank_good kind is = go (eqb kind Whitespace) refl (eqb kind Comment) refl is
  where
    go : (a : Bool) → eqb kind Whitespace ≡ a → (d : Bool) → eqb kind Comment ≡ d → (a || d) ≡ true
        → (ltb kind kinds ≡ true) × (eof_good false kind ≡ true) × ((bytes : List ℕ) → (text_good kind bytes && extra_good kind 0) ≡ true)
    go true e d f is = rw (eqb-true kind Whitespace e) (refl, refl, (λ bytes. refl))
    go false e true f is = rw (eqb-true kind Comment f) (refl, refl, (λ bytes. refl))
    go false e false f is = absurd (false≢true is)

module _ {text words : List ℕ} {i b : ℕ} {more text₂ words₂ : List ℕ} (at : PutAt text words i b more text₂ words₂) (formed : WellFormed text words) where
  abbrev n : ℕ
  n = length more

  here : Good text words i
  here = good_at text words formed i at.inside

  in_text : b ≤ length text
  in_text = omega (arith, at.before, here.forwards, here.within)

  count : token_count words₂ ≡ suc (token_count words)
  count = omega (arith, at.one_more)

  -- the tokens before number i end at or before b
  ends : (j : ℕ) → j < i → end_of words j ≤ b
  unfolding prev_end
  ends j h = go i h at.inside at.behind
    where
      go : (k : ℕ) → j < k → k < token_count words → prev_end words k ≤ b → end_of words j ≤ b
      go zero h l e = absurd (omega (arith, h))
      go (suc k) h l e =
          ⊎_elim
          (λ (s : j ≡ k). rw s e)
          (λ (s : j < k). omega (arith, ends_before text words formed j k s (omega arith), (good_at text words formed k (omega arith)).forwards, e))
          (eq-or-lt_of_le (omega (arith, h)))

  -- the others start at or behind it
  starts : (j : ℕ) → i ≤ j → j < token_count words → b ≤ start_of words j
  starts j h l =
      ⊎_elim
      (λ (s : i ≡ j). rw s at at.before)
      (λ (s : i < j). omega (arith, at.before, here.forwards, ends_before text words formed i j s l))
      (eq-or-lt_of_le h)

  token_before : (j : ℕ) → j < i → token_of text₂ words₂ j ≡ token_of text words j
  unfolding token_of
  token_before j h =
      token_is words₂ j (at.earlier j h) text₂
      ∙ rw (at.text_is, part_before text b more in_text (start_of words j) (end_of words j) (good_at text words formed j (omega (arith, at.inside))).forwards (ends j h))

  token_behind : (j : ℕ) → i ≤ j → j < token_count words → token_of text₂ words₂ (suc j) ≡ token_of text words j
  unfolding token_of
  token_behind j h l = token_is words₂ (suc j) (at.later j h l) text₂ ∙ rw (at.text_is, part_behind text b more in_text (start_of words j) (end_of words j) (starts j h l))

  -- ---- the list has one token more

  behind : (left j : ℕ) → i ≤ j → j + left ≡ token_count words → PutBetween (view text words (numbers j left)) (view text₂ words₂ (numbers (suc j) left))
  unfolding numbers view
  behind zero j h e = done
  behind (suc left) j h e = rw (add-one j, add-one (suc j), token_behind j h (omega arith)) (both (behind left (suc j) (omega arith) (omega arith)))

  front : (left j : ℕ) → j ≤ i → j + left ≡ token_count words → PutBetween (view text words (numbers j left)) (view text₂ words₂ (numbers j (suc left)))
  unfolding numbers view token_of
  front zero j h e = absurd (omega (arith, at.inside, h, e))
  front (suc left) j h e =
      ⊎_elim
      (λ (s : j ≡ i).
      let is : dropped (kind_of words₂ j) ≡ true = rw s (rw (kind_is words₂ i at.its) at.blank) in
      put is (subst (λ (k : ℕ). PutBetween (view text words (numbers j (suc left))) (view text₂ words₂ (numbers k (suc left)))) (sym (add-one j)) (behind (suc left) j (omega arith) e)))
      (λ (s : j < i). rw (add-one j, token_before j s) (both (front left (suc j) s (omega arith))))
      (eq-or-lt_of_le h)

  pub put_at : PutBetween (all_tokens text words) (all_tokens text₂ words₂)
  put_at = rw count (front (token_count words) 0 (omega arith) (omega arith))

  -- ---- and stays well formed

  ends_same : (j : ℕ) → j ≤ i → prev_end words₂ j ≡ prev_end words j
  unfolding prev_end
  ends_same zero h = refl
  ends_same (suc j) h = end_is words₂ j (at.earlier j h)

  good_before : (j : ℕ) → j < i → Good text₂ words₂ j
  unfolding contents_good eof_good
  good_before j h =
      let g = good_at text words formed j (omega (arith, at.inside)) in
      let is = at.earlier j h in
      let same : part text₂ (start_of words j) (end_of words j) ≡ part text (start_of words j) (end_of words j) = rw at.text_is (part_before text b more in_text (start_of words j) (end_of words j) g.forwards (ends j h)) in
      record {
        known = rw (kind_is words₂ j is) g.known;
        after = rw (start_is words₂ j is, ends_same j (omega arith)) g.after;
        forwards = rw (start_is words₂ j is, end_is words₂ j is) g.forwards;
        within = rw (end_is words₂ j is) (omega (arith, g.within, longer_by text b more in_text, ap length at.text_is));
        eof = rw (kind_is words₂ j is, count, ne_eqb (j + 1) (suc (token_count words)) (λ e. omega (arith, at.inside))) (rw (ne_eqb (j + 1) (token_count words) (λ e. omega (arith, at.inside))) at g.eof);
        contents = rw (kind_is words₂ j is, start_is words₂ j is, end_is words₂ j is, extra_is words₂ j is, same) g.contents;
      }

  -- white space and comments have no text of their own and no extra
  good_put : Good text₂ words₂ i
  unfolding contents_good eof_good
  good_put =
      let is = at.its in
      let plain = blank_good at.kind at.blank in
      record {
        known = rw (kind_is words₂ i is) plain.0;
        after = rw (start_is words₂ i is, ends_same i (omega arith)) at.behind;
        forwards = rw (start_is words₂ i is, end_is words₂ i is) (omega arith);
        within = rw (end_is words₂ i is) (omega (arith, in_text, longer_by text b more in_text, ap length at.text_is));
        eof = rw (kind_is words₂ i is, count, ne_eqb (i + 1) (suc (token_count words)) (λ e. omega (arith, at.inside))) plain.1;
        contents = rw (kind_is words₂ i is, start_is words₂ i is, end_is words₂ i is, extra_is words₂ i is) (plain.2 (part text₂ b (b + n)));
      }

  ends_moved : (j : ℕ) → i ≤ j → j < token_count words → prev_end words₂ (suc j) ≤ start_of words j + n
  unfolding prev_end
  ends_moved j h l =
      ⊎_elim
      (λ (s : i ≡ j). rw (← s) (rw (end_is words₂ i at.its) (omega (arith, at.before))))
      (λ (s : i < j). go j s l)
      (eq-or-lt_of_le h)
    where
      go : (k : ℕ) → i < k → k < token_count words → end_of words₂ k ≤ start_of words k + n
      go zero s l = absurd (omega (arith, s))
      go (suc k) s l = rw (end_is words₂ (suc k) (at.later k (omega arith) (omega arith))) (omega (arith, (good_at text words formed (suc k) l).after))

  good_behind : (j : ℕ) → i ≤ j → j < token_count words → Good text₂ words₂ (suc j)
  unfolding contents_good
  good_behind j h l =
      let g = good_at text words formed j l in
      let is = at.later j h l in
      let same : part text₂ (start_of words j + n) (end_of words j + n) ≡ part text (start_of words j) (end_of words j) = rw at.text_is (part_behind text b more in_text (start_of words j) (end_of words j) (starts j h l)) in
      let next : eqb (suc j + 1) (token_count words₂) ≡ eqb (j + 1) (token_count words) = next_same (token_count words₂) (j + 1) (token_count words) count (omega arith) in
      record {
        known = rw (kind_is words₂ (suc j) is) g.known;
        after = rw (start_is words₂ (suc j) is) (ends_moved j h l);
        forwards = rw (start_is words₂ (suc j) is, end_is words₂ (suc j) is) (omega (arith, g.forwards));
        within = rw (end_is words₂ (suc j) is) (omega (arith, g.within, longer_by text b more in_text, ap length at.text_is));
        eof = rw (kind_is words₂ (suc j) is, next) g.eof;
        contents = rw (kind_is words₂ (suc j) is, start_is words₂ (suc j) is, end_is words₂ (suc j) is, extra_is words₂ (suc j) is, same) g.contents;
      }

  -- within the limits of text and tokens
  pub put_at_formed : length text₂ ≤ most_bytes → token_count words₂ ≤ most_tokens → WellFormed text₂ words₂
  put_at_formed few_bytes few_tokens =
      record {
        whole = whole_then text₂ words₂ (record { short = few_bytes; four = omega (arith, (whole_says text words formed.whole).four, at.one_more); some = omega (arith, count); few = few_tokens });
        each = each;
      }
    where
      each : (j : ℕ) → j < token_count words₂ → good text₂ words₂ j ≡ true
      each j l =
          good_then text₂ words₂ j
          (⊎_elim
          (λ (h : j < i). good_before j h)
          (λ (h : i ≤ j). ⊎_elim (λ (e : i ≡ j). rw e at good_put) (λ (k : i < j). later j k l) (eq-or-lt_of_le h))
          (lt_or_le j i))
        where
          later : (j : ℕ) → i < j → j < token_count words₂ → Good text₂ words₂ j
          later zero k l = absurd (omega (arith, k))
          later (suc j) k l = good_behind j (omega arith) (omega (arith, count))
