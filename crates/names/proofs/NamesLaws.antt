-- Laws of remembered names: the hash by four bytes and by those that are left, the walk a name at a time, buckets, the walk of a bucket, one name more. Assumes
-- nothing.
use Prim.Native.Nat.{ℕ, zero, suc, ◌+◌, ◌-◌, ◌*◌, ◌/◌, ◌≤◌, ◌<◌}
use mathlib.Core.Path.{◌≡◌, refl, sym, ap, ◌∙◌}
use mathlib.Core.Bool.{Bool, true, false, cond}
use mathlib.Core.List.{List, [], ◌∷◌}
use mathlib.Core.Logic.{⊎_elim}
use native.Mathlib.Omega.{arith}
use native.Mathlib.Nat.{eq-or-lt_of_le}
use native.Mathlib.Numerals.{add-one}
use borrow.Author.Tests.{eqb-true, eqb-false}
use lib.Dec.{eqb}
use lib.Bits.{and_le_r}
use lib.ListN.{length, get_or, take, drop, set, replicate, length-set, length-drop, get_or-replicate}
use lib.Seq.{drop-drop, get_or-set_same, get_or-set_other}
use Rattle.std.specs.Int.{w32, from_le_bytes}
use Rattle.std.specs.Simd.{first_chunks}
use Rattle.tokens.specs.Number.{most_tokens}
use Rattle.tokens.specs.Token.{Token, token_at, view}
use Rattle.tokens.specs.Place.{text_at}
use Rattle.tokens.specs.Byte.{same}
use Rattle.tokens.specs.Name.{one_of}
use Rattle.tokens.proofs.NameLaws.{same_equal}
use Rattle.tokens.proofs.TokenLaws.{view_text}
use Rattle.names.specs.Names.{mixed, four_of, rest_of, hash_from, hash_of, bucket_in, bucket_of, tag_of, note_of, place_of, name_at, names_at, latest, Noted, Seen, Checked, Noting, CheckedIn}

-- ---- the hash

pub mixed_small : (h : ℕ) → mixed h < 4294967296
unfolding mixed
mixed_small h = omega arith

-- the chunks of four bytes: number i begins at byte i * 4
four_chunk : (k i : ℕ) (name : List ℕ) → i < k → get_or (first_chunks 4 k name) i [] ≡ take 4 (drop (i * 4) name)
four_chunk zero i name lt = elim lt [ ]
four_chunk (suc k) zero name lt = refl
four_chunk (suc k) (suc i) name lt =
    let at : 4 + i * 4 ≡ suc i * 4 = omega arith in
    four_chunk k i (drop 4 name) (omega arith) ∙ ap (take 4) (drop-drop (i * 4) 4 name ∙ ap (λ (j : ℕ). drop j name) at)

-- four bytes more
four_more : (h : ℕ) (bs : List ℕ) → 4 ≤ length bs → hash_from (mixed (h + from_le_bytes w32 (take 4 bs))) (drop 4 bs) ≡ hash_from h bs
unfolding hash_from four_of
four_more h [] le = absurd (omega (arith, le))
four_more h (a ∷ []) le = absurd (omega (arith, le))
four_more h (a ∷ b ∷ []) le = absurd (omega (arith, le))
four_more h (a ∷ b ∷ c ∷ []) le = absurd (omega (arith, le))
four_more h (a ∷ b ∷ c ∷ d ∷ bs) le = refl

-- of chunk i, as the code reads it
pub hash_four : (h i : ℕ) (name : List ℕ) (fours : List (List ℕ)) {x m : ℕ} → fours ≡ first_chunks 4 (length name / 4) name → i < length name / 4
    → x ≡ from_le_bytes w32 (get_or fours i []) → m ≡ mixed (h + x) → hash_from m (drop ((i + 1) * 4) name) ≡ hash_from h (drop (i * 4) name)
hash_four h i name fours chunks lt read mixed_in =
    let next : i * 4 + 4 ≡ (i + 1) * 4 = omega arith in
    let four : get_or fours i [] ≡ take 4 (drop (i * 4) name) = ap (λ (l : List (List ℕ)). get_or l i []) chunks ∙ four_chunk (length name / 4) i name lt in
    rw (← next, ← drop-drop 4 (i * 4) name, mixed_in, read, four) (four_more h (drop (i * 4) name) (omega (arith, length-drop (i * 4) name)))

-- fewer than four bytes as one number
pub rest_none : (bs : List ℕ) → length bs < 1 → 0 ≡ rest_of bs
unfolding rest_of
rest_none [] lt = refl
rest_none (a ∷ bs) lt = absurd (omega (arith, lt))

pub rest_one : (bs : List ℕ) → 1 ≤ length bs → length bs < 2 → get_or bs 0 0 ≡ rest_of bs
unfolding rest_of
rest_one [] le lt = absurd (omega (arith, le))
rest_one (a ∷ []) le lt = refl
rest_one (a ∷ b ∷ bs) le lt = absurd (omega (arith, lt))

pub rest_two : (bs : List ℕ) → 2 ≤ length bs → length bs < 3 → get_or bs 0 0 * 256 + get_or bs 1 0 ≡ rest_of bs
unfolding rest_of
rest_two [] le lt = absurd (omega (arith, le))
rest_two (a ∷ []) le lt = absurd (omega (arith, le))
rest_two (a ∷ b ∷ []) le lt = refl
rest_two (a ∷ b ∷ c ∷ bs) le lt = absurd (omega (arith, lt))

pub rest_three : (bs : List ℕ) → 3 ≤ length bs → (get_or bs 0 0 * 256 + get_or bs 1 0) * 256 + get_or bs 2 0 ≡ rest_of bs
unfolding rest_of
rest_three [] le = absurd (omega (arith, le))
rest_three (a ∷ []) le = absurd (omega (arith, le))
rest_three (a ∷ b ∷ []) le = absurd (omega (arith, le))
rest_three (a ∷ b ∷ c ∷ bs) le = refl

pub hash_end : (h : ℕ) (bs : List ℕ) → length bs < 4 → mixed (h + rest_of bs) ≡ hash_from h bs
unfolding hash_from
hash_end h [] lt = refl
hash_end h (a ∷ []) lt = refl
hash_end h (a ∷ b ∷ []) lt = refl
hash_end h (a ∷ b ∷ c ∷ []) lt = refl
hash_end h (a ∷ b ∷ c ∷ d ∷ bs) lt = absurd (omega (arith, lt))

-- ---- the walk

module _ (all : List Token) (places name : List ℕ) where
  -- the name at j is the same
  walk_found : (i j : ℕ) → i ≡ suc j → same (name_at all places j) name ≡ true → one_of (names_at all places i) name ≡ true
  unfolding one_of names_at
  walk_found i j e h = rw (e, h)

  -- the name at j is another
  walk_other : (i j : ℕ) → i ≡ suc j → same (name_at all places j) name ≡ false → one_of (names_at all places i) name ≡ one_of (names_at all places j) name
  unfolding one_of names_at
  walk_other i j e h = rw (e, h)

  -- no name is left
  walk_end : one_of (names_at all places 0) name ≡ false
  unfolding one_of names_at
  walk_end = refl

-- what the code compares is the name at a place
pub same_here : (text words kept : List ℕ) (p : ℕ) (name part : List ℕ) {r : Bool} → part ≡ text_at text words kept p → r ≡ same part name
    → r ≡ same (token_at (view text words kept) p).text name
same_here text words kept p name part e s = s ∙ ap (λ (l : List ℕ). same l name) (e ∙ sym (view_text text words kept p))

-- what the code asks of a text is asked of the name at a place
pub asked_here : (text words kept places : List ℕ) (n p : ℕ) (name : List ℕ) {r t : Bool} → name ≡ text_at text words kept p
    → r ≡ one_of (names_at (view text words kept) places n) name → r ≡ t
    → t ≡ one_of (names_at (view text words kept) places n) (token_at (view text words kept) p).text
asked_here text words kept places n p name e s is = sym is ∙ s ∙ ap (one_of (names_at (view text words kept) places n)) (e ∙ sym (view_text text words kept p))

-- ---- buckets

-- the bucket lies inside
pub bucket_inside : (size h : ℕ) → 1 ≤ size → bucket_in size h < size
unfolding bucket_in
bucket_inside size h some = let below = and_le_r h (size - 1) in omega arith

-- names that differ in what is worked out from them are different
pub other_name : (f : List ℕ → ℕ) (a b : List ℕ) → (f a ≡ f b → ⊥) → same a b ≡ false
other_name f a b h = go (same a b) refl
  where
    go : (t : Bool) → same a b ≡ t → t ≡ false
    go true e = absurd (h (ap f ((same_equal a b).0 e)))
    go false e = refl

module _ (size : ℕ) (all : List Token) (places : List ℕ) where
  -- the last name of a bucket is one of the names
  latest_le : (b n : ℕ) → latest size all places b n ≤ n
  unfolding latest
  latest_le b zero = omega arith
  latest_le b (suc n) = go (eqb (bucket_of size (name_at all places n)) b) (latest_le b n)
    where
      go : (t : Bool) → latest size all places b n ≤ n → cond t (suc n) (latest size all places b n) ≤ suc n
      go true le = omega arith
      go false le = omega arith

  -- its bucket is that one
  latest_own : (b n i : ℕ) → latest size all places b n ≡ suc i → bucket_of size (name_at all places i) ≡ b
  unfolding latest
  latest_own b zero i e = absurd (none i e)
    where
      none : (i : ℕ) → 0 ≡ suc i → ⊥
      none i e = omega arith
  latest_own b (suc n) i e = go (eqb (bucket_of size (name_at all places n)) b) refl (latest_own b n i) e
    where
      go : (t : Bool) → eqb (bucket_of size (name_at all places n)) b ≡ t → (latest size all places b n ≡ suc i → bucket_of size (name_at all places i) ≡ b)
          → cond t (suc n) (latest size all places b n) ≡ suc i → bucket_of size (name_at all places i) ≡ b
      go true x ih e = let is : i ≡ n = omega (arith, e) in rw is (eqb-true _ _ x)
      go false x ih e = ih e

  -- a name is one of the first n if it is one of those up to the last of its bucket
  latest_asked : (name : List ℕ) (n : ℕ) → one_of (names_at all places (latest size all places (bucket_of size name) n)) name ≡ one_of (names_at all places n) name
  unfolding latest
  latest_asked name zero = refl
  latest_asked name (suc n) = go (eqb (bucket_of size (name_at all places n)) (bucket_of size name)) refl (latest_asked name n)
    where
      go : (t : Bool) → eqb (bucket_of size (name_at all places n)) (bucket_of size name) ≡ t
          → one_of (names_at all places (latest size all places (bucket_of size name) n)) name ≡ one_of (names_at all places n) name
          → one_of (names_at all places (cond t (suc n) (latest size all places (bucket_of size name) n))) name ≡ one_of (names_at all places (suc n)) name
      go true x ih = refl
      go false x ih = ih ∙ sym (walk_other all places name (suc n) n refl (other_name (bucket_of size) (name_at all places n) name (eqb-false _ _ x)))

-- ---- the walk of a bucket

-- at each turn: a name is one of n if it is one of the first j, of which the last is of its bucket
pub record Seeking (size : ℕ) (all : List Token) (places name : List ℕ) (n j : ℕ) : Type 0 where
  pub inside : j ≤ n
  pub asked : one_of (names_at all places j) name ≡ one_of (names_at all places n) name
  pub own : (i : ℕ) → j ≡ suc i → bucket_of size (name_at all places i) ≡ bucket_of size name

-- from the last of its bucket on
seek_from : (size : ℕ) (all : List Token) (places name : List ℕ) (n m j : ℕ) → m ≤ n → one_of (names_at all places m) name ≡ one_of (names_at all places n) name
    → j ≡ latest size all places (bucket_of size name) m → Seeking size all places name n j
seek_from size all places name n m j le e is =
    let most = latest_le size all places (bucket_of size name) m in
    record {
      inside = omega arith;
      asked = rw is (latest_asked size all places name m ∙ e);
      own = λ i s. latest_own size all places (bucket_of size name) m i (sym is ∙ s);
    }

-- at the start
pub seek_begins : (size : ℕ) (all : List Token) (places name : List ℕ) (n j : ℕ) → j ≡ latest size all places (bucket_of size name) n → Seeking size all places name n j
seek_begins size all places name n j = seek_from size all places name n n j (omega arith) refl

module _ {size : ℕ} {all : List Token} {places name : List ℕ} {n j : ℕ} (seek : Seeking size all places name n j) where
  -- no name is left
  pub seek_ends : j ≤ 0 → false ≡ one_of (names_at all places n) name
  seek_ends le = let is : j ≡ 0 = omega arith in sym (walk_end all places name) ∙ rw is at seek.asked

  -- the name at i is the same
  pub seek_found : (i : ℕ) → j ≡ suc i → same (name_at all places i) name ≡ true → true ≡ one_of (names_at all places n) name
  seek_found i is h = sym (walk_found all places name j i is h) ∙ seek.asked

module _ {all : List Token} {heads next places name : List ℕ} {n j : ℕ} (noted : Noted all heads next places n) (seek : Seeking (length heads) all places name n j)
    (i : ℕ) (is : j ≡ suc i) where
  -- the one before it in its bucket
  before : get_or next i 0 ≡ latest (length heads) all places (bucket_of (length heads) name) i
  before = noted.link i (omega (arith, seek.inside)) ∙ ap (λ (b : ℕ). latest (length heads) all places b i) (seek.own i is)

  -- is an earlier one
  pub seek_less : get_or next i 0 < j
  seek_less = let most = latest_le (length heads) all places (bucket_of (length heads) name) i in omega (arith, before)

  -- the name at i is another
  pub seek_on : same (name_at all places i) name ≡ false → Seeking (length heads) all places name n (get_or next i 0)
  seek_on other =
      seek_from (length heads) all places name n i (get_or next i 0) (omega (arith, seek.inside)) (sym (walk_other all places name j i is other) ∙ seek.asked) before

-- what the code reads of a bucket is its last name
pub bucket_last : {all : List Token} {heads next places : List ℕ} {n : ℕ} (name : List ℕ) {h b : ℕ} → Noted all heads next places n → h ≡ hash_of name → b ≡ bucket_in (length heads) h
    → get_or heads b 0 ≡ latest (length heads) all places (bucket_of (length heads) name) n
bucket_last {heads = heads} name noted hashed is = rw (is, hashed) (noted.head (bucket_of (length heads) name) (bucket_inside (length heads) (hash_of name) noted.some))

-- ---- room

-- in buckets of zeros no name is remembered, whatever the places and links hold
pub fresh_noted : (all : List Token) (heads next places : List ℕ) → 1 ≤ length heads → heads ≡ replicate (length heads) 0 → Noted all heads next places 0
unfolding latest
fresh_noted all heads next places some zeros =
    record {
      placed = omega arith;
      linked = omega arith;
      some = some;
      head = λ j lt. ap (λ (l : List ℕ). get_or l j 0) zeros ∙ get_or-replicate (length heads) j 0 0 lt;
      link = λ j h. absurd (none j h);
      tag = λ j h. absurd (none j h);
    }
  where
    none : (j : ℕ) → j < 0 → ⊥
    none j h = omega arith

-- ---- how many names

pub names_length : (all : List Token) (places : List ℕ) (n : ℕ) → length (names_at all places n) ≡ n
unfolding names_at
names_length all places zero = refl
names_length all places (suc n) = ap suc (names_length all places n)

-- ---- one name more

-- an earlier number is another, and a number before n + 1 is n or earlier
apart : (j n : ℕ) → j < n → j ≡ n → ⊥
apart j n lt e = omega arith

down : (j n : ℕ) → j < suc n → j ≤ n
down j n lt = omega arith

-- a note tells the place and the tag
note_place : (h p : ℕ) → p < most_tokens → place_of (note_of h p) ≡ p
note_place h p few = omega arith

note_tag : (h p : ℕ) → p < most_tokens → tag_of (note_of h p) ≡ tag_of h
note_tag h p few = omega arith

-- what was remembered before stays, whatever stands at number n: a name, the names, the last of a bucket
module _ (all : List Token) (places : List ℕ) (n w : ℕ) where
  earlier : (j : ℕ) → j < n → name_at all (set places n w) j ≡ name_at all places j
  earlier j lt = ap (λ (q : ℕ). (token_at all (place_of q)).text) (get_or-set_other places n j w 0 (apart j n lt))

  earlier_names : (k : ℕ) → k ≤ n → names_at all (set places n w) k ≡ names_at all places k
  unfolding names_at
  earlier_names zero le = refl
  earlier_names (suc k) le = rw (earlier k (omega arith), earlier_names k (omega arith))

  earlier_latest : (size b k : ℕ) → k ≤ n → latest size all (set places n w) b k ≡ latest size all places b k
  unfolding latest
  earlier_latest size b zero le = refl
  earlier_latest size b (suc k) le = rw (earlier k (omega arith), earlier_latest size b k (omega arith))

-- a link or a place behind the n names is of no account
pub link_behind : {all : List Token} {heads next places : List ℕ} {n : ℕ} (v : ℕ) → Noted all heads next places n → Noted all heads (set next n v) places n
link_behind {next = next} {n = n} v noted =
    record {
      placed = noted.placed;
      linked = rw length-set noted.linked;
      some = noted.some;
      head = noted.head;
      link = λ j lt. get_or-set_other next n j v 0 (apart j n lt) ∙ noted.link j lt;
      tag = noted.tag;
    }

pub place_behind : {all : List Token} {heads next places : List ℕ} {n : ℕ} (w : ℕ) → Noted all heads next places n → Noted all heads next (set places n w) n
place_behind {all} {heads} {next} {places} {n} w noted =
    record {
      placed = rw length-set noted.placed;
      linked = noted.linked;
      some = noted.some;
      head = λ b lt. noted.head b lt ∙ sym (earlier_latest all places n w (length heads) b n (omega arith));
      link = λ j lt.
          rw (earlier all places n w j lt)
          (noted.link j lt ∙ sym (earlier_latest all places n w (length heads) (bucket_of (length heads) (name_at all places j)) j (omega arith)));
      tag = λ j lt. rw (earlier all places n w j lt) (ap tag_of (get_or-set_other places n j w 0 (apart j n lt)) ∙ noted.tag j lt);
    }

module _ (all : List Token) (heads next places : List ℕ) (n p : ℕ) where
  -- the bucket of the new name
  abbrev here : ℕ
  here = bucket_of (length heads) (token_at all p).text

  abbrev heads' : List ℕ
  heads' = set heads here (suc n)

  abbrev next' : List ℕ
  next' = set next n (get_or heads here 0)

  abbrev note : ℕ
  note = note_of (hash_of (token_at all p).text) p

  abbrev places' : List ℕ
  places' = set places n note

  module _ (noted : Noted all heads next places n) (room : n < length next) (room' : n < length places) (few : p < most_tokens) where
    -- what is remembered now is the name at p
    newest : name_at all places' n ≡ (token_at all p).text
    newest =
        ap (λ (q : ℕ). (token_at all (place_of q)).text) (get_or-set_same places n note 0 room')
        ∙ ap (λ (q : ℕ). (token_at all q).text) (note_place (hash_of (token_at all p).text) p few)

    -- its bucket lies inside
    inside : here < length heads
    inside = bucket_inside (length heads) (hash_of (token_at all p).text) noted.some

    -- the new name is the last of its bucket, and other buckets are as they were
    head' : (b : ℕ) → b < length heads → get_or heads' b 0 ≡ latest (length heads) all places' b (suc n)
    unfolding latest
    head' b lt = go (eqb here b) refl
      where
        go : (t : Bool) → eqb here b ≡ t → get_or heads' b 0 ≡ latest (length heads) all places' b (suc n)
        go true x = rw (newest, x, ← eqb-true here b x) (get_or-set_same heads here (suc n) 0 inside)
        go false x =
            rw (newest, x)
            (get_or-set_other heads here b (suc n) 0 (λ e. eqb-false here b x (sym e)) ∙ noted.head b lt ∙ sym (earlier_latest all places n note (length heads) b n (omega arith)))

    -- it leads to the one that was the last
    link' : (j : ℕ) → j < suc n → get_or next' j 0 ≡ latest (length heads) all places' (bucket_of (length heads) (name_at all places' j)) j
    link' j lt =
        ⊎_elim
        (λ (e : j ≡ n).
        rw (e, newest) (get_or-set_same next n (get_or heads here 0) 0 room ∙ noted.head here inside ∙ sym (earlier_latest all places n note (length heads) here n (omega arith))))
        (λ (l : j < n).
        rw (earlier all places n note j l)
        (get_or-set_other next n j (get_or heads here 0) 0 (apart j n l)
        ∙ noted.link j l
        ∙ sym (earlier_latest all places n note (length heads) (bucket_of (length heads) (name_at all places j)) j (omega arith))))
        (eq-or-lt_of_le (down j n lt))

    -- its tag stands beside it
    tag' : (j : ℕ) → j < suc n → tag_of (get_or places' j 0) ≡ tag_of (hash_of (name_at all places' j))
    tag' j lt =
        ⊎_elim
        (λ (e : j ≡ n). rw (e, newest) (ap tag_of (get_or-set_same places n note 0 room') ∙ note_tag (hash_of (token_at all p).text) p few))
        (λ (l : j < n). rw (earlier all places n note j l) (ap tag_of (get_or-set_other places n j note 0 (apart j n l)) ∙ noted.tag j l))
        (eq-or-lt_of_le (down j n lt))

    -- one name more is remembered
    noted_more : Noted all heads' next' places' (suc n) × (names_at all places' (suc n) ≡ (token_at all p).text ∷ names_at all places n)
    unfolding names_at
    noted_more = (
      record {
        placed = rw length-set room';
        linked = rw length-set room;
        some = rw length-set noted.some;
        head = rw (length-set heads here (suc n)) head';
        link = rw (length-set heads here (suc n)) link';
        tag = tag';
      },
      rw (newest, earlier_names all places n note n (omega arith)),
    )

-- the same of what the code stores
pub remembered : (all : List Token) (heads next places : List ℕ) (n p h b : ℕ) → Noted all heads next places n → n < length next → n < length places → p < most_tokens
    → h ≡ hash_of (token_at all p).text → b ≡ bucket_in (length heads) h
    → Noted all (set heads b (n + 1)) (set next n (get_or heads b 0)) (set places n (note_of h p)) (n + 1)
    × (names_at all (set places n (note_of h p)) (n + 1) ≡ (token_at all p).text ∷ names_at all places n)
remembered all heads next places n p h b noted room room' few hashed is = rw (is, hashed, add-one n) (noted_more all heads next places n p noted room room' few)

-- what is seen of remembered names after a test says what the tables hold, in which they stand
checked_as : (r : Bool) (all : List Token) (name places hs xs ps : List ℕ) (n n' : ℕ)
    → Noted all hs xs ps n'
    → names_at all ps n' ≡ cond r (names_at all places n) (name ∷ names_at all places n)
    → Noting r all name places n hs xs ps (suc n)
checked_as true all name places hs xs ps n n' noted names = tt
checked_as false all name places hs xs ps n n' noted names =
    let counted : n' ≡ suc n = sym (names_length all ps n') ∙ ap length names ∙ ap suc (names_length all places n) in (rw (← counted) noted, rw (← counted) names)

pub checked_in : (r : Bool) (all all' : List Token) (name places heads next to hs xs ps : List ℕ) (n n' room room' : ℕ)
    → Checked name (record { tokens = all; names = names_at all places n; room = room }) r (record { tokens = all'; names = names_at all' to n'; room = room' })
    → Noted all' heads next to n'
    → hs ≡ heads
    → xs ≡ next
    → ps ≡ to
    → CheckedIn all name places n r hs xs ps
checked_in r all all' name places heads next to hs xs ps n n' room room' m noted h x p = record { is = m.is; then = rw (h, x, p) (checked_as r all name places heads next to n n' (rw same at noted) (rw same at names)) }
  where
    same : all' ≡ all
    same = ap (λ (s : Seen). s.tokens) m.then ∙ both r
      where
        both : (b : Bool) → (cond {A = Seen} b (record { tokens = all; names = names_at all places n; room = room }) (record { tokens = all; names = name ∷ names_at all places n; room = room })).tokens ≡ all
        both true = refl
        both false = refl

    names : names_at all' to n' ≡ cond r (names_at all places n) (name ∷ names_at all places n)
    names = ap (λ (s : Seen). s.names) m.then ∙ both r
      where
        both : (b : Bool)
            → (cond {A = Seen} b (record { tokens = all; names = names_at all places n; room = room }) (record { tokens = all; names = name ∷ names_at all places n; room = room })).names
            ≡ cond b (names_at all places n) (name ∷ names_at all places n)
        both true = refl
        both false = refl
