-- The lexeme that the reader finds has its shape. Assumes nothing.
use Prim.Native.Nat.{ℕ, zero, suc, ◌+◌, ◌-◌, ◌≤◌, ◌<◌}
use Prim.Native.Char.{code}
use mathlib.Core.Path.{◌≡◌, refl, sym, ap, subst, ◌∙◌}
use mathlib.Core.Bool.{Bool, true, false, cond, and-true}
use mathlib.Core.List.{List, [], ◌∷◌}
use native.Mathlib.Omega.{arith}
use borrow.Author.Tests.{eqb-true, ltb-true}
use lib.ListN.{length, get_or, take, drop, length-drop, take-append-drop}
use lib.Dec.{eqb, ltb}
use lib.Seq.{length-take-le, take-take, get_or-take, get_or-drop}
use Rattle.std.specs.Prelude.{Ok, Err}
use Rattle.tokens.specs.Byte.{bytes, same, is_hex}
use Rattle.tokens.specs.Kind.{Eof, Whitespace, Comment, Str}
use Rattle.tokens.proofs.Laws.{and_left, and_right, drop_take}
use Rattle.tokens.proofs.NameLaws.{same_equal}
use Rattle.spelling.specs.Spelling.{spelt, value_of, marks}
use Rattle.lexemes.specs.Bytes.{is_space, is_digit, is_word_byte, is_quote, in_line, in_quotes, all, begins, first}
use Rattle.lexemes.specs.Contexts.{is_code}
use Rattle.lexemes.specs.Shapes.{space, line, block, string, define, include, mark, entry, literal, number, word, pointer, Begins}
use Rattle.lexemes.specs.Reader as reader
use Rattle.lexemes.specs.Reader.{run, closing, opened, slash, quoted, hashed, hash, digits, worded, mark_is, marked, lexeme_of, Look, found}
use Rattle.lexemes.specs.declared.Context.{Context}
use Rattle.lexemes.proofs.RunLaws.{run_all, run_inside, run_next, run_some}

-- ---- bytes that come first

-- of what comes first only so many bytes count
pub begins_front : (what bs : List ℕ) (n : ℕ) → length what ≤ n → begins what (take n bs) ≡ begins what bs
unfolding begins
begins_front what bs n h = rw (take-take (length what) n bs h)

-- .. and of what is cut off behind
pub begins_inner : (what bs : List ℕ) (n i : ℕ) → i + length what ≤ n → begins what (drop i (take n bs)) ≡ begins what (drop i bs)
begins_inner what bs n i h = rw (drop_take i n bs) (begins_front what (drop i bs) (n - i) (omega arith))

pub begins_is : (what bs : List ℕ) → begins what bs ≡ true → take (length what) bs ≡ what
unfolding begins
begins_is what bs e = (same_equal (take (length what) bs) what).0 e

pub is_begins : (what bs : List ℕ) → take (length what) bs ≡ what → begins what bs ≡ true
unfolding begins
is_begins what bs e = (same_equal (take (length what) bs) what).1 e

-- bytes that begin with others are as long at least
pub begins_inside : (what bs : List ℕ) → begins what bs ≡ true → length what ≤ length bs
begins_inside what bs e = long (length what) bs (ap length (begins_is what bs e))
  where
    long : (n : ℕ) (l : List ℕ) → length (take n l) ≡ n → n ≤ length l
    long zero l h = omega arith
    long (suc n) [] h = absurd (omega arith)
    long (suc n) (x ∷ l) h = let r = long n l (omega arith) in omega arith

pub closing_begins : (bs : List ℕ) → closing bs ≡ begins (bytes "*/") bs
unfolding closing begins bytes same
closing_begins [] = refl
closing_begins (a ∷ []) = refl
closing_begins (a ∷ b ∷ bs) = rw and-true

-- a byte that is not 0 stands in the text
pub stands : (bs : List ℕ) (i : ℕ) → 0 < get_or bs i 0 → i < length bs
stands [] i h = absurd (omega arith)
stands (b ∷ bs) zero h = omega arith
stands (b ∷ bs) (suc i) h = let r = stands bs i h in omega arith

-- ---- where a comment ends

-- it ends where it is said to end, and not before
pub opened_closes : (bs : List ℕ) → opened bs < length bs → closing (drop (opened bs) bs) ≡ true
unfolding opened
opened_closes [] h = absurd (omega arith)
opened_closes (b ∷ bs) h = go (closing (b ∷ bs)) refl h (opened_closes bs)
  where
    go : (t : Bool) → closing (b ∷ bs) ≡ t → cond t 0 (suc (opened bs)) < suc (length bs) → (opened bs < length bs → closing (drop (opened bs) bs) ≡ true)
        → closing (drop (cond t 0 (suc (opened bs))) (b ∷ bs)) ≡ true
    go true e l r = e
    go false e l r = r (omega arith)

pub opened_open : (bs : List ℕ) (i : ℕ) → i < opened bs → closing (drop i bs) ≡ false
unfolding opened
opened_open [] i h = absurd (omega arith)
opened_open (b ∷ bs) i h = go (closing (b ∷ bs)) refl i h (opened_open bs)
  where
    go : (t : Bool) → closing (b ∷ bs) ≡ t → (j : ℕ) → j < cond t 0 (suc (opened bs)) → ((k : ℕ) → k < opened bs → closing (drop k bs) ≡ false)
        → closing (drop j (b ∷ bs)) ≡ false
    go true e j l r = absurd (omega arith)
    go false e zero l r = e
    go false e (suc j) l r = r j (omega arith)

-- ---- each shape

-- what is found has its shape
abbrev pub Good : Context → List ℕ → Look → Type 0
Good c bs (Ok f) = Begins c bs f.kind f.length
Good c bs (Err r) = Unit {0}

pub by_cond : (P : Look → Type 0) (t : Bool) {a b : Look} → (t ≡ true → P a) → (t ≡ false → P b) → P (cond t a b)
by_cond P true p q = p refl
by_cond P false p q = q refl

module _ (c : Context) where
  spaces : (bs : List ℕ) → 0 < length bs → is_space (first bs) ≡ true → Good c bs (found Whitespace (run is_space bs))
  spaces bs h e =
      (run_inside is_space bs, space (rw (length-take-le (run is_space bs) bs (run_inside is_space bs)) (run_some is_space bs h e)) (run_all is_space bs))

  a_line : (rest : List ℕ) → Good c (47 ∷ 47 ∷ rest) (found Comment (run in_line (47 ∷ 47 ∷ rest)))
  unfolding run in_line begins bytes same
  a_line rest = (run_inside in_line (47 ∷ 47 ∷ rest), line refl (run_all in_line (47 ∷ 47 ∷ rest)))

  -- a comment's end stands behind its opening
  closed : (rest : List ℕ) → opened rest < length rest → begins (bytes "*/") (drop (opened rest) rest) ≡ true
  closed rest h = sym (closing_begins (drop (opened rest) rest)) ∙ opened_closes rest h

  a_block : (rest : List ℕ) → opened rest < length rest → Good c (47 ∷ 42 ∷ rest) (found Comment (opened rest + 4))
  unfolding bytes begins same
  a_block rest h =
      (inside, block (rw l (omega arith)) (begins_front (bytes "/*") bs n (omega arith)) (rw (l, end) (begins_inner (bytes "*/") bs n (suc (suc (opened rest))) (omega arith) ∙ closed rest h)) not_before)
    where
      bs : List ℕ
      bs = 47 ∷ 42 ∷ rest

      n : ℕ
      n = opened rest + 4

      inside : n ≤ length bs
      inside = let e = begins_inside (bytes "*/") (drop (opened rest) rest) (closed rest h) in let d = length-drop (opened rest) rest in omega arith

      l : length (take n bs) ≡ n
      l = length-take-le n bs inside

      end : n - 2 ≡ suc (suc (opened rest))
      end = omega arith

      not_before : (i : ℕ) → 2 ≤ i → i + 2 < length (take n bs) → begins (bytes "*/") (drop i (take n bs)) ≡ false
      not_before zero g m = absurd (omega arith)
      not_before (suc zero) g m = absurd (omega arith)
      not_before (suc (suc i)) g m =
          let k : suc (suc i) + 2 < n = rw l at m in
          begins_inner (bytes "*/") bs n (suc (suc i)) (omega arith)
          ∙ sym (closing_begins (drop i rest))
          ∙ opened_open rest i (omega arith)

  a_string : (q : ℕ) (rest : List ℕ) → is_quote q ≡ true → 0 < q → get_or rest (run (in_quotes q) rest) 0 ≡ q → Good c (q ∷ rest) (found Str (run (in_quotes q) rest + 2))
  a_string q rest quote p e =
      (inside, string (rw l (omega arith)) (rw (f) quote) (rw (l, f) last) (rw (l, f) between))
    where
      bs : List ℕ
      bs = q ∷ rest

      r : ℕ
      r = run (in_quotes q) rest

      n : ℕ
      n = r + 2

      inside : n ≤ length bs
      inside = let s = stands rest r (rw e p) in omega arith

      l : length (take n bs) ≡ n
      l = length-take-le n bs inside

      f : get_or (take n bs) 0 0 ≡ q
      f = get_or-take n bs 0 0 (omega arith)

      last : get_or (take n bs) (n - 1) 0 ≡ q
      last = let z : n - 1 ≡ suc r = omega arith in rw z (get_or-take n bs (suc r) 0 (omega arith) ∙ e)

      between : all (in_quotes q) (take (n - 2) (drop 1 (take n bs))) ≡ true
      between =
          let z : n - 2 ≡ r = omega arith in
          rw (z, drop_take 1 n bs, take-take r (n - 1) rest (omega arith)) (run_all (in_quotes q) rest)

  hash_word : (what rest : List ℕ) → hashed what (35 ∷ rest) ≡ true → (suc (length what) ≤ length (35 ∷ rest)) × (take (suc (length what)) (35 ∷ rest) ≡ 35 ∷ what) × (is_word_byte (first (drop (suc (length what)) (35 ∷ rest))) ≡ false)
  unfolding hashed is_word_byte is_digit
  hash_word what rest e =
      let b = and_right (eqb (run is_word_byte rest) (length what)) (begins what rest) e in
      let n = eqb-true (run is_word_byte rest) (length what) (and_left (eqb (run is_word_byte rest) (length what)) (begins what rest) e) in
      let i = begins_inside what rest b in
      let z : length what + 0 ≡ run is_word_byte rest = omega arith in
      (omega arith, ap (λ (l : List ℕ). 35 ∷ l) (begins_is what rest b), rw (get_or-drop (length what) rest 0 0, z) (run_next is_word_byte rest refl))

  a_hash : (rest : List ℕ) → Good c (35 ∷ rest) (hash (35 ∷ rest))
  unfolding hash bytes spelt value_of marks same
  a_hash rest =
      by_cond (Good c (35 ∷ rest)) (hashed (bytes "define") (35 ∷ rest))
      (λ e. let h = hash_word (bytes "define") rest e in (h.0, define h.1 h.2))
      (λ _. by_cond (Good c (35 ∷ rest)) (hashed (bytes "include") (35 ∷ rest))
      (λ e. let h = hash_word (bytes "include") rest e in (h.0, include h.1 h.2))
      (λ _. (omega arith, mark refl (omega arith))))

  a_mark : (b : ℕ) (rest : List ℕ) → Good c (b ∷ rest) (marked b)
  unfolding mark_is
  a_mark b rest = go (value_of marks Eof (b ∷ [])) refl
    where
      go : (k : ℕ) → value_of marks Eof (b ∷ []) ≡ k → Good c (b ∷ rest) (mark_is k)
      go zero e = tt
      go (suc k) e = (omega arith, mark e (omega arith))

  -- a run of a class, with its length
  run_size : (f : ℕ → Bool) (bs : List ℕ) → 0 < length bs → f (first bs) ≡ true → 0 < length (take (run f bs) bs)
  run_size f bs h e = rw (length-take-le (run f bs) bs (run_inside f bs)) (run_some f bs h e)

  -- 0x and the hex digits behind it
  a_literal_lem : (bs : List ℕ) → is_code c ≡ false → begins (bytes "0x") bs ≡ true → Good c bs (digits (run is_hex (drop 2 bs)))
  unfolding digits bytes
  a_literal_lem bs o b = go (run is_hex (drop 2 bs)) refl
    where
      go : (n : ℕ) → run is_hex (drop 2 bs) ≡ n → Good c bs (digits n)
      go zero e = tt
      go (suc j) e =
          let d = length-drop 2 bs in
          let r = run_inside is_hex (drop 2 bs) in
          let l : length (take (suc j + 2) bs) ≡ suc j + 2 = length-take-le (suc j + 2) bs (omega arith) in
          let z : suc j + 2 - 2 ≡ run is_hex (drop 2 bs) = omega arith in
          (omega arith, literal o (rw l (omega arith)) (begins_front (bytes "0x") bs (suc j + 2) (omega arith) ∙ b) (rw (drop_take 2 (suc j + 2) bs, z) (run_all is_hex (drop 2 bs))))

  a_number : (bs : List ℕ) → 0 < length bs → is_code c ≡ false → is_digit (first bs) ≡ true → Good c bs (reader.number bs)
  unfolding reader.number
  a_number bs h o d =
      by_cond (Good c bs) (begins (bytes "0x") bs) (λ e. a_literal_lem bs o e)
      (λ e. (run_inside is_digit bs, number o (run_size is_digit bs h d) (run_all is_digit bs) (rw (take-append-drop (run is_digit bs) bs) e)))

  a_word : (bs : List ℕ) → 0 < length bs → is_code c ≡ false → is_word_byte (first bs) ≡ true → is_digit (first bs) ≡ false → Good c bs (reader.word bs)
  unfolding reader.word bytes
  a_word bs h o w d =
      by_cond (Good c bs) (begins (bytes "FREE_STORAGE_POINTER()") bs)
      (λ e. (begins_inside (bytes "FREE_STORAGE_POINTER()") bs e, pointer o (begins_is (bytes "FREE_STORAGE_POINTER()") bs e)))
      (λ e. (run_inside is_word_byte bs, word o (run_size is_word_byte bs h w) (run_all is_word_byte bs) (rw (get_or-take (run is_word_byte bs) bs 0 0 (run_some is_word_byte bs h w)) d)))

  -- what begins with a letter, a digit or an underscore
  a_worded : (bs : List ℕ) → 0 < length bs → is_word_byte (first bs) ≡ true → Good c bs (worded c bs)
  unfolding worded
  a_worded bs h w =
      by_cond (Good c bs) (is_code c) (λ o. (run_inside is_word_byte bs, entry o (run_size is_word_byte bs h w) (run_all is_word_byte bs)))
      (λ o. by_cond (Good c bs) (is_digit (first bs)) (λ d. a_number bs h o d) (λ d. a_word bs h o w d))

  -- a byte that is known by a test
  at_byte : (b d : ℕ) (rest : List ℕ) (f : List ℕ → Look) → eqb b d ≡ true → Good c (d ∷ rest) (f (d ∷ rest)) → Good c (b ∷ rest) (f (b ∷ rest))
  at_byte b d rest f e g = subst (λ (x : ℕ). Good c (x ∷ rest) (f (x ∷ rest))) (sym (eqb-true b d e)) g

  -- what begins with a slash
  a_slash : (rest : List ℕ) → Good c (47 ∷ rest) (slash (47 ∷ rest))
  unfolding slash
  a_slash [] = tt
  a_slash (b ∷ rest) =
      by_cond (Good c (47 ∷ b ∷ rest)) (eqb b (code "/")) (λ e. subst (λ (x : ℕ). Good c (47 ∷ x ∷ rest) (found Comment (run in_line (47 ∷ x ∷ rest)))) (sym (eqb-true b 47 e)) (a_line rest))
      (λ _. by_cond (Good c (47 ∷ b ∷ rest)) (eqb b (code "*"))
      (λ e. by_cond (Good c (47 ∷ b ∷ rest)) (ltb (opened rest) (length rest))
      (λ l. subst (λ (x : ℕ). Good c (47 ∷ x ∷ rest) (found Comment (opened rest + 4))) (sym (eqb-true b 42 e)) (a_block rest (ltb-true (opened rest) (length rest) l)))
      (λ _. tt))
      (λ _. tt))

  -- what begins with a quote
  a_quoted : (q : ℕ) (rest : List ℕ) → is_quote q ≡ true → 0 < q → Good c (q ∷ rest) (quoted q (q ∷ rest))
  unfolding quoted
  a_quoted q rest quote p =
      let z : 1 + run (in_quotes q) rest ≡ suc (run (in_quotes q) rest) = omega arith in
      rw z
      (by_cond (Good c (q ∷ rest)) (eqb (get_or rest (run (in_quotes q) rest) 0) q)
      (λ e. a_string q rest quote p (eqb-true (get_or rest (run (in_quotes q) rest) 0) q e))
      (λ _. tt))

  -- what is found has its shape
  pub sound : (bs : List ℕ) → 0 < length bs → Good c bs (lexeme_of c bs)
  unfolding lexeme_of is_quote
  sound [] h = absurd (omega arith)
  sound (b ∷ rest) h =
      by_cond G (is_word_byte b) (λ e. a_worded (b ∷ rest) h e)
      (λ _. by_cond G (is_space b) (λ e. spaces (b ∷ rest) h e)
      (λ _. by_cond G (eqb b (code "/")) (λ e. at_byte b 47 rest slash e (a_slash rest))
      (λ _. by_cond G (eqb b (code "\"")) (λ e. at_byte b (code "\"") rest (quoted (code "\"")) e (a_quoted (code "\"") rest refl (omega arith)))
      (λ _. by_cond G (eqb b (code "'")) (λ e. at_byte b (code "'") rest (quoted (code "'")) e (a_quoted (code "'") rest refl (omega arith)))
      (λ _. by_cond G (eqb b (code "#")) (λ e. at_byte b 35 rest hash e (a_hash rest))
      (λ _. a_mark b rest))))))
    where
      G : Look → Type 0
      G = Good c (b ∷ rest)
