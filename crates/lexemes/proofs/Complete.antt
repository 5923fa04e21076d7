-- Whatever has a lexeme's shape is no longer than what the reader finds, and where it is as long it is of that kind. Assumes nothing.
use Prim.Native.Nat.{ℕ, zero, suc, ◌+◌, ◌-◌, ◌≤◌, ◌<◌}
use Prim.Native.Char.{code}
use mathlib.Core.Path.{◌≡◌, refl, sym, ap, subst, ◌∙◌}
use mathlib.Core.Bool.{Bool, true, false, ◌||◌}
use mathlib.Core.List.{List, [], ◌∷◌, ◌++◌}
use mathlib.Core.Logic.{◌⊎◌, inl, inr, ⊎_elim}
use native.Mathlib.Omega.{arith}
use borrow.Author.Tests.{eqb-true, eq-eqb, lt-ltb}
use lib.ListN.{length, get_or, take, drop, length-drop, take-append-drop}
use lib.Dec.{eqb}
use lib.Seq.{length-take-le, take-take, get_or-take, get_or-drop, drop-drop}
use Rattle.std.specs.Prelude.{Ok, Err}
use Rattle.tokens.specs.Byte.{bytes, same, is_hex}
use Rattle.tokens.specs.Kind.{Eof, Whitespace, Comment, Include, Define, Pound, FreeStoragePointer, Ident, Literal, Num, Str}
use Rattle.tokens.proofs.Laws.{or_split, drop_take}
use Rattle.spelling.specs.Spelling.{spelt, value_of, marks}
use Rattle.lexemes.specs.Bytes.{is_space, is_digit, is_word_byte, is_quote, in_line, in_quotes, all, begins, first}
use Rattle.lexemes.specs.Contexts.{is_code}
use Rattle.lexemes.specs.Shapes.{Shape, space, line, block, string, define, include, mark, entry, literal, number, word, pointer}
use Rattle.lexemes.specs.Reader as reader
use Rattle.lexemes.specs.Reader.{run, closing, opened, slash, quoted, hashed, hash, digits, worded, mark_is, marked, lexeme_of, Look, found}
use Rattle.lexemes.specs.declared.Context.{Context}
use Rattle.lexemes.proofs.RunLaws.{run_longest, run_exact, all_first}
use Rattle.lexemes.proofs.SpellingLaws.{by_spelling}
use Rattle.lexemes.proofs.Sound.{begins_front, begins_inner, begins_is, is_begins, begins_inside, closing_begins, by_cond}

-- ---- bytes

space_no_word : (b : ℕ) → is_space b ≡ true → is_word_byte b ≡ false
unfolding is_space is_word_byte is_digit
space_no_word b e =
    ⊎_elim
    (λ h. ⊎_elim (λ h. ⊎_elim (at 32 refl) (at 9 refl) (or_split (eqb b 32) (eqb b 9) h)) (at 13 refl) (or_split (eqb b 32 || eqb b 9) (eqb b 13) h))
    (at 10 refl)
    (or_split (eqb b 32 || eqb b 9 || eqb b 13) (eqb b 10) e)
  where
    at : (d : ℕ) → is_word_byte d ≡ false → eqb b d ≡ true → is_word_byte b ≡ false
    at d f h = rw (eqb-true b d h) f

digit_word : (b : ℕ) → is_digit b ≡ true → is_word_byte b ≡ true
unfolding is_word_byte
digit_word b e = rw e

quote_is : (b : ℕ) → is_quote b ≡ true → (b ≡ 34) ⊎ (b ≡ 39)
unfolding is_quote
quote_is b e = ⊎_elim (λ h. inl (eqb-true b 34 h)) (λ h. inr (eqb-true b 39 h)) (or_split (eqb b 34) (eqb b 39) e)

-- a quote is not in its string
quote_ends : (q : ℕ) → in_quotes q q ≡ false
unfolding in_quotes
quote_ends q = rw (eq-eqb q q refl)

-- where a comment's end stands, and none before it, it ends there
opened_exact : (bs : List ℕ) (i : ℕ) → i < length bs → closing (drop i bs) ≡ true → ((j : ℕ) → j < i → closing (drop j bs) ≡ false) → opened bs ≡ i
unfolding opened
opened_exact [] i h e f = absurd (omega arith)
opened_exact (b ∷ bs) zero h e f = rw e
opened_exact (b ∷ bs) (suc i) h e f = rw (f 0 (omega arith), opened_exact bs i (omega arith) e (λ j l. f (suc j) (omega arith)))

-- ---- the branch that a first byte takes

-- so many bytes of this kind are no more than what was found, and are what was found where they are as many
abbrev pub AtLeast : ℕ → ℕ → Look → Type 0
AtLeast k m (Ok f) = (m ≤ f.length) × (m ≡ f.length → k ≡ f.kind)
AtLeast k m (Err r) = ⊥

module _ (c : Context) (bs : List ℕ) where
  by_word : is_word_byte (first bs) ≡ true → lexeme_of c bs ≡ worded c bs
  unfolding lexeme_of
  by_word e = rw e

  by_space : is_space (first bs) ≡ true → lexeme_of c bs ≡ found Whitespace (run is_space bs)
  unfolding lexeme_of
  by_space e = rw (space_no_word (first bs) e, e)

  by_slash : first bs ≡ 47 → lexeme_of c bs ≡ slash bs
  unfolding lexeme_of is_word_byte is_digit is_space
  by_slash e = rw e

  by_hash : first bs ≡ 35 → lexeme_of c bs ≡ hash bs
  unfolding lexeme_of is_word_byte is_digit is_space
  by_hash e = rw e

  by_quote : is_quote (first bs) ≡ true → lexeme_of c bs ≡ quoted (first bs) bs
  unfolding lexeme_of is_word_byte is_digit is_space
  by_quote e = ⊎_elim (λ (h : first bs ≡ 34). rw h) (λ (h : first bs ≡ 39). rw h) (quote_is (first bs) e)

-- ---- each shape

module _ (c : Context) (bs : List ℕ) (m : ℕ) (inside : m ≤ length bs) where
  w_long : length (take m bs) ≡ m
  w_long = length-take-le m bs inside

  w_first : 0 < m → first (take m bs) ≡ first bs
  w_first h = get_or-take m bs 0 0 h

  -- a class's bytes
  of_class : (f : ℕ → Bool) → 0 < length (take m bs) → all f (take m bs) ≡ true → f (first bs) ≡ true
  of_class f h a = let p : 0 < m = rw w_long at h in rw (← w_first p) (all_first f (take m bs) h a)

  -- the first bytes that are known
  known : (what : List ℕ) → begins what (take m bs) ≡ true → (length what ≤ m) × (begins what bs ≡ true)
  known what e =
      let h = begins_inside what (take m bs) e in
      let l : length what ≤ m = rw w_long at h in
      (l, sym (begins_front what bs m l) ∙ e)

  byte_known : (what : List ℕ) (i : ℕ) → i < length what → begins what bs ≡ true → get_or bs i 0 ≡ get_or what i 0
  byte_known what i h e = sym (get_or-take (length what) bs i 0 h) ∙ ap (λ (l : List ℕ). get_or l i 0) (begins_is what bs e)

  c_space : 0 < length (take m bs) → all is_space (take m bs) ≡ true → AtLeast Whitespace m (lexeme_of c bs)
  c_space h a = rw (by_space c bs (of_class is_space h a)) (run_longest is_space bs m inside a, λ _. refl)

  c_line : begins (bytes "//") (take m bs) ≡ true → all in_line (take m bs) ≡ true → AtLeast Comment m (lexeme_of c bs)
  unfolding slash bytes
  c_line b a =
      let k = known (bytes "//") b in
      let p = byte_known (bytes "//") 0 (omega arith) k.1 in
      let q = byte_known (bytes "//") 1 (omega arith) k.1 in
      rw (by_slash c bs p, q) (run_longest in_line bs m inside a, λ _. refl)

  -- a comment's end inside the lexeme is one behind its opening
  closing_inner : (j : ℕ) → 2 + j + 2 ≤ m → closing (drop j (drop 2 bs)) ≡ begins (bytes "*/") (drop (2 + j) (take m bs))
  unfolding bytes
  closing_inner j h = closing_begins (drop j (drop 2 bs)) ∙ rw (drop-drop j 2 bs) (sym (begins_inner (bytes "*/") bs m (2 + j) h))

  opened_at : 4 ≤ m → begins (bytes "*/") (drop (m - 2) (take m bs)) ≡ true → ((i : ℕ) → 2 ≤ i → i + 2 < m → begins (bytes "*/") (drop i (take m bs)) ≡ false) → opened (drop 2 bs) ≡ m - 4
  opened_at s e f =
      let d = length-drop 2 bs in
      let z : 2 + (m - 4) ≡ m - 2 = omega arith in
      opened_exact (drop 2 bs) (m - 4) (omega arith) (closing_inner (m - 4) (omega arith) ∙ rw z e)
      (λ j l. closing_inner j (omega arith) ∙ f (2 + j) (omega arith) (omega arith))

  c_block : 4 ≤ length (take m bs) → begins (bytes "/*") (take m bs) ≡ true → begins (bytes "*/") (drop (length (take m bs) - 2) (take m bs)) ≡ true
      → ((i : ℕ) → 2 ≤ i → i + 2 < length (take m bs) → begins (bytes "*/") (drop i (take m bs)) ≡ false) → AtLeast Comment m (lexeme_of c bs)
  unfolding slash bytes
  c_block h b e f =
      let k = known (bytes "/*") b in
      let p = byte_known (bytes "/*") 0 (omega arith) k.1 in
      let q = byte_known (bytes "/*") 1 (omega arith) k.1 in
      let s : 4 ≤ m = rw w_long at h in
      let o = opened_at s (rw w_long at e) (λ i l g. f i l (rw w_long g)) in
      let d = length-drop 2 bs in
      rw (by_slash c bs p, q, o, lt-ltb (m - 4) (length (drop 2 bs)) (omega arith)) (omega arith, λ _. refl)

  c_string : 2 ≤ length (take m bs) → is_quote (first (take m bs)) ≡ true → get_or (take m bs) (length (take m bs) - 1) 0 ≡ first (take m bs)
      → all (in_quotes (first (take m bs))) (take (length (take m bs) - 2) (drop 1 (take m bs))) ≡ true → AtLeast Str m (lexeme_of c bs)
  unfolding quoted
  c_string h q e a =
      let s : 2 ≤ m = rw w_long at h in
      let f = w_first (omega arith) in
      let q₁ : is_quote (first bs) ≡ true = rw f at q in
      let e₁ : get_or (take m bs) (m - 1) 0 ≡ first bs = rw (w_long, f) at e in
      let e₂ : get_or bs (m - 1) 0 ≡ first bs = sym (get_or-take m bs (m - 1) 0 (omega arith)) ∙ e₁ in
      let a₁ : all (in_quotes (first bs)) (take (m - 2) (drop 1 (take m bs))) ≡ true = rw (w_long, f) at a in
      let a₂ : all (in_quotes (first bs)) (take (m - 2) (drop 1 bs)) ≡ true = rw (drop_take 1 m bs, take-take (m - 2) (m - 1) (drop 1 bs) (omega arith)) at a₁ in
      let d = length-drop 1 bs in
      let z : 1 + (m - 2) ≡ m - 1 = omega arith in
      let n : get_or (drop 1 bs) (m - 2) 0 ≡ first bs = get_or-drop 1 bs (m - 2) 0 ∙ rw z e₂ in
      let r = run_exact (in_quotes (first bs)) (drop 1 bs) (m - 2) (omega arith) a₂ (rw n (quote_ends (first bs))) in
      rw (by_quote c bs q₁, r, z, eq-eqb (get_or bs (m - 1) 0) (first bs) e₂) (omega arith, λ _. refl)

  -- # and a word behind it that is exactly this one
  hash_behind : (what : List ℕ) → take m bs ≡ 35 ∷ what → all is_word_byte what ≡ true → is_word_byte (first (drop m bs)) ≡ false
      → (m ≡ suc (length what)) × (first bs ≡ 35) × (run is_word_byte (drop 1 bs) ≡ length what) × (begins what (drop 1 bs) ≡ true)
  hash_behind what e a n =
      let l : m ≡ suc (length what) = sym w_long ∙ ap length e in
      let d = length-drop 1 bs in
      let z : m - 1 ≡ length what = omega arith in
      let t : take (length what) (drop 1 bs) ≡ what = rw (← z) (sym (drop_take 1 m bs) ∙ ap (λ (x : List ℕ). drop 1 x) e) in
      let y : m + 0 ≡ 1 + length what = omega arith in
      let g : get_or (drop 1 bs) (length what) 0 ≡ first (drop m bs) = get_or-drop 1 bs (length what) 0 ∙ rw (← y) (sym (get_or-drop m bs 0 0)) in
      (l, sym (w_first (omega arith)) ∙ ap first e, run_exact is_word_byte (drop 1 bs) (length what) (omega arith) (rw t a) (rw g n), is_begins what (drop 1 bs) t)

  c_define : take m bs ≡ bytes "#define" → is_word_byte (first (drop m bs)) ≡ false → AtLeast Define m (lexeme_of c bs)
  unfolding hash hashed bytes all is_word_byte is_digit
  c_define e n =
      let h = hash_behind (bytes "define") e refl n in
      rw (by_hash c bs h.1, h.2, h.3) (omega arith, λ _. refl)

  c_include : take m bs ≡ bytes "#include" → is_word_byte (first (drop m bs)) ≡ false → AtLeast Include m (lexeme_of c bs)
  unfolding hash hashed bytes all is_word_byte is_digit
  c_include e n =
      let h = hash_behind (bytes "include") e refl n in
      rw (by_hash c bs h.1, h.2, h.3) (omega arith, λ _. refl)

  c_entry : is_code c ≡ true → 0 < length (take m bs) → all is_word_byte (take m bs) ≡ true → AtLeast Ident m (lexeme_of c bs)
  unfolding worded
  c_entry o h a = rw (by_word c bs (of_class is_word_byte h a), o) (run_longest is_word_byte bs m inside a, λ _. refl)

  c_number : is_code c ≡ false → 0 < length (take m bs) → all is_digit (take m bs) ≡ true → begins (bytes "0x") (take m bs ++ drop m bs) ≡ false → AtLeast Num m (lexeme_of c bs)
  unfolding worded reader.number
  c_number o h a x =
      let d = of_class is_digit h a in
      let x₁ : begins (bytes "0x") bs ≡ false = rw (take-append-drop m bs) at x in
      rw (by_word c bs (digit_word (first bs) d), o, d, x₁) (run_longest is_digit bs m inside a, λ _. refl)

  c_literal : is_code c ≡ false → 3 ≤ length (take m bs) → begins (bytes "0x") (take m bs) ≡ true → all is_hex (drop 2 (take m bs)) ≡ true → AtLeast Literal m (lexeme_of c bs)
  unfolding worded reader.number bytes is_word_byte is_digit digits
  c_literal o h b a =
      let s : 3 ≤ m = rw w_long at h in
      let k = known (bytes "0x") b in
      let p = byte_known (bytes "0x") 0 (omega arith) k.1 in
      let d = length-drop 2 bs in
      let r = run_longest is_hex (drop 2 bs) (m - 2) (omega arith) (rw (drop_take 2 m bs) at a) in
      rw (by_word c bs (rw p refl), o, p, k.1) (some (run is_hex (drop 2 bs)) s r)
    where
      some : (n : ℕ) → 3 ≤ m → m - 2 ≤ n → AtLeast Literal m (digits n)
      some zero s r = absurd (omega arith)
      some (suc n) s r = (omega arith, λ _. refl)

  -- a word that the pointer begins with is shorter than it
  pointer_word : begins (bytes "FREE_STORAGE_POINTER()") bs ≡ true → run is_word_byte bs ≡ 20
  unfolding bytes all is_word_byte is_digit
  pointer_word e =
      let p = begins_is (bytes "FREE_STORAGE_POINTER()") bs e in
      let l = begins_inside (bytes "FREE_STORAGE_POINTER()") bs e in
      let t : take 20 bs ≡ bytes "FREE_STORAGE_POINTER" = sym (take-take 20 22 bs (omega arith)) ∙ ap (λ (x : List ℕ). take 20 x) p in
      let g : get_or bs 20 0 ≡ code "(" = byte_known (bytes "FREE_STORAGE_POINTER()") 20 (omega arith) e in
      run_exact is_word_byte bs 20 (omega arith) (rw t refl) (rw g refl)

  c_word : is_code c ≡ false → 0 < length (take m bs) → all is_word_byte (take m bs) ≡ true → is_digit (first (take m bs)) ≡ false → AtLeast Ident m (lexeme_of c bs)
  unfolding worded reader.word
  c_word o h a d =
      let p : 0 < m = rw w_long at h in
      let d₁ : is_digit (first bs) ≡ false = rw (w_first p) at d in
      let r = run_longest is_word_byte bs m inside a in
      rw (by_word c bs (of_class is_word_byte h a), o, d₁)
      (by_cond (AtLeast Ident m) (begins (bytes "FREE_STORAGE_POINTER()") bs) (λ e. let n = pointer_word e in (omega arith, λ q. absurd (omega arith))) (λ _. (r, λ _. refl)))

  c_pointer : is_code c ≡ false → take m bs ≡ bytes "FREE_STORAGE_POINTER()" → AtLeast FreeStoragePointer m (lexeme_of c bs)
  unfolding worded reader.word bytes is_word_byte is_digit
  c_pointer o e =
      let l : m ≡ 22 = sym w_long ∙ ap length e in
      let p : first bs ≡ 70 = sym (w_first (omega arith)) ∙ ap first e in
      let b = is_begins (bytes "FREE_STORAGE_POINTER()") bs (subst (λ (n : ℕ). take n bs ≡ bytes "FREE_STORAGE_POINTER()") l e) in
      rw (by_word c bs (rw p refl), o, p, b) (omega arith, λ _. refl)

  -- a byte that stands alone
  alone : (b : ℕ) → take m bs ≡ b ∷ [] → (m ≡ 1) × (bs ≡ b ∷ drop 1 bs)
  alone b e = let l : m ≡ 1 = sym w_long ∙ ap length e in (l, sym (take-append-drop 1 bs) ∙ ap (λ (x : List ℕ). x ++ drop 1 bs) (subst (λ (n : ℕ). take n bs ≡ b ∷ []) l e))

  at_mark : (b k : ℕ) → ((rest : List ℕ) → lexeme_of c (b ∷ rest) ≡ found k 1) → 0 < k → take m bs ≡ b ∷ [] → AtLeast k m (lexeme_of c bs)
  at_mark b k f p e = let a = alone b e in rw (a.1, f (drop 1 bs)) (omega arith, λ _. refl)

  at_pound : 0 < Pound → take m bs ≡ 35 ∷ [] → AtLeast Pound m (lexeme_of c bs)
  unfolding hash
  at_pound p e =
      let a = alone 35 e in
      let l = a.0 in
      rw (by_hash c bs (ap first a.1))
      (by_cond (AtLeast Pound m) (hashed (bytes "define") bs) (λ _. (omega arith, λ q. absurd (omega arith)))
      (λ _. by_cond (AtLeast Pound m) (hashed (bytes "include") bs) (λ _. (omega arith, λ q. absurd (omega arith))) (λ _. (omega arith, λ _. refl))))

  c_mark : {k : ℕ} → value_of marks Eof (take m bs) ≡ k → 0 < k → AtLeast k m (lexeme_of c bs)
  unfolding marks spelt lexeme_of is_word_byte is_digit is_space mark_is value_of same
  c_mark {k} e p =
      subst (λ (j : ℕ). 0 < j → take m bs ≡ take m bs → AtLeast j m (lexeme_of c bs)) e
      (by_spelling (λ w j. 0 < j → take m bs ≡ w → AtLeast j m (lexeme_of c bs)) marks Eof (
        at_pound,
        (
          at_mark (code "=") 26 (λ rest. refl),
          (
            at_mark (code "(") 27 (λ rest. refl),
            (
              at_mark (code ")") 28 (λ rest. refl),
              (
                at_mark (code "{") 29 (λ rest. refl),
                (
                  at_mark (code "}") 30 (λ rest. refl),
                  (
                    at_mark (code "[") 31 (λ rest. refl),
                    (
                      at_mark (code "]") 32 (λ rest. refl),
                      (
                        at_mark (code "<") 33 (λ rest. refl),
                        (
                          at_mark (code ">") 34 (λ rest. refl),
                          (
                            at_mark (code ",") 35 (λ rest. refl),
                            (
                              at_mark (code ":") 36 (λ rest. refl),
                              tt,
                            ),
                          ),
                        ),
                      ),
                    ),
                  ),
                ),
              ),
            ),
          ),
        ),
      )
      (take m bs) (λ q. absurd (omega arith)))
      p refl

  pub complete : {k : ℕ} → Shape c (take m bs) (drop m bs) k → AtLeast k m (lexeme_of c bs)
  complete (space h a) = c_space h a
  complete (line b a) = c_line b a
  complete (block h b e f) = c_block h b e f
  complete (string h q e a) = c_string h q e a
  complete (define e n) = c_define e n
  complete (include e n) = c_include e n
  complete (mark e p) = c_mark e p
  complete (entry o h a) = c_entry o h a
  complete (literal o h b a) = c_literal o h b a
  complete (number o h a x) = c_number o h a x
  complete (word o h a d) = c_word o h a d
  complete (pointer o e) = c_pointer o e
