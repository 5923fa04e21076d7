-- At each byte and in each context exactly one of two holds: one token begins there, or what stands there is refused with one number; and the reader says which. Assumes nothing.
use Prim.Native.Nat.{ℕ, zero, suc, ◌+◌, ◌<◌}
use Prim.Native.Char.{code}
use mathlib.Core.Path.{◌≡◌, refl, sym, ap, subst, ◌∙◌}
use mathlib.Core.Bool.{Bool, true, false, cond}
use mathlib.Core.List.{List, [], ◌∷◌}
use native.Mathlib.Omega.{arith}
use borrow.Author.Tests.{eqb-true}
use lib.ListN.{length, get_or, take, drop}
use lib.Dec.{eqb, ltb}
use lib.Seq.{length-take-le}
use Rattle.std.specs.Prelude.{Ok, Err}
use Rattle.tokens.specs.Byte.{bytes, same, is_hex}
use Rattle.tokens.proofs.Laws.{and_left}
use Rattle.lexemes.specs.Errors.{error_number}
use Rattle.tokens.specs.Kind.{Eof}
use Rattle.spelling.specs.Spelling.{value_of, marks}
use Rattle.lexemes.specs.Bytes.{is_space, is_digit, is_word_byte, is_quote, in_quotes, begins, first}
use Rattle.lexemes.specs.Contexts.{is_code}
use Rattle.lexemes.specs.Shapes.{Lexeme, NoLexeme}
use Rattle.lexemes.specs.Texts.{too_large, token_words, IsToken, opens, Bad, nothing, unclosed, large}
use Rattle.lexemes.specs.Reader as reader
use Rattle.lexemes.specs.Reader.{run, opened, slash, quoted, hashed, hash, digits, worded, mark_is, marked, Look, found, lexeme_of, Step, token, step_of, step, step_at}
use Rattle.lexemes.specs.declared.Context.{Context}
use Rattle.lexemes.specs.declared.Token.{Token}
use Rattle.lexemes.specs.declared.LexemeError.{LexemeError}
use Rattle.lexemes.specs.declared.LexemeError.TheVariants.{StartsNothing, NotClosed, TooLarge}
use Rattle.lexemes.proofs.Sound.{Good, by_cond, sound}
use Rattle.lexemes.proofs.Complete.{AtLeast, complete}

-- ---- the lexeme

-- what was found is the longest lexeme, and the only one
module _ (c : Context) (bs : List ℕ) where
  pub found_lexeme : (k n : ℕ) → 0 < length bs → lexeme_of c bs ≡ found k n → Lexeme c bs k n
  found_lexeme k n h e =
      record {
        shape = subst (Good c bs) e (sound c bs h);
        longest = λ j m b. (subst (AtLeast j m) e (complete c bs m b.0 b.1)).0;
      }

  pub lexeme_found : {k n : ℕ} → Lexeme c bs k n → 0 < length bs → lexeme_of c bs ≡ found k n
  lexeme_found {k} {n} x h = go (lexeme_of c bs) refl (complete c bs n x.shape.0 x.shape.1) (sound c bs h)
    where
      go : (f : Look) → lexeme_of c bs ≡ f → AtLeast k n f → Good c bs f → lexeme_of c bs ≡ found k n
      go (Ok f) e a g =
          let l = x.longest f.kind f.length g in
          let z : n ≡ f.length = omega arith in
          e ∙ rw (a.1 z, z)
      go (Err r) e a g = absurd a

  pub none_found : (r : LexemeError) → lexeme_of c bs ≡ Err r → NoLexeme c bs
  none_found r e j m b = subst (AtLeast j m) e (complete c bs m b.0 b.1)

-- ---- why it is refused

-- a comment or string that is not closed where one opens, else nothing that starts
abbrev pub error_of : List ℕ → LexemeError
error_of bs = cond (opens bs) NotClosed StartsNothing

abbrev Numbered : List ℕ → Look → Type 0
Numbered bs (Ok f) = Unit {0}
Numbered bs (Err r) = r ≡ error_of bs

-- a byte that is known by a test
at_byte : (b d : ℕ) (rest : List ℕ) (f : List ℕ → Look) → eqb b d ≡ true → Numbered (d ∷ rest) (f (d ∷ rest)) → Numbered (b ∷ rest) (f (b ∷ rest))
at_byte b d rest f e g = subst (λ (x : ℕ). Numbered (x ∷ rest) (f (x ∷ rest))) (sym (eqb-true b d e)) g

digits_number : (rest : List ℕ) (n : ℕ) → Numbered (48 ∷ rest) (digits n)
unfolding digits opens is_quote begins bytes same
digits_number rest zero = refl
digits_number rest (suc n) = tt

slash_number : (rest : List ℕ) → Numbered (47 ∷ rest) (slash (47 ∷ rest))
unfolding slash opens is_quote begins bytes same
slash_number [] = refl
slash_number (b ∷ rest) =
    by_cond (Numbered (47 ∷ b ∷ rest)) (eqb b (code "/")) (λ _. tt)
    (λ _. by_cond (Numbered (47 ∷ b ∷ rest)) (eqb b (code "*"))
    (λ e. by_cond (Numbered (47 ∷ b ∷ rest)) (ltb (opened rest) (length rest)) (λ _. tt) (λ _. rw e))
    (λ e. rw e))

quoted_number : (q : ℕ) (rest : List ℕ) → is_quote q ≡ true → Numbered (q ∷ rest) (quoted q (q ∷ rest))
unfolding quoted opens
quoted_number q rest e = by_cond (Numbered (q ∷ rest)) (eqb (get_or (q ∷ rest) (1 + run (in_quotes q) rest) 0) q) (λ _. tt) (λ _. rw e)

number_number : (bs : List ℕ) → Numbered bs (reader.number bs)
unfolding reader.number begins bytes same
number_number [] = tt
number_number (b ∷ rest) =
    by_cond (Numbered (b ∷ rest)) (begins (bytes "0x") (b ∷ rest))
    (λ e. at_byte b 48 rest (λ bs. digits (run is_hex (drop 2 bs))) (and_left (eqb b 48) (same (take 1 rest) (120 ∷ [])) e) (digits_number rest (run is_hex (drop 1 rest))))
    (λ _. tt)

hash_number : (bs : List ℕ) → Numbered bs (hash bs)
unfolding hash
hash_number bs = by_cond (Numbered bs) (hashed (bytes "define") bs) (λ _. tt) (λ _. by_cond (Numbered bs) (hashed (bytes "include") bs) (λ _. tt) (λ _. tt))

mark_number : (b : ℕ) (rest : List ℕ) → opens (b ∷ rest) ≡ false → (k : ℕ) → Numbered (b ∷ rest) (mark_is k)
unfolding mark_is
mark_number b rest e zero = rw e
mark_number b rest e (suc k) = tt

module _ (c : Context) where
  worded_number : (bs : List ℕ) → Numbered bs (worded c bs)
  unfolding worded reader.word
  worded_number bs =
      by_cond (Numbered bs) (is_code c) (λ _. tt)
      (λ _. by_cond (Numbered bs) (is_digit (first bs)) (λ _. number_number bs)
      (λ _. by_cond (Numbered bs) (begins (bytes "FREE_STORAGE_POINTER()") bs) (λ _. tt) (λ _. tt)))

  numbered : (bs : List ℕ) → 0 < length bs → Numbered bs (lexeme_of c bs)
  unfolding lexeme_of is_quote opens begins bytes same
  numbered [] h = absurd (omega arith)
  numbered (b ∷ rest) h =
      by_cond N (is_word_byte b) (λ _. worded_number (b ∷ rest))
      (λ _. by_cond N (is_space b) (λ _. tt)
      (λ _. by_cond N (eqb b (code "/")) (λ e. at_byte b 47 rest slash e (slash_number rest))
      (λ s. by_cond N (eqb b (code "\"")) (λ e. at_byte b (code "\"") rest (quoted (code "\"")) e (quoted_number (code "\"") rest refl))
      (λ d. by_cond N (eqb b (code "'")) (λ e. at_byte b (code "'") rest (quoted (code "'")) e (quoted_number (code "'") rest refl))
      (λ q. by_cond N (eqb b (code "#")) (λ _. hash_number (b ∷ rest))
      (λ _. mark_number b rest (rw (d, q, s)) (value_of marks Eof (b ∷ []))))))))
    where
      N : Look → Type 0
      N = Numbered (b ∷ rest)

-- ---- the token

-- a lexeme that is refused is too large, a lexeme that is a token is not
stop_large : (r : LexemeError) (k a e x n : ℕ) (t : Bool) → Err r ≡ cond t (Err TooLarge) (token k a e x n) → (t ≡ true) × (r ≡ TooLarge)
stop_large r k a e x n true i = (refl, (cc))
stop_large r k a e x n false i = let z : ◌≡◌ {A = ℕ} 0 1 = cc in absurd (omega arith)

token_same : (t u : Token) → ◌≡◌ {A = Step} (Ok t) (Ok u) → t ≡ u
token_same t u i = cc

token_small : (k a e x n k' a' e' x' n' : ℕ) (t : Bool) → token k a e x n ≡ cond t (Err TooLarge) (token k' a' e' x' n')
    → (t ≡ false) × (n ≡ n') × (◌≡◌ {A = List ℕ} (k ∷ a ∷ e ∷ x ∷ []) (k' ∷ a' ∷ e' ∷ x' ∷ []))
token_small k a e x n k' a' e' x' n' true i = let z : ◌≡◌ {A = ℕ} 0 1 = cc in absurd (omega arith)
token_small k a e x n k' a' e' x' n' false i =
    let same = token_same _ _ i in
    (refl, ap (λ (t : Token). t.next) same, ap (λ (t : Token). t.kind ∷ t.start ∷ t.end ∷ t.extra ∷ []) same)

module _ (c : Context) (s : ℕ) (bs : List ℕ) (some : 0 < length bs) where
  -- what stops is bad
  pub stop_bad : (r : LexemeError) → Err r ≡ step_at c s bs → Bad c bs (error_number r)
  unfolding step_at step_of
  stop_bad r e = go (lexeme_of c bs) refl (numbered c bs some) e
    where
      refused : (t : Bool) → opens bs ≡ t → NoLexeme c bs → Bad c bs (error_number (cond t NotClosed StartsNothing))
      refused true o n = unclosed n o
      refused false o n = nothing n o

      go : (f : Look) → lexeme_of c bs ≡ f → Numbered bs f → Err r ≡ step c s bs f → Bad c bs (error_number r)
      go (Err q) i n e = let z : r ≡ error_of bs = (cc) in rw z (refused (opens bs) refl (none_found c bs q i))
      go (Ok f) i n e = let l = stop_large r _ _ _ _ _ (too_large f.kind (take f.length bs)) e in rw l.1 (large (found_lexeme c bs f.kind f.length some i) l.0)

  -- where no lexeme begins none is found
  nowhere : (f : Look) → lexeme_of c bs ≡ f → Numbered bs f → Good c bs f → NoLexeme c bs → lexeme_of c bs ≡ Err (error_of bs)
  nowhere (Ok f) i n g none = absurd (none f.kind f.length g)
  nowhere (Err r) i n g none = i ∙ rw n

  -- .. and what is bad stops
  pub bad_stop : {n : ℕ} → Bad c bs n → (r : LexemeError) × (n ≡ error_number r) × (Err r ≡ step_at c s bs)
  unfolding step_at step_of
  bad_stop (nothing n o) = (StartsNothing, refl, rw (nowhere (lexeme_of c bs) refl (numbered c bs some) (sound c bs some) n, o))
  bad_stop (unclosed n o) = (NotClosed, refl, rw (nowhere (lexeme_of c bs) refl (numbered c bs some) (sound c bs some) n, o))
  bad_stop (large l h) = (TooLarge, refl, rw (lexeme_found c bs l some, h))

  -- what is read is a token
  pub step_token : (k a e x n : ℕ) → token k a e x n ≡ step_at c s bs → (m : ℕ) × (n ≡ s + m) × IsToken c s bs m (k ∷ a ∷ e ∷ x ∷ [])
  unfolding step_at step_of token_words
  step_token k a e x n i = go (lexeme_of c bs) refl i
    where
      go : (f : Look) → lexeme_of c bs ≡ f → token k a e x n ≡ step c s bs f → (m : ℕ) × (n ≡ s + m) × IsToken c s bs m (k ∷ a ∷ e ∷ x ∷ [])
      go (Err q) i e = let z : ◌≡◌ {A = ℕ} 0 1 = cc in absurd (omega arith)
      go (Ok f) i y =
          let l = token_small _ _ _ _ _ _ _ _ _ _ (too_large f.kind (take f.length bs)) y in
          let g = found_lexeme c bs f.kind f.length some i in
          (f.length, l.1, record { kind = f.kind; lexeme = g; small = l.0; words = l.2 ∙ rw (length-take-le f.length bs g.shape.0) })

  -- .. and a token is what is read
  pub token_step : {m : ℕ} {t : List ℕ} → IsToken c s bs m t → token (get_or t 0 0) (get_or t 1 0) (get_or t 2 0) (get_or t 3 0) (s + m) ≡ step_at c s bs
  unfolding step_at step_of token_words
  token_step {m} {t} x =
      let l = length-take-le m bs x.lexeme.shape.0 in
      rw (lexeme_found c bs x.lexeme some, x.small, x.words, l)
