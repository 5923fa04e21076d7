-- Counting needs of a token the context behind it, and of all words only `table` changes that. Assumes nothing.
use Prim.Native.Nat.{ℕ, ◌≤◌, ◌<◌}
use Prim.Native.Char.{code}
use mathlib.Core.Path.{◌≡◌, refl, sym, subst}
use mathlib.Core.Bool.{Bool, true, false, cond, not, ◌&&◌, and-false, false≢true}
use mathlib.Core.List.{List, [], ◌∷◌}
use native.Mathlib.Omega.{arith}
use borrow.Author.Tests.{ne_eqb, eqb-true, not-true}
use lib.Dec.{eqb, ltb}
use lib.ListN.{length, drop}
use Rattle.std.specs.Prelude.{Result, Ok, Err}
use Rattle.tokens.specs.Byte.{bytes, same}
use Rattle.tokens.specs.Kind.{CodeTable, OpenBrace, Ident, Num, PrimitiveType}
use Rattle.tokens.specs.Name.{reserved}
use Rattle.tokens.proofs.NameLaws.{same_equal}
use Rattle.spelling.specs.Spelling.{spelt, keywords, value_of, no_opcode, opcode_of, kind_outside}
use Rattle.lexemes.specs.Bytes.{begins}
use Rattle.lexemes.specs.Errors.{error_number}
use Rattle.lexemes.specs.Contexts.{is_code, is_body, after}
use Rattle.lexemes.specs.Words.{Told, plain, in_braces, by_place, word_of}
use Rattle.lexemes.specs.Texts.{decimal, too_large, told}
use Rattle.lexemes.specs.Reader.{Step, step_of, step_at, refused, more, walk}
use Rattle.lexemes.specs.declared.Context.{Context}
use Rattle.lexemes.specs.declared.Context.TheVariants.{Out, Wait, Body, Code}
use Rattle.lexemes.specs.declared.LexemeError.{LexemeError}
use Rattle.lexemes.specs.declared.LexemeError.TheVariants.{TooLarge}
use Rattle.lexemes.proofs.SpellingLaws.{EachSpelt, by_spelling, passing, given_passes}
use Rattle.lexemes.proofs.WalkLaws.{token_in, walk_token, walk_stop}
use Rattle.lexer.specs.Counts.{skip_of}
use Rattle.lexer.specs.declared.skip.Skip.{Skip}

-- ---- the kind of a word outside braces

-- a word that is no keyword is of a kind that passes a test, if the two that it can have do
other_passes : (test : ℕ → Bool) (t : Bool) → test PrimitiveType ≡ true → test Ident ≡ true → test (cond t PrimitiveType Ident) ≡ true
other_passes test true p i = p
other_passes test false p i = i

-- no word is a brace
no_brace : (w : List ℕ) → eqb (kind_outside w) OpenBrace ≡ false
unfolding passing keywords spelt
no_brace w =
    let test : ℕ → Bool = λ k. not (eqb k OpenBrace) in
    not-true (eqb (kind_outside w) OpenBrace) (given_passes test keywords (cond (reserved w) PrimitiveType Ident) w refl (other_passes test (reserved w) refl refl))

-- a keyword that is not `table` is not of its kind
abbrev NotTable : List ℕ → ℕ → Type 0
NotTable w k = same (bytes "table") w ≡ false → eqb k CodeTable ≡ false

each_not_table : EachSpelt NotTable keywords
unfolding keywords spelt bytes same
each_not_table =
    (λ _. refl, (λ _. refl, (λ _. refl, (λ _. refl, (λ _. refl, (λ _. refl, (λ _. refl, (λ _. refl, (λ _. refl, (λ h. absurd (false≢true (sym h)), (λ _. refl, (λ _. refl, (λ _. refl, (λ _. refl, (λ _. refl, (λ _. refl, (λ _. refl, (λ _. refl, (λ _. refl, (λ _. refl, tt))))))))))))))))))))

no_table : (w : List ℕ) → same (bytes "table") w ≡ false → eqb (kind_outside w) CodeTable ≡ false
no_table w h =
    let none : eqb (cond (reserved w) PrimitiveType Ident) CodeTable ≡ false = not-true (eqb (cond (reserved w) PrimitiveType Ident) CodeTable) (other_passes (λ k. not (eqb k CodeTable)) (reserved w) refl refl) in
    by_spelling NotTable keywords (cond (reserved w) PrimitiveType Ident) each_not_table w (λ _. none) h

table_kind_lem : kind_outside (bytes "table") ≡ CodeTable
unfolding value_of keywords spelt bytes same
table_kind_lem = refl

table_begins : begins (bytes "__") (bytes "table") ≡ false
unfolding begins bytes same
table_begins = refl

-- ---- the context behind a word

-- both ways of a test
either : (P : Told → Type 0) (t : Bool) {a b : Told} → P a → P b → P (cond t a b)
either P true p q = p
either P false p q = q

-- behind a word the context c becomes d
abbrev Behind : Context → Context → Told → Type 0
Behind c d w = d ≡ after c w.0

module _ (w : List ℕ) (next : ℕ) where
  pub out_label : next ≡ code ":" → Behind Out Out (word_of Out w next)
  unfolding after word_of is_code
  out_label e = rw e

  pub out_table : (next ≡ code ":" → ⊥) → same (bytes "table") w ≡ true → Behind Out Wait (word_of Out w next)
  unfolding after word_of is_code is_body by_place
  out_table h e = subst (λ (v : List ℕ). Behind Out Wait (word_of Out v next)) ((same_equal (bytes "table") w).0 e) at_table
    where
      at_table : Behind Out Wait (word_of Out (bytes "table") next)
      at_table = rw (ne_eqb next (code ":") h, table_begins, and-false (eqb next (code "(")), table_kind_lem)

  pub out_other : same (bytes "table") w ≡ false → Behind Out Out (word_of Out w next)
  unfolding after word_of is_code is_body by_place
  out_other h =
      either (Behind Out Out) (eqb next (code ":")) refl (either (Behind Out Out) (eqb next (code "(") && begins (bytes "__") w) refl (rw (no_table w h, no_brace w)))

-- inside braces, and behind `table`, no word changes it
pub other_word : (c : Context) (w : List ℕ) (next : ℕ) → (c ≡ Out → ⊥) → Behind c c (word_of c w next)
unfolding after word_of is_code is_body by_place in_braces
other_word Out w next h = absurd (h refl)
other_word Wait w next h =
    either (Behind Wait Wait) (eqb next (code ":")) refl (either (Behind Wait Wait) (eqb next (code "(") && begins (bytes "__") w) refl (rw (no_brace w)))
other_word Body w next h =
    either (Behind Body Body) (eqb next (code ":")) refl
    (either (Behind Body Body) (eqb next (code "(") && begins (bytes "__") w) refl (either (Behind Body Body) (ltb (opcode_of w) no_opcode) refl refl))
other_word Code w next h = refl

-- a lexeme that is no word keeps its kind
kind_kept : (k v : ℕ) → k ≡ (cond {A = Told} (eqb k Num) (Num, v) (plain k)).0
kind_kept k v = go (eqb k Num) (eqb-true k Num)
  where
    go : (t : Bool) → (t ≡ true → k ≡ Num) → k ≡ (cond {A = Told} t (Num, v) (plain k)).0
    go true e = e refl
    go false e = refl

-- ---- a lexeme w from byte s to byte e

module _ (c : Context) (s e k : ℕ) (w : List ℕ) (next : ℕ) where
  abbrev Skipped : Result Skip LexemeError
  Skipped = skip_of c (step_of c s e k w next)

  -- on to byte e, in this context
  abbrev To : Context → Result Skip LexemeError
  To d = Ok (record { context = d; next = e })

  pub skip_word : (d : Context) → k ≡ Ident → Behind c d (word_of c w next) → To d ≡ Skipped
  unfolding skip_of step_of too_large told
  skip_word d h i = rw (h, i)

  pub skip_large : too_large k w ≡ true → Err TooLarge ≡ Skipped
  unfolding skip_of step_of
  skip_large l = rw l

  pub skip_plain : (d : Context) → (k ≡ Ident → ⊥) → too_large k w ≡ false → d ≡ after c k → To d ≡ Skipped
  unfolding skip_of step_of told
  skip_plain d h l i = rw (l, ne_eqb k Ident h, ← kind_kept k (decimal w), i)

-- ---- the walk

module _ (c : Context) (t : List ℕ) (s : ℕ) where
  -- a token was passed: the next one begins behind it in the text, and the walk goes on there
  abbrev pub Passes : Context → ℕ → Type 0
  Passes d n = (s < n) × (n ≤ length t) × ((w : List ℕ) × (walk c s 0 (drop s t) ≡ more w (walk d n 0 (drop n t))))

  module _ (h : s < length t) where
    pub skip_to : (x : Skip) → Ok x ≡ skip_of c (step_at c s (drop s t)) → Passes x.context x.next
    unfolding skip_of
    skip_to x is = go (step_at c s (drop s t)) refl is
      where
        go : (y : Step) → y ≡ step_at c s (drop s t) → Ok x ≡ skip_of c y → Passes x.context x.next
        go (Ok u) q j =
            let b = token_in c s t {k = u.kind} {a = u.start} {e = u.end} {x = u.extra} {n = u.next} h q in
            let g : x ≡ record { context = after c u.kind; next = u.next } = cc in
            rw g (b.0, b.1, (u.kind ∷ u.start ∷ u.end ∷ u.extra ∷ [], walk_token c t s u.kind u.start u.end u.extra u.next h q b.0 b.1))
        go (Err r) q j = let z : ◌≡◌ {A = ℕ} 0 1 = cc in absurd (omega arith)

    pub skip_halt : (r : LexemeError) → Err r ≡ skip_of c (step_at c s (drop s t)) → walk c s 0 (drop s t) ≡ record { tokens = []; end = refused (error_number r) s }
    unfolding skip_of
    skip_halt r is = go (step_at c s (drop s t)) refl is
      where
        go : (y : Step) → y ≡ step_at c s (drop s t) → Err r ≡ skip_of c y → walk c s 0 (drop s t) ≡ record { tokens = []; end = refused (error_number r) s }
        go (Ok u) q j = let z : ◌≡◌ {A = ℕ} 0 1 = cc in absurd (omega arith)
        go (Err m) q j = let g : r ≡ m = cc in rw g (walk_stop c t s m h q)
