-- What follows from the promise of `lex`, for who reads its answers. Assumes nothing.
use Prim.Native.Nat.{ℕ, ◌*◌, ◌-◌, ◌/◌, ◌≤◌, ◌<◌}
use native.Mathlib.Omega.{arith}
use mathlib.Core.Path.{◌≡◌, refl, ap, ◌∙◌}
use mathlib.Core.List.{List, ◌++◌, flatten}
use mathlib.Core.Logic.{◌⊎◌, inl, inr, ◌↔◌}
use lib.ListN.{length, take, replicate}
use lib.Seq.{take_at}
use Rattle.std.specs.Prelude.{Ok, Err}
use Rattle.tokens.specs.Number.{StartsNothing, NotClosed, TooLarge, most_bytes, most_tokens, token_width}
use Rattle.tokens.specs.Token.{token_count}
use Rattle.tokens.specs.WellFormed.{WellFormed}
use Rattle.lexemes.specs.Texts.{nothing, unclosed, large}
use Rattle.lexemes.specs.Reads.{Stops, here, later, Reading}
use Rattle.lexemes.specs.Right.{Covers, Right}
use Rattle.lexemes.specs.declared.Context.{Context}
use Rattle.lexemes.proofs.Exists.{never_both}
use Rattle.lexemes.proofs.RightLaws.{reads_words, reading_right, right_reading}
use Rattle.lexemes.proofs.Covers.{reading_covers}
use Rattle.lexemes.proofs.Formed.{reading_formed}
use Rattle.lexemes.specs.declared.LexemeError.{LexemeError}
use Rattle.lexer.specs.declared.call.LexError.TheVariants.{Refused}
use Rattle.lexer.specs.Call.{Lexed, LexCall, too_long, refused, too_short, read}
use Rattle.lexer.proofs.Fixed.{one_call}

-- the tokens that an accepted call leaves in the list
abbrev pub tokens_in : ℕ → List ℕ → List ℕ
tokens_in n list = take (n * token_width) list

module _ {text list : List ℕ} where
  -- ---- accepted

  -- the list begins with the words of the one reading
  pub call_reads : {n : ℕ} {l : List ℕ} → LexCall text list (Ok n) l → (ts : List (List ℕ)) × Reading text ts × (tokens_in n l ≡ flatten ts) × (length ts ≡ n) × (length text ≤ most_bytes) × (length ts ≤ most_tokens)
  call_reads (read {ts = ts} h a o p) = (ts, a, take_at (flatten ts) (replicate (length list - length ts * token_width) 0) (length ts * token_width) (reads_words a), refl, h, p)

  -- "An accepted text's tokens are proved well formed"
  pub call_formed : {n : ℕ} {l : List ℕ} → LexCall text list (Ok n) l → WellFormed text (tokens_in n l)
  call_formed c = let (ts, a, w, n, h, p) = call_reads c in rw w (reading_formed text ts h p a)

  -- ".. and their ranges with the left-out quotes cover it"
  pub call_covers : {n : ℕ} {l : List ℕ} → LexCall text list (Ok n) l → Covers text (tokens_in n l)
  call_covers c = let (ts, a, w, n, h, p) = call_reads c in rw w (reading_covers text ts a)

  -- right token by token
  pub call_right : {n : ℕ} {l : List ℕ} → LexCall text list (Ok n) l → Right text (tokens_in n l)
  call_right c = let (ts, a, w, n, h, p) = call_reads c in rw w (reading_right text ts a)

  -- .. and whatever is so is what the call leaves, where there is room for it
  pub right_call : {words : List ℕ} {r : Lexed} {l : List ℕ} → LexCall text list r l → Right text words
      → length text ≤ most_bytes → token_count words ≤ most_tokens → token_count words ≤ length list / token_width
      → (r ≡ Ok (token_count words)) × (l ≡ words ++ replicate (length list - length words) 0)
  right_call {words} c right short few room =
      let (ts, a, w) = right_reading text words right in
      let long : length words ≡ length ts * token_width = ap length w ∙ reads_words a in
      let whole = right.whole in
      let n : length ts ≡ token_count words = omega arith in
      let (r, l) = one_call c (read {ts = ts} short a (omega arith) (omega arith)) in
      (r ∙ ap (λ (x : ℕ). Ok x) n, l ∙ rw (← long, ← w))

  -- ---- refused

  -- "Refusals, token list unchanged"
  pub call_unchanged : {r : Lexed} {l : List ℕ} → LexCall text list r l → ((n : ℕ) → ¬ (r ≡ Ok n)) → l ≡ list
  call_unchanged (too_long h) none = refl
  call_unchanged (refused h a) none = refl
  call_unchanged (too_short h a o) none = refl
  call_unchanged (read {ts = ts} h a o p) none = absurd (none (length ts) refl)

  -- a text of a length that is allowed has a reading exactly if the call is not refused with 40, 41 or 42
  pub call_exactly : {r : Lexed} {l : List ℕ} → LexCall text list r l → length text ≤ most_bytes → ((ts : List (List ℕ)) × Reading text ts) ↔ ((x : LexemeError) (q : ℕ) → ¬ (r ≡ Err (Refused x q)))
  call_exactly {r} c short = (there c, back c)
    where
      there : {r : Lexed} {l : List ℕ} → LexCall text list r l → (ts : List (List ℕ)) × Reading text ts → (x : LexemeError) (q : ℕ) → ¬ (r ≡ Err (Refused x q))
      there (too_long h) a x q e = absurd (omega arith)
      there (refused h b) a x q e = never_both text a.1 b
      there (too_short h b o) a x q e = let z : ◌≡◌ {A = ℕ} 0 1 = cc in absurd (omega arith)
      there (read h b o p) a x q e = let z : ◌≡◌ {A = ℕ} 0 1 = cc in absurd (omega arith)

      back : {r : Lexed} {l : List ℕ} → LexCall text list r l → ((x : LexemeError) (q : ℕ) → ¬ (r ≡ Err (Refused x q))) → (ts : List (List ℕ)) × Reading text ts
      back (too_long h) none = absurd (omega arith)
      back (refused {r = r} {q = q} h b) none = absurd (none r q refl)
      back (too_short {ts = ts} h b o) none = (ts, b)
      back (read {ts = ts} h b o p) none = (ts, b)

-- the number of a refusal by its bytes is 40, 41 or 42, and the cursor is a byte of the text
pub refusal_within : {text : List ℕ} {c : Context} {s r q : ℕ} → Stops text c s r q → ((r ≡ StartsNothing) ⊎ ((r ≡ NotClosed) ⊎ (r ≡ TooLarge))) × (q < length text)
refusal_within (here h (nothing n o)) = (inl refl, h)
refusal_within (here h (unclosed n o)) = (inr (inl refl), h)
refusal_within (here h (large l k)) = (inr (inr refl), h)
refusal_within (later h x p) = refusal_within p
