-- The two passes, one token at a time, and the call by what they answered. Assumes nothing.
use Prim.Native.Nat.{ℕ, ◌+◌, ◌/◌, ◌≤◌, ◌<◌}
use mathlib.Core.Path.{◌≡◌, refl, sym, ap, ◌∙◌}
use mathlib.Core.List.{List, [], ◌∷◌}
use native.Mathlib.Omega.{arith}
use lib.ListN.{length, drop}
use Rattle.std.specs.Prelude.{Ok, Err}
use Rattle.tokens.specs.Number.{most_bytes, most_tokens, token_width}
use Rattle.tokens.specs.Lent.{put, put_all, cleared_behind}
use Rattle.tokens.proofs.LentLaws.{Wide, records_then_zeros}
use Rattle.lexemes.specs.Errors.{error_number}
use Rattle.lexemes.specs.Contexts.{after}
use Rattle.lexemes.specs.Reads.{eof_at, Reads, ends, goes}
use Rattle.lexemes.specs.Reader.{step_at, refused, Walked, walk, reading}
use Rattle.lexemes.specs.declared.Context.{Context}
use Rattle.lexemes.specs.declared.LexemeError.{LexemeError}
use Rattle.lexemes.specs.declared.Token.{Token}
use Rattle.lexemes.proofs.WalkLaws.{token_in, walk_end, walk_stop, walk_token}
use Rattle.lexemes.proofs.Exists.{four, walk_reads, walk_stops}
use Rattle.lexemes.proofs.RightLaws.{reads_words}
use Rattle.lexer.proofs.SkipLaws.{Passes}
use Rattle.lexer.specs.Call as call
use Rattle.lexer.specs.Call.{NoRoom, LexCall}
use Rattle.lexer.specs.Counts.{Counts}
use Rattle.lexer.specs.declared.call.LexError.{LexError}
use Rattle.lexer.specs.declared.call.LexError.TheVariants.{TextTooLong, Refused, TokensTooShort}

-- ---- the pass that counts

-- behind n tokens, at byte s in context c: the rest of the walk is the rest of the reading
pub record Left (t : List ℕ) (c : Context) (s n : ℕ) : Type 0 where
  pub end : (walk c s 0 (drop s t)).end ≡ (reading t).end
  pub tokens : n + length (walk c s 0 (drop s t)).tokens ≡ length (reading t).tokens

module _ (t : List ℕ) (c : Context) (s n : ℕ) (l : Left t c s n) where
  pub left_more : (d : Context) (m : ℕ) → Passes c t s d m → Left t d m (n + 1)
  left_more d m p =
      let e = p.2.1 in
      let k = ap (λ (x : Walked). length x.tokens) e in
      let o = l.tokens in
      record { end = sym (ap (λ (x : Walked). x.end) e) ∙ l.end; tokens = omega arith }

  pub left_end : length t ≤ s → Counts (reading t) (Ok (n + 1))
  left_end h =
      let e = walk_end c t s h in
      let k = ap (λ (x : Walked). length x.tokens) e in
      let o = l.tokens in
      (sym l.end ∙ ap (λ (x : Walked). x.end) e, omega arith)

  pub left_stop : (r : LexemeError) → walk c s 0 (drop s t) ≡ record { tokens = []; end = refused (error_number r) s } → Counts (reading t) (Err (Refused r s))
  left_stop r e = sym l.end ∙ ap (λ (x : Walked). x.end) e

-- ---- the pass that writes

module _ (c : Context) (t : List ℕ) (s : ℕ) (list : List ℕ) (m : ℕ) where
  -- the list when all that is left is written into it
  abbrev Rest : List ℕ
  Rest = put_all token_width list m (walk c s 0 (drop s t)).tokens

  pub put_end : length t ≤ s → Rest ≡ put token_width list m (eof_at s)
  unfolding put_all
  put_end h = rw (walk_end c t s h)

  module _ (h : s < length t) where
    pub put_stop : (r : LexemeError) → Err r ≡ step_at c s (drop s t) → Rest ≡ list
    unfolding put_all
    put_stop r is = rw (walk_stop c t s r h is)

    -- a token: the next one begins behind it in the text, and is written behind it
    pub put_token : (u : Token) → Ok u ≡ step_at c s (drop s t)
        → (s < u.next) × (u.next ≤ length t) × (Rest ≡ put_all token_width (put token_width list m (u.kind ∷ u.start ∷ u.end ∷ u.extra ∷ [])) (m + 1) (walk (after c u.kind) u.next 0 (drop u.next t)).tokens)
    unfolding put_all
    put_token u is =
        let b = token_in c s t {k = u.kind} {a = u.start} {e = u.end} {x = u.extra} {n = u.next} h is in
        (b.0, b.1, rw (walk_token c t s u.kind u.start u.end u.extra u.next h is b.0 b.1))

-- ---- the call

-- each token is four words
reads_wide : {text : List ℕ} {c : Context} {s : ℕ} {ts : List (List ℕ)} → Reads text c s ts → Wide token_width ts
reads_wide (ends e) = (refl, tt)
reads_wide (goes h x r) = (ap length (four x), reads_wide r)

module _ (text list : List ℕ) (short : length text ≤ most_bytes) where
  -- what the pass that counts refuses, the call does
  pub call_refused : (e : LexError) → Counts (reading text) (Err e) → LexCall text list (Err e) list
  call_refused (Refused r q) k = call.refused short (walk_stops text (error_number r) q k)
  call_refused TextTooLong k = absurd k
  call_refused (TokensTooShort n) k = absurd k

  module _ (n : ℕ) (k : Counts (reading text) (Ok n)) where
    pub call_short : NoRoom (length list) n → LexCall text list (Err (TokensTooShort n)) list
    call_short none = let m = k.1 in rw m (call.too_short short (walk_reads text k.0) (rw m at none))

    pub call_read : {u l : List ℕ} → n ≤ most_tokens → n ≤ length list / token_width → u ≡ put_all token_width list 0 (reading text).tokens → l ≡ cleared_behind token_width n u
        → LexCall text list (Ok n) l
    call_read few room e i =
        let ts = (reading text).tokens in
        let all = walk_reads text k.0 in
        let m = k.1 in
        let cleared = i ∙ records_then_zeros token_width ts list (omega arith) (reads_wide all) (sym m) room e in
        rw (cleared, reads_words all, m) (call.read short all (omega arith) (omega arith))
