-- Request [4]: the tokens of a text's reading are well formed, within the limits of text and tokens. Assumes nothing.
use Prim.Native.Nat.{ℕ, zero, suc, ◌+◌, ◌-◌, ◌≤◌, ◌<◌}
use mathlib.Core.Path.{◌≡◌}
use mathlib.Core.List.{List, flatten}
use mathlib.Core.Logic.{⊎_elim}
use native.Mathlib.Nat.{eq-or-lt_of_le}
use native.Mathlib.Numerals.{add-one}
use native.Mathlib.Omega.{arith}
use borrow.Author.Tests.{lt-ltb, eq-eqb, ne_eqb}
use lib.ListN.{length, take, drop, length-drop}
use Rattle.tokens.specs.Kind.{Eof}
use Rattle.tokens.specs.Number.{most_bytes, most_tokens}
use Rattle.tokens.specs.Token.{token_count, kind_of, start_of, end_of, part}
use Rattle.tokens.specs.WellFormed.{prev_end, eof_good, text_good, extra_good, contents_good, WellFormed}
use Rattle.tokens.proofs.FormedLaws.{whole_then, Good, good_then}
use Rattle.lexemes.specs.Reads.{eof_at, Reading}
use Rattle.lexemes.specs.Right.{opens_at, closes_at, words_of, Right}
use Rattle.lexemes.specs.Texts.{quotes, IsToken}
use Rattle.lexemes.specs.declared.Context.{Context}
use Rattle.lexemes.proofs.EachToken.{sound_at, size_at, kind_at, start_at_lem, end_at_lem, extra_at_lem, eof_kind, eof_start, eof_end, eof_extra, eof_opens}
use Rattle.lexemes.proofs.RightLaws.{reads_words, reading_right}

module _ (text words : List ℕ) (right : Right text words) where
  -- the token before number i ends at or before the byte where this one opens
  ends_first : (i : ℕ) → i < token_count words → prev_end words i ≤ opens_at words i
  unfolding prev_end
  ends_first zero h = omega arith
  ends_first (suc i) h = omega (arith, rw (add-one i) at (right.next i (omega arith)))

  -- a token but the last, which n bytes from byte s on are
  good_inside : (i : ℕ) {c : Context} (s n : ℕ) → IsToken c s (drop s text) n (words_of words i) → s < length text → prev_end words i ≤ s → i + 1 < token_count words → Good text words i
  unfolding eof_good contents_good
  good_inside i s n is low before h =
      let sound = sound_at words i is in
      let size = size_at words i is in
      let kind = kind_at words i is in
      let start = start_at_lem words i is in
      let end = end_at_lem words i is in
      record {
        known = rw kind (lt-ltb _ _ sound.known.1);
        after = omega arith;
        forwards = omega arith;
        within = omega (arith, length-drop s text, is.lexeme.shape.0);
        eof = rw (ne_eqb (i + 1) (token_count words) (λ e. omega arith), ne_eqb (kind_of words i) Eof (λ e. omega (arith, sound.known.0)));
        contents = rw (kind, extra_at_lem words i is, sound.text (part text (start_of words i) (end_of words i)) whole, sound.extra);
      }
    where
      whole : quotes is.kind ≡ 0 → part text (start_of words i) (end_of words i) ≡ take n (drop s text)
      whole none =
          let at : start_of words i ≡ s = omega (arith, start_at_lem words i is) in
          let long : end_of words i - start_of words i ≡ n = omega (arith, end_at_lem words i is) in
          rw (long, at)

  good_last : (i : ℕ) → words_of words i ≡ eof_at (length text) → prev_end words i ≤ length text → i + 1 ≡ token_count words → Good text words i
  unfolding eof_good contents_good text_good extra_good
  good_last i is before h =
      let kind = eof_kind words i is in
      let start = eof_start words i is in
      let end = eof_end words i is in
      record {
        known = rw kind;
        after = omega arith;
        forwards = omega arith;
        within = omega arith;
        eof = rw (eq-eqb (i + 1) (token_count words) h, kind);
        contents = rw (kind, eof_extra words i is);
      }

  pub right_formed : length text ≤ most_bytes → token_count words ≤ most_tokens → WellFormed text words
  right_formed short few =
      record {
        whole = whole_then text words (record { short = short; four = omega (arith, right.whole); some = right.some; few = few });
        each = λ i h.
            let before = ends_first i h in
            good_then text words i
            (⊎_elim
            (λ (l : i + 1 ≡ token_count words). let is = right.last i l in good_last i is (omega (arith, eof_opens words i is)) l)
            (λ (l : i + 1 < token_count words). let (low, is) = right.each i l in good_inside i (opens_at words i) (closes_at words i - opens_at words i) is low before l)
            (eq-or-lt_of_le (omega arith)));
      }

pub reading_formed : (text : List ℕ) (ts : List (List ℕ)) → length text ≤ most_bytes → length ts ≤ most_tokens → Reading text ts → WellFormed text (flatten ts)
reading_formed text ts short few r = right_formed text (flatten ts) (reading_right text ts r) short (omega (arith, reads_words r))
