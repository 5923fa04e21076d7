-- What "well formed" asks, taken apart once: of the whole list, and of each token. Assumes nothing.
use Prim.Native.Nat.{ℕ, ◌+◌, ◌%◌, ◌≤◌, ◌<◌}
use mathlib.Core.Path.{◌≡◌}
use mathlib.Core.Bool.{true, ◌&&◌}
use mathlib.Core.List.{List}
use borrow.Author.Tests.{leb-true, ltb-true, eqb-true, le-leb, lt-ltb, eq-eqb}
use lib.Dec.{leb, ltb, eqb}
use lib.ListN.{length}
use Rattle.tokens.specs.Kind.{kinds}
use Rattle.tokens.specs.Number.{token_width, most_bytes, most_tokens}
use Rattle.tokens.specs.Token.{token_count, kind_of, start_of, end_of, extra_of}
use Rattle.tokens.specs.WellFormed.{whole_good, prev_end, range_good, eof_good, contents_good, good_after, good}
use Rattle.tokens.proofs.Laws.{and_left, and_right}

module _ (text words : List ℕ) where
  pub record Whole : Type 0 where
    pub short : length text ≤ most_bytes
    pub four : length words % token_width ≡ 0
    pub some : 0 < token_count words
    pub few : token_count words ≤ most_tokens

  pub whole_says : whole_good text words ≡ true → Whole
  unfolding whole_good
  whole_says e =
      let short = leb (length text) most_bytes in
      let four = eqb (length words % token_width) 0 in
      let some = ltb 0 (token_count words) in
      let upto-some = and_left (short && four && some) (leb (token_count words) most_tokens) e in
      let upto-four = and_left (short && four) some upto-some in
      record {
        short = leb-true _ _ (and_left short four upto-four);
        four = eqb-true _ _ (and_right short four upto-four);
        some = ltb-true _ _ (and_right (short && four) some upto-some);
        few = leb-true _ _ (and_right (short && four && some) (leb (token_count words) most_tokens) e);
      }

  pub whole_then : Whole → whole_good text words ≡ true
  unfolding whole_good
  whole_then w = rw (le-leb _ _ w.short, eq-eqb _ _ w.four, lt-ltb _ _ w.some, le-leb _ _ w.few)

  module _ (i : ℕ) where
    pub record Good : Type 0 where
      pub known : ltb (kind_of words i) kinds ≡ true
      pub after : prev_end words i ≤ start_of words i
      pub forwards : start_of words i ≤ end_of words i
      pub within : end_of words i ≤ length text
      pub eof : eof_good (eqb (i + 1) (token_count words)) (kind_of words i) ≡ true
      pub contents : contents_good text (kind_of words i) (start_of words i) (end_of words i) (extra_of words i) ≡ true

    pub good_says : good text words i ≡ true → Good
    unfolding good good_after range_good
    good_says e =
        let known = ltb (kind_of words i) kinds in
        let first = leb (prev_end words i) (start_of words i) in
        let second = leb (start_of words i) (end_of words i) in
        let third = leb (end_of words i) (length text) in
        let eof = eof_good (eqb (i + 1) (token_count words)) (kind_of words i) in
        let contents = contents_good text (kind_of words i) (start_of words i) (end_of words i) (extra_of words i) in
        let upto-eof = and_left (known && (first && second && third) && eof) contents e in
        let upto-range = and_left (known && (first && second && third)) eof upto-eof in
        let range = and_right known (first && second && third) upto-range in
        let forwards = and_left (first && second) third range in
        record {
          known = and_left known (first && second && third) upto-range;
          after = leb-true _ _ (and_left first second forwards);
          forwards = leb-true _ _ (and_right first second forwards);
          within = leb-true _ _ (and_right (first && second) third range);
          eof = and_right (known && (first && second && third)) eof upto-eof;
          contents = and_right (known && (first && second && third) && eof) contents e;
        }

    pub good_then : Good → good text words i ≡ true
    unfolding good good_after range_good
    good_then g = rw (g.known, le-leb _ _ g.after, le-leb _ _ g.forwards, le-leb _ _ g.within, g.eof, g.contents)
