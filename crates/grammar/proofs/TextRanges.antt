-- Request [7]: of a file's tables, where its kept tokens lie one behind the other in a text: the byte ranges of the definition records lie so too, and the bytes of
-- each are its tokens' texts and what stands between them. Assumes nothing.
use Prim.Native.Nat.{ℕ, zero, suc, ◌+◌, ◌-◌, ◌≤◌, ◌<◌}
use native.Mathlib.Nat.{add-zero, zero-add, add-suc, suc-add}
use native.Mathlib.Omega.{arith}
use mathlib.Core.Path.{◌≡◌, sym, ap, ◌∙◌}
use mathlib.Core.List.{List, ◌++◌}
use lib.ListN.{length, take, drop}
use lib.Seq.{drop-drop, take-add}
use Rattle.tokens.specs.Token.{Token, part, token_at, Positions}
use Rattle.grammar.specs.FileTables.{Words, DefinitionAt, FileTable, no_definitions, defined}
use Rattle.grammar.specs.TextRanges.{InOrder, laid_out, LaidOut}
use Rattle.grammar.proofs.FileTabled.{definition_rises, file_rises}

-- the parts of a text up to b and from b on
part_joins : (text : List ℕ) (a b c : ℕ) → a ≤ b → b ≤ c → part text a c ≡ part text a b ++ part text b c
part_joins text a b c h k =
    let both : c - a ≡ b - a + (c - b) = omega arith in
    let from : drop (b - a) (drop a text) ≡ drop b text = let e : a + (b - a) ≡ b = omega arith in drop-drop (b - a) a text ∙ ap (λ (n : ℕ). drop n text) e in
    ap (λ (n : ℕ). take n (drop a text)) both ∙ take-add (b - a) (c - b) (drop a text) ∙ ap (λ (l : List ℕ). part text a b ++ take (c - b) l) from

-- the kept tokens stand so in a text: each starts at or before its end, ends at or before the next one's start, and within the text; and the bytes there are its text
pub record InText (text : List ℕ) (kept : List Token) (pos : Positions) : Type 0 where
  pub forwards : (p : ℕ) → p < length kept → pos.start p ≤ pos.end p
  pub onwards : (p : ℕ) → suc p < length kept → pos.end p ≤ pos.start (suc p)
  pub within : (p : ℕ) → p < length kept → pos.end p ≤ length text
  pub there : (p : ℕ) → p < length kept → (token_at kept p).text ≡ part text (pos.start p) (pos.end p)

module _ (text : List ℕ) (kept : List Token) (pos : Positions) (lies : InText text kept pos) where
  -- a token starts at or before the end of any later one
  spans : (p n : ℕ) → suc (p + n) ≤ length kept → pos.start p ≤ pos.end (p + n)
  spans p zero h = rw (add-zero p) (lies.forwards p (omega arith))
  spans p (suc n) h =
      rw (add-suc p n, ← suc-add p n)
      (omega (arith, lies.forwards p (omega arith), lies.onwards p (omega arith), spans (suc p) n (omega arith)))

  laid_out_lem : (p n : ℕ) → suc (p + n) ≤ length kept → part text (pos.start p) (pos.end (p + n)) ≡ laid_out text kept pos p n
  unfolding laid_out
  laid_out_lem p zero h = rw (add-zero p) (sym (lies.there p (omega arith)))
  laid_out_lem p (suc n) h =
      let last : ℕ = suc p + n in
      let next : pos.end p ≤ pos.start (suc p) = lies.onwards p (omega arith) in
      let later : pos.start (suc p) ≤ pos.end last = spans (suc p) n (omega arith) in
      rw (add-suc p n, ← suc-add p n, lies.there p (omega arith))
      (part_joins text (pos.start p) (pos.end p) (pos.end last) (lies.forwards p (omega arith)) (omega arith)
      ∙ ap (λ (l : List ℕ). part text (pos.start p) (pos.end p) ++ l)
      (part_joins text (pos.end p) (pos.start (suc p)) (pos.end last) next later
      ∙ ap (λ (l : List ℕ). part text (pos.end p) (pos.start (suc p)) ++ l) (laid_out_lem (suc p) n (omega arith))))

  module _ (definitions statements table : List ℕ) where
    -- a definition has a token, and its last one stands before the end of the file
    own : (d k i n l a m h p e q : ℕ) (w : Words) → DefinitionAt kept statements table i n a m p e w → FileTable kept pos definitions statements table d k (i + n) l (a + m) h e q
        → (p < e) × (e ≤ q) × (p + (e - p - 1) ≡ e - 1)
    own d k i n l a m h p e q w x rest =
        let up = definition_rises kept statements table i n a m p e w x in
        (up, file_rises kept pos definitions statements table d k (i + n) l (a + m) h e q rest, omega arith)

    in_order : (d k i n a m p q b : ℕ) → FileTable kept pos definitions statements table d k i n a m p q → q < length kept → b ≤ pos.start p → InOrder definitions d k b (length text)
    in_order d k i n a m p q b no_definitions h low = omega (arith, low, lies.forwards p h, lies.within p h)
    in_order d k i n a m p q b (defined {k = o} {n = c} {l = t} {m = l} {h = g} {e = e} w x r rest) h low =
        let fits = own (suc d) o i c t a l g p e q w x rest in
        let behind : suc (e - 1) ≡ e = omega (arith, fits.0) in
        rw r (
          low,
          (rw fits.2 at (spans p (e - p - 1) (omega (arith, fits.0, fits.1)))),
          in_order (suc d) o (i + c) t (a + l) g e q (pos.end (e - 1)) rest h (rw behind at (lies.onwards (e - 1) (omega (arith, fits.0, fits.1)))),
        )

    each : (d k i n a m p q : ℕ) → FileTable kept pos definitions statements table d k i n a m p q → q < length kept → (j : ℕ) → j < k → LaidOut text kept pos definitions (d + j)
    each d k i n a m p q no_definitions h j below = absurd (omega arith)
    each d k i n a m p q (defined {k = o} {n = c} {l = t} {m = l} {h = g} {e = e} w x r rest) h zero below =
        let fits = own (suc d) o i c t a l g p e q w x rest in
        rw (add-zero d) (record { some = rw r fits.0; starts = rw r; ends = rw r; bytes = rw r (rw fits.2 at (laid_out_lem p (e - p - 1) (omega (arith, fits.0, fits.1)))) })
    each d k i n a m p q (defined {k = o} {n = c} {l = t} {m = l} {h = g} {e = e} w x r rest) h (suc j) below =
        rw (add-suc d j, ← suc-add d j) (each (suc d) o (i + c) t (a + l) g e q rest h j (omega arith))

    -- the byte ranges of a file's definitions
    pub text_ranges : (k n m q : ℕ) → FileTable kept pos definitions statements table 0 k 0 n 0 m 0 q → q < length kept
        → InOrder definitions 0 k 0 (length text) × ((d : ℕ) → d < k → LaidOut text kept pos definitions d)
    text_ranges k n m q h inside = (
      in_order 0 k 0 n 0 m 0 q 0 h inside (omega arith),
      (λ d below. rw (zero-add d) at (each 0 k 0 n 0 m 0 q h inside d below)),
    )
