-- A well-formed list's kept tokens lie one behind the other in the text, and there are no more of them than tokens. Assumes nothing.
use Prim.Native.Nat.{ℕ, zero, suc, ◌+◌, ◌-◌, ◌≤◌, ◌<◌}
use mathlib.Core.Path.{◌≡◌, sym, ap, ◌∙◌}
use mathlib.Core.List.{List, ◌++◌}
use mathlib.Core.Logic.{⊎_elim}
use native.Mathlib.Omega.{arith}
use native.Mathlib.Nat.{eq-or-lt_of_le}
use lib.ListN.{length, get_or, take, drop, length-append}
use lib.Seq.{sets-eq, take_at}
use Rattle.tokens.specs.Token.{token_count, start_of, end_of, Positions}
use Rattle.tokens.specs.Place.{Lined, FromDoor, Place}
use Rattle.tokens.specs.WellFormed.{prev_end, WellFormed}
use Rattle.tokens.specs.Kept.{kept_of, kept_positions}
use Rattle.tokens.proofs.FormedLaws.{whole_says, Good, good_says}
use Rattle.tokens.proofs.KeptLaws.{kept_rising, kept_numbered}
use Rattle.tokens.proofs.TokenLaws.{field_inside}
use Rattle.tokens.specs.Door.{values, door, kept_after, Prepared}
use Rattle.std.specs.Prelude.{Result, Ok}
use Rattle.tokens.specs.declared.door.Unready.{Unready}
use Rattle.tokens.proofs.DoorLaws.{LetThrough, ready}

-- ---- the tokens of the lent list

module _ (text words : List ℕ) (formed : WellFormed text words) where
  -- what each token is
  pub good_at : (i : ℕ) → i < token_count words → Good text words i
  good_at i h = good_says text words i (formed.each i h)

  -- a token ends before any later one starts
  pub ends_before : (i j : ℕ) → i < j → j < token_count words → end_of words i ≤ start_of words j
  unfolding prev_end
  ends_before i zero h k = absurd (none i h)
    where
      none : (i : ℕ) → i < zero → ⊥
      none i h = omega arith
  ends_before i (suc j) h k =
      go (λ (l : i < j). ends_before i j l (omega arith)) (good_at (suc j) k).after
    where
      go : (i < j → end_of words i ≤ start_of words j) → end_of words j ≤ start_of words (suc j) → end_of words i ≤ start_of words (suc j)
      go earlier next =
          ⊎_elim
          (λ (e : i ≡ j). rw e next)
          (λ (l : i < j).
          let one = earlier l in
          let two = (good_at j (omega arith)).forwards in
          omega arith)
          (eq-or-lt_of_le (down i j h))
        where
          down : (i j : ℕ) → i < suc j → i ≤ j
          down i j h = omega arith

  -- ---- the kept list

  abbrev at : Positions
  at = kept_positions words

  -- a kept token starts at or before its end, and ends within the text
  pub kept_range : (p : ℕ) → p < length (kept_of words) → (at.start p ≤ at.end p) × (at.end p ≤ length text)
  kept_range p h = let r = good_at (get_or (kept_of words) p 0) (omega (arith, (kept_rising words).high p h)) in (r.forwards, r.within)

  -- and at or before the start of the next
  pub kept_next : (p : ℕ) → suc p < length (kept_of words) → at.end p ≤ at.start (suc p)
  kept_next p h =
      let r = kept_rising words in
      ends_before (get_or (kept_of words) p 0) (get_or (kept_of words) (suc p) 0) (r.rises p h) (omega (arith, r.high (suc p) h))

  lined_kept : Lined words (kept_of words)
  lined_kept =
      record {
        range = λ p h. rw (field_inside text words (kept_of words) 1 p h, field_inside text words (kept_of words) 2 p h) (kept_range p h).0;
        next = λ p h.
            let here : p < length (kept_of words) = omega arith in
            rw (field_inside text words (kept_of words) 2 p here, field_inside text words (kept_of words) 1 (suc p) h) (kept_next p h);
        end = λ p h. rw (field_inside text words (kept_of words) 2 p h) (omega (arith, (whole_says text words formed.whole).short, (kept_range p h).1));
      }

-- what a well-formed list of so few tokens leaves
from_door : (text words : List ℕ) → WellFormed text words → token_count words ≤ 65536 → FromDoor words (kept_of words)
from_door text words formed few =
    record { numbered = kept_numbered words; few = omega (arith, (kept_rising words).few); lined = lined_kept text words formed }

-- let through by the door: the part of the kept list up to the count is what was kept, and the start is a place in it
pub kept_part : (text words : List ℕ) (start : ℕ) (kept : List ℕ) {kept' : List ℕ} {d : Result ℕ Unready} {n : ℕ} → Prepared text words start kept d kept' → d ≡ Ok n
    → (take (n - 0) kept' ≡ kept_of words) × (n ≤ length kept') × Place words (kept_of words) start
kept_part text words start kept {kept'} {d} {n} p e =
    let said : (0, n) ≡ door text words start (length kept) = ap values (sym e) ∙ p.answer in
    let l : LetThrough text words start (length kept) n = ready text words start (length kept) said in
    let room : 0 + length (kept_of words) ≤ length kept = omega (arith, l.count, l.room_enough) in
    let is : kept' ≡ kept_of words ++ drop (0 + length (kept_of words)) kept = p.list ∙ ap (λ (x : ℕ × ℕ). kept_after x.0 words kept) (sym said) ∙ sets-eq (kept_of words) kept 0 room in (
      ap (take (n - 0)) is ∙ take_at (kept_of words) (drop (0 + length (kept_of words)) kept) (n - 0) (omega (arith, l.count)),
      omega (arith, ap length is, length-append (kept_of words) (drop (0 + length (kept_of words)) kept), l.count),
      record { list = from_door text words l.formed l.few; inside = omega (arith, l.inside, l.count) },
    )
