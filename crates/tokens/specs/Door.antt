-- The door: 30, then 35, then 31, before anything is written. A file is read from start 0, which 31 never refuses.
use Rattle.std.specs.Prelude.{ℕ, ◌≡◌, cond, List, length, eqb, ltb, Result, Ok, Err}
use Rattle.std.proofs.lemmas.List.Edits.{sets}
use Rattle.tokens.specs.declared.door.Unready.{Unready}
use Rattle.tokens.specs.declared.door.Unready.TheVariants.{NotWellFormed, KeptTooShort, StartOutside}
use Rattle.tokens.specs.Number as number
use Rattle.tokens.specs.Token.{token_count}
use Rattle.tokens.specs.WellFormed.{whole_good, first_bad}
use Rattle.tokens.specs.Kept.{kept_of}

-- document 01's number and cursor for each answer: the cursor is the first bad token's number (0 for the whole list), the kept count, the start; let
-- through, 0 and the kept count
abbrev pub values : Result ℕ Unready → ℕ × ℕ
values (Err (NotWellFormed at)) = (number.NotWellFormed, at)
values (Err (KeptTooShort count)) = (number.KeptTooShort, count)
values (Err (StartOutside at)) = (number.StartOutside, at)
values (Ok count) = (0, count)

-- number and cursor for a start and a kept list of `room` words
unfoldable pub door : List ℕ → List ℕ → ℕ → ℕ → ℕ × ℕ
door text words start room =
    cond (whole_good text words)
    (cond (ltb (first_bad text words) (token_count words)) (number.NotWellFormed, first_bad text words)
    (cond (ltb room (length (kept_of words))) (number.KeptTooShort, length (kept_of words))
    (cond (ltb start (length (kept_of words))) (0, length (kept_of words)) (number.StartOutside, start))))
    (number.NotWellFormed, 0)

-- what the kept list holds after a call's number at its entrance: unchanged by a refusal; else the kept numbers, and the words beyond them untouched
abbrev pub kept_after : ℕ → List ℕ → List ℕ → List ℕ
kept_after c words kept = cond (eqb c 0) (sets kept 0 (kept_of words)) kept

-- what `prepare` promises: its answer r, and the kept list afterwards
pub record Prepared (text words : List ℕ) (start : ℕ) (kept : List ℕ) (r : Result ℕ Unready) (kept' : List ℕ) : Type 0 where
  pub answer : values r ≡ door text words start (length kept)
  pub list : kept' ≡ kept_after (door text words start (length kept)).0 words kept
