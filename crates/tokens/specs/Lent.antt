-- Inner: tables of records: w words a record, a record written only where the whole of it fits.
use Rattle.std.specs.Prelude.{ℕ, ◌+◌, ◌-◌, ◌*◌, ◌/◌, cond, List, [], ◌∷◌, ◌++◌, length, take, replicate, ltb}
use Rattle.std.proofs.lemmas.List.Edits.{sets}

-- record n becomes r if the whole of it lies in the table; else the table stays
unfoldable pub put : ℕ → List ℕ → ℕ → List ℕ → List ℕ
put w table n r = cond (ltb n (length table / w)) (sets table (n * w) r) table

-- the records rs, from number n on
unfoldable pub put_all : ℕ → List ℕ → ℕ → List (List ℕ) → List ℕ
put_all w table n [] = table
put_all w table n (r ∷ rs) = put_all w (put w table n r) (n + 1) rs

-- the first n records of w words as they are, and zeros behind them
unfoldable pub cleared_behind : ℕ → ℕ → List ℕ → List ℕ
cleared_behind w n table = take (n * w) table ++ replicate (length table - n * w) 0
