-- Inner: how a lent table holds what a reader reads, and how a refusal is told.
use Rattle.std.specs.Prelude.{ℕ, ◌+◌, ◌≡◌, List}
use Rattle.tokens.specs.Lent.{put_all}
use Rattle.grammar.specs.Result.{Why, number, beyond, Res, got, bad}

-- the records of what was read, w words each, stand from number n on; after a refusal the entry zeroes all, and nothing is said here
abbrev pub Written : {A : Type 0} → ℕ → (A → List (List ℕ)) → Res A → ℕ → List ℕ → List ℕ → Type 0
Written w records (got x k) n lent lent' = lent' ≡ put_all w lent n (records x)
Written w records (bad y q) n lent lent' = Unit {0}

-- the reading is refused with number c and cursor q
pub record RefusedRead {A : Type 0} (read : Res A) (c q : ℕ) : Type 0 where
  pub why : Why
  pub place : ℕ
  pub is : read ≡ bad why place
  pub numbered : c ≡ number why
  pub cursor : q ≡ place + beyond why
