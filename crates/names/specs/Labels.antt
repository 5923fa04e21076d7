-- Inner: which bodies have less room for their labels' names.
use Rattle.std.specs.Prelude.{ℕ}

-- the most tokens of a short body
abbrev pub short_body : ℕ
short_body = 512
