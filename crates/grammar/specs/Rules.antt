-- The rule set: what may be asked of a label beyond document 01, and which mode of a call asks it.
use Rattle.std.specs.Prelude.{ℕ, Bool, false, ◌||◌, eqb}
use Rattle.tokens.specs.Number.{lenient_mode, strict_mode}

-- does a label's value push take a literal, as in the macro part; may a label's name stand only once in a body
pub record Rules : Type 0 where
  pub push_in_labels : Bool
  pub names_once : Bool

-- both are asked, or neither
abbrev pub asks : Bool → Rules
asks strict = record { push_in_labels = strict; names_once = strict }

-- document 01: neither
abbrev pub base : Rules
base = asks false

-- the modes that there are
unfoldable pub is_mode : ℕ → Bool
is_mode mode = eqb mode lenient_mode || eqb mode strict_mode

-- a call's rule set: mode 0 reads by document 01, mode 1 strictly
abbrev pub rules_of : ℕ → Rules
rules_of mode = asks (eqb mode strict_mode)
