-- Inner: what a contract sees of remembered names.
use Rattle.std.specs.Prelude.{◌≡◌, length, min}
use Rattle.tokens.specs.Source.{all}
use Rattle.names.specs.Names.{Seen, names_at}
use Rattle.names.specs.declared.names.Remembered.{Remembered}

abbrev pub seen : Remembered → Seen
seen r = record { tokens = all r.source.now; names = names_at (all r.source.now) r.places.now r.count; room = min (length r.next.now) (length r.places.now) }

-- what is remembered stands in the tables that were lent
pub record SameTables (before after : Remembered) : Type 0 where
  pub heads : after.heads.ghost_name ≡ before.heads.ghost_name
  pub next : after.next.ghost_name ≡ before.next.ghost_name
  pub places : after.places.ghost_name ≡ before.places.ghost_name
