-- `new`: in buckets of zeros no name is remembered. Assumes nothing.
-- Tried with the law named on the function (`using`): the search finds no proof.
use Rattle.tokens.specs.Source.{all}
use Rattle.names.proofs.NamesLaws.{fresh_noted}
use Rattle.names.proofs.names.Remembered.new.Goals as goal

pub invariant_of-result : goal.invariant_of-result
invariant_of-result c = record { noted = fresh_noted (all c.args.source.now) c.args.heads.now c.args.next.now c.args.places.now c.requires.some c.requires.empty }
