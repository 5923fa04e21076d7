-- `remember`: the new name is the last of its bucket, and leads to the one that was. Assumes nothing.
use native.Mathlib.Omega.{arith}
use lib.ListN.{length-set}
use Rattle.tokens.specs.Source.{all}
use Rattle.names.proofs.NamesLaws.{names_length, link_behind, place_behind, remembered}
use Rattle.names.proofs.names.Remembered.remember.Goals as goal

pub invariant_of-self : goal.invariant_of-self
invariant_of-self c = record { noted = link_behind _ c.args.self.now.noted }

pub invariant_of-self-2 : goal.invariant_of-self-2
invariant_of-self-2 c = record { noted = place_behind _ (link_behind _ c.args.self.now.noted) }

pub invariant_of-self-3 : goal.invariant_of-self-3
invariant_of-self-3 c =
    let counted = names_length (all c.args.self.now.source.now) c.args.self.now.places.now c.args.self.now.count in
    record { noted = (remembered _ _ _ _ _ _ _ _ c.args.self.now.noted (omega arith) (omega arith) c.requires.p_lt_most_tokens c.requires.h_value c.bucket_of-b.ensures.value).0 }

pub returns-clause-remembered : goal.returns-clause-remembered
returns-clause-remembered c =
    let counted = names_length (all c.args.self.now.source.now) c.args.self.now.places.now c.args.self.now.count in
    let stored = remembered _ _ _ _ _ _ _ _ c.args.self.now.noted (omega arith) (omega arith) c.requires.p_lt_most_tokens c.requires.h_value c.bucket_of-b.ensures.value in
    simp (length-set, stored.1)
