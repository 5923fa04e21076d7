-- `check_duplicate` of tables: what is remembered in them is what the method promises, and the tables are those that were lent to it. Assumes nothing.
use native.Mathlib.Omega.{arith}
use borrow.Author.Rules.{rules}
use Rattle.tokens.specs.Source.{all}
use Rattle.names.proofs.NamesLaws.{names_length, checked_in}
use Rattle.names.proofs.names.check_duplicate.Goals as goal

pub check_duplicate-requires-clause-room : goal.check_duplicate-requires-clause-room
check_duplicate-requires-clause-room c =
    let counted = names_length (all c.args.source.now) c.args.places.now c.args.count in
    omega (arith, counted, c.requires.room)

pub returns : goal.returns
returns c =
    let after = c.check_duplicate.new.self in
    checked_in _ _ _ _ _ _ _ _ _ _ _ _ _ _ _ c.check_duplicate.ensures.checked after.noted (search rules) (search rules) (search rules)
