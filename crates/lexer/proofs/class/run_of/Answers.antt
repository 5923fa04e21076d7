-- `run_of`: the answer for each class that the test is. Assumes nothing.
use borrow.Author.Rules.{rules}
use Rattle.lexer.proofs.ClassLaws.{RunsTo, run_found}
use Rattle.lexer.proofs.class.run_of.Goals as goal

pub returns-clause-value : goal.returns-clause-value
returns-clause-value g c =
    λ class of.
    let bs = c.args.bytes.now in
    let found : RunsTo class bs c.position.result = search rules in
    rw c.unwrap_or.ensures (run_found class bs c.position.result found)
