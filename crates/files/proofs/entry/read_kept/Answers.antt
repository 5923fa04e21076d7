-- `read_kept`: each way out has its law. Assumes nothing.
-- Each begins with the same three facts, that the tables kept their lengths: a law over them would be given the same three.
use borrow.Author.Rules.{rules}
use mathlib.Core.Bool.{true}
use Rattle.tokens.specs.Source.{all}
use Rattle.grammar.specs.FileReader.{file_at}
use Rattle.grammar.specs.Rules.{asks}
use Rattle.grammar.proofs.Numbers.{file_ours}
use Rattle.files.proofs.EntryLaws.{taken_32, taken_33, taken_34, taken_refused, taken_read}
use Rattle.files.proofs.entry.read_kept.Goals as goal

pub returns-then-definitions-read : goal.returns-then-definitions-read
unfolding file_at
returns-then-definitions-read c =
    let f = c.read_definitions in
    taken_32 f.auto.definitions f.auto.statements f.auto.arguments c.clear_all-then-definitions-read.ensures f.ensures c.in-Ok.is c.if-definitions-read.true

pub returns-then-statements-read : goal.returns-then-statements-read
unfolding file_at
returns-then-statements-read c =
    let f = c.read_definitions in
    taken_33 f.auto.definitions f.auto.statements f.auto.arguments c.clear_all-then-statements-read.ensures f.ensures c.in-Ok.is c.if-definitions-read.false c.if-statements-read.true

pub returns-then-arguments-read : goal.returns-then-arguments-read
unfolding file_at
returns-then-arguments-read c =
    let f = c.read_definitions in
    taken_34 f.auto.definitions f.auto.statements f.auto.arguments c.clear_all-then-arguments-read.ensures f.ensures c.in-Ok.is c.if-definitions-read.false c.if-statements-read.false c.if-arguments-read.true

pub returns-in-Err : goal.returns-in-Err
unfolding file_at
returns-in-Err c =
    let f = c.read_definitions in
    let q = c.in-Err.refusal in
    taken_refused f.auto.definitions f.auto.statements f.auto.arguments c.clear_all.ensures f.ensures c.in-Err.is (search rules)
    (file_ours (asks c.args.strict) true (all c.args.source.now) q.0 q.1)

pub returns-else-arguments-read : goal.returns-else-arguments-read
unfolding file_at
returns-else-arguments-read c =
    let f = c.read_definitions in
    taken_read f.auto.definitions f.auto.statements f.auto.arguments f.ensures c.in-Ok.is c.if-definitions-read.false c.if-statements-read.false c.if-arguments-read.false c.clear_rest.ensures
