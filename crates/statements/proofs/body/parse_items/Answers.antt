use native.Mathlib.Omega.{arith}
use borrow.Author.Rules.{rules}
use Rattle.tokens.specs.Refusal.{wrong_number}
use Rattle.lists.proofs.At.{handed_on}
use Rattle.statements.proofs.BodyLaws.{items_more, items_done, items_fail}
use Rattle.statements.proofs.body.parse_items.Goals as goal

pub returns-in_err-t : goal.returns-in_err-t
returns-in_err-t c =
    let a = c.args in
    rw (handed_on c.from_residual.result c.from_residual.ensures.1)
    (items_fail a.takes (wrong_number a.wrong) a.before a.source.now c.loop-wrong.invariant c.kind_at.ensures c.ends_items.ensures c.loop-wrong-test.true c.in_err-t.ensures)

pub loop-wrong-smaller : goal.loop-wrong-smaller
loop-wrong-smaller c =
    let a = c.args in
    let next = items_more a.takes (wrong_number a.wrong) a.before a.source.now c.loop-wrong.invariant c.kind_at.ensures c.ends_items.ensures c.loop-wrong-test.true c.in_ok-t.ensures (search rules) (search rules) in
    omega (arith, next.0, next.1)

pub loop-wrong-preserved : goal.loop-wrong-preserved
loop-wrong-preserved c =
    let a = c.args in
    (items_more a.takes (wrong_number a.wrong) a.before a.source.now c.loop-wrong.invariant c.kind_at.ensures c.ends_items.ensures c.loop-wrong-test.true c.in_ok-t.ensures (search rules) (search rules)).2

-- one law; tried in `using` on the function, it is not found
pub returns : goal.returns
returns c =
    let a = c.args in
    items_done a.takes (wrong_number a.wrong) a.before a.source.now c.loop-wrong.invariant c.kind_at.ensures c.ends_items.ensures c.loop-wrong-test.false
