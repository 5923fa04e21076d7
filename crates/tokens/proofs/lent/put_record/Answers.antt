use mathlib.Core.Path.{refl, sym, ◌∙◌}
use native.Mathlib.Omega.{arith}
use Rattle.tokens.proofs.Laws.{sets_done, put_empty, put_fits, put_full}
use Rattle.tokens.proofs.lent.put_record.Goals as goal

pub returns-then-w-eq0 : goal.returns-then-w-eq0
returns-then-w-eq0 c = put_empty c.args.table.now c.args.words.now _ _ c.if-w-eq0.true refl

pub returns-after-loop-i : goal.returns-after-loop-i
returns-after-loop-i c =
    let w = c.loop-i in
    let t = c.args.table.now in
    sym (sets_done w.table c.args.words.now _ w.i (omega (arith, c.loop-i-test.false))) ∙ w.invariant.1 ∙ sym (put_fits t c.args.words.now _ _ c.if-n-table.true)

pub returns-else-n-table : goal.returns-else-n-table
returns-else-n-table c = sym (put_full c.args.table.now c.args.words.now _ _ c.if-n-table.false)
