use Rattle.definitions.proofs.MacroLaws.{head_handed, head_unequal, head_equal}
use Rattle.definitions.proofs.macros.macro_head.Goals as goal

pub returns-in_err-list : goal.returns-in_err-list
returns-in_err-list c = head_handed c.args.source.now c.args.p c.in_err-list.ensures c.from_residual.ensures.1

pub returns-then-kind_at-ne-ASSIGN : goal.returns-then-kind_at-ne-ASSIGN
returns-then-kind_at-ne-ASSIGN c = head_unequal c.args.source.now c.args.p c.in_ok-list.ensures c.kind_at.ensures c.if-kind_at-ne-ASSIGN.true c.new.ensures

pub returns : goal.returns
returns c = head_equal c.args.source.now c.args.p c.in_ok-list.ensures c.kind_at.ensures c.if-kind_at-ne-ASSIGN.false
