use Rattle.definitions.proofs.MacroLaws.{declared_none}
use Rattle.definitions.proofs.macros.declared_args.Goals as goal

pub returns-then-kind_at-eq-CLOSE_PAREN : goal.returns-then-kind_at-eq-CLOSE_PAREN
returns-then-kind_at-eq-CLOSE_PAREN c =
    declared_none c.args.source.now c.args.p c.kind_at.ensures c.kind_at-then-kind_at-eq-OPEN_PAREN.ensures c.if-kind_at-eq-OPEN_PAREN.true c.if-kind_at-eq-CLOSE_PAREN.true
