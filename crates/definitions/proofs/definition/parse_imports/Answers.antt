use Rattle.definitions.proofs.DefinitionLaws.{include_missing, string_missing, import_there}
use Rattle.definitions.proofs.definition.parse_imports.Goals as goal

pub returns-then-kind_at-ne-INCLUDE : goal.returns-then-kind_at-ne-INCLUDE
returns-then-kind_at-ne-INCLUDE c text st ar = include_missing text c.args.p c.kind_at.ensures c.if-kind_at-ne-INCLUDE.true c.new.ensures

pub returns-then-kind_at-ne-STR : goal.returns-then-kind_at-ne-STR
returns-then-kind_at-ne-STR c text st ar =
    string_missing text c.args.p c.kind_at.ensures c.kind_at-2.ensures c.if-kind_at-ne-INCLUDE.false c.if-kind_at-ne-STR.true c.new-then-kind_at-ne-STR.ensures

pub returns : goal.returns
returns c text st ar =
    import_there text c.args.p c.kind_at.ensures c.kind_at-2.ensures c.if-kind_at-ne-INCLUDE.false c.if-kind_at-ne-STR.false c.bare-found.ensures c.definition.ensures
