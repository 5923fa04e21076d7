use Rattle.definitions.specs.Tables.{table_sort}
use Rattle.definitions.proofs.TableLaws.{body_missing, body_behind}
use Rattle.definitions.proofs.table.parse_table_body.Goals as goal

pub returns-then-kind_at-ne-OPEN_BRACE : goal.returns-then-kind_at-ne-OPEN_BRACE
returns-then-kind_at-ne-OPEN_BRACE c =
    body_missing (table_sort c.args.kind) c.args.source.now.text.now c.args.p c.kind_at.ensures c.if-kind_at-ne-OPEN_BRACE.true c.new.ensures

pub returns : goal.returns
returns c =
    body_behind (table_sort c.args.kind) c.args.source.now.text.now c.args.p c.kind_at.ensures c.if-kind_at-ne-OPEN_BRACE.false c.parse_entries.ensures
