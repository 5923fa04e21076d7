use Prim.Native.Nat.{◌+◌}
use mathlib.Core.Path.{refl}
use Rattle.lists.proofs.At.{handed_on}
use Rattle.definitions.specs.Tables.{table_sort}
use Rattle.definitions.proofs.TableLaws.{table_refused, table_read, no_table, table_nameless, table_behind}
use Rattle.definitions.proofs.table.parse_table.Goals as goal

pub returns-in_default : goal.returns-in_default
returns-in_default c ar = let a = c.args in no_table a.first a.source.now a.p c.kind_at.ensures c.in_default.ensures c.new.ensures

pub returns-then-kind_at-ne-IDENT : goal.returns-then-kind_at-ne-IDENT
returns-then-kind_at-ne-IDENT c ar =
    let a = c.args in
    table_nameless a.first a.source.now a.p c.kind_at.ensures c.kind_at-2.ensures c.in-Some.kind c.in-Some.ensures c.if-kind_at-ne-IDENT.true c.new-then-kind_at-ne-IDENT.ensures

pub returns-in_err-entries : goal.returns-in_err-entries
returns-in_err-entries c ar =
    let a = c.args in
    table_behind a.first a.source.now a.p c.kind_at.ensures c.kind_at-2.ensures c.in-Some.kind c.in-Some.ensures c.if-kind_at-ne-IDENT.false
    (table_refused (table_sort c.in-Some.kind) a.first (a.p + 1) (a.p + 2) a.source.now.text.now a.source.now.tokens.now a.source.now.kept.now c.behind_signs-q.ensures.is c.in_err-entries.ensures (handed_on c.from_residual.result c.from_residual.ensures.1))

pub returns : goal.returns
returns c ar =
    let a = c.args in
    table_behind a.first a.source.now a.p c.kind_at.ensures c.kind_at-2.ensures c.in-Some.kind c.in-Some.ensures c.if-kind_at-ne-IDENT.false
    (table_read (table_sort c.in-Some.kind) a.first (a.p + 1) (a.p + 2) a.source.now.text.now a.source.now.tokens.now a.source.now.kept.now c.behind_signs-q.ensures.is c.behind_signs-q.ensures.low c.in_ok-entries.ensures (rw (c.definition.ensures, c.bare.ensures, c.into.ensures, c.size-size.ensures) refl))
