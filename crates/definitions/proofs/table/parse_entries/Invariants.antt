use Prim.Native.Nat.{◌-◌}
use Rattle.definitions.specs.Tables.{table_sort}
use Rattle.definitions.proofs.TableLaws.{Turns}
use Rattle.definitions.proofs.table.parse_entries.Given as goal

-- `definitions::table::parse_entries` meets its contract. The loop's invariant: what is still to be read, on the table as it is, comes to what was to be read
-- at first; and the digits so far are no more than the place in the text where the next token starts.
abbrev pub invariant-loop-q : goal.invariant-loop-q
invariant-loop-q l = Turns (table_sort l.kind) l.before.statements l.before.arguments l.source.text.now l.source.tokens.now l.source.kept.now l.p l.initial.statements l.statements (l.q - l.p) l.digits l.q
