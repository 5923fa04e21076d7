use Prim.Native.Nat.{◌<◌}
use mathlib.Core.Logic.{◌⊎◌, inl, inr}
use native.Mathlib.Omega.{arith}
use Rattle.grammar.specs.Result.{choose, look, seq}
use Rattle.grammar.specs.Rules.{asks}
use Rattle.grammar.specs.FileReader.{parse_event, event_rest, parse_custom_error, error_rest}
use Rattle.definitions.proofs.DefinitionLaws.{chosen, none_chosen}
use Rattle.definitions.proofs.MacroLaws.{macro_chosen}
use Rattle.definitions.proofs.TableLaws.{table_chosen, past_four, none_begins}
use Rattle.definitions.proofs.definition.define.Goals as goal
use Rattle.definitions.proofs.definition.define.Goals.{in_default-via-then-this-lt6, in_default-via-else-this-lt6+else-this-lt9+else-this-lt16}

pub returns-in-9 : goal.returns-in-9
unfolding choose
returns-in-9 c =
    let a = c.args in rw (chosen a.source.now a.p c.kind_at.ensures (asks a.strict) a.first 9 c.in-9.is) (c.parse_function.ensures a.statements.now)

pub returns-in-10 : goal.returns-in-10
unfolding choose parse_event event_rest look seq
returns-in-10 c =
    let a = c.args in rw (chosen a.source.now a.p c.kind_at.ensures (asks a.strict) a.first 10 c.in-10.is) (c.parse_listed.ensures a.statements.now)

pub returns-in-11 : goal.returns-in-11
unfolding choose
returns-in-11 c =
    let a = c.args in
    rw (chosen a.source.now a.p c.kind_at.ensures (asks a.strict) a.first 11 c.in-11.is) (c.parse_constant.ensures a.source.now.text.now a.statements.now a.arguments.now)

pub returns-in-12 : goal.returns-in-12
unfolding choose parse_custom_error error_rest look seq
returns-in-12 c =
    let a = c.args in rw (chosen a.source.now a.p c.kind_at.ensures (asks a.strict) a.first 12 c.in-12.is) (c.parse_listed-in-12.ensures a.statements.now)

pub returns-in-6 : goal.returns-in-6
returns-in-6 c = let a = c.args in rw (macro_chosen (asks a.strict) a.first a.source.now a.p c.kind_at.ensures (omega arith) (omega arith)) c.parse_macro.ensures

pub returns-in-13 : goal.returns-in-13
returns-in-13 c =
    let a = c.args in
    let past = past_four c.kind_at.result (omega arith) (omega arith) (omega arith) (omega arith) (omega arith) in
    rw (table_chosen (asks a.strict) a.first a.source.now a.p c.kind_at.ensures past (omega arith)) (c.parse_table.ensures a.arguments.now)

pub returns-in_default : goal.returns-in_default
returns-in_default c =
    let a = c.args in
    let outside : (c.kind_at.result < 6) ⊎ (15 < c.kind_at.result) =
    elim c.in_default.branch [
      | in_default-via-then-this-lt6 w ↦ inl (omega arith)
      | in_default-via-else-this-lt6+else-this-lt9+else-this-lt16 w ↦ inr (omega arith)
    ] in
    none_chosen a.source.now a.p c.kind_at.ensures (asks a.strict) a.first (none_begins (asks a.strict) a.first outside) c.new.ensures
