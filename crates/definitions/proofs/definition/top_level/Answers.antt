use Rattle.grammar.specs.Result.{choose}
use Rattle.grammar.specs.Rules.{asks}
use Rattle.definitions.proofs.DefinitionLaws.{top_chosen, top_defined, top_pound, top_wrong}
use Rattle.definitions.proofs.definition.top_level.Goals as goal

pub returns-in-3 : goal.returns-in-3
unfolding choose
returns-in-3 c =
    let a = c.args in rw (top_chosen a.source.now a.p c.kind_at.ensures (asks a.strict) 3 c.in-3.is) (c.parse_imports.ensures a.source.now.text.now a.statements.now a.arguments.now)

pub returns-in-4 : goal.returns-in-4
returns-in-4 c = let a = c.args in top_defined a.source.now a.p c.kind_at.ensures (asks a.strict) c.in-4.is c.define.ensures

pub returns-in-5 : goal.returns-in-5
returns-in-5 c = let a = c.args in top_pound a.source.now a.p c.kind_at.ensures (asks a.strict) c.in-5.is c.new.ensures

pub returns-in_default : goal.returns-in_default
returns-in_default c =
    let a = c.args in
    let no = c.in_default.in_default-own.rest in
    top_wrong a.source.now a.p c.kind_at.ensures (asks a.strict) (no.0.0.1, (no.1, (no.0.1, tt))) c.new-in_default.ensures
