use lib.ListN.{drop}
use Rattle.tokens.specs.Source.{all}
use Rattle.grammar.specs.Rules.{asks}
use Rattle.grammar.proofs.FileSound.{top_first}
use Rattle.definitions.proofs.DefinitionLaws.{added}
use Rattle.definitions.proofs.definition.read_definition.Goals as goal

pub returns : goal.returns
returns c =
    let args = c.args in
    added c.in_ok-read.read (top_first (asks args.strict) args.p (drop args.p (all args.source.now))) c.in_ok-read.ensures c.start_inside-start.ensures c.end_inside-end.ensures c.put_definition.ensures
