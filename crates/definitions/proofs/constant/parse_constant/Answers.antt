use mathlib.Core.List.{[]}
use mathlib.Core.Path.{refl}
use native.Mathlib.Omega.{arith}
use borrow.Author.Rules.{rules}
use lib.ListN.{length}
use Rattle.tokens.specs.Token.{view}
use Rattle.grammar.specs.FileReader.{constant_rest, parse_constant}
use Rattle.lists.proofs.At.{handed_on}
use Rattle.definitions.proofs.HeadLaws.{refused_parsed}
use Rattle.definitions.proofs.DefinitionLaws.{refused_plain, constant_bad, constant_parsed}
use Rattle.definitions.proofs.constant.parse_constant.Goals as goal

pub returns-in_err-read_head : goal.returns-in_err-read_head
unfolding parse_constant
returns-in_err-read_head c text st ar =
    refused_parsed (refused_plain (c.in_err-read_head.ensures text c.args.first constant_rest)) (handed_on c.from_residual.result c.from_residual.ensures.1)

pub value_behind-requires : goal.value_behind-requires
value_behind-requires c = let h = c.in_ok-read_head.ensures [] in record { list = c.requires.list; inside = omega (arith, h.inside) }

pub returns-in_err-value : goal.returns-in_err-value
returns-in_err-value c text st ar =
    let args = c.args in
    constant_bad (view text args.source.now.tokens.now args.source.now.kept.now) args.first args.p (length args.source.now.kept.now) (c.in_ok-read_head.ensures text) (c.in_err-value.ensures text) (handed_on c.from_residual-in_err-value.result c.from_residual-in_err-value.ensures.1)

pub found-requires : goal.found-requires
found-requires c = let few = c.requires.list.few in let g = c.in_ok-value.ensures [] in omega (arith, g.place)

pub definition-requires : goal.definition-requires
definition-requires c = let g = c.in_ok-value.ensures [] in search rules

pub returns : goal.returns
returns c text st ar =
    let args = c.args in
    constant_parsed (view text args.source.now.tokens.now args.source.now.kept.now) args.first args.p (length args.source.now.kept.now) (c.in_ok-read_head.ensures text) c.in_ok-value.value (c.in_ok-value.ensures text) (rw (c.definition.ensures, c.found.ensures) refl)
