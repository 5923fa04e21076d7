use mathlib.Core.Path.{refl}
use native.Mathlib.Omega.{arith}
use lib.ListN.{length}
use Rattle.tokens.specs.Kind.{Function}
use Rattle.tokens.specs.Source.{all}
use Rattle.grammar.specs.FileReader.{function_rest, parse_function}
use Rattle.lists.proofs.At.{handed_on}
use Rattle.definitions.proofs.HeadLaws.{refused_parsed}
use Rattle.definitions.proofs.DefinitionLaws.{refused_plain, signature_parsed, signature_refused}
use Rattle.definitions.proofs.definition.parse_function.Goals as goal

pub returns-in_err-read_head : goal.returns-in_err-read_head
unfolding parse_function
returns-in_err-read_head c st =
    refused_parsed (refused_plain (c.in_err-read_head.ensures c.args.source.now.text.now c.args.first function_rest)) (handed_on c.from_residual.result c.from_residual.ensures.1)

pub function_behind-requires : goal.function_behind-requires
function_behind-requires c =
    let h = c.in_ok-read_head.ensures c.args.source.now.text.now in record { list = c.requires.list; inside = omega (arith, h.inside) }

pub returns-in_err-s : goal.returns-in_err-s
unfolding parse_function
returns-in_err-s c st =
    let args = c.args in
    signature_refused (all args.source.now) Function args.first args.p function_rest (length args.source.now.kept.now) (c.in_ok-read_head.ensures args.source.now.text.now) c.in_err-s.ensures (handed_on c.from_residual-in_err-s.result c.from_residual-in_err-s.ensures.1)

pub returns : goal.returns
unfolding parse_function
returns c st =
    let args = c.args in
    signature_parsed (all args.source.now) Function args.first args.p function_rest (length args.source.now.kept.now) (c.in_ok-read_head.ensures args.source.now.text.now) c.in_ok-s.s c.in_ok-s.ensures (rw c.signed.ensures refl)
