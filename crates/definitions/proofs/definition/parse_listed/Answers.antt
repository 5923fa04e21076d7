use mathlib.Core.Path.{refl}
use native.Mathlib.Omega.{arith}
use lib.ListN.{length}
use Rattle.tokens.specs.Source.{all}
use Rattle.definitions.specs.Pieces.{list_kind, list_rest}
use Rattle.lists.proofs.At.{handed_on}
use Rattle.definitions.proofs.HeadLaws.{refused_parsed}
use Rattle.definitions.proofs.DefinitionLaws.{refused_plain, signature_parsed, signature_refused}
use Rattle.definitions.proofs.definition.parse_listed.Goals as goal

pub returns-in_err-read_head : goal.returns-in_err-read_head
returns-in_err-read_head c st =
    let h = rw c.keyword.ensures at (c.in_err-read_head.ensures c.args.source.now.text.now) in
    refused_parsed (refused_plain (h c.args.first (list_rest c.args.listed))) (handed_on c.from_residual.result c.from_residual.ensures.1)

pub list_behind-requires : goal.list_behind-requires
list_behind-requires c =
    let h = c.in_ok-read_head.ensures c.args.source.now.text.now in record { list = c.requires.list; inside = omega (arith, h.inside) }

pub returns-in_err-s : goal.returns-in_err-s
returns-in_err-s c st =
    let args = c.args in
    signature_refused (all args.source.now) (list_kind args.listed) args.first args.p (list_rest args.listed) (length args.source.now.kept.now) (rw c.keyword.ensures at (c.in_ok-read_head.ensures args.source.now.text.now)) c.in_err-s.ensures (handed_on c.from_residual-in_err-s.result c.from_residual-in_err-s.ensures.1)

pub returns : goal.returns
returns c st =
    let args = c.args in
    signature_parsed (all args.source.now) (list_kind args.listed) args.first args.p (list_rest args.listed) (length args.source.now.kept.now) (rw c.keyword.ensures at (c.in_ok-read_head.ensures args.source.now.text.now)) c.in_ok-s.s c.in_ok-s.ensures (rw (c.signed.ensures, c.into.ensures) refl)
