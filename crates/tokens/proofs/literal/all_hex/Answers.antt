-- `all_hex`: what was seen and what is still to come decide for all. Assumes nothing.
use mathlib.Core.Bool.{true, ◌&&◌}
use mathlib.Core.Path.{◌∙◌}
use Rattle.std.proofs.Common.{rules, tests}
use Rattle.std.proofs.lemmas.Iterator.{YieldsList-from_slice}
use Rattle.std.proofs.lemmas.Iterator.Consumers.{fold_from_yields_List}
use Rattle.tokens.specs.Byte.{is_hex}
use Rattle.tokens.proofs.LiteralLaws.{hex_all}
use Rattle.tokens.proofs.literal.all_hex.Goals as goal

pub returns : goal.returns
returns c =
    fold_from_yields_List _ (λ all c. all && is_hex c) true c.fold.result c.fold.ensures.ran (YieldsList-from_slice c.args.name.now cc) (λ a x b q k. search (rules, tests))
    ∙ hex_all c.args.name.now
