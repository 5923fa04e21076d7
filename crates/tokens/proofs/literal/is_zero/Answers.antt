-- `is_zero`: the value is zero if its four quarters are. Assumes nothing.
use mathlib.Core.Path.{refl, ◌∙◌}
use lib.Dec.{eqb}
use lib.ListN.{drop}
use Prim.Native.Nat.{◌^◌, ◌/◌, ◌%◌, ◌*◌}
use Rattle.std.proofs.Common.{rules, tests}
use Rattle.std.proofs.lemmas.Iterator.{YieldsList-from_range}
use Rattle.std.proofs.lemmas.Iterator.Search.{all_from_yields_List}
use Rattle.tokens.specs.Byte.{value_after}
use Rattle.tokens.specs.Literal.{literal_value}
use Rattle.tokens.proofs.LiteralLaws.{quarters_zero}
use Rattle.tokens.proofs.literal.is_zero.Goals as goal

pub returns : goal.returns
unfolding literal_value
returns c =
    let v = value_after 0 (drop 2 c.args.literal.now) in
    all_from_yields_List (λ i. eqb (v / 16 ^ (16 * i) % 2 ^ 64) 0) _ _ c.all.result c.all.ensures.ran (YieldsList-from_range 0 4 4 refl refl) (λ x b q k. search (rules, tests))
    ∙ quarters_zero v
