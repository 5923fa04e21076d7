-- `opcode_of`: by the word's place. Assumes nothing.
use native.Mathlib.Omega.{arith}
use mathlib.Core.Path.{refl, sym, ◌∙◌}
use Rattle.spelling.proofs.FindLaws.{told}
use Rattle.spelling.proofs.find.opcode_of.Goals as goal

pub returns-in_err-at : goal.returns-in_err-at
returns-in_err-at c = rw c.from_residual.ensures ((told _ 0 (sym c.in_err-at.ensures)).nothing refl)

pub returns-then-at-lt-KEYWORDS_FROM : goal.returns-then-at-lt-KEYWORDS_FROM
returns-then-at-lt-KEYWORDS_FROM c =
    let (some, _, is) = c.in_ok-at.ensures in
    (omega arith, c.byte_at.ensures ∙ (told _ _ is).opcode some c.if-at-lt-KEYWORDS_FROM.true)

pub returns-else-at-lt-KEYWORDS_FROM : goal.returns-else-at-lt-KEYWORDS_FROM
returns-else-at-lt-KEYWORDS_FROM c = (told _ _ c.in_ok-at.ensures.2).other c.if-at-lt-KEYWORDS_FROM.false
