-- `keyword_of`: by the word's place. Assumes nothing.
use native.Mathlib.Omega.{arith}
use mathlib.Core.Path.{sym, ◌∙◌}
use Rattle.spelling.proofs.FindLaws.{told}
use Rattle.spelling.proofs.find.keyword_of.Goals as goal

pub returns-in_err-at : goal.returns-in_err-at
returns-in_err-at c = rw c.from_residual.ensures ((told _ 0 (sym c.in_err-at.ensures)).no_keyword (omega arith))

pub returns-then-at-lt-KEYWORDS_FROM : goal.returns-then-at-lt-KEYWORDS_FROM
returns-then-at-lt-KEYWORDS_FROM c = (told _ _ c.in_ok-at.ensures.2).no_keyword c.if-at-lt-KEYWORDS_FROM.true

pub returns-else-at-lt-KEYWORDS_FROM : goal.returns-else-at-lt-KEYWORDS_FROM
returns-else-at-lt-KEYWORDS_FROM c = c.byte_at.ensures ∙ (told _ _ c.in_ok-at.ensures.2).keyword c.if-at-lt-KEYWORDS_FROM.false
