-- `kind_token`. Assumes nothing.
use mathlib.Core.Path.{sym}
use Rattle.lexer.proofs.TokenLaws.{step_large, step_plain}
use Rattle.lexer.proofs.token.kind_token.Goals as goal

pub returns-then-too_large : goal.returns-then-too_large
returns-then-too_large c =
    let at = c.args in
    step_large at.c at.s at.lexeme.now at.behind.now at.kind (sym c.if-too_large.ensures)

pub returns : goal.returns
returns c =
    let at = c.args in
    step_plain at.c at.s at.lexeme.now at.behind.now at.kind c.quotes_of-q.result c.if-kind-eq-IDENT.false c.if-kind-eq-NUM.false (sym c.if-too_large.ensures) c.quotes_of-q.ensures.value c.token.ensures
