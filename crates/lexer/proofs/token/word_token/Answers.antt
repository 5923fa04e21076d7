-- `word_token`. Assumes nothing.
use mathlib.Core.Path.{◌∙◌}
use Rattle.lexer.proofs.TokenLaws.{step_word}
use Rattle.lexer.proofs.token.word_token.Goals as goal

pub returns : goal.returns
returns c =
    let at = c.args in
    let w = c.word_of-w.result in
    step_word at.c at.s at.lexeme.now at.behind.now w.kind w.extra (c.word_of-w.ensures ∙ rw c.byte_at.ensures) c.token.ensures
