-- `word_first`. Assumes nothing.
use mathlib.Core.Path.{◌∙◌}
use Rattle.tokens.specs.Byte.{bytes}
use Rattle.lexemes.specs.Bytes.{is_word_byte}
use Rattle.lexemes.specs.Reader.{word}
use Rattle.lexer.proofs.lexeme.word_first.Goals as goal

pub returns-then-begins_with : goal.returns-then-begins_with
unfolding word bytes
returns-then-begins_with c = c.found.ensures ∙ rw (← c.if-begins_with.ensures)

pub returns : goal.returns
unfolding word bytes
returns c = c.found-2.ensures ∙ rw (← c.if-begins_with.ensures, c.run_of.ensures.value is_word_byte (λ b r l e. e))
