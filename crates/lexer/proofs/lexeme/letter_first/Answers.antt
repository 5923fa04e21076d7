-- `letter_first`. Assumes nothing.
use mathlib.Core.Path.{◌∙◌}
use Rattle.lexemes.specs.Bytes.{is_word_byte}
use Rattle.lexemes.specs.Reader.{worded}
use Rattle.lexer.proofs.lexeme.letter_first.Goals as goal

pub returns-then-in_code : goal.returns-then-in_code
unfolding worded
returns-then-in_code c = c.found.ensures ∙ rw (← c.if-in_code.ensures, c.run_of.ensures.value is_word_byte (λ b r l e. e))

pub returns-then-is_digit : goal.returns-then-is_digit
unfolding worded
returns-then-is_digit c = c.digit_first.ensures ∙ rw (← c.if-in_code.ensures, ← c.if-is_digit.ensures)

pub returns-else-is_digit : goal.returns-else-is_digit
unfolding worded
returns-else-is_digit c = c.word_first.ensures ∙ rw (← c.if-in_code.ensures, ← c.if-is_digit.ensures)
