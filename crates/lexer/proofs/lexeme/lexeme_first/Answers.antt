-- `lexeme_first`: by the first byte. Assumes nothing.
use Prim.Native.Char.{code}
use mathlib.Core.Path.{◌∙◌}
use native.Mathlib.Omega.{arith}
use borrow.Author.Tests.{ne_eqb}
use lib.ListN.{get_or}
use Rattle.lexemes.specs.Bytes.{is_space}
use Rattle.lexemes.specs.Reader.{lexeme_of}
use Rattle.lexer.proofs.lexeme.lexeme_first.Goals as goal

pub returns-then-is_letter : goal.returns-then-is_letter
unfolding lexeme_of
returns-then-is_letter c = c.letter_first.ensures ∙ rw (← c.if-is_letter.ensures)

pub returns-then-is_space : goal.returns-then-is_space
unfolding lexeme_of
returns-then-is_space c = c.found.ensures ∙ rw (← c.if-is_letter.ensures, ← c.if-is_space.ensures, c.run_of.ensures.value is_space (λ b r l e. e))

pub returns-in-47 : goal.returns-in-47
unfolding lexeme_of
returns-in-47 c = c.slash_first.ensures ∙ rw (← c.if-is_letter.ensures, ← c.if-is_space.ensures, c.in-47.is)

pub returns-in-34 : goal.returns-in-34
unfolding lexeme_of
returns-in-34 c = c.quote_first.ensures ∙ rw (← c.if-is_letter.ensures, ← c.if-is_space.ensures, c.in-34.is)

pub returns-in-39 : goal.returns-in-39
unfolding lexeme_of
returns-in-39 c = c.quote_first-in-39.ensures ∙ rw (← c.if-is_letter.ensures, ← c.if-is_space.ensures, c.in-39.is)

pub returns-in-35 : goal.returns-in-35
unfolding lexeme_of
returns-in-35 c = c.hash_first.ensures ∙ rw (← c.if-is_letter.ensures, ← c.if-is_space.ensures, c.in-35.is)

pub returns-in_default-3 : goal.returns-in_default-3
unfolding lexeme_of
returns-in_default-3 c =
    let b = get_or c.args.bytes.now 0 0 in
    c.mark_of.ensures
    ∙ rw (← c.if-is_letter.ensures, ← c.if-is_space.ensures, ne_eqb b (code "/") (omega arith), ne_eqb b (code "\"") (omega arith), ne_eqb b (code "'") (omega arith), ne_eqb b (code "#") (omega arith))
