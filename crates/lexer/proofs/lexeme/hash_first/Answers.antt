-- `hash_first`: by the word behind the #. Assumes nothing.
use mathlib.Core.Path.{◌∙◌}
use Rattle.tokens.specs.Byte.{bytes}
use Rattle.lexemes.specs.Bytes.{is_word_byte}
use Rattle.lexemes.specs.Reader.{hash}
use Rattle.std.proofs.lemmas.List.{take_rest}
use Rattle.lexer.proofs.lexeme.hash_first.Goals as goal

pub is_hashed-requires : goal.is_hashed-requires
is_hashed-requires c = (c.requires, rw (take_rest c.args.bytes.now 1) at c.run_of-n.ensures.value is_word_byte (λ b r l e. e))

pub is_hashed-requires-2 : goal.is_hashed-requires-2
is_hashed-requires-2 c = (c.requires, rw (take_rest c.args.bytes.now 1) at c.run_of-n.ensures.value is_word_byte (λ b r l e. e))

pub returns-then-is_hashed : goal.returns-then-is_hashed
unfolding hash bytes
returns-then-is_hashed c = c.found.ensures ∙ rw (← c.if-is_hashed.ensures)

pub returns-then-is_hashed-2 : goal.returns-then-is_hashed-2
unfolding hash bytes
returns-then-is_hashed-2 c = c.found-then-is_hashed-2.ensures ∙ rw (← c.if-is_hashed.ensures, ← c.if-is_hashed-2.ensures)

pub returns : goal.returns
unfolding hash bytes
returns c = c.found-2.ensures ∙ rw (← c.if-is_hashed.ensures, ← c.if-is_hashed-2.ensures)
