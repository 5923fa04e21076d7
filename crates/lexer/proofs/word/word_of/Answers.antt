-- `word_of`. Assumes nothing.
use Prim.Native.Char.{code}
use mathlib.Core.Path.{◌∙◌}
use borrow.Author.Tests.{eq-eqb, ne_eqb}
use Rattle.tokens.specs.Byte.{bytes}
use Rattle.lexemes.specs.Words.{word_of}
use Rattle.lexer.proofs.word.word_of.Goals as goal
use Rattle.lexer.proofs.word.word_of.Goals.{else-next-eq40-via-then-next-eq40+else-begins_with, else-next-eq40-via-else-next-eq40}

pub returns-then-begins_with : goal.returns-then-begins_with
unfolding word_of bytes
returns-then-begins_with c =
    let next = c.args.next in
    c.plain_word-then-begins_with.ensures
    ∙ rw (← c.if-in_code.ensures, ne_eqb next (code ":") c.if-next-eq58.false, eq-eqb next (code "(") c.if-next-eq40.true, ← c.if-begins_with.ensures)

pub returns : goal.returns
unfolding word_of bytes
returns c =
    let next = c.args.next in
    elim c.else-next-eq40.branch [
      | else-next-eq40-via-then-next-eq40+else-begins_with w ↦
          c.by_place.ensures
          ∙ rw (← c.if-in_code.ensures, ne_eqb next (code ":") c.if-next-eq58.false, eq-eqb next (code "(") w.if-next-eq40.true, ← w.if-begins_with.ensures)
      | else-next-eq40-via-else-next-eq40 w ↦ c.by_place.ensures ∙ rw (← c.if-in_code.ensures, ne_eqb next (code ":") c.if-next-eq58.false, ne_eqb next (code "(") w.if-next-eq40.false)
    ]
