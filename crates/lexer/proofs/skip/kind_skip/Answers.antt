-- `kind_skip`. Assumes nothing.
use Prim.Native.Nat.{◌+◌}
use mathlib.Core.Path.{sym, ◌∙◌}
use lib.ListN.{length}
use Rattle.lexemes.specs.Bytes.{first}
use Rattle.lexer.proofs.SkipLaws.{skip_word, skip_large, skip_plain}
use Rattle.lexer.proofs.skip.kind_skip.Goals as goal

pub returns-then-kind-eq-IDENT : goal.returns-then-kind-eq-IDENT
returns-then-kind-eq-IDENT c =
    let at = c.args in
    skip_word at.c at.s (at.s + length at.lexeme.now) at.kind at.lexeme.now (first at.behind.now) c.after_word-context.result c.if-kind-eq-IDENT.true (c.after_word-context.ensures ∙ rw c.byte_at.ensures)

pub returns-then-too_large : goal.returns-then-too_large
returns-then-too_large c =
    let at = c.args in
    skip_large at.c at.s (at.s + length at.lexeme.now) at.kind at.lexeme.now (first at.behind.now) (sym c.if-too_large.ensures)

pub returns : goal.returns
returns c =
    let at = c.args in
    skip_plain at.c at.s (at.s + length at.lexeme.now) at.kind at.lexeme.now (first at.behind.now) c.context_after-context.result c.if-kind-eq-IDENT.false (sym c.if-too_large.ensures) c.context_after-context.ensures
