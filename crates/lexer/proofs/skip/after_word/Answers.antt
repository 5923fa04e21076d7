-- `after_word`. Assumes nothing.
use mathlib.Core.Path.{sym}
use Rattle.tokens.specs.Byte.{bytes}
use Rattle.lexer.proofs.SkipLaws.{out_label, out_table, out_other, other_word}
use Rattle.lexer.proofs.skip.after_word.Goals as goal

pub returns-in-Out : goal.returns-in-Out
unfolding bytes
returns-in-Out c = rw c.in-Out.is (out_table c.args.word.now c.args.next c.if-next-ne58.true (sym c.if-same_name.ensures))

pub returns-in-Out-2 : goal.returns-in-Out-2
unfolding bytes
returns-in-Out-2 c = rw c.in-Out.is (out_other c.args.word.now c.args.next (sym c.if-same_name.ensures))

pub returns-in-Out-2-2 : goal.returns-in-Out-2-2
returns-in-Out-2-2 c = rw c.in-Out.is (out_label c.args.word.now c.args.next c.if-next-ne58.false)

pub returns-in_default : goal.returns-in_default
returns-in_default c = other_word c.args.c c.args.word.now c.args.next c.in_default.not-Out
