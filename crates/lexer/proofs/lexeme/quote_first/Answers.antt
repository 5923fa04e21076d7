-- `quote_first`: by the byte behind what can stand in the string. Assumes nothing.
use mathlib.Core.Path.{◌≡◌, ◌∙◌}
use borrow.Author.Tests.{eq-eqb, ne_eqb}
use lib.ListN.{drop}
use Rattle.lexemes.specs.Bytes.{in_quotes}
use Rattle.lexemes.specs.Reader.{run, quoted}
use Rattle.std.proofs.lemmas.List.{take_rest}
use Rattle.lexer.proofs.lexeme.quote_first.Goals as goal

pub returns-then-byte_at-quote : goal.returns-then-byte_at-quote
unfolding quoted
returns-then-byte_at-quote c =
    let n : c.quoted_of-n.result ≡ run (in_quotes c.args.quote) (drop 1 c.args.bytes.now) = rw (take_rest c.args.bytes.now 1) at c.quoted_of-n.ensures.value in
    c.found.ensures ∙ rw (← n, ← c.byte_at.ensures, eq-eqb c.byte_at.result c.args.quote c.if-byte_at-quote.true)

pub returns-else-byte_at-quote : goal.returns-else-byte_at-quote
unfolding quoted
returns-else-byte_at-quote c =
    let n : c.quoted_of-n.result ≡ run (in_quotes c.args.quote) (drop 1 c.args.bytes.now) = rw (take_rest c.args.bytes.now 1) at c.quoted_of-n.ensures.value in
    rw (← n, ← c.byte_at.ensures, ne_eqb c.byte_at.result c.args.quote c.if-byte_at-quote.false)
