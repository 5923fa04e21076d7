-- `is_hashed`. Assumes nothing.
use mathlib.Core.Path.{◌∙◌}
use borrow.Author.Tests.{eq-eqb, ne_eqb}
use lib.ListN.{length}
use Rattle.std.proofs.lemmas.List.{take_rest}
use Rattle.lexemes.specs.Reader.{hashed}
use Rattle.lexer.proofs.lexeme.is_hashed.Goals as goal

pub returns-then-n-what : goal.returns-then-n-what
unfolding hashed
returns-then-n-what c = rw (take_rest c.args.bytes.now 1) at c.begins_with.ensures ∙ rw (← c.requires.1, eq-eqb c.args.n (length c.args.what.now) c.if-n-what.true)

pub returns-else-n-what : goal.returns-else-n-what
unfolding hashed
returns-else-n-what c = rw (← c.requires.1, ne_eqb c.args.n (length c.args.what.now) c.if-n-what.false)
