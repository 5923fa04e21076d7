-- `too_large`. Assumes nothing.
use mathlib.Core.Path.{◌∙◌}
use native.Mathlib.Omega.{arith}
use borrow.Author.Tests.{ne_eqb}
use Rattle.tokens.specs.Kind.{Literal, Num}
use Rattle.lexemes.specs.Texts.{decimal, too_large}
use Rattle.lexer.proofs.TokenLaws.{none_large}
use Rattle.lexer.proofs.token.too_large.Goals as goal

pub returns-in-42 : goal.returns-in-42
unfolding too_large
returns-in-42 c = none_large c.decimal_value.result c.is_none.result (decimal c.args.lexeme.now) c.decimal_value.ensures c.is_none.ensures ∙ rw c.in-42.is

pub returns-in-40 : goal.returns-in-40
unfolding too_large
returns-in-40 c = rw c.in-40.is

pub returns-in_default : goal.returns-in_default
unfolding too_large
returns-in_default c = rw (ne_eqb c.args.kind Num (omega arith), ne_eqb c.args.kind Literal (omega arith))
