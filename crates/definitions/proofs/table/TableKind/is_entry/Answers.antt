use mathlib.Core.Path.{sym, ap, ◌∙◌}
use borrow.Author.Tests.{eq-eqb}
use Rattle.tokens.specs.Byte.{all_hex}
use Rattle.tokens.proofs.TokenLaws.{view_text}
use Rattle.grammar.specs.FileGrammar.{entry_allowed}
use Rattle.definitions.proofs.table.TableKind.is_entry.Goals as goal

pub returns-in-Code : goal.returns-in-Code
unfolding entry_allowed
returns-in-Code c = rw (eq-eqb _ _ (sym c.kind_at.ensures.is ∙ c.if-kind_at-ne-IDENT.false), c.in-Code.is) (c.all_hex.ensures ∙ ap all_hex (c.text_at.ensures ∙ sym (view_text c.args.source.now.text.now c.args.source.now.tokens.now c.args.source.now.kept.now c.args.p)))
