-- `check_duplicate`: the answer, and what is remembered if there is none. Assumes nothing.
use mathlib.Core.Path.{refl, sym, ap, ◌∙◌}
use Rattle.names.specs.Names.{hash_of}
use Rattle.names.proofs.NamesLaws.{asked_here}
use Rattle.tokens.proofs.TokenLaws.{view_text}
use Rattle.names.proofs.names.Remembered.check_duplicate.Goals as goal

pub returns-then-is_remembered-clause-checked : goal.returns-then-is_remembered-clause-checked
returns-then-is_remembered-clause-checked c = record { is = asked_here _ _ _ _ _ _ _ c.text_at-name.ensures c.is_remembered.ensures c.if-is_remembered.true; then = refl }

pub remember-requires-clause-h_value : goal.remember-requires-clause-h_value
remember-requires-clause-h_value c = c.hash_of-h.ensures ∙ ap hash_of (c.text_at-name.ensures ∙ sym (view_text _ _ _ _))

pub returns-clause-checked : goal.returns-clause-checked
returns-clause-checked c = record { is = asked_here _ _ _ _ _ _ _ c.text_at-name.ensures c.is_remembered.ensures c.if-is_remembered.false; then = c.remember.ensures.remembered }
