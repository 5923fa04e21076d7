-- `is_noted`: names with other tags are different. Assumes nothing.
use Prim.Native.Nat.{ℕ}
use mathlib.Core.Path.{sym, ap, ◌∙◌}
use mathlib.Core.List.{List}
use Rattle.names.specs.Names.{hash_of, tag_of}
use Rattle.names.proofs.NamesLaws.{other_name, same_here}
use Rattle.names.proofs.names.is_noted.Goals as goal

pub returns-then-note-h : goal.returns-then-note-h
returns-then-note-h c =
    sym (other_name (λ (l : List ℕ). tag_of (hash_of l)) _ _ (λ e. c.if-note-h.true (c.requires.h_value.1 ∙ e ∙ ap tag_of (sym c.requires.h_value.0))))

pub returns : goal.returns
returns c = same_here _ _ _ _ _ _ c.text_at.ensures c.same_name.ensures
