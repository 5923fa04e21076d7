-- `place_of`: what the laws of the look-up say of a word too short, too long, found and not found. Assumes nothing.
use mathlib.Core.Path.{sym, ◌∙◌}
use Rattle.spelling.proofs.FindLaws.{too_short, too_long, looked}
use Rattle.spelling.proofs.find.place_of.Goals as goal
use Rattle.spelling.proofs.find.place_of.Goals.{then-n-lt-SHORTEST-via-then-n-lt-SHORTEST, then-n-lt-SHORTEST-via-else-n-lt-SHORTEST+then-n-gt-LONGEST}

pub returns-then-n-lt-SHORTEST : goal.returns-then-n-lt-SHORTEST
returns-then-n-lt-SHORTEST c =
    elim c.then-n-lt-SHORTEST.branch [
      | then-n-lt-SHORTEST-via-then-n-lt-SHORTEST w ↦ too_short c.args.word.now w.if-n-lt-SHORTEST.true
      | then-n-lt-SHORTEST-via-else-n-lt-SHORTEST+then-n-gt-LONGEST w ↦ too_long c.args.word.now w.if-n-gt-LONGEST.true
    ]

pub is_name-requires : goal.is_name-requires
is_name-requires c = (looked _ _ _ c.slot_of.ensures.value c.slot_of.ensures.upper_bound c.start_of-at.ensures).inside

pub returns-then-is_name : goal.returns-then-is_name
returns-then-is_name c = (looked _ _ _ c.slot_of.ensures.value c.slot_of.ensures.upper_bound c.start_of-at.ensures).hit (sym c.is_name.ensures ∙ c.if-is_name.true)

pub returns-else-is_name : goal.returns-else-is_name
returns-else-is_name c = (looked _ _ _ c.slot_of.ensures.value c.slot_of.ensures.upper_bound c.start_of-at.ensures).miss (sym c.is_name.ensures ∙ c.if-is_name.false)
