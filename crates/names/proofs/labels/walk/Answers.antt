-- `walk`: what is found from here on, with the remembered names seen, is what is found from the start; one law for each way through a turn. Assumes nothing.
-- Tried with the five laws named on the function (`using`): of the ways through a turn and out the search finds none, only where it begins.
use Rattle.names.proofs.LabelsLaws.{walk_begins, walk_ends, walk_other, walk_found, walk_new}
use Rattle.names.proofs.labels.walk.Goals as goal

pub loop-q-init : goal.loop-q-init
loop-q-init c = walk_begins _ _ _ c.requires.fresh

pub loop-q-preserved-then-kind_at-ne-LABEL : goal.loop-q-preserved-then-kind_at-ne-LABEL
loop-q-preserved-then-kind_at-ne-LABEL c = walk_other _ _ _ c.loop-q.invariant c.loop-q-test.true c.kind_at.ensures c.if-kind_at-ne-LABEL.true

pub returns-then-check_duplicate : goal.returns-then-check_duplicate
returns-then-check_duplicate c =
    walk_found _ _ _ c.loop-q.invariant c.loop-q-test.true c.kind_at.ensures c.if-kind_at-ne-LABEL.false c.check_duplicate.ensures.checked c.if-check_duplicate.true

pub loop-q-preserved : goal.loop-q-preserved
loop-q-preserved c =
    walk_new _ _ _ c.loop-q.invariant c.loop-q-test.true c.kind_at.ensures c.if-kind_at-ne-LABEL.false c.check_duplicate.ensures.checked c.if-check_duplicate.false

pub returns : goal.returns
returns c = walk_ends _ _ _ c.loop-q.invariant c.loop-q-test.false
