-- `count_good`: the tokens before the one at which the walk stands are sound, and counted. Assumes nothing.
use native.Mathlib.Omega.{arith}
use mathlib.Core.Path.{ap}
use mathlib.Core.Bool.{not}
use lib.ListN.{get_or}
use Rattle.tokens.specs.Kept.{dropped}
use Rattle.tokens.proofs.Laws.{said_no, said_yes}
use Rattle.tokens.proofs.FormedLaws.{whole_says}
use Rattle.tokens.proofs.DoorLaws.{one_most, asked_some, placed_first, placed_next, placed_stands, before_last, at_last, starts_early, ends_early, asked_wrong, range_wrong, last_wrong, walk_on, walk_end}
use Rattle.tokens.proofs.door.count_good.Goals as goal

pub overflow_sub-last : goal.overflow_sub-last
overflow_sub-last c = omega (arith, (whole_says _ _ c.requires).some)

pub loop-at-init : goal.loop-at-init
loop-at-init c = placed_first _ _ c.requires

pub returns-then-start-prev : goal.returns-then-start-prev
returns-then-start-prev c =
    let l = c.loop-at.invariant in starts_early _ _ c.requires l.walked (placed_stands l) c.if-start-prev.true

pub returns-then-end-start : goal.returns-then-end-start
returns-then-end-start c =
    let l = c.loop-at.invariant in ends_early _ _ c.requires l.walked (placed_stands l) c.if-end-start.true

pub returns-then-not-contents_good : goal.returns-then-not-contents_good
returns-then-not-contents_good c =
    let l = c.loop-at.invariant in
    asked_wrong _ _ c.requires l.walked (placed_stands l) (before_last _ _ c.requires l c.loop-at-test.true) (said_no c.contents_good.ensures (ap not c.if-not-contents_good.true))

pub kept_one-count-requires : goal.kept_one-count-requires
kept_one-count-requires c = asked_some _ _ _ _ _ (said_yes c.contents_good.ensures (ap not c.if-not-contents_good.false))

pub overflow_add-count : goal.overflow_add-count
overflow_add-count c =
    let l = c.loop-at.invariant in
    omega (arith, l.walked.few, l.walked.inside, (whole_says _ _ c.requires).few, c.kept_one-count.ensures, one_most (dropped (get_or c.args.tokens.now c.loop-at.at 0)))

pub loop-at-preserved : goal.loop-at-preserved
loop-at-preserved c =
    let l = c.loop-at.invariant in
    rw c.kept_one-count.ensures
    (placed_next l
    (walk_on _ _ c.requires l.walked (placed_stands l) (before_last _ _ c.requires l c.loop-at-test.true) c.if-start-prev.false c.if-end-start.false (said_yes c.contents_good.ensures (ap not c.if-not-contents_good.false))))

pub returns-then-not-range_good : goal.returns-then-not-range_good
returns-then-not-range_good c =
    let l = c.loop-at.invariant in range_wrong _ _ c.requires l.walked (placed_stands l) (said_no c.range_good.ensures (ap not c.if-not-range_good.true))

pub returns-then-not-last_good : goal.returns-then-not-last_good
returns-then-not-last_good c =
    let l = c.loop-at.invariant in
    last_wrong _ _ c.requires l.walked (placed_stands l) (at_last _ _ c.requires l c.loop-at-test.false) (said_no c.last_good.ensures (ap not c.if-not-last_good.true))

pub returns : goal.returns
returns c =
    let l = c.loop-at.invariant in
    walk_end _ _ c.requires l.walked (placed_stands l) (at_last _ _ c.requires l c.loop-at-test.false) (said_yes c.range_good.ensures (ap not c.if-not-range_good.false)) (said_yes c.last_good.ensures (ap not c.if-not-last_good.false))
