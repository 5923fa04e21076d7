-- `keep`: what is written and what is still to come are the whole list, at every turn; the last number is written behind the loop. Assumes nothing.
use Prim.Native.Nat.{◌+◌, ◌-◌, ◌/◌, ◌<◌}
use native.Mathlib.Nat.{sub-zero, zero-add}
use native.Mathlib.Omega.{arith}
use mathlib.Core.Path.{◌≡◌, sym, ap, ◌∙◌}
use lib.ListN.{length}
use lib.Seq.{sets}
use Rattle.tokens.specs.Token.{kind_of, token_count}
use Rattle.tokens.specs.Kept.{dropped, kept_from, kept_of}
use Rattle.tokens.proofs.DoorLaws.{one_most, keep_turn, kept_turn, kept_count, kept_ahead, kept_behind, kept_end}
use Rattle.tokens.proofs.door.keep.Goals as goal

pub overflow_sub-last : goal.overflow_sub-last
overflow_sub-last c = c.requires.eof_last.some

pub loop-i-init : goal.loop-i-init
unfolding kept_of
loop-i-init c = (omega arith, rw (sub-zero, zero-add), rw sub-zero)

pub bounds-kept-m : goal.bounds-kept-m
bounds-kept-m c =
    let w = c.loop-i in
    let ahead = kept_ahead c.args.tokens.now c.requires.eof_last w.i (omega (arith, c.loop-i-test.true)) in
    omega (arith, w.invariant.1, ahead, c.requires.tokens_in_bounds)

pub kept_one-m-requires : goal.kept_one-m-requires
kept_one-m-requires c = c.requires.eof_last.others c.loop-i.i (omega (arith, c.loop-i-test.true))

pub overflow_add-m : goal.overflow_add-m
overflow_add-m c =
    let w = c.loop-i in
    let ws = c.args.tokens.now in
    omega (arith, w.invariant.0, c.kept_one-m.ensures, one_most (dropped (kind_of ws w.i)))

pub loop-i-preserved : goal.loop-i-preserved
loop-i-preserved c =
    let w = c.loop-i in
    let ws = c.args.tokens.now in
    let here : w.i < token_count ws = omega (arith, c.loop-i-test.true) in
    let out = dropped (kind_of ws w.i) in
    let rest = kept_from ws (length ws / 4 - (w.i + 1)) (w.i + 1) in
    let one = c.kept_one-m.ensures in (
      omega (arith, one, one_most out),
      omega (arith, one, kept_count ws (length ws / 4) w.i here, w.invariant.1),
      rw one (keep_turn out w.kept rest w.m w.i (kept_behind ws c.requires.eof_last w.i here) ∙ ap (sets w.kept w.m) (sym (kept_turn ws (length ws / 4) w.i here)) ∙ w.invariant.2),
    )

pub bounds-kept-m-2 : goal.bounds-kept-m-2
bounds-kept-m-2 c =
    let w = c.loop-i in
    let ahead = kept_ahead c.args.tokens.now c.requires.eof_last w.i (omega (arith, c.requires.eof_last.some)) in
    omega (arith, w.invariant.1, ahead, c.requires.tokens_in_bounds)

pub returns : goal.returns
returns c =
    let w = c.loop-i in
    let ws = c.args.tokens.now in
    let eof = c.requires.eof_last in
    let last : length ws / 4 - 1 ≡ w.i = omega (arith, c.loop-i-test.false) in
    let end : w.i + 1 ≡ token_count ws = omega (arith, last, eof.some) in
    rw last (sym (ap (sets w.kept w.m) (kept_end ws eof w.i (omega (arith, end)) end)) ∙ w.invariant.2)
