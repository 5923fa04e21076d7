-- `count`: the tokens passed and the walk from here are the text's. Assumes nothing.
use mathlib.Core.Path.{◌≡◌}
use native.Mathlib.Omega.{arith}
use borrow.Author.Rules.{rules}
use Rattle.std.specs.Prelude.{Ok, Err}
use Rattle.std.proofs.lemmas.List.{take_rest}
use Rattle.std.proofs.lemmas.Result.{err_from_is_err_and}
use Rattle.lexemes.specs.declared.LexemeError.{LexemeError}
use Rattle.lexer.specs.declared.call.LexError.TheVariants.{Refused}
use Rattle.lexer.proofs.SkipLaws.{skip_to, skip_halt}
use Rattle.lexer.proofs.CallLaws.{left_more, left_end, left_stop}
use Rattle.lexer.proofs.call.count.Goals as goal

pub returns-in_err-skip : goal.returns-in_err-skip
returns-in_err-skip c =
    let text = c.args.text.now in
    let w = c.loop-s in
    let p = err_from_is_err_and c.from_residual.result c.from_residual.ensures.1 in
    let was : (e : LexemeError) × (c.next_skip.result ≡ Err e) × (c.in_err-skip.field-0.0 ≡ Refused e w.s) = search rules in
    let is = rw (take_rest text w.s, was.1) at c.next_skip.ensures in
    rw (p.1, p.2, was.2) (left_stop text w.c w.s w.n w.invariant.2 was.0 (skip_halt w.c text w.s c.loop-s-test.true was.0 is))

pub loop-s-smaller : goal.loop-s-smaller
loop-s-smaller c =
    let text = c.args.text.now in
    let w = c.loop-s in
    let was : c.next_skip.result ≡ Ok c.in_ok-skip.skip = search rules in
    let is = rw (take_rest text w.s, was) at c.next_skip.ensures in
    let p = skip_to w.c text w.s c.loop-s-test.true c.in_ok-skip.skip is in
    omega (arith, p.0, p.1)

pub loop-s-preserved : goal.loop-s-preserved
loop-s-preserved c =
    let text = c.args.text.now in
    let w = c.loop-s in
    let was : c.next_skip.result ≡ Ok c.in_ok-skip.skip = search rules in
    let is = rw (take_rest text w.s, was) at c.next_skip.ensures in
    let p = skip_to w.c text w.s c.loop-s-test.true c.in_ok-skip.skip is in
    (p.1, omega (arith, p.0), left_more text w.c w.s w.n w.invariant.2 c.in_ok-skip.skip.context c.in_ok-skip.skip.next p)

pub returns : goal.returns
returns c = let w = c.loop-s in left_end c.args.text.now w.c w.s w.n w.invariant.2 c.loop-s-test.false
