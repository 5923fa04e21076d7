-- `write`: what is still to be written, put into the list as it is now, is all, put into the list as it was. Assumes nothing.
use mathlib.Core.Path.{◌≡◌, sym, ap, ◌∙◌}
use mathlib.Core.List.{[], ◌∷◌}
use native.Mathlib.Omega.{arith}
use lib.ListN.{length, drop}
use Rattle.std.specs.Prelude.{Ok, Err}
use Rattle.std.proofs.lemmas.List.{take_rest}
use Rattle.tokens.specs.Number.{token_width}
use Rattle.tokens.proofs.LentLaws.{put_length}
use Rattle.lexemes.specs.Reader.{step_at}
use Rattle.lexer.proofs.CallLaws.{put_token, put_stop, put_end}
use Rattle.lexer.proofs.call.write.Goals as goal

pub returns-in_default : goal.returns-in_default
returns-in_default c =
    let text = c.args.text.now in
    let w = c.loop-s in
    let r = c.in_default.field-0 in
    let is : Err r ≡ step_at w.c w.s (drop w.s text) = rw (take_rest text w.s) at c.in_default.ensures in
    sym (put_stop w.c text w.s w.list w.n c.loop-s-test.true r is) ∙ w.invariant.3

pub loop-s-smaller : goal.loop-s-smaller
loop-s-smaller c =
    let text = c.args.text.now in
    let w = c.loop-s in
    let t = c.in-Ok.token in
    let is : Ok t ≡ step_at w.c w.s (drop w.s text) = rw (take_rest text w.s) at c.in-Ok.ensures in
    let p = put_token w.c text w.s w.list w.n c.loop-s-test.true t is in
    omega (arith, p.0, p.1)

pub loop-s-preserved : goal.loop-s-preserved
loop-s-preserved c =
    let text = c.args.text.now in
    let w = c.loop-s in
    let t = c.in-Ok.token in
    let is : Ok t ≡ step_at w.c w.s (drop w.s text) = rw (take_rest text w.s) at c.in-Ok.ensures in
    let p = put_token w.c text w.s w.list w.n c.loop-s-test.true t is in (
      p.1,
      omega (arith, p.0),
      ap length c.put_record.ensures ∙ put_length token_width w.list w.n (t.kind ∷ t.start ∷ t.end ∷ t.extra ∷ []) ∙ w.invariant.2,
      rw (c.context_after-c.ensures, c.put_record.ensures) (sym p.2 ∙ w.invariant.3),
    )

pub returns : goal.returns
returns c = let w = c.loop-s in c.put_record-2.ensures ∙ sym (put_end w.c c.args.text.now w.s w.list w.n c.loop-s-test.false) ∙ w.invariant.3
