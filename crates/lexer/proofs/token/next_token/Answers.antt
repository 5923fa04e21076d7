-- `next_token`. Assumes nothing.
use mathlib.Core.Path.{◌∙◌}
use native.Mathlib.Omega.{arith}
use Rattle.std.proofs.lemmas.Result.{err_from_is_err_and}
use Rattle.lexer.proofs.TokenLaws.{stop_found, found_in, step_found}
use Rattle.lexer.proofs.token.next_token.Goals as goal

pub returns-in_err-found : goal.returns-in_err-found
returns-in_err-found c =
    let at = c.args in
    let p = err_from_is_err_and c.from_residual.result c.from_residual.ensures.1 in
    rw (p.1, p.2) (stop_found at.c at.s at.bytes.now c.in_err-found.field-0.0 c.in_err-found.ensures)

pub split_at-requires : goal.split_at-requires
split_at-requires c = (found_in c.args.c c.args.s c.args.bytes.now c.in_ok-found.found c.in_ok-found.ensures c.requires.0).1

pub kind_token-requires : goal.kind_token-requires
kind_token-requires c =
    let h = found_in c.args.c c.args.s c.args.bytes.now c.in_ok-found.found c.in_ok-found.ensures c.requires.0 in
    (omega (arith, h.0), omega (arith, h.1))

pub returns : goal.returns
returns c =
    let at = c.args in
    let split = c.split_at in
    c.kind_token.ensures ∙ step_found at.c at.s at.bytes.now c.in_ok-found.found c.in_ok-found.ensures split.result.0.now split.result.1.now split.ensures.front split.ensures.front_len split.ensures.back
