-- `lex`: by what the pass that counts says. Assumes nothing.
use mathlib.Core.Logic.{inl, inr}
use Rattle.std.proofs.lemmas.Result.{err_from_is_err_and}
use Rattle.lexer.specs.Call.{too_long}
use Rattle.lexer.proofs.CallLaws.{call_refused, call_short, call_read}
use Rattle.lexer.proofs.call.lex.Goals as goal

pub returns-then-text-gt-MOST_BYTES : goal.returns-then-text-gt-MOST_BYTES
returns-then-text-gt-MOST_BYTES c = too_long c.if-text-gt-MOST_BYTES.true

pub returns-in_err-n : goal.returns-in_err-n
returns-in_err-n c =
    let p = err_from_is_err_and c.from_residual.result c.from_residual.ensures.1 in
    rw (p.1, p.2) (call_refused c.args.text.now c.args.tokens.now c.if-text-gt-MOST_BYTES.false c.in_err-n.field-0.0 c.in_err-n.ensures)

pub returns-then-n-gt-MOST_TOKENS : goal.returns-then-n-gt-MOST_TOKENS
returns-then-n-gt-MOST_TOKENS c = call_short c.args.text.now c.args.tokens.now c.if-text-gt-MOST_BYTES.false c.in_ok-n.n c.in_ok-n.ensures (inr c.if-n-gt-MOST_TOKENS.true)

pub returns-then-tokens-n : goal.returns-then-tokens-n
returns-then-tokens-n c = call_short c.args.text.now c.args.tokens.now c.if-text-gt-MOST_BYTES.false c.in_ok-n.n c.in_ok-n.ensures (inl c.if-tokens-n.true)

pub returns : goal.returns
returns c =
    call_read c.args.text.now c.args.tokens.now c.if-text-gt-MOST_BYTES.false c.in_ok-n.n c.in_ok-n.ensures c.if-n-gt-MOST_TOKENS.false c.if-tokens-n.false c.write.ensures c.clear_behind.ensures
