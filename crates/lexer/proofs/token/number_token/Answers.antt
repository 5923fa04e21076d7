-- `number_token`. Assumes nothing.
use mathlib.Core.Path.{◌≡◌}
use Rattle.lexemes.specs.declared.LexemeError.TheVariants.{TooLarge}
use Rattle.std.proofs.lemmas.Result.{err_from_is_err_and}
use Rattle.lexer.proofs.TokenLaws.{step_num_large, step_num}
use Rattle.lexer.proofs.token.number_token.Goals as goal

pub returns-in_err-v : goal.returns-in_err-v
returns-in_err-v c = λ d behind.
    let at = c.args in
    let p = err_from_is_err_and c.from_residual.result c.from_residual.ensures.1 in
    let none = c.in_err-v.ensures in
    let value = rw none.ok_part at none.value in
    let large : c.in_err-v.field-0.0 ≡ TooLarge = cc in
    rw (p.1, p.2, large) (step_num_large d at.s at.lexeme.now behind (rw none.ok_part at c.decimal_value.ensures))

pub returns : goal.returns
returns c = λ d behind.
    let at = c.args in
    let h = rw c.in_ok-v.ensures.ok_part at c.decimal_value.ensures in
    step_num d at.s at.lexeme.now behind c.in_ok-v.v h.0 h.1 c.token.ensures
