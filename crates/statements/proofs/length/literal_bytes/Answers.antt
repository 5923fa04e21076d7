use mathlib.Core.Path.{◌≡◌, sym, ◌∙◌}
use mathlib.Core.Bool.{false, ◌&&◌, and-false}
use native.Mathlib.Numerals.{add-one}
use native.Mathlib.Omega.{arith}
use Rattle.tokens.specs.Literal.{literal_value, is_zero}
use Rattle.tokens.proofs.TokenLaws.{view_text}
use Rattle.tokens.proofs.LiteralLaws.{significant_between}
use Rattle.statements.proofs.length.literal_bytes.Goals as goal
use Rattle.statements.proofs.length.literal_bytes.Goals.{else-short-via-then-short+else-is_zero, else-short-via-else-short}

pub returns-then-is_zero : goal.returns-then-is_zero
returns-then-is_zero c =
    let source = c.args.source.now in
    let text = view_text source.text.now source.tokens.now source.kept.now c.args.p ∙ sym c.text_at-literal.ensures in
    rw (text, sym c.is_zero.ensures ∙ c.if-is_zero.true, c.if-short.true)

pub overflow_add-result : goal.overflow_add-result
overflow_add-result c = omega (arith, significant_between (literal_value c.text_at-literal.result.now), c.significant_bytes.ensures)

pub returns : goal.returns
returns c =
    let source = c.args.source.now in
    let text = view_text source.text.now source.tokens.now source.kept.now c.args.p ∙ sym c.text_at-literal.ensures in
    let zero = is_zero c.text_at-literal.result.now in
    let other : (zero && c.args.short) ≡ false = elim c.else-short.branch [
      | else-short-via-then-short+else-is_zero x ↦ rw (sym x.is_zero.ensures ∙ x.if-is_zero.false)
      | else-short-via-else-short x ↦ rw x.if-short.false (and-false zero)
    ] in
    rw (text, other, c.significant_bytes.ensures, add-one)
