-- `digit_first`: by the digits behind 0x, if they come first. Assumes nothing.
use Prim.Native.Nat.{ℕ, zero, suc, ◌+◌}
use mathlib.Core.Path.{◌≡◌, refl, sym, ◌∙◌}
use mathlib.Core.Bool.{true}
use mathlib.Core.List.{List}
use native.Mathlib.Omega.{arith}
use borrow.Author.Rules.{rules}
use lib.ListN.{drop}
use Rattle.tokens.specs.Byte.{bytes, is_hex}
use Rattle.tokens.specs.Kind.{Literal}
use Rattle.lexemes.specs.Bytes.{is_digit, begins}
use Rattle.lexemes.specs.Reader.{run, found, digits, number}
use Rattle.lexer.proofs.Laws.{strip_told}
use Rattle.lexer.proofs.lexeme.digit_first.Goals as goal

-- so many hex digits, and there are some
literal : (n : ℕ) → (n ≡ 0 → ⊥) → found Literal (n + 2) ≡ digits n
unfolding digits
literal zero some = absurd (some refl)
literal (suc n) some = refl

-- what stands behind 0x
behind : (bs rest : List ℕ) (n : ℕ) → begins (bytes "0x") bs ≡ true → rest ≡ drop 2 bs → n ≡ run is_hex rest → number bs ≡ digits n
unfolding number
behind bs rest n e r i = rw (e, i, r)

pub returns-in_default : goal.returns-in_default
unfolding number bytes
returns-in_default c = c.found.ensures ∙ rw (strip_told c.args.bytes.now (bytes "0x") c.in_default.ensures.cases, c.run_of.ensures.value is_digit (λ b r l e. e))

pub returns-in-0 : goal.returns-in-0
unfolding digits bytes
returns-in-0 c =
    let (told, rest, _) = c.in-Some.ensures.cases in
    sym (behind c.args.bytes.now c.in-Some.digits.now c.run_of-2.result (strip_told c.args.bytes.now (bytes "0x") told) rest (c.run_of-2.ensures.value is_hex (λ b r l e. search rules)) ∙ rw c.in-0.is)

pub returns-in_default-run_of : goal.returns-in_default-run_of
unfolding bytes
returns-in_default-run_of c =
    let (told, rest, _) = c.in-Some.ensures.cases in
    c.found-in_default-run_of.ensures
    ∙ literal c.run_of-2.result (omega arith)
    ∙ sym (behind c.args.bytes.now c.in-Some.digits.now c.run_of-2.result (strip_told c.args.bytes.now (bytes "0x") told) rest (c.run_of-2.ensures.value is_hex (λ b r l e. search rules)))
