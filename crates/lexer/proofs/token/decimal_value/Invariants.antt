use Prim.Native.Nat.{◌≤◌}
use mathlib.Core.Path.{◌≡◌}
use lib.ListN.{drop}
use Rattle.tokens.specs.Number.{most_number}
use Rattle.lexemes.specs.Texts.{decimal_after, decimal}
use Rattle.lexer.proofs.token.decimal_value.Given as goal

-- the digits that are left, read after the number so far, write the whole number
abbrev pub invariant-loop-digit : goal.invariant-loop-digit
invariant-loop-digit l = (l.v ≤ most_number) × (decimal_after l.v (drop l.digit-index l.digits) ≡ decimal l.digits)
