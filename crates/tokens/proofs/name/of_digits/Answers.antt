-- `tokens::name::of_digits` meets its contract: where one of the bytes is no digit, no number is written so. Assumes nothing.
use Prim.Native.Nat.{◌/◌, ◌%◌}
use mathlib.Core.Path.{◌≡◌}
use native.Mathlib.Omega.{arith}
use Rattle.tokens.specs.Byte.{numeral}
use Rattle.tokens.proofs.name.of_digits.Goals as goal

pub returns-in_err-digit_of : goal.returns-in_err-digit_of
returns-in_err-digit_of c = rw c.from_residual.ensures (λ m q b e. let x : numeral (m / 100) ≡ c.args.h = cc in c.in_err-digit_of.ensures (m / 100) (omega arith) x)

pub returns-in_err-digit_of-2 : goal.returns-in_err-digit_of-2
returns-in_err-digit_of-2 c = rw c.from_residual-in_err-digit_of-2.ensures (λ m q b e. let x : numeral (m / 10 % 10) ≡ c.args.t = cc in c.in_err-digit_of-2.ensures (m / 10 % 10) (omega arith) x)

pub returns-in_err-m : goal.returns-in_err-m
returns-in_err-m c = rw c.from_residual-in_err-m.ensures (λ m q b e. let x : numeral (m % 10) ≡ c.args.o = cc in c.in_err-m.ensures (m % 10) (omega arith) x)
