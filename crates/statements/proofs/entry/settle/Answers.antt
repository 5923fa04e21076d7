use mathlib.Core.Path.{refl}
use borrow.Author.Tests.{lt-ltb, le-ltb}
use Rattle.tokens.proofs.LentLaws.{cleared_none}
use Rattle.statements.proofs.entry.settle.Goals as goal

pub returns-then-statements-m : goal.returns-then-statements-m
returns-then-statements-m c = rw c.in-Ok.is (record { answer = rw (lt-ltb _ _ c.if-statements-m.true); statements_hold = rw cleared_none c.clear_both-then-statements-m.ensures.0; arguments_hold = rw cleared_none c.clear_both-then-statements-m.ensures.1 })

pub returns-then-arguments-n : goal.returns-then-arguments-n
returns-then-arguments-n c = rw c.in-Ok.is (record { answer = rw (le-ltb _ _ c.if-statements-m.false, lt-ltb _ _ c.if-arguments-n.true); statements_hold = rw cleared_none c.clear_both-then-arguments-n.ensures.0; arguments_hold = rw cleared_none c.clear_both-then-arguments-n.ensures.1 })

pub returns-in-Err : goal.returns-in-Err
returns-in-Err c = rw c.in-Err.is (record { answer = (c.type_told-told.result, refl, rw (← c.number.ensures, ← c.at-at.ensures) c.type_told-told.ensures); statements_hold = rw cleared_none c.clear_both.ensures.0; arguments_hold = rw cleared_none c.clear_both.ensures.1 })
