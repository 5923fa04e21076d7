use Prim.Native.Nat.{◌≤◌, ◌-◌}
use mathlib.Core.Path.{◌≡◌}
use lib.ListN.{length, drop}
use Rattle.tokens.specs.Number.{token_width}
use Rattle.tokens.specs.Lent.{put_all}
use Rattle.lexemes.specs.Reader.{walk, reading}
use Rattle.lexer.proofs.call.write.Given as goal

abbrev pub invariant-loop-s : goal.invariant-loop-s
invariant-loop-s l = (l.s ≤ length l.text) × (l.n ≤ l.s) × (length l.list ≡ length l.initial.list) × (put_all token_width l.list l.n (walk l.c l.s 0 (drop l.s l.text)).tokens ≡ put_all token_width l.initial.list 0 (reading l.text).tokens)

abbrev pub decreases-loop-s : goal.decreases-loop-s
decreases-loop-s l = length l.text - l.s
