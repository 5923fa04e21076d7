use Prim.Native.Nat.{◌+◌}
use mathlib.Core.Path.{◌≡◌}
use lib.ListN.{drop}
use Rattle.lexemes.specs.Reader.{opened}
use Rattle.lexer.proofs.class.comment_end.Given as goal

-- what was passed and what is still open are what was open at the start
abbrev pub invariant-loop-i : goal.invariant-loop-i
invariant-loop-i l = l.i + opened (drop l.i l.bytes) ≡ opened l.bytes
