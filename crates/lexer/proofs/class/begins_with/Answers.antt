-- `begins_with`. Assumes nothing.
use native.Mathlib.Omega.{arith}
use borrow.Author.Tests.{lt-leb}
use lib.ListN.{length}
use Rattle.lexemes.specs.Bytes.{begins}
use Rattle.lexer.proofs.Laws.{begins_short}
use Rattle.lexer.proofs.class.begins_with.Goals as goal

pub returns-then-what-bytes : goal.returns-then-what-bytes
unfolding begins
returns-then-what-bytes c = c.same_name.ensures

pub returns-else-what-bytes : goal.returns-else-what-bytes
returns-else-what-bytes c = let what = c.args.what.now in rw (lt-leb (length what) (length c.args.bytes.now) (omega arith)) (begins_short what c.args.bytes.now (omega arith))
