-- `closes`. Assumes nothing.
use Prim.Native.Char.{code}
use borrow.Author.Tests.{eq-eqb, ne_eqb}
use lib.ListN.{get_or}
use Rattle.lexer.proofs.ClassLaws.{closes_is}
use Rattle.lexer.proofs.class.closes.Goals as goal

pub returns-then-bytes-i-eq42 : goal.returns-then-bytes-i-eq42
returns-then-bytes-i-eq42 c = let b = get_or c.args.bytes.now c.args.i 0 in rw (closes_is c.args.bytes.now c.args.i, eq-eqb b (code "*") c.if-bytes-i-eq42.true)

pub returns-else-bytes-i-eq42 : goal.returns-else-bytes-i-eq42
returns-else-bytes-i-eq42 c = let b = get_or c.args.bytes.now c.args.i 0 in rw (closes_is c.args.bytes.now c.args.i, ne_eqb b (code "*") c.if-bytes-i-eq42.false)
