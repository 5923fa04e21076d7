-- `rest_of`: one number for each of the four lengths. Assumes nothing.
use native.Mathlib.Omega.{arith}
use Rattle.names.proofs.NamesLaws.{rest_none, rest_one, rest_two, rest_three}
use Rattle.names.proofs.names.rest_of.Goals as goal

pub returns-in-empty-clause-value : goal.returns-in-empty-clause-value
returns-in-empty-clause-value c = rest_none c.args.bytes.now (omega arith)

pub returns-in-len1-clause-value : goal.returns-in-len1-clause-value
returns-in-len1-clause-value c = rw c.from.ensures (rest_one c.args.bytes.now (omega arith) (omega arith))

pub returns-in-len2-clause-value : goal.returns-in-len2-clause-value
returns-in-len2-clause-value c = rw (c.from-in-len2.ensures, c.from-in-len2-2.ensures) (rest_two c.args.bytes.now (omega arith) (omega arith))

pub returns-in-len3-up-clause-value : goal.returns-in-len3-up-clause-value
returns-in-len3-up-clause-value c =
    rw (c.from-in-len3-up.ensures, c.from-in-len3-up-2.ensures, c.from-in-len3-up-3.ensures) (rest_three c.args.bytes.now (omega arith))
