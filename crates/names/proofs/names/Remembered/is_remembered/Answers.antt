-- `is_remembered`: whether the name is one of those up to the last of its bucket that is not walked yet is whether it is one of all. Assumes nothing.
use Prim.Native.Nat.{◌-◌}
use mathlib.Core.Path.{sym, ◌∙◌}
use native.Mathlib.Omega.{arith}
use Rattle.names.proofs.NamesLaws.{bucket_last, seek_begins, seek_ends, seek_found, seek_less, seek_on}
use Rattle.names.proofs.names.Remembered.is_remembered.Goals as goal

pub loop-j-init : goal.loop-j-init
loop-j-init c = rw c.from-j.ensures (seek_begins _ _ _ _ _ _ (bucket_last c.args.name.now c.args.self.now.noted c.requires c.bucket_of.ensures.value))

pub returns-then-is_noted : goal.returns-then-is_noted
returns-then-is_noted c = seek_found c.loop-j.invariant (c.loop-j.j - 1) (omega arith) (sym c.is_noted.ensures ∙ c.if-is_noted.true)

pub loop-j-smaller : goal.loop-j-smaller
loop-j-smaller c = rw c.from-j-in-loop-j.ensures (seek_less c.args.self.now.noted c.loop-j.invariant (c.loop-j.j - 1) (omega arith))

pub loop-j-preserved : goal.loop-j-preserved
loop-j-preserved c =
    rw c.from-j-in-loop-j.ensures (seek_on c.args.self.now.noted c.loop-j.invariant (c.loop-j.j - 1) (omega arith) (sym c.is_noted.ensures ∙ c.if-is_noted.false))

pub returns : goal.returns
returns c = seek_ends c.loop-j.invariant (omega arith)
