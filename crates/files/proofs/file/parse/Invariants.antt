use Prim.Native.Nat.{◌-◌}
use lib.ListN.{length}
use Rattle.names.specs.Remembered.{seen}
use Rattle.files.proofs.FileLaws.{Loop}
use Rattle.grammar.specs.Rules.{asks}
use Rattle.files.proofs.file.parse.Given as goal

abbrev pub invariant-loop-read : goal.invariant-loop-read
invariant-loop-read l =
    Loop (asks l.strict) l.source.text.now l.source.tokens.now l.source.kept.now l.initial.definitions l.initial.statements l.initial.arguments l.definitions l.statements l.arguments (seen l.initial.names).room (seen l.names) l.read.cursor l.read.definitions l.read.statements l.read.arguments

abbrev pub decreases-loop-read : goal.decreases-loop-read
decreases-loop-read l = length l.source.kept.now - l.read.cursor
