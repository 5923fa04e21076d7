use Prim.Native.Nat.{◌*◌, ◌≤◌}
use mathlib.Core.Path.{◌≡◌}
use lib.ListN.{drop}
use Rattle.tokens.specs.Source.{all}
use Rattle.statements.specs.Length.{length_on, length_from}
use Rattle.statements.proofs.length.plain_length.Given as goal

abbrev pub invariant-loop-p : goal.invariant-loop-p
invariant-loop-p l = record {
  rest : length_on l.short l.byte l.bytes (drop l.p (all l.source)) ≡ length_from l.short (all l.source) l.start;
  few : l.bytes ≤ 33 * l.p;
}
