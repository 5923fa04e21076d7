-- `read_file`: each way out has its law. Assumes nothing.
-- `kept_part` is asked in three goals, each with facts of its own: it is the one law for them, and another would be given the same.
use mathlib.Core.Path.{refl}
use Rattle.lists.proofs.At.{handed_on}
use Rattle.tokens.proofs.PlaceLaws.{kept_part}
use Rattle.statements.proofs.EntryLaws.{mode_known}
use Rattle.files.proofs.EntryLaws.{call_unknown, call_refused, call_read}
use Rattle.files.proofs.entry.read_file.Goals as goal

pub returns-in_err-mode : goal.returns-in_err-mode
returns-in_err-mode c = rw (handed_on c.from_residual.result c.from_residual.ensures.1) (call_unknown c.in_err-mode.ensures)

pub returns-in_err-count : goal.returns-in_err-count
returns-in_err-count c =
    rw (handed_on c.from_residual-in_err-count.result c.from_residual-in_err-count.ensures.1)
    (call_refused _ (mode_known c.in_ok-mode.mode c.in_ok-mode.ensures) c.in_err-count.ensures)

pub slice_bounds-source-end : goal.slice_bounds-source-end
slice_bounds-source-end c =
    let a = c.args in
    (kept_part a.text.now a.tokens.now 0 a.kept.now c.in_ok-count.ensures refl).1

pub invariant_of-source : goal.invariant_of-source
invariant_of-source c =
    let a = c.args in
    let k = kept_part a.text.now a.tokens.now 0 a.kept.now c.in_ok-count.ensures refl in
    record { numbered = rw k.0 k.2.list.numbered }

pub read_kept-requires : goal.read_kept-requires
read_kept-requires c =
    let a = c.args in
    let k = kept_part a.text.now a.tokens.now 0 a.kept.now c.in_ok-count.ensures refl in
    rw k.0 k.2.list

pub returns : goal.returns
returns c = call_read (mode_known c.in_ok-mode.mode c.in_ok-mode.ensures) c.in_ok-count.ensures (rw (c.is_strict.ensures, c.in_ok-mode.ensures) at c.read_kept.ensures)
