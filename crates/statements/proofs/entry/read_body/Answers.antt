-- `kept_part` stands in three answers, each with a `c` of its own place: as in parse_body, a law over one place would be reached from the others by inner names only.
use mathlib.Core.Path.{refl}
use Rattle.lists.proofs.At.{handed_on}
use Rattle.statements.proofs.EntryLaws.{mode_known, edition_known, call_unknown, call_unmeasured, call_refused, call_read}
use Rattle.tokens.proofs.PlaceLaws.{kept_part}
use Rattle.statements.proofs.entry.read_body.Goals as goal

pub returns-in_err-mode : goal.returns-in_err-mode
returns-in_err-mode c = rw (handed_on c.from_residual.result c.from_residual.ensures.1) (call_unknown c.in_err-mode.ensures)

pub returns-in_err-edition : goal.returns-in_err-edition
returns-in_err-edition c = rw (handed_on c.from_residual-in_err-edition.result c.from_residual-in_err-edition.ensures.1) (call_unmeasured (mode_known c.in_ok-mode.mode c.in_ok-mode.ensures) c.in_err-edition.ensures)

pub returns-in_err-count : goal.returns-in_err-count
returns-in_err-count c =
    rw (handed_on c.from_residual-in_err-count.result c.from_residual-in_err-count.ensures.1)
    (call_refused _ (mode_known c.in_ok-mode.mode c.in_ok-mode.ensures) (edition_known c.in_ok-edition.edition c.in_ok-edition.ensures) c.in_err-count.ensures)

pub slice_bounds-source-end : goal.slice_bounds-source-end
slice_bounds-source-end c =
    let a = c.args in
    (kept_part a.text.now a.tokens.now a.start a.kept.now c.in_ok-count.ensures refl).1

pub invariant_of-source : goal.invariant_of-source
invariant_of-source c =
    let a = c.args in
    let k = kept_part a.text.now a.tokens.now a.start a.kept.now c.in_ok-count.ensures refl in
    record { numbered = rw k.0 k.2.list.numbered }

pub reading-requires : goal.reading-requires
reading-requires c =
    let a = c.args in
    let k = kept_part a.text.now a.tokens.now a.start a.kept.now c.in_ok-count.ensures refl in
    rw k.0 k.2

pub returns : goal.returns
returns c = call_read (mode_known c.in_ok-mode.mode c.in_ok-mode.ensures) (edition_known c.in_ok-edition.edition c.in_ok-edition.ensures) c.in_ok-count.ensures (rw (c.is_strict.ensures, c.in_ok-mode.ensures, c.is_second.ensures, c.in_ok-edition.ensures) at c.reading.ensures)
