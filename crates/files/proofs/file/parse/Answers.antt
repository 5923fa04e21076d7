-- `parse`: what is still to be read from here on comes to what was to be read at the start; one law for each way through a turn. Assumes nothing.
use mathlib.Core.Path.{sym, ◌∙◌}
use Rattle.grammar.specs.Rules.{asks}
use Rattle.lists.proofs.At.{handed_on}
use Rattle.files.proofs.FileLaws.{loop_begins, loop_ends, loop_runs_out, loop_refuses, loop_other, loop_macro, loop_repeats}
use Rattle.files.proofs.file.parse.Goals as goal
use Rattle.files.proofs.file.parse.Goals.{else-is_named-via-then-is_named+else-check_duplicate, else-is_named-via-else-is_named}

pub loop-read-init : goal.loop-read-init
loop-read-init c =
    loop_begins (asks c.args.strict) c.args.source.now.text.now c.args.source.now.tokens.now c.args.source.now.kept.now c.args.definitions.now c.args.statements.now c.args.arguments.now c.requires

pub returns-then-read-source : goal.returns-then-read-source
returns-then-read-source c = loop_ends c.loop-read.invariant c.kind_at.ensures c.if-kind_at-eq-EOF.true c.if-read-source.true

pub returns-then-kind_at-eq-EOF : goal.returns-then-kind_at-eq-EOF
returns-then-kind_at-eq-EOF c = rw c.new.ensures (loop_runs_out c.loop-read.invariant c.if-read-source.false)

pub returns-in_err-next : goal.returns-in_err-next
returns-in_err-next c =
    rw (handed_on c.from_residual.result c.from_residual.ensures.1)
    (loop_refuses c.loop-read.invariant c.kind_at.ensures c.if-kind_at-eq-EOF.false c.next_definition.ensures c.in_err-next.field-0.0 c.in_err-next.was)

pub returns-then-check_duplicate : goal.returns-then-check_duplicate
returns-then-check_duplicate c =
    rw c.new-then-check_duplicate.ensures
    (loop_repeats c.loop-read.invariant c.kind_at.ensures c.if-kind_at-eq-EOF.false c.next_definition.ensures c.in_ok-next.next c.in_ok-next.was
    (sym c.is_named.ensures ∙ c.if-is_named.true) c.check_duplicate.ensures.checked c.if-check_duplicate.true)

pub loop-read-preserved : goal.loop-read-preserved
loop-read-preserved c = elim c.else-is_named.branch [
  | else-is_named-via-then-is_named+else-check_duplicate w ↦
      rw w.names-is
      (loop_macro c.loop-read.invariant c.kind_at.ensures c.if-kind_at-eq-EOF.false c.next_definition.ensures c.in_ok-next.next c.in_ok-next.was
      (sym c.is_named.ensures ∙ w.if-is_named.true) w.check_duplicate.ensures.checked w.if-check_duplicate.false)
  | else-is_named-via-else-is_named w ↦
      rw w.names-is
      (loop_other c.loop-read.invariant c.kind_at.ensures c.if-kind_at-eq-EOF.false c.next_definition.ensures c.in_ok-next.next c.in_ok-next.was
      (sym c.is_named.ensures ∙ w.if-is_named.false))
]
