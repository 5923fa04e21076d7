use mathlib.Core.Path.{sym, ap, ◌∙◌}
use Rattle.tokens.specs.Door.{values}
use Rattle.tokens.proofs.DoorLaws.{ready, eof_last}
use Rattle.tokens.proofs.door.prepare.Goals as goal

pub write_kept-requires : goal.write_kept-requires
write_kept-requires c =
    let at = c.args in
    let through = ready at.text.now at.tokens.now _ _ (ap values (sym c.in_ok-count.was) ∙ c.examine.ensures) in record {
      tokens_bound = through.few;
      count_value = sym through.count;
      count_in_bounds = through.room_enough;
      eof_last = eof_last at.text.now at.tokens.now through.formed;
    }
