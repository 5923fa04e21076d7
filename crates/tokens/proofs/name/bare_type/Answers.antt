-- `tokens::name::bare_type` meets its contract: the six names are tested in the list's order. Assumes nothing.
use mathlib.Core.Path.{sym, ◌∙◌}
use Rattle.tokens.specs.Byte.{bytes}
use Rattle.tokens.specs.Name.{bare_types, look_up}
use Rattle.tokens.proofs.name.bare_type.Goals as goal

pub returns-then-same_name : goal.returns-then-same_name
unfolding bare_types look_up bytes
returns-then-same_name c = rw (sym c.same_name.ensures ∙ c.if-same_name.true)

pub returns-then-same_name-2 : goal.returns-then-same_name-2
unfolding bare_types look_up bytes
returns-then-same_name-2 c =
    rw (
      sym c.same_name.ensures ∙ c.if-same_name.false,
      sym c.same_name-2.ensures ∙ c.if-same_name-2.true,
    )

pub returns-then-same_name-3 : goal.returns-then-same_name-3
unfolding bare_types look_up bytes
returns-then-same_name-3 c =
    rw (
      sym c.same_name.ensures ∙ c.if-same_name.false,
      sym c.same_name-2.ensures ∙ c.if-same_name-2.false,
      sym c.same_name-3.ensures ∙ c.if-same_name-3.true,
    )

pub returns-then-same_name-4 : goal.returns-then-same_name-4
unfolding bare_types look_up bytes
returns-then-same_name-4 c =
    rw (
      sym c.same_name.ensures ∙ c.if-same_name.false,
      sym c.same_name-2.ensures ∙ c.if-same_name-2.false,
      sym c.same_name-3.ensures ∙ c.if-same_name-3.false,
      sym c.same_name-4.ensures ∙ c.if-same_name-4.true,
    )

pub returns-then-same_name-5 : goal.returns-then-same_name-5
unfolding bare_types look_up bytes
returns-then-same_name-5 c =
    rw (
      sym c.same_name.ensures ∙ c.if-same_name.false,
      sym c.same_name-2.ensures ∙ c.if-same_name-2.false,
      sym c.same_name-3.ensures ∙ c.if-same_name-3.false,
      sym c.same_name-4.ensures ∙ c.if-same_name-4.false,
      sym c.same_name-5.ensures ∙ c.if-same_name-5.true,
    )

pub returns-then-same_name-6 : goal.returns-then-same_name-6
unfolding bare_types look_up bytes
returns-then-same_name-6 c =
    rw (
      sym c.same_name.ensures ∙ c.if-same_name.false,
      sym c.same_name-2.ensures ∙ c.if-same_name-2.false,
      sym c.same_name-3.ensures ∙ c.if-same_name-3.false,
      sym c.same_name-4.ensures ∙ c.if-same_name-4.false,
      sym c.same_name-5.ensures ∙ c.if-same_name-5.false,
      sym c.same_name-6.ensures ∙ c.if-same_name-6.true,
    )

pub returns : goal.returns
unfolding bare_types look_up bytes
returns c =
    rw (
      sym c.same_name.ensures ∙ c.if-same_name.false,
      sym c.same_name-2.ensures ∙ c.if-same_name-2.false,
      sym c.same_name-3.ensures ∙ c.if-same_name-3.false,
      sym c.same_name-4.ensures ∙ c.if-same_name-4.false,
      sym c.same_name-5.ensures ∙ c.if-same_name-5.false,
      sym c.same_name-6.ensures ∙ c.if-same_name-6.false,
    )
