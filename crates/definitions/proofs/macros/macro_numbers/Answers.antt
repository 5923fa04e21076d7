use mathlib.Core.List.{[]}
use Rattle.tokens.specs.Token.{view}
use Rattle.lists.proofs.At.{handed_on}
use Rattle.definitions.proofs.MacroLaws.{takes_refused, returns_refused, both_read}
use Rattle.definitions.proofs.macros.macro_numbers.Goals as goal

pub returns-in_err-takes : goal.returns-in_err-takes
returns-in_err-takes c text =
    rw (handed_on c.from_residual.result c.from_residual.ensures.1) (takes_refused (view text c.args.source.now.tokens.now c.args.source.now.kept.now) (c.in_err-takes.ensures text))

pub takes_or_returns-requires-2-clause-place : goal.takes_or_returns-requires-2-clause-place
takes_or_returns-requires-2-clause-place c = record { list = c.requires.list; inside = (c.in_ok-takes.ensures []).within.1 }

pub returns-in_err-returns : goal.returns-in_err-returns
returns-in_err-returns c text =
    rw (handed_on c.from_residual-in_err-returns.result c.from_residual-in_err-returns.ensures.1) (returns_refused (view text c.args.source.now.tokens.now c.args.source.now.kept.now) (c.in_ok-takes.ensures text) (c.in_err-returns.ensures text))

pub returns : goal.returns
returns c text = both_read (view text c.args.source.now.tokens.now c.args.source.now.kept.now) (c.in_ok-takes.ensures text) (c.in_ok-returns.ensures text)
