use native.Mathlib.Omega.{arith}
use Rattle.tokens.proofs.source.Source.word_inside.Goals as goal

pub bounds-self-number : goal.bounds-self-number
bounds-self-number c = omega (arith, c.args.self.now.numbered.below c.args.p c.requires.p_in_bounds)
