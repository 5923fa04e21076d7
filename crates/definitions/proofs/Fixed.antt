-- That any two results meeting a promise are equal. Assumes nothing.
use Prim.Native.Nat.{ℕ}
use Rattle.std.specs.Prelude.{Result}
use mathlib.Core.Path.{◌≡◌, sym, ◌∙◌}
use mathlib.Core.List.{List}
use Rattle.tokens.specs.Token.{Token, Positions}
use Rattle.grammar.specs.Result.{Res, got}
use Rattle.grammar.specs.FileReading.{Definition}
use Rattle.lists.specs.declared.before.Before.{Before}
use Rattle.definitions.specs.declared.record.DefRead.{DefRead}
use Rattle.definitions.specs.Answers.{DefAdded}

-- the promise of a definition's reader: the answer always
module _ {all : List Token} {pos : Positions} {p : ℕ} {before : Before} {size d m n : ℕ} {de st ar : List ℕ} {r r' : Result DefRead (ℕ × ℕ)} {de₁ de₂ st₁ st₂ ar₁ ar₂ : List ℕ} where
  pub one_definition : {read : Res Definition} → DefAdded all pos p before size read d m n de st ar r de₁ st₁ ar₁ → DefAdded all pos p before size read d m n de st ar r' de₂ st₂ ar₂ → r ≡ r'
  one_definition x y = x.is ∙ sym y.is

  -- and the three tables where something is read; after a refusal only the entry says what they hold
  pub one_writing : {x : Definition} {k : ℕ}
      → DefAdded all pos p before size (got x k) d m n de st ar r de₁ st₁ ar₁
      → DefAdded all pos p before size (got x k) d m n de st ar r' de₂ st₂ ar₂
      → (de₁ ≡ de₂) × (st₁ ≡ st₂) × (ar₁ ≡ ar₂)
  one_writing x y = (x.definitions_hold ∙ sym y.definitions_hold, x.statements_hold ∙ sym y.statements_hold, x.arguments_hold ∙ sym y.arguments_hold)
