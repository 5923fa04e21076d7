-- Inner: the modes and the editions as the code names them.
use Rattle.std.specs.Prelude.{ℕ, ◌≡◌, false, Result, MatchResult}
use Rattle.tokens.specs.Number.{lenient_mode, strict_mode, first_edition, second_edition}
use Rattle.grammar.specs.Rules.{is_mode}
use Rattle.grammar.specs.PlainLength.{is_edition}
use Rattle.statements.specs.declared.choice.Mode.{Mode}
use Rattle.statements.specs.declared.choice.Mode.TheVariants.{Lenient, Strict}
use Rattle.statements.specs.declared.choice.UnknownMode.{UnknownMode}
use Rattle.statements.specs.declared.choice.Edition.{Edition}
use Rattle.statements.specs.declared.choice.Edition.TheVariants.{First, Second}
use Rattle.statements.specs.declared.choice.UnknownEdition.{UnknownEdition}

-- the number of a mode, and of an edition
abbrev pub mode_number : Mode → ℕ
mode_number Lenient = lenient_mode
mode_number Strict = strict_mode

abbrev pub edition_number : Edition → ℕ
edition_number First = first_edition
edition_number Second = second_edition

-- the mode with this number, or that there is none; of an edition likewise
abbrev pub ModeOf : ℕ → Result Mode UnknownMode → Type 0
ModeOf mode r = MatchResult r (λ m. mode_number m ≡ mode) (λ e. is_mode mode ≡ false)

abbrev pub EditionOf : ℕ → Result Edition UnknownEdition → Type 0
EditionOf edition r = MatchResult r (λ e. edition_number e ≡ edition) (λ e. is_edition edition ≡ false)
