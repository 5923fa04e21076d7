-- The numbers of what is wrong, as the code names it; and what is wrong by its number.
use Rattle.std.specs.Prelude.{ℕ, ◌≡◌, refl, cond, eqb}
use Rattle.tokens.specs.Number as number
use Rattle.tokens.specs.declared.refusal.Wrong.{Wrong}
use Rattle.tokens.specs.declared.refusal.Wrong.TheVariants.{UnexpectedType, InvalidDefinition, InvalidConstantValue, InvalidPush, InvalidTokenInMacroBody, InvalidTokenInLabelDefinition, InvalidTypeAsArgumentName, InvalidArgs, InvalidSingleArg, InvalidMacroArgs, InvalidTableBodyToken, InvalidConstant, InvalidArgCallIdent, DuplicateMacro, PoundAtTopLevel, DuplicateLabel}

abbrev pub wrong_number : Wrong → ℕ
wrong_number UnexpectedType = number.UnexpectedType
wrong_number InvalidDefinition = number.InvalidDefinition
wrong_number InvalidConstantValue = number.InvalidConstantValue
wrong_number InvalidPush = number.InvalidPush
wrong_number InvalidTokenInMacroBody = number.InvalidTokenInMacroBody
wrong_number InvalidTokenInLabelDefinition = number.InvalidTokenInLabelDefinition
wrong_number InvalidTypeAsArgumentName = number.InvalidTypeAsArgumentName
wrong_number InvalidArgs = number.InvalidArgs
wrong_number InvalidSingleArg = number.InvalidSingleArg
wrong_number InvalidMacroArgs = number.InvalidMacroArgs
wrong_number InvalidTableBodyToken = number.InvalidTableBodyToken
wrong_number InvalidConstant = number.InvalidConstant
wrong_number InvalidArgCallIdent = number.InvalidArgCallIdent
wrong_number DuplicateMacro = number.DuplicateMacro
wrong_number PoundAtTopLevel = number.PoundAtTopLevel
wrong_number DuplicateLabel = number.DuplicateLabel

-- what is wrong by its number; any other number says the last
abbrev pub wrong_of : ℕ → Wrong
wrong_of c =
    cond (eqb c number.UnexpectedType) UnexpectedType (
    cond (eqb c number.InvalidDefinition) InvalidDefinition (
    cond (eqb c number.InvalidConstantValue) InvalidConstantValue (
    cond (eqb c number.InvalidPush) InvalidPush (
    cond (eqb c number.InvalidTokenInMacroBody) InvalidTokenInMacroBody (
    cond (eqb c number.InvalidTokenInLabelDefinition) InvalidTokenInLabelDefinition (
    cond (eqb c number.InvalidTypeAsArgumentName) InvalidTypeAsArgumentName (
    cond (eqb c number.InvalidArgs) InvalidArgs (
    cond (eqb c number.InvalidSingleArg) InvalidSingleArg (
    cond (eqb c number.InvalidMacroArgs) InvalidMacroArgs (
    cond (eqb c number.InvalidTableBodyToken) InvalidTableBodyToken (
    cond (eqb c number.InvalidConstant) InvalidConstant (
    cond (eqb c number.InvalidArgCallIdent) InvalidArgCallIdent (
    cond (eqb c number.DuplicateMacro) DuplicateMacro (
    cond (eqb c number.PoundAtTopLevel) PoundAtTopLevel DuplicateLabel))))))))))))))

-- and so it is known by its number
pub wrong_again : (w : Wrong) → wrong_of (wrong_number w) ≡ w
wrong_again UnexpectedType = refl
wrong_again InvalidDefinition = refl
wrong_again InvalidConstantValue = refl
wrong_again InvalidPush = refl
wrong_again InvalidTokenInMacroBody = refl
wrong_again InvalidTokenInLabelDefinition = refl
wrong_again InvalidTypeAsArgumentName = refl
wrong_again InvalidArgs = refl
wrong_again InvalidSingleArg = refl
wrong_again InvalidMacroArgs = refl
wrong_again InvalidTableBodyToken = refl
wrong_again InvalidConstant = refl
wrong_again InvalidArgCallIdent = refl
wrong_again DuplicateMacro = refl
wrong_again PoundAtTopLevel = refl
wrong_again DuplicateLabel = refl
