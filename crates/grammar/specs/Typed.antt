-- Document 01, "Grammar outside bodies": the readers of the lists and numbers that stand there. Macro lists are builtin lists without Str and Literal, which
-- `name_argument` of the body's reader reads; typed lists are "PrimitiveType, Indexed (events only), location, name (always tested), Comma; all but the type optional".
use Rattle.std.specs.Prelude.{ℕ, suc, Bool, cond, ◌&&◌, List, [], ◌∷◌, eqb}
use Rattle.tokens.specs.Number.{UnexpectedType, InvalidTypeAsArgumentName, InvalidArgs, InvalidSingleArg, in_calldata, in_memory, in_storage}
use Rattle.tokens.specs.Token.{Token}
use Rattle.tokens.specs.Kind.{Calldata, Memory, Storage, Ident, Indexed, PrimitiveType, Num, OpenParen, CloseParen}
use Rattle.tokens.specs.Name.{reserved}
use Rattle.grammar.specs.Reading.{Argument, NONE}
pub use Rattle.grammar.specs.FileReading.{declared}
use Rattle.grammar.specs.Result.{plain, Res, got, refuse, leave, taken, look, choose, expect, seq}

-- Indexed, in events only: 1 if it stands there
unfoldable pub indexed_here : Bool → ℕ → List Token → Res ℕ
indexed_here events = look (λ t. cond (events && eqb t.kind Indexed) (taken 1) (leave 0))

-- a location: its number, or 0 if none stands there
unfoldable pub location_here : ℕ → List Token → Res ℕ
location_here = look (λ t. choose ((Calldata, taken in_calldata) ∷ (Memory, taken in_memory) ∷ (Storage, taken in_storage) ∷ []) (leave 0) t.kind)

-- a name at q, always tested; "a PrimitiveType in a name's place is 7 where names are tested"
unfoldable pub typed_name : ℕ → ℕ → ℕ → ℕ → List Token → Res Argument
typed_name first indexed location q =
    look (λ t.
    choose
    ((Ident, cond (reserved t.text) (refuse (plain InvalidTypeAsArgumentName)) (taken (declared first q indexed location (suc q))))
    ∷ (PrimitiveType, refuse (plain InvalidTypeAsArgumentName))
    ∷ [])
    (leave (declared first NONE indexed location q))
    t.kind)
    q

-- an argument of a typed list: "a wrong type token is 8"
unfoldable pub typed_argument : Bool → ℕ → ℕ → List Token → Res Argument
typed_argument events n p =
    expect PrimitiveType (plain InvalidArgs) (λ t. seq (indexed_here events) (λ ix. seq location_here (λ l. typed_name p ix l))) p

-- "Takes and Returns .. each is followed by `(` Num `)`, a wrong Num giving 9": the number
unfoldable pub single_number : ℕ → List Token → Res ℕ
single_number = expect OpenParen (plain UnexpectedType) (λ o. expect Num (plain InvalidSingleArg) (λ t. expect CloseParen (plain UnexpectedType) (λ c q ts. got t.extra 0)))
