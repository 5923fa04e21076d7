-- Request [4]: where one reads. "Braces reach from `{` to the next `}`", and those next after a CodeTable are a code table's.
use Rattle.std.specs.Prelude.{ℕ, Bool, true, false, cond, ◌||◌, eqb}
use Rattle.tokens.specs.Kind.{CodeTable, OpenBrace, CloseBrace}
use Rattle.lexemes.specs.declared.Context.{Context}
use Rattle.lexemes.specs.declared.Context.TheVariants.{Out, Wait, Body, Code}

-- inside a code table's braces
unfoldable pub is_code : Context → Bool
is_code Out = false
is_code Wait = false
is_code Body = false
is_code Code = true

-- inside braces that are no code table's
unfoldable pub is_body : Context → Bool
is_body Out = false
is_body Wait = false
is_body Body = true
is_body Code = false

-- inside braces
abbrev pub is_inside : Context → Bool
is_inside c = is_body c || is_code c

-- where one reads behind a token of this kind
unfoldable pub after : Context → ℕ → Context
after Out k = cond (eqb k CodeTable) Wait (cond (eqb k OpenBrace) Body Out)
after Wait k = cond (eqb k OpenBrace) Code Wait
after Body k = cond (eqb k CloseBrace) Out Body
after Code k = cond (eqb k CloseBrace) Out Code
