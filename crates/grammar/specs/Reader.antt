-- The reader of a body: total on every list of tokens and from every place. It answers the reading and the tokens taken, or document 01's number and cursor.
use Rattle.std.specs.Prelude.{ℕ, suc, Bool, true, false, cond, ◌&&◌, ◌||◌, drop, eqb}
use mathlib.Core.List.{List, [], ◌∷◌, flatten}
use Rattle.tokens.specs.Number.{UnexpectedType, InvalidPush, InvalidTokenInMacroBody, InvalidTokenInLabelDefinition, InvalidTypeAsArgumentName, InvalidArgs, InvalidMacroArgs, InvalidConstant, InvalidArgCallIdent, DuplicateLabel, name_form, string_form, literal_form, call_literal_form, call_name_form, in_calldata, in_memory, in_storage}
use Rattle.tokens.specs.Token.{Token}
use Rattle.tokens.specs.Kind.{Calldata, Memory, Storage, OpenParen, CloseParen, OpenBrace, CloseBrace, OpenBracket, CloseBracket, LeftAngle, RightAngle, Comma, Colon, Ident, Label, Literal, Opcode, Str, BuiltinFunction, PrimitiveType}
use Rattle.tokens.specs.Push.{is_value_push, fits}
use Rattle.grammar.specs.Reading.{Argument, Entry, Simple, Group, Reading, a_literal, an_opcode, a_label_call, an_invocation, a_constant, an_argument_call, a_builtin, single, enclosed, called, one_token, angled, located, arguments}
use Rattle.grammar.specs.Rules.{Rules}
use Rattle.grammar.specs.Grammar.{counts, odd, allowed, forget, may_stand, remember}
use Rattle.grammar.specs.Result.{plain, overflow, eaten, Res, got, Answer, answer, Step, refuse, leave, on, taken, look, choose, expect, seq, many}

-- an argument and the Comma after it, if one stands there
unfoldable pub separated : (ℕ → List Token → Res Argument) → ℕ → List Token → Res Entry
separated one =
    seq one (λ a.
    look (λ t. cond (eqb t.kind Comma) (taken (record { argument = a; comma = true })) (leave (record { argument = a; comma = false }))))

-- a list ends at its `)`
abbrev pub ends_list : Token → Bool
ends_list t = eqb t.kind CloseParen

-- a list of arguments, read by `one` from the count of names before each
unfoldable pub entries : (ℕ → ℕ → List Token → Res Argument) → ℕ → List Token → Res (List Entry)
entries one = many ends_list counts (λ n. separated (one n)) 0 0

-- a list of arguments and its `)`
unfoldable pub closed_list : (ℕ → ℕ → List Token → Res Argument) → ℕ → List Token → Res (List Argument)
closed_list one = seq (entries one) (λ es. expect CloseParen (plain UnexpectedType) (λ c q ts. got (arguments es) 0))

-- an argument of a call, by the kind of its first token
abbrev pub call_table : ℕ → List (ℕ × Step Argument)
call_table p =
    (Literal, taken (one_token call_literal_form p))
    ∷ (Ident, taken (one_token call_name_form p))
    ∷ (Calldata, taken (one_token call_name_form p))
    ∷ (LeftAngle, on (expect Ident (plain UnexpectedType) (λ i. expect RightAngle (plain UnexpectedType) (λ r q ts. got (angled p) 0))))
    ∷ []

-- any other token is 10
unfoldable pub call_argument : ℕ → ℕ → List Token → Res Argument
call_argument n p = look (λ t. choose (call_table p) (refuse (plain InvalidMacroArgs)) t.kind) p

-- a name, the last token of the argument a, with n names before it
abbrev pub name_table : ℕ → Argument → Token → List (ℕ × Step Argument)
name_table n a t =
    (Ident, cond (allowed n t) (taken a) (refuse (plain InvalidTypeAsArgumentName)))
    ∷ (PrimitiveType, refuse (plain (cond (odd n) InvalidTypeAsArgumentName UnexpectedType)))
    ∷ (Comma, refuse eaten)
    ∷ []

-- any other token is 8
unfoldable pub name_step : ℕ → Argument → Token → Step Argument
name_step n a t = choose (name_table n a t) (refuse (plain InvalidArgs)) t.kind

-- an optional location, then a name
abbrev pub location_table : ℕ → ℕ → List (ℕ × Step Argument)
location_table n p =
    (Calldata, on (look (name_step n (located in_calldata p))))
    ∷ (Memory, on (look (name_step n (located in_memory p))))
    ∷ (Storage, on (look (name_step n (located in_storage p))))
    ∷ []

-- without a location the name itself
unfoldable pub untyped_step : ℕ → ℕ → Token → Step Argument
untyped_step n p t = choose (location_table n p) (name_step n (one_token name_form p) t) t.kind

-- an untyped name by itself: the argument of a list without strings and literals
unfoldable pub name_argument : ℕ → ℕ → List Token → Res Argument
name_argument n p = look (untyped_step n p) p

-- an argument of a builtin
abbrev pub builtin_table : ℕ → List (ℕ × Step Argument)
builtin_table p = (Str, taken (one_token string_form p)) ∷ (Literal, taken (one_token literal_form p)) ∷ []

-- without Str or Literal an untyped name
unfoldable pub builtin_argument : ℕ → ℕ → List Token → Res Argument
builtin_argument n p = look (λ t. choose (builtin_table p) (untyped_step n p t) t.kind) p

-- the literal that the value push t at p takes
unfoldable pub operand_step : ℕ → Token → Token → Step (List Simple)
operand_step p t v =
    cond (eqb v.kind Literal)
    (cond (fits t.extra v.text) (taken (single an_opcode p t ∷ single a_literal (suc p) v ∷ [])) (refuse overflow))
    (refuse (plain InvalidPush))

-- what stands behind the Ident t at p: a call list, or anything else
unfoldable pub ident_step : ℕ → Token → Token → Step (List Simple)
ident_step p t o =
    cond (eqb o.kind OpenParen)
    (on (seq (closed_list call_argument) (λ args q ts. got (called an_invocation p t q args ∷ []) 0)))
    (leave (single a_label_call p t ∷ []))

-- an item, by the kind of its first token t at p
abbrev pub item_table : Bool → ℕ → Token → List (ℕ × Step (List Simple))
item_table takes p t =
    (Literal, taken (single a_literal p t ∷ []))
    ∷ (Opcode, cond (takes && is_value_push t.extra) (on (look (operand_step p t))) (taken (single an_opcode p t ∷ [])))
    ∷ (Ident, on (look (ident_step p t)))
    ∷ (OpenBracket, on (expect Ident (plain InvalidConstant) (λ i. expect CloseBracket (plain UnexpectedType) (λ r q ts. got (enclosed a_constant p i ∷ []) 0))))
    ∷ (LeftAngle, on (expect Ident (plain InvalidArgCallIdent) (λ i. expect RightAngle (plain UnexpectedType) (λ r q ts. got (enclosed an_argument_call p i ∷ []) 0))))
    ∷ (BuiltinFunction, on (expect OpenParen (plain UnexpectedType) (λ o. seq (closed_list builtin_argument) (λ args q ts. got (called a_builtin p t q args ∷ []) 0))))
    ∷ []

-- `wrong` is the number for a token that begins no item
unfoldable pub item : Bool → ℕ → ℕ → List Token → Res (List Simple)
item takes wrong p = look (λ t. choose (item_table takes p t) (refuse (plain wrong)) t.kind) p

-- items end at the next Label or CloseBrace
abbrev pub ends_items : Token → Bool
ends_items t = eqb t.kind Label || eqb t.kind CloseBrace

-- items, in a part where `wrong` is given for a token that begins none
unfoldable pub items : Bool → ℕ → ℕ → List Token → Res (List (List Simple))
items takes wrong = many ends_items forget (λ s. item takes wrong) tt 0

-- what stands behind the Label t at p
unfoldable pub group_rest : Rules → ℕ → Token → ℕ → List Token → Res Group
group_rest m p t =
    expect Colon (plain UnexpectedType) (λ c.
    seq (items m.push_in_labels InvalidTokenInLabelDefinition) (λ is q ts. got (record { first = p; end = q; token = t; inner = flatten is }) 0))

-- a label with its items; a name that may not repeat is refused at its Label
abbrev pub group_table : Rules → List (List ℕ) → ℕ → Token → List (ℕ × Step Group)
group_table m seen p t = (Label, cond (may_stand m seen t) (on (group_rest m p t)) (refuse (plain DuplicateLabel))) ∷ []

-- only a Label or the brace can stand where items end, so 5 is never given here
unfoldable pub label_group : Rules → List (List ℕ) → ℕ → List Token → Res Group
label_group m seen p = look (λ t. choose (group_table m seen p t) (refuse (plain InvalidTokenInMacroBody)) t.kind) p

-- groups end at the body's brace
abbrev pub ends_groups : Token → Bool
ends_groups t = eqb t.kind CloseBrace

-- label groups
unfoldable pub groups : Rules → ℕ → List Token → Res (List Group)
groups m = many ends_groups remember (label_group m) [] 0

-- a body
unfoldable pub body_from : Rules → ℕ → List Token → Res Reading
body_from m =
    expect OpenBrace (plain UnexpectedType) (λ o.
    seq (items true InvalidTokenInMacroBody) (λ is.
    seq (groups m) (λ gs. expect CloseBrace (plain InvalidTokenInMacroBody) (λ c q ts. got (record { main = flatten is; groups = gs }) 0))))

-- the body from place p of the kept tokens
unfoldable pub body_at : Rules → List Token → ℕ → Answer Reading
body_at m kept p = answer (body_from m p (drop p kept))
