-- Document 01, "Grammar of a body", as families over the exact stretch of tokens from a place p, with its reading. No parser stands here.
use Rattle.std.specs.Prelude.{ℕ, suc, ◌+◌, ◌%◌, ◌≡◌, Bool, true, false, cond, not, ◌&&◌, length, eqb}
use mathlib.Core.List.{List, [], ◌∷◌, ◌++◌, flatten}
use Rattle.tokens.specs.Number.{name_form, string_form, literal_form, call_literal_form, call_name_form, in_calldata, in_memory, in_storage}
use Rattle.tokens.specs.Token.{Token}
use Rattle.tokens.specs.Kind.{Calldata, Memory, Storage, OpenParen, CloseParen, OpenBrace, CloseBrace, OpenBracket, CloseBracket, LeftAngle, RightAngle, Comma, Colon, Ident, Label, Literal, Opcode, Str, BuiltinFunction}
use Rattle.tokens.specs.Push.{is_value_push, fits}
use Rattle.tokens.specs.Name.{reserved, one_of}
use Rattle.grammar.specs.Reading.{Argument, Entry, Simple, Group, Reading, a_literal, an_opcode, a_label_call, an_invocation, a_constant, an_argument_call, a_builtin, single, enclosed, called, one_token, angled, located, arguments}
use Rattle.grammar.specs.Rules.{Rules}

-- units U one behind the other, with a state of what a rule remembers of the units before
pub data Many {σ A : Type 0} (after : σ → A → σ) (U : σ → ℕ → List Token → A → Type 0) : σ → ℕ → List Token → List A → Type 0 where
  none : {s : σ} {p : ℕ} → Many after U s p [] []
  more : {s : σ} {p : ℕ} {xs ys : List Token} {a : A} {rs : List A}
      → U s p xs a
      → Many after U (after s a) (p + length xs) ys rs
      → Many after U s p (xs ++ ys) (a ∷ rs)

-- "each with at most one Comma after it"
pub data Separated (U : ℕ → List Token → Argument → Type 0) : ℕ → List Token → Entry → Type 0 where
  alone : {p : ℕ} {xs : List Token} {a : Argument} → U p xs a → Separated U p xs (record { argument = a; comma = false })
  comma : {p : ℕ} {xs : List Token} {a : Argument} (c : Token)
      → U p xs a
      → c.kind ≡ Comma
      → Separated U p (xs ++ (c ∷ [])) (record { argument = a; comma = true })

-- "the count of names before it since the opening or the last Comma": strings and literals neither count nor start anew
abbrev pub counts : ℕ → Entry → ℕ
counts n e = cond e.comma 0 (cond (eqb e.argument.form name_form) (suc n) n)

-- a list of arguments with commas: U is handed the count of names
abbrev pub Entries : (ℕ → ℕ → List Token → Argument → Type 0) → ℕ → List Token → List Entry → Type 0
Entries U = Many counts (λ n. Separated (U n)) 0

-- a list of arguments and the `)` that ends it
pub data Closed (U : ℕ → ℕ → List Token → Argument → Type 0) : ℕ → List Token → List Argument → Type 0 where
  closed : {p : ℕ} {xs : List Token} {es : List Entry} (c : Token)
      → Entries U p xs es
      → c.kind ≡ CloseParen
      → Closed U p (xs ++ (c ∷ [])) (arguments es)

-- "Call list: Literal, Ident, Calldata or `<` Ident `>`"
pub data CallArgument (n : ℕ) : ℕ → List Token → Argument → Type 0 where
  call_literal : {p : ℕ} (t : Token) → t.kind ≡ Literal → CallArgument n p (t ∷ []) (one_token call_literal_form p)
  call_name : {p : ℕ} (t : Token) → t.kind ≡ Ident → CallArgument n p (t ∷ []) (one_token call_name_form p)
  call_calldata : {p : ℕ} (t : Token) → t.kind ≡ Calldata → CallArgument n p (t ∷ []) (one_token call_name_form p)
  call_angled : {p : ℕ} (l i r : Token)
      → l.kind ≡ LeftAngle
      → i.kind ≡ Ident
      → r.kind ≡ RightAngle
      → CallArgument n p (l ∷ i ∷ r ∷ []) (angled p)

-- the kinds of a location, and its number in an argument's record
pub data Location (kind : ℕ) : ℕ → Type 0 where
  calldata : kind ≡ Calldata → Location kind in_calldata
  memory : kind ≡ Memory → Location kind in_memory
  storage : kind ≡ Storage → Location kind in_storage

-- an odd count
abbrev pub odd : ℕ → Bool
odd n = eqb (n % 2) 1

-- "A name is tested against reserved type names exactly when the count of names before it .. is odd"
unfoldable pub allowed : ℕ → Token → Bool
allowed n t = not (odd n && reserved t.text)

-- an untyped name, "an optional location then Ident", with n names before it
pub data NameArgument (n : ℕ) : ℕ → List Token → Argument → Type 0 where
  bare : {p : ℕ} (t : Token) → t.kind ≡ Ident → allowed n t ≡ true → NameArgument n p (t ∷ []) (one_token name_form p)
  placed : {p l : ℕ} (k t : Token)
      → Location k.kind l
      → t.kind ≡ Ident
      → allowed n t ≡ true
      → NameArgument n p (k ∷ t ∷ []) (located l p)

-- "Builtin list: Str, Literal or an optional location then Ident"
pub data BuiltinArgument (n : ℕ) : ℕ → List Token → Argument → Type 0 where
  builtin_string : {p : ℕ} (t : Token) → t.kind ≡ Str → BuiltinArgument n p (t ∷ []) (one_token string_form p)
  builtin_literal : {p : ℕ} (t : Token) → t.kind ≡ Literal → BuiltinArgument n p (t ∷ []) (one_token literal_form p)
  builtin_name : {p : ℕ} {xs : List Token} {a : Argument} → NameArgument n p xs a → BuiltinArgument n p xs a

-- an item, where `takes` says whether a value push takes its literal here: always in the macro part ("value push, then Literal that fits (two
-- statements)"); in a label "any Opcode stands alone", unless the rule set says otherwise. "Ident not followed by `(`" needs no premise: nothing that may
-- follow an item begins with `(`
pub data Item (takes : Bool) : ℕ → List Token → List Simple → Type 0 where
  literal : {p : ℕ} (t : Token) → t.kind ≡ Literal → Item takes p (t ∷ []) (single a_literal p t ∷ [])
  opcode : {p : ℕ} (t : Token)
      → t.kind ≡ Opcode
      → (takes && is_value_push t.extra) ≡ false
      → Item takes p (t ∷ []) (single an_opcode p t ∷ [])
  push : {p : ℕ} (t v : Token)
      → t.kind ≡ Opcode
      → (takes && is_value_push t.extra) ≡ true
      → v.kind ≡ Literal
      → fits t.extra v.text ≡ true
      → Item takes p (t ∷ v ∷ []) (single an_opcode p t ∷ single a_literal (suc p) v ∷ [])
  label_call : {p : ℕ} (t : Token) → t.kind ≡ Ident → Item takes p (t ∷ []) (single a_label_call p t ∷ [])
  invocation : {p : ℕ} {xs : List Token} {args : List Argument} (t o : Token)
      → t.kind ≡ Ident
      → o.kind ≡ OpenParen
      → Closed CallArgument (suc (suc p)) xs args
      → Item takes p (t ∷ o ∷ xs) (called an_invocation p t (suc (suc p) + length xs) args ∷ [])
  constant : {p : ℕ} (l t r : Token)
      → l.kind ≡ OpenBracket
      → t.kind ≡ Ident
      → r.kind ≡ CloseBracket
      → Item takes p (l ∷ t ∷ r ∷ []) (enclosed a_constant p t ∷ [])
  argument_call : {p : ℕ} (l t r : Token)
      → l.kind ≡ LeftAngle
      → t.kind ≡ Ident
      → r.kind ≡ RightAngle
      → Item takes p (l ∷ t ∷ r ∷ []) (enclosed an_argument_call p t ∷ [])
  builtin : {p : ℕ} {xs : List Token} {args : List Argument} (t o : Token)
      → t.kind ≡ BuiltinFunction
      → o.kind ≡ OpenParen
      → Closed BuiltinArgument (suc (suc p)) xs args
      → Item takes p (t ∷ o ∷ xs) (called a_builtin p t (suc (suc p) + length xs) args ∷ [])

-- items remember nothing
abbrev pub forget : Unit {0} → List Simple → Unit {0}
forget s a = tt

-- items one behind the other
abbrev pub Items : Bool → ℕ → List Token → List (List Simple) → Type 0
Items takes = Many forget (λ s. Item takes) tt

-- may a label of this text stand behind labels of these names
abbrev pub may_stand : Rules → List (List ℕ) → Token → Bool
may_stand m seen t = not (m.names_once && one_of seen t.text)

-- "A group is Label, Colon, label items, up to the next Label or CloseBrace": no item begins with these two
pub data LabelGroup (m : Rules) (seen : List (List ℕ)) : ℕ → List Token → Group → Type 0 where
  group : {p : ℕ} {xs : List Token} {is : List (List Simple)} (t c : Token)
      → t.kind ≡ Label
      → may_stand m seen t ≡ true
      → c.kind ≡ Colon
      → Items m.push_in_labels (suc (suc p)) xs is
      → LabelGroup m seen p (t ∷ c ∷ xs) (record { first = p; end = suc (suc p) + length xs; token = t; inner = flatten is })

-- the names of the labels so far
abbrev pub remember : List (List ℕ) → Group → List (List ℕ)
remember seen g = g.token.text ∷ seen

-- label groups one behind the other
abbrev pub Groups : Rules → ℕ → List Token → List Group → Type 0
Groups m = Many remember (LabelGroup m) []

-- "Body: `{`, plain items, label groups, `}`"
pub data Body (m : Rules) : ℕ → List Token → Reading → Type 0 where
  body : {p : ℕ} {xs ys : List Token} {is : List (List Simple)} {gs : List Group} (o c : Token)
      → o.kind ≡ OpenBrace
      → Items true (suc p) xs is
      → Groups m (suc p + length xs) ys gs
      → c.kind ≡ CloseBrace
      → Body m p (o ∷ (xs ++ (ys ++ (c ∷ [])))) (record { main = flatten is; groups = gs })
