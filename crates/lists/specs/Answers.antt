-- Inner: how the code's answers and tables hold what the reader reads: arguments, lists, a number in parentheses.
use Rattle.std.specs.Prelude.{ℕ, suc, ◌+◌, ◌≤◌, ◌<◌, ◌≡◌, ◌≢◌, Bool, true, false, cond, List, map, length, Option, Some, None, Result, Ok, Err, IfOk, IfSome, ⊤}
use Rattle.std.specs.Int.{from_bool}
use Rattle.tokens.specs.Token.{Token}
use Rattle.tokens.specs.Number.{UnexpectedType, argument_width, name_form, string_form, literal_form, call_literal_form, call_name_form, call_angled_form, in_calldata, in_memory, in_storage}
use Rattle.tokens.specs.Kind.{Ident, RightAngle}
use Rattle.tokens.specs.Kind as kind
use Rattle.grammar.specs.Reading.{NONE, angled}
use Rattle.grammar.specs.Reading as reading
use Rattle.grammar.specs.Result.{number, beyond, plain, Res, got, bad, look, expect}
use Rattle.grammar.specs.Reader.{call_argument, builtin_argument, name_argument, name_step}
use Rattle.grammar.specs.Typed.{declared, typed_name, typed_argument}
use Rattle.grammar.specs.Records.{argument_record}
use Rattle.grammar.specs.Written.{Written}
use Rattle.lists.specs.declared.argument.Form.{Form}
use Rattle.lists.specs.declared.argument.Form.TheVariants.{Name, Str, Literal, CallLiteral, CallName, CallAngled}
use Rattle.lists.specs.declared.argument.Location.{Location}
use Rattle.lists.specs.declared.argument.Location.TheVariants.{Calldata, Memory, Storage}
use Rattle.lists.specs.declared.argument.Argument.{Argument}
use Rattle.lists.specs.declared.argument.Sort.{Sort}
use Rattle.lists.specs.declared.argument.Sort.TheVariants.{Call, Builtin, Macro, Typed, Event}
use Rattle.lists.specs.declared.list.ArgList.{ArgList}
use Rattle.lists.specs.declared.single.Single.{Single}

-- ---- arguments

-- document 01's numbers of an argument's form and of its location, as the code names them
abbrev pub form_number : Form → ℕ
form_number Name = name_form
form_number Str = string_form
form_number Literal = literal_form
form_number CallLiteral = call_literal_form
form_number CallName = call_name_form
form_number CallAngled = call_angled_form

abbrev pub location_number : Location → ℕ
location_number Calldata = in_calldata
location_number Memory = in_memory
location_number Storage = in_storage

-- the words of a place and of a location, each of which may be absent
abbrev pub place_word : Option ℕ → ℕ
place_word (Some p) = p
place_word None = NONE

abbrev pub location_word : Option Location → ℕ
location_word (Some l) = location_number l
location_word None = 0

-- the code's argument, as the grammar's readers have it
abbrev pub reading_of : Argument → reading.Argument
reading_of a =
    record {
      form = form_number a.form;
      type = place_word a.ty;
      name = place_word a.name;
      indexed = from_bool a.indexed;
      location = location_word a.location;
      first = a.first;
      end = a.end;
    }

-- the token that is a location, and a kind that is none's
abbrev pub location_kind : Location → ℕ
location_kind Calldata = kind.Calldata
location_kind Memory = kind.Memory
location_kind Storage = kind.Storage

abbrev pub NoLocation : ℕ → Type 0
NoLocation k = (l : Location) → k ≢ location_kind l

-- an argument and the place behind it, or the refusal's number and cursor: the reader's, and the code's
abbrev pub arg_answer : ℕ → Res reading.Argument → Result (reading.Argument × ℕ) (ℕ × ℕ)
arg_answer p (got a n) = Ok (a, p + n)
arg_answer p (bad y w) = Err (number y, w + beyond y)

abbrev pub answered : {T : Type 0} → (T → reading.Argument × ℕ) → Result T (ℕ × ℕ) → Result (reading.Argument × ℕ) (ℕ × ℕ)
answered f (Ok x) = Ok (f x)
answered f (Err e) = Err e

-- a place that an argument tells is one of its own, and so no number that stands for an absent one: who reads an argument promises it beside `ArgRead`, which is of its numbers
abbrev pub Told : Argument → Type 0
Told a = IfSome a.ty (λ t. t < a.end) × IfSome a.name (λ n. n < a.end)

-- what the reader of one argument promises: the answer, and that the place behind it lies in the kept list
pub record ArgRead (p size : ℕ) (read : Res reading.Argument) (r : Result Argument (ℕ × ℕ)) : Type 0 where
  pub is : answered (λ a. (reading_of a, a.end)) r ≡ arg_answer p read
  pub within : IfOk r (λ a. (p < a.end) × (a.end ≤ size))

-- a name at p, the last token of an argument whose first place and location are known
abbrev pub named : ℕ → ℕ → ℕ → reading.Argument
named location first p =
    record { form = name_form; type = NONE; name = p; indexed = 0; location = location; first = first; end = suc p }

-- what the reader of a name promises, an untyped argument's or a typed one's: the reading of an argument a that ends with the name at p; in a typed one the name may be missing
pub record UntypedName (p size names : ℕ) (tokens : List Token) (r : Result ⊤ (ℕ × ℕ)) : Type 0 where
  pub is : (a : reading.Argument) → answered (λ u. (a, p + 1)) r ≡ arg_answer p (look (name_step names a) p tokens)
  pub within : IfOk r (λ u. p < size)

pub record TypedName (p size : ℕ) (tokens : List Token) (r : Result Bool (ℕ × ℕ)) : Type 0 where
  pub is : (first ix l : ℕ) → answered (λ b. (cond b (declared first p ix l (suc p)) (declared first NONE ix l p), p + from_bool b)) r ≡ arg_answer p (typed_name first ix l p tokens)
  pub within : IfOk r (λ b. p + from_bool b ≤ size)

-- the reader of what stands behind a call's `<` at p
abbrev pub angled_rest : ℕ → ℕ → List Token → Res reading.Argument
angled_rest p = expect Ident (plain UnexpectedType) (λ i. expect RightAngle (plain UnexpectedType) (λ r q ts. got (angled p) 0))

-- the reader of one argument, for each sort of list
abbrev pub one : Sort → ℕ → ℕ → List Token → Res reading.Argument
one Call = call_argument
one Builtin = builtin_argument
one Macro = name_argument
one Typed = typed_argument false
one Event = typed_argument true

-- ---- lists

-- the argument records there are behind a list that has n before it, and the place behind its `)`
abbrev pub list_answer : ℕ → ℕ → Res (List reading.Argument) → Result ArgList (ℕ × ℕ)
list_answer n p (got args k) = Ok (record { arguments = n + length args; end = p + k })
list_answer n p (bad y w) = Err (number y, w + beyond y)

abbrev pub ListWithin : ℕ → ℕ → ℕ → Result ArgList (ℕ × ℕ) → Type 0
ListWithin n p size (Ok l) = (p < l.end) × (l.end ≤ size) × (l.arguments + p ≤ n + l.end)
ListWithin n p size (Err f) = Unit {0}

pub record ListRead (n p size : ℕ) (read : Res (List reading.Argument)) (lent : List ℕ) (r : Result ArgList (ℕ × ℕ)) (lent' : List ℕ) : Type 0 where
  pub is : r ≡ list_answer n p read
  pub records : Written argument_width (map argument_record) read n lent lent'
  pub within : ListWithin n p size r

-- ---- a number in parentheses

-- the number and the place behind its `)`, or the refusal's number and cursor
abbrev pub single_answer : ℕ → Res ℕ → Result Single (ℕ × ℕ)
single_answer p (got n k) = Ok (record { number = n; end = p + k })
single_answer p (bad y w) = Err (number y, w + beyond y)

abbrev pub SingleWithin : ℕ → ℕ → Result Single (ℕ × ℕ) → Type 0
SingleWithin p size (Ok s) = (p < s.end) × (s.end ≤ size)
SingleWithin p size (Err f) = Unit {0}

pub record SingleRead (p size : ℕ) (read : Res ℕ) (r : Result Single (ℕ × ℕ)) : Type 0 where
  pub is : r ≡ single_answer p read
  pub within : SingleWithin p size r
