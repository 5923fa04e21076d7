-- Document 01, "Grammar outside bodies", as families over the exact stretch of tokens from a place p, with its reading. No parser stands here.
use Rattle.std.specs.Prelude.{ℕ, suc, ◌+◌, ◌≡◌, Bool, true, false, cond, not, ◌&&◌, ◌||◌, List, [], ◌∷◌, ◌++◌, length, eqb}
use Rattle.tokens.specs.Token.{Token}
use Rattle.tokens.specs.Byte.{all_hex}
use Rattle.tokens.specs.Name.{reserved, one_of}
use Rattle.tokens.specs.Kind.{Include, Define, Macro, Fn, Test, Function, Event, Constant, Error, JumpTable, JumpTablePacked, CodeTable, Takes, Returns, View, Pure, Payable, NonPayable, Indexed, Assign, OpenParen, CloseParen, OpenBrace, CloseBrace, FreeStoragePointer, Ident, Literal, Num, Str, PrimitiveType}
use Rattle.grammar.specs.Reading.{Argument, Entry, Reading, NONE, arguments}
use Rattle.grammar.specs.Rules.{Rules}
use Rattle.grammar.specs.Grammar.{Many, Separated, Closed, Location, NameArgument, Body}
use Rattle.grammar.specs.FileReading.{Value, literal_at, pointer_at, MacroSort, the_macro, the_fn, the_test, TableSort, jump_table, packed_table, code_table, TableEntry, Form, an_import, a_function, an_event, a_defined_constant, an_error, a_macro, a_table, Definition, is_macro, declared}

-- "optional": nothing, which reads d, or what U says
pub data Optional {A : Type 0} (d : A) (U : List Token → A → Type 0) : List Token → A → Type 0 where
  absent : Optional d U [] d
  present : {xs : List Token} {a : A} → U xs a → Optional d U xs a

-- one token, of which K says what it reads
pub data Lone {A : Type 0} (K : Token → A → Type 0) : List Token → A → Type 0 where
  lone : {a : A} (t : Token) → K t a → Lone K (t ∷ []) a

-- "Indexed (events only)", read as 1
pub data IsIndexed (events : Bool) (t : Token) : ℕ → Type 0 where
  is_indexed : events ≡ true → t.kind ≡ Indexed → IsIndexed events t 1

-- "name (always tested)", read as its place
pub data IsName (q : ℕ) (t : Token) : ℕ → Type 0 where
  is_name : t.kind ≡ Ident → reserved t.text ≡ false → IsName q t q

-- "Typed lists: PrimitiveType, Indexed (events only), location, name (always tested), Comma; all but the type optional"
pub data TypedArgument (events : Bool) : ℕ → List Token → Argument → Type 0 where
  typed : {p ix l n : ℕ} {is ls ns : List Token} (t : Token)
      → t.kind ≡ PrimitiveType
      → Optional 0 (Lone (IsIndexed events)) is ix
      → Optional 0 (Lone (λ k. Location k.kind)) ls l
      → Optional NONE (Lone (IsName (suc p + length is + length ls))) ns n
      → TypedArgument events p (t ∷ (is ++ (ls ++ ns))) (declared p n ix l (suc p + length is + length ls + length ns))

-- an argument without a name: its range holds no more than its type, Indexed and location
abbrev pub nameless : Argument → Bool
nameless a = eqb a.end (suc a.first + a.indexed + cond (eqb a.location 0) 0 1)

-- "A PrimitiveType in a name's place is 7": a type may stand at the beginning, behind a name and behind a Comma
abbrev pub type_may : Bool → Entry → Bool
type_may b e = e.comma || not (nameless e.argument)

-- an argument of a typed list and its Comma, where a type may stand
pub data TypedEntry (events b : Bool) : ℕ → List Token → Entry → Type 0 where
  typed_entry : {p : ℕ} {xs : List Token} {e : Entry} → b ≡ true → Separated (TypedArgument events) p xs e → TypedEntry events b p xs e

-- a typed list and the `)` that ends it
pub data TypedList (events : Bool) : ℕ → List Token → List Argument → Type 0 where
  typed_list : {p : ℕ} {xs : List Token} {es : List Entry} (c : Token)
      → Many type_may (TypedEntry events) true p xs es
      → c.kind ≡ CloseParen
      → TypedList events p (xs ++ (c ∷ [])) (arguments es)

-- `(`, and what U says of the list behind it
pub data Parens (U : ℕ → List Token → List Argument → Type 0) : ℕ → List Token → List Argument → Type 0 where
  parens : {p : ℕ} {xs : List Token} {args : List Argument} (o : Token)
      → o.kind ≡ OpenParen
      → U (suc p) xs args
      → Parens U p (o ∷ xs) args

-- "Takes and Returns .. each is followed by `(` Num `)`"
pub data Counted (kind : ℕ) : List Token → ℕ → Type 0 where
  counting : (k o n c : Token)
      → k.kind ≡ kind
      → o.kind ≡ OpenParen
      → n.kind ≡ Num
      → c.kind ≡ CloseParen
      → Counted kind (k ∷ o ∷ n ∷ c ∷ []) n.extra

-- "a function's type 1 to 4 in the order View, Pure, Payable, NonPayable"
pub data FunctionType (kind : ℕ) : ℕ → Type 0 where
  is_view : kind ≡ View → FunctionType kind 1
  is_pure : kind ≡ Pure → FunctionType kind 2
  is_payable : kind ≡ Payable → FunctionType kind 3
  is_non_payable : kind ≡ NonPayable → FunctionType kind 4

-- a constant's value at q
pub data ConstantValue (q : ℕ) (t : Token) : Value → Type 0 where
  value_literal : t.kind ≡ Literal → ConstantValue q t (literal_at q)
  value_pointer : t.kind ≡ FreeStoragePointer → ConstantValue q t (pointer_at q)

-- the kinds with a body
pub data MacroKind (kind : ℕ) : MacroSort → Type 0 where
  is_macro_kind : kind ≡ Macro → MacroKind kind the_macro
  is_fn_kind : kind ≡ Fn → MacroKind kind the_fn
  is_test_kind : kind ≡ Test → MacroKind kind the_test

-- the kinds of tables
pub data TableKind (kind : ℕ) : TableSort → Type 0 where
  is_jump : kind ≡ JumpTable → TableKind kind jump_table
  is_packed : kind ≡ JumpTablePacked → TableKind kind packed_table
  is_code : kind ≡ CodeTable → TableKind kind code_table

-- "in a code table all hex digits"
unfoldable pub entry_allowed : TableSort → Token → Bool
entry_allowed jump_table t = true
entry_allowed packed_table t = true
entry_allowed code_table t = all_hex t.text

-- "Table entries are Ident"
pub data OneEntry (sort : TableSort) : ℕ → List Token → TableEntry → Type 0 where
  one_entry : {p : ℕ} (t : Token)
      → t.kind ≡ Ident
      → entry_allowed sort t ≡ true
      → OneEntry sort p (t ∷ []) (record { place = p; token = t })

-- entries remember nothing
abbrev pub forget_entry : Unit {0} → TableEntry → Unit {0}
forget_entry s e = tt

-- `{`, entries, `}`
pub data TableBody (sort : TableSort) : ℕ → List Token → List TableEntry → Type 0 where
  table_body : {p : ℕ} {xs : List Token} {es : List TableEntry} (o c : Token)
      → o.kind ≡ OpenBrace
      → Many forget_entry (λ s. OneEntry sort) tt (suc p) xs es
      → c.kind ≡ CloseBrace
      → TableBody sort p (o ∷ (xs ++ (c ∷ []))) es

-- one token of a kind, which reads nothing
abbrev pub Sign : ℕ → List Token → Unit {0} → Type 0
Sign kind = Lone (λ t u. t.kind ≡ kind)

-- what stands behind the name of a definition of this kind
pub data Rest (m : Rules) (kind : ℕ) : ℕ → List Token → Form → Type 0 where
  of_function : {p type : ℕ} {xs ts ys : List Token} {inputs outputs : List Argument} (r : Token)
      → kind ≡ Function
      → Parens (TypedList false) p xs inputs
      → Lone (λ t. FunctionType t.kind) ts type
      → r.kind ≡ Returns
      → Parens (TypedList false) (suc (p + length xs + length ts)) ys outputs
      → Rest m kind p (xs ++ (ts ++ (r ∷ ys))) (a_function inputs type outputs)
  of_event : {p : ℕ} {xs : List Token} {args : List Argument}
      → kind ≡ Event
      → Parens (TypedList true) p xs args
      → Rest m kind p xs (an_event args)
  of_constant : {p : ℕ} {vs : List Token} {v : Value} (a : Token)
      → kind ≡ Constant
      → a.kind ≡ Assign
      → Lone (ConstantValue (suc p)) vs v
      → Rest m kind p (a ∷ vs) (a_defined_constant v)
  of_error : {p : ℕ} {xs : List Token} {args : List Argument}
      → kind ≡ Error
      → Parens (TypedList false) p xs args
      → Rest m kind p xs (an_error args)
  -- "Macro lists are builtin lists without Str and Literal"; "Takes and Returns may be missing (0, 0)"
  of_macro : {p takes returns : ℕ} {sort : MacroSort} {xs ts rs bs : List Token} {args : List Argument} {r : Reading} (a : Token)
      → MacroKind kind sort
      → Parens (Closed NameArgument) p xs args
      → a.kind ≡ Assign
      → Optional 0 (Counted Takes) ts takes
      → Optional 0 (Counted Returns) rs returns
      → Body m (suc (p + length xs) + length ts + length rs) bs r
      → Rest m kind p (xs ++ (a ∷ (ts ++ (rs ++ bs)))) (a_macro sort args takes returns r)
  -- "A table's `(`, `)` and `=` are each optional, in that order"
  of_table : {p : ℕ} {u v w : Unit {0}} {sort : TableSort} {os cs zs bs : List Token} {es : List TableEntry}
      → TableKind kind sort
      → Optional tt (Sign OpenParen) os u
      → Optional tt (Sign CloseParen) cs v
      → Optional tt (Sign Assign) zs w
      → TableBody sort (p + length os + length cs + length zs) bs es
      → Rest m kind p (os ++ (cs ++ (zs ++ bs))) (a_table sort es)

-- a definition: `#include` Str, or `#define`, its kind, its name, and what stands behind it
pub data Defined (m : Rules) : ℕ → List Token → Definition → Type 0 where
  include : {p : ℕ} (i s : Token)
      → i.kind ≡ Include
      → s.kind ≡ Str
      → Defined m p (i ∷ s ∷ []) (record { first = p; end = suc (suc p); name = suc p; token = s; form = an_import })
  define : {p : ℕ} {xs : List Token} {f : Form} (d k n : Token)
      → d.kind ≡ Define
      → n.kind ≡ Ident
      → Rest m k.kind (suc (suc (suc p))) xs f
      → Defined m p (d ∷ k ∷ n ∷ xs) (record { first = p; end = suc (suc (suc p)) + length xs; name = suc (suc p); token = n; form = f })

-- "macro, fn or test named like an earlier one, byte for byte": earlier ones have these names
unfoldable pub repeats : List (List ℕ) → Definition → Bool
repeats seen d = is_macro d.form && one_of seen d.token.text

-- the names of the macros, fns and tests so far
abbrev pub remember_name : List (List ℕ) → Definition → List (List ℕ)
remember_name seen d = cond (is_macro d.form) (d.token.text ∷ seen) seen

-- a definition behind macros, fns and tests of these names; `names` says whether the rule on names is asked for
pub data Fresh (m : Rules) (names : Bool) (seen : List (List ℕ)) : ℕ → List Token → Definition → Type 0 where
  fresh : {p : ℕ} {xs : List Token} {d : Definition} → Defined m p xs d → (names && repeats seen d) ≡ false → Fresh m names seen p xs d

-- a file: definitions one behind the other, from place 0 up to Eof, which is no part of the stretch
abbrev pub File : Rules → Bool → List Token → List Definition → Type 0
File m names = Many remember_name (Fresh m names) [] 0
