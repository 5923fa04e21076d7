-- Inner: one item: what its reader answers, and what its writers write.
use Rattle.std.specs.Prelude.{ℕ, suc, ◌+◌, ◌-◌, ◌≤◌, ◌<◌, ◌≡◌, Bool, cond, ◌&&◌, List, [], ◌∷◌, eqb, drop, Result, Ok, Err}
use Rattle.tokens.specs.Number.{UnexpectedType, InvalidPush, statement_width, most_tokens, label_type, code_type}
use Rattle.tokens.specs.Kind.{OpenParen, Ident, Literal}
use Rattle.tokens.specs.Token.{Token, token_at}
use Rattle.tokens.specs.Push.{is_value_push, fits}
use Rattle.tokens.specs.Lent.{put}
use Rattle.grammar.specs.Reading.{Argument, Simple, Sort, an_opcode, a_literal, a_label_call, an_invocation, a_constant, an_argument_call, a_builtin, single, called}
use Rattle.grammar.specs.Result.{plain, Res, got, bad, expect}
use Rattle.grammar.specs.Written.{RefusedRead}
use Rattle.grammar.specs.Reader.{closed_list, call_argument, builtin_argument}
use Rattle.grammar.specs.Records.{type_of}
use Rattle.statements.specs.declared.item.Progress.{Progress}
use Rattle.statements.specs.declared.item.Statement.{Statement}
use Rattle.statements.specs.declared.item.Lone.{Lone}
use Rattle.statements.specs.declared.item.StatementType.{StatementType}
use Rattle.statements.specs.declared.item.StatementType.TheVariants as types
use Rattle.statements.specs.declared.item.Item.{Item}
use Rattle.statements.specs.declared.item.Item.TheVariants as item
use Rattle.lists.specs.declared.list.ArgList.{ArgList}
use Rattle.lists.specs.declared.before.Before.{Before}
use Rattle.lists.specs.Answers.{ListRead}

-- ---- the types

-- the number of a type
abbrev pub type_number : StatementType → ℕ
type_number types.Literal = type_of a_literal
type_number types.Opcode = type_of an_opcode
type_number types.LabelCall = type_of a_label_call
type_number types.Invocation = type_of an_invocation
type_number types.Label = label_type
type_number types.Constant = type_of a_constant
type_number types.ArgumentCall = type_of an_argument_call
type_number types.Builtin = type_of a_builtin
type_number types.Code = code_type

-- ---- reading

abbrev pub lone : StatementType → ℕ → ℕ → Result Item (ℕ × ℕ)
lone ty end place = Ok (item.One (record { ty = ty; end = end; place = place }))

-- a statement of the one token at p
abbrev pub of_one : StatementType → ℕ → Lone
of_one ty p = record { ty = ty; end = p + 1; place = p }

-- a name between two signs, the opening one at p, by the kinds of the two tokens behind it
abbrev pub enclosed_item : ℕ → ℕ → StatementType → ℕ → ℕ → ℕ → Result Item (ℕ × ℕ)
enclosed_item wrong close ty p k l =
    cond (eqb k Ident) (cond (eqb l close) (lone ty (p + 3) (p + 1)) (Err (UnexpectedType, p + 2))) (Err (wrong, p + 1))

-- the opcode `byte` at p, by the kind and the text of the token behind it
abbrev pub opcode_item : Bool → ℕ → ℕ → ℕ → List ℕ → Result Item (ℕ × ℕ)
opcode_item takes p byte k literal =
    cond (takes && is_value_push byte)
    (cond (eqb k Literal) (cond (fits byte literal) (Ok item.Push) (Err (InvalidPush, p + 2))) (Err (InvalidPush, p + 1)))
    (lone types.Opcode (p + 1) p)

-- an Ident at p, by the kind of the token behind it
abbrev pub ident_item : ℕ → ℕ → Result Item (ℕ × ℕ)
ident_item p k = cond (eqb k OpenParen) (Ok item.Call) (lone types.LabelCall (p + 1) p)

-- x is the statement of the reading `read` from p
pub record OneRead (p size : ℕ) (read : Res (List Simple)) (x : Lone) : Type 0 where
  pub what : Simple
  pub tokens : ℕ
  pub is : read ≡ got (what ∷ []) tokens
  pub behind : x.end ≡ p + tokens
  pub some : 0 < tokens
  pub inside : x.end ≤ size
  pub sort : type_of what.sort ≡ type_number x.ty
  pub first : what.first ≡ p
  pub end : what.end ≡ x.end
  pub place : what.place ≡ x.place
  pub near : x.place ≤ x.end
  pub args : what.args ≡ []

-- a push at p and its literal
pub record PushRead (p size : ℕ) (all : List Token) (read : Res (List Simple)) : Type 0 where
  pub is : read ≡ got (single an_opcode p (token_at all p) ∷ single a_literal (suc p) (token_at all (suc p)) ∷ []) 2
  pub inside : p + 2 ≤ size

-- a name or a builtin at p, as the list behind it is read
abbrev pub with_list : Sort → ℕ → Token → Res (List Argument) → Res (List Simple)
with_list sort p t (got args k) = got (called sort p t (p + 1 + k) args ∷ []) (suc k)
with_list sort p t (bad y w) = bad y w

-- what the reader of one item promises of the reading `read` from p, of a kept list of this size whose tokens are `all`
abbrev pub ItemRead : ℕ → ℕ → List Token → Res (List Simple) → Result Item (ℕ × ℕ) → Type 0
ItemRead p size all read (Ok (item.One x)) = OneRead p size read x
ItemRead p size all read (Ok item.Push) = PushRead p size all read
ItemRead p size all read (Ok item.Call) =
    (p < size) × (read ≡ with_list an_invocation p (token_at all p) (expect OpenParen (plain UnexpectedType) (λ o. closed_list call_argument) (p + 1) (drop (p + 1) all)))
ItemRead p size all read (Ok item.Builtin) =
    (p < size) × (read ≡ with_list a_builtin p (token_at all p) (expect OpenParen (plain UnexpectedType) (λ o. closed_list builtin_argument) (p + 1) (drop (p + 1) all)))
ItemRead p size all read (Err f) = RefusedRead read f.0 f.1

-- ---- writing

-- the words of a statement's record
abbrev pub statement_words : Statement → List ℕ
statement_words s = s.ty ∷ s.first ∷ s.end ∷ s.inner ∷ s.inners ∷ s.argument ∷ s.arguments ∷ s.place ∷ []

-- the words of a statement that is no label and begins at s.at
abbrev pub simple_words : Progress → Before → StatementType → ℕ → ℕ → ℕ → List ℕ
simple_words s before ty end arguments place =
    type_number ty ∷ s.at ∷ end ∷ (before.statements + s.statements + 1) ∷ 0 ∷ (before.arguments + s.arguments) ∷ arguments ∷ place ∷ []

-- all its words fit
pub record Small (s : Progress) (before : Before) (e n p : ℕ) : Type 0 where
  pub at : s.at ≤ most_tokens
  pub statements : s.statements ≤ most_tokens
  pub arguments : s.arguments ≤ most_tokens
  pub statements_before : before.statements ≤ most_tokens
  pub arguments_before : before.arguments ≤ most_tokens
  pub end : e ≤ most_tokens
  pub own : n ≤ most_tokens
  pub place : p ≤ most_tokens

-- one statement further
abbrev pub further : Progress → ℕ → ℕ → Progress
further s end arguments = record { at = end; statements = s.statements + 1; arguments = arguments }

-- a statement and the list behind it, which was read: the progress behind it, and its record
abbrev pub called_behind : Progress → ArgList → Progress
called_behind s list = further s list.end list.arguments

abbrev pub called_put : List ℕ → Progress → Before → StatementType → ArgList → List ℕ
called_put st s before ty list =
    put statement_width st s.statements (simple_words s before ty list.end (list.arguments - s.arguments) s.at)

pub record CalledPut (st : List ℕ) (s : Progress) (before : Before) (ty : StatementType) (list : ArgList) (t : Progress) (st' : List ℕ) : Type 0 where
  pub is : t ≡ called_behind s list
  pub table : st' ≡ called_put st s before ty list

-- the same of a list that may be refused
abbrev pub called_answer : Progress → Result ArgList (ℕ × ℕ) → Result Progress (ℕ × ℕ)
called_answer s (Ok list) = Ok (called_behind s list)
called_answer s (Err f) = Err f

abbrev pub CalledTable : List ℕ → Progress → Before → StatementType → Result ArgList (ℕ × ℕ) → List ℕ → Type 0
CalledTable st s before ty (Ok list) st' = st' ≡ called_put st s before ty list
CalledTable st s before ty (Err f) st' = Unit {0}

-- a list that was read behind s.at, and the statement that it belongs to
pub record ListPut (s : Progress) (before : Before) (ty : StatementType) (size : ℕ) (read : Res (List Argument)) (st ar : List ℕ) (r : Result Progress (ℕ × ℕ)) (st' ar' : List ℕ) : Type 0 where
  pub list : Result ArgList (ℕ × ℕ)
  pub listed : ListRead s.arguments (s.at + 1) size read ar list ar'
  pub is : r ≡ called_answer s list
  pub table : CalledTable st s before ty list st'

-- what a list's bounds give its writer
abbrev pub ListInside : Progress → ArgList → Type 0
ListInside s list = (s.arguments ≤ list.arguments) × (list.arguments ≤ most_tokens) × (list.end ≤ most_tokens)

-- one statement of its own: the progress behind it, and its record
abbrev pub lone_behind : Progress → Lone → Progress
lone_behind s x = further s x.end s.arguments

abbrev pub lone_put : List ℕ → Progress → Before → Lone → List ℕ
lone_put st s before x = put statement_width st s.statements (simple_words s before x.ty x.end 0 x.place)

pub record OnePut (st : List ℕ) (s : Progress) (before : Before) (x : Lone) (t : Progress) (st' : List ℕ) : Type 0 where
  pub is : t ≡ lone_behind s x
  pub table : st' ≡ lone_put st s before x

-- a push at s.at and its literal behind it
abbrev pub push_opcode : Progress → Lone
push_opcode s = record { ty = types.Opcode; end = s.at + 1; place = s.at }

abbrev pub push_literal : Progress → Lone
push_literal s = record { ty = types.Literal; end = s.at + 1 + 1; place = s.at + 1 }

pub record PushPut (st : List ℕ) (s : Progress) (before : Before) (t : Progress) (st' : List ℕ) : Type 0 where
  pub is : t ≡ lone_behind (lone_behind s (push_opcode s)) (push_literal s)
  pub table : st' ≡ lone_put (lone_put st s before (push_opcode s)) (lone_behind s (push_opcode s)) before (push_literal s)
