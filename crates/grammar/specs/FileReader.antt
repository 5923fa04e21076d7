-- The reader of a file, total on every list of tokens, one reader for each function of the Rust's parser: it answers the definitions and the place of Eof,
-- or document 01's number and cursor.
use Rattle.std.specs.Prelude.{ℕ, suc, Bool, true, false, cond, ◌&&◌, List, [], ◌∷◌, eqb}
use Rattle.tokens.specs.Number.{UnexpectedType, InvalidDefinition, InvalidConstantValue, InvalidTableBodyToken, DuplicateMacro, PoundAtTopLevel}
use Rattle.tokens.specs.Token.{Token, token_at}
use Rattle.tokens.specs.Kind.{Eof, Include, Define, Pound, Macro, Fn, Test, Function, Event, Constant, Error, JumpTable, JumpTablePacked, CodeTable, Takes, Returns, View, Pure, Payable, NonPayable, Assign, OpenParen, CloseParen, OpenBrace, CloseBrace, FreeStoragePointer, Ident, Literal, Str}
use Rattle.grammar.specs.Reading.{Argument}
use Rattle.grammar.specs.Rules.{Rules}
use Rattle.grammar.specs.Result.{Why, plain, Res, got, bad, Answer, answer, refuse, leave, on, taken, look, choose, expect, seq, many}
use Rattle.grammar.specs.Reader.{closed_list, name_argument, body_from}
use Rattle.grammar.specs.Typed.{typed_argument, single_number}
use Rattle.grammar.specs.FileReading.{Value, literal_at, pointer_at, MacroSort, the_macro, the_fn, the_test, TableSort, jump_table, packed_table, code_table, TableEntry, Form, an_import, a_function, an_event, a_defined_constant, an_error, a_macro, a_table, Definition}
use Rattle.grammar.specs.FileGrammar.{entry_allowed, forget_entry, repeats, remember_name}

-- go by the kind of the token here, which is left for the reader chosen; any other is refused
unfoldable pub by_kind : {A : Type 0} → List (ℕ × (ℕ → List Token → Res A)) → Why → ℕ → List Token → Res A
by_kind table y p ts = choose table (λ q us. bad y q) (token_at ts 0).kind p ts

-- a token of kind k may stand here: take it and read on; else d
unfoldable pub optional : {A : Type 0} → ℕ → (ℕ → List Token → Res A) → A → ℕ → List Token → Res A
optional k f d = look (λ t. cond (eqb t.kind k) (on f) (leave d))

-- parse_args: `(`, a list, `)`
abbrev pub parse_args : (ℕ → ℕ → List Token → Res Argument) → ℕ → List Token → Res (List Argument)
parse_args one = expect OpenParen (plain UnexpectedType) (λ o. closed_list one)

-- a definition whose first token stands at `first`, from its name on
unfoldable pub named : ℕ → (ℕ → List Token → Res Form) → ℕ → List Token → Res Definition
named first rest p =
    expect Ident (plain UnexpectedType) (λ n. seq rest (λ f q ts. got (record { first = first; end = q; name = p; token = n; form = f }) 0)) p

-- parse_imports
unfoldable pub parse_imports : ℕ → List Token → Res Definition
parse_imports p =
    expect Include (plain UnexpectedType) (λ i.
    expect Str (plain UnexpectedType) (λ s q ts. got (record { first = p; end = q; name = suc p; token = s; form = an_import }) 0))
    p

-- "a wrong function type is 1"
unfoldable pub function_type : ℕ → List Token → Res ℕ
function_type = look (λ t. choose ((View, taken 1) ∷ (Pure, taken 2) ∷ (Payable, taken 3) ∷ (NonPayable, taken 4) ∷ []) (refuse (plain UnexpectedType)) t.kind)

-- a function behind its name: inputs, type, Returns, outputs
unfoldable pub function_rest : ℕ → List Token → Res Form
function_rest =
    seq (parse_args (typed_argument false)) (λ inputs.
    seq function_type (λ type.
    expect Returns (plain UnexpectedType) (λ r.
    seq (parse_args (typed_argument false)) (λ outputs q ts. got (a_function inputs type outputs) 0))))

-- parse_function, from the token Function on
unfoldable pub parse_function : ℕ → ℕ → List Token → Res Definition
parse_function first = expect Function (plain UnexpectedType) (λ k. named first function_rest)

-- an event behind its name
unfoldable pub event_rest : ℕ → List Token → Res Form
event_rest = seq (parse_args (typed_argument true)) (λ args q ts. got (an_event args) 0)

-- parse_event
unfoldable pub parse_event : ℕ → ℕ → List Token → Res Definition
parse_event first = expect Event (plain UnexpectedType) (λ k. named first event_rest)

-- a constant's value at p; any other token is 3
unfoldable pub constant_value : ℕ → List Token → Res Value
constant_value p =
    look (λ t. choose ((FreeStoragePointer, taken (pointer_at p)) ∷ (Literal, taken (literal_at p)) ∷ []) (refuse (plain InvalidConstantValue)) t.kind) p

-- a constant behind its name
unfoldable pub constant_rest : ℕ → List Token → Res Form
constant_rest = expect Assign (plain UnexpectedType) (λ a. seq constant_value (λ v q ts. got (a_defined_constant v) 0))

-- parse_constant
unfoldable pub parse_constant : ℕ → ℕ → List Token → Res Definition
parse_constant first = expect Constant (plain UnexpectedType) (λ k. named first constant_rest)

-- an error behind its name
unfoldable pub error_rest : ℕ → List Token → Res Form
error_rest = seq (parse_args (typed_argument false)) (λ args q ts. got (an_error args) 0)

-- parse_custom_error
unfoldable pub parse_custom_error : ℕ → ℕ → List Token → Res Definition
parse_custom_error first = expect Error (plain UnexpectedType) (λ k. named first error_rest)

-- a macro, fn or test behind its name: arguments, `=`, Takes and Returns, body
unfoldable pub macro_rest : Rules → MacroSort → ℕ → List Token → Res Form
macro_rest m sort =
    seq (parse_args name_argument) (λ args.
    expect Assign (plain UnexpectedType) (λ a.
    seq (optional Takes single_number 0) (λ takes.
    seq (optional Returns single_number 0) (λ returns.
    seq (body_from m) (λ r q ts. got (a_macro sort args takes returns r) 0)))))

-- parse_macro
unfoldable pub parse_macro : Rules → ℕ → ℕ → List Token → Res Definition
parse_macro m first =
    look (λ k.
    choose
    ((Macro, on (named first (macro_rest m the_macro))) ∷ (Fn, on (named first (macro_rest m the_fn))) ∷ (Test, on (named first (macro_rest m the_test))) ∷ [])
    (refuse (plain UnexpectedType))
    k.kind)

-- an entry of a table; any other token is 11
unfoldable pub table_entry : TableSort → ℕ → List Token → Res TableEntry
table_entry sort p =
    look (λ t. cond (eqb t.kind Ident && entry_allowed sort t) (taken (record { place = p; token = t })) (refuse (plain InvalidTableBodyToken))) p

-- a table ends at its brace
abbrev pub ends_table : Token → Bool
ends_table t = eqb t.kind CloseBrace

-- the entries of a table
unfoldable pub table_entries : TableSort → ℕ → List Token → Res (List TableEntry)
table_entries sort = many ends_table forget_entry (λ s. table_entry sort) tt 0

-- parse_table_body
unfoldable pub parse_table_body : TableSort → ℕ → List Token → Res (List TableEntry)
parse_table_body sort =
    expect OpenBrace (plain UnexpectedType) (λ o. seq (table_entries sort) (λ es. expect CloseBrace (plain InvalidTableBodyToken) (λ c q ts. got es 0)))

-- a token of kind k that may be missing
abbrev pub sign : ℕ → ℕ → List Token → Res (Unit {0})
sign k = optional k (λ q ts. got tt 0) tt

-- a table behind its name
unfoldable pub table_rest : TableSort → ℕ → List Token → Res Form
table_rest sort =
    seq (sign OpenParen) (λ o.
    seq (sign CloseParen) (λ c.
    seq (sign Assign) (λ a.
    seq (parse_table_body sort) (λ es q ts. got (a_table sort es) 0))))

-- parse_table
unfoldable pub parse_table : ℕ → ℕ → List Token → Res Definition
parse_table first =
    look (λ k.
    choose
    ((JumpTable, on (named first (table_rest jump_table))) ∷ (JumpTablePacked, on (named first (table_rest packed_table))) ∷ (CodeTable, on (named first (table_rest code_table))) ∷ [])
    (refuse (plain UnexpectedType))
    k.kind)

-- what may stand behind `#define`, by its kind
abbrev pub kind_table : Rules → ℕ → List (ℕ × (ℕ → List Token → Res Definition))
kind_table m first =
    (Function, parse_function first)
    ∷ (Event, parse_event first)
    ∷ (Constant, parse_constant first)
    ∷ (Error, parse_custom_error first)
    ∷ (Macro, parse_macro m first)
    ∷ (Fn, parse_macro m first)
    ∷ (Test, parse_macro m first)
    ∷ (JumpTable, parse_table first)
    ∷ (JumpTablePacked, parse_table first)
    ∷ (CodeTable, parse_table first)
    ∷ []

-- `#define`; a kind that can't be defined is 2
unfoldable pub parse_definition : Rules → ℕ → List Token → Res Definition
parse_definition m p = expect Define (plain UnexpectedType) (λ d. by_kind (kind_table m p) (plain InvalidDefinition)) p

-- what may stand at top level; Pound is 21
abbrev pub top_table : Rules → List (ℕ × (ℕ → List Token → Res Definition))
top_table m = (Include, parse_imports) ∷ (Pound, λ q us. bad (plain PoundAtTopLevel) q) ∷ (Define, parse_definition m) ∷ []

-- a definition at top level
unfoldable pub top_level : Rules → ℕ → List Token → Res Definition
top_level m = by_kind (top_table m) (plain UnexpectedType)

-- check_duplicate_macro, behind the brace: earlier macros, fns and tests have these names
unfoldable pub checked : Bool → List (List ℕ) → Res Definition → Res Definition
checked names seen (got d n) = cond (names && repeats seen d) (bad (plain DuplicateMacro) d.name) (got d n)
checked names seen (bad y q) = bad y q

-- a file ends at Eof
abbrev pub ends_file : Token → Bool
ends_file t = eqb t.kind Eof

-- one turn of parse: a definition behind macros, fns and tests of these names
unfoldable pub definition : Rules → Bool → List (List ℕ) → ℕ → List Token → Res Definition
definition m names seen p ts = checked names seen (top_level m p ts)

-- parse, from a place on
unfoldable pub parse : Rules → Bool → List (List ℕ) → ℕ → List Token → Res (List Definition)
parse m names seen = many ends_file remember_name (definition m names) seen 0

-- the file of the kept tokens
unfoldable pub file_at : Rules → Bool → List Token → Answer (List Definition)
file_at m names kept = answer (parse m names [] 0 kept)
