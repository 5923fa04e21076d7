-- Document 01, "Records": the words of a reading's records. Numbers of records are those of the call's whole table, so each definition takes how many
-- statement records (i) and argument records (a) stand before.
use Rattle.std.specs.Prelude.{ℕ, suc, ◌+◌, List, [], ◌∷◌, ◌++◌, map, length}
use Rattle.tokens.specs.Number.{literal_type, opcode_type, label_call_type, invocation_type, label_type, constant_type, argument_call_type, builtin_type}
use Rattle.grammar.specs.Reading.{Argument, Simple, Group, Reading, Sort, a_literal, an_opcode, a_label_call, an_invocation, a_constant, an_argument_call, a_builtin}

-- the type number of a statement that is no label
abbrev pub type_of : Sort → ℕ
type_of a_literal = literal_type
type_of an_opcode = opcode_type
type_of a_label_call = label_call_type
type_of an_invocation = invocation_type
type_of a_constant = constant_type
type_of an_argument_call = argument_call_type
type_of a_builtin = builtin_type

-- type, first, end, first inner, inner count, first argument, arguments, place of name or value token
abbrev pub simple_record : ℕ → ℕ → Simple → List ℕ
simple_record i a s = type_of s.sort ∷ s.first ∷ s.end ∷ suc i ∷ 0 ∷ a ∷ length s.args ∷ s.place ∷ []

-- the same for a label: its inner records follow it directly, and it has no arguments of its own
abbrev pub label_record : ℕ → ℕ → Group → List ℕ
label_record i a g = label_type ∷ g.first ∷ g.end ∷ suc i ∷ length g.inner ∷ a ∷ 0 ∷ g.first ∷ []

-- form, type place, name place, indexed, location, first, end
abbrev pub argument_record : Argument → List ℕ
argument_record a = a.form ∷ a.type ∷ a.name ∷ a.indexed ∷ a.location ∷ a.first ∷ a.end ∷ []

-- the arguments of statements, in reading order
unfoldable pub arguments_of : List Simple → List Argument
arguments_of [] = []
arguments_of (s ∷ ss) = s.args ++ arguments_of ss

-- of labels' inner statements
unfoldable pub group_arguments : List Group → List Argument
group_arguments [] = []
group_arguments (g ∷ gs) = arguments_of g.inner ++ group_arguments gs

-- of a reading
unfoldable pub all_arguments : Reading → List Argument
all_arguments r = arguments_of r.main ++ group_arguments r.groups

-- the records of statements, in reading order
unfoldable pub simple_records : ℕ → ℕ → List Simple → List (List ℕ)
simple_records i a [] = []
simple_records i a (s ∷ ss) = simple_record i a s ∷ simple_records (suc i) (a + length s.args) ss

-- of labels: each with its inner records directly behind it
unfoldable pub group_records : ℕ → ℕ → List Group → List (List ℕ)
group_records i a [] = []
group_records i a (g ∷ gs) =
    label_record i a g
    ∷ (simple_records (suc i) a g.inner ++ group_records (suc i + length g.inner) (a + length (arguments_of g.inner)) gs)

-- the statement records of a reading
unfoldable pub statement_records : ℕ → ℕ → Reading → List (List ℕ)
statement_records i a r =
    simple_records i a r.main ++ group_records (i + length r.main) (a + length (arguments_of r.main)) r.groups

-- its argument records
unfoldable pub argument_records : Reading → List (List ℕ)
argument_records r = map argument_record (all_arguments r)

-- how many statements a reading has, inner ones counted
unfoldable pub group_count : List Group → ℕ
group_count [] = 0
group_count (g ∷ gs) = suc (length g.inner) + group_count gs

-- of a whole reading
unfoldable pub statement_count : Reading → ℕ
statement_count r = length r.main + group_count r.groups

-- how many arguments
unfoldable pub argument_count : Reading → ℕ
argument_count r = length (all_arguments r)
