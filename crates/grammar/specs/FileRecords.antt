-- Document 01, "Records", and request [7]: the words of a file's records. Numbers of records are those of the call's whole table, so each definition takes how many
-- statement records (i) and argument records (a) stand before.
use Rattle.std.specs.Prelude.{ℕ, suc, ◌+◌, ◌-◌, List, [], ◌∷◌, ◌++◌, map, length}
use Rattle.tokens.specs.Token.{Positions}
use Rattle.tokens.specs.Number.{import_definition, function_definition, event_definition, constant_definition, error_definition, macro_definition, fn_definition, test_definition, jump_table_definition, packed_table_definition, code_table_definition, label_call_type, code_type}
use Rattle.grammar.specs.Reading.{Argument}
use Rattle.grammar.specs.Records.{argument_record, all_arguments, statement_records, statement_count}
use Rattle.grammar.specs.FileReading.{Value, literal_at, pointer_at, MacroSort, the_macro, the_fn, the_test, TableSort, jump_table, packed_table, code_table, TableEntry, Form, an_import, a_function, an_event, a_defined_constant, an_error, a_macro, a_table, Definition, size_of}

-- kind: 6 macro, 7 fn, 8 test
abbrev pub macro_number : MacroSort → ℕ
macro_number the_macro = macro_definition
macro_number the_fn = fn_definition
macro_number the_test = test_definition

-- 9 jump table, 10 packed, 11 code table
abbrev pub table_number : TableSort → ℕ
table_number jump_table = jump_table_definition
table_number packed_table = packed_table_definition
table_number code_table = code_table_definition

-- the kind of a definition
abbrev pub kind_number : Form → ℕ
kind_number an_import = import_definition
kind_number (a_function inputs type outputs) = function_definition
kind_number (an_event args) = event_definition
kind_number (a_defined_constant v) = constant_definition
kind_number (an_error args) = error_definition
kind_number (a_macro sort args takes returns r) = macro_number sort
kind_number (a_table sort es) = table_number sort

-- the declared arguments
abbrev pub inputs_of : Form → List Argument
inputs_of an_import = []
inputs_of (a_function inputs type outputs) = inputs
inputs_of (an_event args) = args
inputs_of (a_defined_constant v) = []
inputs_of (an_error args) = args
inputs_of (a_macro sort args takes returns r) = args
inputs_of (a_table sort es) = []

-- the outputs, a function's alone
abbrev pub outputs_of : Form → List Argument
outputs_of an_import = []
outputs_of (a_function inputs type outputs) = outputs
outputs_of (an_event args) = []
outputs_of (a_defined_constant v) = []
outputs_of (an_error args) = []
outputs_of (a_macro sort args takes returns r) = []
outputs_of (a_table sort es) = []

-- the arguments of the statements, a body's alone
abbrev pub inner_arguments : Form → List Argument
inner_arguments an_import = []
inner_arguments (a_function inputs type outputs) = []
inner_arguments (an_event args) = []
inner_arguments (a_defined_constant v) = []
inner_arguments (an_error args) = []
inner_arguments (a_macro sort args takes returns r) = all_arguments r
inner_arguments (a_table sort es) = []

-- all arguments of a definition in reading order: "arguments, outputs, then statements"
unfoldable pub form_arguments : Form → List Argument
form_arguments f = inputs_of f ++ (outputs_of f ++ inner_arguments f)

-- "type 3 in jump and packed tables, 9 in code tables"
abbrev pub entry_type : TableSort → ℕ
entry_type jump_table = label_call_type
entry_type packed_table = label_call_type
entry_type code_table = code_type

-- a table entry as a statement: a range of 1, place the Ident
unfoldable pub entry_records : TableSort → ℕ → ℕ → List TableEntry → List (List ℕ)
entry_records sort i a [] = []
entry_records sort i a (e ∷ es) =
    (entry_type sort ∷ e.place ∷ suc e.place ∷ suc i ∷ 0 ∷ a ∷ 0 ∷ e.place ∷ []) ∷ entry_records sort (suc i) a es

-- the statements of a definition, inner ones counted
unfoldable pub form_count : Form → ℕ
form_count an_import = 0
form_count (a_function inputs type outputs) = 0
form_count (an_event args) = 0
form_count (a_defined_constant v) = 0
form_count (an_error args) = 0
form_count (a_macro sort args takes returns r) = statement_count r
form_count (a_table sort es) = length es

-- their records, behind i statement records and, the definition's declared arguments counted, a argument records
unfoldable pub form_statements : ℕ → ℕ → Form → List (List ℕ)
form_statements i a an_import = []
form_statements i a (a_function inputs type outputs) = []
form_statements i a (an_event args) = []
form_statements i a (a_defined_constant v) = []
form_statements i a (an_error args) = []
form_statements i a (a_macro sort args takes returns r) = statement_records i a r
form_statements i a (a_table sort es) = entry_records sort i a es

-- A and B of a constant: "1 and the literal's place, or 2 and that of FreeStoragePointer"
abbrev pub value_words : Value → List ℕ
value_words (literal_at p) = 1 ∷ p ∷ []
value_words (pointer_at p) = 2 ∷ p ∷ []

-- "A, B: takes, returns; a function's type, then 0; .. a table's size, 0; else 0, 0"
abbrev pub form_words : Form → List ℕ
form_words an_import = 0 ∷ 0 ∷ []
form_words (a_function inputs type outputs) = type ∷ 0 ∷ []
form_words (an_event args) = 0 ∷ 0 ∷ []
form_words (a_defined_constant v) = value_words v
form_words (an_error args) = 0 ∷ 0 ∷ []
form_words (a_macro sort args takes returns r) = takes ∷ returns ∷ []
form_words (a_table sort es) = size_of sort es ∷ 0 ∷ []

-- the argument records before a definition's statements, where a stand before the definition
abbrev pub behind_declared : ℕ → Form → ℕ
behind_declared a f = a + length (inputs_of f) + length (outputs_of f)

-- request [7], in bytes of the text: "its first token's start and its last token's end". The last token is the last kept one of its range: white space and comments
-- behind it lie outside
abbrev pub text_range : Positions → Definition → List ℕ
text_range pos d = pos.start d.first ∷ pos.end (d.end - 1) ∷ []

-- kind, name place, first, end, first argument, arguments, first output, outputs, first statement, statements, A, B, start and end in the text
unfoldable pub definition_record : Positions → ℕ → ℕ → Definition → List ℕ
definition_record pos i a d =
    kind_number d.form
    ∷ d.name
    ∷ d.first
    ∷ d.end
    ∷ a
    ∷ length (inputs_of d.form)
    ∷ (a + length (inputs_of d.form))
    ∷ length (outputs_of d.form)
    ∷ i
    ∷ form_count d.form
    ∷ (form_words d.form ++ text_range pos d)

-- the definition records of a file, behind i statement and a argument records
unfoldable pub definition_records : Positions → ℕ → ℕ → List Definition → List (List ℕ)
definition_records pos i a [] = []
definition_records pos i a (d ∷ ds) =
    definition_record pos i a d ∷ definition_records pos (i + form_count d.form) (a + length (form_arguments d.form)) ds

-- its statement records
unfoldable pub file_statements : ℕ → ℕ → List Definition → List (List ℕ)
file_statements i a [] = []
file_statements i a (d ∷ ds) =
    form_statements i (behind_declared a d.form) d.form
    ++ file_statements (i + form_count d.form) (a + length (form_arguments d.form)) ds

-- its arguments
unfoldable pub file_arguments : List Definition → List Argument
file_arguments [] = []
file_arguments (d ∷ ds) = form_arguments d.form ++ file_arguments ds

-- its argument records
unfoldable pub file_argument_records : List Definition → List (List ℕ)
file_argument_records ds = map argument_record (file_arguments ds)

-- how many statements a file has; its definitions are `length ds`, its arguments `length (file_arguments ds)`
unfoldable pub file_statement_count : List Definition → ℕ
file_statement_count [] = 0
file_statement_count (d ∷ ds) = form_count d.form + file_statement_count ds
