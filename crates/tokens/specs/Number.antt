-- Document 01's numbers by name, and those of its change requests, but for the kinds of a token (Kind): refusals, modes, types, editions, the widths of records, what stands in
-- their words, and limits.
use Rattle.std.specs.Prelude.{ℕ}

-- ---- "Refusal numbers"

abbrev pub UnexpectedType : ℕ
UnexpectedType = 1

abbrev pub InvalidDefinition : ℕ
InvalidDefinition = 2

abbrev pub InvalidConstantValue : ℕ
InvalidConstantValue = 3

abbrev pub InvalidPush : ℕ
InvalidPush = 4

abbrev pub InvalidTokenInMacroBody : ℕ
InvalidTokenInMacroBody = 5

abbrev pub InvalidTokenInLabelDefinition : ℕ
InvalidTokenInLabelDefinition = 6

abbrev pub InvalidTypeAsArgumentName : ℕ
InvalidTypeAsArgumentName = 7

abbrev pub InvalidArgs : ℕ
InvalidArgs = 8

abbrev pub InvalidSingleArg : ℕ
InvalidSingleArg = 9

abbrev pub InvalidMacroArgs : ℕ
InvalidMacroArgs = 10

abbrev pub InvalidTableBodyToken : ℕ
InvalidTableBodyToken = 11

abbrev pub InvalidConstant : ℕ
InvalidConstant = 12

abbrev pub InvalidArgCallIdent : ℕ
InvalidArgCallIdent = 13

abbrev pub DuplicateMacro : ℕ
DuplicateMacro = 20

abbrev pub PoundAtTopLevel : ℕ
PoundAtTopLevel = 21

abbrev pub DuplicateLabel : ℕ
DuplicateLabel = 22

abbrev pub NotWellFormed : ℕ
NotWellFormed = 30

abbrev pub StartOutside : ℕ
StartOutside = 31

abbrev pub DefinitionsTooSmall : ℕ
DefinitionsTooSmall = 32

abbrev pub StatementsTooSmall : ℕ
StatementsTooSmall = 33

abbrev pub ArgumentsTooSmall : ℕ
ArgumentsTooSmall = 34

abbrev pub KeptTooShort : ℕ
KeptTooShort = 35

abbrev pub UnknownMode : ℕ
UnknownMode = 36

abbrev pub UnknownEdition : ℕ
UnknownEdition = 38

-- of a text that is cut into tokens, request [4]: too long; a byte or word that starts nothing; a comment or string not closed; a Num too large or a literal too long; the
-- token list too short, or more tokens than a list may have
abbrev pub TextTooLong : ℕ
TextTooLong = 39

abbrev pub StartsNothing : ℕ
StartsNothing = 40

abbrev pub NotClosed : ℕ
NotClosed = 41

abbrev pub TooLarge : ℕ
TooLarge = 42

abbrev pub TokensTooShort : ℕ
TokensTooShort = 43

-- ---- the modes of a call: as document 01 reads, and strictly

abbrev pub lenient_mode : ℕ
lenient_mode = 0

abbrev pub strict_mode : ℕ
strict_mode = 1

-- ---- the types of a name, and 0 for a name that is none

abbrev pub type_none : ℕ
type_none = 0

abbrev pub type_address : ℕ
type_address = 1

abbrev pub type_bool : ℕ
type_bool = 2

abbrev pub type_string : ℕ
type_string = 3

abbrev pub type_bytes : ℕ
type_bytes = 4

abbrev pub type_uint : ℕ
type_uint = 5

abbrev pub type_int : ℕ
type_int = 6

abbrev pub type_bytes_n : ℕ
type_bytes_n = 7

-- ---- the sizes of a type: the most bits of uint and int, and the step between two; the most bytes of bytesN

abbrev pub widest_bits : ℕ
widest_bits = 256

abbrev pub bits_step : ℕ
bits_step = 8

abbrev pub widest_bytes : ℕ
widest_bytes = 32

-- ---- the editions of the plain length: as before request [8], and where one byte pushes a zero

abbrev pub first_edition : ℕ
first_edition = 1

abbrev pub second_edition : ℕ
second_edition = 2

-- ---- "Records, in 32-bit words"

abbrev pub token_width : ℕ
token_width = 4

-- 12 in document 01; request [7] adds two
abbrev pub definition_width : ℕ
definition_width = 14

abbrev pub statement_width : ℕ
statement_width = 8

abbrev pub argument_width : ℕ
argument_width = 7

-- ---- what stands in the words of a record: a definition's kind, a statement's type, an argument's form and location

abbrev pub import_definition : ℕ
import_definition = 1

abbrev pub function_definition : ℕ
function_definition = 2

abbrev pub event_definition : ℕ
event_definition = 3

abbrev pub constant_definition : ℕ
constant_definition = 4

abbrev pub error_definition : ℕ
error_definition = 5

abbrev pub macro_definition : ℕ
macro_definition = 6

abbrev pub fn_definition : ℕ
fn_definition = 7

abbrev pub test_definition : ℕ
test_definition = 8

abbrev pub jump_table_definition : ℕ
jump_table_definition = 9

abbrev pub packed_table_definition : ℕ
packed_table_definition = 10

abbrev pub code_table_definition : ℕ
code_table_definition = 11

abbrev pub literal_type : ℕ
literal_type = 1

abbrev pub opcode_type : ℕ
opcode_type = 2

abbrev pub label_call_type : ℕ
label_call_type = 3

abbrev pub invocation_type : ℕ
invocation_type = 4

abbrev pub label_type : ℕ
label_type = 5

abbrev pub constant_type : ℕ
constant_type = 6

abbrev pub argument_call_type : ℕ
argument_call_type = 7

abbrev pub builtin_type : ℕ
builtin_type = 8

abbrev pub code_type : ℕ
code_type = 9

abbrev pub name_form : ℕ
name_form = 1

abbrev pub string_form : ℕ
string_form = 2

abbrev pub literal_form : ℕ
literal_form = 3

abbrev pub call_literal_form : ℕ
call_literal_form = 4

abbrev pub call_name_form : ℕ
call_name_form = 5

abbrev pub call_angled_form : ℕ
call_angled_form = 6

abbrev pub in_calldata : ℕ
in_calldata = 1

abbrev pub in_memory : ℕ
in_memory = 2

abbrev pub in_storage : ℕ
in_storage = 3

-- ---- "at most 1,048,576 bytes", "1 to 65,536 tokens"

abbrev pub most_bytes : ℕ
most_bytes = 1048576

abbrev pub most_tokens : ℕ
most_tokens = 65536

-- ---- "0x and 1 to 64 hex digits": the bytes of the longest literal; "a Num up to 4,294,967,295"

abbrev pub longest_literal : ℕ
longest_literal = 66

abbrev pub most_number : ℕ
most_number = 4294967295
