-- Document 01, "Lent things": the kinds of a token, by name and number.
use Rattle.std.specs.Prelude.{ℕ}

abbrev pub Eof : ℕ
Eof = 0

abbrev pub Whitespace : ℕ
Whitespace = 1

abbrev pub Comment : ℕ
Comment = 2

abbrev pub Include : ℕ
Include = 3

abbrev pub Define : ℕ
Define = 4

abbrev pub Pound : ℕ
Pound = 5

abbrev pub Macro : ℕ
Macro = 6

abbrev pub Fn : ℕ
Fn = 7

abbrev pub Test : ℕ
Test = 8

abbrev pub Function : ℕ
Function = 9

abbrev pub Event : ℕ
Event = 10

abbrev pub Constant : ℕ
Constant = 11

abbrev pub Error : ℕ
Error = 12

abbrev pub JumpTable : ℕ
JumpTable = 13

abbrev pub JumpTablePacked : ℕ
JumpTablePacked = 14

abbrev pub CodeTable : ℕ
CodeTable = 15

abbrev pub Takes : ℕ
Takes = 16

abbrev pub Returns : ℕ
Returns = 17

abbrev pub View : ℕ
View = 18

abbrev pub Pure : ℕ
Pure = 19

abbrev pub Payable : ℕ
Payable = 20

abbrev pub NonPayable : ℕ
NonPayable = 21

abbrev pub Indexed : ℕ
Indexed = 22

abbrev pub Calldata : ℕ
Calldata = 23

abbrev pub Memory : ℕ
Memory = 24

abbrev pub Storage : ℕ
Storage = 25

abbrev pub Assign : ℕ
Assign = 26

abbrev pub OpenParen : ℕ
OpenParen = 27

abbrev pub CloseParen : ℕ
CloseParen = 28

abbrev pub OpenBrace : ℕ
OpenBrace = 29

abbrev pub CloseBrace : ℕ
CloseBrace = 30

abbrev pub OpenBracket : ℕ
OpenBracket = 31

abbrev pub CloseBracket : ℕ
CloseBracket = 32

abbrev pub LeftAngle : ℕ
LeftAngle = 33

abbrev pub RightAngle : ℕ
RightAngle = 34

abbrev pub Comma : ℕ
Comma = 35

abbrev pub Colon : ℕ
Colon = 36

abbrev pub FreeStoragePointer : ℕ
FreeStoragePointer = 37

abbrev pub Ident : ℕ
Ident = 38

abbrev pub Label : ℕ
Label = 39

abbrev pub Literal : ℕ
Literal = 40

abbrev pub Opcode : ℕ
Opcode = 41

abbrev pub Num : ℕ
Num = 42

abbrev pub Str : ℕ
Str = 43

abbrev pub BuiltinFunction : ℕ
BuiltinFunction = 44

abbrev pub PrimitiveType : ℕ
PrimitiveType = 45

-- how many kinds there are: a number is a known kind exactly if it is less
abbrev pub kinds : ℕ
kinds = 46
