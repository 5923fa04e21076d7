-- Document 01, "Plain length, added", with requests [3] and [8] of document 02: the bytes of a body, in either edition.
use Rattle.std.specs.Prelude.{ℕ, suc, ◌+◌, Bool, true, false, cond, not, ◌&&◌, ◌||◌, eqb, length, take, drop}
use mathlib.Core.List.{List, [], ◌∷◌, ◌++◌, map, flatten, sum, zip_with}
use Rattle.tokens.specs.Number.{first_edition, second_edition}
use Rattle.tokens.specs.Token.{Token}
use Rattle.tokens.specs.Push.{is_value_push, push_size, fits}
use Rattle.tokens.specs.Literal.{literal_value, is_zero, significant}
use Rattle.grammar.specs.Reading.{Simple, Group, Reading, Sort, NONE, a_literal, an_opcode, a_label_call, an_invocation, a_constant, an_argument_call, a_builtin}
use Rattle.grammar.specs.Records.{type_of}

-- the editions that there are
unfoldable pub is_edition : ℕ → Bool
is_edition edition = eqb edition first_edition || eqb edition second_edition

-- the edition in which "one byte can push a zero"; below, `short` says whether it is that one
abbrev pub short_zeros : ℕ → Bool
short_zeros edition = eqb edition second_edition

-- s is of this sort, told by its type number
abbrev pub is_a : Sort → Simple → Bool
is_a sort s = eqb (type_of s.sort) (type_of sort)

-- s is a value push
abbrev pub value_push : Simple → Bool
value_push s = is_a an_opcode s && is_value_push s.token.extra

-- l, the statement directly after s, is the operand of s: "a literal directly after a value push .. if it fits"
abbrev pub is_operand : Simple → Simple → Bool
is_operand s l = value_push s && is_a a_literal l && fits s.token.extra l.token.text

-- what is counted at once: a statement, with its operand or without
pub record Instruction : Type 0 where
  pub statement : Simple
  pub with_operand : Bool

-- the instructions of a macro part or of a label; an operand belongs to its push and is none by itself
unfoldable pub instructions : List Simple → List Instruction
instructions [] = []
instructions (s ∷ []) = record { statement = s; with_operand = false } ∷ []
instructions (s ∷ l ∷ ss) =
    cond (is_operand s l) (record { statement = s; with_operand = true } ∷ instructions ss)
    (record { statement = s; with_operand = false } ∷ instructions (l ∷ ss))

-- of labels, one by one: an operand stands "in the same label"
abbrev pub group_instructions : List Group → List Instruction
group_instructions gs = flatten (map (λ (g : Group). instructions g.inner) gs)

-- of a body
unfoldable pub body_instructions : Reading → List Instruction
body_instructions r = instructions r.main ++ group_instructions r.groups

-- of a literal that is no push's operand: "1 plus its significant bytes", and in edition 2 a zero "counts 1"
abbrev pub literal_bytes : Bool → Token → ℕ
literal_bytes short t = cond (is_zero t.text && short) 1 (suc (significant (literal_value t.text)))

-- "opcode 1; .. label call 3; .. any other literal" as above; the other sorts have none, and 0 stands for it
abbrev pub own_bytes : Bool → Sort → Token → ℕ
own_bytes short a_literal t = literal_bytes short t
own_bytes short an_opcode t = 1
own_bytes short a_label_call t = 3
own_bytes short an_invocation t = 0
own_bytes short a_constant t = 0
own_bytes short an_argument_call t = 0
own_bytes short a_builtin t = 0

-- a statement's own bytes, and for its operand "n"
abbrev pub instruction_bytes : Bool → Instruction → ℕ
instruction_bytes short x = own_bytes short x.statement.sort x.statement.token + cond x.with_operand (push_size x.statement.token.extra) 0

-- "If any other statement occurs, NONE": these three sorts have bytes
abbrev pub measured : Sort → Bool
measured a_literal = true
measured an_opcode = true
measured a_label_call = true
measured an_invocation = false
measured a_constant = false
measured an_argument_call = false
measured a_builtin = false

-- "if not, or if none follows the push, the length is NONE": a value push is complete only with its operand
abbrev pub complete : Instruction → Bool
complete x = x.with_operand || not (value_push x.statement)

-- an instruction that has a length
abbrev pub has_length : Instruction → Bool
has_length x = measured x.statement.sort && complete x

-- every one of a list passes a test
unfoldable pub every : (Instruction → Bool) → List Instruction → Bool
every test [] = true
every test (x ∷ xs) = test x && every test xs

-- the bytes of instructions together
abbrev pub total_bytes : Bool → List Instruction → ℕ
total_bytes short xs = sum ◌+◌ 0 (map (instruction_bytes short) xs)

-- the plain length of a body: "label 1 plus its items", so 1 for each label and the bytes of all instructions; NONE if one of these has no length
unfoldable pub plain_length : Bool → Reading → ℕ
plain_length short r = cond (every has_length (body_instructions r)) (length r.groups + total_bytes short (body_instructions r)) NONE

-- ---- "the number of such zeros", by which the editions differ

-- a literal whose value is zero
abbrev pub zero_literal : Simple → Bool
zero_literal l = is_a a_literal l && is_zero l.token.text

-- 1 for a statement that passes the test
abbrev pub one : Bool → ℕ
one test = cond test 1 0

-- how many zero literals of a macro part or of a label are no push's operand: the first statement has none before it, so it is no operand; each of the others
-- is seen with the statement directly before it
unfoldable pub free_zeros : List Simple → ℕ
free_zeros ss =
    sum ◌+◌ 0 (map (λ (s : Simple). one (zero_literal s)) (take 1 ss))
    + sum ◌+◌ 0 (zip_with (λ (s l : Simple). one (zero_literal l && not (is_operand s l))) ss (drop 1 ss))

-- of a body
unfoldable pub body_free_zeros : Reading → ℕ
body_free_zeros r = free_zeros r.main + sum ◌+◌ 0 (map (λ (g : Group). free_zeros g.inner) r.groups)
