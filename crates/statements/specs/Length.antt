-- Inner: the plain length as the code adds it up: over the tokens of an accepted body, one by one, macro part and labels alike. `short`: one byte pushes a zero. That this is the plain length
-- of the body's reading is the theorem `length_is` (proofs/LengthLaws).
use Rattle.std.specs.Prelude.{ℕ, suc, ◌+◌, Bool, cond, not, ◌&&◌, ◌||◌, List, [], ◌∷◌, eqb, drop, Option, Some, None}
use Rattle.tokens.specs.Token.{Token}
use Rattle.tokens.specs.Kind.{CloseBrace, Colon, Ident, Label, Literal, Opcode}
use Rattle.tokens.specs.Push.{is_value_push, push_size, fits}
use Rattle.grammar.specs.Reading.{NONE}
use Rattle.grammar.specs.PlainLength.{literal_bytes}

-- the kinds of which a body with a length consists, but for its braces: a token of any other kind belongs to a statement without one
unfoldable pub plain_kind : ℕ → Bool
plain_kind k = eqb k Literal || eqb k Opcode || eqb k Ident || eqb k Label || eqb k Colon

-- the byte of an opcode; 0, which is no push's, of any other token
unfoldable pub opcode_byte : Token → ℕ
opcode_byte t = cond (eqb t.kind Opcode) t.extra 0

-- the token is the operand of a value push of this byte
unfoldable pub taken_by : ℕ → Token → Bool
taken_by byte t = eqb t.kind Literal && fits byte t.text

-- may the token stand behind an opcode of this byte (0: behind another token): behind a value push only its operand
unfoldable pub may_follow : ℕ → Token → Bool
unfolding taken_by
may_follow byte t = not (is_value_push byte) || taken_by byte t

-- the bytes of a token that is no operand
unfoldable pub own_token_bytes : Bool → Token → ℕ
own_token_bytes short t =
    cond (eqb t.kind Literal) (literal_bytes short t)
    (cond (eqb t.kind Ident) 3
    (cond (eqb t.kind Colon) 0 1))

-- of one that stands behind an opcode of this byte: an operand has the bytes that its push takes
unfoldable pub token_bytes : Bool → ℕ → Token → ℕ
unfolding own_token_bytes
token_bytes short byte t = cond (is_value_push byte) (push_size byte) (own_token_bytes short t)

-- the length at the closing brace, from these tokens on: the first stands behind an opcode of this byte, and b bytes stand before it; NONE if they end before
unfoldable pub length_on : Bool → ℕ → ℕ → List Token → ℕ
length_on short byte b [] = NONE
length_on short byte b (t ∷ ts) =
    cond (may_follow byte t)
    (cond (eqb t.kind CloseBrace) b
    (cond (plain_kind t.kind) (length_on short (opcode_byte t) (b + token_bytes short byte t) ts) NONE))
    NONE

-- of the body at place p: from behind its brace on
abbrev pub length_from : Bool → List Token → ℕ → ℕ
length_from short all p = length_on short 0 0 (drop (suc p) all)

-- as the code tells it: none where the number is the one for none
abbrev pub length_told : ℕ → Option ℕ
length_told long = cond (eqb long NONE) None (Some long)
