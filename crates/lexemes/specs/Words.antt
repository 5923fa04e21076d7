-- Request [4]: which word a word is, by its text, the byte behind it and where it stands.
use Rattle.std.specs.Prelude.{ℕ, cond, ◌&&◌, List, eqb, ltb}
use Prim.Native.Char.{code}
use Rattle.tokens.specs.Byte.{bytes}
use Rattle.tokens.specs.Kind.{Ident, Label, Opcode, BuiltinFunction}
use Rattle.spelling.specs.Spelling.{no_opcode, opcode_of, kind_outside}
use Rattle.lexemes.specs.Bytes.{begins}
use Rattle.lexemes.specs.Contexts.{is_code, is_body}
use Rattle.lexemes.specs.declared.Context.{Context}

-- a token's kind and its extra
abbrev pub Told : Type 0
Told = ℕ × ℕ

-- a token whose extra is 0
abbrev pub plain : ℕ → Told
plain k = (k, 0)

-- "inside braces a lower-case Yellow Paper mnemonic, or `push0`, is an Opcode .. other words are Ident"
unfoldable pub in_braces : List ℕ → Told
in_braces w = cond (ltb (opcode_of w) no_opcode) (Opcode, opcode_of w) (plain Ident)

-- inside braces, or outside them
unfoldable pub by_place : Context → List ℕ → Told
by_place c w = cond (is_body c) (in_braces w) (plain (kind_outside w))

-- in a code table's braces an Ident. "Elsewhere a word directly before a colon is a Label, else with two leading underscores directly before `(` a BuiltinFunction; else"
-- by its place
unfoldable pub word_of : Context → List ℕ → ℕ → Told
word_of c w next =
    cond (is_code c) (plain Ident)
    (cond (eqb next (code ":")) (plain Label) (cond (eqb next (code "(") && begins (bytes "__") w) (plain BuiltinFunction) (by_place c w)))
