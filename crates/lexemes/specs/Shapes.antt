-- Request [4]: what a lexeme is, by conditions on its bytes alone, and "the longest match wins". No lexer stands here.
use Rattle.std.specs.Prelude.{ℕ, ◌+◌, ◌-◌, ◌≤◌, ◌<◌, ◌≡◌, true, false, List, ◌++◌, length, get_or, take, drop}
use Rattle.tokens.specs.Byte.{bytes, is_hex}
use Rattle.tokens.specs.Kind.{Eof, Whitespace, Comment, Include, Define, FreeStoragePointer, Ident, Literal, Num, Str}
use Rattle.spelling.specs.Spelling.{marks, value_of}
use Rattle.lexemes.specs.Bytes.{is_space, is_digit, is_word_byte, is_quote, in_line, in_quotes, all, begins, first}
use Rattle.lexemes.specs.Contexts.{is_code}
use Rattle.lexemes.specs.declared.Context.{Context}

-- the bytes w, with `rest` behind them, are a lexeme of this kind. A word's kind is Ident here: which word it is, is told afterwards (Words)
pub data Shape (c : Context) (w rest : List ℕ) : ℕ → Type 0 where
  -- "A run of space, tab, CR and LF is one Whitespace"
  space : 0 < length w → all is_space w ≡ true → Shape c w rest Whitespace
  -- "`//` runs up to the next LF or the end"
  line : begins (bytes "//") w ≡ true → all in_line w ≡ true → Shape c w rest Comment
  -- "`/* */` doesn't nest": the first `*/` behind the opening ends it
  block : 4 ≤ length w
      → begins (bytes "/*") w ≡ true
      → begins (bytes "*/") (drop (length w - 2) w) ≡ true
      → ((i : ℕ) → 2 ≤ i → i + 2 < length w → begins (bytes "*/") (drop i w) ≡ false)
      → Shape c w rest Comment
  -- "quotes of either sort a Str without LF": the quote that opens it closes it
  string : 2 ≤ length w
      → is_quote (first w) ≡ true
      → get_or w (length w - 1) 0 ≡ first w
      → all (in_quotes (first w)) (take (length w - 2) (drop 1 w)) ≡ true
      → Shape c w rest Str
  -- `#define` and `#include`, if the word behind # is exactly that
  define : w ≡ bytes "#define" → is_word_byte (first rest) ≡ false → Shape c w rest Define
  include : w ≡ bytes "#include" → is_word_byte (first rest) ≡ false → Shape c w rest Include
  -- a mark (Spelling); other bytes are given 0 there, Eof's number and no mark's
  mark : {k : ℕ} → value_of marks Eof w ≡ k → 0 < k → Shape c w rest k
  -- in a code table's braces "every word, digits first too"
  entry : is_code c ≡ true → 0 < length w → all is_word_byte w ≡ true → Shape c w rest Ident
  -- elsewhere: "`0x` and its hex digits are a literal"
  literal : is_code c ≡ false → 3 ≤ length w → begins (bytes "0x") w ≡ true → all is_hex (drop 2 w) ≡ true → Shape c w rest Literal
  -- "decimal digits a Num"; what begins with 0x is none, so that 0x without a digit is nothing
  number : is_code c ≡ false → 0 < length w → all is_digit w ≡ true → begins (bytes "0x") (w ++ rest) ≡ false → Shape c w rest Num
  -- "Words are ASCII letters, digits and underscores, no digit first"
  word : is_code c ≡ false → 0 < length w → all is_word_byte w ≡ true → is_digit (first w) ≡ false → Shape c w rest Ident
  -- "`FREE_STORAGE_POINTER()` is one token"
  pointer : is_code c ≡ false → w ≡ bytes "FREE_STORAGE_POINTER()" → Shape c w rest FreeStoragePointer

-- the first n of these bytes are a lexeme
abbrev pub Begins : Context → List ℕ → ℕ → ℕ → Type 0
Begins c bs k n = (n ≤ length bs) × Shape c (take n bs) (drop n bs) k

-- "the longest match wins": the first n of these bytes are a lexeme of kind k, and no more of them are one of any kind
pub record Lexeme (c : Context) (bs : List ℕ) (k n : ℕ) : Type 0 where
  pub shape : Begins c bs k n
  pub longest : (j m : ℕ) → Begins c bs j m → m ≤ n

-- no lexeme begins here
abbrev pub NoLexeme : Context → List ℕ → Type 0
NoLexeme c bs = (j m : ℕ) → ¬ Begins c bs j m
