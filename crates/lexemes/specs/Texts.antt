-- Request [4]: the token that a lexeme is, and what is refused.
use Rattle.std.specs.Prelude.{ℕ, ◌+◌, ◌-◌, ◌*◌, ◌≡◌, Bool, true, false, cond, ◌||◌, List, [], ◌∷◌, length, get_or, take, eqb, ltb}
use Prim.Native.Char.{code}
use Rattle.tokens.specs.Byte.{bytes}
use Rattle.tokens.specs.Kind.{Ident, Literal, Num, Str}
use Rattle.tokens.specs.Number.{StartsNothing, NotClosed, TooLarge, longest_literal, most_number}
use Rattle.lexemes.specs.Bytes.{is_quote, begins, first}
use Rattle.lexemes.specs.Shapes.{Lexeme, NoLexeme}
use Rattle.lexemes.specs.Words.{Told, plain, word_of}
use Rattle.lexemes.specs.declared.Context.{Context}

-- the number that decimal digits write after a number v
unfoldable pub decimal_after : ℕ → List ℕ → ℕ
decimal_after v [] = v
decimal_after v (b ∷ bs) = decimal_after (v * 10 + (b - code "0")) bs

abbrev pub decimal : List ℕ → ℕ
decimal w = decimal_after 0 w

-- "a Num too large or literal too long"
unfoldable pub too_large : ℕ → List ℕ → Bool
too_large k w = cond (eqb k Num) (ltb most_number (decimal w)) (cond (eqb k Literal) (ltb longest_literal (length w)) false)

-- the kind and the extra of a lexeme w with this byte behind it: a word's as Words says, a Num's extra is its number
unfoldable pub told : Context → ℕ → List ℕ → ℕ → Told
told c k w next = cond (eqb k Ident) (word_of c w next) (cond (eqb k Num) (Num, decimal w) (plain k))

-- the quotes that a token's range leaves out at each end: "quotes of either sort a Str .., its range between them"
unfoldable pub quotes : ℕ → ℕ
quotes k = cond (eqb k Str) 1 0

-- the four words of a token whose lexeme is w and begins at byte s
unfoldable pub token_words : Context → ℕ → ℕ → List ℕ → ℕ → List ℕ
token_words c s k w next =
    (told c k w next).0
    ∷ (s + quotes k)
    ∷ (s + length w - quotes k)
    ∷ (told c k w next).1
    ∷ []

-- the bytes bs, which begin at byte s of the text, begin with n bytes that are the token t; the byte behind them is 0 at the end of the text
pub record IsToken (c : Context) (s : ℕ) (bs : List ℕ) (n : ℕ) (t : List ℕ) : Type 0 where
  pub kind : ℕ
  pub lexeme : Lexeme c bs kind n
  pub small : too_large kind (take n bs) ≡ false
  pub words : t ≡ token_words c s kind (take n bs) (get_or bs n 0)

-- a comment or a string opens here
unfoldable pub opens : List ℕ → Bool
opens bs = is_quote (first bs) || begins (bytes "/*") bs

-- what stands here is refused: "40 a byte or word that starts nothing, 41 a comment or string not closed, 42 a Num too large or literal too long"
pub data Bad (c : Context) (bs : List ℕ) : ℕ → Type 0 where
  nothing : NoLexeme c bs → opens bs ≡ false → Bad c bs StartsNothing
  unclosed : NoLexeme c bs → opens bs ≡ true → Bad c bs NotClosed
  large : {k n : ℕ} → Lexeme c bs k n → too_large k (take n bs) ≡ true → Bad c bs TooLarge
