-- Inner: the same by computing, as the code goes: the lexeme by its first byte, the token, and the reading of a text from left to right. That it is what the other files say is proved
-- (Exactly, Exists).
use Rattle.std.specs.Prelude.{ℕ, zero, suc, ◌+◌, ◌-◌, Bool, cond, ◌&&◌, List, [], ◌∷◌, length, get_or, take, drop, eqb, ltb, Result, Ok, Err}
use Prim.Native.Char.{code}
use Rattle.tokens.specs.Byte.{bytes, is_hex}
use Rattle.tokens.specs.Kind.{Eof, Whitespace, Comment, Include, Define, Pound, FreeStoragePointer, Ident, Literal, Num, Str}
use Rattle.spelling.specs.Spelling.{marks, value_of}
use Rattle.lexemes.specs.Bytes.{is_space, is_digit, is_word_byte, in_line, in_quotes, begins, first}
use Rattle.lexemes.specs.Contexts.{is_code, after}
use Rattle.lexemes.specs.Texts.{too_large, told, quotes}
use Rattle.lexemes.specs.Reads.{eof_at}
use Rattle.lexemes.specs.Errors.{error_number}
use Rattle.lexemes.specs.declared.Context.{Context}
use Rattle.lexemes.specs.declared.Context.TheVariants.{Out}
use Rattle.lexemes.specs.declared.Found.{Found}
use Rattle.lexemes.specs.declared.Token.{Token}
use Rattle.lexemes.specs.declared.LexemeError.{LexemeError}
use Rattle.lexemes.specs.declared.LexemeError.TheVariants.{StartsNothing, NotClosed, TooLarge}

-- ---- the lexeme that comes first

-- what a look at the first byte finds, or why it is refused
abbrev pub Look : Type 0
Look = Result Found LexemeError

-- so many bytes of this kind
abbrev pub found : ℕ → ℕ → Look
found k n = Ok (record { kind = k; length = n })

-- how many bytes of a class come first
unfoldable pub run : (ℕ → Bool) → List ℕ → ℕ
run class [] = 0
run class (b ∷ bs) = cond (class b) (suc (run class bs)) 0

-- */ comes first
unfoldable pub closing : List ℕ → Bool
closing bs = eqb (get_or bs 0 0) (code "*") && eqb (get_or bs 1 0) (code "/")

-- how many bytes come before the first */
unfoldable pub opened : List ℕ → ℕ
opened [] = 0
opened (b ∷ bs) = cond (closing (b ∷ bs)) 0 (suc (opened bs))

-- // up to the next LF; /* up to the first */
unfoldable pub slash : List ℕ → Look
slash bs =
    cond (eqb (get_or bs 1 0) (code "/")) (found Comment (run in_line bs))
    (cond (eqb (get_or bs 1 0) (code "*"))
    (cond (ltb (opened (drop 2 bs)) (length (drop 2 bs))) (found Comment (opened (drop 2 bs) + 4)) (Err NotClosed))
    (Err StartsNothing))

-- up to the same quote, before any LF
unfoldable pub quoted : ℕ → List ℕ → Look
quoted q bs = cond (eqb (get_or bs (1 + run (in_quotes q) (drop 1 bs)) 0) q) (found Str (run (in_quotes q) (drop 1 bs) + 2)) (Err NotClosed)

-- # with exactly this word behind it
unfoldable pub hashed : List ℕ → List ℕ → Bool
hashed what bs = eqb (run is_word_byte (drop 1 bs)) (length what) && begins what (drop 1 bs)

unfoldable pub hash : List ℕ → Look
hash bs = cond (hashed (bytes "define") bs) (found Define 7) (cond (hashed (bytes "include") bs) (found Include 8) (found Pound 1))

-- 0x and so many hex digits
unfoldable pub digits : ℕ → Look
digits zero = Err StartsNothing
digits (suc n) = found Literal (suc n + 2)

unfoldable pub number : List ℕ → Look
number bs = cond (begins (bytes "0x") bs) (digits (run is_hex (drop 2 bs))) (found Num (run is_digit bs))

unfoldable pub word : List ℕ → Look
word bs = cond (begins (bytes "FREE_STORAGE_POINTER()") bs) (found FreeStoragePointer 22) (found Ident (run is_word_byte bs))

-- what begins with a letter, a digit or an underscore
unfoldable pub worded : Context → List ℕ → Look
worded c bs = cond (is_code c) (found Ident (run is_word_byte bs)) (cond (is_digit (first bs)) (number bs) (word bs))

-- a mark of this kind; Eof is none
unfoldable pub mark_is : ℕ → Look
mark_is zero = Err StartsNothing
mark_is (suc k) = found (suc k) 1

abbrev pub marked : ℕ → Look
marked b = mark_is (value_of marks Eof (b ∷ []))

-- by the first byte
unfoldable pub lexeme_of : Context → List ℕ → Look
lexeme_of c bs =
    cond (is_word_byte (first bs)) (worded c bs)
    (cond (is_space (first bs)) (found Whitespace (run is_space bs))
    (cond (eqb (first bs) (code "/")) (slash bs)
    (cond (eqb (first bs) (code "\"")) (quoted (code "\"") bs)
    (cond (eqb (first bs) (code "'")) (quoted (code "'") bs)
    (cond (eqb (first bs) (code "#")) (hash bs) (marked (first bs)))))))

-- ---- the token that it is

-- the token that comes first, or why there is none
abbrev pub Step : Type 0
Step = Result Token LexemeError

-- the token of these four words, with the next one at byte n
abbrev pub token : ℕ → ℕ → ℕ → ℕ → ℕ → Step
token k a e x n = Ok (record { kind = k; start = a; end = e; extra = x; next = n })

-- a lexeme of this kind from byte s to byte e: its bytes are w, and `next` is the byte behind it
unfoldable pub step_of : Context → ℕ → ℕ → ℕ → List ℕ → ℕ → Step
step_of c s e k w next =
    cond (too_large k w) (Err TooLarge) (token (told c k w next).0 (s + quotes k) (e - quotes k) (told c k w next).1 e)

abbrev pub step : Context → ℕ → List ℕ → Look → Step
step c s bs (Ok f) = step_of c s (s + f.length) f.kind (take f.length bs) (get_or bs f.length 0)
step c s bs (Err r) = Err r

-- the token that comes first in the bytes bs, which begin at byte s
unfoldable pub step_at : Context → ℕ → List ℕ → Step
step_at c s bs = step c s bs (lexeme_of c bs)

-- ---- the reading of a text

-- how a reading ends: at the text's end, or with a refusal's number and place
pub data Ending : Type 0 where
  whole : Ending
  refused : ℕ → ℕ → Ending

-- the tokens read, four words each, and the end
pub record Walked : Type 0 where
  pub tokens : List (List ℕ)
  pub end : Ending

abbrev pub more : List ℕ → Walked → Walked
more t r = record { tokens = t ∷ r.tokens; end = r.end }

abbrev pub onto : ℕ → Step → (ℕ → ℕ → Walked) → Walked
onto s (Ok t) rest = more (t.kind ∷ t.start ∷ t.end ∷ t.extra ∷ []) (rest t.kind t.next)
onto s (Err r) rest = record { tokens = []; end = refused (error_number r) s }

-- from byte s on, with k bytes of the last lexeme still to pass
unfoldable pub walk : Context → ℕ → ℕ → List ℕ → Walked
walk c s k [] = record { tokens = eof_at s ∷ []; end = whole }
walk c s zero (b ∷ bs) = onto s (step_at c s (b ∷ bs)) (λ kind n. walk (after c kind) (s + 1) (n - (s + 1)) bs)
walk c s (suc k) (b ∷ bs) = walk c (s + 1) k bs

abbrev pub reading : List ℕ → Walked
reading text = walk Out 0 0 text
