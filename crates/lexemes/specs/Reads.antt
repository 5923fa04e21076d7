-- Request [4]: a text's reading, and where a text that has none stops. From left to right, each token where the last lexeme ended, in the context of the kinds before it.
use Rattle.std.specs.Prelude.{ℕ, ◌+◌, ◌<◌, ◌≡◌, List, [], ◌∷◌, length, get_or, drop}
use Rattle.tokens.specs.Kind.{Eof}
use Rattle.lexemes.specs.Contexts.{after}
use Rattle.lexemes.specs.Texts.{IsToken, Bad}
use Rattle.lexemes.specs.declared.Context.{Context}
use Rattle.lexemes.specs.declared.Context.TheVariants.{Out}

-- a token's kind
abbrev pub kind_in : List ℕ → ℕ
kind_in t = get_or t 0 0

-- the last token, at the end of the text
abbrev pub eof_at : ℕ → List ℕ
eof_at s = Eof ∷ s ∷ s ∷ 0 ∷ []

-- the tokens of the text from byte s on
pub data Reads (text : List ℕ) : Context → ℕ → List (List ℕ) → Type 0 where
  ends : {c : Context} {s : ℕ} → s ≡ length text → Reads text c s (eof_at s ∷ [])
  goes : {c : Context} {s n : ℕ} {t : List ℕ} {ts : List (List ℕ)}
      → s < length text
      → IsToken c s (drop s text) n t
      → Reads text (after c (kind_in t)) (s + n) ts
      → Reads text c s (t ∷ ts)

-- from byte s on the text is refused with number r at byte q
pub data Stops (text : List ℕ) : Context → ℕ → ℕ → ℕ → Type 0 where
  here : {c : Context} {s r : ℕ} → s < length text → Bad c (drop s text) r → Stops text c s r s
  later : {c : Context} {s n r q : ℕ} {t : List ℕ}
      → s < length text
      → IsToken c s (drop s text) n t
      → Stops text (after c (kind_in t)) (s + n) r q
      → Stops text c s r q

-- the whole text's tokens
abbrev pub Reading : List ℕ → List (List ℕ) → Type 0
Reading text ts = Reads text Out 0 ts

-- the whole text's refusal
abbrev pub Refusal : List ℕ → ℕ → ℕ → Type 0
Refusal text r q = Stops text Out 0 r q
