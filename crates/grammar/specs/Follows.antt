-- The words in which the theorems on bodies are stated.
use Rattle.std.specs.Prelude.{ℕ, suc, ◌+◌, ◌-◌, ◌≤◌, ◌≡◌, Bool, true, cond, not, ◌&&◌, ◌||◌, List, [], ◌∷◌, ◌++◌, length, take, drop, eqb, ltb}
use Rattle.tokens.specs.Number.{InvalidPush, InvalidArgs}
use Rattle.tokens.specs.Token.{Token, token_at}
use Rattle.tokens.specs.Kind.{kinds, Eof, Whitespace, Comment, Literal, Comma}
use Rattle.tokens.specs.WellFormed.{text_good, extra_good}
use Rattle.grammar.specs.Reading.{Reading}
use Rattle.grammar.specs.Rules.{Rules}
use Rattle.grammar.specs.Grammar.{Body}

-- the n tokens from place p lie in the list, follow the grammar and read r
abbrev pub Follows : Rules → List Token → ℕ → ℕ → Reading → Type 0
Follows m kept p n r = (p + n ≤ length kept) × Body m p (take n (drop p kept)) r

-- a token that may stand before the last of a well-formed kept list
unfoldable pub proper : Token → Bool
proper t =
    ltb t.kind kinds
    && not (eqb t.kind Eof || eqb t.kind Whitespace || eqb t.kind Comment)
    && text_good t.kind t.text
    && extra_good t.kind t.extra

-- only such tokens
unfoldable pub all_proper : List Token → Bool
all_proper [] = true
all_proper (t ∷ ts) = proper t && all_proper ts

-- the tokens before place w can go on to a body
abbrev pub Begins : Rules → List Token → ℕ → ℕ → Type 0
Begins m kept p w = (rest : List Token) × (r : Reading) × Body m p (take (w - p) (drop p kept) ++ rest) r × (all_proper rest ≡ true)

-- no list that keeps the tokens up to the one at w, that one too, has a body from p
abbrev pub Hopeless : Rules → List Token → ℕ → ℕ → Type 0
Hopeless m kept p w = (other : List Token) → take (suc w) kept ≡ take (suc w) other → (r : Reading) (n : ℕ) → ¬ Follows m other p n r

-- w is the first token that the rules don't allow
pub record FirstWrong (m : Rules) (kept : List Token) (p w : ℕ) : Type 0 where
  pub before : p ≤ w
  pub inside : w ≤ length kept
  pub begins : Begins m kept p w
  pub hopeless : Hopeless m kept p w

-- how far behind the first wrong token, the first of ts, the cursor of number c stands: one past a literal that overflows, one past a Comma that is eaten
unfoldable pub past : ℕ → List Token → ℕ
past c ts =
    cond (eqb c InvalidPush) (cond (eqb (token_at ts 0).kind Literal) 1 0) (cond (eqb c InvalidArgs) (cond (eqb (token_at ts 0).kind Comma) 1 0) 0)

-- the numbers that a body can be refused with; 22 only where a rule set forbids that a label's name repeats
abbrev pub is_body_number : Rules → ℕ → Bool
is_body_number m c =
    eqb c 1 || eqb c 4 || eqb c 5 || eqb c 6 || eqb c 7 || eqb c 8 || eqb c 10 || eqb c 12 || eqb c 13 || (m.names_once && eqb c 22)
