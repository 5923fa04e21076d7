-- What a reader answers, and the three ways in which readers are put together: look at one token, one reader behind another, many.
use Rattle.std.specs.Prelude.{ℕ, zero, suc, ◌+◌, Bool, true, false, cond, List, [], ◌∷◌, drop, eqb}
use Rattle.tokens.specs.Number.{InvalidPush, InvalidArgs}
use Rattle.tokens.specs.Token.{Token, token_at}

-- why a token is refused: with a number at its own place; as a literal too large for its push; as a Comma that is eaten first
pub data Why : Type 0 where
  plain : ℕ → Why
  overflow : Why
  eaten : Why

-- document 01's number
abbrev pub number : Why → ℕ
number (plain n) = n
number overflow = InvalidPush
number eaten = InvalidArgs

-- how far behind the first wrong token the cursor stands: "an overflowing push is refused after its literal", "an untyped list's Comma is eaten"
abbrev pub beyond : Why → ℕ
beyond (plain n) = 0
beyond overflow = 1
beyond eaten = 1

-- a result of reading from some place
pub data Res (A : Type 0) : Type 0 where
  -- the value, and the tokens it took
  got : A → ℕ → Res A
  -- why, and the first wrong place
  bad : Why → ℕ → Res A

-- the answer to a call: what was read and the tokens it took, or document 01's number and cursor
pub data Answer (A : Type 0) : Type 0 where
  read : A → ℕ → Answer A
  refused : ℕ → ℕ → Answer A

-- number and cursor, read off the reason and the first wrong place
abbrev pub answer : {A : Type 0} → Res A → Answer A
answer (got x n) = read x n
answer (bad y w) = refused (number y) (w + beyond y)

-- what to do at a token: refuse it; be done before it; take it and read on
pub data Step (A : Type 0) : Type 0 where
  refuse : Why → Step A
  leave : A → Step A
  on : (ℕ → List Token → Res A) → Step A

-- take it and be done
abbrev pub taken : {A : Type 0} → A → Step A
taken a = on (λ p ts. got a 0)

-- one token was taken before
abbrev pub with_one_more : {A : Type 0} → Res A → Res A
with_one_more (got a n) = got a (suc n)
with_one_more (bad y q) = bad y q

-- a step at place p, with the tokens behind the one there
abbrev pub stepped : {A : Type 0} → Step A → ℕ → List Token → Res A
stepped (refuse y) p ts = bad y p
stepped (leave a) p ts = got a 0
stepped (on f) p ts = with_one_more (f (suc p) ts)

-- look at the token at place p and go by it; past the end stands Eof
unfoldable pub look : {A : Type 0} → (Token → Step A) → ℕ → List Token → Res A
look g p ts = stepped (g (token_at ts 0)) p (drop 1 ts)

-- the entry for a kind in a table, else d
unfoldable pub choose : {S : Type 0} → List (ℕ × S) → S → ℕ → S
choose [] d k = d
choose (e ∷ table) d k = cond (eqb k e.0) e.1 (choose table d k)

-- a token of kind k is asked for, and read on; any other is refused
abbrev pub expect : {A : Type 0} → ℕ → Why → (Token → ℕ → List Token → Res A) → ℕ → List Token → Res A
expect k y f = look (λ t. cond (eqb t.kind k) (on (f t)) (refuse y))

-- n tokens were taken before
abbrev pub counted : {A : Type 0} → ℕ → Res A → Res A
counted n (got a m) = got a (n + m)
counted n (bad y q) = bad y q

-- a result, and f behind the tokens that it took
abbrev pub joined : {A B : Type 0} → Res A → (A → ℕ → List Token → Res B) → ℕ → List Token → Res B
joined (got a n) f p ts = counted n (f a (p + n) (drop n ts))
joined (bad y q) f p ts = bad y q

-- u, and behind what it took f, which sees u's value
unfoldable pub seq : {A B : Type 0} → (ℕ → List Token → Res A) → (A → ℕ → List Token → Res B) → ℕ → List Token → Res B
seq u f p ts = joined (u p ts) f p ts

-- a result, and what is made of its value and its tokens
abbrev pub bind : {A B : Type 0} → Res A → (A → ℕ → Res B) → Res B
bind (got a n) f = f a n
bind (bad y q) f = bad y q

-- a before the values of a result
abbrev pub consed : {A : Type 0} → A → Res (List A) → Res (List A)
consed a (got rs n) = got (a ∷ rs) n
consed a (bad y q) = bad y q

-- one less; of 0, 0
abbrev pub less : ℕ → ℕ
less zero = zero
less (suc n) = n

-- units up to a token that stops them; k tokens still belong to the unit read last. Past the end stands Eof, which no unit takes.
unfoldable pub many : {σ A : Type 0} → (Token → Bool) → (σ → A → σ) → (σ → ℕ → List Token → Res A) → σ → ℕ → ℕ → List Token → Res (List A)
many stop after unit s k p [] = bind (unit s (p + k) []) (λ a n. got (a ∷ []) n)
many stop after unit s (suc k) p (t ∷ ts) = many stop after unit s k (suc p) ts
many stop after unit s zero p (t ∷ ts) =
    elim (stop t) [
      | true ↦ got [] 0
      | false ↦ bind (unit s p (t ∷ ts)) (λ a n. counted (suc (less n)) (consed a (many stop after unit (after s a) (less n) (suc p) ts)))
    ]
