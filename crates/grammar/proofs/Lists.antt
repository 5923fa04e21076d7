-- Small laws: two lists of tokens that agree at their beginning, proper tokens, what holds of every element.
use Prim.Native.Nat.{ℕ, zero, suc, ◌+◌, ◌-◌, ◌≤◌, ◌<◌}
use Prim.Native.String.{String}
use native.Mathlib.Omega.{arith}
use mathlib.Core.Path.{◌≡◌, refl, sym, ◌∙◌, ap}
use mathlib.Core.Bool.{Bool, true, false, ◌&&◌}
use mathlib.Core.List.{List, [], ◌∷◌, ◌++◌, map}
use lib.ListN.{length, take, drop, length-drop}
use lib.Seq.{take-take, get_or-drop}
use Rattle.tokens.specs.Byte.{bytes}
use Rattle.tokens.specs.Token.{Token, token_at, eof_token}
use Rattle.tokens.proofs.Laws.{drop_take}
use Rattle.grammar.specs.Follows.{proper, all_proper}
use Rattle.grammar.specs.Facts.{All}
use Rattle.grammar.specs.Same.{Agree}

-- a token of a kind that asks for no text, and one with a text: what a beginning can be finished with
abbrev pub mark : ℕ → Token
mark kind = record { kind = kind; text = []; extra = 0 }

abbrev pub word : ℕ → String → Token
word kind letters = record { kind = kind; text = bytes letters; extra = 0 }

-- lists that agree on n tokens agree on fewer
pub agree_less : (m n : ℕ) (ts us : List Token) → m ≤ n → take n ts ≡ take n us → take m ts ≡ take m us
agree_less m n ts us h e = sym (take-take m n ts h) ∙ ap (take m) e ∙ take-take m n us h

-- and behind some of those
pub agree_drop : (n m : ℕ) (ts us : List Token) → take (n + m) ts ≡ take (n + m) us → take m (drop n ts) ≡ take m (drop n us)
agree_drop n m ts us e = let k : n + m - n ≡ m = omega arith in rw k at (sym (drop_take n (n + m) ts) ∙ ap (drop n) e ∙ drop_take n (n + m) us)

pub agree_from : (p q : ℕ) (ts us : List Token) → take (suc q) ts ≡ take (suc q) us → Agree p q ts us
agree_from p q ts us e = sym (drop_take p (suc q) ts) ∙ ap (drop p) e ∙ drop_take p (suc q) us

-- and have the same first token
pub agree_first : (n : ℕ) (ts us : List Token) → take (suc n) ts ≡ take (suc n) us → token_at ts 0 ≡ token_at us 0
agree_first n [] [] e = refl
agree_first n [] (u ∷ us) e = cc
agree_first n (t ∷ ts) [] e = cc
agree_first n (t ∷ ts) (u ∷ us) e = cc

pub agree_rest : (n : ℕ) (ts us : List Token) → take (suc n) ts ≡ take (suc n) us → take n (drop 1 ts) ≡ take n (drop 1 us)
agree_rest n [] [] e = refl
agree_rest n [] (u ∷ us) e = cc
agree_rest n (t ∷ ts) [] e = cc
agree_rest n (t ∷ ts) (u ∷ us) e = cc

pub agree_none : (n : ℕ) (us : List Token) → take (suc n) [] ≡ take (suc n) us → us ≡ []
agree_none n [] e = refl
agree_none n (u ∷ us) e = cc

pub agree_cons : (n : ℕ) (t : Token) (ts us : List Token) → take (suc n) (t ∷ ts) ≡ take (suc n) us → (vs : List Token) × (us ≡ t ∷ vs)
agree_cons n t ts [] e = ([], cc)
agree_cons n t ts (u ∷ us) e = (us, cc)

-- and if the one has a token, the other has
agree_some : (n : ℕ) (ts us : List Token) → take (suc n) ts ≡ take (suc n) us → 0 < length ts → 0 < length us
agree_some n [] us e h = absurd (omega (arith, h))
agree_some n (t ∷ ts) us e h = rw (agree_cons n t ts us e).1 (omega arith)

-- and the same last token of those on which they agree
agree_at : (n : ℕ) (ts us : List Token) → take (suc n) ts ≡ take (suc n) us → token_at ts n ≡ token_at us n
agree_at zero ts us e = agree_first zero ts us e
agree_at (suc n) [] us e = ap (λ (l : List Token). token_at l (suc n)) (sym (agree_none (suc n) us e))
agree_at (suc n) (t ∷ ts) [] e = cc
agree_at (suc n) (t ∷ ts) (u ∷ us) e = agree_at n ts us (cc)

-- lists that agree from p to q have the same token at q, and if the one has a token at p, the other has
pub agree_last : (p q : ℕ) (ts us : List Token) → p ≤ q → Agree p q ts us → token_at ts q ≡ token_at us q
agree_last p q ts us h e =
    let k : suc q - p ≡ suc (q - p) = omega arith in
    let at : p + (q - p) ≡ q = omega arith in
    let there : (vs : List Token) → token_at (drop p vs) (q - p) ≡ token_at vs q = λ vs. get_or-drop p vs (q - p) eof_token ∙ ap (token_at vs) at in
    sym (there ts) ∙ agree_at (q - p) (drop p ts) (drop p us) (rw k at e) ∙ there us

pub agree_inside : (p q : ℕ) (ts us : List Token) → p ≤ q → Agree p q ts us → p < length ts → p < length us
agree_inside p q ts us h e inside =
    let k : suc q - p ≡ suc (q - p) = omega arith in
    omega (arith, agree_some (q - p) (drop p ts) (drop p us) (rw k at e) (omega (arith, length-drop p ts)), length-drop p us)

pub proper_append : (xs ys : List Token) → all_proper xs ≡ true → all_proper ys ≡ true → all_proper (xs ++ ys) ≡ true
unfolding all_proper
proper_append [] ys hx hy = hy
proper_append (x ∷ xs) ys hx hy = go (λ h. proper_append xs ys h hy) (proper x) hx
  where
    go : (all_proper xs ≡ true → all_proper (xs ++ ys) ≡ true) → (b : Bool) → (b && all_proper xs) ≡ true → (b && all_proper (xs ++ ys)) ≡ true
    go later true h = later h
    go later false h = h

pub all_append : {A : Type 0} (P : A → Type 0) (xs ys : List A) → All P xs → All P ys → All P (xs ++ ys)
all_append P [] ys h k = k
all_append P (x ∷ xs) ys h k = (h.0, all_append P xs ys h.1 k)

-- what holds of every element in front, and behind
pub all_front : {A : Type 0} (P : A → Type 0) (xs ys : List A) → All P (xs ++ ys) → All P xs
all_front P [] ys h = tt
all_front P (x ∷ xs) ys h = (h.0, all_front P xs ys h.1)

pub all_back : {A : Type 0} (P : A → Type 0) (xs ys : List A) → All P (xs ++ ys) → All P ys
all_back P [] ys h = h
all_back P (x ∷ xs) ys h = all_back P xs ys h.1

pub all_map : {A : Type 0} (P Q : A → Type 0) (xs : List A) → ((x : A) → P x → Q x) → All P xs → All Q xs
all_map P Q [] f h = tt
all_map P Q (x ∷ xs) f h = (f x h.0, all_map P Q xs f h.1)

-- two functions that give the same list of values agree at each element
pub all_mapped : {A B : Type 0} (f g : A → B) (xs : List A) → map f xs ≡ map g xs → All (λ x. f x ≡ g x) xs
all_mapped f g [] e = tt
all_mapped f g (x ∷ xs) e = (cc, all_mapped f g xs (cc))

-- of two numbers of which the first is not less
pub not_less : {a b : ℕ} → ¬ (a < b) → b ≤ a
not_less n = omega arith
