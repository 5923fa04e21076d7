-- What is told of a refusal in a file, and the laws of the two ways of putting readers together that only a file's reader has.
use Prim.Native.Nat.{ℕ, suc}
use mathlib.Core.Path.{◌≡◌, refl, sym, ap}
use mathlib.Core.Bool.{Bool, true, false, cond, ◌&&◌, ◌||◌, or-true, and-false}
use mathlib.Core.List.{List, [], ◌∷◌}
use lib.Dec.{eqb, leb}
use borrow.Author.Tests.{eqb-true, eq-eqb}
use Rattle.tokens.specs.Token.{Token, token_at}
use Rattle.grammar.specs.Rules.{Rules}
use Rattle.grammar.specs.Result.{Why, plain, number, beyond, Res, bad, on, refuse, leave, stepped, with_one_more, look, choose, expect}
use Rattle.grammar.specs.Follows.{past, is_body_number}
use Rattle.grammar.specs.FileFollows.{past_in, is_definition_number}
use Rattle.grammar.specs.FileReader.{by_kind, optional}
use Rattle.grammar.proofs.Lists.{agree_first}
use Rattle.grammar.proofs.Holds.{Holds, StepHolds, leaving, going, cond_says, look_holds, same_result}
use Rattle.grammar.proofs.Sound.{Told}

-- of every refusal in a definition, one with typed lists or without: where the cursor stands, and the number
abbrev pub Inner : Rules → Bool → Why → Token → Type 0
Inner m typed y t = (beyond y ≡ past_in typed (number y) (t ∷ [])) × (is_definition_number m (number y) ≡ true)

-- the same, with or without
abbrev pub Near : Why → Token → Type 0
Near y t = (typed : Bool) × (beyond y ≡ past_in typed (number y) (t ∷ []))

pub either : {X : Type 0} (a b : Bool) → (a ≡ true → X) → (b ≡ true → X) → (a || b) ≡ true → X
either true b f g h = f refl
either false b f g h = g h

-- a body's numbers are a definition's
pub body_is_inner : (m : Rules) (c : ℕ) → is_body_number m c ≡ true → is_definition_number m c ≡ true
body_is_inner m c =
    either _ (m.names_once && eqb c 22)
    (either _ (eqb c 13)
    (either _ (eqb c 12)
    (either _ (eqb c 10)
    (either _ (eqb c 8)
    (either _ (eqb c 7)
    (either _ (eqb c 6)
    (either _ (eqb c 5)
    (either (eqb c 1) (eqb c 4) (at 1 refl) (at 4 refl))
    (at 5 refl)) (at 6 refl)) (at 7 refl)) (at 8 refl)) (at 10 refl)) (at 12 refl)) (at 13 refl))
    (λ h. rw h (or-true (leb 1 c && leb c 13)))
  where
    at : (k : ℕ) → (leb 1 k && leb k 13) ≡ true → eqb c k ≡ true → is_definition_number m c ≡ true
    at k h e = rw (eqb-true c k e) (rw h)

pub inner_told : (m : Rules) (y : Why) (t : Token) → Told m y t → Inner m false y t
unfolding past_in
inner_told m y t h = (h.0, body_is_inner m (number y) h.1)

-- a number other than 4 and 8
pub plain_inner : (m : Rules) (typed : Bool) (c : ℕ) → eqb c 4 ≡ false → eqb c 8 ≡ false → (leb 1 c && leb c 13) ≡ true → (t : Token) → Inner m typed (plain c) t
unfolding past past_in
plain_inner m typed c h k i t = (rw h (rw k (rw (and-false typed))), rw i)

-- 8 in a typed list, at whatever stands there
pub eight_inner : (m : Rules) (t : Token) → Inner m true (plain 8) t
unfolding past_in
eight_inner m t = (refl, refl)

-- a reader chosen by the kind of the token here
pub by_kind_holds : {A : Type 0} {T : Why → Token → Type 0} {P : List Token → A → Type 0} {L : List Token → Type 0} (table : List (ℕ × (ℕ → List Token → Res A))) (y : Why) (p : ℕ) (ts : List Token)
    → Holds T P L p (choose table (λ q us. bad y q) (token_at ts 0).kind p) ts (choose table (λ q us. bad y q) (token_at ts 0).kind p ts)
    → Holds T P L p (by_kind table y p) ts (by_kind table y p ts)
unfolding by_kind
by_kind_holds table y p ts h = same_result (by_kind table y p) (λ us e. ap (λ t. choose table (λ q vs. bad y q) t.kind p us) (sym (agree_first 0 ts us e))) h

-- a token that may be missing
pub optional_holds : {A : Type 0} {T : Why → Token → Type 0} {P : List Token → A → Type 0} {L : List Token → Type 0} (k : ℕ) (f : ℕ → List Token → Res A) (d : A) (p : ℕ)
    → eqb 0 k ≡ false
    → P [] d
    → ((t : Token) → t.kind ≡ k → (us : List Token) → Holds T (λ xs. P (t ∷ xs)) (λ xs. L (t ∷ xs)) (suc p) (f (suc p)) us (f (suc p) us))
    → (ts : List Token)
    → Holds T P L p (optional k f d p) ts (optional k f d p ts)
unfolding optional
optional_holds {T = T} {P = P} {L = L} k f d p n none next ts =
    look_holds (λ t. cond (eqb t.kind k) (on f) (leave d)) p
    (λ t. cond_says (StepHolds T P L p t) (eqb t.kind k) (λ e. going (next t (eqb-true t.kind k e))) (λ e. leaving none))
    (rw n tt)
    ts

-- the token asked for
pub expect_run : {A : Type 0} (k : ℕ) (y : Why) (f : Token → ℕ → List Token → Res A) (p : ℕ) (t : Token) (ts : List Token) → t.kind ≡ k → expect k y f p (t ∷ ts) ≡ with_one_more (f t (suc p) ts)
unfolding look
expect_run k y f p t ts e = ap (λ b. stepped (cond b (on (f t)) (refuse y)) p ts) (eq-eqb t.kind k e)
