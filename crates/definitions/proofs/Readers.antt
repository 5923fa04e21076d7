-- Readers put together: what an answer tells of the reading, how a refusal and a value go through, how a row of readers may be grouped, and how many tokens a value takes. Assumes nothing.
use Prim.Native.Nat.{ℕ, suc, ◌+◌, ◌≤◌}
use native.Mathlib.Nat.{add-zero, zero-add, add_assoc, suc-add}
use native.Mathlib.Omega.{arith}
use mathlib.Core.Path.{◌≡◌, refl, sym, ap, ◌∙◌}
use mathlib.Core.Bool.{Bool, true, false, cond}
use mathlib.Core.List.{List}
use Rattle.std.specs.Prelude.{Result, Ok, Err}
use lib.ListN.{drop}
use lib.Seq.{drop-drop}
use lib.Dec.{eqb}
use Rattle.tokens.specs.Token.{Token, token_at}
use Rattle.grammar.specs.Result.{Why, plain, number, beyond, Res, got, bad, refuse, on, stepped, with_one_more, look, expect, counted, joined, seq}
use Rattle.grammar.specs.Written.{RefusedRead}
use Rattle.grammar.proofs.AtPlace.{seq_got, seq_bad}

-- ---- an answer

-- an answer that is made of what was read, and else the refusal's number and cursor
pub record Answering {A B : Type 0} (answer : Res A → Result B (ℕ × ℕ)) (yes : A → ℕ → B) : Type 0 where
  pub says : (a : A) (k : ℕ) → answer (got a k) ≡ Ok (yes a k)
  pub tells : (y : Why) (w : ℕ) → answer (bad y w) ≡ Err (number y, w + beyond y)

-- what an Ok tells of the reading
pub record Told {A B : Type 0} (yes : A → ℕ → B) (x : Res A) (b : B) : Type 0 where
  pub value : A
  pub size : ℕ
  pub is : x ≡ got value size
  pub same : b ≡ yes value size

module _ {A B : Type 0} {answer : Res A → Result B (ℕ × ℕ)} {yes : A → ℕ → B} (by : Answering answer yes) where
  pub value_told : (x : Res A) {b : B} → Ok b ≡ answer x → Told yes x b
  value_told (got a k) e = record { value = a; size = k; is = refl; same = cc (e, by.says a k) }
  value_told (bad y w) e = cc (e, by.tells y w)

  -- and what an Err does
  pub refusal_told : (x : Res A) {f : ℕ × ℕ} → Err f ≡ answer x → RefusedRead x f.0 f.1
  refusal_told (got a k) e = cc (e, by.says a k)
  refusal_told (bad y w) e =
      record { why = y; place = w; is = refl; numbered = cc (e, by.tells y w); cursor = cc (e, by.tells y w) }

pub same_refusal : {A B : Type 0} {x : Res A} {f : ℕ × ℕ} (s : RefusedRead x f.0 f.1) → ◌≡◌ {A = Result B (ℕ × ℕ)} (Err f) (Err (number s.why, s.place + beyond s.why))
same_refusal {f = f} s = ap (λ n. Err (n, f.1)) s.numbered ∙ ap (λ w. Err (number s.why, w)) s.cursor

-- ---- a refusal

pub stops_here : {A : Type 0} {x : Res A} {c q w : ℕ} → x ≡ bad (plain c) w → q ≡ w → RefusedRead x c q
stops_here {c = c} {w = w} e h = record { why = plain c; place = w; is = e; numbered = refl; cursor = h ∙ sym (add-zero w) }

pub as_stops : {A : Type 0} {x y : Res A} {c q : ℕ} → x ≡ y → RefusedRead y c q → RefusedRead x c q
as_stops e s = record { why = s.why; place = s.place; is = e ∙ s.is; numbered = s.numbered; cursor = s.cursor }

pub counted_stops : {A : Type 0} {x : Res A} {c q : ℕ} (n : ℕ) → RefusedRead x c q → RefusedRead (counted n x) c q
counted_stops n s = record { why = s.why; place = s.place; is = ap (counted n) s.is; numbered = s.numbered; cursor = s.cursor }

module _ {A B : Type 0} (u : ℕ → List Token → Res A) (f : A → ℕ → List Token → Res B) where
  -- the first of two refuses
  pub seq_stops : (p : ℕ) (ts : List Token) {c q : ℕ} → RefusedRead (u p ts) c q → RefusedRead (seq u f p ts) c q
  seq_stops p ts s =
      record { why = s.why; place = s.place; is = seq_bad u f p ts s.why s.place s.is; numbered = s.numbered; cursor = s.cursor }

  module _ (p : ℕ) (all : List Token) {n e : ℕ} {a : A} (is : u p (drop p all) ≡ got a n) (ends : p + n ≡ e) where
    -- the first reads up to e, and the second from there on
    pub seq_at : seq u f p (drop p all) ≡ counted n (f a e (drop e all))
    seq_at = seq_got u f p n all a is ∙ ap (λ k. counted n (f a k (drop k all))) ends

    -- and the second refuses
    pub seq_then_stops : {c q : ℕ} → RefusedRead (f a e (drop e all)) c q → RefusedRead (seq u f p (drop p all)) c q
    seq_then_stops s = as_stops seq_at (counted_stops n s)

-- ---- grouping

counted_zero : {A : Type 0} (x : Res A) → counted 0 x ≡ x
counted_zero (got a n) = ap (got a) (zero-add n)
counted_zero (bad y q) = refl

-- tokens taken before, in two steps
pub counted_twice : {A : Type 0} (n m : ℕ) (x : Res A) → counted (n + m) x ≡ counted n (counted m x)
counted_twice n m (got a k) = ap (got a) (add_assoc n m k)
counted_twice n m (bad y q) = refl

-- a reader that takes nothing
pub seq_nothing : {A B : Type 0} (a : A) (f : A → ℕ → List Token → Res B) (p : ℕ) (ts : List Token) → seq (λ q us. got a 0) f p ts ≡ f a p ts
unfolding seq
seq_nothing a f p ts = counted_zero (f a (p + 0) (drop 0 ts)) ∙ ap (λ k. f a k ts) (add-zero p)

pub seq_same : {A B : Type 0} (u : ℕ → List Token → Res A) (f g : A → ℕ → List Token → Res B) (p : ℕ) (ts : List Token)
    → ((a : A) (q : ℕ) (us : List Token) → f a q us ≡ g a q us)
    → seq u f p ts ≡ seq u g p ts
unfolding seq
seq_same {A} {B} u f g p ts h = go (u p ts)
  where
    go : (x : Res A) → joined x f p ts ≡ joined x g p ts
    go (got a n) = ap (counted n) (h a (p + n) (drop n ts))
    go (bad y q) = refl

pub seq_group : {A B C : Type 0} (u : ℕ → List Token → Res A) (f : A → ℕ → List Token → Res B) (g : B → ℕ → List Token → Res C) (p : ℕ) (ts : List Token)
    → seq (seq u f) g p ts ≡ seq u (λ a. seq (f a) g) p ts
unfolding seq
seq_group {A} {B} {C} u f g p ts = go (u p ts)
  where
    inner : (n : ℕ) (x : Res B) → joined (counted n x) g p ts ≡ counted n (joined x g (p + n) (drop n ts))
    inner n (got b m) =
        counted_twice n m (g b (p + (n + m)) (drop (n + m) ts))
        ∙ ap (λ us. counted n (counted m (g b (p + (n + m)) us))) (sym (drop-drop m n ts))
        ∙ ap (λ k. counted n (counted m (g b k (drop m (drop n ts))))) (sym (add_assoc p n m))
    inner n (bad y q) = refl

    go : (x : Res A) → joined (joined x f p ts) g p ts ≡ joined x (λ a. seq (f a) g) p ts
    go (got a n) = inner n (f a (p + n) (drop n ts))
    go (bad y q) = refl

-- a token that is asked for before two readers
pub expect_group : {A B : Type 0} (k : ℕ) (y : Why) (f : Token → ℕ → List Token → Res A) (g : A → ℕ → List Token → Res B) (h : Token → ℕ → List Token → Res B) (p : ℕ) (ts : List Token)
    → ((t : Token) (q : ℕ) (us : List Token) → seq (f t) g q us ≡ h t q us)
    → seq (expect k y f) g p ts ≡ expect k y h p ts
unfolding seq look
expect_group {A} {B} k y f g h p ts same = go (eqb (token_at ts 0).kind k)
  where
    inner : (x : Res A) → joined (with_one_more x) g p ts ≡ with_one_more (joined x g (suc p) (drop 1 ts))
    inner (got a n) =
        let place : p + suc n ≡ suc p + n = omega arith in
        let behind : drop n (drop 1 ts) ≡ drop (suc n) ts = drop-drop n 1 ts ∙ ap (λ i. drop i ts) (one_more n) in
        ap (λ i. counted (suc n) (g a i (drop (suc n) ts))) place
        ∙ ap (λ us. counted (suc n) (g a (suc p + n) us)) (sym behind)
        ∙ suc_counted n (g a (suc p + n) (drop n (drop 1 ts)))
      where
        one_more : (i : ℕ) → 1 + i ≡ suc i
        one_more i = omega arith

        suc_counted : (i : ℕ) (x : Res B) → counted (suc i) x ≡ with_one_more (counted i x)
        suc_counted i (got b m) = ap (got b) (suc-add i m)
        suc_counted i (bad z q) = refl
    inner (bad z q) = refl

    go : (b : Bool) → joined (stepped (cond b (on (f (token_at ts 0))) (refuse y)) p (drop 1 ts)) g p ts ≡ stepped (cond b (on (h (token_at ts 0))) (refuse y)) p (drop 1 ts)
    go true = inner (f (token_at ts 0) (suc p) (drop 1 ts)) ∙ ap with_one_more (same (token_at ts 0) (suc p) (drop 1 ts))
    go false = refl

-- ---- how many tokens

-- a value takes at least n tokens
abbrev pub Least : {A : Type 0} → ℕ → Res A → Type 0
Least n (got a k) = n ≤ k
Least n (bad y q) = Unit {0}

-- every value of a reader does
abbrev pub AtLeast : {A : Type 0} → ℕ → (ℕ → List Token → Res A) → Type 0
AtLeast n u = (p : ℕ) (ts : List Token) → Least n (u p ts)

pub any_least : {A : Type 0} (u : ℕ → List Token → Res A) → AtLeast 0 u
any_least {A} u p ts = go (u p ts)
  where
    go : (x : Res A) → Least 0 x
    go (got a k) = omega arith
    go (bad y q) = tt

pub expect_least : {A : Type 0} (n k : ℕ) (y : Why) (f : Token → ℕ → List Token → Res A) → ((t : Token) → AtLeast n (f t)) → AtLeast (suc n) (expect k y f)
unfolding look
expect_least {A} n k y f h p ts = go (eqb (token_at ts 0).kind k)
  where
    more : (x : Res A) → Least n x → Least (suc n) (with_one_more x)
    more (got a i) l = omega arith
    more (bad z q) l = tt

    go : (b : Bool) → Least (suc n) (stepped (cond b (on (f (token_at ts 0))) (refuse y)) p (drop 1 ts))
    go true = more (f (token_at ts 0) (suc p) (drop 1 ts)) (h (token_at ts 0) (suc p) (drop 1 ts))
    go false = tt

pub seq_least : {A B : Type 0} (m n : ℕ) (u : ℕ → List Token → Res A) (f : A → ℕ → List Token → Res B) → AtLeast m u → ((a : A) → AtLeast n (f a)) → AtLeast (m + n) (seq u f)
unfolding seq
seq_least {A} {B} m n u f h g p ts = go (u p ts) (h p ts)
  where
    more : (i : ℕ) → m ≤ i → (x : Res B) → Least n x → Least (m + n) (counted i x)
    more i le (got b k) l = omega arith
    more i le (bad z q) l = tt

    go : (x : Res A) → Least m x → Least (m + n) (joined x f p ts)
    go (got a i) le = more i le (f a (p + i) (drop i ts)) (g a (p + i) (drop i ts))
    go (bad z q) le = tt
