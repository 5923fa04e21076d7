-- What is known of a reader's result, and one law for each way of putting readers together. A value: its tokens follow the grammar. A refusal: what
-- stands before the wrong token can go on. Both: nothing behind the next token, or behind the wrong one, matters.
use Prim.Native.Nat.{ℕ, zero, suc, ◌+◌, ◌≤◌, ◌<◌, zero-le}
use native.Mathlib.Nat.{add-suc, add-zero}
use native.Mathlib.Omega.{arith}
use mathlib.Core.Path.{◌≡◌, refl, sym, ◌∙◌, ap}
use mathlib.Core.Bool.{Bool, true, false, cond}
use mathlib.Core.List.{List, [], ◌∷◌, ◌++◌, append_assoc, append-nil}
use lib.ListN.{length, take, drop, length-drop}
use lib.Seq.{take-add, drop-drop, length-take-le, take-nil}
use lib.Dec.{eqb}
use borrow.Author.Tests.{eqb-true}
use Rattle.tokens.specs.Token.{Token, token_at, eof_token}
use Rattle.grammar.specs.Grammar.{Many, none, more}
use Rattle.grammar.specs.Result.{Why, Res, got, bad, Step, refuse, leave, on, stepped, with_one_more, look, choose, counted, joined, seq, bind, consed, less, many}
use Rattle.grammar.specs.Follows.{all_proper}
use Rattle.grammar.proofs.Lists.{agree_less, agree_drop, agree_first, agree_rest, agree_none, agree_cons, proper_append}

-- a value a of n tokens: they lie in the list and are P's, and every list that agrees up to the token behind them gives the same
pub record Got {A : Type 0} (P : List Token → A → Type 0) (f : List Token → Res A) (ts : List Token) (a : A) (n : ℕ) : Type 0 where
  pub within : n ≤ length ts
  pub follows : P (take n ts) a
  pub sure : (us : List Token) → take (suc n) ts ≡ take (suc n) us → f us ≡ got a n

-- xs can be finished to L by proper tokens
abbrev pub Finish : (List Token → Type 0) → List Token → Type 0
Finish L xs = (rest : List Token) × (all_proper rest ≡ true) × L (xs ++ rest)

-- a refusal at q: what T asks of the reason and the wrong token; so far the tokens can be finished to L, and every list that agrees up to the wrong token gives the same
pub record Bad {A : Type 0} (T : Why → Token → Type 0) (L : List Token → Type 0) (p : ℕ) (f : List Token → Res A) (ts : List Token) (y : Why) (q : ℕ) : Type 0 where
  pub off : ℕ
  pub place : q ≡ p + off
  pub within : off ≤ length ts
  pub told : T y (token_at (drop off ts) 0)
  pub goes : Finish L (take off ts)
  pub sure : (us : List Token) → take (suc off) ts ≡ take (suc off) us → f us ≡ bad y q

pub data Holds {A : Type 0} (T : Why → Token → Type 0) (P : List Token → A → Type 0) (L : List Token → Type 0) (p : ℕ) (f : List Token → Res A) (ts : List Token) : Res A → Type 0 where
  well : {a : A} {n : ℕ} → Got P f ts a n → Holds T P L p f ts (got a n)
  ill : {y : Why} {q : ℕ} → Bad T L p f ts y q → Holds T P L p f ts (bad y q)

-- the same of a step at the token t
pub data StepHolds {A : Type 0} (T : Why → Token → Type 0) (P : List Token → A → Type 0) (L : List Token → Type 0) (p : ℕ) (t : Token) : Step A → Type 0 where
  refusing : {y : Why} → T y t → Finish L [] → StepHolds T P L p t (refuse y)
  leaving : {a : A} → P [] a → StepHolds T P L p t (leave a)
  going : {f : ℕ → List Token → Res A}
      → ((us : List Token) → Holds T (λ xs. P (t ∷ xs)) (λ xs. L (t ∷ xs)) (suc p) (f (suc p)) us (f (suc p) us))
      → StepHolds T P L p t (on f)

-- Eof is never taken
abbrev pub Ends : {A : Type 0} → Step A → Type 0
Ends (refuse y) = Unit {0}
Ends (leave a) = Unit {0}
Ends (on f) = ⊥

-- a value that takes nothing
pub got_holds : {A : Type 0} {T : Why → Token → Type 0} {P : List Token → A → Type 0} {L : List Token → Type 0} {p : ℕ} {ts : List Token} {a : A}
    → P [] a → Holds T P L p (λ us. got a 0) ts (got a 0)
got_holds h = well (record { within = zero-le; follows = h; sure = λ us e. refl })

-- the entry for a kind, by the table: what each entry needs, where the kind is the entry's and none of those before
abbrev pub Says : {S : Type 0} → (S → Type 0) → List (ℕ × S) → S → ℕ → Type 0
Says P [] d k = P d
Says P (e ∷ table) d k = (k ≡ e.0 → P e.1) × (eqb k e.0 ≡ false → Says P table d k)

pub cond_says : {S : Type 0} (P : S → Type 0) (b : Bool) {x y : S} → (b ≡ true → P x) → (b ≡ false → P y) → P (cond b x y)
cond_says P true f g = f refl
cond_says P false f g = g refl

pub choose_says : {S : Type 0} (P : S → Type 0) (table : List (ℕ × S)) (d : S) (k : ℕ) → Says P table d k → P (choose table d k)
unfolding choose
choose_says P [] d k h = h
choose_says P (e ∷ table) d k h = cond_says P (eqb k e.0) (λ y. h.0 (eqb-true k e.0 y)) (λ n. choose_says P table d k (h.1 n))

module _ {A : Type 0} {T : Why → Token → Type 0} {P : List Token → A → Type 0} {L : List Token → Type 0} where
  -- one token more before a result
  one_more : (p : ℕ) (t : Token) (f g : List Token → Res A) (ts : List Token)
      → ((us : List Token) → token_at us 0 ≡ t → g us ≡ with_one_more (f (drop 1 us)))
      → (r : Res A)
      → Holds T (λ xs. P (t ∷ xs)) (λ xs. L (t ∷ xs)) (suc p) f ts r
      → Holds T P L p g (t ∷ ts) (with_one_more r)
  one_more p t f g ts same (got a n) (well h) =
      well {n = suc n} (record {
        within = omega (arith, h.within);
        follows = h.follows;
        sure = λ us e. same us (sym (agree_first (suc n) (t ∷ ts) us e)) ∙ ap with_one_more (h.sure (drop 1 us) (agree_rest (suc n) (t ∷ ts) us e));
      })
  one_more p t f g ts same (bad y q) (ill h) =
      ill {q = q} (record {
        off = suc h.off;
        place = omega (arith, h.place);
        within = omega (arith, h.within);
        told = h.told;
        goes = h.goes;
        sure = λ us e. same us (sym (agree_first (suc h.off) (t ∷ ts) us e)) ∙ ap with_one_more (h.sure (drop 1 us) (agree_rest (suc h.off) (t ∷ ts) us e));
      })

  by_step : (g : Token → Step A) (p : ℕ) (t : Token) (ts : List Token) (x : Step A)
      → g t ≡ x
      → StepHolds T P L p t x
      → Holds T P L p (look g p) (t ∷ ts) (stepped x p ts)
  unfolding look
  by_step g p t ts (refuse y) e (refusing told goes) =
      ill (record {
        off = 0;
        place = sym (add-zero p);
        within = zero-le;
        told = told;
        goes = goes;
        sure = λ us s. ap (λ z. stepped z p (drop 1 us)) (ap g (sym (agree_first 0 (t ∷ ts) us s)) ∙ e);
      })
  by_step g p t ts (leave a) e (leaving h) =
      well (record {
        within = zero-le;
        follows = h;
        sure = λ us s. ap (λ z. stepped z p (drop 1 us)) (ap g (sym (agree_first 0 (t ∷ ts) us s)) ∙ e);
      })
  by_step g p t ts (on f) e (going h) =
      one_more p t (f (suc p)) (look g p) ts
      (λ us s. ap (λ z. stepped z p (drop 1 us)) (ap g s ∙ e))
      (f (suc p) ts) (h ts)

  at_end : (g : Token → Step A) (p : ℕ) (x : Step A) → g eof_token ≡ x → StepHolds T P L p eof_token x → Ends x → Holds T P L p (look g p) [] (stepped x p [])
  unfolding look
  at_end g p (refuse y) e (refusing told goes) n =
      ill (record {
        off = 0;
        place = sym (add-zero p);
        within = zero-le;
        told = told;
        goes = goes;
        sure = λ us s. ap (λ z. stepped z p (drop 1 us)) (ap g (sym (agree_first 0 [] us s)) ∙ e);
      })
  at_end g p (leave a) e (leaving h) n =
      well (record {
        within = zero-le;
        follows = h;
        sure = λ us s. ap (λ z. stepped z p (drop 1 us)) (ap g (sym (agree_first 0 [] us s)) ∙ e);
      })
  at_end g p (on f) e h n = absurd n

  -- a look at one token
  pub look_holds : (g : Token → Step A) (p : ℕ) → ((t : Token) → StepHolds T P L p t (g t)) → Ends (g eof_token) → (ts : List Token) → Holds T P L p (look g p) ts (look g p ts)
  unfolding look
  look_holds g p h n [] = at_end g p (g eof_token) refl (h eof_token) n
  look_holds g p h n (t ∷ ts) = by_step g p t ts (g t) refl (h t)

-- every list that agrees with ts on its first token gives g the result of f
pub same_result : {A : Type 0} {T : Why → Token → Type 0} {P : List Token → A → Type 0} {L : List Token → Type 0} {p : ℕ} {f : List Token → Res A} (g : List Token → Res A) {ts : List Token} {r : Res A}
    → ((us : List Token) → take 1 ts ≡ take 1 us → g us ≡ f us)
    → Holds T P L p f ts r
    → Holds T P L p g ts r
same_result g {ts = ts} same (well {n = n} h) =
    well (record { within = h.within; follows = h.follows; sure = λ us e. same us (agree_less 1 (suc n) ts us (omega arith) e) ∙ h.sure us e })
same_result g {ts = ts} same (ill h) =
    ill (record {
      off = h.off;
      place = h.place;
      within = h.within;
      told = h.told;
      goes = h.goes;
      sure = λ us e. same us (agree_less 1 (suc h.off) ts us (omega arith) e) ∙ h.sure us e;
    })

-- what is asked of a result can be asked in a weaker form
pub holds_map : {A : Type 0} {T T' : Why → Token → Type 0} {P P' : List Token → A → Type 0} {L L' : List Token → Type 0} {p : ℕ} {f : List Token → Res A} {ts : List Token} {r : Res A}
    → ((y : Why) (t : Token) → T y t → T' y t)
    → ((xs : List Token) (a : A) → P xs a → P' xs a)
    → ((xs : List Token) → L xs → L' xs)
    → Holds T P L p f ts r
    → Holds T' P' L' p f ts r
holds_map {ts = ts} g h k (well {a = a} {n = n} x) = well (record { within = x.within; follows = h (take n ts) a x.follows; sure = x.sure })
holds_map {ts = ts} g h k (ill {y = y} x) =
    ill (record {
      off = x.off;
      place = x.place;
      within = x.within;
      told = g y (token_at (drop x.off ts) 0) x.told;
      goes = (x.goes.0, x.goes.1, k (take x.off ts ++ x.goes.0) x.goes.2);
      sure = x.sure;
    })

module _ {A B : Type 0} {T : Why → Token → Type 0} {G : List Token → A → Type 0} (P : List Token → B → Type 0) (L : List Token → Type 0)
    (u : ℕ → List Token → Res A) (f : A → ℕ → List Token → Res B) (p : ℕ) (ts : List Token) where
  -- behind n tokens of the first reader
  behind : (a : A) (n : ℕ)
      → Got G (u p) ts a n
      → (r : Res B)
      → Holds T (λ ys. P (take n ts ++ ys)) (λ ys. L (take n ts ++ ys)) (p + n) (f a (p + n)) (drop n ts) r
      → Holds T P L p (seq u f p) ts (counted n r)
  unfolding seq
  behind a n h (got b m) (well k) =
      well {a = b} {n = n + m} (record {
        within = omega (arith, h.within, k.within, length-drop n ts);
        follows = rw (take-add n m ts) k.follows;
        sure = λ us e.
            ap (λ r. joined r f p us) (h.sure us (agree_less (suc n) (suc (n + m)) ts us (omega arith) e))
            ∙ ap (counted n) (k.sure (drop n us) (agree_drop n (suc m) ts us (rw (add-suc n m) e)));
      })
  behind a n h (bad y q) (ill k) =
      ill {q = q} (record {
        off = n + k.off;
        place = omega (arith, k.place);
        within = omega (arith, h.within, k.within, length-drop n ts);
        told = rw (drop-drop k.off n ts) at k.told;
        goes = (k.goes.0, k.goes.1, rw (take-add n k.off ts, append_assoc (take n ts) (take k.off (drop n ts)) k.goes.0) k.goes.2);
        sure = λ us e.
            ap (λ r. joined r f p us) (h.sure us (agree_less (suc n) (suc (n + k.off)) ts us (omega arith) e))
            ∙ ap (counted n) (k.sure (drop n us) (agree_drop n (suc k.off) ts us (rw (add-suc n k.off) e)));
      })

  by_first : {M : List Token → Type 0}
      → ((n : ℕ) (a : A)
      → n ≤ length ts
      → G (take n ts) a
      → Holds T (λ ys. P (take n ts ++ ys)) (λ ys. L (take n ts ++ ys)) (p + length (take n ts)) (f a (p + length (take n ts))) (drop n ts) (f a (p + length (take n ts)) (drop n ts)))
      → ((xs : List Token) → M xs → Finish L xs)
      → (r : Res A)
      → Holds T G M p (u p) ts r
      → Holds T P L p (seq u f p) ts (joined r f p ts)
  unfolding seq
  by_first next finish (got a n) (well h) =
      behind a n h (f a (p + n) (drop n ts)) (rw (length-take-le n ts h.within) at (next n a h.within h.follows))
  by_first next finish (bad y q) (ill h) =
      let fin : Finish L (take h.off ts ++ h.goes.0) = finish (take h.off ts ++ h.goes.0) h.goes.2 in
      ill (record {
        off = h.off;
        place = h.place;
        within = h.within;
        told = h.told;
        goes = (h.goes.0 ++ fin.0, proper_append h.goes.0 fin.0 h.goes.1 fin.1, rw (append_assoc (take h.off ts) h.goes.0 fin.0) at fin.2);
        sure = λ us e. ap (λ r. joined r f p us) (h.sure us e);
      })

  -- one reader behind another
  pub seq_holds : {M : List Token → Type 0}
      → Holds T G M p (u p) ts (u p ts)
      → ((n : ℕ) (a : A)
      → n ≤ length ts
      → G (take n ts) a
      → Holds T (λ ys. P (take n ts ++ ys)) (λ ys. L (take n ts ++ ys)) (p + length (take n ts)) (f a (p + length (take n ts))) (drop n ts) (f a (p + length (take n ts)) (drop n ts)))
      → ((xs : List Token) → M xs → Finish L xs)
      → Holds T P L p (seq u f p) ts (seq u f p ts)
  unfolding seq
  seq_holds first next finish = by_first next finish (u p ts) first

-- nothing, or one unit: to that a refused unit can be finished
pub data NoneOrOne {A : Type 0} (U : List Token → A → Type 0) : List Token → Type 0 where
  nothing : NoneOrOne U []
  one : {xs : List Token} {a : A} → U xs a → NoneOrOne U xs

module _ {σ A : Type 0} (stop : Token → Bool) (after : σ → A → σ) (unit : σ → ℕ → List Token → Res A) where
  -- tokens that belong to the unit read last are passed over
  pub many_skip : (ts : List Token) (s : σ) (k p : ℕ) → many stop after unit s k p ts ≡ many stop after unit s 0 (p + k) (drop k ts)
  unfolding many
  many_skip [] s zero p = rw (add-zero (p + 0))
  many_skip [] s (suc k) p = rw (add-zero (p + suc k))
  many_skip (t ∷ ts) s zero p = ap (λ q. many stop after unit s 0 q (t ∷ ts)) (sym (add-zero p))
  many_skip (t ∷ ts) s (suc k) p = many_skip ts s k (suc p) ∙ ap (λ q. many stop after unit s 0 q (drop k ts)) (omega arith)

  -- a token that does not stop begins a unit
  pub many_on : (s : σ) (p : ℕ) (t : Token) (ts : List Token) → stop t ≡ false
      → many stop after unit s 0 p (t ∷ ts) ≡ bind (unit s p (t ∷ ts)) (λ a n. counted (suc (less n)) (consed a (many stop after unit (after s a) (less n) (suc p) ts)))
  unfolding many
  many_on s p t ts e = rw (e, many)

  pub many_stop : (s : σ) (p : ℕ) (t : Token) (ts : List Token) → stop t ≡ true → many stop after unit s 0 p (t ∷ ts) ≡ got [] 0
  unfolding many
  many_stop s p t ts e = rw (e, many)

-- what units read: some number of them
abbrev pub Some : {σ A : Type 0} → (σ → A → σ) → (σ → ℕ → List Token → A → Type 0) → σ → ℕ → List Token → Type 0
Some {σ} {A} after U s p xs = (rs : List A) × Many after U s p xs rs

pub some_of : {σ A : Type 0} (after : σ → A → σ) (U : σ → ℕ → List Token → A → Type 0) (s : σ) (p : ℕ) (xs : List Token) → NoneOrOne (U s p) xs → Some after U s p xs
some_of after U s p xs nothing = ([], none)
some_of after U s p xs (one {a = a} h) = let m : Many after U s p (xs ++ []) (a ∷ []) = more h none in (a ∷ [], rw (append-nil xs) at m)

module _ {σ A : Type 0} (stop : Token → Bool) (after : σ → A → σ) (unit : σ → ℕ → List Token → Res A) (U : σ → ℕ → List Token → A → Type 0)
    {T : Why → Token → Type 0}
    (reads : (s : σ) (p : ℕ) (ts : List Token) → Holds T (U s p) (NoneOrOne (U s p)) p (unit s p) ts (unit s p ts))
    (some-tokens : (s : σ) (p : ℕ) (xs : List Token) (a : A) → U s p xs a → 0 < length xs) where
  -- no unit is empty
  never_empty : (s : σ) (p : ℕ) (ts : List Token) (a : A) {L : List Token → Type 0} {f : List Token → Res A} → Holds T (U s p) L p f ts (got a 0) → ⊥
  never_empty s p ts a (well h) = omega (arith, some-tokens s p [] a h.follows)

  -- the loop, as a unit and the loop behind it
  pub as_seq : (s : σ) (p : ℕ) (t : Token) (ts : List Token) → stop t ≡ false
      → many stop after unit s 0 p (t ∷ ts) ≡ seq (unit s) (λ a q us. consed a (many stop after unit (after s a) 0 q us)) p (t ∷ ts)
  unfolding seq
  as_seq s p t ts e = many_on stop after unit s p t ts e ∙ go (unit s p (t ∷ ts)) (reads s p (t ∷ ts))
    where
      go : (r : Res A) → Holds T (U s p) (NoneOrOne (U s p)) p (unit s p) (t ∷ ts) r
          → bind r (λ a n. counted (suc (less n)) (consed a (many stop after unit (after s a) (less n) (suc p) ts)))
          ≡ joined r (λ a q us. consed a (many stop after unit (after s a) 0 q us)) p (t ∷ ts)
      go (got a zero) h = absurd (never_empty s p (t ∷ ts) a h)
      go (got a (suc n)) h =
          ap (λ r. counted (suc n) (consed a r))
          (many_skip stop after unit ts (after s a) n (suc p) ∙ ap (λ q. many stop after unit (after s a) 0 q (drop n ts)) (omega arith))
      go (bad y q) h = refl

  -- a unit before the rest
  consed_holds : (s : σ) (p q : ℕ) (xs : List Token) (a : A) (g : List Token → Res (List A)) (ts : List Token) (r : Res (List A))
      → U s p xs a
      → Holds T (Many after U (after s a) (p + length xs)) (Some after U (after s a) (p + length xs)) q g ts r
      → Holds T (λ ys. Many after U s p (xs ++ ys)) (λ ys. Some after U s p (xs ++ ys)) q (λ us. consed a (g us)) ts (consed a r)
  consed_holds s p q xs a g ts (got rs n) u (well h) =
      well (record { within = h.within; follows = more u h.follows; sure = λ us e. ap (consed a) (h.sure us e) })
  consed_holds s p q xs a g ts (bad y w) u (ill h) =
      ill (record {
        off = h.off;
        place = h.place;
        within = h.within;
        told = h.told;
        goes = (h.goes.0, h.goes.1, (a ∷ h.goes.2.0, more u h.goes.2.1));
        sure = λ us e. ap (consed a) (h.sure us e);
      })

  at_last : (s : σ) (p : ℕ) → Holds T (Many after U s p) (Some after U s p) p (many stop after unit s 0 p) [] (many stop after unit s 0 p [])
  unfolding many
  at_last s p = rw (add-zero p) (go (unit s p []) (reads s p []))
    where
      go : (r : Res A) → Holds T (U s p) (NoneOrOne (U s p)) p (unit s p) [] r
          → Holds T (Many after U s p) (Some after U s p) p (many stop after unit s 0 p) [] (bind r (λ a n. got (a ∷ []) n))
      go (got a n) (well h) = absurd (omega (arith, some-tokens s p [] a (rw (take-nil n) at h.follows)))
      go (bad y q) (ill h) =
          ill (record {
            off = h.off;
            place = h.place;
            within = h.within;
            told = h.told;
            goes = (h.goes.0, h.goes.1, some_of after U s p (take h.off [] ++ h.goes.0) h.goes.2);
            sure = λ us e.
                ap (many stop after unit s 0 p) (agree_none h.off us e)
                ∙ ap (λ q. bind (unit s q []) (λ a n. got (a ∷ []) n)) (add-zero p)
                ∙ ap (λ r. bind r (λ a n. got (a ∷ []) n)) (h.sure [] refl);
          })

  from_here : (s : σ) (p : ℕ) (t : Token) (ts : List Token)
      → ((k : ℕ) (s' : σ) (q : ℕ) → Holds T (Many after U s' q) (Some after U s' q) q (many stop after unit s' 0 q) (drop k ts) (many stop after unit s' 0 q (drop k ts)))
      → (b : Bool)
      → stop t ≡ b
      → Holds T (Many after U s p) (Some after U s p) p (many stop after unit s 0 p) (t ∷ ts) (many stop after unit s 0 p (t ∷ ts))
  unfolding all_proper
  from_here s p t ts later true e =
      rw (many_stop stop after unit s p t ts e)
      (well (record {
        within = zero-le;
        follows = none;
        sure = λ us h. let c = agree_cons 0 t ts us h in ap (many stop after unit s 0 p) c.1 ∙ many_stop stop after unit s p t c.0 e;
      }))
  from_here s p t ts later false e =
      rw (as_seq s p t ts e)
      (same_result (many stop after unit s 0 p)
      (λ us h. let c = agree_cons 0 t ts us h in rw c.1 (as_seq s p t c.0 e))
      (seq_holds (Many after U s p) (Some after U s p) (unit s) (λ a q us. consed a (many stop after unit (after s a) 0 q us)) p (t ∷ ts)
      (reads s p (t ∷ ts))
      behind_unit
      (λ xs h. ([], refl, some_of after U s p (xs ++ []) (rw (append-nil xs) h)))))
    where
      behind_unit : (n : ℕ) (a : A) → n ≤ length (t ∷ ts) → U s p (take n (t ∷ ts)) a
          → Holds T (λ ys. Many after U s p (take n (t ∷ ts) ++ ys)) (λ ys. Some after U s p (take n (t ∷ ts) ++ ys)) (p + length (take n (t ∷ ts)))
          (λ us. consed a (many stop after unit (after s a) 0 (p + length (take n (t ∷ ts))) us)) (drop n (t ∷ ts))
          (consed a (many stop after unit (after s a) 0 (p + length (take n (t ∷ ts))) (drop n (t ∷ ts))))
      behind_unit zero a h u = absurd (omega (arith, some-tokens s p [] a u))
      behind_unit (suc n) a h u =
          let q : ℕ = p + length (take (suc n) (t ∷ ts)) in
          consed_holds s p q (take (suc n) (t ∷ ts)) a (many stop after unit (after s a) 0 q) (drop n ts) (many stop after unit (after s a) 0 q (drop n ts))
          u (later n (after s a) q)

  -- units up to a stop
  pub many_holds : (ts : List Token) (k : ℕ) (s : σ) (p : ℕ)
      → Holds T (Many after U s p) (Some after U s p) p (many stop after unit s 0 p) (drop k ts) (many stop after unit s 0 p (drop k ts))
  many_holds [] zero s p = at_last s p
  many_holds [] (suc k) s p = at_last s p
  many_holds (t ∷ ts) (suc k) s p = many_holds ts k s p
  many_holds (t ∷ ts) zero s p = from_here s p t ts (λ k s' q. many_holds ts k s' q) (stop t) refl
