-- The rule on labels' names, told apart from the reading of a body: reading with it is reading without it and then looking through the labels before the cursor. Assumes nothing.
use Prim.Native.Nat.{ℕ, zero, suc, ◌+◌, ◌-◌, ◌≤◌}
use native.Mathlib.Nat.{add-zero, zero-add, suc-add}
use native.Mathlib.Numerals.{add-one, one-add}
use native.Mathlib.Omega.{arith}
use mathlib.Core.Path.{◌≡◌, refl, sym, ◌∙◌, ap}
use mathlib.Core.Bool.{Bool, true, false, cond, not}
use mathlib.Core.List.{List, [], ◌∷◌, ◌++◌, flatten}
use lib.ListN.{length, take, drop, length-drop}
use lib.Seq.{take-nil, drop-drop}
use lib.Dec.{eqb, ltb}
use borrow.Author.Tests.{eqb-true, lt-ltb, le-ltb}
use Rattle.tokens.specs.Token.{Token, token_at}
use Rattle.tokens.specs.Kind.{Literal, Comma, Colon, Label, OpenBrace, CloseBrace}
use Rattle.tokens.specs.Name.{one_of}
use Rattle.grammar.specs.Reading.{Simple, Group, Reading}
use Rattle.grammar.specs.Rules.{Rules, base}
use Rattle.grammar.specs.Grammar.{LabelGroup, Item, Items, forget, remember}
use Rattle.grammar.specs.Result.{Why, plain, overflow, eaten, number, beyond, Res, got, bad, answer, refuse, on, stepped, with_one_more, look, choose, expect, counted, joined, seq, consed, many}
use Rattle.grammar.specs.Reader.{items, group_rest, label_group, ends_groups, groups, body_from, body_at}
use Rattle.grammar.specs.Follows.{past}
use Rattle.grammar.specs.Facts.{All}
use Rattle.grammar.specs.Again.{pushing, again, cursor_of, once}
use Rattle.grammar.proofs.Lists.{all_front}
use Rattle.grammar.proofs.Holds.{Holds, well, ill, Some, cond_says, many_stop, as_seq}
use Rattle.grammar.proofs.Sound.{Told, Plain, items_hold, group_holds, group_some}
use Rattle.grammar.proofs.Demand.{cursor}
use Rattle.grammar.proofs.Stops.{Other, Inner, items_inner}

-- ---- looking through tokens

-- a result, unless among n tokens from place p on a label stands whose name stands again: then 22 there. It is `again` with what is made of its place
unless : {A : Type 0} → List (List ℕ) → Bool → ℕ → ℕ → List Token → Res A → Res A
unless seen colon zero p ts x = x
unless seen true (suc n) p ts x = unless seen false n (suc p) (drop 1 ts) x
unless seen false (suc n) p ts x =
    cond (eqb (token_at ts 0).kind Label)
    (cond (one_of seen (token_at ts 0).text) (bad (plain 22) p) (unless ((token_at ts 0).text ∷ seen) true n (suc p) (drop 1 ts) x))
    (unless seen false n (suc p) (drop 1 ts) x)

-- that, as a test of a place q before e
tested : {A : Type 0} → ℕ → ℕ → Res A → Res A
tested q e x = cond (ltb q e) (bad (plain 22) q) x

-- one token more: no Label, a Label that stands again, a new one
tested_step : {A : Type 0} (b c : Bool) (p n i j : ℕ) (x : Res A) {y z : Res A} → y ≡ tested i (suc p + n) x → z ≡ tested j (suc p + n) x
    → cond b (cond c (bad (plain 22) p) y) z ≡ tested (cond b (cond c p i) j) (p + suc n) x
unfolding tested
tested_step true true p n i j x e f = rw (lt-ltb p (p + suc n) (omega arith))
tested_step true false p n i j x e f = let s : suc p + n ≡ p + suc n = omega arith in e ∙ ap (λ k. tested i k x) s
tested_step false c p n i j x e f = let s : suc p + n ≡ p + suc n = omega arith in f ∙ ap (λ k. tested j k x) s

-- what `unless` does is to test the place of `again`
unless_is : {A : Type 0} (seen : List (List ℕ)) (colon : Bool) (n p : ℕ) (ts : List Token) (x : Res A)
    → unless seen colon n p ts x ≡ tested (again seen colon n p ts) (p + n) x
unfolding unless again tested
unless_is seen false zero p ts x = rw (le-ltb p (p + 0) (omega arith))
unless_is seen true zero p ts x = rw (le-ltb (suc p) (p + 0) (omega arith))
unless_is seen true (suc n) p ts x = tested_step false false p n 0 (again seen false n (suc p) (drop 1 ts)) x refl (unless_is seen false n (suc p) (drop 1 ts) x)
unless_is seen false (suc n) p ts x =
    tested_step (eqb (token_at ts 0).kind Label) (one_of seen (token_at ts 0).text) p n _ _ x
    (unless_is ((token_at ts 0).text ∷ seen) true n (suc p) (drop 1 ts) x)
    (unless_is seen false n (suc p) (drop 1 ts) x)

-- a function that keeps refusals can come before or after
unless_map : {A B : Type 0} (f : Res A → Res B) → ((y : Why) (w : ℕ) → f (bad y w) ≡ bad y w) → (seen : List (List ℕ)) (colon : Bool) (n p : ℕ) (ts : List Token) (x : Res A)
    → f (unless seen colon n p ts x) ≡ unless seen colon n p ts (f x)
unfolding tested
unless_map f keeps seen colon n p ts x = ap f (unless_is seen colon n p ts x) ∙ go (ltb (again seen colon n p ts) (p + n)) ∙ sym (unless_is seen colon n p ts (f x))
  where
    go : (b : Bool) → f (cond b (bad (plain 22) (again seen colon n p ts)) x) ≡ cond b (bad (plain 22) (again seen colon n p ts)) (f x)
    go true = keeps (plain 22) (again seen colon n p ts)
    go false = refl

-- n tokens, none of them a Label
abbrev Clear : ℕ → List Token → Type 0
Clear zero ts = Unit {0}
Clear (suc n) ts = Other (token_at ts 0) × Clear n (drop 1 ts)

later : (n : ℕ) (ts : List Token) → drop n (drop 1 ts) ≡ drop (suc n) ts
later n ts = drop-drop n 1 ts ∙ ap (λ k. drop k ts) (one-add n)

-- tokens without a Label are passed
unless_clear : {A : Type 0} (seen : List (List ℕ)) (n j p : ℕ) (ts : List Token) (x : Res A) → Clear n ts
    → unless seen false (n + j) p ts x ≡ unless seen false j (p + n) (drop n ts) x
unfolding unless
unless_clear seen zero j p ts x c = rw (zero-add j, add-zero p)
unless_clear seen (suc n) j p ts x c =
    let e : suc p + n ≡ p + suc n = omega arith in
    rw (suc-add n j, c.0) (unless_clear seen n j (suc p) (drop 1 ts) x c.1 ∙ rw (e, later n ts))

-- and where there is nothing behind them, nothing is refused
unless_none : {A : Type 0} (seen : List (List ℕ)) (n p : ℕ) (ts : List Token) (x : Res A) → Clear n ts → x ≡ unless seen false n p ts x
unfolding unless
unless_none seen n p ts x c = sym (rw (add-zero n) at (unless_clear seen n 0 p ts x c))

-- what is made by f of a result behind such tokens
unless_behind : {A B : Type 0} (f : Res A → Res B) → ((y : Why) (w : ℕ) → f (bad y w) ≡ bad y w) → (seen : List (List ℕ)) (k n p : ℕ) (ts : List Token) (x : Res A) {x' : Res A} {q : ℕ} {us : List Token} → Clear k ts
    → p + k ≡ q
    → drop k ts ≡ us
    → x' ≡ unless seen false n q us x
    → f x' ≡ unless seen false (k + n) p ts (f x)
unless_behind f keeps seen k n p ts x {q = q} {us = us} c eq eus e = ap f e ∙ unless_map f keeps seen false n q us x ∙ rw (← eq, ← eus) (sym (unless_clear seen k n p ts (f x) c))

-- a token that is no Label, behind any tokens, changes nothing
unless_more : {A : Type 0} (seen : List (List ℕ)) (colon : Bool) (n p : ℕ) (ts : List Token) (x : Res A) → Other (token_at (drop n ts) 0)
    → unless seen colon (suc n) p ts x ≡ unless seen colon n p ts x
unfolding unless
unless_more seen true zero p ts x e = refl
unless_more seen false zero p ts x e = rw e
unless_more seen true (suc n) p ts x e = unless_more seen false n (suc p) (drop 1 ts) x (rw (later n ts) e)
unless_more seen false (suc n) p ts x e =
    let e' : Other (token_at (drop n (drop 1 ts)) 0) = rw (later n ts) e in
    rw (unless_more ((token_at ts 0).text ∷ seen) true n (suc p) (drop 1 ts) x e', unless_more seen false n (suc p) (drop 1 ts) x e')

clear_more : (n : ℕ) (ts : List Token) → Clear n ts → Other (token_at (drop n ts) 0) → Clear (suc n) ts
clear_more zero ts c e = (e, tt)
clear_more (suc n) ts c e = (c.0, clear_more n (drop 1 ts) c.1 (rw (later n ts) e))

-- ---- items hold no Label

-- the tokens of items
clear_of : (n : ℕ) (ts : List Token) → All Inner (take n ts) → Clear n ts
clear_of zero ts h = tt
clear_of (suc n) [] h = (refl, clear_of n [] (rw (take-nil {A = Token} n) tt))
clear_of (suc n) (t ∷ ts) h = (h.0.1, clear_of n ts h.1)

-- a token that counts is of the kind that was asked for
taken : (k : ℕ) (t : Token) → ◌≡◌ {A = ℕ} 1 (cond (eqb t.kind k) 1 0) → t.kind ≡ k
taken k t = cond_says (λ i. 1 ≡ i → t.kind ≡ k) (eqb t.kind k) (λ h e. eqb-true t.kind k h) (λ h e. absurd (omega arith))

-- a wrong token that the cursor stands behind is no Label either
clear_cursor : (y : Why) (n : ℕ) (ts : List Token) → beyond y ≡ past (number y) (token_at (drop n ts) 0 ∷ []) → Clear n ts → Clear (n + beyond y) ts
unfolding past
clear_cursor (plain k) n ts e c = rw (add-zero n) c
clear_cursor overflow n ts e c = rw (add-one n) (clear_more n ts c (rw (taken Literal (token_at (drop n ts) 0) e) refl))
clear_cursor eaten n ts e c = rw (add-one n) (clear_more n ts c (rw (taken Comma (token_at (drop n ts) 0) e) refl))

-- a result of items from place p on: no Label before its cursor
abbrev Passed : {A : Type 0} → ℕ → List Token → Res A → Type 0
Passed p ts (got a n) = Clear n ts
Passed p ts (bad y w) = (n : ℕ) × (w + beyond y ≡ p + n) × Clear n ts

-- so it is for every result of items
items_passed : (takes : Bool) (wrong : ℕ) → Plain base wrong → (p : ℕ) (ts : List Token) → Passed p ts (items takes wrong p ts)
items_passed takes wrong told p ts = go (items takes wrong p ts) (items_hold base takes wrong told p ts)
  where
    go : (r : Res (List (List Simple))) → Holds (Told base) (Items takes p) (Some forget (λ s. Item takes) tt p) p (items takes wrong p) ts r → Passed p ts r
    go (got is n) (well h) = clear_of n ts (items_inner takes p (take n ts) is h.follows)
    go (bad y w) (ill h) = (
      h.off + beyond y,
      omega (arith, h.place),
      clear_cursor y h.off ts h.told.0
          (clear_of h.off ts (all_front Inner (take h.off ts) h.goes.0 (items_inner takes p (take h.off ts ++ h.goes.0) h.goes.2.0 h.goes.2.1))),
    )

-- ---- labels

-- both rules
abbrev naming : Bool → Rules
naming strict = record { push_in_labels = strict; names_once = true }

-- x' is x, read from place p on, unless a name stands again before x's cursor
abbrev Ruled : {A : Type 0} → List (List ℕ) → ℕ → List Token → Res A → Res A → Type 0
Ruled seen p ts x x' = (n : ℕ) × (cursor_of p x ≡ p + n) × (x' ≡ unless seen false n p ts x)

-- the cursor does not move where tokens before it are counted
cursor_counted : {A : Type 0} (p k : ℕ) (x : Res A) → cursor_of p (counted k x) ≡ cursor_of (p + k) x
cursor_counted p k (got a n) = omega arith
cursor_counted p k (bad y w) = refl

module _ (strict : Bool) {B : Type 0} (f f' : Group → ℕ → List Token → Res B) (seen : List (List ℕ)) (p : ℕ) (ts : List Token)
    (rest : (g : Group) (k : ℕ) → Ruled (remember seen g) (p + suc k) (drop (suc k) ts) (f g (p + suc k) (drop (suc k) ts)) (f' g (p + suc k) (drop (suc k) ts))) where
  -- what is said of a result r behind the Label at p, whose name is new: f behind r, without the rule, and f', with it
  abbrev Behind : Res Group → Type 0
  Behind r =
      (n : ℕ)
      × (cursor_of p (joined (with_one_more r) f p ts) ≡ p + suc n)
      × (joined (with_one_more r) f' p ts ≡ unless ((token_at ts 0).text ∷ seen) true n (suc p) (drop 1 ts) (joined (with_one_more r) f p ts))

  -- the label with its items
  abbrev grouped : List (List Simple) → ℕ → List Token → Res Group
  grouped is q us = got (record { first = p; end = q; token = token_at ts 0; inner = flatten is }) 0

  -- behind the Colon come items
  behind_colon : (r : Res (List (List Simple))) → Passed (suc (suc p)) (drop 1 (drop 1 ts)) r → Behind (with_one_more (joined r grouped (suc (suc p)) (drop 1 (drop 1 ts))))
  unfolding unless
  behind_colon (bad y w) (n, e, c) = (suc n, omega arith, unless_none ((token_at ts 0).text ∷ seen) n (suc (suc p)) (drop 1 (drop 1 ts)) (bad y w) c)
  behind_colon (got is k) c =
      let g : Group = record { first = p; end = suc (suc p) + k; token = token_at ts 0; inner = flatten is } in
      let (n, e, s) = rest g (suc k) in
      rw (add-zero k) (
        suc (k + n),
        (cursor_counted p (suc (suc k)) (f g (p + suc (suc k)) (drop (suc (suc k)) ts)) ∙ e ∙ omega arith),
        unless_behind (counted (suc (suc k))) (λ y w. refl) ((token_at ts 0).text ∷ seen) k n (suc (suc p)) (drop 1 (drop 1 ts)) (f g (p + suc (suc k)) (drop (suc (suc k)) ts)) c
            (omega arith) (later k (drop 1 ts) ∙ later (suc k) ts) s,
      )

  behind_label : Behind (group_rest (pushing strict) p (token_at ts 0) (suc p) (drop 1 ts))
  unfolding group_rest look seq unless past
  behind_label =
      cond_says (λ s. Behind (stepped s (suc p) (drop 1 (drop 1 ts)))) (eqb (token_at (drop 1 ts) 0).kind Colon)
      (λ h. behind_colon (items strict 6 (suc (suc p)) (drop 1 (drop 1 ts))) (items_passed strict 6 (λ i. (refl, refl)) (suc (suc p)) (drop 1 (drop 1 ts))))
      (λ h. (0, omega arith, refl))

  -- one label, and what stands behind it
  label_ruled : Ruled seen p ts (seq (label_group (pushing strict) seen) f p ts) (seq (label_group (naming strict) seen) f' p ts)
  unfolding label_group group_rest look choose seq unless
  label_ruled = go (eqb (token_at ts 0).kind Label) (one_of seen (token_at ts 0).text) refl refl behind_label
    where
      go : (b o : Bool) → eqb (token_at ts 0).kind Label ≡ b → one_of seen (token_at ts 0).text ≡ o
          → Behind (group_rest (pushing strict) p (token_at ts 0) (suc p) (drop 1 ts))
          → Ruled seen p ts
          (joined (stepped (cond b (on (group_rest (pushing strict) p (token_at ts 0))) (refuse (plain 5))) p (drop 1 ts)) f p ts)
          (joined (stepped (cond b (cond (not o) (on (group_rest (naming strict) p (token_at ts 0))) (refuse (plain 22))) (refuse (plain 5))) p (drop 1 ts)) f' p ts)
      go false o e h r = (0, refl, refl)
      go true true e h (n, c, s) = (suc n, c, rw (e, h))
      go true false e h (n, c, s) = (suc n, c, rw (e, h) s)

-- a label put before those behind it
ruled_consed : (seen : List (List ℕ)) (p : ℕ) (ts : List Token) (g : Group) (x : Res (List Group)) {x' : Res (List Group)} → Ruled seen p ts x x' → Ruled seen p ts (consed g x) (consed g x')
ruled_consed seen p ts g x (n, e, s) = (n, go x ∙ e, ap (consed g) s ∙ unless_map (consed g) (λ y w. refl) seen false n p ts x)
  where
    go : (x : Res (List Group)) → cursor_of p (consed g x) ≡ cursor_of p x
    go (got gs k) = refl
    go (bad y w) = refl

-- labels behind others of these names
abbrev labels : Rules → List (List ℕ) → ℕ → List Token → Res (List Group)
labels m seen = many ends_groups remember (label_group m) seen 0

-- as the first of them and the rest
labels_on : (m : Rules) (seen : List (List ℕ)) (p : ℕ) (t : Token) (ts : List Token) → ends_groups t ≡ false
    → labels m seen p (t ∷ ts) ≡ seq (label_group m seen) (λ g q us. consed g (labels m (remember seen g) q us)) p (t ∷ ts)
labels_on m = as_seq ends_groups remember (label_group m) (LabelGroup m) (group_holds m) (group_some m)

module _ (strict : Bool) where
  abbrev Labels : List (List ℕ) → ℕ → List Token → Type 0
  Labels seen p ts = Ruled seen p ts (labels (pushing strict) seen p ts) (labels (naming strict) seen p ts)

  labels_here : (seen : List (List ℕ)) (p : ℕ) (t : Token) (ts : List Token) → ((k : ℕ) (seen : List (List ℕ)) (p : ℕ) → Labels seen p (drop k ts)) → (b : Bool) → ends_groups t ≡ b → Labels seen p (t ∷ ts)
  unfolding unless
  labels_here seen p t ts rest true e =
      rw (many_stop ends_groups remember (label_group (pushing strict)) seen p t ts e, many_stop ends_groups remember (label_group (naming strict)) seen p t ts e) (0, refl, refl)
  labels_here seen p t ts rest false e =
      rw (labels_on (pushing strict) seen p t ts e, labels_on (naming strict) seen p t ts e)
      (label_ruled strict _ _ seen p (t ∷ ts) (λ g k. ruled_consed (remember seen g) (p + suc k) (drop k ts) g (labels (pushing strict) (remember seen g) (p + suc k) (drop k ts)) (rest k (remember seen g) (p + suc k))))

  -- labels one behind the other
  labels_ruled : (ts : List Token) (k : ℕ) (seen : List (List ℕ)) (p : ℕ) → Labels seen p (drop k ts)
  unfolding many label_group look choose unless
  labels_ruled [] zero seen p = (0, omega arith, refl)
  labels_ruled [] (suc k) seen p = (0, omega arith, refl)
  labels_ruled (t ∷ ts) (suc k) seen p = labels_ruled ts k seen p
  labels_ruled (t ∷ ts) zero seen p = labels_here seen p t ts (labels_ruled ts) (ends_groups t) refl

-- ---- the body

-- the brace behind the labels
abbrev ended : List (List Simple) → List Group → ℕ → List Token → Res Reading
ended is gs = expect CloseBrace (plain 5) (λ c q us. got (record { main = flatten is; groups = gs }) 0)

-- it adds a token at most, and that is no Label
ended_ruled : (is : List (List Simple)) (p : ℕ) (ts : List Token) (x : Res (List Group)) {z : Res Reading} (n : ℕ) → cursor_of p x ≡ p + n
    → z ≡ unless [] false n p ts (joined x (ended is) p ts)
    → Ruled [] p ts (joined x (ended is) p ts) z
unfolding look
ended_ruled is p ts (bad y w) n e = λ s. (n, e, s)
ended_ruled is p ts (got gs k) {z} n e =
    cond_says (λ x. z ≡ unless [] false n p ts (counted k (stepped x (p + k) (drop 1 (drop k ts)))) → Ruled [] p ts (counted k (stepped x (p + k) (drop 1 (drop k ts)))) z)
    (eqb (token_at (drop k ts) 0).kind CloseBrace)
    (λ h s. (suc n, omega arith, s ∙ sym (unless_more [] false n p ts _ (brace h))))
    (λ h s. (n, omega arith, s))
  where
    brace : eqb (token_at (drop k ts) 0).kind CloseBrace ≡ true → Other (token_at (drop n ts) 0)
    brace h = let same : n ≡ k = omega arith in rw same (rw (eqb-true (token_at (drop k ts) 0).kind CloseBrace h) refl)

cursor_more : {A : Type 0} (p k : ℕ) (x : Res A) → cursor_of p (with_one_more (counted k x)) ≡ cursor_of (suc p + k) x
cursor_more p k (got a n) = omega arith
cursor_more p k (bad y w) = refl

module _ (strict : Bool) (p : ℕ) (ts : List Token) where
  -- what stands behind the first brace, by the result of the items
  inner : Rules → Res (List (List Simple)) → Res Reading
  inner m r = with_one_more (joined r (λ is. seq (groups m) (ended is)) (suc p) (drop 1 ts))

  inner_ruled : Other (token_at ts 0) → (r : Res (List (List Simple))) → Passed (suc p) (drop 1 ts) r → Ruled [] p ts (inner (pushing strict) r) (inner (naming strict) r)
  unfolding inner groups seq
  inner_ruled o (bad y w) (n, e, c) = (suc n, omega arith, unless_none [] (suc n) p ts (bad y w) (o, c))
  inner_ruled o (got is k) c =
      let q : ℕ = suc p + k in
      let us : List Token = drop k (drop 1 ts) in
      let x : Res (List Group) = labels (pushing strict) [] q us in
      let (n, e, s) = labels_ruled strict us 0 [] q in
      let (j, f, z) = ended_ruled is q us x n e (ap (λ r. joined r (ended is) q us) s ∙ unless_map (λ r. joined r (ended is) q us) (λ y w. refl) [] false n q us x) in (
        suc k + j,
        (cursor_more p k (joined x (ended is) q us) ∙ f ∙ omega arith),
        unless_behind (λ r. with_one_more (counted k r)) (λ y w. refl) [] (suc k) j p ts (joined x (ended is) q us) (o, c) (omega arith) (sym (later k ts)) z,
      )

  body_ruled : Ruled [] p ts (body_from (pushing strict) p ts) (body_from (naming strict) p ts)
  unfolding body_from look inner past unless seq
  body_ruled = go (eqb (token_at ts 0).kind OpenBrace) refl
    where
      start : Bool → Rules → Res Reading
      start b m = stepped (cond b (on (seq (items true 5) (λ is. seq (groups m) (ended is)))) (refuse (plain 1))) p (drop 1 ts)

      go : (b : Bool) → eqb (token_at ts 0).kind OpenBrace ≡ b → Ruled [] p ts (start b (pushing strict)) (start b (naming strict))
      go true h = inner_ruled (rw (eqb-true (token_at ts 0).kind OpenBrace h) refl) (items true 5 (suc p) (drop 1 ts)) (items_passed true 5 (λ i. (refl, refl)) (suc p) (drop 1 ts))
      go false h = (0, refl, refl)

-- `once`, by the number of tokens before the cursor
once_is : {A : Type 0} (all : List Token) (p n : ℕ) (x : Res A) → cursor_of p x ≡ p + n → once all p x ≡ unless [] false n p (drop p all) x
unfolding once tested
once_is all p n x e =
    let d : p + n - p ≡ n = omega arith in
    ap (λ k. tested (again [] false (k - p) p (drop p all)) k x) e
    ∙ ap (λ k. tested (again [] false k p (drop p all)) (p + n) x) d
    ∙ sym (unless_is [] false n p (drop p all) x)

-- reading a body with the rule on labels' names is reading it without, unless a name stands again before the cursor: then 22 there
pub names_once_lem : (strict : Bool) (all : List Token) (p : ℕ)
    → body_from (record { push_in_labels = strict; names_once = true }) p (drop p all) ≡ once all p (body_from (pushing strict) p (drop p all))
names_once_lem strict all p =
    let (n, e, s) = body_ruled strict p (drop p all) in
    s ∙ sym (once_is all p n (body_from (pushing strict) p (drop p all)) e)

-- a cursor one behind the wrong token is inside the list
past_inside : (c : ℕ) (ts : List Token) → past c ts ≤ length ts
unfolding past
past_inside c ts =
    cond_says (λ k. k ≤ length ts) (eqb c 4) (λ h. first Literal ts refl) (λ h. cond_says (λ k. k ≤ length ts) (eqb c 8) (λ i. first Comma ts refl) (λ i. omega arith))
  where
    first : (k : ℕ) (ts : List Token) → eqb 0 k ≡ false → cond (eqb (token_at ts 0).kind k) 1 0 ≤ length ts
    first k [] h = rw h (omega arith)
    first k (t ∷ ts) h = cond_says (λ i. i ≤ suc (length ts)) (eqb t.kind k) (λ e. omega arith) (λ e. omega arith)

-- a refusal's cursor is not behind the list
pub cursor_inside : (m : Rules) (all : List Token) (p : ℕ) (y : Why) (w : ℕ) → p ≤ length all → body_from m p (drop p all) ≡ bad y w → w + beyond y ≤ length all
unfolding body_at
cursor_inside m all p y w inside e =
    let (q, f, k) = cursor m all p (number y) (w + beyond y) inside (ap answer e) in
    omega (arith, f.inside, past_inside (number y) (drop q all), length-drop q all)
