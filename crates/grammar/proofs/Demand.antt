-- Theorem 1: read exactly if the tokens follow the grammar. Theorem 4, the prefix law. Theorem 5, the cursor said without the reader.
-- All of them hold for every rule set.
use Prim.Native.Nat.{ℕ, suc, ◌+◌, ◌-◌, ◌≤◌, ◌<◌}
use native.Mathlib.Nat.{le_antisymm}
use native.Mathlib.Omega.{arith}
use mathlib.Core.Path.{◌≡◌, refl, sym, ◌∙◌, ap}
use mathlib.Core.Logic.{◌↔◌}
use mathlib.Core.Bool.{true}
use mathlib.Core.List.{List, ◌++◌, append_assoc}
use lib.ListN.{length, take, drop, length-drop, length-append, take-append-drop}
use lib.Seq.{length-take-le, take-add, drop_at, take-append-le, take-take, drop-drop, take-length}
use Rattle.tokens.specs.Token.{Token}
use Rattle.grammar.specs.Reading.{Reading}
use Rattle.grammar.specs.Rules.{Rules}
use Rattle.grammar.specs.Grammar.{Body, body}
use Rattle.grammar.specs.Result.{Why, number, beyond, Res, got, bad, Answer, read, refused, answer}
use Rattle.grammar.specs.Reader.{body_from, body_at}
use Rattle.grammar.specs.Follows.{Follows, Begins, FirstWrong, past, is_body_number}
use Rattle.grammar.specs.Means.{Means}
use Rattle.grammar.specs.Same.{Agree}
use Rattle.grammar.proofs.Lists.{agree_less, agree_from, not_less}
use Rattle.grammar.proofs.Holds.{Holds, well, ill}
use Rattle.grammar.proofs.Sound.{Told, Any, body_holds}
use Rattle.grammar.proofs.Complete.{body_complete}

pub was_read : {A : Type 0} (x : Res A) (r : A) (n : ℕ) → answer x ≡ read r n → x ≡ got r n
was_read (got r' n') r n e = cc
was_read (bad y w) r n e = cc

pub was_refused : {A : Type 0} (x : Res A) (c q : ℕ) → answer x ≡ refused c q → (y : Why) × (w : ℕ) × (x ≡ bad y w) × (number y ≡ c) × (w + beyond y ≡ q)
was_refused (got r n) c q e = absurd (omega (arith, let z : ◌≡◌ {A = ℕ} 0 1 = cc in z))
was_refused (bad y w) c q e = (y, w, refl, cc, cc)

pub body_some : (m : Rules) (p : ℕ) (xs : List Token) (r : Reading) → Body m p xs r → 0 < length xs
body_some m p xs r (body o c e k g f) = omega arith

-- a result of the reader, with what holds of it
at_body : (m : Rules) (kept : List Token) (p : ℕ) (x : Res Reading) → body_from m p (drop p kept) ≡ x → Holds (Told m) (Body m p) (Any (Body m p)) p (body_from m p) (drop p kept) x
at_body m kept p x e = rw e at (body_holds m p (drop p kept))

sound : (m : Rules) (kept : List Token) (p n : ℕ) (r : Reading) → Holds (Told m) (Body m p) (Any (Body m p)) p (body_from m p) (drop p kept) (got r n) → Follows m kept p n r
sound m kept p n r (well h) = (
  omega (arith, h.within, length-drop p kept, body_some m p (take n (drop p kept)) r h.follows, length-take-le n (drop p kept) h.within),
  h.follows,
)

complete : (m : Rules) (kept : List Token) (p n : ℕ) (r : Reading) → Follows m kept p n r → body_from m p (drop p kept) ≡ got r n
complete m kept p n r h =
    ap (body_from m p) (sym (take-append-drop n (drop p kept)))
    ∙ body_complete m p (take n (drop p kept)) r h.1 (drop n (drop p kept))
    ∙ ap (got r) (length-take-le n (drop p kept) (omega (arith, length-drop p kept, h.0)))

-- Theorem 1. Read with r and n tokens exactly if those n tokens follow the grammar and read r
pub body_exactly : (m : Rules) (kept : List Token) (p n : ℕ) (r : Reading) → (body_at m kept p ≡ read r n) ↔ Follows m kept p n r
unfolding body_at
body_exactly m kept p n r = (
  (λ e. sound m kept p n r (at_body m kept p (got r n) (was_read (body_from m p (drop p kept)) r n e))),
  (λ h. ap answer (complete m kept p n r h)),
)

-- a stretch and its reading are the only ones
pub only_one : (m : Rules) (kept : List Token) (p n n' : ℕ) (r r' : Reading) → Follows m kept p n r → Follows m kept p n' r' → (n ≡ n') × (r ≡ r')
only_one m kept p n n' r r' h h' =
    let e : body_at m kept p ≡ read r n = (body_exactly m kept p n r).1 h in
    let e' : body_at m kept p ≡ read r' n' = (body_exactly m kept p n' r').1 h' in
    ((cc), (cc))

-- a refused start has none
pub refused_none : (m : Rules) (kept : List Token) (p c q : ℕ) → body_at m kept p ≡ refused c q → (n : ℕ) (r : Reading) → ¬ Follows m kept p n r
refused_none m kept p c q e n r h =
    let e' : body_at m kept p ≡ read r n = (body_exactly m kept p n r).1 h in
    let z : ◌≡◌ {A = ℕ} 0 1 = cc in
    omega arith

-- every list that keeps the tokens up to the first wrong one is refused alike
wrong_place : (m : Rules) (kept other : List Token) (p : ℕ) (y : Why) (w : ℕ)
    → Holds (Told m) (Body m p) (Any (Body m p)) p (body_from m p) (drop p kept) (bad y w)
    → Agree p w kept other
    → body_from m p (drop p other) ≡ bad y w
wrong_place m kept other p y w (ill h) e = h.sure (drop p other) (agree_less (suc h.off) (suc w - p) (drop p kept) (drop p other) (omega (arith, h.place)) e)

-- Theorem 4. Refused at cursor q, every list with the same tokens from the start to q is refused alike
pub same_refusal : (m : Rules) (kept other : List Token) (p c q : ℕ) → body_at m kept p ≡ refused c q → Agree p q kept other → body_at m other p ≡ refused c q
unfolding body_at
same_refusal m kept other p c q e a =
    let (y, w, x, cy, cw) = was_refused (body_from m p (drop p kept)) c q e in
    let h = wrong_place m kept other p y w (at_body m kept p (bad y w) x) (agree_less (suc w - p) (suc q - p) (drop p kept) (drop p other) (omega arith) a) in
    ap answer h ∙ cc

first_wrong : (m : Rules) (kept : List Token) (p : ℕ) (y : Why) (w : ℕ) → p ≤ length kept
    → Holds (Told m) (Body m p) (Any (Body m p)) p (body_from m p) (drop p kept) (bad y w)
    → FirstWrong m kept p w × (beyond y ≡ past (number y) (drop w kept))
unfolding past
first_wrong m kept p y w inside (ill h) = (
  record {
    before = omega (arith, h.place);
    inside = omega (arith, h.place, h.within, length-drop p kept);
    begins = (h.goes.0, h.goes.2.0, rw off h_body, h.goes.1);
    hopeless = λ other e r n f.
        let z = sym (complete m other p n r f) ∙ wrong_place m kept other p y w (ill h) (agree_from p w kept other e) in
        let o : ◌≡◌ {A = ℕ} 0 1 = cc in
        omega arith;
  },
  h.told.0 ∙ ap (past (number y)) (drop-drop h.off p kept ∙ ap (λ k. drop k kept) (sym h.place)),
)
  where
    off : w - p ≡ h.off
    off = omega (arith, h.place)

    h_body : Body m p (take h.off (drop p kept) ++ h.goes.0) h.goes.2.0
    h_body = h.goes.2.1

-- Theorem 5. For every refusal there is a first wrong place, and the cursor is it, or one past it in document 01's two cases
pub cursor : (m : Rules) (kept : List Token) (p c q : ℕ) → p ≤ length kept → body_at m kept p ≡ refused c q
    → (w : ℕ) × FirstWrong m kept p w × (q ≡ w + past c (drop w kept))
unfolding body_at
cursor m kept p c q inside e =
    let (y, w, x, cy, cw) = was_refused (body_from m p (drop p kept)) c q e in
    let f = first_wrong m kept p y w inside (at_body m kept p (bad y w) x) in
    (w, f.0, sym cw ∙ ap (λ k. w + k) (f.1 ∙ ap (λ k. past k (drop w kept)) cy))

-- a beginning of a body, as a list that has one
begun : (m : Rules) (kept : List Token) (p w : ℕ) → p ≤ w → w ≤ length kept → (b : Begins m kept p w)
    → (n : ℕ) × Follows m (take w kept ++ b.0) p n b.1
begun m kept p w before inside b = (
  length (part ++ b.0),
  (
    omega (arith, length-append part b.0, length-append (take w kept) b.0, length-take-le w kept inside, length-take-le (w - p) (drop p kept) (omega (arith, length-drop p kept))),
    rw (rest, take-length (part ++ b.0)) b.2,
  ),
)
  where
    part : List Token
    part = take (w - p) (drop p kept)

    split : take w kept ≡ take p kept ++ part
    split = let e : w ≡ p + (w - p) = omega arith in ap (λ k. take k kept) e ∙ take-add p (w - p) kept

    rest : drop p (take w kept ++ b.0) ≡ part ++ b.0
    rest =
        ap (λ l. drop p (l ++ b.0)) split
        ∙ ap (drop p) (append_assoc (take p kept) part b.0)
        ∙ drop_at (take p kept) (part ++ b.0) p (length-take-le p kept (omega arith))

-- a place before one at which the tokens can still go on is not hopeless
not_before : (m : Rules) (kept : List Token) (p w w' : ℕ) → FirstWrong m kept p w → FirstWrong m kept p w' → w < w' → ⊥
not_before m kept p w w' f f' h =
    let b = begun m kept p w' f'.before f'.inside f'.begins in
    f.hopeless (take w' kept ++ f'.begins.0)
    (sym (take-take (suc w) w' kept h) ∙ sym (take-append-le (suc w) (take w' kept) f'.begins.0 (omega (arith, length-take-le w' kept f'.inside))))
    f'.begins.1 b.0 b.1

-- there is only one first wrong place
pub only_first : (m : Rules) (kept : List Token) (p w w' : ℕ) → FirstWrong m kept p w → FirstWrong m kept p w' → w ≡ w'
only_first m kept p w w' f f' = le_antisymm (not_less (not_before m kept p w' w f' f)) (not_less (not_before m kept p w w' f f'))

-- refused, with some number and cursor, exactly if some place is the first wrong one
pub refused_exactly : (m : Rules) (kept : List Token) (p : ℕ) → p ≤ length kept
    → ((c : ℕ) × (q : ℕ) × (body_at m kept p ≡ refused c q)) ↔ ((w : ℕ) × FirstWrong m kept p w)
refused_exactly m kept p inside = (
  (λ e. let c = cursor m kept p e.0 e.1 inside e.2 in (c.0, c.1)),
  (λ f. go f.0 f.1 (body_at m kept p) refl),
)
  where
    go : (w : ℕ) → FirstWrong m kept p w → (x : Answer Reading) → body_at m kept p ≡ x → (c : ℕ) × (q : ℕ) × (body_at m kept p ≡ refused c q)
    go w f (read r n) e = absurd (f.hopeless kept refl r n ((body_exactly m kept p n r).0 e))
    go w f (refused c q) e = (c, q, e)

-- theorems 1 and 5 in one: every answer of the reader, those of the tables of cases too, means that
pub means : (m : Rules) (kept : List Token) (p : ℕ) → p ≤ length kept → Means m kept p (body_at m kept p)
means m kept p inside = go (body_at m kept p) refl
  where
    go : (x : Answer Reading) → body_at m kept p ≡ x → Means m kept p x
    go (read r n) e = (body_exactly m kept p n r).0 e
    go (refused c q) e = cursor m kept p c q inside e

known : (m : Rules) (p : ℕ) (ts : List Token) (y : Why) (w : ℕ) → Holds (Told m) (Body m p) (Any (Body m p)) p (body_from m p) ts (bad y w) → is_body_number m (number y) ≡ true
known m p ts y w (ill h) = h.told.1

-- a body is refused with one of document 01's numbers for it: 1, 4, 5, 6, 7, 8, 10, 12, 13; 22 only where names may not repeat
pub known_numbers : (m : Rules) (kept : List Token) (p c q : ℕ) → body_at m kept p ≡ refused c q → is_body_number m c ≡ true
unfolding body_at
known_numbers m kept p c q e =
    let (y, w, x, cy, cw) = was_refused (body_from m p (drop p kept)) c q e in
    let k = known m p (drop p kept) y w (at_body m kept p (bad y w) x) in
    rw cy at k
