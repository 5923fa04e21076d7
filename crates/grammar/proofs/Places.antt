-- Theorem 7: "Ident not followed by `(`" is no premise of the grammar, it follows. In the same walk: the tokens that a reading holds are those at its places.
use Prim.Native.Nat.{ℕ, suc, ◌+◌}
use native.Mathlib.Nat.{add-zero, add-suc, suc-add}
use native.Mathlib.Numerals.{add-one, add-two}
use native.Mathlib.Omega.{arith}
use mathlib.Core.Path.{◌≡◌, refl, sym, ◌∙◌, ap, subst}
use mathlib.Core.Logic.{◌≢◌}
use mathlib.Core.Bool.{Bool, true, false}
use mathlib.Core.List.{List, [], ◌∷◌, ◌++◌, append_assoc, flatten}
use lib.ListN.{length, take, drop, take-append-drop}
use lib.Seq.{get_or-append-add, get_or-drop}
use lib.Dec.{eqb}
use borrow.Author.Tests.{eqb-false}
use Rattle.tokens.specs.Token.{Token, token_at, eof_token}
use Rattle.tokens.specs.Kind.{OpenParen, Ident, Label, Literal, Opcode, BuiltinFunction}
use Rattle.grammar.specs.Reading.{Simple, Group, Reading, Sort, a_literal, an_opcode, a_label_call, an_invocation, a_constant, an_argument_call, a_builtin}
use Rattle.grammar.specs.Rules.{Rules}
use Rattle.grammar.specs.Grammar.{Many, none, more, Item, literal, opcode, push, label_call, invocation, constant, argument_call, builtin, forget, LabelGroup, group, remember, Body, body}
use Rattle.grammar.specs.Reader.{ends_items, ends_groups}
use Rattle.grammar.specs.Follows.{Follows}
use Rattle.grammar.specs.Facts.{All}
use Rattle.grammar.proofs.Lists.{all_append, all_map}
use Rattle.grammar.proofs.Complete.{calm, calm_open, calm_ends, many_first, item_opens, group_opens}

-- the statements that are no labels, in order
unfoldable pub inner_of : List Group → List Simple
inner_of [] = []
inner_of (g ∷ gs) = g.inner ++ inner_of gs

-- all statements of a reading that are no labels
abbrev pub simples : Reading → List Simple
simples r = r.main ++ inner_of r.groups

-- the kind of a statement's name or value token
abbrev pub value_kind : Sort → ℕ
value_kind a_literal = Literal
value_kind an_opcode = Opcode
value_kind a_label_call = Ident
value_kind an_invocation = Ident
value_kind a_constant = Ident
value_kind an_argument_call = Ident
value_kind a_builtin = BuiltinFunction

-- a token t of kind k stands at place q of the list
abbrev pub At : List Token → ℕ → Token → ℕ → Type 0
At kept q t k = (token_at kept q ≡ t) × (t.kind ≡ k)

-- of a statement that was read as a label call: an Ident stands at its place, and no `(` follows
abbrev pub NotCalled : List Token → Simple → Type 0
NotCalled kept s = s.sort ≡ a_label_call → ((token_at kept s.place).kind ≡ Ident) × ((token_at kept (suc s.place)).kind ≢ OpenParen)

-- what the token behind a statement's own may not be
abbrev Behind : Sort → Token → Type 0
Behind a_literal t = Unit {0}
Behind an_opcode t = Unit {0}
Behind a_label_call t = eqb t.kind OpenParen ≡ false
Behind an_invocation t = Unit {0}
Behind a_constant t = Unit {0}
Behind an_argument_call t = Unit {0}
Behind a_builtin t = Unit {0}

-- a token of kind k stands at place q of the tokens ts from place p on, and behind it one as R says
record Stands (p : ℕ) (ts : List Token) (q : ℕ) (t : Token) (k : ℕ) (R : Token → Type 0) : Type 0 where
  off : ℕ
  place : q ≡ p + off
  there : token_at ts off ≡ t
  kind : t.kind ≡ k
  behind : R (token_at ts (suc off))

abbrev Placed : ℕ → List Token → Simple → Type 0
Placed p ts s = Stands p ts s.place s.token (value_kind s.sort) (Behind s.sort)

abbrev PlacedLabel : ℕ → List Token → Group → Type 0
PlacedLabel p ts g = Stands p ts g.first g.token Label (λ t. Unit {0})

-- the same with tokens before
with_before : (p : ℕ) (xs ts : List Token) {q k : ℕ} {t : Token} {R : Token → Type 0} → Stands (p + length xs) ts q t k R → Stands p (xs ++ ts) q t k R
with_before p xs ts h =
    record {
      off = length xs + h.off;
      place = omega (arith, h.place);
      there = get_or-append-add xs ts h.off eof_token ∙ h.there;
      kind = h.kind;
      behind = rw (← add-suc (length xs) h.off, get_or-append-add xs ts (suc h.off) eof_token) h.behind;
    }

-- the first token, and the second
at_first : (p : ℕ) (t : Token) (ts : List Token) {k : ℕ} {R : Token → Type 0} → t.kind ≡ k → R (token_at ts 0) → Stands p (t ∷ ts) p t k R
at_first p t ts e b = record { off = 0; place = sym (add-zero p); there = refl; kind = e; behind = b }

at_second : (p : ℕ) (o t : Token) (ts : List Token) {k : ℕ} {R : Token → Type 0} → t.kind ≡ k → R (token_at ts 0) → Stands p (o ∷ t ∷ ts) (suc p) t k R
at_second p o t ts e b = record { off = 1; place = omega arith; there = refl; kind = e; behind = b }

item_placed : (takes : Bool) (p : ℕ) (xs : List Token) (ss : List Simple) → Item takes p xs ss → (ys : List Token) → calm (token_at ys 0) ≡ true → All (Placed p (xs ++ ys)) ss
item_placed takes p xs ss (literal t e) ys h = (at_first p t ys e tt, tt)
item_placed takes p xs ss (opcode t e w) ys h = (at_first p t ys e tt, tt)
item_placed takes p xs ss (push t v e w f g) ys h = (at_first p t (v ∷ ys) e tt, (at_second p t v ys f tt, tt))
item_placed takes p xs ss (label_call t e) ys h = (at_first p t ys e (calm_open (token_at ys 0) h), tt)
item_placed takes p xs ss (invocation {xs = us} t o e f c) ys h = (at_first p t (o ∷ (us ++ ys)) e tt, tt)
item_placed takes p xs ss (constant l t r e f g) ys h = (at_second p l t (r ∷ ys) f tt, tt)
item_placed takes p xs ss (argument_call l t r e f g) ys h = (at_second p l t (r ∷ ys) f tt, tt)
item_placed takes p xs ss (builtin {xs = us} t o e f c) ys h = (at_first p t (o ∷ (us ++ ys)) e tt, tt)

items_placed : (takes : Bool) (u : Unit {0}) (p : ℕ) (xs : List Token) (is : List (List Simple)) → Many forget (λ s. Item takes) u p xs is → (ys : List Token) → calm (token_at ys 0) ≡ true
    → All (Placed p (xs ++ ys)) (flatten is)
unfolding flatten
items_placed takes u p xs is none ys h = tt
items_placed takes u p xs is (more {xs = us} {ys = vs} {a = a} {rs = rs} i m) ys h =
    rw (append_assoc us vs ys)
    (all_append (Placed p (us ++ (vs ++ ys))) a (flatten rs)
    (item_placed takes p us a i (vs ++ ys) (many_first forget (λ s. Item takes) ends_items calm (λ s. item_opens takes) tt (p + length us) vs rs ys m h))
    (all_map (Placed (p + length us) (vs ++ ys)) (Placed p (us ++ (vs ++ ys))) (flatten rs) (λ s. with_before p us (vs ++ ys)) (items_placed takes tt (p + length us) vs rs m ys h)))

groups_placed : (m : Rules) (seen : List (List ℕ)) (p : ℕ) (xs : List Token) (gs : List Group) → Many remember (LabelGroup m) seen p xs gs → (ys : List Token) → ends_items (token_at ys 0) ≡ true
    → All (Placed p (xs ++ ys)) (inner_of gs)
unfolding inner_of
groups_placed m seen p xs gs none ys h = tt
groups_placed m seen p xs gs (more {ys = vs} {rs = rs} (group {xs = us} {is = is} t c e w f k) n) ys h =
    rw (append_assoc us vs ys)
    (all_append (Placed p (t ∷ c ∷ (us ++ (vs ++ ys)))) (flatten is) (inner_of rs)
    (all_map (Placed (p + 2) (us ++ (vs ++ ys))) (Placed p (t ∷ c ∷ (us ++ (vs ++ ys)))) (flatten is) (λ s. with_before p (t ∷ c ∷ []) (us ++ (vs ++ ys)))
    (rw (add-two p) (items_placed m.push_in_labels tt (suc (suc p)) us is k (vs ++ ys)
    (calm_ends (token_at (vs ++ ys) 0) (many_first remember (LabelGroup m) ends_groups ends_items (group_opens m) (t.text ∷ seen) (p + suc (suc (length us))) vs rs ys n h)))))
    (all_map (Placed (p + suc (suc (length us))) (vs ++ ys)) (Placed p (t ∷ c ∷ (us ++ (vs ++ ys)))) (inner_of rs) (λ s. with_before p (t ∷ c ∷ us) (vs ++ ys))
    (groups_placed m (t.text ∷ seen) (p + suc (suc (length us))) vs rs n ys h)))

body_placed : (m : Rules) (p : ℕ) (xs : List Token) (r : Reading) → Body m p xs r → (zs : List Token) → All (Placed p (xs ++ zs)) (simples r)
body_placed m p xs r (body {xs = us} {ys = vs} {is = is} {gs = gs} o c e k g f) zs =
    rw (append_assoc us (vs ++ (c ∷ [])) zs, append_assoc vs (c ∷ []) zs)
    (all_map (Placed (p + 1) (us ++ (vs ++ (c ∷ zs)))) (Placed p (o ∷ (us ++ (vs ++ (c ∷ zs))))) (flatten is ++ inner_of gs) (λ s. with_before p (o ∷ []) (us ++ (vs ++ (c ∷ zs))))
    (rw (add-one p) (all_append (Placed (suc p) (us ++ (vs ++ (c ∷ zs)))) (flatten is) (inner_of gs)
    (items_placed true tt (suc p) us is k (vs ++ (c ∷ zs))
    (calm_ends (token_at (vs ++ (c ∷ zs)) 0) (many_first remember (LabelGroup m) ends_groups ends_items (group_opens m) [] (suc p + length us) vs gs (c ∷ zs) g (rw f))))
    (all_map (Placed (suc p + length us) (vs ++ (c ∷ zs))) (Placed (suc p) (us ++ (vs ++ (c ∷ zs)))) (inner_of gs) (λ s. with_before (suc p) us (vs ++ (c ∷ zs)))
    (groups_placed m [] (suc p + length us) vs gs g (c ∷ zs) (rw f))))))

labels_placed : (m : Rules) (seen : List (List ℕ)) (p : ℕ) (xs : List Token) (gs : List Group) → Many remember (LabelGroup m) seen p xs gs → (ys : List Token) → All (PlacedLabel p (xs ++ ys)) gs
labels_placed m seen p xs gs none ys = tt
labels_placed m seen p xs gs (more {ys = vs} {rs = rs} (group {xs = us} t c e w f k) n) ys = (
  at_first p t (c ∷ ((us ++ vs) ++ ys)) e tt,
  subst (λ (l : List Token). All (PlacedLabel p (t ∷ c ∷ l)) rs) (sym (append_assoc us vs ys))
      (all_map (PlacedLabel (p + suc (suc (length us))) (vs ++ ys)) (PlacedLabel p (t ∷ c ∷ (us ++ (vs ++ ys)))) rs (λ g. with_before p (t ∷ c ∷ us) (vs ++ ys))
      (labels_placed m (t.text ∷ seen) (p + suc (suc (length us))) vs rs n ys)),
)

body_labels : (m : Rules) (p : ℕ) (xs : List Token) (r : Reading) → Body m p xs r → (zs : List Token) → All (PlacedLabel p (xs ++ zs)) r.groups
body_labels m p xs r (body {xs = us} {ys = vs} {is = is} {gs = gs} o c e k g f) zs =
    rw (append_assoc us (vs ++ (c ∷ [])) zs, append_assoc vs (c ∷ []) zs)
    (all_map (PlacedLabel (p + suc (length us)) (vs ++ (c ∷ zs))) (PlacedLabel p (o ∷ (us ++ (vs ++ (c ∷ zs))))) gs (λ h. with_before p (o ∷ us) (vs ++ (c ∷ zs)))
    (rw (add-suc p (length us), ← suc-add p (length us)) (labels_placed m [] (suc p + length us) vs gs g (c ∷ zs))))

-- from the tokens behind place p to the whole list
module _ (m : Rules) (kept : List Token) (p n : ℕ) (r : Reading) (h : Follows m kept p n r) where
  in_list : {q k : ℕ} {t : Token} {R : Token → Type 0} → Stands p (drop p kept) q t k R → (token_at kept q ≡ t) × (t.kind ≡ k) × R (token_at kept (suc q))
  in_list s = (
    rw (s.place, ← get_or-drop p kept s.off eof_token) s.there,
    s.kind,
    rw (s.place, ← add-suc p s.off, ← get_or-drop p kept (suc s.off) eof_token) s.behind,
  )

  all_placed : All (Placed p (drop p kept)) (simples r)
  all_placed = rw (take-append-drop n (drop p kept)) at (body_placed m p (take n (drop p kept)) r h.1 (drop n (drop p kept)))

  all_labels : All (PlacedLabel p (drop p kept)) r.groups
  all_labels = rw (take-append-drop n (drop p kept)) at (body_labels m p (take n (drop p kept)) r h.1 (drop n (drop p kept)))

-- the tokens that a reading holds are those of the list, at its places and of the kinds that it says
pub tokens_stand : (m : Rules) (kept : List Token) (p n : ℕ) (r : Reading) → Follows m kept p n r
    → All (λ s. At kept s.place s.token (value_kind s.sort)) (simples r) × All (λ g. At kept g.first g.token Label) r.groups
tokens_stand m kept p n r h = (
  all_map (Placed p (drop p kept)) (λ s. At kept s.place s.token (value_kind s.sort)) (simples r)
      (λ s k. let a = in_list m kept p n r h k in (a.0, a.1)) (all_placed m kept p n r h),
  all_map (PlacedLabel p (drop p kept)) (λ g. At kept g.first g.token Label) r.groups
      (λ g k. let a = in_list m kept p n r h k in (a.0, a.1)) (all_labels m kept p n r h),
)

-- Theorem 7. In no body does `(` follow an Ident that was read as a label call
pub no_parenthesis : (m : Rules) (kept : List Token) (p n : ℕ) (r : Reading) → Follows m kept p n r → All (NotCalled kept) (simples r)
no_parenthesis m kept p n r h = all_map (Placed p (drop p kept)) (NotCalled kept) (simples r) not_called (all_placed m kept p n r h)
  where
    not_called : (s : Simple) → Placed p (drop p kept) s → NotCalled kept s
    not_called s k e =
        let a = in_list m kept p n r h (rw e at k) in
        (ap (λ t. t.kind) a.0 ∙ a.1, eqb-false (token_at kept (suc s.place)).kind OpenParen a.2)
