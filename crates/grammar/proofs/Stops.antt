-- No list runs out: nothing is read at or behind an Eof. And no item holds a Label.
use Prim.Native.Nat.{ℕ, zero, suc, ◌+◌, ◌-◌, ◌≤◌, ◌<◌}
use native.Mathlib.Omega.{arith}
use mathlib.Core.Path.{◌≡◌, refl, ◌∙◌, ap}
use mathlib.Core.Bool.{Bool, true, false}
use mathlib.Core.List.{List, [], ◌∷◌, ◌++◌, append-nil}
use lib.ListN.{length, take, drop, length-append, length-drop, get_or-append}
use lib.Seq.{get_or-take, get_or-drop, length-take-le}
use lib.Dec.{eqb}
use borrow.Author.Tests.{eqb-false}
use Rattle.tokens.specs.Token.{Token, token_at, eof_token}
use Rattle.tokens.specs.Kind.{Eof, Label}
use Rattle.grammar.specs.Reading.{Argument, Entry, Simple, Group, Reading}
use Rattle.grammar.specs.Rules.{Rules}
use Rattle.grammar.specs.Grammar.{Many, none, more, Separated, alone, comma, counts, Closed, closed, CallArgument, call_literal, call_name, call_calldata, call_angled, calldata, memory, storage, bare, placed, BuiltinArgument, builtin_string, builtin_literal, builtin_name, Item, literal, opcode, push, label_call, invocation, constant, argument_call, builtin, forget, Items, LabelGroup, group, remember, Body, body}
use Rattle.grammar.specs.Follows.{Follows, FirstWrong}
use Rattle.grammar.specs.Facts.{All}
use Rattle.grammar.proofs.Lists.{all_append, all_map, not_less}

-- a token that is no Eof, and one that is no Label: in items both
abbrev pub Solid : Token → Type 0
Solid t = eqb t.kind Eof ≡ false

abbrev pub Other : Token → Type 0
Other t = eqb t.kind Label ≡ false

abbrev pub Inner : Token → Type 0
Inner t = Solid t × Other t

many_all : {σ A : Type 0} (P : Token → Type 0) (after : σ → A → σ) (U : σ → ℕ → List Token → A → Type 0)
    → ((s : σ) (p : ℕ) (xs : List Token) (a : A) → U s p xs a → All P xs)
    → (s : σ) (p : ℕ) (xs : List Token) (rs : List A) → Many after U s p xs rs → All P xs
many_all P after U h s p xs rs none = tt
many_all P after U h s p xs rs (more {xs = us} {ys = vs} {a = a} {rs = qs} u m) = all_append P us vs (h s p us a u) (many_all P after U h (after s a) (p + length us) vs qs m)

closed_inner : (U : ℕ → ℕ → List Token → Argument → Type 0)
    → ((n p : ℕ) (xs : List Token) (a : Argument) → U n p xs a → All Inner xs)
    → (p : ℕ) (xs : List Token) (args : List Argument) → Closed U p xs args → All Inner xs
closed_inner U h p xs args (closed {xs = us} {es = es} c m k) =
    all_append Inner us (c ∷ []) (many_all Inner counts (λ n. Separated (U n)) entry 0 p us es m) (rw k (refl, refl), tt)
  where
    entry : (n q : ℕ) (vs : List Token) (e : Entry) → Separated (U n) q vs e → All Inner vs
    entry n q vs e (alone {a = a} u) = h n q vs a u
    entry n q vs e (comma {xs = ws} {a = a} d u f) = all_append Inner ws (d ∷ []) (h n q ws a u) (rw f (refl, refl), tt)

call_inner : (n p : ℕ) (xs : List Token) (a : Argument) → CallArgument n p xs a → All Inner xs
call_inner n p xs a (call_literal t e) = (rw e (refl, refl), tt)
call_inner n p xs a (call_name t e) = (rw e (refl, refl), tt)
call_inner n p xs a (call_calldata t e) = (rw e (refl, refl), tt)
call_inner n p xs a (call_angled l i r e f g) = (rw e (refl, refl), (rw f (refl, refl), (rw g (refl, refl), tt)))

builtin_inner : (n p : ℕ) (xs : List Token) (a : Argument) → BuiltinArgument n p xs a → All Inner xs
builtin_inner n p xs a (builtin_string t e) = (rw e (refl, refl), tt)
builtin_inner n p xs a (builtin_literal t e) = (rw e (refl, refl), tt)
builtin_inner n p xs a (builtin_name (bare t e w)) = (rw e (refl, refl), tt)
builtin_inner n p xs a (builtin_name (placed k t (calldata c) e w)) = (rw c (refl, refl), (rw e (refl, refl), tt))
builtin_inner n p xs a (builtin_name (placed k t (memory c) e w)) = (rw c (refl, refl), (rw e (refl, refl), tt))
builtin_inner n p xs a (builtin_name (placed k t (storage c) e w)) = (rw c (refl, refl), (rw e (refl, refl), tt))

item_inner : (takes : Bool) (p : ℕ) (xs : List Token) (ss : List Simple) → Item takes p xs ss → All Inner xs
item_inner takes p xs ss (literal t e) = (rw e (refl, refl), tt)
item_inner takes p xs ss (opcode t e w) = (rw e (refl, refl), tt)
item_inner takes p xs ss (push t v e w k f) = (rw e (refl, refl), (rw k (refl, refl), tt))
item_inner takes p xs ss (label_call t e) = (rw e (refl, refl), tt)
item_inner takes p xs ss (invocation {xs = us} {args = args} t o e f c) = (rw e (refl, refl), (rw f (refl, refl), closed_inner CallArgument call_inner (suc (suc p)) us args c))
item_inner takes p xs ss (constant l t r e f g) = (rw e (refl, refl), (rw f (refl, refl), (rw g (refl, refl), tt)))
item_inner takes p xs ss (argument_call l t r e f g) = (rw e (refl, refl), (rw f (refl, refl), (rw g (refl, refl), tt)))
item_inner takes p xs ss (builtin {xs = us} {args = args} t o e f c) = (rw e (refl, refl), (rw f (refl, refl), closed_inner BuiltinArgument builtin_inner (suc (suc p)) us args c))

pub items_inner : (takes : Bool) (p : ℕ) (xs : List Token) (is : List (List Simple)) → Items takes p xs is → All Inner xs
items_inner takes = many_all Inner forget (λ s. Item takes) (λ s. item_inner takes) tt

group_solid : (m : Rules) (seen : List (List ℕ)) (p : ℕ) (xs : List Token) (g : Group) → LabelGroup m seen p xs g → All Solid xs
group_solid m seen p xs g (group {xs = us} {is = is} t c e w f k) =
    (rw e refl, (rw f refl, all_map Inner Solid us (λ x h. h.0) (items_inner m.push_in_labels (suc (suc p)) us is k)))

body_solid : (m : Rules) (p : ℕ) (xs : List Token) (r : Reading) → Body m p xs r → All Solid xs
body_solid m p xs r (body {xs = us} {ys = vs} {is = is} {gs = gs} o c e k g f) = (
  rw e refl,
  all_append Solid us (vs ++ (c ∷ []))
      (all_map Inner Solid us (λ x h. h.0) (items_inner true (suc p) us is k))
      (all_append Solid vs (c ∷ []) (many_all Solid remember (LabelGroup m) (group_solid m) [] (suc p + length us) vs gs g) (rw f refl, tt)),
)

all_at : (xs : List Token) (i : ℕ) → All Solid xs → i < length xs → Solid (token_at xs i)
all_at [] i h k = absurd (omega arith)
all_at (x ∷ xs) zero h k = h.0
all_at (x ∷ xs) (suc i) h k = all_at xs i h.1 (omega arith)

-- the token at a place e behind p, in what begins with n tokens from p on
module _ (kept : List Token) (p n e : ℕ) (before : p ≤ e) (inside : e < p + n) (fits : p + n ≤ length kept) where
  same_token : (rest : List Token) → token_at (take n (drop p kept) ++ rest) (e - p) ≡ token_at kept e
  same_token rest =
      get_or-append (take n (drop p kept)) rest eof_token (e - p) (omega (arith, length-take-le n (drop p kept) (omega (arith, length-drop p kept))))
      ∙ get_or-take n (drop p kept) (e - p) eof_token (omega arith)
      ∙ get_or-drop p kept (e - p) eof_token
      ∙ ap (token_at kept) (omega arith)

  not_eof : (rest : List Token) → All Solid (take n (drop p kept) ++ rest) → (token_at kept e).kind ≡ Eof → ⊥
  not_eof rest h k =
      eqb-false (token_at (take n (drop p kept) ++ rest) (e - p)).kind Eof
      (all_at (take n (drop p kept) ++ rest) (e - p) h
      (omega (arith, length-append (take n (drop p kept)) rest, length-take-le n (drop p kept) (omega (arith, length-drop p kept)))))
      (ap (λ t. t.kind) (same_token rest) ∙ k)

-- a body ends before the next Eof
pub eof_ends : (m : Rules) (kept : List Token) (p n e : ℕ) (r : Reading) → Follows m kept p n r → p ≤ e → (token_at kept e).kind ≡ Eof → p + n ≤ e
eof_ends m kept p n e r h before k =
    not_less (λ inside. not_eof kept p n e before inside h.0 [] (rw (append-nil (take n (drop p kept))) (body_solid m p (take n (drop p kept)) r h.1)) k)

-- and the first wrong place is at most the next Eof's
pub eof_wrong : (m : Rules) (kept : List Token) (p w e : ℕ) → FirstWrong m kept p w → p ≤ e → (token_at kept e).kind ≡ Eof → w ≤ e
eof_wrong m kept p w e f before k =
    not_less (λ inside. not_eof kept p (w - p) e before (omega (arith, f.before)) (omega (arith, f.before, f.inside)) f.begins.0
    (body_solid m p (take (w - p) (drop p kept) ++ f.begins.0) f.begins.1 f.begins.2) k)
