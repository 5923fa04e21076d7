-- On the operands of pushes. In a macro part every value push has its operand, whatever the rule set: the grammar asks for it there, so only in a label can a push leave the body
-- without a length. Assumes nothing.
use Prim.Native.Nat.{ℕ, suc, ◌+◌}
use mathlib.Core.Path.{◌≡◌, refl, sym, ap, ◌∙◌}
use mathlib.Core.Bool.{true, false, cond, not, ◌&&◌, and-eq-true_iff}
use mathlib.Core.List.{List, [], ◌∷◌, ◌++◌, flatten}
use lib.Dec.{eqb}
use lib.ListN.{length, take, drop}
use borrow.Author.Tests.{eqb-true}
use Rattle.tokens.specs.Number.{literal_type, opcode_type, label_call_type, invocation_type, constant_type, argument_call_type}
use Rattle.tokens.specs.Token.{Token}
use Rattle.tokens.specs.Push.{is_value_push, fits}
use Rattle.grammar.specs.Reading.{Sort, a_literal, an_opcode, a_label_call, an_invocation, a_constant, an_argument_call, a_builtin, Simple, Reading}
use Rattle.grammar.specs.Records.{type_of}
use Rattle.grammar.specs.Rules.{Rules}
use Rattle.grammar.specs.Grammar.{Many, none, more, Item, literal, opcode, push, label_call, invocation, constant, argument_call, builtin, forget, Body, body}
use Rattle.grammar.specs.Follows.{Follows}
use Rattle.grammar.specs.PlainLength.{is_a, value_push, is_operand, instructions, complete, every}

-- the type number tells the sort, so no other sort passes `is_a`
sort_of : ℕ → Sort
sort_of n =
    cond (eqb n literal_type) a_literal
    (cond (eqb n opcode_type) an_opcode
    (cond (eqb n label_call_type) a_label_call
    (cond (eqb n invocation_type) an_invocation
    (cond (eqb n constant_type) a_constant
    (cond (eqb n argument_call_type) an_argument_call a_builtin)))))

sort_back : (x : Sort) → sort_of (type_of x) ≡ x
unfolding sort_of
sort_back a_literal = refl
sort_back an_opcode = refl
sort_back a_label_call = refl
sort_back an_invocation = refl
sort_back a_constant = refl
sort_back an_argument_call = refl
sort_back a_builtin = refl

pub is_a_lem : (sort : Sort) (s : Simple) → is_a sort s ≡ true → s.sort ≡ sort
is_a_lem sort s e = sym (sort_back s.sort) ∙ ap sort_of (eqb-true (type_of s.sort) (type_of sort) e) ∙ sort_back sort

-- what an operand is, test by test
pub operand_says : (s l : Simple) → is_operand s l ≡ true
    → (is_a an_opcode s ≡ true) × (is_value_push s.token.extra ≡ true) × (is_a a_literal l ≡ true) × (fits s.token.extra l.token.text ≡ true)
operand_says s l e =
    let both = (and-eq-true_iff (value_push s && is_a a_literal l) (fits s.token.extra l.token.text)).0 e in
    let sorts = (and-eq-true_iff (value_push s) (is_a a_literal l)).0 both.0 in
    let push = (and-eq-true_iff (is_a an_opcode s) (is_value_push s.token.extra)).0 sorts.0 in
    (push.0, push.1, sorts.1, both.1)

-- what is no operand is counted by itself
pub counted_alone : (s l : Simple) (ss : List Simple) → is_operand s l ≡ false → instructions (s ∷ l ∷ ss) ≡ record { statement = s; with_operand = false } ∷ instructions (l ∷ ss)
unfolding instructions
counted_alone s l ss e = rw e

-- a statement that is no value push, before complete ones
plain_complete : (s : Simple) (ss : List Simple) → value_push s ≡ false → every complete (instructions ss) ≡ true → every complete (instructions (s ∷ ss)) ≡ true
unfolding instructions every
plain_complete s [] e h = ap (λ v. not v && true) e
plain_complete s (l ∷ ss) e h =
    ap (every complete) (counted_alone s l ss (rw e))
    ∙ ap (λ v. not v && every complete (instructions (l ∷ ss))) e
    ∙ h

-- an item where a push takes its literal
item_complete : (p : ℕ) (xs : List Token) (u v : List Simple) → Item true p xs u → every complete (instructions v) ≡ true → every complete (instructions (u ++ v)) ≡ true
unfolding instructions every
item_complete p xs u v (literal t e) h = plain_complete _ v refl h
item_complete p xs u v (opcode t e w) h = plain_complete _ v w h
item_complete p xs u v (push t l e w k f) h = rw (w, f) h
item_complete p xs u v (label_call t e) h = plain_complete _ v refl h
item_complete p xs u v (invocation t o e f c) h = plain_complete _ v refl h
item_complete p xs u v (constant l t r e f g) h = plain_complete _ v refl h
item_complete p xs u v (argument_call l t r e f g) h = plain_complete _ v refl h
item_complete p xs u v (builtin t o e f c) h = plain_complete _ v refl h

-- items one behind the other
items_complete : (s : Unit {0}) (p : ℕ) (xs : List Token) (is : List (List Simple)) → Many forget (λ s. Item true) s p xs is → every complete (instructions (flatten is)) ≡ true
unfolding flatten instructions every
items_complete s p xs is none = refl
items_complete s p xs is (more {xs = us} {ys = vs} {a = a} {rs = rs} u m) = item_complete p us a (flatten rs) u (items_complete tt (p + length us) vs rs m)

body_complete : (m : Rules) (p : ℕ) (xs : List Token) (r : Reading) → Body m p xs r → every complete (instructions r.main) ≡ true
body_complete m p xs r (body {xs = us} {is = is} o c e k g f) = items_complete tt (suc p) us is k

-- The theorem
pub macro_part_complete : (m : Rules) (kept : List Token) (p n : ℕ) (r : Reading) → Follows m kept p n r → every complete (instructions r.main) ≡ true
macro_part_complete m kept p n r h = body_complete m p (take n (drop p kept)) r h.1
