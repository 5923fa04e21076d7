-- Each reader does what its family of the grammar says: `Holds`, from the leaves up to the body.
use Prim.Native.Nat.{ℕ, suc, ◌+◌, ◌-◌, ◌<◌}
use native.Mathlib.Omega.{arith}
use mathlib.Core.Path.{◌≡◌, refl, sym, ap}
use mathlib.Core.Bool.{Bool, true, false, cond, not, ◌&&◌, and-false, and-eq-true_iff}
use mathlib.Core.List.{List, [], ◌∷◌, ◌++◌, append-nil, flatten}
use lib.ListN.{length, take, drop, length-append}
use lib.Dec.{eqb, leb}
use borrow.Author.Tests.{eqb-true, leb-true, le-leb}
use Rattle.tokens.specs.Token.{Token}
use Rattle.tokens.specs.Kind.{OpenParen, CloseParen, OpenBrace, CloseBrace, CloseBracket, RightAngle, Comma, Colon, Ident, Literal, Opcode}
use Rattle.tokens.specs.Byte.{bytes, same, is_hex, digit, all_hex, value_after}
use Rattle.tokens.specs.Literal.{is_literal, literal_value, bytes_from, significant}
use Rattle.tokens.specs.Name.{decimal, multiples, sized, bare_types, type_names, look_up, type_of, reserved, one_of}
use Rattle.tokens.specs.Push.{is_value_push, push_size, fits}
use Rattle.tokens.specs.WellFormed.{text_good, extra_good}
use Rattle.grammar.specs.Reading.{Argument, Entry, Simple, Group, a_constant, an_argument_call, an_invocation, a_builtin, called, one_token, angled, located, arguments, enclosed}
use Rattle.grammar.specs.Rules.{Rules}
use Rattle.grammar.specs.Grammar.{none, Separated, alone, comma, counts, Entries, Closed, closed, CallArgument, call_literal, call_name, call_calldata, call_angled, Location, calldata, memory, storage, odd, allowed, NameArgument, bare, placed, BuiltinArgument, builtin_string, builtin_literal, builtin_name, Item, literal, opcode, push, label_call, invocation, constant, argument_call, builtin, forget, Items, may_stand, LabelGroup, group, remember, Groups, Body, body}
use Rattle.grammar.specs.Result.{Why, plain, overflow, eaten, number, beyond, Res, got, refuse, leave, on, taken, look, choose, expect, seq}
use Rattle.grammar.specs.Reader.{separated, ends_list, entries, closed_list, call_table, call_argument, name_table, name_step, location_table, untyped_step, name_argument, builtin_table, builtin_argument, operand_step, ident_step, item_table, item, ends_items, items, group_rest, group_table, label_group, ends_groups, groups, body_from}
use Rattle.grammar.specs.Follows.{proper, all_proper, past, is_body_number}
use Rattle.grammar.proofs.Holds.{Holds, StepHolds, refusing, leaving, going, Finish, got_holds, cond_says, choose_says, look_holds, seq_holds, NoneOrOne, nothing, one, Some, many_holds}

-- of every refusal: the cursor stands behind the wrong token as `past` says, and the number is one of a body's
abbrev pub Told : Rules → Why → Token → Type 0
Told m y t = (beyond y ≡ past (number y) (t ∷ [])) × (is_body_number m (number y) ≡ true)

-- tokens with which a beginning is finished
abbrev sign : ℕ → Token
sign k = record { kind = k; text = []; extra = 0 }

abbrev some_name : Token
some_name = record { kind = Ident; text = bytes "a"; extra = 0 }

abbrev some_zero : Token
some_zero = record { kind = Literal; text = bytes "0x0"; extra = 0 }

some_name_allowed : (n : ℕ) → allowed n some_name ≡ true
unfolding allowed reserved type_of look_up type_names bare_types sized decimal multiples same bytes
some_name_allowed n = ap not (and-false (odd n))

some_zero_fits : (b : ℕ) → is_value_push b ≡ true → fits b (bytes "0x0") ≡ true
unfolding is_value_push fits push_size significant literal_value bytes_from value_after digit bytes
some_zero_fits b h = le-leb 1 (b - 0x5f) (omega (arith, leb-true 0x60 b ((and-eq-true_iff (leb 0x60 b) (leb b 0x7f)).0 h).0))

-- a token of one kind asked for
pub expect_holds : {A : Type 0} {T : Why → Token → Type 0} {P : List Token → A → Type 0} {L : List Token → Type 0} (k : ℕ) (y : Why) (f : Token → ℕ → List Token → Res A) (p : ℕ)
    → eqb 0 k ≡ false
    → ((t : Token) → T y t)
    → Finish L []
    → ((t : Token) → t.kind ≡ k → (us : List Token) → Holds T (λ xs. P (t ∷ xs)) (λ xs. L (t ∷ xs)) (suc p) (f t (suc p)) us (f t (suc p) us))
    → (ts : List Token)
    → Holds T P L p (expect k y f p) ts (expect k y f p ts)
expect_holds {T = T} {P = P} {L = L} k y f p n told fin next ts =
    look_holds (λ t. cond (eqb t.kind k) (on (f t)) (refuse y)) p
    (λ t. cond_says (StepHolds T P L p t) (eqb t.kind k) (λ e. going (next t (eqb-true t.kind k e))) (λ e. refusing (told t) fin))
    (rw n tt)
    ts

-- the argument and the Comma after it
pub separated_holds : {T : Why → Token → Type 0} {U : ℕ → List Token → Argument → Type 0} (read : ℕ → List Token → Res Argument)
    → ((p : ℕ) (ts : List Token) → Holds T (U p) (NoneOrOne (U p)) p (read p) ts (read p ts))
    → (p : ℕ) (ts : List Token)
    → Holds T (Separated U p) (NoneOrOne (Separated U p)) p (separated read p) ts (separated read p ts)
unfolding separated all_proper
separated_holds {T} {U} read reads p ts =
    seq_holds (Separated U p) (NoneOrOne (Separated U p)) read
    (λ a. look (λ t. cond (eqb t.kind Comma) (taken (record { argument = a; comma = true })) (leave (record { argument = a; comma = false }))))
    p ts (reads p ts)
    (λ n a h u.
    look_holds (λ t. cond (eqb t.kind Comma) (taken (record { argument = a; comma = true })) (leave (record { argument = a; comma = false })))
    (p + length (take n ts))
    (λ t. cond_says
    (StepHolds T (λ ys. Separated U p (take n ts ++ ys)) (λ ys. NoneOrOne (Separated U p) (take n ts ++ ys)) (p + length (take n ts)) t)
    (eqb t.kind Comma)
    (λ e. going (λ us. got_holds (comma t u (eqb-true t.kind Comma e))))
    (λ e. leaving (rw (append-nil (take n ts)) (alone u))))
    tt (drop n ts))
    finish
  where
    finish : (xs : List Token) → NoneOrOne (U p) xs → Finish (NoneOrOne (Separated U p)) xs
    finish xs nothing = ([], refl, nothing)
    finish xs (one u) = ([], refl, rw (append-nil xs) (one (alone u)))

-- some value
abbrev pub Any : {A : Type 0} → (List Token → A → Type 0) → List Token → Type 0
Any {A} G xs = (a : A) × G xs a

module _ {T : Why → Token → Type 0} (W : ℕ → ℕ → List Token → Argument → Type 0) (read : ℕ → ℕ → List Token → Res Argument)
    (reads : (n p : ℕ) (ts : List Token) → Holds T (W n p) (NoneOrOne (W n p)) p (read n p) ts (read n p ts))
    (some-tokens : (n p : ℕ) (xs : List Token) (a : Argument) → W n p xs a → 0 < length xs) where
  pub some_entry : (n p : ℕ) (xs : List Token) (e : Entry) → Separated (W n) p xs e → 0 < length xs
  some_entry n p xs e (alone {a = a} u) = some-tokens n p xs a u
  some_entry n p xs e (comma {xs = ys} {a = a} c u h) = omega (arith, some-tokens n p ys a u, length-append ys (c ∷ []))

  pub entries_hold : (p : ℕ) (ts : List Token)
      → Holds T (Entries W p) (Some counts (λ n. Separated (W n)) 0 p) p (entries read p) ts (entries read p ts)
  unfolding entries
  entries_hold p ts =
      many_holds ends_list counts (λ n. separated (read n)) (λ n. Separated (W n)) (λ n. separated_holds (read n) (reads n)) some_entry ts 0 0 p

  pub closed_holds : ((t : Token) → T (plain 1) t) → (p : ℕ) (ts : List Token) → Holds T (Closed W p) (Any (Closed W p)) p (closed_list read p) ts (closed_list read p ts)
  unfolding closed_list proper all_proper text_good extra_good
  closed_holds told p ts =
      seq_holds (Closed W p) (Any (Closed W p)) (entries read) (λ es. expect CloseParen (plain 1) (λ c q us. got (arguments es) 0)) p ts (entries_hold p ts)
      (λ n es h m.
      expect_holds CloseParen (plain 1) (λ c q us. got (arguments es) 0) (p + length (take n ts)) refl told
      (sign CloseParen ∷ [], refl, (arguments es, closed (sign CloseParen) m refl))
      (λ t e us. got_holds (closed t m e))
      (drop n ts))
      (λ xs m. (sign CloseParen ∷ [], refl, (arguments m.0, closed (sign CloseParen) m.1 refl)))

-- no argument, item or label is empty
pub call_some : (n p : ℕ) (xs : List Token) (a : Argument) → CallArgument n p xs a → 0 < length xs
call_some n p xs a (call_literal t e) = omega arith
call_some n p xs a (call_name t e) = omega arith
call_some n p xs a (call_calldata t e) = omega arith
call_some n p xs a (call_angled l i r e f g) = omega arith

pub name_some : (n p : ℕ) (xs : List Token) (a : Argument) → NameArgument n p xs a → 0 < length xs
name_some n p xs a (bare t e w) = omega arith
name_some n p xs a (placed k t l e w) = omega arith

pub builtin_some : (n p : ℕ) (xs : List Token) (a : Argument) → BuiltinArgument n p xs a → 0 < length xs
builtin_some n p xs a (builtin_string t e) = omega arith
builtin_some n p xs a (builtin_literal t e) = omega arith
builtin_some n p xs a (builtin_name h) = name_some n p xs a h

pub item_some : (takes : Bool) (p : ℕ) (xs : List Token) (ss : List Simple) → Item takes p xs ss → 0 < length xs
item_some takes p xs ss (literal t e) = omega arith
item_some takes p xs ss (opcode t e w) = omega arith
item_some takes p xs ss (push t v e w k f) = omega arith
item_some takes p xs ss (label_call t e) = omega arith
item_some takes p xs ss (invocation t o e f c) = omega arith
item_some takes p xs ss (constant l t r e f g) = omega arith
item_some takes p xs ss (argument_call l t r e f g) = omega arith
item_some takes p xs ss (builtin t o e f c) = omega arith

pub group_some : (m : Rules) (seen : List (List ℕ)) (p : ℕ) (xs : List Token) (g : Group) → LabelGroup m seen p xs g → 0 < length xs
group_some m seen p xs g (group t c e w f is) = omega arith

push_takes : (takes : Bool) (b : ℕ) → (takes && is_value_push b) ≡ true → fits b (bytes "0x0") ≡ true
push_takes takes b h = some_zero_fits b ((and-eq-true_iff takes (is_value_push b)).0 h).1

some_name_proper : (proper some_name && true) ≡ true
unfolding proper text_good extra_good bytes
some_name_proper = refl

-- what is told of a refusal, where it turns on the token
told_type : (m : Rules) (n : ℕ) (t : Token) → Told m (plain (cond (odd n) 7 1)) t
unfolding past
told_type m n t = go (odd n)
  where
    go : (b : Bool) → Told m (plain (cond b 7 1)) t
    go true = (refl, refl)
    go false = (refl, refl)

told_comma : (m : Rules) (t : Token) → t.kind ≡ Comma → Told m eaten t
unfolding past
told_comma m t e = (rw e, refl)

told_no_comma : (m : Rules) (t : Token) → eqb t.kind Comma ≡ false → Told m (plain 8) t
unfolding past
told_no_comma m t e = (rw e, refl)

told_overflow : (m : Rules) (v : Token) → eqb v.kind Literal ≡ true → Told m overflow v
unfolding past
told_overflow m v e = (rw e, refl)

told_missing : (m : Rules) (v : Token) → eqb v.kind Literal ≡ false → Told m (plain 4) v
unfolding past
told_missing m v e = (rw e, refl)

-- a Label is refused only where names may not repeat
told_repeat : (m : Rules) (seen : List (List ℕ)) (t : Token) → may_stand m seen t ≡ false → Told m (plain 22) t
unfolding past
told_repeat m seen t h = (refl, go m.names_once (one_of seen t.text) h)
  where
    go : (b c : Bool) → not (b && c) ≡ false → (b && true) ≡ true
    go true c e = refl
    go false c e = sym e

module _ (m : Rules) where
  -- arguments of a call
  pub call_holds : (n p : ℕ) (ts : List Token) → Holds (Told m) (CallArgument n p) (NoneOrOne (CallArgument n p)) p (call_argument n p) ts (call_argument n p ts)
  unfolding call_argument choose past proper all_proper text_good extra_good bytes
  call_holds n p ts =
      look_holds (λ t. choose (call_table p) (refuse (plain 10)) t.kind) p
      (λ t. choose_says (StepHolds (Told m) (CallArgument n p) (NoneOrOne (CallArgument n p)) p t) (call_table p) (refuse (plain 10)) t.kind (
        (λ e. going (λ us. got_holds (call_literal t e))),
        λ n₁. (
          (λ e. going (λ us. got_holds (call_name t e))),
          λ n₂. (
            (λ e. going (λ us. got_holds (call_calldata t e))),
            λ n₃. (
              (λ e. going (λ us.
                  expect_holds Ident (plain 1) (λ i. expect RightAngle (plain 1) (λ r q ts. got (angled p) 0)) (suc p) refl (λ i. (refl, refl))
                  (some_name ∷ sign RightAngle ∷ [], refl, one (call_angled t some_name (sign RightAngle) e refl refl))
                  (λ i f vs. expect_holds RightAngle (plain 1) (λ r q ts. got (angled p) 0) (suc (suc p)) refl (λ r. (refl, refl))
                  (sign RightAngle ∷ [], refl, one (call_angled t i (sign RightAngle) e f refl))
                  (λ r g ws. got_holds (call_angled t i r e f g))
                  vs)
                  us)),
              λ n₄. refusing (refl, refl) ([], refl, nothing),
            ),
          ),
        ),
      ))
      tt ts

  -- names, with or without a location
  pub name_step_lem : {P : List Token → Argument → Type 0} {L : List Token → Type 0} (n : ℕ) (a : Argument) (t : Token) (p : ℕ)
      → (t.kind ≡ Ident → allowed n t ≡ true → P (t ∷ []) a)
      → Finish L []
      → StepHolds (Told m) P L p t (name_step n a t)
  unfolding name_step choose past
  name_step_lem {P} {L} n a t p good fin =
      choose_says (StepHolds (Told m) P L p t) (name_table n a t) (refuse (plain 8)) t.kind (
        (λ e. cond_says (StepHolds (Told m) P L p t) (allowed n t) (λ w. going (λ us. got_holds (good e w))) (λ w. refusing (refl, refl) fin)),
        λ n₁. (
          (λ e. refusing (told_type m n t) fin),
          λ n₂. (
            (λ e. refusing (told_comma m t e) fin),
            λ n₃. refusing (told_no_comma m t n₃) fin,
          ),
        ),
      )

  -- the location k of number l is taken, a name must follow
  located_step : {P : List Token → Argument → Type 0} {L : List Token → Type 0} (n p l : ℕ) (k : Token)
      → ((xs : List Token) (a : Argument) → NameArgument n p xs a → P xs a)
      → ((xs : List Token) (a : Argument) → NameArgument n p xs a → L xs)
      → Location k.kind l
      → StepHolds (Told m) P L p k (on (look (name_step n (located l p))))
  unfolding name_step choose proper all_proper text_good extra_good bytes
  located_step n p l k good whole loc =
      going (look_holds (name_step n (located l p)) (suc p)
      (λ t. name_step_lem n (located l p) t (suc p)
      (λ e w. good (k ∷ t ∷ []) (located l p) (placed k t loc e w))
      (some_name ∷ [], refl, whole (k ∷ some_name ∷ []) (located l p) (placed k some_name loc refl (some_name_allowed n))))
      tt)

  pub untyped_step_lem : {P : List Token → Argument → Type 0} {L : List Token → Type 0} (n p : ℕ) (t : Token)
      → ((xs : List Token) (a : Argument) → NameArgument n p xs a → P xs a)
      → ((xs : List Token) (a : Argument) → NameArgument n p xs a → L xs)
      → L []
      → StepHolds (Told m) P L p t (untyped_step n p t)
  unfolding untyped_step all_proper
  untyped_step_lem {P} {L} n p t good whole empty =
      choose_says (StepHolds (Told m) P L p t) (location_table n p) (name_step n (one_token 1 p) t) t.kind (
        (λ e. located_step n p 1 t good whole (calldata e)),
        λ n₁. (
          (λ e. located_step n p 2 t good whole (memory e)),
          λ n₂. (
            (λ e. located_step n p 3 t good whole (storage e)),
            λ n₃. name_step_lem n (one_token 1 p) t p (λ e w. good (t ∷ []) (one_token 1 p) (bare t e w)) ([], refl, empty),
          ),
        ),
      )

  pub name_holds : (n p : ℕ) (ts : List Token) → Holds (Told m) (NameArgument n p) (NoneOrOne (NameArgument n p)) p (name_argument n p) ts (name_argument n p ts)
  unfolding name_argument untyped_step name_step choose
  name_holds n p ts = look_holds (untyped_step n p) p (λ t. untyped_step_lem n p t (λ xs a h. h) (λ xs a h. one h) nothing) tt ts

  -- arguments of a builtin
  pub builtin_holds : (n p : ℕ) (ts : List Token)
      → Holds (Told m) (BuiltinArgument n p) (NoneOrOne (BuiltinArgument n p)) p (builtin_argument n p) ts (builtin_argument n p ts)
  unfolding builtin_argument untyped_step name_step choose
  builtin_holds n p ts =
      look_holds (λ t. choose (builtin_table p) (untyped_step n p t) t.kind) p
      (λ t. choose_says (StepHolds (Told m) (BuiltinArgument n p) (NoneOrOne (BuiltinArgument n p)) p t) (builtin_table p) (untyped_step n p t) t.kind (
        (λ e. going (λ us. got_holds (builtin_string t e))),
        λ n₁. (
          (λ e. going (λ us. got_holds (builtin_literal t e))),
          λ n₂. untyped_step_lem n p t (λ xs a h. builtin_name h) (λ xs a h. one (builtin_name h)) nothing,
        ),
      ))
      tt ts

  -- items
  operand_holds : (takes : Bool) (p : ℕ) (t : Token) → t.kind ≡ Opcode → (takes && is_value_push t.extra) ≡ true → (us : List Token)
      → Holds (Told m) (λ xs. Item takes p (t ∷ xs)) (λ xs. NoneOrOne (Item takes p) (t ∷ xs)) (suc p) (look (operand_step p t) (suc p)) us (look (operand_step p t) (suc p) us)
  unfolding operand_step proper all_proper text_good extra_good is_literal same all_hex is_hex bytes
  operand_holds takes p t e w =
      look_holds (operand_step p t) (suc p)
      (λ v. cond_says (StepHolds (Told m) (λ xs. Item takes p (t ∷ xs)) (λ xs. NoneOrOne (Item takes p) (t ∷ xs)) (suc p) v) (eqb v.kind Literal)
      (λ k. cond_says (StepHolds (Told m) (λ xs. Item takes p (t ∷ xs)) (λ xs. NoneOrOne (Item takes p) (t ∷ xs)) (suc p) v) (fits t.extra v.text)
      (λ f. going (λ us. got_holds (push t v e w (eqb-true v.kind Literal k) f)))
      (λ f. refusing (told_overflow m v k) finish))
      (λ k. refusing (told_missing m v k) finish))
      tt
    where
      finish : Finish (λ xs. NoneOrOne (Item takes p) (t ∷ xs)) []
      finish = (some_zero ∷ [], refl, one (push t some_zero e w refl (push_takes takes t.extra w)))

  -- a name and `(` with a list and `)` behind them, from the place behind `(`
  called_holds : (W : ℕ → ℕ → List Token → Argument → Type 0) (read : ℕ → ℕ → List Token → Res Argument)
      → ((n p : ℕ) (ts : List Token) → Holds (Told m) (W n p) (NoneOrOne (W n p)) p (read n p) ts (read n p ts))
      → ((n p : ℕ) (xs : List Token) (a : Argument) → W n p xs a → 0 < length xs)
      → {P : List Token → List Simple → Type 0} {L : List Token → Type 0} (p : ℕ) (stmt : ℕ → List Argument → List Simple)
      → ((xs : List Token) (args : List Argument) → Closed W p xs args → P xs (stmt (p + length xs) args))
      → ((xs : List Token) (s : List Simple) → P xs s → L xs)
      → (us : List Token)
      → Holds (Told m) P L p (seq (closed_list read) (λ args q ts. got (stmt q args) 0) p) us (seq (closed_list read) (λ args q ts. got (stmt q args) 0) p us)
  unfolding all_proper past
  called_holds W read reads some {P} {L} p stmt good whole us =
      seq_holds P L (closed_list read) (λ args q ts. got (stmt q args) 0) p us (closed_holds W read reads some (λ t. (refl, refl)) p us)
      (λ n args h c. got_holds (rw (append-nil (take n us)) (good (take n us) args c)))
      (λ xs c. ([], refl, rw (append-nil xs) (whole xs (stmt (p + length xs) c.0) (good xs c.0 c.1))))

  -- a name between two signs
  enclosed_holds : {P : List Token → List Simple → Type 0} {L : List Token → Type 0} (p c : ℕ) (y : Why) (stmt : Token → List Simple)
      → eqb 0 c ≡ false
      → proper (sign c) ≡ true
      → ((t : Token) → Told m y t)
      → ((i r : Token) → i.kind ≡ Ident → r.kind ≡ c → P (i ∷ r ∷ []) (stmt i))
      → ((xs : List Token) (s : List Simple) → P xs s → L xs)
      → (us : List Token)
      → Holds (Told m) P L p (expect Ident y (λ i. expect c (plain 1) (λ r q ts. got (stmt i) 0)) p) us (expect Ident y (λ i. expect c (plain 1) (λ r q ts. got (stmt i) 0)) p us)
  unfolding past all_proper
  enclosed_holds p c y stmt n pr told good whole =
      expect_holds Ident y (λ i. expect c (plain 1) (λ r q ts. got (stmt i) 0)) p refl told
      (some_name ∷ sign c ∷ [], rw pr some_name_proper, whole (some_name ∷ sign c ∷ []) (stmt some_name) (good some_name (sign c) refl refl))
      (λ i e. expect_holds c (plain 1) (λ r q ts. got (stmt i) 0) (suc p) n (λ r. (refl, refl))
      (sign c ∷ [], rw pr, whole (i ∷ sign c ∷ []) (stmt i) (good i (sign c) e refl))
      (λ r f us. got_holds (good i r e f)))

  -- the number for a token that begins no item has its cursor at that token
  abbrev pub Plain : ℕ → Type 0
  Plain wrong = (t : Token) → Told m (plain wrong) t

  pub plain_number : (c : ℕ) → eqb c 4 ≡ false → eqb c 8 ≡ false → is_body_number m c ≡ true → Plain c
  unfolding past
  plain_number c h k e t = (rw h (rw k), e)

  pub item_holds : (takes : Bool) (wrong : ℕ) → Plain wrong → (p : ℕ) (ts : List Token)
      → Holds (Told m) (Item takes p) (NoneOrOne (Item takes p)) p (item takes wrong p) ts (item takes wrong p ts)
  unfolding item ident_step choose past proper all_proper text_good extra_good
  item_holds takes wrong told p ts =
      look_holds (λ t. choose (item_table takes p t) (refuse (plain wrong)) t.kind) p
      (λ t. choose_says (StepHolds (Told m) (Item takes p) (NoneOrOne (Item takes p)) p t) (item_table takes p t) (refuse (plain wrong)) t.kind (
        (λ e. going (λ us. got_holds (literal t e))),
        λ n₁. (
          (λ e. cond_says (StepHolds (Told m) (Item takes p) (NoneOrOne (Item takes p)) p t) (takes && is_value_push t.extra)
              (λ w. going (operand_holds takes p t e w))
              (λ w. going (λ us. got_holds (opcode t e w)))),
          λ n₂. (
            (λ e. going (look_holds (ident_step p t) (suc p)
                (λ o. cond_says (StepHolds (Told m) (λ xs. Item takes p (t ∷ xs)) (λ xs. NoneOrOne (Item takes p) (t ∷ xs)) (suc p) o) (eqb o.kind OpenParen)
                (λ k. going (called_holds CallArgument call_argument call_holds call_some (suc (suc p)) (λ q args. called an_invocation p t q args ∷ [])
                (λ xs args c. invocation t o e (eqb-true o.kind OpenParen k) c)
                (λ xs s h. one h)))
                (λ k. leaving (label_call t e)))
                tt)),
            λ n₃. (
              (λ e. going (enclosed_holds (suc p) CloseBracket (plain 12) (λ i. enclosed a_constant p i ∷ []) refl refl (λ i. (refl, refl))
                  (λ i r f g. constant t i r e f g) (λ xs s h. one h))),
              λ n₄. (
                (λ e. going (enclosed_holds (suc p) RightAngle (plain 13) (λ i. enclosed an_argument_call p i ∷ []) refl refl (λ i. (refl, refl))
                    (λ i r f g. argument_call t i r e f g) (λ xs s h. one h))),
                λ n₅. (
                  (λ e. going (expect_holds OpenParen (plain 1) (λ o. seq (closed_list builtin_argument) (λ args q us. got (called a_builtin p t q args ∷ []) 0)) (suc p) refl (λ o. (refl, refl))
                      (sign OpenParen ∷ sign CloseParen ∷ [], refl, one (builtin t (sign OpenParen) e refl (closed (sign CloseParen) none refl)))
                      (λ o f. called_holds BuiltinArgument builtin_argument builtin_holds builtin_some (suc (suc p)) (λ q args. called a_builtin p t q args ∷ [])
                      (λ xs args c. builtin t o e f c)
                      (λ xs s h. one h)))),
                  λ n₆. refusing (told t) ([], refl, nothing),
                ),
              ),
            ),
          ),
        ),
      ))
      tt ts

  pub items_hold : (takes : Bool) (wrong : ℕ) → Plain wrong → (p : ℕ) (ts : List Token)
      → Holds (Told m) (Items takes p) (Some forget (λ s. Item takes) tt p) p (items takes wrong p) ts (items takes wrong p ts)
  unfolding items
  items_hold takes wrong told p ts =
      many_holds ends_items forget (λ s. item takes wrong) (λ s. Item takes) (λ s. item_holds takes wrong told) (λ s. item_some takes) ts 0 tt p

  -- labels
  pub group_holds : (seen : List (List ℕ)) (p : ℕ) (ts : List Token)
      → Holds (Told m) (LabelGroup m seen p) (NoneOrOne (LabelGroup m seen p)) p (label_group m seen p) ts (label_group m seen p ts)
  unfolding label_group group_rest choose past proper all_proper text_good extra_good
  group_holds seen p ts =
      look_holds (λ t. choose (group_table m seen p t) (refuse (plain 5)) t.kind) p
      (λ t. choose_says (StepHolds (Told m) (LabelGroup m seen p) (NoneOrOne (LabelGroup m seen p)) p t) (group_table m seen p t) (refuse (plain 5)) t.kind (
        (λ e. cond_says (StepHolds (Told m) (LabelGroup m seen p) (NoneOrOne (LabelGroup m seen p)) p t) (may_stand m seen t)
            (λ w. going (λ us. expect_holds Colon (plain 1) (λ c. seq (items m.push_in_labels 6) (λ is q vs. got (record { first = p; end = q; token = t; inner = flatten is }) 0)) (suc p) refl (λ c. (refl, refl))
            (sign Colon ∷ [], refl, one (group t (sign Colon) e w refl none))
            (λ c f vs. seq_holds (λ xs. LabelGroup m seen p (t ∷ c ∷ xs)) (λ xs. NoneOrOne (LabelGroup m seen p) (t ∷ c ∷ xs)) (items m.push_in_labels 6) (λ is q ws. got (record { first = p; end = q; token = t; inner = flatten is }) 0) (suc (suc p)) vs
            (items_hold m.push_in_labels 6 (λ i. (refl, refl)) (suc (suc p)) vs)
            (λ n is h k. got_holds (rw (append-nil (take n vs)) (group t c e w f k)))
            (λ xs k. ([], refl, rw (append-nil xs) (one (group t c e w f k.1)))))
            us))
            (λ w. refusing (told_repeat m seen t w) ([], refl, nothing))),
        λ n₁. refusing (refl, refl) ([], refl, nothing),
      ))
      tt ts

  pub groups_hold : (p : ℕ) (ts : List Token) → Holds (Told m) (Groups m p) (Some remember (LabelGroup m) [] p) p (groups m p) ts (groups m p ts)
  unfolding groups
  groups_hold p ts = many_holds ends_groups remember (label_group m) (LabelGroup m) group_holds (group_some m) ts 0 [] p

  -- the body
  pub body_holds : (p : ℕ) (ts : List Token) → Holds (Told m) (Body m p) (Any (Body m p)) p (body_from m p) ts (body_from m p ts)
  unfolding body_from past proper all_proper text_good extra_good
  body_holds p ts =
      expect_holds OpenBrace (plain 1) _ p refl (λ o. (refl, refl))
      (sign OpenBrace ∷ sign CloseBrace ∷ [], refl, (_, body (sign OpenBrace) (sign CloseBrace) refl none none refl))
      (λ o e us. seq_holds (λ xs. Body m p (o ∷ xs)) (λ xs. Any (Body m p) (o ∷ xs)) (items true 5) _ (suc p) us
      (items_hold true 5 (λ i. (refl, refl)) (suc p) us)
      (λ n is h k. seq_holds (λ ys. Body m p (o ∷ (take n us ++ ys))) (λ ys. Any (Body m p) (o ∷ (take n us ++ ys))) (groups m) _ (suc p + length (take n us)) (drop n us)
      (groups_hold (suc p + length (take n us)) (drop n us))
      (λ j gs h' g. expect_holds CloseBrace (plain 5) _ (suc p + length (take n us) + length (take j (drop n us))) refl (λ c. (refl, refl))
      (sign CloseBrace ∷ [], refl, (_, body o (sign CloseBrace) e k g refl))
      (λ c f vs. got_holds (body o c e k g f))
      (drop j (drop n us)))
      (λ ys g. (sign CloseBrace ∷ [], refl, (_, body o (sign CloseBrace) e k g.1 refl))))
      (λ xs k. (sign CloseBrace ∷ [], refl, (_, body o (sign CloseBrace) e k.1 none refl))))
      ts
