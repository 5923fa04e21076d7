-- Laws of the readers of one argument: what is read behind its first tokens is what the grammar's reader reads. Assumes nothing.
use Prim.Native.Nat.{ℕ, suc, ◌+◌, ◌%◌, ◌≤◌, ◌<◌}
use native.Mathlib.Nat.{add-zero}
use native.Mathlib.Numerals.{add-one, add-two}
use native.Mathlib.Omega.{arith}
use mathlib.Core.Path.{◌≡◌, refl, sym, ap, ◌∙◌}
use mathlib.Core.Bool.{Bool, true, false, cond, not, ◌&&◌}
use mathlib.Core.List.{List, [], ◌∷◌}
use borrow.Author.Tests.{eq-eqb, ne_eqb}
use lib.ListN.{length, drop}
use lib.Dec.{eqb}
use mathlib.Core.Logic.{◌⊎◌, ⊎_elim}
use Rattle.std.specs.Prelude.{Option, Some, None, is_some, MatchOption, Result, Ok, Err, IsErrAnd, ⊤}
use Rattle.std.specs.Bool.{then_some}
use Rattle.std.specs.Int.{from_bool}
use Rattle.tokens.specs.Kind.{Indexed, Ident, RightAngle, PrimitiveType, Comma}
use Rattle.tokens.specs.Kind as kind
use Rattle.tokens.specs.Token.{Token, token_at, view}
use Rattle.tokens.specs.Place.{KindAt, text_at, tokens_from}
use Rattle.tokens.specs.Name.{reserved}
use Rattle.tokens.specs.Source.{all, all_from, count}
use Rattle.tokens.specs.declared.source.Source.{Source}
use Rattle.tokens.proofs.TokenLaws.{view_text}
use Rattle.grammar.specs.Grammar.{odd, allowed}
use Rattle.grammar.specs.Result.{Why, number, beyond, plain, eaten, Res, got, bad, Step, on, taken, refuse, leave, stepped, with_one_more, look, choose, expect, counted, seq}
use Rattle.grammar.specs.Reader.{call_table, call_argument, name_table, name_step, location_table, untyped_step, name_argument, builtin_table, builtin_argument}
use Rattle.grammar.specs.Typed.{declared, indexed_here, location_here, typed_name, typed_argument}
use Rattle.grammar.proofs.AtPlace.{look_at, seq_got}
use Rattle.lists.specs.declared.argument.Form.TheVariants.{Name}
use Rattle.lists.specs.declared.argument.Location.{Location}
use Rattle.lists.specs.declared.argument.Location.TheVariants.{Calldata, Memory, Storage}
use Rattle.lists.specs.declared.argument.Argument.{Argument}
use Rattle.lists.specs.declared.argument.Sort.{Sort}
use Rattle.lists.specs.declared.argument.Sort.TheVariants.{Call, Typed, Event}
use Rattle.lists.specs.Answers.{location_number, location_word, location_kind, NoLocation, reading_of, named, arg_answer, answered, Told, ArgRead, UntypedName, TypedName, one, angled_rest}
use Rattle.lists.proofs.At.{NoneOf, look_table, look_else, expect_yes, expect_no, expect_taken, kind_is, handed_on}
use Rattle.grammar.specs.Reading as reading

-- ---- one answer

-- the reader reads x, so what is promised of x is promised of it
reads : {p size : ℕ} {x y : Res reading.Argument} {r : Result Argument (ℕ × ℕ)} → y ≡ x → ArgRead p size x r → ArgRead p size y r
reads e h = rw e h

refuses : {p size c q w : ℕ} {f : ℕ × ℕ} {x : Res reading.Argument} → x ≡ bad (plain c) w → f ≡ (c, q) → q ≡ w → ArgRead p size x (Err f)
refuses {c = c} {w = w} e is h = rw (e, is) (record { is = ap (λ k. Err (c, k)) (h ∙ sym (add-zero w)); within = tt })

answers : {p size n : ℕ} {x : Res reading.Argument} {a : reading.Argument} {g : Argument}
    → x ≡ got a n → reading_of g ≡ a → a.end ≡ p + n → p < p + n → p + n ≤ size → ArgRead p size x (Ok g)
answers {p} {size} {n} {x} {a} {g} e same end low high =
    let ends : g.end ≡ p + n = ap (λ a. a.end) same ∙ end in
    rw e (record { is = ap (λ a. Ok (a, a.end)) same ∙ ap (λ e. Ok (a, e)) end; within = (omega arith, omega arith) })

-- what an argument tells is its own: the laws below go by its numbers alone, and who cites one of them can cite these beside it. First one without a type and with the name at p, behind
-- which it ends
pub told_alone : (g : Argument) {p : ℕ} → (g.ty ≡ None) × (g.name ≡ Some p) → p < g.end → Told g
told_alone g {p} t h = (rw t.0 tt, rw t.1 h)

pub ends : (g : Argument) {f p : ℕ} → reading_of g ≡ reading.one_token f p → p < g.end
ends g {f} {p} same = let e : g.end ≡ suc p = ap (λ (a : reading.Argument). a.end) same in omega arith

-- then one with a type at p, and a name at q behind it if one stands there
pub told_typed : {p q : ℕ} (named : Bool) (given : Argument) → given.ty ≡ Some p → given.name ≡ then_some named q → given.end ≡ q + from_bool named → p < q → Told given
told_typed true given type name end h = (rw type (omega arith), rw name (omega arith))
told_typed false given type name end h = (rw type (omega arith), rw name tt)

-- a list's sort is known
pub sorted : {p size : ℕ} {r : Result Argument (ℕ × ℕ)} {sort s : Sort} (n : ℕ) (ts : List Token) → sort ≡ s → ArgRead p size (one s n p ts) r → ArgRead p size (one sort n p ts) r
sorted n ts e h = rw e h

-- the readers of these sorts don't count names
pub sorted_call : {p size : ℕ} {r : Result Argument (ℕ × ℕ)} {sort : Sort} (n : ℕ) (ts : List Token) → sort ≡ Call → ArgRead p size (call_argument 0 p ts) r → ArgRead p size (one sort n p ts) r
unfolding call_argument
sorted_call n ts e h = rw e h

pub sorted_typed : {p size : ℕ} {r : Result Argument (ℕ × ℕ)} {sort : Sort} (n : ℕ) (ts : List Token) → sort ≡ Typed → ArgRead p size (typed_argument false 0 p ts) r → ArgRead p size (one sort n p ts) r
unfolding typed_argument
sorted_typed n ts e h = rw e h

pub sorted_event : {p size : ℕ} {r : Result Argument (ℕ × ℕ)} {sort : Sort} (n : ℕ) (ts : List Token) → sort ≡ Event → ArgRead p size (typed_argument true 0 p ts) r → ArgRead p size (one sort n p ts) r
unfolding typed_argument
sorted_event n ts e h = rw e h

-- ---- behind a token, and behind what another reader took

more_is : (p : ℕ) (x : Res reading.Argument) → arg_answer (suc p) x ≡ arg_answer p (with_one_more x)
more_is p (got a n) = let place : suc p + n ≡ p + suc n = omega arith in cc
more_is p (bad y w) = refl

more_at : (p : ℕ) (x : Res reading.Argument) → arg_answer (p + 1) x ≡ arg_answer p (with_one_more x)
more_at p x = ap (λ k. arg_answer k x) (add-one p) ∙ more_is p x

counted_is : (p n : ℕ) (x : Res reading.Argument) → arg_answer (p + n) x ≡ arg_answer p (counted n x)
counted_is p n (got a m) = let place : p + n + m ≡ p + (n + m) = omega arith in cc
counted_is p n (bad y w) = refl

-- ---- a name is tested exactly when the count of names before it is odd

untested : (n : ℕ) (t : Token) → (n % 2 ≡ 1 → ⊥) → allowed n t ≡ true
unfolding allowed
untested n t h = ap (λ b. not (b && reserved t.text)) (ne_eqb _ _ h)

tested : (n : ℕ) (t : Token) (b : Bool) → n % 2 ≡ 1 → reserved t.text ≡ b → allowed n t ≡ not b
unfolding allowed
tested n t b h e = ap (λ x. not (x && reserved t.text)) (eq-eqb _ _ h) ∙ ap not e

-- a name that is refused, whatever argument it would end
name_refused : {p size names : ℕ} {ts : List Token} {f : ℕ × ℕ} (y : Why) → ((a : reading.Argument) → look (name_step names a) p ts ≡ bad y p) → f ≡ (number y, p + beyond y) → UntypedName p size names ts (Err f)
name_refused {p} y h e = record { is = λ a. ap (λ f. Err f) e ∙ sym (ap (arg_answer p) (h a)); within = tt }

-- what a table of the three locations has for one of them
located_choice : {S : Type 0} (f : ℕ → S) (d : S) (l : Location) (k : ℕ) → k ≡ location_kind l
    → choose ((kind.Calldata, f 1) ∷ (kind.Memory, f 2) ∷ (kind.Storage, f 3) ∷ []) d k ≡ f (location_number l)
unfolding choose
located_choice f d Calldata k h = rw h refl
located_choice f d Memory k h = rw h refl
located_choice f d Storage k h = rw h refl

-- outside events Indexed is not looked for
pub not_in_events : (p : ℕ) (ts : List Token) {events : Bool} → events ≡ false → indexed_here events p ts ≡ got (from_bool events) (from_bool events)
unfolding indexed_here look
not_in_events p ts e = rw e refl

-- ---- the readers at a place, by the kind there

module _ (p : ℕ) (all : List Token) where
  call_at : (n k : ℕ) → (token_at all p).kind ≡ k
      → call_argument n p (drop p all) ≡ stepped (choose (call_table p) (refuse (plain 10)) k) p (drop (suc p) all)
  unfolding call_argument
  call_at n k e = look_table p all (λ t. call_table p) (λ t. refuse (plain 10)) k e

  call_other : (n k : ℕ) → (token_at all p).kind ≡ k → NoneOf (call_table p) k → call_argument n p (drop p all) ≡ bad (plain 10) p
  unfolding call_argument look
  call_other n k e h = look_else p all (λ t. call_table p) (λ t. refuse (plain 10)) k e h

  -- `<`, and no name behind it; no `>`; or all three
  angle_nameless : ((token_at all (suc p)).kind ≡ Ident → ⊥) → with_one_more (angled_rest p (suc p) (drop (suc p) all)) ≡ bad (plain 1) (suc p)
  angle_nameless h = ap with_one_more (expect_no (suc p) all Ident (plain 1) (λ i. expect RightAngle (plain 1) (λ r q ts. got (reading.angled p) 0)) h)

  named_then : (token_at all (suc p)).kind ≡ Ident
      → angled_rest p (suc p) (drop (suc p) all) ≡ with_one_more (expect RightAngle (plain 1) (λ r q ts. got (reading.angled p) 0) (suc (suc p)) (drop (suc (suc p)) all))
  named_then e = expect_yes (suc p) all Ident (plain 1) (λ i. expect RightAngle (plain 1) (λ r q ts. got (reading.angled p) 0)) e

  angle_open : (token_at all (suc p)).kind ≡ Ident → ((token_at all (suc (suc p))).kind ≡ RightAngle → ⊥)
      → with_one_more (angled_rest p (suc p) (drop (suc p) all)) ≡ bad (plain 1) (suc (suc p))
  angle_open e h = ap with_one_more (named_then e ∙ ap with_one_more (expect_no (suc (suc p)) all RightAngle (plain 1) (λ r q ts. got (reading.angled p) 0) h))

  angle_closed : (token_at all (suc p)).kind ≡ Ident → (token_at all (suc (suc p))).kind ≡ RightAngle
      → with_one_more (angled_rest p (suc p) (drop (suc p) all)) ≡ got (reading.angled p) 3
  angle_closed e f = ap with_one_more (named_then e ∙ ap with_one_more (expect_yes (suc (suc p)) all RightAngle (plain 1) (λ r q ts. got (reading.angled p) 0) f))

  name_at : (n : ℕ) (a : reading.Argument) (k : ℕ) → (token_at all p).kind ≡ k
      → look (name_step n a) p (drop p all) ≡ stepped (choose (name_table n a (token_at all p)) (refuse (plain 8)) k) p (drop (suc p) all)
  unfolding name_step
  name_at n a k e = look_table p all (name_table n a) (λ t. refuse (plain 8)) k e

  -- an untyped name: an Ident, which may stand here or not
  name_stands : {n size : ℕ} → (token_at all p).kind ≡ Ident → allowed n (token_at all p) ≡ true → p < size → UntypedName p size n (drop p all) (Ok tt)
  unfolding choose
  name_stands {n} e f low =
      record {
        is = λ a. sym (ap (arg_answer p) (name_at n a Ident e ∙ ap (λ x. stepped (cond x (taken a) (refuse (plain 7))) p (drop (suc p) all)) f));
        within = low;
      }

  name_reserved : {n size : ℕ} {f : ℕ × ℕ} → (token_at all p).kind ≡ Ident → allowed n (token_at all p) ≡ false → f ≡ (7, p) → UntypedName p size n (drop p all) (Err f)
  unfolding choose
  name_reserved {n} e g is =
      name_refused (plain 7) (λ a. name_at n a Ident e ∙ ap (λ x. stepped (cond x (taken a) (refuse (plain 7))) p (drop (suc p) all)) g) (is ∙ rw add-zero)

  -- a PrimitiveType, by whether names are tested here
  name_typed : {n size : ℕ} {f : ℕ × ℕ} (b : Bool) → (token_at all p).kind ≡ PrimitiveType → odd n ≡ b → f ≡ (cond b 7 1, p) → UntypedName p size n (drop p all) (Err f)
  unfolding choose
  name_typed {n} b e g is =
      name_refused (plain (cond b 7 1)) (λ a. name_at n a PrimitiveType e ∙ ap (λ x. bad (plain (cond x 7 1)) p) g) (is ∙ rw add-zero)

  -- a Comma, which is eaten
  name_comma : {n size : ℕ} {f : ℕ × ℕ} → (token_at all p).kind ≡ Comma → f ≡ (8, p + 1) → UntypedName p size n (drop p all) (Err f)
  unfolding choose
  name_comma {n} e is = name_refused eaten (λ a. name_at n a Comma e) is

  name_other : {n size k : ℕ} {f : ℕ × ℕ} → (token_at all p).kind ≡ k → ((a : reading.Argument) → NoneOf (name_table n a (token_at all p)) k) → f ≡ (8, p) → UntypedName p size n (drop p all) (Err f)
  unfolding name_step look
  name_other {n} {size} {k} e h is =
      name_refused (plain 8) (λ a. look_else p all (name_table n a) (λ t. refuse (plain 8)) k e (h a)) (is ∙ rw add-zero)

  -- an untyped argument is the name behind its location, if it has one
  untyped_is : (o : Option Location) (k n q : ℕ) → (token_at all p).kind ≡ k → MatchOption o (NoLocation k) (λ l. k ≡ location_kind l) → q ≡ p + from_bool (is_some o)
      → arg_answer q (look (name_step n (named (location_word o) p q)) q (drop q all)) ≡ arg_answer p (name_argument n p (drop p all))
  unfolding name_argument untyped_step
  untyped_is None k n q e h at =
      rw (at, add-zero)
      (sym (ap (arg_answer p) (look_else p all (λ t. location_table n p) (name_step n (reading.one_token 1 p)) k e (h Calldata, (h Memory, (h Storage, tt))))))
  untyped_is (Some l) k n q e h at =
      rw (at, add-one)
      (more_is p (look (name_step n (named (location_number l) p (suc p))) (suc p) (drop (suc p) all))
      ∙ ap (arg_answer p)
      (sym (look_table p all (λ t. location_table n p) (name_step n (reading.one_token 1 p)) k e
      ∙ ap (λ s. stepped s p (drop (suc p) all)) (located_choice (λ l. on (look (name_step n (reading.located l p)))) (name_step n (reading.one_token 1 p) (token_at all p)) l k h))))

  builtin_at : (n k : ℕ) → (token_at all p).kind ≡ k
      → builtin_argument n p (drop p all) ≡ stepped (choose (builtin_table p) (untyped_step n p (token_at all p)) k) p (drop (suc p) all)
  unfolding builtin_argument
  builtin_at n k e = look_table p all (λ t. builtin_table p) (untyped_step n p) k e

  builtin_other : (n k : ℕ) → (token_at all p).kind ≡ k → NoneOf (builtin_table p) k → builtin_argument n p (drop p all) ≡ name_argument n p (drop p all)
  unfolding builtin_argument name_argument
  builtin_other n k e h = look_else p all (λ t. builtin_table p) (untyped_step n p) k e h

  -- ---- the parts of a typed argument

  -- in events Indexed may stand here
  indexed_at : (b : Bool) → eqb (token_at all p).kind Indexed ≡ b → indexed_here true p (drop p all) ≡ got (from_bool b) (from_bool b)
  unfolding indexed_here
  indexed_at b e =
      look_at (λ t. cond (true && eqb t.kind Indexed) (taken 1) (leave 0)) p all
      ∙ ap (λ x. stepped {A = ℕ} (cond x (taken 1) (leave 0)) p (drop (suc p) all)) e
      ∙ both b
    where
      both : (b : Bool) → stepped {A = ℕ} (cond b (taken 1) (leave 0)) p (drop (suc p) all) ≡ got (from_bool b) (from_bool b)
      both true = refl
      both false = refl

  abbrev locations : List (ℕ × Step ℕ)
  locations = (kind.Calldata, taken 1) ∷ (kind.Memory, taken 2) ∷ (kind.Storage, taken 3) ∷ []

  -- a location, if one stands there
  location_at : (o : Option Location) (k : ℕ) → (token_at all p).kind ≡ k → MatchOption o (NoLocation k) (λ l. k ≡ location_kind l)
      → location_here p (drop p all) ≡ got (location_word o) (from_bool (is_some o))
  unfolding location_here look
  location_at None k e h = look_else p all (λ t. locations) (λ t. leave 0) k e (h Calldata, (h Memory, (h Storage, tt)))
  location_at (Some l) k e h =
      look_table p all (λ t. locations) (λ t. leave 0) k e
      ∙ ap (λ s. stepped s p (drop (suc p) all)) (located_choice (λ l. taken l) (leave 0) l k h)

  abbrev typed_names : ℕ → ℕ → ℕ → Token → List (ℕ × Step reading.Argument)
  typed_names first ix l t =
      (Ident, cond (reserved t.text) (refuse (plain 7)) (taken (declared first p ix l (suc p))))
      ∷ (PrimitiveType, refuse (plain 7))
      ∷ []

  typed_at : (first ix l k : ℕ) → (token_at all p).kind ≡ k
      → typed_name first ix l p (drop p all) ≡ stepped (choose (typed_names first ix l (token_at all p)) (leave (declared first reading.NONE ix l p)) k) p (drop (suc p) all)
  unfolding typed_name
  typed_at first ix l k e = look_table p all (typed_names first ix l) (λ t. leave (declared first reading.NONE ix l p)) k e

  -- a typed argument's name: an Ident, by whether its text is reserved; a PrimitiveType; anything else
  typed_ident : (first ix l : ℕ) (b : Bool) → (token_at all p).kind ≡ Ident → reserved (token_at all p).text ≡ b
      → typed_name first ix l p (drop p all) ≡ stepped (cond b (refuse (plain 7)) (taken (declared first p ix l (suc p)))) p (drop (suc p) all)
  unfolding choose
  typed_ident first ix l b e f = typed_at first ix l Ident e ∙ ap (λ x. stepped (cond x (refuse (plain 7)) (taken (declared first p ix l (suc p)))) p (drop (suc p) all)) f

  typed_stands : {size : ℕ} → (token_at all p).kind ≡ Ident → reserved (token_at all p).text ≡ false → p + 1 ≤ size → TypedName p size (drop p all) (Ok true)
  typed_stands e f low = record { is = λ first ix l. sym (ap (arg_answer p) (typed_ident first ix l false e f)); within = low }

  typed_reserved : {size : ℕ} {f : ℕ × ℕ} → (token_at all p).kind ≡ Ident → reserved (token_at all p).text ≡ true → f ≡ (7, p) → TypedName p size (drop p all) (Err f)
  typed_reserved e g is = record { is = λ first ix l. ap (λ f. Err f) (is ∙ rw add-zero) ∙ sym (ap (arg_answer p) (typed_ident first ix l true e g)); within = tt }

  typed_type : {size : ℕ} {f : ℕ × ℕ} → (token_at all p).kind ≡ PrimitiveType → f ≡ (7, p) → TypedName p size (drop p all) (Err f)
  unfolding choose
  typed_type e is = record { is = λ first ix l. ap (λ f. Err f) (is ∙ rw add-zero) ∙ sym (ap (arg_answer p) (typed_at first ix l PrimitiveType e)); within = tt }

  typed_other : {size k : ℕ} → (token_at all p).kind ≡ k → (k ≡ Ident → ⊥) → (k ≡ PrimitiveType → ⊥) → p + 0 ≤ size → TypedName p size (drop p all) (Ok false)
  unfolding typed_name look
  typed_other {size} {k} e h i low =
      record {
        is = λ first ix l. sym (ap (arg_answer p) (look_else p all (typed_names first ix l) (λ t. leave (declared first reading.NONE ix l p)) k e (h, (i, tt))));
        within = low;
      }

-- a typed argument is its type, and behind it Indexed, a location and a name
abbrev located_name : ℕ → ℕ → ℕ → List Token → Res reading.Argument
located_name p ix = seq location_here (typed_name p ix)

module _ (p : ℕ) (all : List Token) (events b : Bool) (o : Option Location) {k r q : ℕ} where
  typed_is : (n : ℕ) → (token_at all p).kind ≡ PrimitiveType
      → indexed_here events (p + 1) (drop (p + 1) all) ≡ got (from_bool b) (from_bool b)
      → r ≡ p + 1 + from_bool b
      → (token_at all r).kind ≡ k
      → MatchOption o (NoLocation k) (λ l. k ≡ location_kind l)
      → q ≡ r + from_bool (is_some o)
      → arg_answer q (typed_name p (from_bool b) (location_word o) q (drop q all)) ≡ arg_answer p (typed_argument events n p (drop p all))
  unfolding typed_argument
  typed_is n e ix at h l behind =
      let i : ℕ = from_bool b in
      let j : ℕ = from_bool (is_some o) in
      ap (λ q. arg_answer q (typed_name p i (location_word o) q (drop q all))) behind
      ∙ counted_is r j (typed_name p i (location_word o) (r + j) (drop (r + j) all))
      ∙ ap (arg_answer r) (sym (seq_got location_here (typed_name p i) r j all (location_word o) (location_at r all o k h l)))
      ∙ ap (λ r. arg_answer r (located_name p i r (drop r all))) at
      ∙ counted_is (p + 1) i (located_name p i (p + 1 + i) (drop (p + 1 + i) all))
      ∙ ap (arg_answer (p + 1)) (sym (seq_got (indexed_here events) (located_name p) (p + 1) i all i ix))
      ∙ more_at p (seq (indexed_here events) (located_name p) (p + 1) (drop (p + 1) all))
      ∙ ap (arg_answer p) (sym (expect_taken PrimitiveType (plain 8) (λ t. seq (indexed_here events) (located_name p)) p all e))

-- ---- whole arguments

-- a name by itself, and the same behind a location
relocated : (one : Argument) {q : ℕ} (o : Option Location) (p : ℕ) → reading_of one ≡ reading.one_token 1 q
    → reading_of (record { form = one.form; ty = one.ty; name = one.name; indexed = one.indexed; location = o; first = p; end = one.end }) ≡ named (location_word o) p q
relocated one o p h =
    ap (λ (a : reading.Argument). record { form = a.form; type = a.type; name = a.name; indexed = a.indexed; location = location_word o; first = p; end = a.end }) h

module _ (source : Source) {p k n l : ℕ} (o : Option Location) {b : Bool} (here : KindAt source.tokens.now source.kept.now p k)
    (located : MatchOption o (NoLocation k) (λ l. k ≡ location_kind l)) (stands : b ≡ is_some o) (width : l ≡ from_bool b)
    {r : Result ⊤ (ℕ × ℕ)} (name : UntypedName (p + l) (count source) n (all_from source (p + l)) r) where
  untyped_at : arg_answer (p + l) (look (name_step n (named (location_word o) p (p + l))) (p + l) (all_from source (p + l))) ≡ arg_answer p (name_argument n p (all_from source p))
  untyped_at = untyped_is p (all source) o k n (p + l) (kind_is source.text.now p here refl) located (rw (width, stands) refl)

  pub untyped_handed : {f : ℕ × ℕ} {out : Result Argument (ℕ × ℕ)} → r ≡ Err f → IsErrAnd out (λ y. y ≡ f) → ArgRead p (count source) (name_argument n p (all_from source p)) out
  untyped_handed {f} {out} h handed =
      rw (handed_on out handed) (record { is = (rw h at name).is (named (location_word o) p (p + l)) ∙ untyped_at; within = tt })

  pub untyped_answers : {u : ⊤} (one : Argument) → r ≡ Ok u → reading_of one ≡ reading.one_token 1 (p + l)
      → ArgRead p (count source) (name_argument n p (all_from source p))
      (Ok (record { form = one.form; ty = one.ty; name = one.name; indexed = one.indexed; location = o; first = p; end = one.end }))
  untyped_answers {u} one h alone =
      let i = rw h at name in
      let end : one.end ≡ suc (p + l) = ap (λ a. a.end) alone in
      record {
        is =
            ap (λ a. Ok (a, a.end)) (relocated one o p alone)
            ∙ ap (λ e. Ok (named (location_word o) p (p + l), e)) (sym (add-one (p + l)))
            ∙ i.is (named (location_word o) p (p + l))
            ∙ untyped_at;
        within = (omega arith, omega (arith, i.within));
      }

-- a typed argument
module _ (source : Source) {p t : ℕ} (first : KindAt source.tokens.now source.kept.now p t) where
  pub typeless : (events : Bool) {f : ℕ × ℕ} → (t ≡ PrimitiveType → ⊥) → f ≡ (8, p) → ArgRead p (count source) (typed_argument events 0 p (all_from source p)) (Err f)
  unfolding typed_argument
  typeless events h same =
      refuses (expect_no p (all source) PrimitiveType (plain 8) (λ t. seq (indexed_here events) (located_name p)) (λ e. h (sym (kind_is source.text.now p first refl) ∙ e))) same refl

  module _ (typed : t ≡ PrimitiveType) (events b : Bool) {c : Bool} (o : Option Location) {k i l : ℕ}
      (indexed : indexed_here events (p + 1) (all_from source (p + 1)) ≡ got (from_bool b) (from_bool b)) (behind : i ≡ from_bool b)
      (here : KindAt source.tokens.now source.kept.now (p + 1 + i) k) (located : MatchOption o (NoLocation k) (λ l. k ≡ location_kind l)) (stands : c ≡ is_some o) (width : l ≡ from_bool c)
      {x : Result Bool (ℕ × ℕ)} (name : TypedName (p + 1 + i + l) (count source) (all_from source (p + 1 + i + l)) x) where
    as_read : answered (λ b'. (cond b' (declared p (p + 1 + i + l) (from_bool b) (location_word o) (suc (p + 1 + i + l))) (declared p reading.NONE (from_bool b) (location_word o) (p + 1 + i + l)), (p + 1 + i + l) + from_bool b')) x
        ≡ arg_answer p (typed_argument events 0 p (all_from source p))
    as_read =
        name.is p (from_bool b) (location_word o)
        ∙ typed_is p (all source) events b o 0 (kind_is source.text.now p first refl ∙ typed) indexed (rw behind refl) (kind_is source.text.now (p + 1 + i) here refl) located (rw (width, stands) refl)

    pub typed_handed : {f : ℕ × ℕ} {out : Result Argument (ℕ × ℕ)} → x ≡ Err f → IsErrAnd out (λ y. y ≡ f) → ArgRead p (count source) (typed_argument events 0 p (all_from source p)) out
    typed_handed {f} {out} h handed = rw (handed_on out handed) (record { is = rw h at as_read; within = tt })

    pub typed_answers : (named : Bool) {given : Argument} → x ≡ Ok named
        → given ≡ record { form = Name; ty = Some p; name = then_some named (p + 1 + i + l); indexed = b; location = o; first = p; end = (p + 1 + i + l) + from_bool named }
        → ArgRead p (count source) (typed_argument events 0 p (all_from source p)) (Ok given)
    typed_answers true h same =
        rw same (record { is = ap (λ e. Ok (declared p (p + 1 + i + l) (from_bool b) (location_word o) e, (p + 1 + i + l) + 1)) (add-one (p + 1 + i + l)) ∙ rw h at as_read; within = (omega arith, (rw h at name).within) })
    typed_answers false h same =
        rw same (record { is = ap (λ e. Ok (declared p reading.NONE (from_bool b) (location_word o) e, (p + 1 + i + l) + 0)) (add-zero (p + 1 + i + l)) ∙ rw h at as_read; within = (omega arith, (rw h at name).within) })

-- ---- what each reader answers, by the kinds that were read

module _ (text : List ℕ) {words kept : List ℕ} {p k : ℕ} (here : KindAt words kept p k) where
  abbrev own : List Token
  own = view text words kept

  kind_of : {q : ℕ} → k ≡ q → (token_at own p).kind ≡ q
  kind_of e = kind_is text p here refl ∙ e

  -- an argument of a call
  pub call_literal : (n : ℕ) {given : Argument} → k ≡ kind.Literal → reading_of given ≡ reading.one_token 4 p → ArgRead p (length kept) (call_argument n p (tokens_from text words kept p)) (Ok given)
  unfolding choose
  call_literal n e same = answers (call_at p own n 40 (kind_of e)) same (omega arith) (omega arith) (omega (arith, here.inside))

  pub call_named : (n : ℕ) {given : Argument} → (k ≡ kind.Calldata) ⊎ (k ≡ kind.Ident) → reading_of given ≡ reading.one_token 5 p → ArgRead p (length kept) (call_argument n p (tokens_from text words kept p)) (Ok given)
  unfolding choose
  call_named n e same =
      answers (⊎_elim (λ e. call_at p own n 23 (kind_of e)) (λ e. call_at p own n 38 (kind_of e)) e) same (omega arith) (omega arith)
      (⊎_elim (λ (e : k ≡ 23). omega (arith, here.inside)) (λ (e : k ≡ 38). omega (arith, here.inside)) e)

  pub call_angled : (n : ℕ) {r : Result Argument (ℕ × ℕ)} → k ≡ kind.LeftAngle → ArgRead p (length kept) (with_one_more (angled_rest p (suc p) (tokens_from text words kept (suc p)))) r
      → ArgRead p (length kept) (call_argument n p (tokens_from text words kept p)) r
  unfolding choose
  call_angled n e h = reads (call_at p own n 33 (kind_of e)) h

  pub call_refuses : (n : ℕ) {f : ℕ × ℕ} → (k ≡ kind.Literal → ⊥) → (k ≡ kind.Ident → ⊥) → (k ≡ kind.Calldata → ⊥) → (k ≡ kind.LeftAngle → ⊥) → f ≡ (10, p) → ArgRead p (length kept) (call_argument n p (tokens_from text words kept p)) (Err f)
  call_refuses n a b d e same = refuses (call_other p own n k (kind_of refl) (a, (b, (d, (e, tt))))) same refl

-- what stands behind a call's `<` at p
module _ (text : List ℕ) {words kept : List ℕ} (p : ℕ) {k : ℕ} (here : KindAt words kept (p + 1) k) where
  first_is : {q : ℕ} → k ≡ q → (token_at (view text words kept) (suc p)).kind ≡ q
  first_is e = kind_is text (suc p) here (add-one p) ∙ e

  pub angled_nameless : {f : ℕ × ℕ} → (k ≡ kind.Ident → ⊥) → f ≡ (1, p + 1) → ArgRead p (length kept) (with_one_more (angled_rest p (suc p) (tokens_from text words kept (suc p)))) (Err f)
  angled_nameless h same = refuses (angle_nameless p (view text words kept) (λ e. h (sym (first_is refl) ∙ e))) same (add-one p)

  module _ {l : ℕ} (there : KindAt words kept (p + 2) l) (named : k ≡ kind.Ident) where
    second_is : {q : ℕ} → l ≡ q → (token_at (view text words kept) (suc (suc p))).kind ≡ q
    second_is e = kind_is text (suc (suc p)) there (add-two p) ∙ e

    pub angled_open : {f : ℕ × ℕ} → (l ≡ kind.RightAngle → ⊥) → f ≡ (1, p + 2) → ArgRead p (length kept) (with_one_more (angled_rest p (suc p) (tokens_from text words kept (suc p)))) (Err f)
    angled_open h same = refuses (angle_open p (view text words kept) (first_is named) (λ e. h (sym (second_is refl) ∙ e))) same (add-two p)

    pub angled_closed : {given : Argument} → l ≡ kind.RightAngle → reading_of given ≡ reading.angled p → ArgRead p (length kept) (with_one_more (angled_rest p (suc p) (tokens_from text words kept (suc p)))) (Ok given)
    angled_closed e same = answers (angle_closed p (view text words kept) (first_is named) (second_is e)) same (omega arith) (omega arith) (omega (arith, there.inside))

-- where the text is the source's own
module _ (source : Source) {p k : ℕ} (here : KindAt source.tokens.now source.kept.now p k) where
  -- an argument of a builtin
  pub builtin_string : (n : ℕ) {given : Argument} → k ≡ kind.Str → reading_of given ≡ reading.one_token 2 p → ArgRead p (count source) (builtin_argument n p (all_from source p)) (Ok given)
  unfolding choose
  builtin_string n e same = answers (builtin_at p (all source) n 43 (kind_of source.text.now here e)) same (omega arith) (omega arith) (omega (arith, here.inside))

  pub builtin_literal : (n : ℕ) {given : Argument} → k ≡ kind.Literal → reading_of given ≡ reading.one_token 3 p → ArgRead p (count source) (builtin_argument n p (all_from source p)) (Ok given)
  unfolding choose
  builtin_literal n e same = answers (builtin_at p (all source) n 40 (kind_of source.text.now here e)) same (omega arith) (omega arith) (omega (arith, here.inside))

  pub builtin_name : (n : ℕ) {r : Result Argument (ℕ × ℕ)} → (k ≡ kind.Str → ⊥) → (k ≡ kind.Literal → ⊥) → ArgRead p (count source) (name_argument n p (all_from source p)) r → ArgRead p (count source) (builtin_argument n p (all_from source p)) r
  builtin_name n a b h = reads (builtin_other p (all source) n k (kind_of source.text.now here refl) (a, (b, tt))) h

  -- Indexed
  pub indexed_is : {events : Bool} → events ≡ true → indexed_here events p (all_from source p) ≡ got (from_bool (eqb k Indexed)) (from_bool (eqb k Indexed))
  indexed_is e = rw e (indexed_at p (all source) _ (rw (kind_of source.text.now here refl) refl))

  -- a typed argument's name
  module _ {part : List ℕ} {b : Bool} (is : part ≡ text_at source.text.now source.tokens.now source.kept.now p) (test : b ≡ reserved part) where
    reserved_is : {c : Bool} → b ≡ c → reserved (token_at (all source) p).text ≡ c
    reserved_is h = ap reserved (view_text source.text.now source.tokens.now source.kept.now p ∙ sym is) ∙ sym test ∙ h

    pub typed_ident_stands : k ≡ Ident → b ≡ false → TypedName p (count source) (all_from source p) (Ok true)
    typed_ident_stands e h = typed_stands p (all source) (kind_of source.text.now here e) (reserved_is h) (omega (arith, here.inside))

    pub typed_ident_refused : {f : ℕ × ℕ} → k ≡ Ident → b ≡ true → f ≡ (7, p) → TypedName p (count source) (all_from source p) (Err f)
    typed_ident_refused e h same = typed_reserved p (all source) (kind_of source.text.now here e) (reserved_is h) same

    pub name_ident_tested : (n : ℕ) → k ≡ Ident → n % 2 ≡ 1 → b ≡ false → UntypedName p (count source) n (all_from source p) (Ok tt)
    name_ident_tested n e odd h = name_stands p (all source) (kind_of source.text.now here e) (tested n _ false odd (reserved_is h)) (omega (arith, here.inside))

    pub name_ident_refused : (n : ℕ) {f : ℕ × ℕ} → k ≡ Ident → n % 2 ≡ 1 → b ≡ true → f ≡ (7, p) → UntypedName p (count source) n (all_from source p) (Err f)
    name_ident_refused n e odd h same = name_reserved p (all source) (kind_of source.text.now here e) (tested n _ true odd (reserved_is h)) same

  pub typed_type_refused : {f : ℕ × ℕ} → k ≡ PrimitiveType → f ≡ (7, p) → TypedName p (count source) (all_from source p) (Err f)
  typed_type_refused e same = typed_type p (all source) (kind_of source.text.now here e) same

  pub typed_nameless : (k ≡ Ident → ⊥) → (k ≡ PrimitiveType → ⊥) → p ≤ count source → TypedName p (count source) (all_from source p) (Ok false)
  typed_nameless a b low = typed_other p (all source) (kind_of source.text.now here refl) a b (omega arith)

  -- an untyped one
  pub name_ident_free : (n : ℕ) → k ≡ Ident → (n % 2 ≡ 1 → ⊥) → UntypedName p (count source) n (all_from source p) (Ok tt)
  name_ident_free n e even = name_stands p (all source) (kind_of source.text.now here e) (untested n _ even) (omega (arith, here.inside))

  pub name_type_tested : (n : ℕ) {f : ℕ × ℕ} → k ≡ PrimitiveType → n % 2 ≡ 1 → f ≡ (7, p) → UntypedName p (count source) n (all_from source p) (Err f)
  name_type_tested n e odd same = name_typed p (all source) true (kind_of source.text.now here e) (eq-eqb _ _ odd) same

  pub name_type_refused : (n : ℕ) {f : ℕ × ℕ} → k ≡ PrimitiveType → (n % 2 ≡ 1 → ⊥) → f ≡ (1, p) → UntypedName p (count source) n (all_from source p) (Err f)
  name_type_refused n e even same = name_typed p (all source) false (kind_of source.text.now here e) (ne_eqb _ _ even) same

  pub name_comma_refused : (n : ℕ) {f : ℕ × ℕ} → k ≡ Comma → f ≡ (8, p + 1) → UntypedName p (count source) n (all_from source p) (Err f)
  name_comma_refused n e same = name_comma p (all source) (kind_of source.text.now here e) same

  pub name_refused_here : (n : ℕ) {f : ℕ × ℕ} → (k ≡ Ident → ⊥) → (k ≡ PrimitiveType → ⊥) → (k ≡ Comma → ⊥) → f ≡ (8, p) → UntypedName p (count source) n (all_from source p) (Err f)
  name_refused_here n a b d same = name_other p (all source) (kind_of source.text.now here refl) (λ x. (a, (b, (d, tt)))) same
