-- What stands at a place, as the reader of one item finds it. Assumes nothing.
use Prim.Native.Nat.{ℕ, suc, ◌+◌, ◌<◌}
use native.Mathlib.Nat.{add-zero}
use native.Mathlib.Numerals.{add-one}
use native.Mathlib.Omega.{arith}
use mathlib.Core.Path.{◌≡◌, refl, sym, ap, ◌∙◌}
use mathlib.Core.Bool.{Bool, true, false, cond, ◌&&◌, true≢false}
use mathlib.Core.List.{List, [], ◌∷◌}
use borrow.Author.Tests.{eqb-true, eq-eqb, ne_eqb}
use lib.Dec.{eqb}
use lib.ListN.{length, drop}
use Rattle.tokens.specs.Kind.{OpenParen, OpenBracket, CloseBracket, LeftAngle, RightAngle, Ident, Literal, Opcode, BuiltinFunction}
use Rattle.tokens.specs.Token.{Token, token_at, view}
use Rattle.tokens.specs.Place.{kind_at, extra_at, text_at, KindAt}
use Rattle.tokens.specs.declared.source.Source.{Source}
use Rattle.tokens.specs.Source.{all, all_from, count}
use Rattle.tokens.specs.Push.{is_value_push, fits}
use Rattle.tokens.proofs.TokenLaws.{view_kind, view_extra, view_text}
use Rattle.std.specs.Prelude.{Result, Ok, Err}
use Rattle.statements.specs.declared.item.StatementType.{StatementType}
use Rattle.statements.specs.declared.item.StatementType.TheVariants as types
use Rattle.grammar.specs.Reading.{Simple, Sort, Argument, a_literal, an_opcode, a_label_call, an_invocation, a_constant, an_argument_call, a_builtin, single, enclosed, called}
use Rattle.grammar.specs.Written.{RefusedRead}
use Rattle.grammar.specs.Result.{plain, overflow, Res, got, bad, refuse, on, with_one_more, stepped, look, choose, expect, joined, seq}
use Rattle.grammar.specs.Reader.{closed_list, call_argument, builtin_argument, operand_step, ident_step, item_table, item}
use Rattle.grammar.specs.Records.{type_of}
use Rattle.grammar.proofs.AtPlace.{look_at}
use Rattle.grammar.proofs.Holds.{cond_says}
use Rattle.statements.specs.declared.item.Item.{Item}
use Rattle.statements.specs.declared.item.Item.TheVariants.{One, Builtin}
use Rattle.lists.proofs.At.{expect_taken, expect_refused, kind_inside, kind_here}
use Rattle.statements.specs.Item.{type_number, ItemRead, OneRead, with_list, enclosed_item, opcode_item, ident_item}

-- ---- what the first token decides

module _ (takes : Bool) (wrong p : ℕ) (all : List Token) where
  item_at : item takes wrong p (drop p all) ≡ stepped (choose (item_table takes p (token_at all p)) (refuse (plain wrong)) (token_at all p).kind) p (drop (suc p) all)
  unfolding item
  item_at = look_at (λ t. choose (item_table takes p t) (refuse (plain wrong)) t.kind) p all

  literal_step : (token_at all p).kind ≡ Literal → item takes wrong p (drop p all) ≡ got (single a_literal p (token_at all p) ∷ []) 1
  unfolding choose
  literal_step e = item_at ∙ rw e

  opcode_step : (token_at all p).kind ≡ Opcode → (takes && is_value_push (token_at all p).extra) ≡ false → item takes wrong p (drop p all) ≡ got (single an_opcode p (token_at all p) ∷ []) 1
  unfolding choose
  opcode_step e w = item_at ∙ rw (e, w)

  push_step : (token_at all p).kind ≡ Opcode → (takes && is_value_push (token_at all p).extra) ≡ true
      → item takes wrong p (drop p all) ≡ with_one_more (stepped (operand_step p (token_at all p) (token_at all (suc p))) (suc p) (drop (suc (suc p)) all))
  unfolding choose
  push_step e w = item_at ∙ rw (e, w) (ap with_one_more (look_at (operand_step p (token_at all p)) (suc p) all))

  ident_step_lem : (token_at all p).kind ≡ Ident
      → item takes wrong p (drop p all) ≡ with_one_more (stepped (ident_step p (token_at all p) (token_at all (suc p))) (suc p) (drop (suc (suc p)) all))
  unfolding choose
  ident_step_lem e = item_at ∙ rw e (ap with_one_more (look_at (ident_step p (token_at all p)) (suc p) all))

  call_step : (token_at all p).kind ≡ Ident → eqb (token_at all (suc p)).kind OpenParen ≡ true
      → item takes wrong p (drop p all) ≡ with_one_more (expect OpenParen (plain 1) (λ o. seq (closed_list call_argument) (λ args q us. got (called an_invocation p (token_at all p) q args ∷ []) 0)) (p + 1) (drop (p + 1) all))
  unfolding ident_step
  call_step e k =
      let list = seq (closed_list call_argument) (λ args q us. got (called an_invocation p (token_at all p) q args ∷ []) 0) in
      let asked : expect OpenParen (plain 1) (λ o. list) (suc p) (drop (suc p) all) ≡ with_one_more (list (suc (suc p)) (drop (suc (suc p)) all)) =
      look_at (λ o. cond (eqb o.kind OpenParen) (on list) (refuse (plain 1))) (suc p) all ∙ rw k in
      let there : stepped (ident_step p (token_at all p) (token_at all (suc p))) (suc p) (drop (suc (suc p)) all) ≡ with_one_more (list (suc (suc p)) (drop (suc (suc p)) all)) = rw k in
      let same : stepped (ident_step p (token_at all p) (token_at all (suc p))) (suc p) (drop (suc (suc p)) all) ≡ expect OpenParen (plain 1) (λ o. list) (p + 1) (drop (p + 1) all) =
      rw add-one (there ∙ sym asked) in
      ident_step_lem e ∙ ap with_one_more same

  constant_step : (token_at all p).kind ≡ OpenBracket
      → item takes wrong p (drop p all) ≡ with_one_more (expect Ident (plain 12) (λ i. expect CloseBracket (plain 1) (λ r q ts. got (enclosed a_constant p i ∷ []) 0)) (p + 1) (drop (p + 1) all))
  unfolding choose
  constant_step e = item_at ∙ rw (e, add-one)

  argument_step : (token_at all p).kind ≡ LeftAngle
      → item takes wrong p (drop p all) ≡ with_one_more (expect Ident (plain 13) (λ i. expect RightAngle (plain 1) (λ r q ts. got (enclosed an_argument_call p i ∷ []) 0)) (p + 1) (drop (p + 1) all))
  unfolding choose
  argument_step e = item_at ∙ rw (e, add-one)

  builtin_step : (token_at all p).kind ≡ BuiltinFunction
      → item takes wrong p (drop p all) ≡ with_one_more (expect OpenParen (plain 1) (λ o. seq (closed_list builtin_argument) (λ args q ts. got (called a_builtin p (token_at all p) q args ∷ []) 0)) (p + 1) (drop (p + 1) all))
  unfolding choose
  builtin_step e = item_at ∙ rw (e, add-one)

  -- a token that begins no item
  pub other_at : ((token_at all p).kind ≡ Literal → ⊥) → ((token_at all p).kind ≡ Opcode → ⊥) → ((token_at all p).kind ≡ Ident → ⊥) → ((token_at all p).kind ≡ OpenBracket → ⊥) → ((token_at all p).kind ≡ LeftAngle → ⊥) → ((token_at all p).kind ≡ BuiltinFunction → ⊥)
      → RefusedRead (item takes wrong p (drop p all)) wrong p
  unfolding choose
  other_at a b c d e f =
      record {
        why = plain wrong;
        place = p;
        is = item_at ∙ rw (ne_eqb _ _ a, ne_eqb _ _ b, ne_eqb _ _ c, ne_eqb _ _ d, ne_eqb _ _ e, ne_eqb _ _ f);
        numbered = refl;
        cursor = sym (add-zero p);
      }

-- ---- and the code's answer for it

-- a list behind a name or a builtin, from its `(` on
list_behind : (read : ℕ → ℕ → List Token → Res Argument) (sort : Sort) (p : ℕ) (t : Token) (ts : List Token)
    → with_one_more (expect OpenParen (plain 1) (λ o. seq (closed_list read) (λ args q us. got (called sort p t q args ∷ []) 0)) (p + 1) ts)
    ≡ with_list sort p t (expect OpenParen (plain 1) (λ o. closed_list read) (p + 1) ts)
unfolding look seq
list_behind read sort p t ts = go (eqb (token_at ts 0).kind OpenParen)
  where
    opened : (r : Res (List Argument)) → with_one_more (with_one_more (joined r (λ args q us. got (called sort p t q args ∷ []) 0) (suc (p + 1)) (drop 1 ts))) ≡ with_list sort p t (with_one_more r)
    opened (got args n) =
        let place : suc (p + 1) + n ≡ p + 1 + suc n = omega arith in
        rw (place, add-zero)
    opened (bad y w) = refl

    go : (b : Bool)
        → with_one_more (stepped (cond b (on (λ q us. joined (closed_list read q us) (λ args q us. got (called sort p t q args ∷ []) 0) q us)) (refuse (plain 1))) (p + 1) (drop 1 ts))
        ≡ with_list sort p t (stepped (cond b (on (closed_list read)) (refuse (plain 1))) (p + 1) (drop 1 ts))
    go true = opened (closed_list read (suc (p + 1)) (drop 1 ts))
    go false = refl

module _ (takes : Bool) (wrong p size : ℕ) (all : List Token) (inside : (q : ℕ) → 0 < (token_at all q).kind → q < size) where
  here : (k : ℕ) → (token_at all p).kind ≡ k → 0 < k → p < size
  here k e h = inside p (rw e h)

  pub literal_at_lem : (token_at all p).kind ≡ Literal → OneRead p size (item takes wrong p (drop p all)) (record { ty = types.Literal; end = p + 1; place = p })
  literal_at_lem e =
      record {
        what = single a_literal p (token_at all p);
        tokens = 1;
        is = literal_step takes wrong p all e;
        behind = refl;
        some = omega arith;
        inside = let i = here Literal e (omega arith) in omega arith;
        sort = refl;
        first = refl;
        end = sym (add-one p);
        place = refl;
        near = omega arith;
        args = refl;
      }

  pub opcode_at_lem : (token_at all p).kind ≡ Opcode
      → ItemRead p size all (item takes wrong p (drop p all)) (opcode_item takes p (token_at all p).extra (token_at all (p + 1)).kind (token_at all (p + 1)).text)
  unfolding operand_step
  opcode_at_lem e =
      rw add-one
      (cond_says (ItemRead p size all (item takes wrong p (drop p all))) (takes && is_value_push (token_at all p).extra)
      (λ w.
      let step = push_step takes wrong p all e w in
      cond_says (ItemRead p size all (item takes wrong p (drop p all))) (eqb (token_at all (suc p)).kind Literal)
      (λ k. cond_says (ItemRead p size all (item takes wrong p (drop p all))) (fits (token_at all p).extra (token_at all (suc p)).text)
      (λ f. record {
        is = step ∙ rw (k, f);
        inside = let i = inside (suc p) (rw (eqb-true (token_at all (suc p)).kind Literal k) (omega arith)) in omega arith;
      })
      (λ f. record { why = overflow; place = suc p; is = step ∙ rw (k, f); numbered = refl; cursor = omega arith }))
      (λ k. record { why = plain 4; place = suc p; is = step ∙ rw k; numbered = refl; cursor = omega arith }))
      (λ w.
      record {
        what = single an_opcode p (token_at all p);
        tokens = 1;
        is = opcode_step takes wrong p all e w;
        behind = sym (add-one p);
        some = omega arith;
        inside = here Opcode e (omega arith);
        sort = refl;
        first = refl;
        end = refl;
        place = refl;
        near = omega arith;
        args = refl;
      }))

  pub ident_at : (token_at all p).kind ≡ Ident → ItemRead p size all (item takes wrong p (drop p all)) (ident_item p (token_at all (p + 1)).kind)
  unfolding ident_step
  ident_at e =
      let step = ident_step_lem takes wrong p all e in
      rw add-one
      (cond_says (ItemRead p size all (item takes wrong p (drop p all))) (eqb (token_at all (suc p)).kind OpenParen)
      (λ k. (
        here Ident e (omega arith),
        call_step takes wrong p all e k ∙ list_behind call_argument an_invocation p (token_at all p) (drop (p + 1) all),
      ))
      (λ k.
      record {
        what = single a_label_call p (token_at all p);
        tokens = 1;
        is = step ∙ rw k;
        behind = sym (add-one p);
        some = omega arith;
        inside = here Ident e (omega arith);
        sort = refl;
        first = refl;
        end = refl;
        place = refl;
        near = omega arith;
        args = refl;
      }))

  pub builtin_at_lem : (token_at all p).kind ≡ BuiltinFunction
      → ItemRead p size all (item takes wrong p (drop p all)) (Ok Builtin)
  builtin_at_lem e = (
    here BuiltinFunction e (omega arith),
    builtin_step takes wrong p all e ∙ list_behind builtin_argument a_builtin p (token_at all p) (drop (p + 1) all),
  )

  -- a name between two signs
  enclosed_at : (sort : Sort) (y close : ℕ) (ty : StatementType) → 0 < close → type_of sort ≡ type_number ty
      → item takes wrong p (drop p all) ≡ with_one_more (expect Ident (plain y) (λ i. expect close (plain 1) (λ r q ts. got (enclosed sort p i ∷ []) 0)) (p + 1) (drop (p + 1) all))
      → ItemRead p size all (item takes wrong p (drop p all)) (enclosed_item y close ty p (token_at all (p + 1)).kind (token_at all (p + 2)).kind)
  enclosed_at sort y close ty pos is-ty step =
      cond_says (ItemRead p size all (item takes wrong p (drop p all))) (eqb (token_at all (p + 1)).kind Ident)
      (λ k.
      let named = step ∙ ap with_one_more (expect_taken Ident (plain y) (λ i. expect close (plain 1) (λ r q ts. got (enclosed sort p i ∷ []) 0)) (p + 1) all (eqb-true _ _ k)) in
      cond_says (ItemRead p size all (item takes wrong p (drop p all))) (eqb (token_at all (p + 2)).kind close)
      (λ l.
      let behind_it : (token_at all (p + 1 + 1)).kind ≡ close = ap (λ (q : ℕ). (token_at all q).kind) two ∙ eqb-true _ _ l in
      record {
        what = enclosed sort p (token_at all (p + 1));
        tokens = 3;
        is = named ∙ ap (λ (r : Res (List Simple)). with_one_more (with_one_more r)) (expect_taken close (plain 1) (λ r q ts. got (enclosed sort p (token_at all (p + 1)) ∷ []) 0) (p + 1 + 1) all behind_it);
        behind = refl;
        some = omega arith;
        inside = let i = inside (p + 2) (rw (eqb-true (token_at all (p + 2)).kind close l) pos) in omega arith;
        sort = is-ty;
        first = refl;
        end = omega arith;
        place = sym (add-one p);
        near = omega arith;
        args = refl;
      })
      (λ l. record {
        why = plain 1;
        place = p + 2;
        is = named ∙ ap (λ (r : Res (List Simple)). with_one_more (with_one_more r)) (expect_refused close (plain 1) (λ r q ts. got (enclosed sort p (token_at all (p + 1)) ∷ []) 0) (p + 1 + 1) all (λ z. no l (ap (λ (q : ℕ). (token_at all q).kind) (sym two) ∙ z))) ∙ ap (bad (plain 1)) two;
        numbered = refl;
        cursor = omega arith;
      }))
      (λ k. record {
        why = plain y;
        place = p + 1;
        is = step ∙ ap with_one_more (expect_refused Ident (plain y) (λ i. expect close (plain 1) (λ r q ts. got (enclosed sort p i ∷ []) 0)) (p + 1) all (no k));
        numbered = refl;
        cursor = omega arith;
      })
    where
      two : p + 1 + 1 ≡ p + 2
      two = omega arith

      no : {k l : ℕ} → eqb k l ≡ false → k ≡ l → ⊥
      no {k} {l} f z = true≢false (sym (eq-eqb k l z) ∙ f)

  pub constant_at_lem : (token_at all p).kind ≡ OpenBracket → ItemRead p size all (item takes wrong p (drop p all)) (enclosed_item 12 CloseBracket types.Constant p (token_at all (p + 1)).kind (token_at all (p + 2)).kind)
  constant_at_lem e = enclosed_at a_constant 12 CloseBracket types.Constant (omega arith) refl (constant_step takes wrong p all e)

  pub argument_at : (token_at all p).kind ≡ LeftAngle → ItemRead p size all (item takes wrong p (drop p all)) (enclosed_item 13 RightAngle types.ArgumentCall p (token_at all (p + 1)).kind (token_at all (p + 2)).kind)
  argument_at e = enclosed_at an_argument_call 13 RightAngle types.ArgumentCall (omega arith) refl (argument_step takes wrong p all e)

-- the view's tokens inside the kept list
pub view_inside : (text words kept : List ℕ) (q : ℕ) → 0 < (token_at (view text words kept) q).kind → q < length kept
view_inside text words kept q h = kind_inside words kept q (kind_at words kept q) refl (rw view_kind at h)

-- ---- the same of what the code is lent, by what it finds there

module _ (source : Source) (takes : Bool) (wrong p : ℕ) where
  -- what the reader of one item promises of p
  abbrev pub Here : Result Item (ℕ × ℕ) → Type 0
  Here r = ItemRead p (count source) (all source) (item takes wrong p (all_from source p)) r

  in_kept : (q : ℕ) → 0 < (token_at (all source) q).kind → q < count source
  in_kept = view_inside source.text.now source.tokens.now source.kept.now

  is_kind : {r k : ℕ} → KindAt source.tokens.now source.kept.now p r → r ≡ k → (token_at (all source) p).kind ≡ k
  is_kind m e = sym (kind_here source.text.now source.tokens.now source.kept.now p m) ∙ e

  kind_of : (q : ℕ) → (token_at (all source) q).kind ≡ kind_at source.tokens.now source.kept.now q
  kind_of q = view_kind source.text.now source.tokens.now source.kept.now q

  pub literal_here : {k : ℕ} → KindAt source.tokens.now source.kept.now p k → k ≡ Literal → Here (Ok (One (record { ty = types.Literal; end = p + 1; place = p })))
  literal_here m e = literal_at_lem takes wrong p (count source) (all source) in_kept (is_kind m e)

  pub opcode_here : {k : ℕ} → KindAt source.tokens.now source.kept.now p k → k ≡ Opcode
      → Here (opcode_item takes p (extra_at source.tokens.now source.kept.now p) (kind_at source.tokens.now source.kept.now (p + 1)) (text_at source.text.now source.tokens.now source.kept.now (p + 1)))
  opcode_here m e =
      rw (← view_extra source.text.now source.tokens.now source.kept.now p, ← kind_of (p + 1), ← view_text source.text.now source.tokens.now source.kept.now (p + 1))
      (opcode_at_lem takes wrong p (count source) (all source) in_kept (is_kind m e))

  pub ident_here : {k : ℕ} → KindAt source.tokens.now source.kept.now p k → k ≡ Ident → Here (ident_item p (kind_at source.tokens.now source.kept.now (p + 1)))
  ident_here m e = rw (← kind_of (p + 1)) (ident_at takes wrong p (count source) (all source) in_kept (is_kind m e))

  pub constant_here : {k : ℕ} → KindAt source.tokens.now source.kept.now p k → k ≡ OpenBracket
      → Here (enclosed_item 12 CloseBracket types.Constant p (kind_at source.tokens.now source.kept.now (p + 1)) (kind_at source.tokens.now source.kept.now (p + 2)))
  constant_here m e = rw (← kind_of (p + 1), ← kind_of (p + 2)) (constant_at_lem takes wrong p (count source) (all source) in_kept (is_kind m e))

  pub argument_here : {k : ℕ} → KindAt source.tokens.now source.kept.now p k → k ≡ LeftAngle
      → Here (enclosed_item 13 RightAngle types.ArgumentCall p (kind_at source.tokens.now source.kept.now (p + 1)) (kind_at source.tokens.now source.kept.now (p + 2)))
  argument_here m e = rw (← kind_of (p + 1), ← kind_of (p + 2)) (argument_at takes wrong p (count source) (all source) in_kept (is_kind m e))

  pub builtin_here : {k : ℕ} → KindAt source.tokens.now source.kept.now p k → k ≡ BuiltinFunction → Here (Ok Builtin)
  builtin_here m e = builtin_at_lem takes wrong p (count source) (all source) in_kept (is_kind m e)

  pub other_here : {k : ℕ} → KindAt source.tokens.now source.kept.now p k → (k ≡ Literal → ⊥) → (k ≡ Opcode → ⊥) → (k ≡ Ident → ⊥) → (k ≡ OpenBracket → ⊥) → (k ≡ LeftAngle → ⊥) → (k ≡ BuiltinFunction → ⊥)
      → Here (Err (wrong, p))
  other_here {k} m a b c d e f =
      let h : k ≡ (token_at (all source) p).kind = kind_here source.text.now source.tokens.now source.kept.now p m in
      other_at takes wrong p (all source) (λ z. a (h ∙ z)) (λ z. b (h ∙ z)) (λ z. c (h ∙ z)) (λ z. d (h ∙ z)) (λ z. e (h ∙ z)) (λ z. f (h ∙ z))
