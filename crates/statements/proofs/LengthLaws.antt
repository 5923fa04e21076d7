-- The plain length that the code adds up, token by token, is the plain length of the body's reading, under any rule set. Assumes nothing.
use Prim.Native.Nat.{ℕ, suc, ◌+◌, ◌≤◌, ◌<◌}
use native.Mathlib.Nat.{add-zero, add_assoc, zero-add}
use native.Mathlib.Numerals.{add-one}
use native.Mathlib.Omega.{arith}
use mathlib.Core.Path.{◌≡◌, refl, sym, ap, subst, ◌∙◌}
use mathlib.Core.Logic.{⊎_elim}
use mathlib.Core.Bool.{Bool, true, false, cond, not, not-not, ◌&&◌, ◌||◌, and_assoc, and-true, and-false, and-eq-true_iff}
use mathlib.Core.List.{List, [], ◌∷◌, ◌++◌, append_assoc, flatten, sum}
use borrow.Author.Tests.{eqb-true, ne_eqb}
use lib.Dec.{eqb}
use lib.ListN.{length, take, drop, drop_of_length-le, take-append-drop, get_or-eq_default}
use lib.Seq.{drop-cons, drop-drop}
use Rattle.tokens.specs.Kind.{CloseBrace, Colon, Label, Literal, Opcode}
use Rattle.tokens.specs.Token.{Token, eof_token, token_at}
use Rattle.tokens.specs.Place.{KindAt, extra_at, text_at}
use Rattle.tokens.specs.declared.source.Source.{Source}
use Rattle.tokens.specs.Source.{all, count}
use Rattle.tokens.proofs.TokenLaws.{view_extra, view_length, view_text}
use Rattle.tokens.proofs.LiteralLaws.{yellow_paper_only}
use Rattle.lists.proofs.At.{kind_here, test_yes, test_no}
use Rattle.std.specs.Prelude.{Some, None}
use Rattle.tokens.specs.Push.{is_value_push, push_size, fits}
use Rattle.tokens.proofs.Laws.{lt_or_le}
use Rattle.grammar.specs.Reading.{NONE, a_literal, an_opcode, Simple, Group, Reading}
use Rattle.grammar.specs.Rules.{Rules}
use Rattle.grammar.specs.Grammar.{Many, none, more, Item, literal, opcode, push, label_call, invocation, constant, argument_call, builtin, forget, Items, LabelGroup, group, remember, Body, body}
use Rattle.grammar.specs.Follows.{Follows}
use Rattle.grammar.specs.PlainLength.{is_a, value_push, is_operand, measured, has_length, own_bytes, total_bytes, Instruction, instructions, group_instructions, body_instructions, every, plain_length}
use Rattle.grammar.proofs.Operands.{is_a_lem, operand_says, counted_alone}
use Rattle.grammar.proofs.Lengths.{total_append}
use Rattle.statements.specs.Length.{plain_kind, opcode_byte, taken_by, may_follow, own_token_bytes, token_bytes, length_on, length_from, length_told}

-- ---- a token of the walk

-- an operand is a literal
pub taken_literal : (byte : ℕ) (t : Token) → taken_by byte t ≡ true → t.kind ≡ Literal
unfolding taken_by
taken_literal byte t e = eqb-true t.kind Literal ((and-eq-true_iff (eqb t.kind Literal) (fits byte t.text)).0 e).0

-- so an opcode is none
pub opcode_not_taken : (byte : ℕ) (t : Token) → t.kind ≡ Opcode → taken_by byte t ≡ false
unfolding taken_by
opcode_not_taken byte t e = rw e

-- a test without consequence
cond_same : (u : Bool) (x : ℕ) → cond u x x ≡ x
cond_same true x = refl
cond_same false x = refl

-- 0 is no push's byte
no_push : is_value_push 0 ≡ false
unfolding is_value_push
no_push = refl

-- ---- a statement of the walk, as far as no edition touches it

-- the byte of an opcode statement, 0 of any other
abbrev byte_of : Simple → ℕ
byte_of s = cond (is_a an_opcode s) s.token.extra 0

-- may the statement stand behind an opcode of this byte
abbrev follows : ℕ → Simple → Bool
follows byte s = not (is_value_push byte) || (is_a a_literal s && fits byte s.token.text)

-- the byte left behind a statement is a value push's exactly if the statement is one
byte_push : (s : Simple) → is_value_push (byte_of s) ≡ value_push s
byte_push s = by (is_a an_opcode s)
  where
    by : (u : Bool) → is_value_push (cond u s.token.extra 0) ≡ (u && is_value_push s.token.extra)
    by true = refl
    by false = no_push

-- two tests one behind the other
both_cond : (u v : Bool) (x : ℕ) → cond u (cond v x NONE) NONE ≡ cond (u && v) x NONE
both_cond true v x = refl
both_cond false v x = refl

-- where no operand can stand: x, but behind a push NONE
abbrev unless_push : ℕ → ℕ → ℕ
unless_push byte x = cond (not (is_value_push byte)) x NONE

measured_append : (u v : List Instruction) → every has_length (u ++ v) ≡ (every has_length u && every has_length v)
unfolding every
measured_append [] v = refl
measured_append (x ∷ u) v = rw (measured_append u v) (sym (and_assoc (has_length x) (every has_length u) (every has_length v)))

-- ---- a token of the walk, by its kind and the opcode before it

module _ (short : Bool) where
  module _ (byte b p : ℕ) (all : List Token) where
    -- at place p, inside the list or past its end
    length_at : length_on short byte b (drop p all)
        ≡ cond (may_follow byte (token_at all p)) (cond (eqb (token_at all p).kind CloseBrace) b (cond (plain_kind (token_at all p).kind) (length_on short (opcode_byte (token_at all p)) (b + token_bytes short byte (token_at all p)) (drop (p + 1) all)) NONE)) NONE
    unfolding length_on plain_kind
    length_at =
        ⊎_elim (λ (h : p < length all). rw (drop-cons all p eof_token h, add-one))
        (λ (h : length all ≤ p). rw (drop_of_length-le all h, get_or-eq_default all eof_token h) (sym (cond_same (may_follow byte eof_token) NONE)))
        (lt_or_le p (length all))

    -- behind a value push: what is not its operand, and its operand
    module _ (push : is_value_push byte ≡ true) where
      pub length_lacks : taken_by byte (token_at all p) ≡ false → length_on short byte b (drop p all) ≡ NONE
      unfolding may_follow
      length_lacks e = length_at ∙ rw (push, e)

      pub length_taken : taken_by byte (token_at all p) ≡ true → length_on short byte b (drop p all) ≡ length_on short 0 (b + push_size byte) (drop (p + 1) all)
      unfolding may_follow token_bytes plain_kind opcode_byte
      length_taken e = length_at ∙ rw (push, e, taken_literal byte (token_at all p) e)

    -- behind any other token: an opcode, the brace, a kind that is not plain, another plain one
    module _ (plain : is_value_push byte ≡ false) where
      pub length_opcode : (token_at all p).kind ≡ Opcode → length_on short byte b (drop p all) ≡ length_on short (token_at all p).extra (b + 1) (drop (p + 1) all)
      unfolding may_follow own_token_bytes token_bytes plain_kind opcode_byte
      length_opcode e = length_at ∙ rw (plain, e)

      pub length_ends : (token_at all p).kind ≡ CloseBrace → length_on short byte b (drop p all) ≡ b
      unfolding may_follow
      length_ends e = length_at ∙ rw (plain, e)

      pub length_none : eqb (token_at all p).kind CloseBrace ≡ false → plain_kind (token_at all p).kind ≡ false → length_on short byte b (drop p all) ≡ NONE
      unfolding may_follow
      length_none e f = length_at ∙ rw (plain, e, f)

      pub length_goes : eqb (token_at all p).kind Opcode ≡ false → eqb (token_at all p).kind CloseBrace ≡ false → plain_kind (token_at all p).kind ≡ true
          → length_on short byte b (drop p all) ≡ length_on short 0 (b + own_token_bytes short (token_at all p)) (drop (p + 1) all)
      unfolding may_follow token_bytes opcode_byte
      length_goes o e f = length_at ∙ rw (plain, e, f, o)

  -- ---- the same walk over statements, with what is done behind them

  -- the bytes of a statement behind an opcode of this byte
  abbrev bytes_behind : ℕ → Simple → ℕ
  bytes_behind byte s = cond (is_value_push byte) (push_size byte) (own_bytes short s.sort s.token)

  -- `on` is handed the last statement's byte and the bytes so far
  walk : ℕ → ℕ → List Simple → (ℕ → ℕ → ℕ) → ℕ
  walk byte b [] on = on byte b
  walk byte b (s ∷ ss) on = cond (measured s.sort && follows byte s) (walk (byte_of s) (b + bytes_behind byte s) ss on) NONE

  walk_append : (byte b : ℕ) (u v : List Simple) (on : ℕ → ℕ → ℕ) → walk byte b (u ++ v) on ≡ walk byte b u (λ byte b. walk byte b v on)
  unfolding walk
  walk_append byte b [] v on = refl
  walk_append byte b (s ∷ u) v on = ap (λ x. cond (measured s.sort && follows byte s) x NONE) (walk_append (byte_of s) (b + bytes_behind byte s) u v on)

  -- going on by what is equal
  walk_same : (byte b : ℕ) (ss : List Simple) (on off : ℕ → ℕ → ℕ) → ((byte b : ℕ) → on byte b ≡ off byte b) → walk byte b ss on ≡ walk byte b ss off
  walk_same byte b ss on off h = λ i. walk byte b ss (λ byte b. h byte b i)

  -- ---- tokens to statements

  -- an item
  item_walk : (takes : Bool) (p : ℕ) (xs : List Token) (ss : List Simple) (byte b : ℕ) (ys : List Token) → Item takes p xs ss
      → length_on short byte b (xs ++ ys) ≡ walk byte b ss (λ byte b. length_on short byte b ys)
  unfolding length_on plain_kind taken_by may_follow own_token_bytes token_bytes opcode_byte walk
  item_walk takes p xs ss byte b ys (literal t e) = rw e
  item_walk takes p xs ss byte b ys (opcode t e w) = rw e
  item_walk takes p xs ss byte b ys (push t v e w k f) = rw (e, k)
  item_walk takes p xs ss byte b ys (label_call t e) = rw e
  item_walk takes p xs ss byte b ys (invocation t o e f c) = rw (e, f, no_push) (cond_same (not (is_value_push byte) || false) NONE)
  item_walk takes p xs ss byte b ys (constant l t r e f g) = rw e (cond_same (not (is_value_push byte) || false) NONE)
  item_walk takes p xs ss byte b ys (argument_call l t r e f g) = rw e (cond_same (not (is_value_push byte) || false) NONE)
  item_walk takes p xs ss byte b ys (builtin t o e f c) = rw e (cond_same (not (is_value_push byte) || false) NONE)

  -- items one behind the other
  items_walk : (takes : Bool) (s : Unit {0}) (p : ℕ) (xs : List Token) (is : List (List Simple)) (byte b : ℕ) (ys : List Token) → Many forget (λ s. Item takes) s p xs is
      → length_on short byte b (xs ++ ys) ≡ walk byte b (flatten is) (λ byte b. length_on short byte b ys)
  unfolding flatten walk
  items_walk takes s p xs is byte b ys none = refl
  items_walk takes s p xs is byte b ys (more {xs = us} {ys = vs} {a = a} {rs = rs} u m) =
      ap (length_on short byte b) (append_assoc us vs ys)
      ∙ item_walk takes p us a byte b (vs ++ ys) u
      ∙ walk_same byte b a (λ byte b. length_on short byte b (vs ++ ys)) (λ byte b. walk byte b (flatten rs) (λ byte b. length_on short byte b ys)) (λ byte b. items_walk takes tt (p + length us) vs rs byte b ys m)
      ∙ sym (walk_append byte b a (flatten rs) (λ byte b. length_on short byte b ys))

  -- ---- statements to instructions

  -- a statement that stands behind no push
  walk_first : (b : ℕ) (s : Simple) (ss : List Simple) (on : ℕ → ℕ → ℕ) → walk 0 b (s ∷ ss) on ≡ cond (measured s.sort) (walk (byte_of s) (b + own_bytes short s.sort s.token) ss on) NONE
  unfolding walk
  walk_first b s ss on = rw (no_push, and-true (measured s.sort))

  -- behind a push without an operand the walk ends
  walk_lacks : (b : ℕ) (s l : Simple) (ss : List Simple) (on : ℕ → ℕ → ℕ) → value_push s ≡ true → is_operand s l ≡ false → walk (byte_of s) b (l ∷ ss) on ≡ NONE
  unfolding walk
  walk_lacks b s l ss on v o =
      let push = (and-eq-true_iff (is_a an_opcode s) (is_value_push s.token.extra)).0 v in
      let no = subst (λ x. (x && is_a a_literal l && fits s.token.extra l.token.text) ≡ false) v o in
      rw (push.0, push.1, no, and-false (measured l.sort))

  module _ (K : ℕ → ℕ) where
    -- the end of a part, with what is done behind it
    abbrev ends : ℕ → ℕ → ℕ
    ends byte b = unless_push byte (K b)

    -- what a part of these statements comes to
    abbrev Counted : List Simple → Type 0
    Counted ss = (b : ℕ) → walk 0 b ss ends ≡ cond (every has_length (instructions ss)) (K (b + total_bytes short (instructions ss))) NONE

    -- of an opcode's byte only a push's is looked at
    walk_plain : (byte b : ℕ) (ss : List Simple) → is_value_push byte ≡ false → walk byte b ss ends ≡ walk 0 b ss ends
    unfolding walk
    walk_plain byte b [] h = rw (h, no_push)
    walk_plain byte b (s ∷ ss) h = rw (h, no_push)

    -- no push; a push with its operand; a push without
    count_plain : (s l : Simple) (ss : List Simple) → value_push s ≡ false → is_operand s l ≡ false → Counted (l ∷ ss) → Counted (s ∷ l ∷ ss)
    unfolding every sum
    count_plain s l ss v o h b =
        let own = own_bytes short s.sort s.token in
        walk_first b s (l ∷ ss) ends
        ∙ ap (λ x. cond (measured s.sort) x NONE) (walk_plain (byte_of s) (b + own) (l ∷ ss) (byte_push s ∙ v) ∙ h (b + own))
        ∙ both_cond (measured s.sort) (every has_length (instructions (l ∷ ss))) (K (b + own + total_bytes short (instructions (l ∷ ss))))
        ∙ rw (counted_alone s l ss o, v, and-true (measured s.sort), add-zero own, add_assoc b own (total_bytes short (instructions (l ∷ ss))))

    count_push : (s l : Simple) (ss : List Simple) → is_operand s l ≡ true → Counted ss → Counted (s ∷ l ∷ ss)
    unfolding walk instructions every sum
    count_push s l ss o h b =
        let says = operand_says s l o in
        rw (o, is_a_lem an_opcode s says.0, is_a_lem a_literal l says.2, says.1, says.3, no_push)
        (h (b + 1 + push_size s.token.extra) ∙ ap (λ (n : ℕ). cond (every has_length (instructions ss)) (K n) NONE) (omega arith))

    count_lacks : (s l : Simple) (ss : List Simple) → value_push s ≡ true → is_operand s l ≡ false → Counted (s ∷ l ∷ ss)
    unfolding every
    count_lacks s l ss v o b =
        walk_first b s (l ∷ ss) ends
        ∙ ap (λ x. cond (measured s.sort) x NONE) (walk_lacks (b + own_bytes short s.sort s.token) s l ss ends v o)
        ∙ cond_same (measured s.sort) NONE
        ∙ rw (counted_alone s l ss o, v, and-false (measured s.sort))

    part_counted : (ss : List Simple) → Counted ss
    unfolding walk instructions every sum
    part_counted [] b = rw (no_push, add-zero)
    part_counted (s ∷ []) b =
        let own = own_bytes short s.sort s.token in
        walk_first b s [] ends
        ∙ ap (λ x. cond (measured s.sort) x NONE) (rw (byte_push s))
        ∙ both_cond (measured s.sort) (not (value_push s)) (K (b + own))
        ∙ rw (and-true (measured s.sort && not (value_push s)), add-zero own, add-zero own)
    part_counted (s ∷ l ∷ ss) b = by (value_push s) refl (is_operand s l) refl (part_counted ss) (part_counted (l ∷ ss))
      where
        by : (v : Bool) → value_push s ≡ v → (o : Bool) → is_operand s l ≡ o → Counted ss → Counted (l ∷ ss) → walk 0 b (s ∷ l ∷ ss) ends ≡ cond (every has_length (instructions (s ∷ l ∷ ss))) (K (b + total_bytes short (instructions (s ∷ l ∷ ss)))) NONE
        by v e true f h k = count_push s l ss f h b
        by true e false f h k = count_lacks s l ss e f b
        by false e false f h k = count_plain s l ss e f k b

  -- ---- parts, and the body

  -- a token that is no literal: behind a push it ends the length, behind any other token it is as behind none
  not_literal : (byte b : ℕ) (t : Token) (ts : List Token) → eqb t.kind Literal ≡ false → length_on short byte b (t ∷ ts) ≡ unless_push byte (length_on short 0 b (t ∷ ts))
  unfolding length_on taken_by may_follow own_token_bytes token_bytes
  not_literal byte b t ts e = by (is_value_push byte) refl
    where
      by : (v : Bool) → is_value_push byte ≡ v → length_on short byte b (t ∷ ts) ≡ cond (not v) (length_on short 0 b (t ∷ ts)) NONE
      by true h = rw (h, e)
      by false h = rw (h, no_push)

  -- items up to a token that is no literal
  part_length : (takes : Bool) (p : ℕ) (xs : List Token) (is : List (List Simple)) (b : ℕ) (ys : List Token)
      → Items takes p xs is
      → ((byte c : ℕ) → length_on short byte c ys ≡ unless_push byte (length_on short 0 c ys))
      → length_on short 0 b (xs ++ ys) ≡ cond (every has_length (instructions (flatten is))) (length_on short 0 (b + total_bytes short (instructions (flatten is))) ys) NONE
  part_length takes p xs is b ys m h =
      items_walk takes tt p xs is 0 b ys m
      ∙ walk_same 0 b (flatten is) (λ byte c. length_on short byte c ys) (λ byte c. unless_push byte (length_on short 0 c ys)) h
      ∙ part_counted (λ c. length_on short 0 c ys) (flatten is) b

  -- one part behind another: b bytes before them, n behind
  joined : (u v : List Instruction) (b n : ℕ)
      → cond (every has_length u) (cond (every has_length v) (b + total_bytes short u + (n + total_bytes short v)) NONE) NONE ≡ cond (every has_length (u ++ v)) (b + (n + total_bytes short (u ++ v))) NONE
  joined u v b n =
      both_cond (every has_length u) (every has_length v) (b + total_bytes short u + (n + total_bytes short v))
      ∙ rw (measured_append u v, total_append short u v) (ap (λ (x : ℕ). cond (every has_length u && every has_length v) x NONE) (omega arith))

  -- label groups and the brace that ends the body begin with no literal
  group_first : (m : Rules) (seen : List (List ℕ)) (p : ℕ) (xs : List Token) (gs : List Group) (c : Token) (zs : List Token) → Many remember (LabelGroup m) seen p xs gs
      → c.kind ≡ CloseBrace
      → (byte b : ℕ) → length_on short byte b (xs ++ (c ∷ zs)) ≡ unless_push byte (length_on short 0 b (xs ++ (c ∷ zs)))
  group_first m seen p xs gs c zs none e byte b = not_literal byte b c zs (rw e)
  group_first m seen p xs gs c zs (more {ys = vs} (group {xs = us} t d f w g k) r) e byte b = not_literal byte b t (d ∷ ((us ++ vs) ++ (c ∷ zs))) (rw f)

  -- a Label counts 1, its Colon nothing
  label_length : (b : ℕ) (t d : Token) (ts : List Token) → t.kind ≡ Label → d.kind ≡ Colon → length_on short 0 b (t ∷ d ∷ ts) ≡ length_on short 0 (suc b) ts
  unfolding length_on plain_kind taken_by may_follow own_token_bytes token_bytes opcode_byte
  label_length b t d ts e f = rw (e, f, no_push) (ap (λ (z : ℕ). length_on short 0 z ts) (omega arith))

  -- label groups, up to the brace that ends the body
  groups_length : (m : Rules) (seen : List (List ℕ)) (p : ℕ) (xs : List Token) (gs : List Group) (b : ℕ) (c : Token) (zs : List Token) → Many remember (LabelGroup m) seen p xs gs
      → c.kind ≡ CloseBrace
      → length_on short 0 b (xs ++ (c ∷ zs)) ≡ cond (every has_length (group_instructions gs)) (b + (length gs + total_bytes short (group_instructions gs))) NONE
  unfolding flatten length_on taken_by may_follow every sum
  groups_length m seen p xs gs b c zs none e = rw (e, no_push, add-zero b)
  groups_length m seen p xs gs b c zs (more {ys = vs} {rs = rs} (group {xs = us} {is = is} t d f w g k) r) e =
      let own = instructions (flatten is) in
      label_length b t d ((us ++ vs) ++ (c ∷ zs)) f g
      ∙ ap (length_on short 0 (suc b)) (append_assoc us vs (c ∷ zs))
      ∙ part_length m.push_in_labels (suc (suc p)) us is (suc b) (vs ++ (c ∷ zs)) k (group_first m (t.text ∷ seen) (p + suc (suc (length us))) vs rs c zs r e)
      ∙ ap (λ x. cond (every has_length own) x NONE) (groups_length m (t.text ∷ seen) (p + suc (suc (length us))) vs rs (suc b + total_bytes short own) c zs r e)
      ∙ joined own (group_instructions rs) (suc b) (length rs)
      ∙ ap (λ (x : ℕ). cond (every has_length (own ++ group_instructions rs)) x NONE) (omega arith)

  -- a body's stretch, whatever stands behind it
  body_length : (m : Rules) (p : ℕ) (xs : List Token) (r : Reading) (rest : List Token) → Body m p xs r → length_on short 0 0 (drop 1 (xs ++ rest)) ≡ plain_length short r
  unfolding plain_length body_instructions
  body_length m p xs r rest (body {xs = us} {ys = vs} {is = is} {gs = gs} o c e k g f) =
      let own = instructions (flatten is) in
      rw (append_assoc us (vs ++ (c ∷ [])) rest, append_assoc vs (c ∷ []) rest)
      (part_length true (suc p) us is 0 (vs ++ (c ∷ rest)) k (group_first m [] (suc p + length us) vs gs c rest g f)
      ∙ ap (λ x. cond (every has_length own) x NONE) (groups_length m [] (suc p + length us) vs gs (0 + total_bytes short own) c rest g f)
      ∙ joined own (group_instructions gs) 0 (length gs)
      ∙ rw (zero-add (length gs + total_bytes short (own ++ group_instructions gs))))

  -- The theorem: what `length_from` adds up from the brace at p on is the plain length of the reading there
  pub length_is : (m : Rules) (all : List Token) (p n : ℕ) (r : Reading) → Follows m all p n r → length_from short all p ≡ plain_length short r
  length_is m all p n r h =
      ap (length_on short 0 0) (sym (drop-drop 1 p all ∙ ap (λ k. drop k all) (add-one p)) ∙ ap (drop 1) (sym (take-append-drop n (drop p all))))
      ∙ body_length m p (take n (drop p all)) r (drop n (drop p all)) h.1

-- whether the token at p is an operand, by its kind and its text
pub taken_literal_at : {k : ℕ} {literal : List ℕ} {r : Bool} (source : Source) (byte p : ℕ) → KindAt source.tokens.now source.kept.now p k → k ≡ Literal
    → literal ≡ text_at source.text.now source.tokens.now source.kept.now p → r ≡ not (fits byte literal) → not r ≡ taken_by byte (token_at (all source) p)
unfolding taken_by
taken_literal_at source byte p m e f g =
    let here = kind_here source.text.now source.tokens.now source.kept.now p m in
    rw (g, not-not, f, test_yes here e, view_text source.text.now source.tokens.now source.kept.now p)

pub taken_no_literal : {k : ℕ} (source : Source) (byte p : ℕ) → KindAt source.tokens.now source.kept.now p k → (k ≡ Literal → ⊥) → eqb k Literal ≡ taken_by byte (token_at (all source) p)
unfolding taken_by
taken_no_literal source byte p m e =
    let here = kind_here source.text.now source.tokens.now source.kept.now p m in
    rw (test_no here e, ne_eqb _ _ e)

-- ---- the walk of the code, by what it finds at p

module _ (source : Source) (short : Bool) (start byte b p : ℕ) where
  -- what is left from p on comes to the whole
  abbrev pub LengthLeft : Type 0
  LengthLeft = length_on short byte b (drop p (all source)) ≡ length_from short (all source) start

  module _ (w : LengthLeft) {k : ℕ} (m : KindAt source.tokens.now source.kept.now p k) where
    found : k ≡ (token_at (all source) p).kind
    found = kind_here source.text.now source.tokens.now source.kept.now p m

    -- behind a value push: what is not its operand, an opcode among them, and its operand
    module _ (push : true ≡ is_value_push byte) where
      pub opcode_lacks : k ≡ Opcode → length_from short (all source) start ≡ NONE
      opcode_lacks e = sym w ∙ length_lacks short byte b p (all source) (sym push) (opcode_not_taken byte (token_at (all source) p) (sym found ∙ e))

      pub operand_lacks : false ≡ taken_by byte (token_at (all source) p) → length_from short (all source) start ≡ NONE
      operand_lacks e = sym w ∙ length_lacks short byte b p (all source) (sym push) (sym e)

      pub operand_next : {n : ℕ} → true ≡ taken_by byte (token_at (all source) p) → n ≡ push_size byte
          → (length_on short 0 (b + n) (drop (p + 1) (all source)) ≡ length_from short (all source) start) × (n ≤ 33)
      operand_next e f = (
        rw f (sym (length_taken short byte b p (all source) (sym push) (sym e)) ∙ w),
        omega (arith, f, (yellow_paper_only byte (sym push)).1),
      )

    -- behind any other token
    module _ (plain : false ≡ is_value_push byte) where
      pub opcode_next : {extra : ℕ} → k ≡ Opcode → extra ≡ extra_at source.tokens.now source.kept.now p
          → length_on short extra (b + 1) (drop (p + 1) (all source)) ≡ length_from short (all source) start
      opcode_next e f =
          rw (f ∙ sym (view_extra source.text.now source.tokens.now source.kept.now p))
          (sym (length_opcode short byte b p (all source) (sym plain) (sym found ∙ e)) ∙ w)

      pub brace_ends : k ≡ CloseBrace → length_from short (all source) start ≡ b
      brace_ends e = sym w ∙ length_ends short byte b p (all source) (sym plain) (sym found ∙ e)

      pub other_lacks : (k ≡ CloseBrace → ⊥) → false ≡ plain_kind k → length_from short (all source) start ≡ NONE
      other_lacks e f = sym w ∙ length_none short byte b p (all source) (sym plain) (test_no found e) (rw found at (sym f))

      pub other_next : {n : ℕ} → (k ≡ Opcode → ⊥) → (k ≡ CloseBrace → ⊥) → true ≡ plain_kind k → n ≡ own_token_bytes short (token_at (all source) p)
          → length_on short 0 (b + n) (drop (p + 1) (all source)) ≡ length_from short (all source) start
      other_next o e f g =
          rw g (sym (length_goes short byte b p (all source) (sym plain) (test_no found o) (test_no found e) (rw found at (sym f))) ∙ w)

-- past the last token
pub no_brace_left : (source : Source) (short : Bool) (start byte b p : ℕ) → LengthLeft source short start byte b p → count source ≤ p → length_from short (all source) start ≡ NONE
unfolding length_on
no_brace_left source short start byte b p w h =
    sym w ∙ ap (length_on short byte b) (drop_of_length-le (all source) (omega (arith, h, view_length source.text.now source.tokens.now source.kept.now)))

-- a length that is told: none, or a number that is not the one for none
pub told_none : {long : ℕ} → long ≡ NONE → None ≡ length_told long
told_none e = rw e

pub told_some : {long b : ℕ} → long ≡ b → b < NONE → Some b ≡ length_told long
told_some {long} {b} e h = rw (e, ne_eqb b NONE (λ z. omega arith))
