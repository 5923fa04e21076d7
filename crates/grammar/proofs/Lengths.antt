-- On the plain length. NONE is no body's length by chance: what the instructions of a body come to is far below it, in either edition. And by how much the two editions differ. Assumes
-- nothing.
use Prim.Native.Nat.{ℕ, suc, ◌+◌, ◌*◌, ◌≤◌}
use native.Mathlib.Nat.{zero-add, add_assoc}
use native.Mathlib.Omega.{arith}
use mathlib.Core.Path.{◌≡◌, refl, ap, ◌∙◌}
use mathlib.Core.Logic.{◌↔◌}
use mathlib.Core.Bool.{Bool, true, false, cond, ◌&&◌, and-true, and-false, true≢false}
use mathlib.Core.List.{List, [], ◌∷◌, ◌++◌, map, map-append, flatten, sum, sum-append, zip_with}
use borrow.Author.Tests.{eqb-true}
use lib.Dec.{eqb}
use lib.ListN.{length}
use Rattle.tokens.specs.Number.{most_tokens, literal_type, first_edition, second_edition}
use Rattle.tokens.specs.Token.{Token}
use Rattle.tokens.specs.Push.{push_size}
use Rattle.tokens.specs.Literal.{literal_value, is_zero, significant}
use Rattle.tokens.proofs.LiteralLaws.{significant_between, significant_zero, yellow_paper_only}
use Rattle.grammar.specs.Reading.{NONE, Sort, a_literal, an_opcode, a_label_call, an_invocation, a_constant, an_argument_call, a_builtin, Simple, Group, Reading}
use Rattle.grammar.specs.Records.{type_of, group_count, statement_count}
use Rattle.grammar.specs.Rules.{Rules}
use Rattle.grammar.specs.Follows.{Follows}
use Rattle.grammar.specs.PlainLength.{short_zeros, is_operand, Instruction, instructions, group_instructions, body_instructions, literal_bytes, own_bytes, instruction_bytes, total_bytes, has_length, every, plain_length, zero_literal, one, free_zeros, body_free_zeros}
use Rattle.grammar.proofs.Operands.{is_a_lem, operand_says}
use Rattle.grammar.proofs.FileBounds.{follows_fits}

module _ (short : Bool) where
  -- one part behind another
  pub total_append : (u v : List Instruction) → total_bytes short (u ++ v) ≡ total_bytes short u + total_bytes short v
  total_append u v =
      ap (sum ◌+◌ 0) (map-append (instruction_bytes short) u v)
      ∙ sum-append ◌+◌ 0 zero-add add_assoc (map (instruction_bytes short) u) (map (instruction_bytes short) v)

  -- the most that a statement counts: 1 plus a literal's 32 bytes
  abbrev most : ℕ
  most = 33

  pub literal_most : (t : Token) → literal_bytes short t ≤ most
  literal_most t = by (is_zero t.text && short)
    where
      by : (b : Bool) → cond b 1 (suc (significant (literal_value t.text))) ≤ most
      by true = omega arith
      by false = omega (arith, (significant_between (literal_value t.text)).1)

  own_most : (sort : Sort) (t : Token) → own_bytes short sort t ≤ most
  own_most a_literal t = literal_most t
  own_most an_opcode t = omega arith
  own_most a_label_call t = omega arith
  own_most an_invocation t = omega arith
  own_most a_constant t = omega arith
  own_most an_argument_call t = omega arith
  own_most a_builtin t = omega arith

  -- a push that has an operand takes at most 32 bytes
  operand_most : (s l : Simple) → is_operand s l ≡ true → push_size s.token.extra ≤ most
  operand_most s l e = omega (arith, (yellow_paper_only s.token.extra (operand_says s l e).1).1)

  -- a part counts at most so many for each of its statements
  part_most : (ss : List Simple) → total_bytes short (instructions ss) ≤ most * length ss
  unfolding instructions sum
  part_most [] = omega arith
  part_most (s ∷ []) = omega (arith, own_most s.sort s.token)
  part_most (s ∷ l ∷ ss) = by (is_operand s l) refl (part_most ss) (part_most (l ∷ ss))
    where
      by : (o : Bool) → is_operand s l ≡ o → total_bytes short (instructions ss) ≤ most * length ss → total_bytes short (instructions (l ∷ ss)) ≤ most * suc (length ss)
          → total_bytes short (instructions (s ∷ l ∷ ss)) ≤ most * suc (suc (length ss))
      by true e h k = rw e (omega (arith, own_most s.sort s.token, operand_most s l e, h))
      by false e h k = rw e (omega (arith, own_most s.sort s.token, k))

  -- labels, each with its own byte
  groups_most : (gs : List Group) → length gs + total_bytes short (group_instructions gs) ≤ most * group_count gs
  unfolding group_count flatten sum
  groups_most [] = omega arith
  groups_most (g ∷ gs) = omega (arith, total_append (instructions g.inner) (group_instructions gs), part_most g.inner, groups_most gs)

  body_most : (r : Reading) → length r.groups + total_bytes short (body_instructions r) ≤ most * statement_count r
  unfolding body_instructions statement_count
  body_most r = omega (arith, total_append (instructions r.main) (group_instructions r.groups), part_most r.main, groups_most r.groups)

  -- The theorem: in a list of no more tokens than are let through, a body has NONE exactly if one of its instructions has no length
  pub none_exactly : (m : Rules) (kept : List Token) (p n : ℕ) (r : Reading) → length kept ≤ most_tokens → Follows m kept p n r
      → (plain_length short r ≡ NONE) ↔ (every has_length (body_instructions r) ≡ false)
  unfolding plain_length
  none_exactly m kept p n r few f = by (every has_length (body_instructions r))
    where
      by : (u : Bool) → (cond u (length r.groups + total_bytes short (body_instructions r)) NONE ≡ NONE) ↔ (u ≡ false)
      by true = ((λ e. absurd (omega (arith, e, few, body_most r, (follows_fits m kept p n r f).0))), (λ e. absurd (true≢false e)))
      by false = ((λ e. refl), (λ e. refl))

-- ---- the two editions

-- what a statement counts by itself, in edition 1 (`false`) and in edition 2 (`true`)
own_differ : (s : Simple) → own_bytes false s.sort s.token ≡ own_bytes true s.sort s.token + one (zero_literal s)
own_differ s = by s.sort s.token
  where
    zero_test : (t : Token) (b : Bool) → is_zero t.text ≡ b
        → cond (b && false) 1 (suc (significant (literal_value t.text))) ≡ cond (b && true) 1 (suc (significant (literal_value t.text))) + one b
    zero_test t true e = rw (eqb-true (literal_value t.text) 0 e) (rw significant_zero)
    zero_test t false e = omega arith

    by : (sort : Sort) (t : Token) → own_bytes false sort t ≡ own_bytes true sort t + one (eqb (type_of sort) literal_type && is_zero t.text)
    by a_literal t = zero_test t (is_zero t.text) refl
    by an_opcode t = refl
    by a_label_call t = refl
    by an_invocation t = refl
    by a_constant t = refl
    by an_argument_call t = refl
    by a_builtin t = refl

-- nothing, and one statement
zeros_none : 0 ≡ free_zeros []
unfolding free_zeros sum zip_with
zeros_none = refl

zeros_one : (s : Simple) → free_zeros (s ∷ []) ≡ one (zero_literal s)
unfolding free_zeros sum zip_with
zeros_one s = omega arith

-- behind what does not take it as its operand, a statement is as the first of its part
zeros_behind : (s l : Simple) (ss : List Simple) → is_operand s l ≡ false → free_zeros (s ∷ l ∷ ss) ≡ one (zero_literal s) + free_zeros (l ∷ ss)
unfolding free_zeros sum zip_with
zeros_behind s l ss e = rw (e, and-true (zero_literal l)) (omega arith)

-- an operand is none, and takes none itself
zeros_taken : (s l : Simple) (ss : List Simple) → is_operand s l ≡ true → free_zeros (s ∷ l ∷ ss) ≡ one (zero_literal s) + free_zeros ss
unfolding free_zeros sum zip_with
zeros_taken s l [] e = rw (e, and-false (zero_literal l)) (omega arith)
zeros_taken s l (x ∷ ss) e = rw (e, and-false (zero_literal l), is_a_lem a_literal l (operand_says s l e).2, and-true (zero_literal x)) (omega arith)

-- a part, instruction by instruction and zero by zero
part_differs : (ss : List Simple) → total_bytes false (instructions ss) ≡ total_bytes true (instructions ss) + free_zeros ss
unfolding instructions sum
part_differs [] = omega (arith, zeros_none)
part_differs (s ∷ []) = omega (arith, own_differ s, zeros_one s)
part_differs (s ∷ l ∷ ss) = by (is_operand s l) refl (part_differs ss) (part_differs (l ∷ ss))
  where
    by : (o : Bool) → is_operand s l ≡ o
        → total_bytes false (instructions ss) ≡ total_bytes true (instructions ss) + free_zeros ss
        → total_bytes false (instructions (l ∷ ss)) ≡ total_bytes true (instructions (l ∷ ss)) + free_zeros (l ∷ ss)
        → total_bytes false (instructions (s ∷ l ∷ ss)) ≡ total_bytes true (instructions (s ∷ l ∷ ss)) + free_zeros (s ∷ l ∷ ss)
    by true e h k = rw e (omega (arith, own_differ s, zeros_taken s l ss e, h))
    by false e h k = rw e (omega (arith, own_differ s, zeros_behind s l ss e, k))

-- labels, one by one
groups_differ : (gs : List Group) → total_bytes false (group_instructions gs) ≡ total_bytes true (group_instructions gs) + sum ◌+◌ 0 (map (λ (g : Group). free_zeros g.inner) gs)
unfolding flatten sum
groups_differ [] = refl
groups_differ (g ∷ gs) =
    omega (
      arith,
      total_append false (instructions g.inner) (group_instructions gs),
      total_append true (instructions g.inner) (group_instructions gs),
      part_differs g.inner,
      groups_differ gs,
    )

body_differs : (r : Reading) → total_bytes false (body_instructions r) ≡ total_bytes true (body_instructions r) + body_free_zeros r
unfolding body_instructions body_free_zeros
body_differs r =
    omega (
      arith,
      total_append false (instructions r.main) (group_instructions r.groups),
      total_append true (instructions r.main) (group_instructions r.groups),
      part_differs r.main,
      groups_differ r.groups,
    )

-- The theorem: the lengths of a body that has one differ by exactly the number of its zero literals that are no push's operand
pub editions_differ : (r : Reading) → ¬ (plain_length (short_zeros first_edition) r ≡ NONE)
    → plain_length (short_zeros first_edition) r ≡ plain_length (short_zeros second_edition) r + body_free_zeros r
unfolding plain_length
editions_differ r some = by (every has_length (body_instructions r)) refl
  where
    by : (u : Bool) → every has_length (body_instructions r) ≡ u
        → cond u (length r.groups + total_bytes false (body_instructions r)) NONE ≡ cond u (length r.groups + total_bytes true (body_instructions r)) NONE + body_free_zeros r
    by true e = omega (arith, body_differs r)
    by false e = absurd (some (rw e))

-- and in a list of no more tokens than are let through, a body has none under one edition exactly if it has none under the other
pub none_alike : (m : Rules) (kept : List Token) (p n : ℕ) (r : Reading) → length kept ≤ most_tokens → Follows m kept p n r
    → (plain_length (short_zeros first_edition) r ≡ NONE) ↔ (plain_length (short_zeros second_edition) r ≡ NONE)
none_alike m kept p n r few f =
    let first = none_exactly (short_zeros first_edition) m kept p n r few f in
    let second = none_exactly (short_zeros second_edition) m kept p n r few f in
    ((λ e. second.1 (first.0 e)), (λ e. first.1 (second.0 e)))
