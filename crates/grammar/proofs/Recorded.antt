-- Theorem 3: the records of a reading are as many as counted, each as wide as it should be.
use Prim.Native.Nat.{ℕ, suc, ◌+◌}
use native.Mathlib.Omega.{arith}
use mathlib.Core.Path.{◌≡◌, refl, ap}
use mathlib.Core.List.{List, [], ◌∷◌, map}
use lib.ListN.{length, length-append, length-map}
use Rattle.tokens.specs.Number.{statement_width, argument_width}
use Rattle.grammar.specs.Reading.{Argument, Simple, Group, Reading}
use Rattle.grammar.specs.Records.{argument_record, arguments_of, all_arguments, simple_records, group_records, statement_records, argument_records, group_count, statement_count, argument_count}
use Rattle.grammar.specs.Facts.{All, HasWords}
use Rattle.grammar.proofs.Lists.{all_append}

pub simple_count : (i a : ℕ) (ss : List Simple) → length (simple_records i a ss) ≡ length ss
unfolding simple_records
simple_count i a [] = refl
simple_count i a (s ∷ ss) = ap suc (simple_count (suc i) (a + length s.args) ss)

group_count_lem : (i a : ℕ) (gs : List Group) → length (group_records i a gs) ≡ group_count gs
unfolding group_records group_count
group_count_lem i a [] = refl
group_count_lem i a (g ∷ gs) =
    omega (
      arith,
      length-append (simple_records (suc i) a g.inner) (group_records (suc i + length g.inner) (a + length (arguments_of g.inner)) gs),
      simple_count (suc i) a g.inner,
      group_count_lem (suc i + length g.inner) (a + length (arguments_of g.inner)) gs,
    )

-- Theorem 3: as many as counted
pub as_many : (i a : ℕ) (r : Reading) → (length (statement_records i a r) ≡ statement_count r) × (length (argument_records r) ≡ argument_count r)
unfolding statement_records statement_count argument_records argument_count
as_many i a r = (
  omega (
    arith,
    length-append (simple_records i a r.main) (group_records (i + length r.main) (a + length (arguments_of r.main)) r.groups),
    simple_count i a r.main,
    group_count_lem (i + length r.main) (a + length (arguments_of r.main)) r.groups,
  ),
  length-map (all_arguments r) argument_record,
)

simple_wide : (i a : ℕ) (ss : List Simple) → All (HasWords statement_width) (simple_records i a ss)
unfolding simple_records
simple_wide i a [] = tt
simple_wide i a (s ∷ ss) = (refl, simple_wide (suc i) (a + length s.args) ss)

group_wide : (i a : ℕ) (gs : List Group) → All (HasWords statement_width) (group_records i a gs)
unfolding group_records
group_wide i a [] = tt
group_wide i a (g ∷ gs) = (
  refl,
  all_append (HasWords statement_width) (simple_records (suc i) a g.inner) (group_records (suc i + length g.inner) (a + length (arguments_of g.inner)) gs)
      (simple_wide (suc i) a g.inner)
      (group_wide (suc i + length g.inner) (a + length (arguments_of g.inner)) gs),
)

argument_wide : (bs : List Argument) → All (HasWords argument_width) (map argument_record bs)
argument_wide [] = tt
argument_wide (b ∷ bs) = (refl, argument_wide bs)

-- each as wide as it should be
pub as_wide : (i a : ℕ) (r : Reading) → All (HasWords statement_width) (statement_records i a r) × All (HasWords argument_width) (argument_records r)
unfolding statement_records argument_records
as_wide i a r = (
  all_append (HasWords statement_width) (simple_records i a r.main) (group_records (i + length r.main) (a + length (arguments_of r.main)) r.groups)
      (simple_wide i a r.main)
      (group_wide (i + length r.main) (a + length (arguments_of r.main)) r.groups),
  argument_wide (all_arguments r),
)
