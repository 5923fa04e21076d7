-- A stretch of statements that was read and written, and stretches one behind the other. Assumes nothing.
use Prim.Native.Nat.{ℕ, ◌+◌, ◌≤◌}
use native.Mathlib.Nat.{add_assoc, add-zero}
use native.Mathlib.Omega.{arith}
use mathlib.Core.Path.{◌≡◌, refl, sym, ap, ◌∙◌}
use mathlib.Core.List.{List, [], ◌++◌}
use lib.ListN.{length}
use Rattle.tokens.specs.Number.{statement_width, argument_width}
use Rattle.tokens.specs.Lent.{put_all}
use Rattle.tokens.proofs.LentLaws.{put_all_append}
use Rattle.grammar.specs.Result.{Why, plain, number, beyond, Res, got, bad}
use Rattle.lists.specs.declared.before.Before.{Before}
use Rattle.statements.specs.declared.item.Progress.{Progress}
use Rattle.std.specs.Prelude.{Result, Ok, Err}
use Rattle.statements.specs.Answers.{progressed, Parsed, ProgressWithin}

-- k tokens from s.at on, up to t: n statements with the records rs, and m arguments with the records qs
pub record Piece (s : Progress) (size k n m : ℕ) (rs qs : List (List ℕ)) (st ar : List ℕ) (t : Progress) (st' ar' : List ℕ) : Type 0 where
  pub is : t ≡ progressed s k n m
  pub statements : st' ≡ put_all statement_width st s.statements rs
  pub arguments : ar' ≡ put_all argument_width ar s.arguments qs
  pub inside : s.at + k ≤ size
  pub few_statements : n ≤ k
  pub few_arguments : m ≤ k

-- nothing was read
pub no_piece : (s : Progress) (size : ℕ) (st ar : List ℕ) → s.at ≤ size → Piece s size 0 0 0 [] [] st ar s st ar
unfolding put_all
no_piece s size st ar h =
    record {
      is = simp add-zero;
      statements = refl;
      arguments = refl;
      inside = omega arith;
      few_statements = omega arith;
      few_arguments = omega arith;
    }

-- one behind the other
pub piece_then : {s t u : Progress} {size k n m k' n' m' : ℕ} {rs qs rs' qs' : List (List ℕ)} {st ar st₁ ar₁ st₂ ar₂ : List ℕ}
    → Piece s size k n m rs qs st ar t st₁ ar₁
    → length rs ≡ n
    → length qs ≡ m
    → Piece t size k' n' m' rs' qs' st₁ ar₁ u st₂ ar₂
    → Piece s size (k + k') (n + n') (m + m') (rs ++ rs') (qs ++ qs') st ar u st₂ ar₂
piece_then {s} {t} {k = k} {n = n} {m = m} {k' = k'} {n' = n'} {m' = m'} {rs = rs} {qs = qs} {rs' = rs'} {qs' = qs'} {st = st} {ar = ar} {st₁ = st₁} {ar₁ = ar₁} v lr lq w =
    let at : t.at ≡ s.at + k = ap (λ (x : Progress). x.at) v.is in
    let first : t.statements ≡ s.statements + length rs = ap (λ (x : Progress). x.statements) v.is ∙ ap (λ (x : ℕ). s.statements + x) (sym lr) in
    let second : t.arguments ≡ s.arguments + length qs = ap (λ (x : Progress). x.arguments) v.is ∙ ap (λ (x : ℕ). s.arguments + x) (sym lq) in
    record {
      is = w.is ∙ ap (λ (x : Progress). progressed x k' n' m') v.is ∙ rw (add_assoc s.at k k', add_assoc s.statements n n', add_assoc s.arguments m m');
      statements = w.statements ∙ ap (λ (x : ℕ). put_all statement_width st₁ x rs') first ∙ ap (λ (l : List ℕ). put_all statement_width l (s.statements + length rs) rs') v.statements ∙ sym (put_all_append 8 st s.statements rs rs');
      arguments = w.arguments ∙ ap (λ (x : ℕ). put_all argument_width ar₁ x qs') second ∙ ap (λ (l : List ℕ). put_all argument_width l (s.arguments + length qs) qs') v.arguments ∙ sym (put_all_append 7 ar s.arguments qs qs');
      inside = omega (arith, w.inside, at);
      few_statements = omega (arith, v.few_statements, w.few_statements);
      few_arguments = omega (arith, v.few_arguments, w.few_arguments);
    }

module _ {A : Type 0} (answer : Progress → Res A → Result Progress (ℕ × ℕ)) (records : ℕ → ℕ → A → List (List ℕ)) (arguments : A → List (List ℕ)) (before : Before) where
  -- a piece is what the parser of such a reading promises
  pub piece_parsed : {s t : Progress} {size k n m : ℕ} {rs qs : List (List ℕ)} {st ar st' ar' : List ℕ} {read : Res A} (x : A)
      → Piece s size k n m rs qs st ar t st' ar'
      → read ≡ got x k
      → answer s (got x k) ≡ Ok (progressed s k n m)
      → records (before.statements + s.statements) (before.arguments + s.arguments) x ≡ rs
      → arguments x ≡ qs
      → Parsed answer records arguments s before size read st ar (Ok t) st' ar'
  piece_parsed {s} {t} {size} {k} {st = st} {ar = ar} {st' = st'} {ar' = ar'} x v e tells first second =
      rw e
      (record {
        is = ap Ok v.is ∙ sym tells;
        statements_hold = v.statements ∙ ap (put_all statement_width st s.statements) (sym first);
        arguments_hold = v.arguments ∙ ap (put_all argument_width ar s.arguments) (sym second);
        within = rw v.is (omega (arith, v.inside), omega (arith, v.inside), omega (arith, v.few_statements), omega (arith, v.few_arguments));
      })

  -- and the other way round
  pub parsed_piece : {s : Progress} {size k n m : ℕ} {st ar st' ar' : List ℕ} {r : Result Progress (ℕ × ℕ)} {x : A}
      → Parsed answer records arguments s before size (got x k) st ar r st' ar'
      → answer s (got x k) ≡ Ok (progressed s k n m)
      → (r ≡ Ok (progressed s k n m)) × Piece s size k n m (records (before.statements + s.statements) (before.arguments + s.arguments) x) (arguments x) st ar (progressed s k n m) st' ar'
  parsed_piece {s} {size} {k} {n} {m} v tells =
      let is : _ ≡ Ok (progressed s k n m) = v.is ∙ tells in
      let h : ProgressWithin s size (Ok (progressed s k n m)) = rw is at v.within in (
        is,
        record {
          is = refl;
          statements = v.statements_hold;
          arguments = v.arguments_hold;
          inside = h.1;
          few_statements = omega (arith, h.2);
          few_arguments = omega (arith, h.3);
        },
      )

  -- a refusal promises nothing but itself
  pub refused_parsed : {s : Progress} {size : ℕ} {told : ℕ × ℕ} {st ar st' ar' : List ℕ} {read : Res A} (y : Why) (p : ℕ)
      → read ≡ bad y p
      → answer s (bad y p) ≡ Err (number y, p + beyond y)
      → told ≡ (number y, p + beyond y)
      → Parsed answer records arguments s before size read st ar (Err told) st' ar'
  refused_parsed y p e tells is = rw (e, is) (record { is = sym tells; statements_hold = tt; arguments_hold = tt; within = tt })

  -- one at its cursor
  pub refused_here : {s : Progress} {size : ℕ} {st ar st' ar' : List ℕ} {read : Res A} (y p : ℕ)
      → read ≡ bad (plain y) p
      → answer s (bad (plain y) p) ≡ Err (y, p + 0)
      → Parsed answer records arguments s before size read st ar (Err (y, p)) st' ar'
  refused_here y p e tells = refused_parsed (plain y) p e tells (ap (λ (q : ℕ). (y, q)) (sym (add-zero p)))
