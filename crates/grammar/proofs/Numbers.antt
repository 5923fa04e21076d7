-- The numbers of a reading's refusals lie below those of the door and of the room, so that what a call leaves is told by its number; and what the last two
-- numbers of an answer tell.
use Prim.Native.Nat.{ℕ, ◌<◌}
use native.Mathlib.Omega.{arith}
use mathlib.Core.Path.{◌≡◌, refl}
use mathlib.Core.Bool.{Bool, true, false, ◌&&◌, false≢true}
use mathlib.Core.List.{List, []}
use lib.ListN.{length}
use lib.Dec.{eqb, leb}
use borrow.Author.Tests.{eqb-true, leb-true, eq-eqb, ne_eqb}
use Rattle.tokens.specs.Number.{InvalidTypeAsArgumentName, NotWellFormed}
use Rattle.tokens.specs.Token.{Token}
use Rattle.tokens.specs.Name.{type_told}
use Rattle.grammar.specs.Rules.{Rules}
use Rattle.grammar.specs.Result.{refused}
use Rattle.grammar.specs.Reader.{body_at}
use Rattle.grammar.specs.FileReader.{file_at}
use Rattle.grammar.specs.FileFollows.{is_definition_number}
use Rattle.grammar.specs.Call.{ReadingNumber, acceptance, refusal, refusal_at, TellsType, filled, turned_away, held_after}
use Rattle.grammar.proofs.FileHolds.{either, body_is_inner}
use Rattle.grammar.proofs.Demand.{known_numbers}
use Rattle.grammar.proofs.FileDemand.{file_numbers_lem}

definition_ours : (m : Rules) (c : ℕ) → is_definition_number m c ≡ true → ReadingNumber c
definition_ours m c = either _ (m.names_once && eqb c 22) (between (leb 1 c) (leb c 13) refl refl) (λ h. one_of c 22 (omega arith) (omega arith) (right m.names_once h))
  where
    right : (a : Bool) {b : Bool} → (a && b) ≡ true → b ≡ true
    right true h = h
    right false h = absurd (false≢true h)

    one_of : (c k : ℕ) → 0 < k → k < NotWellFormed → eqb c k ≡ true → ReadingNumber c
    one_of c k h l e = rw (eqb-true c k e) (h, l)

    between : (a b : Bool) → leb 1 c ≡ a → leb c 13 ≡ b → (a && b) ≡ true → ReadingNumber c
    between true true e f h = (omega (arith, leb-true 1 c e), omega (arith, leb-true c 13 f))
    between true false e f h = absurd (false≢true h)
    between false b e f h = absurd (false≢true h)

pub body_ours : (m : Rules) (kept : List Token) (p c q : ℕ) → body_at m kept p ≡ refused c q → ReadingNumber c
body_ours m kept p c q e = definition_ours m c (body_is_inner m c (known_numbers m kept p c q e))

pub file_ours : (m : Rules) (names : Bool) (kept : List Token) (c q : ℕ) → file_at m names kept ≡ refused c q → ReadingNumber c
file_ours m names kept c q e =
    either _ (eqb c 20) (either (is_definition_number m c) (eqb c 21) (definition_ours m c) (λ h. rw (eqb-true c 21 h) (omega arith))) (λ h. rw (eqb-true c 20 h) (omega arith))
    (file_numbers_lem m names kept c q e)

-- none of them is one of a call that is turned away
pub ours_reads : (c : ℕ) → ReadingNumber c → turned_away c ≡ false
ours_reads c h =
    rw (ne_eqb c 30 (λ e. omega (arith, h.1)), ne_eqb c 31 (λ e. omega (arith, h.1)), ne_eqb c 35 (λ e. omega (arith, h.1)), ne_eqb c 36 (λ e. omega (arith, h.1)), ne_eqb c 38 (λ e. omega (arith, h.1)))

-- after such a refusal a table holds zeros
pub held_refused : (c : ℕ) (rs : List (List ℕ)) (lent : List ℕ) → ReadingNumber c → held_after c rs lent ≡ filled (length lent) []
unfolding held_after
held_refused c rs lent h = rw (ours_reads c h, ne_eqb c 0 (λ e. omega (arith, h.0)))

-- ---- the last two numbers

module _ (kept : List Token) where
  pub tells_accepted : (cursor first second third : ℕ) → TellsType kept (acceptance cursor first second third)
  tells_accepted cursor first second third = record { for7 = λ e. absurd (omega arith); otherwise = λ n. (refl, refl) }

  pub tells_none : (c q : ℕ) → ¬ (c ≡ InvalidTypeAsArgumentName) → TellsType kept (refusal c q)
  tells_none c q other = record { for7 = λ e. absurd (other e); otherwise = λ n. (refl, refl) }

  pub tells_at : (c q : ℕ) → TellsType kept (refusal_at kept c q)
  unfolding type_told
  tells_at c q = record { for7 = λ e. rw (eq-eqb c InvalidTypeAsArgumentName e); otherwise = λ n. rw (ne_eqb c InvalidTypeAsArgumentName n) (refl, refl) }
