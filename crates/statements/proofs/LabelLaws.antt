-- The rule on labels' names behind the reading: the cursor that the walk over labels goes up to, and what was read with that rule. Assumes nothing.
use Prim.Native.Nat.{ℕ, ◌≤◌}
use native.Mathlib.Omega.{arith}
use mathlib.Core.Path.{◌≡◌, refl, sym, ap, ◌∙◌}
use mathlib.Core.Bool.{Bool, true, false, cond, true≢false}
use mathlib.Core.List.{List}
use mathlib.Core.Logic.{◌⊎◌, inl, inr}
use lib.ListN.{length, drop}
use lib.Dec.{ltb}
use Rattle.tokens.specs.Number.{DuplicateLabel, most_tokens}
use Rattle.tokens.specs.Token.{Token}
use Rattle.tokens.specs.declared.source.Source.{Source}
use Rattle.tokens.specs.Source.{all, count}
use Rattle.tokens.proofs.TokenLaws.{view_length}
use Rattle.grammar.specs.Reading.{Reading}
use Rattle.grammar.specs.Rules.{asks}
use Rattle.grammar.specs.Result.{Res, got, bad}
use Rattle.grammar.specs.Reader.{body_from}
use Rattle.grammar.specs.Records.{statement_records, argument_records}
use Rattle.grammar.specs.Again.{pushing, first_again, cursor_of, once}
use Rattle.grammar.proofs.NamesOnce.{names_once_lem, cursor_inside}
use Rattle.lists.specs.declared.before.Before.{Before}
use Rattle.statements.specs.declared.item.Progress.{Progress}
use Rattle.std.specs.Prelude.{Result, Ok, Err, ⊤}
use Rattle.std.specs.Result.{result_and}
use Rattle.statements.specs.Answers.{Counting, body_answer, BodyParsed}
use Rattle.statements.specs.Label.{cursor_at, named_before, named_once}
use Rattle.statements.proofs.Pieces.{refused_here}

-- the cursor of an answer is that of what was read
cursor_same : (s : Progress) (x : Res Reading) → cursor_at (body_answer s x) ≡ cursor_of s.at x
cursor_same s (got rd k) = refl
cursor_same s (bad y w) = refl

-- the cursor of a body read without the rule on names lies in the list or at its end
pub parts_end : (strict : Bool) (source : Source) {before : Before} {s : Progress} {st ar st₁ ar₁ : List ℕ} {r : Result Progress (ℕ × ℕ)} → Counting source.tokens.now source.kept.now s before
    → BodyParsed s before (count source) (body_from (pushing strict) s.at (drop s.at (all source))) st ar r st₁ ar₁
    → cursor_at r ≤ most_tokens
parts_end strict source {before} {s} {r = r} g v = go (body_from (pushing strict) s.at (drop s.at (all source))) refl
  where
    same : length (all source) ≡ count source
    same = view_length source.text.now source.tokens.now source.kept.now

    go : (x : Res Reading) → body_from (pushing strict) s.at (drop s.at (all source)) ≡ x → cursor_at r ≤ most_tokens
    go (got rd k) e =
        let is = v.is ∙ ap (body_answer s) e in
        let within = rw is at v.within in
        rw is (omega (arith, within.1, g.list.few))
    go (bad y w) e =
        let inside = cursor_inside (pushing strict) (all source) s.at y w (omega (arith, g.inside, same)) e in
        rw (v.is ∙ ap (body_answer s) e) (omega (arith, inside, same, g.list.few))

-- asked for, a name that stands again is refused
once_parsed : {s : Progress} {before : Before} {size : ℕ} (all : List Token) {st ar st₁ ar₁ : List ℕ} {r : Result Progress (ℕ × ℕ)}
    → BodyParsed s before size (body_from (pushing true) s.at (drop s.at all)) st ar r st₁ ar₁
    → BodyParsed s before size (body_from (asks true) s.at (drop s.at all)) st ar (named_once all s.at r) st₁ ar₁
unfolding once
once_parsed {s} {before} {size} all {st} {ar} {st₁} {ar₁} {r} v =
    rw (names_once_lem true all s.at) (go (ltb (first_again all s.at (cursor_at r)) (cursor_at r)) refl)
  where
    read : Res Reading
    read = body_from (pushing true) s.at (drop s.at all)

    here : cursor_of s.at read ≡ cursor_at r
    here = sym (cursor_same s read) ∙ ap cursor_at (sym v.is)

    go : (b : Bool) → ltb (first_again all s.at (cursor_at r)) (cursor_at r) ≡ b
        → BodyParsed s before size (once all s.at read) st ar (cond b (Err (DuplicateLabel, first_again all s.at (cursor_at r))) r) st₁ ar₁
    go true e =
        refused_here body_answer statement_records argument_records before DuplicateLabel (first_again all s.at (cursor_at r)) (rw (here, e)) refl
    go false e = rw (here, e) v

-- what was read goes on behind the test of names, whatever it was refused with
and_judged : (b : Bool) (at : ℕ) (r : Result Progress (ℕ × ℕ)) → result_and (cond {A = Result ⊤ (ℕ × ℕ)} b (Err (DuplicateLabel, at)) (Ok tt)) r ≡ cond b (Err (DuplicateLabel, at)) r
and_judged true at r = refl
and_judged false at r = refl

pub and_named : (tokens : List Token) (p end : ℕ) (r : Result Progress (ℕ × ℕ)) {n : Result ⊤ (ℕ × ℕ)} → end ≡ cursor_at r → n ≡ named_before tokens p end → result_and n r ≡ named_once tokens p r
and_named tokens p end r e f = rw (f, e) (and_judged (ltb (first_again tokens p (cursor_at r)) (cursor_at r)) (first_again tokens p (cursor_at r)) r)

-- the answer behind the test of names, which is made only in strict reading
pub body_named : (strict : Bool) {s : Progress} {before : Before} {size : ℕ} (all : List Token) {st ar st₁ ar₁ : List ℕ} {r r' : Result Progress (ℕ × ℕ)}
    → BodyParsed s before size (body_from (pushing strict) s.at (drop s.at all)) st ar r st₁ ar₁
    → ((strict ≡ true) × (r' ≡ named_once all s.at r)) ⊎ ((strict ≡ false) × (r' ≡ r))
    → BodyParsed s before size (body_from (asks strict) s.at (drop s.at all)) st ar r' st₁ ar₁
body_named true all v (inl h) = rw h.1 (once_parsed all v)
body_named true all v (inr h) = absurd (true≢false h.0)
body_named false all v (inl h) = absurd (true≢false (sym h.0))
body_named false all v (inr h) = rw h.1 v
