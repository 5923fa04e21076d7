-- Demand 3, about `read_body`'s own promise, once for both modes and both editions: for a well-formed list and room, a body is accepted exactly if some stretch from its start
-- follows the grammar; that stretch and its reading are the only ones; the records are that reading, and their ranges cover its tokens. Assumes nothing.
use Prim.Native.Nat.{ℕ, suc, ◌+◌, ◌-◌, ◌/◌, ◌≤◌, ◌<◌}
use native.Mathlib.Omega.{arith}
use mathlib.Core.Path.{◌≡◌, ap}
use mathlib.Core.Logic.{◌↔◌}
use mathlib.Core.List.{List}
use lib.ListN.{length, get_or, take, drop, length-drop}
use lib.Seq.{length-take-le}
use Rattle.tokens.specs.Number.{statement_width, argument_width}
use Rattle.tokens.specs.Kept.{kept_of, kept_tokens}
use Rattle.tokens.specs.WellFormed.{WellFormed}
use Rattle.tokens.proofs.TokenLaws.{view_length}
use Rattle.grammar.specs.Reading.{Reading}
use Rattle.grammar.specs.Rules.{rules_of}
use Rattle.grammar.specs.Result.{read}
use Rattle.grammar.specs.Follows.{Follows}
use Rattle.grammar.specs.Records.{statement_count, argument_count}
use Rattle.grammar.specs.PlainLength.{short_zeros, plain_length}
use Rattle.grammar.specs.Cases.{outcome}
use Rattle.grammar.specs.Tables.{Walk}
use Rattle.grammar.proofs.Demand.{body_exactly, body_some, only_one}
use Rattle.grammar.proofs.Recorded.{as_many}
use Rattle.std.specs.Prelude.{Result}
use Rattle.statements.specs.declared.entry.BodyRead.{BodyRead}
use Rattle.statements.specs.declared.entry.BodyError.{BodyError}
use Rattle.statements.specs.Call.{number_of, reading_at, BodyCall}
use Rattle.grammar.proofs.FileBounds.{follows_fits}
use Rattle.statements.proofs.Called.{Room, Named, Holding, accepted, with_room, call_ranges}

module _ {mode edition : ℕ} {text words : List ℕ} {start : ℕ} {kept statements arguments : List ℕ} {r : Result BodyRead BodyError} {kept' statements' arguments' : List ℕ}
    (call : BodyCall mode edition text words start kept statements arguments r kept' statements' arguments') where
  -- the n tokens from the start follow the grammar by the mode's rules and read rd
  abbrev pub Stretch : ℕ → Reading → Type 0
  Stretch n rd = Follows (rules_of mode) (kept_tokens text words) start n rd

  -- what demand 3 says of such a stretch: no other follows the grammar, and it reads nothing else; answer and tables are those of this reading; the ranges
  -- of the statement table's records cover the tokens between the braces, and no label holds a label
  pub record TheOne (n : ℕ) (rd : Reading) : Type 0 where
    pub only : (n' : ℕ) (rd' : Reading) → Stretch n' rd' → (n ≡ n') × (rd ≡ rd')
    pub holds : Holding call n rd
    pub covers : Walk statements' 0 (suc start) (statement_count rd) (start + n - 1)

  -- a stretch, where mode and edition are among those named, the list is well formed, the kept list long enough, and there is room for the reading's records
  pub the_one : Named mode edition → WellFormed text words → length (kept_of words) ≤ length kept
      → (n : ℕ) (rd : Reading) → Stretch n rd → Room statements arguments rd
      → TheOne n rd
  the_one named formed enough n rd f room =
      let e : reading_at mode text words start ≡ read rd n = (body_exactly (rules_of mode) (kept_tokens text words) start n rd).1 f in
      let many = as_many 0 0 rd in
      let some = body_some (rules_of mode) start (take n (drop start (kept_tokens text words))) rd f.1 in
      let inside : start < length (kept_of words) = omega (arith, f.0, some, length-take-le n (drop start (kept_tokens text words)) (omega (arith, length-drop start (kept_tokens text words), f.0)), view_length text words (kept_of words)) in
      let told = with_room named formed inside enough (outcome (kept_tokens text words) edition start (read rd n)) (ap (outcome (kept_tokens text words) edition start) e) (rw many.0 room.for_statements) (rw many.1 room.for_arguments) call in
      record {
        only = λ n' rd' f'. only_one (rules_of mode) (kept_tokens text words) start n n' rd rd' f f';
        holds = record { answer = told.answer; statements_hold = told.statements_hold; arguments_hold = told.arguments_hold };
        covers = call_ranges call (start + n) (statement_count rd) (argument_count rd) (plain_length (short_zeros edition) rd) told.answer;
      }

  -- accepted exactly if mode and edition are among those named, the list is well formed, the kept list long enough, some stretch follows the grammar, and the tables have room for its reading's records
  pub accepted_exactly : (number_of r ≡ 0) ↔ (Named mode edition × WellFormed text words × (length (kept_of words) ≤ length kept) × ((n : ℕ) × (rd : Reading) × Stretch n rd × Room statements arguments rd))
  accepted_exactly = (
    (λ z. let a = accepted call z in (a.through.known, a.through.list.formed, a.through.list.room_enough, (a.n, a.rd, a.follows, a.room))),
    (λ f. ap (λ (v : List ℕ). get_or v 0 0) (the_one f.0 f.1 f.2 f.3.0 f.3.1 f.3.2 f.3.3).holds.answer),
  )

  -- demand 3, in either mode and edition, for a well-formed list, with room for the kept tokens and for what is read: accepted exactly if some stretch follows the grammar; and then it is the one
  pub demand_3 : Named mode edition → WellFormed text words → length (kept_of words) ≤ length kept
      → ((n : ℕ) (rd : Reading) → Stretch n rd → Room statements arguments rd)
      → ((number_of r ≡ 0) ↔ ((n : ℕ) × (rd : Reading) × Stretch n rd)) × ((n : ℕ) (rd : Reading) → Stretch n rd → TheOne n rd)
  demand_3 named formed enough room = (
    (
      (λ z. let f = accepted_exactly.0 z in (f.3.0, f.3.1, f.3.2)),
      (λ f. accepted_exactly.1 (named, formed, enough, (f.0, f.1, f.2, room f.0 f.1 f.2))),
    ),
    (λ n rd f. the_one named formed enough n rd f (room n rd f)),
  )

  -- a record's room in both tables for each kept token is always enough
  pub always_room : length (kept_of words) ≤ length statements / statement_width → length (kept_of words) ≤ length arguments / argument_width
      → (n : ℕ) (rd : Reading) → Stretch n rd → Room statements arguments rd
  always_room hs ha n rd f =
      let few = follows_fits (rules_of mode) (kept_tokens text words) start n rd f in
      let all = view_length text words (kept_of words) in
      record { for_statements = omega (arith, few.0); for_arguments = omega (arith, few.1) }
