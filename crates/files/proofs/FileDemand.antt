-- Demand 3 for a file, about `read_file`'s own promise, once for both modes: for a well-formed list and room, a file is accepted exactly if the tokens before Eof follow the
-- grammar with the rule on names; that reading is the only one, and the records are it. Assumes nothing.
use Prim.Native.Nat.{ℕ, ◌/◌, ◌≤◌, ◌<◌}
use native.Mathlib.Omega.{arith}
use mathlib.Core.Path.{◌≡◌, ap}
use mathlib.Core.Logic.{◌↔◌}
use mathlib.Core.Bool.{true}
use mathlib.Core.List.{List}
use lib.ListN.{length, get_or}
use Rattle.tokens.specs.Number.{definition_width, statement_width, argument_width}
use Rattle.tokens.specs.Kept.{kept_of, kept_tokens, kept_positions}
use Rattle.tokens.specs.WellFormed.{WellFormed}
use Rattle.tokens.proofs.TokenLaws.{view_length}
use Rattle.grammar.specs.Rules.{is_mode, rules_of}
use Rattle.grammar.specs.Result.{read}
use Rattle.grammar.specs.FileReading.{Definition}
use Rattle.grammar.specs.FileRecords.{file_arguments, file_statement_count}
use Rattle.grammar.specs.FileTables.{StatementsOf}
use Rattle.grammar.specs.FileCases.{file_outcome}
use Rattle.grammar.proofs.FileDemand.{file_exactly, file_only_one}
use Rattle.grammar.proofs.FileRecorded.{file_as_many}
use Rattle.grammar.proofs.FileBounds.{file_bounded}
use Rattle.std.specs.Prelude.{Result}
use Rattle.files.specs.declared.file.FileRead.{FileRead}
use Rattle.files.specs.declared.entry.FileError.{FileError}
use Rattle.files.specs.Call.{number_of, file_reading, FileCall}
use Rattle.files.proofs.Called.{IsFile, Room, Holding, accepted, with_room, file_call_ranges}

module _ {mode : ℕ} {text words kept definitions statements arguments : List ℕ} {r : Result FileRead FileError} {kept' definitions' statements' arguments' : List ℕ}
    (call : FileCall mode text words kept definitions statements arguments r kept' definitions' statements' arguments') where
  -- what demand 3 says of a file that ends at n: no other reading; answer and tables are those of this one; the ranges of each macro's statements and of each
  -- table's entries cover the tokens between its braces, and no label holds a label
  pub record TheOne (n : ℕ) (ds : List Definition) : Type 0 where
    pub only : (n' : ℕ) (ds' : List Definition) → IsFile mode text words n' ds' → (n ≡ n') × (ds ≡ ds')
    pub holds : Holding call n ds
    pub covers : (d : ℕ) → d < length ds → StatementsOf (kept_tokens text words) definitions' statements' d

  -- a file, where there is such a mode, the list is well formed, the kept list long enough, and there is room for the reading's records
  pub the_one : is_mode mode ≡ true → WellFormed text words → length (kept_of words) ≤ length kept
      → (n : ℕ) (ds : List Definition) → IsFile mode text words n ds → Room definitions statements arguments ds
      → TheOne n ds
  the_one known formed enough n ds f room =
      let pos = kept_positions words in
      let e : file_reading mode text words ≡ read ds n = (file_exactly (rules_of mode) true (kept_tokens text words) n ds).1 f in
      let many = file_as_many pos 0 0 ds in
      let told = with_room known formed enough (file_outcome (kept_tokens text words) pos (read ds n)) (ap (file_outcome (kept_tokens text words) pos) e) (rw many.0 room.for_definitions) (rw many.1 room.for_statements) (rw many.2 room.for_arguments) call in
      record {
        only = λ n' ds' f'. file_only_one (rules_of mode) true (kept_tokens text words) n n' ds ds' f f';
        holds = record { answer = told.answer; definitions_hold = told.definitions_hold; statements_hold = told.statements_hold; arguments_hold = told.arguments_hold };
        covers = file_call_ranges call n (length ds) (file_statement_count ds) (length (file_arguments ds)) told.answer;
      }

  -- accepted exactly if there is such a mode, the list is well formed, the kept list long enough, the tokens before Eof follow the grammar with the rule on names, and the tables have
  -- room for the reading's records
  pub accepted_exactly : (number_of r ≡ 0)
      ↔ ((is_mode mode ≡ true) × WellFormed text words × (length (kept_of words) ≤ length kept) × ((n : ℕ) × (ds : List Definition) × IsFile mode text words n ds × Room definitions statements arguments ds))
  accepted_exactly = (
    (λ z. let a = accepted call z in (a.through.known, a.through.list.formed, a.through.list.room_enough, (a.n, a.ds, a.follows, a.room))),
    (λ f. ap (λ (v : List ℕ). get_or v 0 0) (the_one f.0 f.1 f.2 f.3.0 f.3.1 f.3.2 f.3.3).holds.answer),
  )

  -- demand 3 of a file, in either mode, for a well-formed list, with room for the kept tokens and for what is read: accepted exactly if the tokens follow the grammar; and then it is
  -- the one
  pub file_demand_3 : is_mode mode ≡ true → WellFormed text words → length (kept_of words) ≤ length kept
      → ((n : ℕ) (ds : List Definition) → IsFile mode text words n ds → Room definitions statements arguments ds)
      → ((number_of r ≡ 0) ↔ ((n : ℕ) × (ds : List Definition) × IsFile mode text words n ds)) × ((n : ℕ) (ds : List Definition) → IsFile mode text words n ds → TheOne n ds)
  file_demand_3 known formed enough room = (
    (
      (λ z. let f = accepted_exactly.0 z in (f.3.0, f.3.1, f.3.2)),
      (λ f. accepted_exactly.1 (known, formed, enough, (f.0, f.1, f.2, room f.0 f.1 f.2))),
    ),
    (λ n ds f. the_one known formed enough n ds f (room n ds f)),
  )

  -- a record's room in each table for each kept token is always enough
  pub always_room : length (kept_of words) ≤ length definitions / definition_width
      → length (kept_of words) ≤ length statements / statement_width
      → length (kept_of words) ≤ length arguments / argument_width
      → (n : ℕ) (ds : List Definition) → IsFile mode text words n ds → Room definitions statements arguments ds
  always_room hd hs ha n ds f =
      let few = file_bounded (rules_of mode) true (kept_tokens text words) n ds f in
      let all = view_length text words (kept_of words) in
      let inside = f.0 in
      record { for_definitions = omega (arith, few.0); for_statements = omega (arith, few.1); for_arguments = omega (arith, few.2) }
