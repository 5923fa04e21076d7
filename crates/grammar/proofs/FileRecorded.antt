-- Theorem 2 of files: the records of a file are as many as counted, each as wide as it should be.
use Prim.Native.Nat.{ℕ, suc, ◌+◌}
use native.Mathlib.Omega.{arith}
use mathlib.Core.Path.{◌≡◌, refl, ap}
use mathlib.Core.List.{List, [], ◌∷◌, map}
use lib.ListN.{length, get_or, length-append, length-map}
use Rattle.tokens.specs.Token.{Positions}
use Rattle.tokens.specs.Number.{definition_width, statement_width, argument_width}
use Rattle.grammar.specs.Reading.{Argument}
use Rattle.grammar.specs.Records.{argument_record}
use Rattle.grammar.specs.Facts.{All, HasWords}
use Rattle.grammar.specs.FileReading.{literal_at, pointer_at, TableSort, TableEntry, Form, an_import, a_function, an_event, a_defined_constant, an_error, a_macro, a_table, Definition}
use Rattle.grammar.specs.FileRecords.{form_arguments, entry_records, form_count, form_statements, form_words, behind_declared, text_range, definition_record, definition_records, file_statements, file_arguments, file_argument_records, file_statement_count}
use Rattle.grammar.proofs.Lists.{all_append}
use Rattle.grammar.proofs.Recorded.{as_many, as_wide}

entries_many : (sort : TableSort) (i a : ℕ) (es : List TableEntry) → length (entry_records sort i a es) ≡ length es
unfolding entry_records
entries_many sort i a [] = refl
entries_many sort i a (e ∷ es) = ap suc (entries_many sort (suc i) a es)

pub form_many : (i a : ℕ) (f : Form) → length (form_statements i a f) ≡ form_count f
unfolding form_statements form_count
form_many i a an_import = refl
form_many i a (a_function ins ty outs) = refl
form_many i a (an_event args) = refl
form_many i a (a_defined_constant v) = refl
form_many i a (an_error args) = refl
form_many i a (a_macro sort args tk rt r) = (as_many i a r).0
form_many i a (a_table sort es) = entries_many sort i a es

definitions_many_lem : (pos : Positions) (i a : ℕ) (ds : List Definition) → length (definition_records pos i a ds) ≡ length ds
unfolding definition_records
definitions_many_lem pos i a [] = refl
definitions_many_lem pos i a (d ∷ ds) = ap suc (definitions_many_lem pos (i + form_count d.form) (a + length (form_arguments d.form)) ds)

statements_many_lem : (i a : ℕ) (ds : List Definition) → length (file_statements i a ds) ≡ file_statement_count ds
unfolding file_statements file_statement_count
statements_many_lem i a [] = refl
statements_many_lem i a (d ∷ ds) =
    omega (
      arith,
      length-append (form_statements i (behind_declared a d.form) d.form) (file_statements (i + form_count d.form) (a + length (form_arguments d.form)) ds),
      form_many i (behind_declared a d.form) d.form,
      statements_many_lem (i + form_count d.form) (a + length (form_arguments d.form)) ds,
    )

-- as many as counted
pub file_as_many : (pos : Positions) (i a : ℕ) (ds : List Definition)
    → (length (definition_records pos i a ds) ≡ length ds) × (length (file_statements i a ds) ≡ file_statement_count ds) × (length (file_argument_records ds) ≡ length (file_arguments ds))
unfolding file_argument_records
file_as_many pos i a ds = (definitions_many_lem pos i a ds, statements_many_lem i a ds, length-map (file_arguments ds) argument_record)

-- A and B are two words
pub two_words : (f : Form) → form_words f ≡ get_or (form_words f) 0 0 ∷ get_or (form_words f) 1 0 ∷ []
two_words an_import = refl
two_words (a_function ins ty outs) = refl
two_words (an_event args) = refl
two_words (a_defined_constant (literal_at p)) = refl
two_words (a_defined_constant (pointer_at p)) = refl
two_words (an_error args) = refl
two_words (a_macro sort args tk rt r) = refl
two_words (a_table sort es) = refl

definitions_wide : (pos : Positions) (i a : ℕ) (ds : List Definition) → All (HasWords definition_width) (definition_records pos i a ds)
unfolding definition_records definition_record
definitions_wide pos i a [] = tt
definitions_wide pos i a (d ∷ ds) = (
  omega (arith, ap length (two_words d.form), length-append (form_words d.form) (text_range pos d)),
  definitions_wide pos (i + form_count d.form) (a + length (form_arguments d.form)) ds,
)

entries_wide : (sort : TableSort) (i a : ℕ) (es : List TableEntry) → All (HasWords statement_width) (entry_records sort i a es)
unfolding entry_records
entries_wide sort i a [] = tt
entries_wide sort i a (e ∷ es) = (refl, entries_wide sort (suc i) a es)

form_wide : (i a : ℕ) (f : Form) → All (HasWords statement_width) (form_statements i a f)
unfolding form_statements
form_wide i a an_import = tt
form_wide i a (a_function ins ty outs) = tt
form_wide i a (an_event args) = tt
form_wide i a (a_defined_constant v) = tt
form_wide i a (an_error args) = tt
form_wide i a (a_macro sort args tk rt r) = (as_wide i a r).0
form_wide i a (a_table sort es) = entries_wide sort i a es

statements_wide : (i a : ℕ) (ds : List Definition) → All (HasWords statement_width) (file_statements i a ds)
unfolding file_statements
statements_wide i a [] = tt
statements_wide i a (d ∷ ds) =
    all_append (HasWords statement_width) (form_statements i (behind_declared a d.form) d.form) (file_statements (i + form_count d.form) (a + length (form_arguments d.form)) ds)
    (form_wide i (behind_declared a d.form) d.form)
    (statements_wide (i + form_count d.form) (a + length (form_arguments d.form)) ds)

arguments_wide : (args : List Argument) → All (HasWords argument_width) (map argument_record args)
arguments_wide [] = tt
arguments_wide (b ∷ bs) = (refl, arguments_wide bs)

-- each as wide as it should be
pub file_as_wide : (pos : Positions) (i a : ℕ) (ds : List Definition) → All (HasWords definition_width) (definition_records pos i a ds) × All (HasWords statement_width) (file_statements i a ds) × All (HasWords argument_width) (file_argument_records ds)
unfolding file_argument_records
file_as_wide pos i a ds = (definitions_wide pos i a ds, statements_wide i a ds, arguments_wide (file_arguments ds))
