-- The rows of files, from the rules, under one statement.
use Prim.Native.Nat.{ℕ}
use mathlib.Core.Path.{◌≡◌, refl}
use mathlib.Core.Bool.{true}
use mathlib.Core.List.{List, map, flatten}
use lib.ListN.{length}
use Rattle.tokens.specs.Number.{lenient_mode, strict_mode}
use Rattle.tokens.specs.Byte.{bytes, same, is_hex, all_hex}
use Rattle.tokens.specs.Literal.{is_literal}
use Rattle.tokens.specs.Token.{Token, token_of, view, Positions}
use Rattle.tokens.specs.WellFormed.{whole_good, prev_end, range_good, eof_good, text_good, extra_good, contents_good, good_after, good, bad_from, first_bad}
use Rattle.tokens.specs.Kept.{dropped, kept_from, kept_of, kept_tokens, kept_positions}
use Rattle.tokens.specs.Door.{door}
use Rattle.tokens.specs.Push.{is_value_push}
use Rattle.tokens.specs.Name.{decimal, multiples, sized, bare_types, type_names, look_up, type_of, reserved, type_told, one_of}
use Rattle.grammar.specs.Rules.{rules_of}
use Rattle.grammar.specs.Grammar.{allowed}
use Rattle.grammar.specs.Records.{arguments_of, group_arguments, all_arguments, simple_records, group_records, statement_records, group_count, statement_count}
use Rattle.grammar.specs.Result.{look, choose, seq, many}
use Rattle.grammar.specs.Reader.{separated, entries, closed_list, call_argument, name_step, untyped_step, name_argument, operand_step, ident_step, item, items, group_rest, label_group, groups, body_from}
use Rattle.grammar.specs.Typed.{indexed_here, location_here, typed_name, typed_argument, single_number}
use Rattle.grammar.specs.FileReading.{digit_total, size_of}
use Rattle.grammar.specs.FileGrammar.{entry_allowed, repeats}
use Rattle.grammar.specs.FileRecords.{form_arguments, entry_records, form_count, form_statements, definition_record, definition_records, file_statements, file_arguments, file_argument_records, file_statement_count}
use Rattle.grammar.specs.FileReader.{by_kind, optional, named, parse_imports, function_type, function_rest, parse_function, event_rest, parse_event, constant_value, constant_rest, parse_constant, error_rest, parse_custom_error, macro_rest, parse_macro, table_entry, table_entries, parse_table_body, table_rest, parse_table, parse_definition, top_level, checked, definition, parse, file_at}
use Rattle.grammar.specs.Cases.{tokens_of}
use Rattle.grammar.specs.FileCases.{FileRow, FileOutcome, file_rows, strict_files, ended, file_outcome, outcome_at, TextRow, text_of, words_from, text_rows}

-- what the reader answers in a mode, with the rule on names; the line says what must compute for the rows
unfoldable pub read_in : ℕ → List Token → Positions → FileOutcome
unfolding bytes same is_hex all_hex is_value_push decimal multiples sized bare_types type_names look_up type_of reserved type_told one_of flatten allowed arguments_of group_arguments all_arguments simple_records group_records statement_records group_count statement_count look choose seq many separated entries closed_list call_argument name_step untyped_step name_argument operand_step ident_step item items group_rest label_group groups body_from indexed_here location_here typed_name typed_argument single_number digit_total size_of entry_allowed repeats form_arguments entry_records form_count form_statements definition_record definition_records file_statements file_arguments file_argument_records file_statement_count by_kind optional named parse_imports function_type function_rest parse_function event_rest parse_event constant_value constant_rest parse_constant error_rest parse_custom_error macro_rest parse_macro table_entry table_entries parse_table_body table_rest parse_table parse_definition top_level checked definition parse file_at
read_in mode kept pos = file_outcome kept pos (file_at (rules_of mode) true kept)

-- for a row, whatever the texts that no rule looks at and wherever the tokens stand
abbrev pub row_read : ℕ → (ℕ → List ℕ) → FileRow → Positions → FileOutcome
row_read mode texts row = read_in mode (tokens_of texts 0 (ended row.input))

-- for each row
unfoldable pub file_outcomes : ℕ → (ℕ → List ℕ) → List FileRow → List (Positions → FileOutcome)
unfolding read_in tokens_of
file_outcomes mode texts list = map (row_read mode texts) list

-- document 01's rows of files, one of each definition, and refusals of every kind
pub file_rows_hold : (texts : ℕ → List ℕ) → file_outcomes lenient_mode texts file_rows ≡ map outcome_at file_rows
unfolding file_outcomes
file_rows_hold texts = refl

-- and those of request [1]
pub strict_files_hold : (texts : ℕ → List ℕ) → file_outcomes strict_mode texts strict_files ≡ map outcome_at strict_files
unfolding file_outcomes
strict_files_hold texts = refl

-- by its bytes: what the door says of a row's text and words, where the kept list is just long enough, and what the reader answers
abbrev pub text_read : ℕ → TextRow → ℕ × FileOutcome
text_read mode row =
    let text = text_of row.cut in
    let words = words_from 0 row.cut in
    ((door text words 0 (length (kept_of words))).0, read_in mode (kept_tokens text words) (kept_positions words))

-- for each row
unfoldable pub text_outcomes : ℕ → List TextRow → List (ℕ × FileOutcome)
unfolding text_of words_from is_literal whole_good prev_end range_good eof_good text_good extra_good contents_good good_after good bad_from first_bad dropped kept_from kept_of token_of view door read_in
text_outcomes mode list = map (text_read mode) list

-- the rows of request [7]: let through, and read so in either mode
pub text_rows_hold : (text_outcomes lenient_mode text_rows ≡ map (λ row. (0, row.outcome)) text_rows) × (text_outcomes strict_mode text_rows ≡ map (λ row. (0, row.outcome)) text_rows)
unfolding text_outcomes
text_rows_hold = (refl, refl)
