-- Theorem 6: the rows of document 01's table marked P, from the rules, under one statement.
use Prim.Native.Nat.{ℕ}
use mathlib.Core.Path.{◌≡◌, refl}
use mathlib.Core.List.{List, map, flatten, sum}
use Rattle.tokens.specs.Number.{lenient_mode, strict_mode, first_edition, second_edition}
use Rattle.tokens.specs.Byte.{bytes, same, digit, value_after}
use Rattle.tokens.specs.Literal.{literal_value, bytes_from, significant}
use Rattle.tokens.specs.Push.{is_value_push, push_size, fits}
use Rattle.tokens.specs.Name.{decimal, multiples, sized, bare_types, type_names, look_up, type_of, reserved, type_told, one_of}
use Rattle.grammar.specs.Rules.{rules_of}
use Rattle.grammar.specs.Grammar.{allowed}
use Rattle.grammar.specs.Records.{arguments_of, group_arguments, all_arguments, simple_records, group_records, statement_records, argument_records, group_count, statement_count, argument_count}
use Rattle.grammar.specs.PlainLength.{instructions, body_instructions, every, plain_length}
use Rattle.grammar.specs.Result.{look, choose, seq, many}
use Rattle.grammar.specs.Reader.{separated, entries, closed_list, call_argument, name_step, untyped_step, builtin_argument, operand_step, ident_step, item, items, group_rest, label_group, groups, body_from, body_at}
use Rattle.grammar.specs.Cases.{Row, Outcome, rows, others, strict_rows, edition_rows, type_rows, braced, tokens_of, outcome}

-- what the reader answers for each row in a mode and an edition, at place 0, whatever the texts that no rule looks at; the line says what must compute for that
unfoldable pub outcomes : ℕ → ℕ → (ℕ → List ℕ) → List Row → List Outcome
unfolding bytes same digit value_after literal_value bytes_from significant is_value_push push_size fits decimal multiples sized bare_types type_names look_up type_of reserved type_told one_of flatten allowed arguments_of group_arguments all_arguments simple_records group_records statement_records argument_records group_count statement_count argument_count sum instructions body_instructions every plain_length look choose seq many separated entries closed_list call_argument name_step untyped_step builtin_argument operand_step ident_step item items group_rest label_group groups body_from body_at tokens_of
outcomes mode edition texts list =
    map (λ row. let kept = tokens_of texts 0 (braced row.input) in outcome kept edition 0 (body_at (rules_of mode) kept 0)) list

-- Theorem 6. The rows marked P, which have no zero literal by itself, so in any edition
pub rows_hold : (edition : ℕ) (texts : ℕ → List ℕ) → outcomes lenient_mode edition texts rows ≡ map (λ row. row.outcome) rows
unfolding outcomes
rows_hold edition texts = refl

-- further bodies, in the same way, in edition 1
pub others_hold : (texts : ℕ → List ℕ) → outcomes lenient_mode first_edition texts others ≡ map (λ row. row.outcome) others
unfolding outcomes
others_hold texts = refl

-- and those of request [1], in any edition
pub strict_rows_hold : (edition : ℕ) (texts : ℕ → List ℕ) → outcomes strict_mode edition texts strict_rows ≡ map (λ row. row.outcome) strict_rows
unfolding outcomes
strict_rows_hold edition texts = refl

-- those of request [8], in both editions
pub edition_rows_hold : (texts : ℕ → List ℕ)
    → (outcomes lenient_mode first_edition texts (edition_rows (λ first second. first)) ≡ map (λ row. row.outcome) (edition_rows (λ first second. first)))
    × (outcomes lenient_mode second_edition texts (edition_rows (λ first second. second)) ≡ map (λ row. row.outcome) (edition_rows (λ first second. second)))
unfolding outcomes
edition_rows_hold texts = (refl, refl)

-- those of request [10], in both modes and any edition
pub type_rows_hold : (edition : ℕ) (texts : ℕ → List ℕ)
    → (outcomes lenient_mode edition texts type_rows ≡ map (λ row. row.outcome) type_rows) × (outcomes strict_mode edition texts type_rows ≡ map (λ row. row.outcome) type_rows)
unfolding outcomes
type_rows_hold edition texts = (refl, refl)
