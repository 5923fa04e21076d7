-- Inner: how the parts of a table are read, and what the code's answers for them say.
use Rattle.std.specs.Prelude.{ℕ, suc, ◌+◌, ◌*◌, ◌/◌, ◌≤◌, ◌<◌, ◌≡◌, cond, List, eqb, length, Result, Ok, Err}
use Rattle.tokens.specs.Number.{InvalidTableBodyToken, statement_width, most_bytes}
use Rattle.tokens.specs.Token.{Token}
use Rattle.tokens.specs.Place.{kind_at}
use Rattle.tokens.specs.Kind.{JumpTable, JumpTablePacked, CodeTable, OpenParen, CloseParen, CloseBrace, Assign}
use Rattle.grammar.specs.Result.{plain, number, beyond, Res, got, bad, expect, seq}
use Rattle.grammar.specs.FileReading.{TableSort, jump_table, packed_table, code_table, TableEntry, digit_total}
use Rattle.grammar.specs.FileReader.{table_entries}
use Rattle.grammar.specs.FileRecords.{entry_records}
use Rattle.grammar.specs.Written.{Written}
use Rattle.lists.specs.declared.before.Before.{Before}
use Rattle.definitions.specs.Answers.{table_kind}
use Rattle.definitions.specs.declared.record.Found.{Found}
use Rattle.definitions.specs.declared.table.TableKind.{TableKind}
use Rattle.definitions.specs.declared.table.TableKind.TheVariants.{Jump, Packed, Code}
use Rattle.definitions.specs.declared.table.Entries.{Entries}

-- ---- kinds of tables

abbrev pub table_sort : TableKind → TableSort
table_sort Jump = jump_table
table_sort Packed = packed_table
table_sort Code = code_table

-- the kind of the token that the table begins with
abbrev pub table_token : TableKind → ℕ
table_token Jump = JumpTable
table_token Packed = JumpTablePacked
table_token Code = CodeTable

-- the size of a table with so many entries and digits
abbrev pub size_with : TableSort → ℕ → ℕ → ℕ
size_with jump_table n digits = 32 * n
size_with packed_table n digits = 2 * n
size_with code_table n digits = digits / 2

-- ---- `(`, `)` and `=`

-- the place behind a token of this kind that may stand at p
unfoldable pub past_sign : List ℕ → List ℕ → ℕ → ℕ → ℕ
past_sign words kept kind p = cond (eqb (kind_at words kept p) kind) (suc p) p

abbrev pub past_signs : List ℕ → List ℕ → ℕ → ℕ
past_signs words kept p = past_sign words kept Assign (past_sign words kept CloseParen (past_sign words kept OpenParen p))

-- a place from p on, inside the list or at its end
pub record Past (p size place r : ℕ) : Type 0 where
  pub is : r ≡ place
  pub low : p ≤ r
  pub high : r ≤ size

-- ---- entries

-- the entries and the brace
unfoldable pub entries_from : TableSort → ℕ → List Token → Res (List TableEntry)
entries_from sort = seq (table_entries sort) (λ es. expect CloseBrace (plain InvalidTableBodyToken) (λ c q ts. got es 0))

abbrev pub entries_answer : ℕ → Res (List TableEntry) → Result Entries (ℕ × ℕ)
entries_answer p (got es k) = Ok (record { count = length es; digits = digit_total es; end = p + k })
entries_answer p (bad y w) = Err (number y, w + beyond y)

-- the tokens of a well-formed list don't overlap, so the digits are no more than a text has bytes
abbrev pub EntriesWithin : ℕ → ℕ → Result Entries (ℕ × ℕ) → Type 0
EntriesWithin p size (Ok e) = (p < e.end) × (e.end ≤ size) × (e.count + p < e.end) × (e.digits ≤ most_bytes)
EntriesWithin p size (Err f) = Unit {0}

pub record EntriesRead (sort : TableSort) (p : ℕ) (before : Before) (size : ℕ) (read : Res (List TableEntry)) (st : List ℕ) (r : Result Entries (ℕ × ℕ)) (st' : List ℕ) : Type 0 where
  pub is : r ≡ entries_answer p read
  pub table : Written statement_width (entry_records sort before.statements before.arguments) read 0 st st'
  pub within : EntriesWithin p size r

-- ---- the record

-- a table whose name is the token at n
abbrev pub table_found : TableSort → ℕ → ℕ → Entries → Found
table_found sort first n e =
    record {
      kind = table_kind sort;
      first = first;
      name = n;
      end = e.end;
      inputs = 0;
      outputs = 0;
      statements = e.count;
      a = size_with sort e.count e.digits;
      b = 0;
    }
