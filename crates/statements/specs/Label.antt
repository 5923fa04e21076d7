-- Inner: a label's two signs, its record and the rule on its name, as their small functions read and write them.
use Rattle.std.specs.Prelude.{ℕ, ◌+◌, ◌-◌, Bool, true, cond, List, [], ◌∷◌, eqb, ltb, Option, Some, None, Result, Ok, Err, ⊤}
use Rattle.tokens.specs.Kind.{Colon, Label}
use Rattle.tokens.specs.Number.{UnexpectedType, InvalidTokenInMacroBody, InvalidTokenInLabelDefinition, DuplicateLabel, label_type, statement_width}
use Rattle.tokens.specs.Token.{Token}
use Rattle.tokens.specs.Place.{kind_at}
use Rattle.tokens.specs.Lent.{put}
use Rattle.grammar.specs.Again.{first_again}
use Rattle.lists.specs.declared.before.Before.{Before}
use Rattle.statements.specs.declared.item.Progress.{Progress}

-- n tokens further, with m records that are counted already
abbrev pub skipped : Progress → ℕ → ℕ → Progress
skipped s n m = record { at = s.at + n; statements = s.statements + m; arguments = s.arguments }

-- the words of the label at s.at whose items end at t
abbrev pub label_words : Progress → Before → Progress → List ℕ
label_words s before t =
    label_type ∷ s.at ∷ t.at ∷ (before.statements + s.statements + 1) ∷ (t.statements - (s.statements + 1)) ∷ (before.arguments + s.arguments) ∷ 0 ∷ s.at ∷ []

-- the table with the record of the label whose items end at t, if it is one's
abbrev pub label_put : List ℕ → Option Progress → Before → Progress → List ℕ
label_put statements None before t = statements
label_put statements (Some s) before t = put statement_width statements s.statements (label_words s before t)

-- the Label at s.at and its Colon, by their kinds: the progress at its first item, with its own record counted
abbrev pub label_opened : List ℕ → List ℕ → Progress → Result Progress (ℕ × ℕ)
label_opened words kept s =
    cond (eqb (kind_at words kept s.at) Label)
    (cond (eqb (kind_at words kept (s.at + 1)) Colon) (Ok (skipped s 2 1)) (Err (UnexpectedType, s.at + 1)))
    (Err (InvalidTokenInMacroBody, s.at))

-- whether a value push takes a literal: in the macro part always, inside a label in strict reading
abbrev pub takes_in : Bool → Bool → Bool
takes_in inside strict = cond inside strict true

-- the number for a token that begins no item there
abbrev pub wrong_in : Bool → ℕ
wrong_in inside = cond inside InvalidTokenInLabelDefinition InvalidTokenInMacroBody

-- where the cursor stands behind what was read
abbrev pub cursor_at : Result Progress (ℕ × ℕ) → ℕ
cursor_at (Ok t) = t.at
cursor_at (Err f) = f.1

-- 22 at a label, if that is one before `end`
abbrev pub judged_before : ℕ → ℕ → Result ⊤ (ℕ × ℕ)
judged_before end at = cond (ltb at end) (Err (DuplicateLabel, at)) (Ok tt)

-- what was read, or 22 at a label before its cursor
abbrev pub judged_at : Result Progress (ℕ × ℕ) → ℕ → Result Progress (ℕ × ℕ)
judged_at read at = cond (ltb at (cursor_at read)) (Err (DuplicateLabel, at)) read

-- 22 at the first label from place p on and before `end` whose name stands again, if there is one
abbrev pub named_before : List Token → ℕ → ℕ → Result ⊤ (ℕ × ℕ)
named_before all p end = judged_before end (first_again all p end)

-- what was read from place p on, or 22 at the first label before its cursor whose name stands again
abbrev pub named_once : List Token → ℕ → Result Progress (ℕ × ℕ) → Result Progress (ℕ × ℕ)
named_once all p read = judged_at read (first_again all p (cursor_at read))
