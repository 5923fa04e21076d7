-- What both calls say alike: the seven numbers of an answer, and what a lent table holds afterwards.
use Rattle.std.specs.Prelude.{ℕ, ◌+◌, ◌-◌, ◌<◌, ◌≡◌, Bool, cond, ◌||◌, length, get_or, replicate, eqb}
use mathlib.Core.List.{List, [], ◌∷◌, ◌++◌, flatten}
use Rattle.tokens.specs.Number.{NotWellFormed, StartOutside, KeptTooShort, UnknownMode, UnknownEdition, InvalidTypeAsArgumentName, type_none}
use Rattle.tokens.specs.Token.{Token, token_at}
use Rattle.tokens.specs.Name.{type_of, type_told}
use Rattle.tokens.specs.Door.{door}
use Rattle.grammar.specs.Rules.{is_mode}
use Rattle.grammar.specs.Reading.{Reading}
use Rattle.grammar.specs.Records.{statement_count, argument_count}
use Rattle.grammar.specs.PlainLength.{is_edition, plain_length}
use Rattle.grammar.specs.FileReading.{Definition}
use Rattle.grammar.specs.FileRecords.{file_arguments, file_statement_count}
use Rattle.grammar.specs.Result.{Answer, read, refused}

-- the numbers kept for a reading's refusals: above an accepted call's 0, below those of the door, of the room and of what the caller chooses
abbrev pub ReadingNumber : ℕ → Type 0
ReadingNumber c = (0 < c) × (c < NotWellFormed)

-- accepted: 0, the cursor, three counts, no type
abbrev pub acceptance : ℕ → ℕ → ℕ → ℕ → List ℕ
acceptance cursor first second third = 0 ∷ cursor ∷ first ∷ second ∷ third ∷ type_none ∷ 0 ∷ []

-- a refusal: its number, its cursor, "counts and length 0", and the type and size that it tells
abbrev pub refusal_of : ℕ → ℕ → ℕ × ℕ → List ℕ
refusal_of c q told = c ∷ q ∷ 0 ∷ 0 ∷ 0 ∷ told.0 ∷ told.1 ∷ []

-- one that tells none
abbrev pub refusal : ℕ → ℕ → List ℕ
refusal c q = refusal_of c q (type_none, 0)

-- of these kept tokens: for 7 the type and size of the token at the cursor
abbrev pub refusal_at : List Token → ℕ → ℕ → List ℕ
refusal_at kept c q = refusal_of c q (type_told c (token_at kept q))

-- a body call from a start of these kept tokens, where the tables have room: number (0 accepted), cursor, statements, arguments, plain length, type, size;
-- `short`: one byte pushes a zero
abbrev pub body_numbers : List Token → Bool → ℕ → Answer Reading → List ℕ
body_numbers kept short start (read r n) = acceptance (start + n) (statement_count r) (argument_count r) (plain_length short r)
body_numbers kept short start (refused c q) = refusal_at kept c q

-- a file call: number, cursor, definitions, statements, arguments, type, size
abbrev pub file_numbers : List Token → Answer (List Definition) → List ℕ
file_numbers kept (read ds n) = acceptance n (length ds) (file_statement_count ds) (length (file_arguments ds))
file_numbers kept (refused c q) = refusal_at kept c q

-- a number that the caller chooses: this refusal, cursor 0, if there is none such; else what comes next
abbrev pub chosen : Bool → ℕ → ℕ × ℕ → ℕ × ℕ
chosen isOne c next = cond isOne next (c, 0)

-- number and cursor of a call that is turned away before it reads; let through, 0 and the kept count. Of a file call: 36 for a mode that there is not, "before
-- 30", then the door's 30 and 35
abbrev pub file_entrance : ℕ → List ℕ → List ℕ → ℕ → ℕ × ℕ
file_entrance mode text words room = chosen (is_mode mode) UnknownMode (door text words 0 room)

-- of a body call: 36; 38 for an edition that there is not, "after 36 and before 30"; then 30, 35 and 31
abbrev pub body_entrance : ℕ → ℕ → List ℕ → List ℕ → ℕ → ℕ → ℕ × ℕ
body_entrance mode edition text words start room = chosen (is_mode mode) UnknownMode (chosen (is_edition edition) UnknownEdition (door text words start room))

-- that number and cursor; let through, what the call answers then
abbrev pub after_door : ℕ × ℕ → List ℕ → List ℕ
after_door said then = cond (eqb said.0 0) then (refusal said.0 said.1)

-- the records of a reading; a refused one has none
abbrev pub records_of : {A : Type 0} → (A → List (List ℕ)) → Answer A → List (List ℕ)
records_of records (read x n) = records x
records_of records (refused c q) = []

-- so many words, where the records fit: the records, followed by zeros
abbrev pub filled : ℕ → List (List ℕ) → List ℕ
filled size rs = flatten rs ++ replicate (size - length (flatten rs)) 0

-- the numbers of a call that is turned away before it reads: 30, 31, 35, 36 and 38
abbrev pub turned_away : ℕ → Bool
turned_away c = eqb c NotWellFormed || eqb c StartOutside || eqb c KeptTooShort || eqb c UnknownMode || eqb c UnknownEdition

-- what a table holds after a call with this number: turned away, "nothing lent has changed"; accepted, "the records followed by zeros"; "after a refusal only
-- zeros"
unfoldable pub held_after : ℕ → List (List ℕ) → List ℕ → List ℕ
held_after c rs lent = cond (turned_away c) lent (cond (eqb c 0) (filled (length lent) rs) (filled (length lent) []))

-- what the last two numbers of an answer for these kept tokens tell: for 7 the type and size of the token at the cursor; for every other number they are 0
pub record TellsType (kept : List Token) (v : List ℕ) : Type 0 where
  pub for7 : get_or v 0 0 ≡ InvalidTypeAsArgumentName → type_of (token_at kept (get_or v 1 0)).text ≡ (get_or v 5 0, get_or v 6 0)
  pub otherwise : ¬ (get_or v 0 0 ≡ InvalidTypeAsArgumentName) → (get_or v 5 0 ≡ type_none) × (get_or v 6 0 ≡ 0)
