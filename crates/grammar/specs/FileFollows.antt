-- The words in which the theorems on files are stated.
use Rattle.std.specs.Prelude.{ℕ, suc, ◌+◌, ◌≤◌, ◌<◌, ◌≡◌, Bool, true, false, cond, ◌&&◌, ◌||◌, List, [], ◌∷◌, ◌++◌, length, take, drop, eqb, leb}
use Rattle.tokens.specs.Token.{Token, token_at}
use Rattle.tokens.specs.Kind.{Eof, Function, Event, Error}
use Rattle.grammar.specs.Rules.{Rules}
use Rattle.grammar.specs.Follows.{all_proper, past}
use Rattle.grammar.specs.FileReading.{Definition, is_macro}
use Rattle.grammar.specs.FileGrammar.{File, Defined, repeats}

-- Eof stands at n, and the n tokens before it are a file that reads ds
abbrev pub FollowsFile : Rules → Bool → List Token → ℕ → List Definition → Type 0
FollowsFile m names kept n ds = (n < length kept) × ((token_at kept n).kind ≡ Eof) × File m names (take n kept) ds

-- the names of the macros, fns and tests of a file, in order
unfoldable pub macro_names : List Definition → List (List ℕ)
macro_names [] = []
macro_names (d ∷ ds) = cond (is_macro d.form) (d.token.text ∷ macro_names ds) (macro_names ds)

-- a macro, fn or test stands whole behind a beginning without a repeated name, is named like one of that beginning, and its name stands at q
pub record RepeatedAt (m : Rules) (kept : List Token) (q : ℕ) : Type 0 where
  pub before : List Definition
  pub again : Definition
  pub n : ℕ
  pub k : ℕ
  pub inside : n + k ≤ length kept
  pub begins : File m true (take n kept) before
  pub stands : Defined m n (take k (drop n kept)) again
  pub twice : repeats (macro_names before) again ≡ true
  pub place : q ≡ again.name

-- definitions that follow the grammar stand up to a token of this kind at q
pub record Reached (m : Rules) (names : Bool) (kept : List Token) (kind q : ℕ) : Type 0 where
  pub before : List Definition
  pub inside : q < length kept
  pub begins : File m names (take q kept) before
  pub here : (token_at kept q).kind ≡ kind

-- the tokens before place w can go on to a file, the rule on names left aside
abbrev pub BeginsFile : Rules → List Token → ℕ → Type 0
BeginsFile m kept w = (rest : List Token) × (ds : List Definition) × File m false (take w kept ++ rest) ds × (all_proper rest ≡ true)

-- no list that keeps the tokens up to the one at w, that one too, is a file
abbrev pub HopelessFile : Rules → List Token → ℕ → Type 0
HopelessFile m kept w = (other : List Token) → take (suc w) kept ≡ take (suc w) other → (n : ℕ) (ds : List Definition) → ¬ FollowsFile m false other n ds

-- w is the first token that the rules don't allow, the rule on names left aside
pub record FirstWrongFile (m : Rules) (kept : List Token) (w : ℕ) : Type 0 where
  pub inside : w ≤ length kept
  pub begins : BeginsFile m kept w
  pub hopeless : HopelessFile m kept w

-- typed lists stand in functions, events and errors
abbrev pub has_typed : ℕ → Bool
has_typed kind = eqb kind Function || eqb kind Event || eqb kind Error

-- how far behind the first wrong token, the first of ts, the cursor of number c stands: as for a body, but a typed list eats no Comma
unfoldable pub past_in : Bool → ℕ → List Token → ℕ
past_in typed c ts = cond (typed && eqb c 8) 0 (past c ts)

-- the cursor q of number c, where w is the first wrong token: definitions stand up to n and none stands at n, so that w lies in what begins there
pub record CursorAt (m : Rules) (kept : List Token) (c q w : ℕ) : Type 0 where
  pub definitions : List Definition
  pub n : ℕ
  pub before : n ≤ w
  pub stand : File m false (take n kept) definitions
  pub ends : (k : ℕ) (d : Definition) → ¬ Defined m n (take k (drop n kept)) d
  pub cursor : q ≡ w + past_in (has_typed (token_at kept (suc n)).kind) c (drop w kept)

-- the numbers that a definition can be refused with: 1 to 13; 22 only where a rule set forbids that a label's name repeats
abbrev pub is_definition_number : Rules → ℕ → Bool
is_definition_number m c = (leb 1 c && leb c 13) || (m.names_once && eqb c 22)
