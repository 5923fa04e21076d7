-- Request [7], what a reader of the tables relies on: the byte ranges of definition records, their last two words, in the text and among each other.
use Rattle.std.specs.Prelude.{ℕ, zero, suc, ◌-◌, ◌≤◌, ◌<◌, ◌≡◌, List, [], ◌∷◌, ◌++◌, get_or}
use Rattle.tokens.specs.Number.{definition_width}
use Rattle.tokens.specs.Token.{Token, part, token_at, Positions}
use Rattle.grammar.specs.FileTables.{definition_word}

-- the place of the first token of definition record d
abbrev pub first_place : List ℕ → ℕ → ℕ
first_place = definition_word 2

-- the place behind its last
abbrev pub end_place : List ℕ → ℕ → ℕ
end_place = definition_word 3

-- the byte at which its range starts
abbrev pub start_byte : List ℕ → ℕ → ℕ
start_byte = definition_word 12

-- the byte before which it ends
abbrev pub end_byte : List ℕ → ℕ → ℕ
end_byte = definition_word 13

-- how many words of a definition record stand before those two
abbrev pub unplaced_width : ℕ
unplaced_width = definition_width - 2

-- of these words of a record the whole record: behind them where the token at its first place starts, and where the one before its end place ends
abbrev pub placed : Positions → List ℕ → List ℕ
placed pos words = words ++ (pos.start (get_or words 2 0) ∷ pos.end (get_or words 3 0 - 1) ∷ [])

-- the byte ranges of n definition records from number d on lie one behind the other from byte b on, and none goes beyond byte e
abbrev pub InOrder : List ℕ → ℕ → ℕ → ℕ → ℕ → Type 0
InOrder definitions d zero b e = b ≤ e
InOrder definitions d (suc n) b e =
    (b ≤ start_byte definitions d) × (start_byte definitions d ≤ end_byte definitions d) × InOrder definitions (suc d) n (end_byte definitions d) e

-- the text of the kept token at place p and of n more, with what stands between each two of them in the text
unfoldable pub laid_out : List ℕ → List Token → Positions → ℕ → ℕ → List ℕ
laid_out text kept pos p zero = (token_at kept p).text
laid_out text kept pos p (suc n) = (token_at kept p).text ++ (part text (pos.end p) (pos.start (suc p)) ++ laid_out text kept pos (suc p) n)

-- definition record d has tokens, its range is that from the first one's start to the last one's end, and the bytes of the range are their texts and what stands
-- between them
pub record LaidOut (text : List ℕ) (kept : List Token) (pos : Positions) (definitions : List ℕ) (d : ℕ) : Type 0 where
  pub some : first_place definitions d < end_place definitions d
  pub starts : start_byte definitions d ≡ pos.start (first_place definitions d)
  pub ends : end_byte definitions d ≡ pos.end (end_place definitions d - 1)
  pub bytes : part text (start_byte definitions d) (end_byte definitions d) ≡ laid_out text kept pos (first_place definitions d) (end_place definitions d - first_place definitions d - 1)
