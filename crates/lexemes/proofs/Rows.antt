-- The worked rows hold, each by computing its walk. Assumes nothing.
use Prim.Native.Nat.{ℕ}
use mathlib.Core.Path.{◌≡◌, refl, ap, subst, ◌∙◌}
use mathlib.Core.List.{List, [], ◌∷◌, ◌++◌}
use lib.ListN.{length}
use Rattle.tokens.specs.Byte.{bytes, same, is_hex}
use Rattle.tokens.specs.Name.{decimal, multiples, sized, bare_types, type_names, look_up, type_of, reserved}
use Rattle.spelling.specs.Spelling.{spelt, value_of, mnemonics, keywords, marks}
use Rattle.lexemes.specs.Bytes.{is_space, is_digit, is_word_byte, is_quote, in_line, in_quotes, begins}
use Rattle.lexemes.specs.Contexts.{is_code, is_body, after}
use Rattle.lexemes.specs.Words.{in_braces, by_place, word_of}
use Rattle.lexemes.specs.Texts.{decimal_after, too_large, told, quotes}
use Rattle.lexemes.specs.Reads.{eof_at, Reading}
use Rattle.lexemes.specs.Reader as reader
use Rattle.lexemes.specs.Reader.{run, closing, opened, slash, quoted, hashed, hash, digits, worded, mark_is, lexeme_of, step_of, step_at, Ending, whole, refused, Walked, walk, reading}
use Rattle.lexemes.specs.Rows.{Row, reads, stops, Holds, AllHold, rows, other_rows}
use Rattle.lexemes.proofs.Exists.{walk_reads, walk_stops}

-- the walk over a text. Who unfolds it has all that it is made of
unfoldable computed : List ℕ → Walked
unfolding bytes same is_hex spelt value_of mnemonics keywords marks reserved type_of look_up type_names bare_types sized multiples decimal is_space is_digit is_word_byte is_quote in_line in_quotes begins is_code is_body after in_braces by_place word_of decimal_after too_large told quotes run closing opened slash quoted hashed hash digits reader.number reader.word worded mark_is lexeme_of step_of step_at walk
computed text = reading text

is_reading : (text : List ℕ) → reading text ≡ computed text
unfolding computed
is_reading text = refl

-- what the walk over a row's text comes to
abbrev Walks : Row → Type 0
Walks (reads text ts) = computed text ≡ record { tokens = ts ++ (eof_at (length text) ∷ []); end = whole }
Walks (stops text r q) = (computed text).end ≡ refused r q

holds : (r : Row) → Walks r → Holds r
holds (reads text ts) e =
    let w = is_reading text ∙ e in
    subst (λ (w : Walked). Reading text w.tokens) w (walk_reads text (ap (λ (w : Walked). w.end) w))
holds (stops text r q) e = walk_stops text r q (ap (λ (w : Walked). w.end) (is_reading text) ∙ e)

abbrev AllWalk : List Row → Type 0
AllWalk [] = Unit {0}
AllWalk (r ∷ rs) = Walks r × AllWalk rs

all_hold : (rs : List Row) → AllWalk rs → AllHold rs
all_hold [] e = tt
all_hold (r ∷ rs) e = (holds r e.0, all_hold rs e.1)

pub rows_hold : AllHold rows
unfolding computed
rows_hold = all_hold rows (refl, (refl, (refl, (refl, (refl, (refl, (refl, (refl, (refl, (refl, (refl, (refl, (refl, (refl, (refl, (refl, (refl, (refl, (refl, (refl, (refl, (refl, (refl, (tt))))))))))))))))))))))))

pub other_rows_hold : AllHold other_rows
unfolding computed
other_rows_hold = all_hold other_rows (refl, (refl, (refl, (refl, (refl, (refl, (refl, (refl, (refl, (refl, (refl, (refl, (refl, (refl, (refl, (refl, (refl, (refl, (refl, (tt))))))))))))))))))))
