-- The lexeme that is found has a byte or more, and lies in the bytes. Assumes nothing.
use Prim.Native.Nat.{ℕ, ◌≤◌, ◌<◌}
use mathlib.Core.Path.{◌≡◌, ap, subst}
use mathlib.Core.List.{List, [], ◌∷◌}
use native.Mathlib.Omega.{arith}
use lib.ListN.{length}
use lib.Seq.{length-take-le}
use Rattle.std.specs.Prelude.{Ok, Err}
use Rattle.tokens.specs.Byte.{bytes, same}
use Rattle.tokens.specs.Kind.{Eof}
use Rattle.spelling.specs.Spelling.{spelt, marks, value_of}
use Rattle.lexemes.specs.Shapes.{Shape, space, line, block, string, define, include, mark, entry, literal, number, word, pointer}
use Rattle.lexemes.specs.Reader.{Look, found, lexeme_of}
use Rattle.lexemes.specs.declared.Context.{Context}
use Rattle.lexemes.proofs.Sound.{Good, begins_inside, sound}

-- a mark is not empty
mark_some : (w : List ℕ) {k : ℕ} → value_of marks Eof w ≡ k → 0 < k → 0 < length w
unfolding value_of marks spelt same
mark_some [] {k} e h = omega (arith, e)
mark_some (b ∷ w) e h = omega arith

-- no lexeme is
pub shape_some : {c : Context} {w rest : List ℕ} {k : ℕ} → Shape c w rest k → 0 < length w
unfolding bytes
shape_some (space h a) = h
shape_some {w = w} (line b a) = omega (arith, begins_inside (bytes "//") w b)
shape_some (block h b e n) = omega arith
shape_some (string h q e a) = omega arith
shape_some (define e b) = omega (arith, ap length e)
shape_some (include e b) = omega (arith, ap length e)
shape_some {w = w} (mark e h) = mark_some w e h
shape_some (entry x h a) = h
shape_some (literal x h b a) = omega arith
shape_some (number x h a b) = h
shape_some (word x h a b) = h
shape_some (pointer x e) = omega (arith, ap length e)

-- a lexeme has a byte or more, and at most `size`
abbrev pub Fits : ℕ → Look → Type 0
Fits size (Ok f) = (0 < f.length) × (f.length ≤ size)
Fits size (Err r) = Unit {0}

good_fits : (c : Context) (bs : List ℕ) (f : Look) → Good c bs f → Fits (length bs) f
good_fits c bs (Ok f) g = let l = length-take-le f.length bs g.0 in let h = shape_some g.1 in (rw l at h, g.0)
good_fits c bs (Err r) g = tt

pub fits : (bs : List ℕ) → 0 < length bs → (c : Context) → Fits (length bs) (lexeme_of c bs)
fits bs h c = good_fits c bs (lexeme_of c bs) (sound c bs h)

pub lexeme_in : (c : Context) (bs : List ℕ) (k n : ℕ) → lexeme_of c bs ≡ found k n → 0 < length bs → (0 < n) × (n ≤ length bs)
lexeme_in c bs k n e h = subst (λ (f : Look). Fits (length bs) f) e (fits bs h c)
