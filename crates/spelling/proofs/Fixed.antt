-- That any two answers meeting a promise are equal, where the promise is no equation. Assumes nothing.
use Prim.Native.Nat.{ℕ, ◌<◌}
use native.Mathlib.Omega.{arith}
use mathlib.Core.Path.{◌≡◌, refl, sym, ap, ◌∙◌}
use mathlib.Core.List.{List}
use Rattle.std.specs.Prelude.{Option, Some, None, MatchOption}
use Rattle.spelling.specs.Spelling.{no_opcode, opcode_of}

-- a byte is below what stands for none
no_byte : (a : ℕ) → a < no_opcode → a ≡ no_opcode → ⊥
no_byte a h e = omega arith

-- the promise of `opcode_of`
pub one_opcode : (word : List ℕ) (r r' : Option ℕ)
    → MatchOption r (opcode_of word ≡ no_opcode) (λ byte. (byte < no_opcode) × (byte ≡ opcode_of word))
    → MatchOption r' (opcode_of word ≡ no_opcode) (λ byte. (byte < no_opcode) × (byte ≡ opcode_of word))
    → r ≡ r'
one_opcode word (Some a) (Some b) p q = ap Some (p.1 ∙ sym q.1)
one_opcode word (Some a) None p q = absurd (no_byte a p.0 (p.1 ∙ q))
one_opcode word None (Some b) p q = absurd (no_byte b q.0 (q.1 ∙ p))
one_opcode word None None p q = refl
