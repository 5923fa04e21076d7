-- Tokens that stand in a list from a place on: the first of them, and what stands behind it or behind a part.
use Prim.Native.Nat.{ℕ, suc, ◌+◌}
use native.Mathlib.Nat.{add-zero}
use native.Mathlib.Numerals.{add-one}
use mathlib.Core.Path.{◌≡◌, sym, ◌∙◌, ap}
use mathlib.Core.List.{List, ◌∷◌, ◌++◌, append_assoc}
use lib.ListN.{length, drop}
use lib.Seq.{drop-drop, get_or-drop, drop-append_seam}
use Rattle.tokens.specs.Token.{Token, token_at, eof_token}

-- the tokens xs stand in the list from place p on
abbrev pub Standing : List Token → ℕ → List Token → Type 0
Standing kept p xs = (rest : List Token) × (drop p kept ≡ xs ++ rest)

pub standing_head : (kept : List Token) (p : ℕ) (t : Token) (xs : List Token) → Standing kept p (t ∷ xs) → token_at kept p ≡ t
standing_head kept p t xs h = ap (token_at kept) (sym (add-zero p)) ∙ sym (get_or-drop p kept 0 eof_token) ∙ ap (λ ts. token_at ts 0) h.1

pub standing_tail : (kept : List Token) (p : ℕ) (t : Token) (xs : List Token) → Standing kept p (t ∷ xs) → Standing kept (suc p) xs
standing_tail kept p t xs h = (h.0, ap (λ k. drop k kept) (sym (add-one p)) ∙ sym (drop-drop 1 p kept) ∙ ap (drop 1) h.1)

pub standing_front : (kept : List Token) (p : ℕ) (xs ys : List Token) → Standing kept p (xs ++ ys) → Standing kept p xs
standing_front kept p xs ys h = (ys ++ h.0, h.1 ∙ append_assoc xs ys h.0)

pub standing_back : (kept : List Token) (p : ℕ) (xs ys : List Token) → Standing kept p (xs ++ ys) → Standing kept (p + length xs) ys
standing_back kept p xs ys h = (h.0, sym (drop-drop (length xs) p kept) ∙ ap (drop (length xs)) (h.1 ∙ append_assoc xs ys h.0) ∙ drop-append_seam xs (ys ++ h.0))
