-- Request [12]: white space and comments that are put or taken out leave the kept tokens the same. Assumes nothing.
use Prim.Native.Nat.{ℕ, zero, suc, ◌+◌}
use mathlib.Core.Path.{◌≡◌, refl, sym, ap, ◌∙◌}
use mathlib.Core.Bool.{Bool, true, false, cond}
use mathlib.Core.List.{List, [], ◌∷◌}
use lib.ListN.{length}
use Rattle.tokens.specs.Token.{Token, token_count, kind_of, token_of, view, numbers, all_tokens}
use Rattle.tokens.specs.Kept.{dropped, keep_unless, kept_from, kept_of, kept_tokens}
use Rattle.tokens.specs.PutBetween.{PutBetween, done, both, put, taken}
use Rattle.tokens.specs.WellFormed.{WellFormed}
use Rattle.tokens.specs.Door.{door}
use Rattle.tokens.proofs.DoorLaws.{door_formed}
use Rattle.tokens.proofs.TokenLaws.{view_length}

-- of a list of tokens those that are kept
unfoldable kept : List Token → List Token
kept [] = []
kept (t ∷ ts) = cond (dropped t.kind) (kept ts) (t ∷ kept ts)

module _ (text words : List ℕ) where
  kept_from_lem : (left i : ℕ) → view text words (kept_from words left i) ≡ kept (view text words (numbers i left))
  unfolding kept_from numbers view kept token_of
  kept_from_lem zero i = refl
  kept_from_lem (suc left) i = go (dropped (kind_of words i)) (kept_from_lem left (i + 1))
    where
      go : (b : Bool) → view text words (kept_from words left (i + 1)) ≡ kept (view text words (numbers (i + 1) left))
          → view text words (keep_unless b i (kept_from words left (i + 1)))
          ≡ cond b (kept (view text words (numbers (i + 1) left))) (token_of text words i ∷ kept (view text words (numbers (i + 1) left)))
      go true e = e
      go false e = ap (λ (ts : List Token). token_of text words i ∷ ts) e

  -- the kept tokens are those of all that are not dropped
  kept_all : kept_tokens text words ≡ kept (all_tokens text words)
  unfolding kept_of
  kept_all = kept_from_lem (token_count words) 0

-- white space and comments are none of them
not_kept : (t : Token) (ts : List Token) → dropped t.kind ≡ true → kept (t ∷ ts) ≡ kept ts
unfolding kept
not_kept t ts is = ap (λ (b : Bool). cond b (kept ts) (t ∷ kept ts)) is

same_kept : (ts us : List Token) → PutBetween ts us → kept ts ≡ kept us
unfolding kept
same_kept ts us done = refl
same_kept ts us (both {t = t} {ts = vs} {us = ws} more) = rw (same_kept vs ws more)
same_kept ts us (put {t = t} {us = ws} is more) = same_kept ts ws more ∙ sym (not_kept t ws is)
same_kept ts us (taken {t = t} {ts = vs} is more) = not_kept t vs is ∙ same_kept vs us more

-- lists that differ by white space and comments alone have the same kept tokens
pub put_between : (text words text₂ words₂ : List ℕ) → PutBetween (all_tokens text words) (all_tokens text₂ words₂) → kept_tokens text words ≡ kept_tokens text₂ words₂
put_between text words text₂ words₂ more = kept_all text words ∙ same_kept (all_tokens text words) (all_tokens text₂ words₂) more ∙ sym (kept_all text₂ words₂)

-- lists with the same kept tokens have as many of them
pub same_count : (text words text₂ words₂ : List ℕ) → kept_tokens text words ≡ kept_tokens text₂ words₂ → length (kept_of words) ≡ length (kept_of words₂)
same_count text words text₂ words₂ agree = sym (view_length text words (kept_of words)) ∙ ap length agree ∙ view_length text₂ words₂ (kept_of words₂)

-- so that of well-formed ones, and kept lists of the same length, the door says the same
pub same_door : (text words text₂ words₂ : List ℕ) (start : ℕ) {room room₂ : ℕ} → WellFormed text words → WellFormed text₂ words₂ → kept_tokens text words ≡ kept_tokens text₂ words₂ → room ≡ room₂
    → door text words start room ≡ door text₂ words₂ start room₂
same_door text words text₂ words₂ start {room} {room₂} formed formed₂ agree long =
    door_formed text words start room formed ∙ rw (same_count text words text₂ words₂ agree, long) (sym (door_formed text₂ words₂ start room₂ formed₂))
