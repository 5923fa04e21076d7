-- What the accessors by place say of the view, which is all that the layers above look at. Assumes nothing.
use Prim.Native.Nat.{ℕ, zero, suc, ◌+◌, ◌*◌, ◌≤◌, ◌<◌}
use mathlib.Core.Path.{◌≡◌, refl}
use mathlib.Core.List.{List, [], ◌∷◌, map}
use mathlib.Core.Logic.{⊎_elim}
use native.Mathlib.Nat.{add-zero, le_of_suc-le-suc, not-suc-le-zero}
use borrow.Author.Tests.{lt-ltb, le-ltb}
use lib.ListN.{length, get_or, length-map, get_or-eq_default}
use Rattle.tokens.specs.Token.{eof_token, token_of, view, token_at}
use Rattle.tokens.specs.Place.{field_at, kind_at, extra_at, text_at}
use Rattle.tokens.proofs.Laws.{lt_or_le}

map_at : {A B : Type 0} (f : A → B) (l : List A) (p : ℕ) (d : B) (e : A) → p < length l → get_or (map f l) p d ≡ f (get_or l p e)
map_at f [] p d e h = absurd (not-suc-le-zero h)
map_at f (x ∷ l) zero d e h = refl
map_at f (x ∷ l) (suc p) d e h = map_at f l p d e (le_of_suc-le-suc h)

module _ (text words kept : List ℕ) where
  -- a view is as long as its kept list
  pub view_length : length (view text words kept) ≡ length kept
  unfolding view
  view_length = length-map kept (token_of text words)

  pub view_inside : (p : ℕ) → p < length kept → token_at (view text words kept) p ≡ token_of text words (get_or kept p 0)
  unfolding view
  view_inside p h = map_at (token_of text words) kept p eof_token 0 h

  -- past its end stands an Eof
  pub view_past : (p : ℕ) → length kept ≤ p → token_at (view text words kept) p ≡ eof_token
  view_past p h = get_or-eq_default (view text words kept) eof_token (rw view_length h)

  pub field_inside : (j p : ℕ) → p < length kept → field_at j words kept p ≡ get_or words (get_or kept p 0 * 4 + j) 0
  unfolding field_at
  field_inside j p h = rw (lt-ltb _ _ h)

  field_past : (j p : ℕ) → length kept ≤ p → field_at j words kept p ≡ 0
  unfolding field_at
  field_past j p h = rw (le-ltb _ _ h)

  -- the kind, the extra and the text at a place are those of the view's token there
  pub view_kind : (p : ℕ) → (token_at (view text words kept) p).kind ≡ kind_at words kept p
  unfolding token_of
  view_kind p =
      ⊎_elim (λ (h : p < length kept). rw (view_inside p h, field_inside 0 p h, add-zero))
      (λ (h : length kept ≤ p). rw (view_past p h, field_past 0 p h)) (lt_or_le p (length kept))

  pub view_extra : (p : ℕ) → (token_at (view text words kept) p).extra ≡ extra_at words kept p
  unfolding token_of
  view_extra p =
      ⊎_elim (λ (h : p < length kept). rw (view_inside p h, field_inside 3 p h))
      (λ (h : length kept ≤ p). rw (view_past p h, field_past 3 p h)) (lt_or_le p (length kept))

  pub view_text : (p : ℕ) → (token_at (view text words kept) p).text ≡ text_at text words kept p
  unfolding token_of
  view_text p =
      ⊎_elim (λ (h : p < length kept). rw (view_inside p h, field_inside 1 p h, field_inside 2 p h))
      (λ (h : length kept ≤ p). rw (view_past p h, field_past 1 p h, field_past 2 p h)) (lt_or_le p (length kept))
