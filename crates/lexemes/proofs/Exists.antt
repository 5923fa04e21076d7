-- Each text has exactly one reading or exactly one refusal, never both, and the walk over its bytes finds it. Assumes nothing.
use Prim.Native.Nat.{ℕ, zero, suc, ◌+◌, ◌-◌, ◌≤◌, ◌<◌}
use mathlib.Core.Path.{◌≡◌, refl, sym, ap, subst, ◌∙◌}
use mathlib.Core.List.{List, [], ◌∷◌}
use mathlib.Core.Logic.{◌⊎◌, inl, inr, ⊎_elim}
use native.Mathlib.Omega.{arith}
use lib.ListN.{length, get_or, drop, length-drop}
use Rattle.tokens.proofs.Laws.{lt_or_le}
use Rattle.std.specs.Prelude.{Ok, Err}
use Rattle.lexemes.specs.Contexts.{after}
use Rattle.lexemes.specs.Texts.{token_words, IsToken}
use Rattle.lexemes.specs.Errors.{error_number}
use Rattle.lexemes.specs.Reads.{eof_at, Reads, ends, goes, Stops, here, later, Reading, Refusal}
use Rattle.lexemes.specs.Reader.{Step, step_at, whole, refused, Walked, more, walk, reading}
use Rattle.lexemes.specs.declared.Context.{Context}
use Rattle.lexemes.specs.declared.Context.TheVariants.{Out}
use Rattle.lexemes.proofs.Exactly.{stop_bad, bad_stop, step_token, token_step}
use Rattle.lexemes.proofs.WalkLaws.{StepIn, step_in, token_in, walk_end, walk_stop, walk_token}

-- a token has four words
pub four : {c : Context} {s : ℕ} {bs : List ℕ} {n : ℕ} {t : List ℕ} → IsToken c s bs n t → t ≡ get_or t 0 0 ∷ get_or t 1 0 ∷ get_or t 2 0 ∷ get_or t 3 0 ∷ []
unfolding token_words
four x = rw x.words

module _ (text : List ℕ) where
  -- bytes are left
  left : (s : ℕ) → s < length text → 0 < length (drop s text)
  left s h = rw (length-drop s text) (omega arith)

  -- ---- there is one at most

  -- behind a token
  walk_on : {c : Context} {s n : ℕ} {t : List ℕ} → s < length text → IsToken c s (drop s text) n t
      → walk c s 0 (drop s text) ≡ more t (walk (after c (get_or t 0 0)) (s + n) 0 (drop (s + n) text))
  walk_on {c} {s} {n} {t} h x =
      let i = token_step c s (drop s text) (left s h) x in
      let b = token_in c s text h i in
      walk_token c text s (get_or t 0 0) (get_or t 1 0) (get_or t 2 0) (get_or t 3 0) (s + n) h i b.0 b.1
      ∙ ap (λ (y : List ℕ). more y (walk (after c (get_or t 0 0)) (s + n) 0 (drop (s + n) text))) (sym (four x))

  pub reads_walk : {c : Context} {s : ℕ} {ts : List (List ℕ)} → Reads text c s ts → walk c s 0 (drop s text) ≡ record { tokens = ts; end = whole }
  reads_walk {c} (ends {s = s} h) = walk_end c text s (omega arith)
  reads_walk (goes {t = t} h x r) = walk_on h x ∙ ap (more t) (reads_walk r)

  pub stops_walk : {c : Context} {s r q : ℕ} → Stops text c s r q → (walk c s 0 (drop s text)).end ≡ refused r q
  stops_walk {c} (here {s = s} h b) =
      let (r, n, i) = bad_stop c s (drop s text) (left s h) b in
      ap (λ (w : Walked). w.end) (walk_stop c text s r h i) ∙ ap (λ (x : ℕ). refused x s) (sym n)
  stops_walk (later h x p) = ap (λ (w : Walked). w.end) (walk_on h x) ∙ stops_walk p

  -- ---- and one there is

  abbrev Found : Context → ℕ → Type 0
  Found c s = ((ts : List (List ℕ)) × Reads text c s ts) ⊎ ((r : ℕ) × (q : ℕ) × Stops text c s r q)

  found : (k : ℕ) (c : Context) (s : ℕ) → s ≤ length text → length text - s ≤ k → Found c s
  found zero c s h l = inl (eof_at s ∷ [], ends {s = s} (omega arith))
  found (suc k) c s h l =
      ⊎_elim (λ (b : s < length text). go b (step_at c s (drop s text)) refl (step_in c s text b) (λ d n p q. found k d n p q)) (λ (b : length text ≤ s). inl (eof_at s ∷ [], ends {s = s} (omega arith)))
      (lt_or_le s (length text))
    where
      go : s < length text → (y : Step) → y ≡ step_at c s (drop s text) → StepIn s (length text) y
          → ((d : Context) (n : ℕ) → n ≤ length text → length text - n ≤ k → Found d n) → Found c s
      go b (Ok t) i j f =
          let m = step_token c s (drop s text) (left s b) t.kind t.start t.end t.extra t.next i in
          ⊎_elim (λ p. inl ((t.kind ∷ t.start ∷ t.end ∷ t.extra ∷ []) ∷ p.0, goes {ts = p.0} b m.2 (rw (← m.1) p.1)))
          (λ p. inr (p.0, p.1, later {r = p.0} {q = p.1} b m.2 (rw (← m.1) p.2)))
          (f (after c t.kind) t.next j.1 (omega arith))
      go b (Err r) i j f = inr (error_number r, s, here b (stop_bad c s (drop s text) (left s b) r i))

  -- a text has a reading, or it is refused
  pub reading_or_refusal : ((ts : List (List ℕ)) × Reading text ts) ⊎ ((r : ℕ) × (q : ℕ) × Refusal text r q)
  reading_or_refusal = found (length text) Out 0 (omega arith) (omega arith)

  -- one reading
  pub one_reading : {ts us : List (List ℕ)} → Reading text ts → Reading text us → ts ≡ us
  one_reading a b = ap (λ (w : Walked). w.tokens) (sym (reads_walk a) ∙ reads_walk b)

  -- one refusal
  pub one_refusal : {r q r₂ q₂ : ℕ} → Refusal text r q → Refusal text r₂ q₂ → (r ≡ r₂) × (q ≡ q₂)
  one_refusal a b = let e = sym (stops_walk a) ∙ stops_walk b in ((cc), (cc))

  -- and not both
  pub never_both : {ts : List (List ℕ)} {r q : ℕ} → Reading text ts → ¬ Refusal text r q
  never_both a b = let e = sym (ap (λ (w : Walked). w.end) (reads_walk a)) ∙ stops_walk b in let z : ◌≡◌ {A = ℕ} 0 1 = cc in absurd (omega arith)

  -- ---- the walk finds it

  pub walk_reads : (reading text).end ≡ whole → Reading text (reading text).tokens
  walk_reads e =
      ⊎_elim (λ p. subst (λ (w : Walked). Reading text w.tokens) (sym (reads_walk p.1)) p.1)
      (λ p. let f = sym e ∙ stops_walk p.2 in let z : ◌≡◌ {A = ℕ} 0 1 = cc in absurd (omega arith))
      reading_or_refusal

  pub walk_stops : (r q : ℕ) → (reading text).end ≡ refused r q → Refusal text r q
  walk_stops r q e =
      ⊎_elim (λ p. let f = sym e ∙ ap (λ (w : Walked). w.end) (reads_walk p.1) in let z : ◌≡◌ {A = ℕ} 0 1 = cc in absurd (omega arith))
      (λ p. let f = sym (stops_walk p.2) ∙ e in let y : p.0 ≡ r = cc in let z : p.1 ≡ q = cc in rw (← y, ← z) p.2)
      reading_or_refusal
