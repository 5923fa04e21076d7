-- The loop over a file's definitions: what each of its answers says of the tokens, and what definitions that follow the grammar make it answer.
use Prim.Native.Nat.{ℕ, zero, suc, ◌+◌, ◌≤◌, ◌<◌, zero-le}
use native.Mathlib.Nat.{add-zero}
use native.Mathlib.Omega.{arith}
use mathlib.Core.Path.{◌≡◌, refl, sym, ◌∙◌, ap}
use mathlib.Core.Bool.{Bool, true, false, ◌&&◌}
use mathlib.Core.List.{List, [], ◌∷◌, ◌++◌, append_assoc}
use lib.ListN.{length, take, drop, length-append, length-drop}
use lib.Seq.{length-take-le, take-add, drop-drop, drop-append_seam}
use borrow.Author.Tests.{eqb-true}
use Rattle.tokens.specs.Token.{Token, token_at}
use Rattle.tokens.specs.Kind.{Eof}
use Rattle.grammar.specs.Rules.{Rules}
use Rattle.grammar.specs.Grammar.{Many, none, more}
use Rattle.grammar.specs.Result.{Why, plain, Res, got, bad, counted, consed, less, bind, choose, many}
use Rattle.grammar.specs.FileReading.{Definition}
use Rattle.grammar.specs.FileGrammar.{Defined, include, define, repeats, remember_name, Fresh, fresh}
use Rattle.grammar.specs.FileReader.{by_kind, top_level, checked, ends_file, definition, parse}
use Rattle.grammar.proofs.Holds.{Holds, well, NoneOrOne, many_on, many_stop, many_skip}
use Rattle.grammar.proofs.Complete.{Opens, opening}
use Rattle.grammar.proofs.FileSound.{Top, top_holds, defined_some}
use Rattle.grammar.proofs.FileComplete.{top_complete}

-- the names behind earlier ones, the last first: what the rule on names remembers
unfoldable pub seen_after : List (List ℕ) → List Definition → List (List ℕ)
seen_after seen [] = seen
seen_after seen (d ∷ ds) = seen_after (remember_name seen d) ds

-- the loop is not at its end here
pub data Going : List Token → Type 0 where
  out : Going []
  goes : {t : Token} {ts : List Token} → ends_file t ≡ false → Going (t ∷ ts)

-- what was read and checked
pub checked_new : (names : Bool) (seen : List (List ℕ)) (d : Definition) (n : ℕ) → (names && repeats seen d) ≡ false → checked names seen (got d n) ≡ got d n
unfolding checked
checked_new names seen d n e = rw e

pub checked_again : (names : Bool) (seen : List (List ℕ)) (d : Definition) (n : ℕ) → (names && repeats seen d) ≡ true → checked names seen (got d n) ≡ bad (plain 20) d.name
unfolding checked
checked_again names seen d n e = rw e

pub defined_opens : (m : Rules) (p : ℕ) (xs : List Token) (d : Definition) → Defined m p xs d → Opens ends_file (λ t. true) xs
defined_opens m p xs d (include i s e f) = opening i (s ∷ []) (rw e) refl
defined_opens m p xs d (define {xs = us} t k n e f r) = opening t (k ∷ n ∷ us) (rw e) refl

module _ (m : Rules) (names : Bool) where
  abbrev Several : List (List ℕ) → ℕ → List Token → List Definition → Type 0
  Several = Many remember_name (Fresh m names)

  -- one turn of the loop, by what stands at top level
  turn : (seen : List (List ℕ)) (p : ℕ) (t : Token) (ts : List Token) (r : Res Definition) → ends_file t ≡ false → top_level m p (t ∷ ts) ≡ r
      → parse m names seen p (t ∷ ts) ≡ bind (checked names seen r) (λ d n. counted (suc (less n)) (consed d (many ends_file remember_name (definition m names) (remember_name seen d) (less n) (suc p) ts)))
  unfolding parse definition
  turn seen p t ts r h e =
      many_on ends_file remember_name (definition m names) seen p t ts h
      ∙ ap (λ x. bind (checked names seen x) (λ d n. counted (suc (less n)) (consed d (many ends_file remember_name (definition m names) (remember_name seen d) (less n) (suc p) ts)))) e

  -- a definition that is new, and the loop behind it
  turn_new : (seen : List (List ℕ)) (p k : ℕ) (t : Token) (ts : List Token) (d : Definition) → ends_file t ≡ false → top_level m p (t ∷ ts) ≡ got d (suc k) → (names && repeats seen d) ≡ false
      → parse m names seen p (t ∷ ts) ≡ counted (suc k) (consed d (parse m names (remember_name seen d) (p + suc k) (drop k ts)))
  unfolding parse
  turn_new seen p k t ts d h e f =
      let q : suc p + k ≡ p + suc k = omega arith in
      turn seen p t ts (got d (suc k)) h e
      ∙ ap (λ x. bind x (λ d n. counted (suc (less n)) (consed d (many ends_file remember_name (definition m names) (remember_name seen d) (less n) (suc p) ts)))) (checked_new names seen d (suc k) f)
      ∙ ap (λ r. counted (suc k) (consed d r)) (many_skip ends_file remember_name (definition m names) ts (remember_name seen d) k (suc p) ∙ ap (λ x. many ends_file remember_name (definition m names) (remember_name seen d) 0 x (drop k ts)) q)

  -- a definition that repeats a name
  turn_again : (seen : List (List ℕ)) (p n : ℕ) (t : Token) (ts : List Token) (d : Definition) → ends_file t ≡ false → top_level m p (t ∷ ts) ≡ got d n → (names && repeats seen d) ≡ true
      → parse m names seen p (t ∷ ts) ≡ bad (plain 20) d.name
  turn_again seen p n t ts d h e f =
      turn seen p t ts (got d n) h e
      ∙ ap (λ x. bind x (λ d n. counted (suc (less n)) (consed d (many ends_file remember_name (definition m names) (remember_name seen d) (less n) (suc p) ts)))) (checked_again names seen d n f)

  -- something that is refused
  pub turn_bad : (seen : List (List ℕ)) (p : ℕ) (ts : List Token) (y : Why) (q : ℕ) → Going ts → top_level m p ts ≡ bad y q → parse m names seen p ts ≡ bad y q
  unfolding parse definition many checked
  turn_bad seen p ts y q out e = ap (λ x. bind (checked names seen (top_level m x [])) (λ d n. got (d ∷ []) n)) (add-zero p) ∙ ap (λ r. bind (checked names seen r) (λ d n. got (d ∷ []) n)) e
  turn_bad seen p ts y q (goes {t = t} {ts = us} h) e = turn seen p t us (bad y q) h e

  -- definitions that follow the grammar, and Eof
  pub run_end : (seen : List (List ℕ)) (p : ℕ) (xs : List Token) (ds : List Definition) → Several seen p xs ds → (e : Token) → e.kind ≡ Eof → (ts : List Token) → parse m names seen p (xs ++ (e ∷ ts)) ≡ got ds (length xs)
  unfolding parse
  run_end seen p xs ds none e h ts = many_stop ends_file remember_name (definition m names) seen p e ts (rw h)
  run_end seen p xs ds (more {xs = us} {ys = vs} {a = d} {rs = es} (fresh x f) rest) e h ts =
      rw (append_assoc us vs (e ∷ ts), length-append us vs) (go us (defined_opens m p us d x) (top_complete m p us d x (vs ++ (e ∷ ts))) (run_end (remember_name seen d) (p + length us) vs es rest e h ts))
    where
      go : (us : List Token) → Opens ends_file (λ t. true) us → top_level m p (us ++ (vs ++ (e ∷ ts))) ≡ got d (length us)
          → parse m names (remember_name seen d) (p + length us) (vs ++ (e ∷ ts)) ≡ got es (length vs)
          → parse m names seen p (us ++ (vs ++ (e ∷ ts))) ≡ got (d ∷ es) (length us + length vs)
      go us (opening t zs o w) top later =
          turn_new seen p (length zs) t (zs ++ (vs ++ (e ∷ ts))) d o top f
          ∙ ap (λ us. counted (suc (length zs)) (consed d (parse m names (remember_name seen d) (p + suc (length zs)) us))) (drop-append_seam zs (vs ++ (e ∷ ts)))
          ∙ ap (λ r. counted (suc (length zs)) (consed d r)) later

  -- definitions that follow the grammar, and a refusal behind them
  pub run_bad : (seen : List (List ℕ)) (p : ℕ) (xs : List Token) (ds : List Definition) → Several seen p xs ds → (ts : List Token) (y : Why) (q : ℕ) → parse m names (seen_after seen ds) (p + length xs) ts ≡ bad y q
      → parse m names seen p (xs ++ ts) ≡ bad y q
  unfolding parse seen_after
  run_bad seen p xs ds none ts y q h = rw (add-zero p) at h
  run_bad seen p xs ds (more {xs = us} {ys = vs} {a = d} {rs = es} (fresh x f) rest) ts y q h =
      rw (append_assoc us vs ts) (go us (defined_opens m p us d x) (top_complete m p us d x (vs ++ ts)) (run_bad (remember_name seen d) (p + length us) vs es rest ts y q
      (ap (λ k. parse m names (seen_after (remember_name seen d) es) k ts) place ∙ h)))
    where
      place : p + length us + length vs ≡ p + length (us ++ vs)
      place = omega (arith, length-append us vs)

      go : (us : List Token) → Opens ends_file (λ t. true) us → top_level m p (us ++ (vs ++ ts)) ≡ got d (length us)
          → parse m names (remember_name seen d) (p + length us) (vs ++ ts) ≡ bad y q
          → parse m names seen p (us ++ (vs ++ ts)) ≡ bad y q
      go us (opening t zs o w) top later =
          turn_new seen p (length zs) t (zs ++ (vs ++ ts)) d o top f
          ∙ ap (λ us. counted (suc (length zs)) (consed d (parse m names (remember_name seen d) (p + suc (length zs)) us))) (drop-append_seam zs (vs ++ ts))
          ∙ ap (λ r. counted (suc (length zs)) (consed d r)) later

  -- and a definition that repeats a name
  pub here_again : (seen : List (List ℕ)) (p : ℕ) (xs ts : List Token) (d : Definition) → Defined m p xs d → (names && repeats seen d) ≡ true → parse m names seen p (xs ++ ts) ≡ bad (plain 20) d.name
  here_again seen p xs ts d x f = go xs (defined_opens m p xs d x) (top_complete m p xs d x ts)
    where
      go : (xs : List Token) → Opens ends_file (λ t. true) xs → top_level m p (xs ++ ts) ≡ got d (length xs) → parse m names seen p (xs ++ ts) ≡ bad (plain 20) d.name
      go xs (opening t zs o w) top = turn_again seen p (suc (length zs)) t (zs ++ ts) d o top f

  -- what an answer of the loop says: definitions up to Eof; definitions, and something that is refused; definitions, and one that repeats a name
  pub data Runs (seen : List (List ℕ)) (p : ℕ) (ts : List Token) : Res (List Definition) → Type 0 where
    whole : {ds : List Definition} {n : ℕ} → n < length ts → (token_at (drop n ts) 0).kind ≡ Eof → Several seen p (take n ts) ds → Runs seen p ts (got ds n)
    halted : (n : ℕ) {ds : List Definition} {w q : ℕ} {us : List Token} {y : Why}
        → n ≤ length ts
        → w ≡ p + n
        → drop n ts ≡ us
        → Several seen p (take n ts) ds
        → Going us
        → top_level m w us ≡ bad y q
        → Runs seen p ts (bad y q)
    twice : (n k : ℕ) {ds : List Definition} {w : ℕ} {us : List Token} {d : Definition}
        → n + k ≤ length ts
        → w ≡ p + n
        → drop n ts ≡ us
        → Several seen p (take n ts) ds
        → Defined m w (take k us) d
        → (names && repeats (seen_after seen ds) d) ≡ true
        → Runs seen p ts (bad (plain 20) d.name)

  -- one definition more before
  several_more : (seen : List (List ℕ)) (p n j : ℕ) (ts : List Token) (d : Definition) (ds : List Definition) → n ≤ length ts → Defined m p (take n ts) d → (names && repeats seen d) ≡ false
      → Several (remember_name seen d) (p + n) (take j (drop n ts)) ds
      → Several seen p (take (n + j) ts) (d ∷ ds)
  several_more seen p n j ts d ds h x f rest =
      let r : Several (remember_name seen d) (p + length (take n ts)) (take j (drop n ts)) ds = rw (length-take-le n ts h) rest in
      rw (take-add n j ts) (more (fresh x f) r)

  runs_more : (seen : List (List ℕ)) (p n : ℕ) (ts : List Token) (d : Definition) (r : Res (List Definition)) → n ≤ length ts → Defined m p (take n ts) d → (names && repeats seen d) ≡ false
      → Runs (remember_name seen d) (p + n) (drop n ts) r
      → Runs seen p ts (counted n (consed d r))
  unfolding seen_after
  runs_more seen p n ts d r h x f (whole {ds = ds} {n = j} l e s) =
      whole {n = n + j} (omega (arith, length-drop n ts)) (rw (drop-drop j n ts) at e) (several_more seen p n j ts d ds h x f s)
  runs_more seen p n ts d r h x f (halted j {ds = ds} {w = w} l x' u s g e) =
      halted (n + j) {ds = d ∷ ds} {w = w} (omega (arith, length-drop n ts)) (omega arith) (sym (drop-drop j n ts) ∙ u) (several_more seen p n j ts d ds h x f s) g e
  runs_more seen p n ts d r h x f (twice j k {ds = ds} {w = w} l y u s x' g) =
      twice (n + j) k {ds = d ∷ ds} {w = w} (omega (arith, length-drop n ts)) (omega arith) (sym (drop-drop j n ts) ∙ u) (several_more seen p n j ts d ds h x f s) x' g

  at_last : (seen : List (List ℕ)) (p : ℕ) → Runs seen p [] (parse m names seen p [])
  unfolding top_level by_kind choose
  at_last seen p = rw (turn_bad seen p [] (plain 1) p out refl) (halted 0 {ds = []} zero-le (sym (add-zero p)) refl none out refl)

  from_here : (seen : List (List ℕ)) (p : ℕ) (t : Token) (ts : List Token)
      → ((k : ℕ) (s : List (List ℕ)) (q : ℕ) → Runs s q (drop k ts) (parse m names s q (drop k ts)))
      → (b : Bool) → ends_file t ≡ b
      → Runs seen p (t ∷ ts) (parse m names seen p (t ∷ ts))
  unfolding parse seen_after
  from_here seen p t ts later true e =
      rw (many_stop ends_file remember_name (definition m names) seen p t ts e) (whole {n = 0} (omega arith) (eqb-true t.kind Eof e) none)
  from_here seen p t ts later false e = go (top_level m p (t ∷ ts)) refl (top_holds m p (t ∷ ts))
    where
      told : (d : Definition) (k : ℕ) → top_level m p (t ∷ ts) ≡ got d (suc k) → suc k ≤ length (t ∷ ts) → Defined m p (take (suc k) (t ∷ ts)) d → (b : Bool) → (names && repeats seen d) ≡ b
          → Runs seen p (t ∷ ts) (parse m names seen p (t ∷ ts))
      told d k x h y true f = rw (turn_again seen p (suc k) t ts d e x f) (twice 0 (suc k) {ds = []} (omega arith) (sym (add-zero p)) refl none y f)
      told d k x h y false f = rw (turn_new seen p k t ts d e x f) (runs_more seen p (suc k) (t ∷ ts) d (parse m names (remember_name seen d) (p + suc k) (drop k ts)) h y f (later k (remember_name seen d) (p + suc k)))

      go : (r : Res Definition) → top_level m p (t ∷ ts) ≡ r → Holds (Top m) (Defined m p) (NoneOrOne (Defined m p)) p (top_level m p) (t ∷ ts) r → Runs seen p (t ∷ ts) (parse m names seen p (t ∷ ts))
      go (got d zero) x (well h) = absurd (omega (arith, defined_some m p [] d h.follows))
      go (got d (suc k)) x (well h) = told d k x h.within h.follows (names && repeats seen d) refl
      go (bad y q) x h = rw (turn_bad seen p (t ∷ ts) y q (goes e) x) (halted 0 {ds = []} zero-le (sym (add-zero p)) refl none (goes e) x)

  pub runs : (ts : List Token) (k : ℕ) (seen : List (List ℕ)) (p : ℕ) → Runs seen p (drop k ts) (parse m names seen p (drop k ts))
  runs [] zero seen p = at_last seen p
  runs [] (suc k) seen p = at_last seen p
  runs (t ∷ ts) (suc k) seen p = runs ts k seen p
  runs (t ∷ ts) zero seen p = from_here seen p t ts (λ k s q. runs ts k s q) (ends_file t) refl
