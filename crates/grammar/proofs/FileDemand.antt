-- The theorems on files: accepted exactly if the tokens before Eof follow the grammar; the prefix law; the cursor; 20 and 21 stated apart. All hold for
-- every rule set.
use Prim.Native.Nat.{ℕ, zero, suc, ◌+◌, ◌-◌, ◌≤◌, ◌<◌}
use native.Mathlib.Nat.{add-zero, sub-zero, le_antisymm}
use native.Mathlib.Numerals.{add-one}
use native.Mathlib.Omega.{arith}
use mathlib.Core.Path.{◌≡◌, refl, sym, ◌∙◌, ap}
use mathlib.Core.Logic.{◌↔◌}
use mathlib.Core.Bool.{Bool, true, false, cond, ◌&&◌, ◌||◌, false≢true, or-true, or-false, and-false, and-eq-true_iff}
use mathlib.Core.List.{List, [], ◌∷◌, ◌++◌, append_assoc}
use lib.ListN.{length, take, drop, length-append, length-drop, take-append-drop, get_or-append}
use lib.Seq.{length-take-le, take-add, drop-drop, drop-cons, get_or-drop, take-append-le, take-take, take_at, drop_at}
use lib.Dec.{eqb}
use borrow.Author.Tests.{eqb-true, ne_eqb}
use Rattle.tokens.specs.Token.{Token, token_at, eof_token}
use Rattle.tokens.specs.Kind.{Eof, Pound}
use Rattle.tokens.specs.Byte.{same}
use Rattle.tokens.specs.Name.{one_of}
use Rattle.grammar.specs.Rules.{Rules}
use Rattle.grammar.specs.Grammar.{Many, none, more}
use Rattle.grammar.specs.Result.{Why, plain, number, beyond, Res, got, bad, choose, Answer, read, refused, answer}
use Rattle.grammar.specs.Follows.{proper, all_proper, past}
use Rattle.grammar.specs.FileReading.{Definition, is_macro}
use Rattle.grammar.specs.FileGrammar.{Defined, repeats, remember_name, Fresh, fresh, File}
use Rattle.grammar.specs.FileReader.{by_kind, top_level, parse, file_at}
use Rattle.grammar.specs.FileFollows.{FollowsFile, macro_names, RepeatedAt, Reached, FirstWrongFile, CursorAt, has_typed, past_in, is_definition_number}
use Rattle.grammar.specs.FileMeans.{MeansFile, means_read, means_repeated, means_wrong}
use Rattle.grammar.specs.Same.{Agree}
use Rattle.grammar.proofs.Demand.{was_read, was_refused}
use Rattle.grammar.proofs.Lists.{agree_less, agree_drop, agree_cons, agree_none, not_less}
use Rattle.grammar.proofs.Holds.{Holds, ill, NoneOrOne, nothing, one, some_of}
use Rattle.grammar.proofs.FileSound.{Top, top_holds, top_cursor, pound_only}
use Rattle.grammar.proofs.FileComplete.{top_complete}
use Rattle.grammar.proofs.FileRuns.{seen_after, Going, out, goes, Runs, whole, halted, twice, runs, run_end, run_bad, turn_bad, here_again}

token_at_lem : (p : ℕ) (kept : List Token) → token_at (drop p kept) 0 ≡ token_at kept p
token_at_lem p kept = get_or-drop p kept 0 eof_token ∙ ap (token_at kept) (add-zero p)

module _ (m : Rules) (names : Bool) where
  -- an answer of the loop, with what it says
  at_file : (kept : List Token) (x : Res (List Definition)) → parse m names [] 0 kept ≡ x → Runs m names [] 0 kept x
  at_file kept x e = rw e at (runs m names kept 0 [] 0)

  sound : (kept : List Token) (n : ℕ) (ds : List Definition) → Runs m names [] 0 kept (got ds n) → FollowsFile m names kept n ds
  sound kept n ds (whole l e s) = (l, ap (λ t. t.kind) (sym (token_at_lem n kept)) ∙ e, s)

  complete : (kept : List Token) (n : ℕ) (ds : List Definition) → FollowsFile m names kept n ds → parse m names [] 0 kept ≡ got ds n
  complete kept n ds h =
      let w : n ≤ length kept = omega (arith, h.0) in
      ap (parse m names [] 0) (sym (take-append-drop n kept) ∙ ap (λ ts. take n kept ++ ts) (drop-cons kept n eof_token h.0))
      ∙ run_end m names [] 0 (take n kept) ds h.2 (token_at kept n) h.1 (drop (suc n) kept)
      ∙ ap (got ds) (length-take-le n kept w)

  -- Theorem 1. Accepted with ds and Eof at n exactly if the n tokens before it are a file that reads ds
  pub file_exactly : (kept : List Token) (n : ℕ) (ds : List Definition) → (file_at m names kept ≡ read ds n) ↔ FollowsFile m names kept n ds
  unfolding file_at
  file_exactly kept n ds = (
    (λ e. sound kept n ds (at_file kept (got ds n) (was_read (parse m names [] 0 kept) ds n e))),
    (λ h. ap answer (complete kept n ds h)),
  )

  -- a file has only one reading
  pub file_only_one : (kept : List Token) (n n' : ℕ) (ds ds' : List Definition) → FollowsFile m names kept n ds → FollowsFile m names kept n' ds' → (n ≡ n') × (ds ≡ ds')
  file_only_one kept n n' ds ds' h h' =
      let e : file_at m names kept ≡ read ds n = (file_exactly kept n ds).1 h in
      let e' : file_at m names kept ≡ read ds' n' = (file_exactly kept n' ds').1 h' in
      ((cc), (cc))

  -- a refused one has none
  pub file_refused_none : (kept : List Token) (c q : ℕ) → file_at m names kept ≡ refused c q → (n : ℕ) (ds : List Definition) → ¬ FollowsFile m names kept n ds
  file_refused_none kept c q e n ds h =
      let e' : file_at m names kept ≡ read ds n = (file_exactly kept n ds).1 h in
      let z : ◌≡◌ {A = ℕ} 0 1 = cc in
      omega arith

  -- the number of something refused at top level
  top_number : (p : ℕ) (ts : List Token) (y : Why) (q : ℕ) → top_level m p ts ≡ bad y q → (is_definition_number m (number y) || eqb (number y) 21) ≡ true
  top_number p ts y q e = go (rw e at (top_holds m p ts))
    where
      go : {f : List Token → Res Definition} → Holds (Top m) (Defined m p) (NoneOrOne (Defined m p)) p f ts (bad y q) → (is_definition_number m (number y) || eqb (number y) 21) ≡ true
      go (ill h) = h.told.1

-- that the loop is not at its end is seen at the next token
going_agrees : (n : ℕ) (ts us : List Token) → take (suc n) ts ≡ take (suc n) us → Going ts → Going us
going_agrees n ts us e out = rw (agree_none n us e) out
going_agrees n ts us e (goes {t = t} {ts = ts'} h) = let c = agree_cons n t ts' us e in rw c.1 (goes h)

-- the rule on names left aside
relax : (m : Rules) (names : Bool) (seen : List (List ℕ)) (p : ℕ) (xs : List Token) (ds : List Definition) → Many remember_name (Fresh m names) seen p xs ds → Many remember_name (Fresh m false) seen p xs ds
relax m names seen p xs ds none = none
relax m names seen p xs ds (more {xs = us} {ys = vs} {a = d} {rs = es} (fresh x f) rest) = more (fresh x refl) (relax m names (remember_name seen d) (p + length us) vs es rest)

-- a refusal other than 20 is given for every list that keeps the tokens up to the first wrong one, and with the rule on names left aside too
same_halt : (m : Rules) (names names' : Bool) (kept other : List Token) (y : Why) (w : ℕ)
    → ((n : ℕ) (ds : List Definition) → File m names (take n kept) ds → File m names' (take n kept) ds)
    → Runs m names [] 0 kept (bad y w)
    → eqb (number y) 20 ≡ false
    → take (suc w) kept ≡ take (suc w) other
    → parse m names' [] 0 other ≡ bad y w
same_halt m names names' kept other y w weaken (twice n k l e u s d f) h a = absurd (false≢true (sym h))
same_halt m names names' kept other y w weaken (halted n {ds = ds} {w = v} {us = us} l e u s g x) h a = go (rw x at (top_holds m v us))
  where
    go : Holds (Top m) (Defined m v) (NoneOrOne (Defined m v)) v (top_level m v) us (bad y w) → parse m names' [] 0 other ≡ bad y w
    go (ill b) =
        let at : take (n + suc b.off) kept ≡ take (n + suc b.off) other = agree_less (n + suc b.off) (suc w) kept other (omega (arith, b.place)) a in
        let front : take n kept ≡ take n other = agree_less n (n + suc b.off) kept other (omega arith) at in
        let back : take (suc b.off) us ≡ take (suc b.off) (drop n other) = ap (take (suc b.off)) (sym u) ∙ agree_drop n (suc b.off) kept other at in
        let long : 0 + length (take n other) ≡ v = omega (arith, length-take-le n kept l, ap length front) in
        let file : File m names' (take n other) ds = rw front at (weaken n ds s) in
        ap (parse m names' [] 0) (sym (take-append-drop n other))
        ∙ run_bad m names' [] 0 (take n other) ds file (drop n other) y w
        (ap (λ k. parse m names' (seen_after [] ds) k (drop n other)) long
        ∙ turn_bad m names' (seen_after [] ds) v (drop n other) y w (going_agrees b.off us (drop n other) back g) (b.sure (drop n other) back))

-- Theorem 3. Refused at cursor q with a number other than 20, every list with the same tokens from place 0 to q is refused alike
pub file_same_refusal : (m : Rules) (names : Bool) (kept other : List Token) (c q : ℕ) → file_at m names kept ≡ refused c q → eqb c 20 ≡ false → Agree 0 q kept other
    → file_at m names other ≡ refused c q
unfolding file_at
file_same_refusal m names kept other c q e h a =
    let (y, w, x, cy, cw) = was_refused (parse m names [] 0 kept) c q e in
    let r = same_halt m names names kept other y w (λ n ds f. f) (at_file m names kept (bad y w) x) (rw cy h) (agree_less (suc w) (suc q) kept other (omega arith) (rw (sub-zero (suc q)) at a)) in
    ap answer r ∙ cc

-- with another number than 20, the rule on names plays no part
pub names_aside : (m : Rules) (names : Bool) (kept : List Token) (c q : ℕ) → file_at m names kept ≡ refused c q → eqb c 20 ≡ false → file_at m false kept ≡ refused c q
unfolding file_at
names_aside m names kept c q e h =
    let (y, w, x, cy, cw) = was_refused (parse m names [] 0 kept) c q e in
    let r = same_halt m names false kept kept y w (λ n ds f. relax m names [] 0 (take n kept) ds f) (at_file m names kept (bad y w) x) (rw cy h) refl in
    ap answer r ∙ cc

-- definitions behind definitions
many_append : (m : Rules) (names : Bool) (seen : List (List ℕ)) (p : ℕ) (xs ys : List Token) (ds es : List Definition) → Many remember_name (Fresh m names) seen p xs ds
    → Many remember_name (Fresh m names) (seen_after seen ds) (p + length xs) ys es
    → Many remember_name (Fresh m names) seen p (xs ++ ys) (ds ++ es)
unfolding seen_after
many_append m names seen p xs ys ds es none h = rw (add-zero p) at h
many_append m names seen p xs ys ds es (more {xs = us} {ys = vs} {a = d} {rs = qs} x rest) h =
    let place : p + length (us ++ vs) ≡ p + length us + length vs = omega (arith, length-append us vs) in
    let r : Many remember_name (Fresh m names) (remember_name seen d) (p + length us) (vs ++ ys) (qs ++ es) = many_append m names (remember_name seen d) (p + length us) vs ys qs es rest (rw place at h) in
    rw (append_assoc us vs ys) (more x r)

none_or_fresh : (m : Rules) (seen : List (List ℕ)) (p : ℕ) (xs : List Token) → NoneOrOne (Defined m p) xs → NoneOrOne (Fresh m false seen p) xs
none_or_fresh m seen p xs nothing = nothing
none_or_fresh m seen p xs (one h) = one (fresh h refl)

first_wrong : (m : Rules) (kept : List Token) (y : Why) (w : ℕ) → Runs m false [] 0 kept (bad y w) → eqb (number y) 20 ≡ false → FirstWrongFile m kept w × CursorAt m kept (number y) (w + beyond y) w
first_wrong m kept y w (twice n k l e u s d f) h = absurd (false≢true (sym h))
first_wrong m kept y w (halted n {ds = ds} {w = v} {us = us} l e u s g x) h = go (rw x at (top_holds m v us))
  where
    -- what is refused stands at n
    at_n : top_level m n (drop n kept) ≡ bad y w
    at_n = let place : v ≡ n = omega arith in ap (top_level m n) u ∙ rw place at x

    beyond_here : n ≤ w → beyond y ≡ past_in (has_typed (token_at kept (suc n)).kind) (number y) (drop w kept)
    beyond_here i =
        let k : n + (w - n) ≡ w = omega arith in
        top_cursor m n (drop n kept) y w at_n
        ∙ ap (λ t. past_in (has_typed t.kind) (number y) (drop (w - n) (drop n kept))) (get_or-drop n kept 1 eof_token ∙ ap (token_at kept) (add-one n))
        ∙ ap (past_in (has_typed (token_at kept (suc n)).kind) (number y)) (drop-drop (w - n) n kept ∙ ap (λ j. drop j kept) k)

    none_whole : (k : ℕ) (d : Definition) → ¬ Defined m n (take k (drop n kept)) d
    none_whole k d z =
        let t = top_complete m n (take k (drop n kept)) d z (drop k (drop n kept)) in
        let b = sym at_n ∙ ap (top_level m n) (sym (take-append-drop k (drop n kept))) ∙ t in
        let o : ◌≡◌ {A = ℕ} 0 1 = cc in
        omega arith

    go : Holds (Top m) (Defined m v) (NoneOrOne (Defined m v)) v (top_level m v) us (bad y w) → FirstWrongFile m kept w × CursorAt m kept (number y) (w + beyond y) w
    go (ill b) =
        let place : w ≡ n + b.off = omega (arith, b.place) in
        let long : 0 + length (take n kept) ≡ v = omega (arith, length-take-le n kept l) in
        let split : take w kept ≡ take n kept ++ take b.off us = ap (λ k. take k kept) place ∙ take-add n b.off kept ∙ ap (λ ts. take n kept ++ take b.off ts) u in
        let more' = some_of remember_name (Fresh m false) (seen_after [] ds) v (take b.off us ++ b.goes.0) (none_or_fresh m (seen_after [] ds) v (take b.off us ++ b.goes.0) b.goes.2) in (
          record {
            inside = omega (arith, b.within, length-drop n kept, ap length u);
            begins = (
              b.goes.0,
              ds ++ more'.0,
              rw (split, append_assoc (take n kept) (take b.off us) b.goes.0) (many_append m false [] 0 (take n kept) (take b.off us ++ b.goes.0) ds more'.0 s (rw long more'.1)),
              b.goes.1,
            );
            hopeless = λ other a k es f.
                let z = sym (complete m false other k es f) ∙ same_halt m false false kept other y w (λ n ds f. f) (halted n l e u s g x) h a in
                let o : ◌≡◌ {A = ℕ} 0 1 = cc in
                omega arith;
          },
          record {
            definitions = ds;
            n = n;
            before = omega (arith, place);
            stand = s;
            ends = none_whole;
            cursor = ap (λ j. w + j) (beyond_here (omega (arith, place)));
          },
        )

-- Theorem 4. For every refusal but 20 there is a first token that the rules don't allow, the rule on names left aside, and the cursor is it, or one past it in
-- document 01's two cases
pub file_cursor : (m : Rules) (names : Bool) (kept : List Token) (c q : ℕ) → file_at m names kept ≡ refused c q → eqb c 20 ≡ false → (w : ℕ) × FirstWrongFile m kept w × CursorAt m kept c q w
unfolding file_at
file_cursor m names kept c q e h =
    let (y, w, x, cy, cw) = was_refused (parse m false [] 0 kept) c q (names_aside m names kept c q e h) in
    let f = first_wrong m kept y w (at_file m false kept (bad y w) x) (rw cy h) in
    let r : CursorAt m kept (number y) (w + beyond y) w = f.1 in
    (w, f.0, rw cw at (rw cy at r))

-- a place before one at which the tokens can still go on is not hopeless
not_before : (m : Rules) (kept : List Token) (w w' : ℕ) → FirstWrongFile m kept w → FirstWrongFile m kept w' → w < w' → ⊥
not_before m kept w w' f f' h =
    let b = f'.begins in
    let whole : List Token = take w' kept ++ b.0 in
    f.hopeless (whole ++ (eof_token ∷ []))
    (sym (take-take (suc w) w' kept h)
    ∙ sym (take-append-le (suc w) (take w' kept) (b.0 ++ (eof_token ∷ [])) (omega (arith, length-take-le w' kept f'.inside)))
    ∙ ap (take (suc w)) (sym (append_assoc (take w' kept) b.0 (eof_token ∷ []))))
    (length whole) b.1 (
      omega (arith, length-append whole (eof_token ∷ [])),
      ap (λ t. t.kind) (sym (token_at_lem (length whole) (whole ++ (eof_token ∷ []))) ∙ ap (λ ts. token_at ts 0) (drop_at whole (eof_token ∷ []) (length whole) refl)),
      rw (take_at whole (eof_token ∷ []) (length whole) refl) b.2,
    )

-- there is only one
pub file_only_first : (m : Rules) (kept : List Token) (w w' : ℕ) → FirstWrongFile m kept w → FirstWrongFile m kept w' → w ≡ w'
file_only_first m kept w w' f f' = le_antisymm (not_less (not_before m kept w' w f' f)) (not_less (not_before m kept w w' f f'))

-- a number is a definition's, 20 or 21
not_twenty : (m : Rules) (c : ℕ) → (is_definition_number m c || eqb c 21) ≡ true → c ≡ 20 → ⊥
not_twenty m c h e = false≢true (sym (no m.names_once) ∙ ap (λ k. is_definition_number m k || eqb k 21) (sym e) ∙ h)
  where
    no : (b : Bool) → ((b && false) || false) ≡ false
    no true = refl
    no false = refl

-- the numbers of a refused file: a definition's (1 to 13), 20, 21
pub file_numbers_lem : (m : Rules) (names : Bool) (kept : List Token) (c q : ℕ) → file_at m names kept ≡ refused c q → (is_definition_number m c || eqb c 21 || eqb c 20) ≡ true
unfolding file_at
file_numbers_lem m names kept c q e =
    let (y, w, x, cy, cw) = was_refused (parse m names [] 0 kept) c q e in
    rw cy at (go y w (at_file m names kept (bad y w) x))
  where
    go : (y : Why) (w : ℕ) → Runs m names [] 0 kept (bad y w) → (is_definition_number m (number y) || eqb (number y) 21 || eqb (number y) 20) ≡ true
    go y w (halted n {w = v} {us = us} l f u s g x) = rw (top_number m names v us y w x)
    go y w (twice n k l f u s x g) = or-true (is_definition_number m 20 || false)

-- the names remembered are those of the definitions
seen_names : (seen : List (List ℕ)) (ds : List Definition) (x : List ℕ) → one_of (seen_after seen ds) x ≡ (one_of (macro_names ds) x || one_of seen x)
unfolding seen_after macro_names one_of
seen_names seen [] x = refl
seen_names seen (d ∷ ds) x = seen_names (remember_name seen d) ds x ∙ go (is_macro d.form)
  where
    turned : (a b c : Bool) → (a || (b || c)) ≡ ((b || a) || c)
    turned true true c = refl
    turned true false c = refl
    turned false true c = refl
    turned false false c = refl

    go : (b : Bool) → (one_of (macro_names ds) x || one_of (cond b (d.token.text ∷ seen) seen) x) ≡ (one_of (cond b (d.token.text ∷ macro_names ds) (macro_names ds)) x || one_of seen x)
    go true = turned (one_of (macro_names ds) x) (same d.token.text x) (one_of seen x)
    go false = refl

seen_repeats : (ds : List Definition) (d : Definition) → repeats (seen_after [] ds) d ≡ repeats (macro_names ds) d
unfolding repeats one_of
seen_repeats ds d = ap (λ b. is_macro d.form && b) (seen_names [] ds d.token.text ∙ or-false (one_of (macro_names ds) d.token.text))

-- 20 is given exactly where a macro, fn or test stands whole behind definitions without a repeated name, and repeats one of theirs: at its name
pub file_repeated : (m : Rules) (kept : List Token) (q : ℕ) → (file_at m true kept ≡ refused 20 q) ↔ RepeatedAt m kept q
unfolding file_at
file_repeated m kept q = (
  (λ e.
      let (y, w, x, cy, cw) = was_refused (parse m true [] 0 kept) 20 q e in
      from y w cy cw (at_file m true kept (bad y w) x)),
  (λ r.
      let long : 0 + length (take r.n kept) ≡ r.n = omega (arith, r.inside, length-take-le r.n kept (omega (arith, r.inside))) in
      ap answer
      (ap (parse m true [] 0) (sym (take-append-drop r.n kept))
      ∙ run_bad m true [] 0 (take r.n kept) r.before r.begins (drop r.n kept) (plain 20) r.again.name
      (ap (λ k. parse m true (seen_after [] r.before) k (drop r.n kept)) long
      ∙ ap (parse m true (seen_after [] r.before) r.n) (sym (take-append-drop r.k (drop r.n kept)))
      ∙ here_again m true (seen_after [] r.before) r.n (take r.k (drop r.n kept)) (drop r.k (drop r.n kept)) r.again r.stands (seen_repeats r.before r.again ∙ r.twice)))
      ∙ ap (refused 20) (add-zero r.again.name ∙ sym r.place)),
)
  where
    from : (y : Why) (w : ℕ) → number y ≡ 20 → w + beyond y ≡ q → Runs m true [] 0 kept (bad y w) → RepeatedAt m kept q
    from y w cy cw (halted n {w = v} {us = us} l e u s g x) = absurd (not_twenty m (number y) (top_number m true v us y w x) cy)
    from y w cy cw (twice n k {ds = ds} {w = v} {us = us} {d = d} l e u s x f) =
        let place : v ≡ n = omega arith in
        record { before = ds; again = d; n = n; k = k; inside = l; begins = s; stands = rw (place, sym u) at x; twice = sym (seen_repeats ds d) ∙ f; place = sym cw ∙ add-zero d.name }

pound_cursor : (m : Rules) (p : ℕ) (ts : List Token) (y : Why) (q : ℕ) → top_level m p ts ≡ bad y q → number y ≡ 21 → beyond y ≡ 0
unfolding past past_in
pound_cursor m p ts y q e n =
    let b : Bool = has_typed (token_at ts 1).kind in
    let z : past_in b 21 (drop (q - p) ts) ≡ 0 = rw (and-false b) in
    top_cursor m p ts y q e ∙ ap (λ c. past_in b c (drop (q - p) ts)) n ∙ z

-- 21 is given exactly where definitions stand up to a Pound
pub file_pound : (m : Rules) (names : Bool) (kept : List Token) (q : ℕ) → (file_at m names kept ≡ refused 21 q) ↔ Reached m names kept Pound q
unfolding file_at top_level by_kind choose
file_pound m names kept q = (
  (λ e.
      let (y, w, x, cy, cw) = was_refused (parse m names [] 0 kept) 21 q e in
      from y w cy cw (at_file m names kept (bad y w) x)),
  (λ r.
      let long : 0 + length (take q kept) ≡ q = omega (arith, r.inside, length-take-le q kept (omega (arith, r.inside))) in
      let here : drop q kept ≡ token_at kept q ∷ drop (suc q) kept = drop-cons kept q eof_token r.inside in
      let top : top_level m q (token_at kept q ∷ drop (suc q) kept) ≡ bad (plain 21) q = rw r.here in
      ap answer
      (ap (parse m names [] 0) (sym (take-append-drop q kept) ∙ ap (λ ts. take q kept ++ ts) here)
      ∙ run_bad m names [] 0 (take q kept) r.before r.begins (token_at kept q ∷ drop (suc q) kept) (plain 21) q
      (ap (λ k. parse m names (seen_after [] r.before) k (token_at kept q ∷ drop (suc q) kept)) long
      ∙ turn_bad m names (seen_after [] r.before) q (token_at kept q ∷ drop (suc q) kept) (plain 21) q (goes (rw r.here)) top))
      ∙ ap (refused 21) (add-zero q)),
)
  where
    some : (us : List Token) → Going us → (token_at us 0).kind ≡ Pound → 0 < length us
    some us out k = absurd (omega (arith, k))
    some us (goes h) k = omega arith

    from : (y : Why) (w : ℕ) → number y ≡ 21 → w + beyond y ≡ q → Runs m names [] 0 kept (bad y w) → Reached m names kept Pound q
    from y w cy cw (twice n k l e u s x f) = absurd (omega (arith, cy))
    from y w cy cw (halted n {ds = ds} {w = v} {us = us} l e u s g x) =
        let (k, o) = pound_only m v us y w x cy in
        let place : n ≡ q = omega (arith, pound_cursor m v us y w x cy) in
        record {
          before = ds;
          inside = omega (arith, some us g k, ap length u, length-drop n kept);
          begins = rw place at s;
          here = ap (λ j. (token_at kept j).kind) (sym place) ∙ ap (λ t. t.kind) (sym (token_at_lem n kept)) ∙ ap (λ ts. (token_at ts 0).kind) u ∙ k;
        }

-- without the rule on names: refused exactly if some place is the first wrong one
pub file_refused_exactly : (m : Rules) (kept : List Token) → ((c : ℕ) × (q : ℕ) × (file_at m false kept ≡ refused c q)) ↔ ((w : ℕ) × FirstWrongFile m kept w)
unfolding file_at
file_refused_exactly m kept = (
  (λ e.
      let (y, w, x, cy, cw) = was_refused (parse m false [] 0 kept) e.0 e.1 e.2 in
      let r = at_file m false kept (bad y w) x in
      (w, (first_wrong m kept y w r (no_twenty y w r)).0)),
  (λ f. go f.0 f.1 (file_at m false kept) refl),
)
  where
    no_twenty : (y : Why) (w : ℕ) → Runs m false [] 0 kept (bad y w) → eqb (number y) 20 ≡ false
    no_twenty y w (twice n k l e u s x f) = absurd (false≢true f)
    no_twenty y w (halted n {w = v} {us = us} l e u s g x) = ne_eqb (number y) 20 (not_twenty m (number y) (top_number m false v us y w x))

    go : (w : ℕ) → FirstWrongFile m kept w → (x : Answer (List Definition)) → file_at m false kept ≡ x → (c : ℕ) × (q : ℕ) × (file_at m false kept ≡ refused c q)
    go w f (read ds n) e = absurd (f.hopeless kept refl n ds ((file_exactly m false kept n ds).0 e))
    go w f (refused c q) e = (c, q, e)

-- what every answer means, without the reader
pub file_means : (m : Rules) (kept : List Token) → MeansFile m kept (file_at m true kept)
file_means m kept = go (file_at m true kept) refl
  where
    wrong : (c q : ℕ) → file_at m true kept ≡ refused c q → (b : Bool) → eqb c 20 ≡ b → MeansFile m kept (refused c q)
    wrong c q e true h = let k : c ≡ 20 = eqb-true c 20 h in means_repeated k ((file_repeated m kept q).0 (e ∙ ap (λ j. refused j q) k))
    wrong c q e false h = let f = file_cursor m true kept c q e h in means_wrong f.0 h f.1 f.2

    go : (x : Answer (List Definition)) → file_at m true kept ≡ x → MeansFile m kept x
    go (read ds n) e = means_read ((file_exactly m true kept n ds).0 e)
    go (refused c q) e = wrong c q e (eqb c 20) refl

-- a proper token is no Eof
no_eof : (ts : List Token) (n : ℕ) → all_proper ts ≡ true → n < length ts → (token_at ts n).kind ≡ Eof → ⊥
unfolding all_proper proper
no_eof [] n h l e = omega arith
no_eof (t ∷ ts) zero h l e = false≢true (sym (ap (λ k. proper (record { kind = k; text = t.text; extra = t.extra })) e) ∙ ((and-eq-true_iff (proper t) (all_proper ts)).0 h).0)
no_eof (t ∷ ts) (suc n) h l e = no_eof ts n ((and-eq-true_iff (proper t) (all_proper ts)).0 h).1 (omega arith) e

-- Theorem 1 where Eof stands last and nowhere else: accepted exactly if the tokens before it are a file
pub file_before_eof : (m : Rules) (names : Bool) (ts : List Token) (e : Token) (n : ℕ) (ds : List Definition) → all_proper ts ≡ true → e.kind ≡ Eof
    → (file_at m names (ts ++ (e ∷ [])) ≡ read ds n) ↔ ((n ≡ length ts) × File m names ts ds)
file_before_eof m names ts e n ds h k = (
  (λ f.
      let (l, x, g) = (file_exactly m names (ts ++ (e ∷ [])) n ds).0 f in
      let place : n ≡ length ts = le_antisymm (omega (arith, length-append ts (e ∷ []))) (not_less (λ z. no_eof ts n h z (ap (λ t. t.kind) (sym (get_or-append ts (e ∷ []) eof_token n z)) ∙ x))) in
      (place, rw (take_at ts (e ∷ []) n (sym place)) at g)),
  (λ f.
      (file_exactly m names (ts ++ (e ∷ [])) n ds).1 (
        omega (arith, f.0, length-append ts (e ∷ [])),
        ap (λ t. t.kind) (sym (token_at_lem n (ts ++ (e ∷ []))) ∙ ap (λ us. token_at us 0) (drop_at ts (e ∷ []) n (sym f.0))) ∙ k,
        rw (take_at ts (e ∷ []) n (sym f.0)) f.1,
      )),
)
