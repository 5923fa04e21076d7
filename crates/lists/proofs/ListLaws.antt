-- Laws of lists of arguments: a turn of the loop, its ends, and the list behind its `(`. Assumes nothing.
use Prim.Native.Nat.{ℕ, suc, ◌+◌, ◌≤◌, ◌<◌}
use native.Mathlib.Nat.{add-zero}
use native.Mathlib.Numerals.{add-one}
use native.Mathlib.Omega.{arith}
use mathlib.Core.Path.{◌≡◌, refl, sym, ap, ◌∙◌}
use mathlib.Core.Bool.{Bool, true, false, cond}
use mathlib.Core.List.{List, [], ◌∷◌, map}
use borrow.Author.Tests.{eq-eqb, ne_eqb}
use lib.Dec.{eqb}
use lib.ListN.{length, drop, length-map}
use Rattle.std.specs.Prelude.{Result, Ok, Err, IsErrAnd}
use Rattle.tokens.specs.Kind.{OpenParen, CloseParen, Comma}
use Rattle.tokens.specs.Token.{Token, token_at, view}
use Rattle.tokens.specs.Place.{KindAt}
use Rattle.tokens.specs.Source.{all, all_from, count}
use Rattle.tokens.specs.declared.source.Source.{Source}
use Rattle.tokens.specs.Lent.{put, put_all}
use Rattle.tokens.proofs.TokenLaws.{view_length}
use Rattle.tokens.proofs.LentLaws.{put_length}
use Rattle.grammar.specs.Reading.{Entry, arguments}
use Rattle.grammar.specs.Grammar.{counts}
use Rattle.grammar.specs.Result.{Why, number, beyond, plain, Res, got, bad, taken, leave, stepped, with_one_more, look, expect, counted}
use Rattle.grammar.specs.Reader.{separated, ends_list, entries, closed_list}
use Rattle.grammar.specs.Records.{argument_record}
use Rattle.grammar.proofs.AtPlace.{look_at, seq_got, seq_bad}
use Rattle.tokens.specs.Number.{argument_width}
use Rattle.grammar.specs.Written.{Written}
use Rattle.lists.specs.declared.argument.Argument.{Argument}
use Rattle.lists.specs.declared.argument.Sort.{Sort}
use Rattle.lists.specs.declared.list.ArgList.{ArgList}
use Rattle.lists.specs.Answers.{form_number, reading_of, arg_answer, ArgRead, one, list_answer, ListWithin, ListRead}
use Rattle.lists.proofs.At.{handed_on, kind_is, expect_yes, expect_no}
use Rattle.lists.proofs.Left.{Outcome, done, refused, outcome, left, left_step, left_end, left_refused}
use Rattle.grammar.specs.Reading as reading

-- ---- an argument and what stands behind it

pub argument_within : {q size : ℕ} {x : Res reading.Argument} {given : Argument} {r : Result Argument (ℕ × ℕ)} → r ≡ Ok given → ArgRead q size x r → (q < given.end) × (given.end ≤ size)
argument_within is h = rw is at h.within

-- the code's argument was read from q
record Found (q : ℕ) (read : Res reading.Argument) (given : Argument) : Type 0 where
  size : ℕ
  is : read ≡ got (reading_of given) size
  ends : q + size ≡ given.end

found : (q : ℕ) (read : Res reading.Argument) (given : Argument) → Ok (reading_of given, given.end) ≡ arg_answer q read → Found q read given
found q (got x k) given h =
    let same : ◌≡◌ {A = reading.Argument × ℕ} (reading_of given, given.end) (x, q + k) = cc in
    record { size = k; is = ap (λ x. got x k) (sym (ap (λ a. a.0) same)); ends = sym (ap (λ a. a.1) same) }
found q (bad y w) given h = absurd (let z : ◌≡◌ {A = ℕ} 0 1 = cc in omega arith)

-- the argument with the Comma that stands behind it, or without
abbrev entry : reading.Argument → Bool → Entry
entry a b = record { argument = a; comma = b }

abbrev comma_behind : reading.Argument → ℕ → List Token → Res Entry
comma_behind a = look (λ t. cond (eqb t.kind Comma) (taken (entry a true)) (leave (entry a false)))

separated_at : (u : ℕ → List Token → Res reading.Argument) (all : List Token) (q k : ℕ) (a : reading.Argument) (b : Bool)
    → u q (drop q all) ≡ got a k
    → eqb (token_at all (q + k)).kind Comma ≡ b
    → separated u q (drop q all) ≡ counted k (stepped (cond b (taken (entry a true)) (leave (entry a false))) (q + k) (drop (suc (q + k)) all))
unfolding separated
separated_at u all q k a b is h =
    seq_got u comma_behind q k all a is
    ∙ ap (counted k)
    (look_at (λ t. cond (eqb t.kind Comma) (taken (entry a true)) (leave (entry a false))) (q + k) all
    ∙ ap (λ x. stepped (cond x (taken (entry a true)) (leave (entry a false))) (q + k) (drop (suc (q + k)) all)) h)

refuses_too : (u : ℕ → List Token → Res reading.Argument) (q : ℕ) (ts : List Token) (y : Why) (w : ℕ) → u q ts ≡ bad y w → separated u q ts ≡ bad y w
unfolding separated
refuses_too u q ts y w e = seq_bad u comma_behind q ts y w e

-- ---- the loop of a list

abbrev row : Entry → List ℕ
row e = argument_record e.argument

module _ (u : ℕ → ℕ → List Token → Res reading.Argument) (all : List Token) where
  -- the end that the loop comes to from place q with s names before it
  abbrev pub entries_left : List ℕ → ℕ → ℕ → ℕ → Outcome
  entries_left = left ends_list counts (λ n. separated (u n)) 7 row all

  module _ (table : List ℕ) (m s q : ℕ) (off : (token_at all q).kind ≡ CloseParen → ⊥) where
    -- a turn: an argument with a Comma behind it, or without
    module _ (given : Argument) (is : Ok (reading_of given, given.end) ≡ arg_answer q (u s q (drop q all))) (lt : q < given.end) (inside : q < length all) where
      here : Found q (u s q (drop q all)) given
      here = found q (u s q (drop q all)) given is

      turn_comma : (token_at all given.end).kind ≡ Comma → entries_left table m s q ≡ entries_left (put argument_width table m (argument_record (reading_of given))) (m + 1) 0 (given.end + 1)
      turn_comma h =
          let ends = here.ends in
          let behind : (token_at all (q + here.size)).kind ≡ Comma = rw ends h in
          left_step ends_list counts (λ n. separated (u n)) 7 row all table m s q (entry (reading_of given) true) (here.size + 1) (given.end + 1) inside
          (ne_eqb _ _ off) (separated_at (u s) all q here.size (reading_of given) true here.is (eq-eqb _ _ behind)) (omega arith) (omega arith)

      turn_alone : ((token_at all given.end).kind ≡ Comma → ⊥)
          → entries_left table m s q ≡ entries_left (put argument_width table m (argument_record (reading_of given))) (m + 1) (cond (eqb (form_number given.form) 1) (suc s) s) given.end
      turn_alone h =
          let ends = here.ends in
          let behind : (token_at all (q + here.size)).kind ≡ Comma → ⊥ = rw ends h in
          left_step ends_list counts (λ n. separated (u n)) 7 row all table m s q (entry (reading_of given) false) (here.size + 0) given.end inside
          (ne_eqb _ _ off) (separated_at (u s) all q here.size (reading_of given) false here.is (ne_eqb _ _ behind)) (omega arith) lt

    turn_refused : (x : Res reading.Argument) (f : ℕ × ℕ) → u s q (drop q all) ≡ x → Err f ≡ arg_answer q x → entries_left table m s q ≡ refused f.0 f.1
    turn_refused (got a k) f e h = absurd (let z : ◌≡◌ {A = ℕ} 0 1 = cc in omega arith)
    turn_refused (bad y w) f e h =
        let same : ◌≡◌ {A = ℕ × ℕ} f (number y, w + beyond y) = cc in
        left_refused ends_list counts (λ n. separated (u n)) 7 row all table m s q y w (ne_eqb _ _ off) (refuses_too (u s) q (drop q all) y w e)
        ∙ sym (ap (λ f. refused f.0 f.1) same)

-- ---- what the list answers

rows : (es : List Entry) → map row es ≡ map argument_record (arguments es)
rows [] = refl
rows (e ∷ es) = ap (λ rs. argument_record e.argument ∷ rs) (rows es)

module _ (u : ℕ → ℕ → List Token → Res reading.Argument) (all : List Token) (n p size : ℕ) (table table' : List ℕ) where
  list_closed : (x : Res (List Entry)) (m q : ℕ)
      → entries u p (drop p all) ≡ x
      → outcome 7 row table n p x ≡ done m q table'
      → (token_at all q).kind ≡ CloseParen
      → p ≤ q
      → q < size
      → m + p ≤ n + q
      → ListRead n p size (closed_list u p (drop p all)) table (Ok (record { arguments = m; end = q + 1 })) table'
  unfolding closed_list
  list_closed (bad y w) m q e h k from inside few = absurd (let z : ◌≡◌ {A = ℕ} 0 1 = cc in omega arith)
  list_closed (got es i) m q e h k from inside few =
      let count : n + length es ≡ m = cc in
      let place : p + i ≡ q = cc in
      let stored : put_all argument_width table n (map row es) ≡ table' = cc in
      let reads : closed_list u p (drop p all) ≡ got (arguments es) (i + 1) =
      seq_got (entries u) (λ es. expect CloseParen (plain 1) (λ c q ts. got (arguments es) 0)) p i all es e
      ∙ ap (counted i) (expect_yes (p + i) all CloseParen (plain 1) (λ c q ts. got (arguments es) 0) (rw place k)) in
      let size_is : length (arguments es) ≡ length es = length-map es (λ e. e.argument) in
      let number_is : m ≡ n + length (arguments es) = omega arith in
      let end_is : q + 1 ≡ p + (i + 1) = omega arith in
      rw reads
      (record {
        is = cc;
        records = sym stored ∙ ap (put_all argument_width table n) (rows es);
        within = (omega arith, omega arith, omega arith);
      })

  list_refused : (x : Res (List Entry)) (f : ℕ × ℕ) → entries u p (drop p all) ≡ x → outcome 7 row table n p x ≡ refused f.0 f.1
      → ListRead n p size (closed_list u p (drop p all)) table (Err f) table'
  unfolding closed_list
  list_refused (got es i) f e h = absurd (let z : ◌≡◌ {A = ℕ} 0 1 = cc in omega arith)
  list_refused (bad y w) (c, at) e h =
      let c_is : c ≡ number y = cc in
      let at_is : at ≡ w + beyond y = cc in
      let reads : closed_list u p (drop p all) ≡ bad y w =
      seq_bad (entries u) (λ es. expect CloseParen (plain 1) (λ c q ts. got (arguments es) 0)) p (drop p all) y w e in
      rw reads (record { is = cc; records = tt; within = tt })

-- ---- the invariant of the loop

one_more : (b : Bool) (s : ℕ) → cond b (suc s) s ≤ suc s
one_more true s = omega arith
one_more false s = omega arith

-- what is left at q, with the table and the counts as they are, comes to what there was at p
pub record Listing (text tokens kept : List ℕ) (sort : Sort) (p : ℕ) (table₀ : List ℕ) (n : ℕ) (table : List ℕ) (q m names : ℕ) : Type 0 where
  pub left : entries_left (one sort) (view text tokens kept) table m names q ≡ entries_left (one sort) (view text tokens kept) table₀ n 0 p
  pub from : p ≤ q
  pub inside : q ≤ length kept
  pub few : names ≤ q
  pub records : m + p ≤ n + q
  pub same : length table ≡ length table₀

module _ {text tokens kept : List ℕ} {sort : Sort} {p : ℕ} {table₀ : List ℕ} {n : ℕ} where
  module _ {table : List ℕ} {q m names k : ℕ} (i : Listing text tokens kept sort p table₀ n table q m names) (here : KindAt tokens kept q k) where
    open_here : (k ≡ CloseParen → ⊥) → (token_at (view text tokens kept) q).kind ≡ CloseParen → ⊥
    open_here h e = h (sym (kind_is text q here refl) ∙ e)

    module _ (off : k ≡ CloseParen → ⊥) {r : Result Argument (ℕ × ℕ)} (reads : ArgRead q (length kept) (one sort names q (drop q (view text tokens kept))) r) where
      -- a turn; the table after it is what the code's write leaves
      module _ {given : Argument} {j : ℕ} {table' : List ℕ} (is : r ≡ Ok given) (there : KindAt tokens kept given.end j) (written : table' ≡ put argument_width table m (argument_record (reading_of given))) where
        inside_all : q < length (view text tokens kept)
        inside_all = rw view_length (omega (arith, argument_within is reads))

        read_is : Ok (reading_of given, given.end) ≡ arg_answer q (one sort names q (drop q (view text tokens kept)))
        read_is = (rw is at reads).is

        length_is : length table' ≡ length table₀
        length_is = ap length written ∙ put_length 7 table m (argument_record (reading_of given)) ∙ i.same

        pub listing_comma : j ≡ Comma → Listing text tokens kept sort p table₀ n table' (given.end + 1) (m + 1) 0
        listing_comma c =
            let w = argument_within is reads in
            let here-e = there.inside in
            record {
              left =
                  ap (λ t. entries_left (one sort) (view text tokens kept) t (m + 1) 0 (given.end + 1)) written
                  ∙ sym (turn_comma (one sort) (view text tokens kept) table m names q (open_here off) given read_is w.0 inside_all (kind_is text given.end there refl ∙ c))
                  ∙ i.left;
              from = omega arith;
              inside = omega arith;
              few = omega arith;
              records = omega arith;
              same = length_is;
            }

        pub listing_alone : {names' : ℕ} → (j ≡ Comma → ⊥) → names' ≡ cond (eqb (form_number given.form) 1) (suc names) names → Listing text tokens kept sort p table₀ n table' given.end (m + 1) names'
        listing_alone {names'} c named =
            let w = argument_within is reads in
            record {
              left =
                  ap (λ t. entries_left (one sort) (view text tokens kept) t (m + 1) names' given.end) written
                  ∙ ap (λ s. entries_left (one sort) (view text tokens kept) (put argument_width table m (argument_record (reading_of given))) (m + 1) s given.end) named
                  ∙ sym (turn_alone (one sort) (view text tokens kept) table m names q (open_here off) given read_is w.0 inside_all (λ x. c (sym (kind_is text given.end there refl) ∙ x)))
                  ∙ i.left;
              from = omega arith;
              inside = omega arith;
              few = omega (arith, one_more (eqb (form_number given.form) 1) names);
              records = omega arith;
              same = length_is;
            }

      -- an argument that is refused
      pub listing_refused : {f : ℕ × ℕ} → r ≡ Err f
          → ListRead n p (length kept) (closed_list (one sort) p (drop p (view text tokens kept))) table₀ (Err f) table
      unfolding entries
      listing_refused {f} is =
          list_refused (one sort) (view text tokens kept) n p (length kept) table₀ table _ f refl
          (sym i.left
          ∙ turn_refused (one sort) (view text tokens kept) table m names q (open_here off) _ f refl (rw is at reads).is)

      -- and handed on
      pub listing_handed : {f : ℕ × ℕ} {out : Result ArgList (ℕ × ℕ)} → r ≡ Err f → IsErrAnd out (λ y. y ≡ f)
          → ListRead n p (length kept) (closed_list (one sort) p (drop p (view text tokens kept))) table₀ out table
      listing_handed {f} {out} is handed = rw (handed_on out handed) (listing_refused is)

    -- the list's `)`
    pub listing_closed : k ≡ CloseParen
        → ListRead n p (length kept) (closed_list (one sort) p (drop p (view text tokens kept))) table₀ (Ok (record { arguments = m; end = q + 1 })) table
    unfolding entries
    listing_closed e =
        let close : (token_at (view text tokens kept) q).kind ≡ CloseParen = kind_is text q here refl ∙ e in
        let inside : q < length kept = omega (arith, here.inside) in
        list_closed (one sort) (view text tokens kept) n p (length kept) table₀ table _ m q refl
        (sym i.left
        ∙ left_end ends_list counts (λ n. separated (one sort n)) 7 row (view text tokens kept) table m names q (rw view_length inside) (eq-eqb _ _ close))
        close i.from inside i.records

-- ---- a list from its `(` on

more_is : (n p : ℕ) (x : Res (List reading.Argument)) → list_answer n (suc p) x ≡ list_answer n p (with_one_more x)
more_is n p (got xs k) = let place : suc p + k ≡ p + suc k = omega arith in cc
more_is n p (bad y w) = refl

same_table : (x : Res (List reading.Argument)) (n : ℕ) (t t' : List ℕ) → Written argument_width (map argument_record) x n t t' → Written argument_width (map argument_record) (with_one_more x) n t t'
same_table (got xs k) n t t' h = h
same_table (bad y w) n t t' h = h

earlier : (n p size : ℕ) (r : Result ArgList (ℕ × ℕ)) → ListWithin n (suc p) size r → ListWithin n p size r
earlier n p size (Ok l) h = (omega arith, h.1, omega arith)
earlier n p size (Err (c, at)) h = tt

-- the reader reads x behind one token
pub behind : {n p size : ℕ} {t t' : List ℕ} {r : Result ArgList (ℕ × ℕ)} {x : Res (List reading.Argument)} (f : ℕ → Res (List reading.Argument))
    → x ≡ with_one_more (f (suc p))
    → ListRead n (p + 1) size (f (p + 1)) t r t'
    → ListRead n p size x t r t'
behind {n} {p} {size} {t} {t'} {r} f e h =
    let next : ListRead n (suc p) size (f (suc p)) t r t' = rw add-one at h in
    rw e
    (record {
      is = next.is ∙ more_is n p (f (suc p));
      records = same_table (f (suc p)) n t t' next.records;
      within = earlier n p size r next.within;
    })

-- the reader refuses
pub refuses : {n p size c q : ℕ} {f : ℕ × ℕ} {t t' : List ℕ} {x : Res (List reading.Argument)} → x ≡ bad (plain c) q → f ≡ (c, q) → ListRead n p size x t (Err f) t'
refuses {c = c} {q = q} e is = rw (e, is) (record { is = ap (λ k. Err (c, k)) (sym (add-zero q)); records = tt; within = tt })

-- by the kind that was read where the `(` should stand
module _ (source : Source) {p k : ℕ} (here : KindAt source.tokens.now source.kept.now p k) (sort : Sort) (n : ℕ) {t t' : List ℕ} where
  pub list_unopened : {f : ℕ × ℕ} → (k ≡ OpenParen → ⊥) → f ≡ (1, p) → ListRead n p (count source) (expect OpenParen (plain 1) (λ o. closed_list (one sort)) p (all_from source p)) t (Err f) t'
  list_unopened h same = refuses (expect_no p (all source) OpenParen (plain 1) (λ o. closed_list (one sort)) (λ e. h (sym (kind_is source.text.now p here refl) ∙ e))) same

  pub list_opened : {r : Result ArgList (ℕ × ℕ)} → k ≡ OpenParen → ListRead n (p + 1) (count source) (closed_list (one sort) (p + 1) (all_from source (p + 1))) t r t'
      → ListRead n p (count source) (expect OpenParen (plain 1) (λ o. closed_list (one sort)) p (all_from source p)) t r t'
  list_opened e h = behind (λ q. closed_list (one sort) q (drop q (all source))) (expect_yes p (all source) OpenParen (plain 1) (λ o. closed_list (one sort)) (kind_is source.text.now p here refl ∙ e)) h
