-- Typed lists: their reader, which looks ahead for a type in a name's place, does what the grammar says, which remembers whether a type may stand.
use Prim.Native.Nat.{ℕ, zero, suc, ◌+◌, ◌<◌}
use native.Mathlib.Nat.{add-zero}
use native.Mathlib.Numerals.{add-one}
use native.Mathlib.Omega.{arith}
use mathlib.Core.Path.{◌≡◌, refl, sym, ◌∙◌, ap}
use mathlib.Core.Bool.{Bool, true, false, cond, not, ◌&&◌, and-false, and-eq-true_iff, false≢true}
use mathlib.Core.List.{List, [], ◌∷◌, ◌++◌, append_assoc}
use lib.ListN.{length, take, drop, length-append, take-append-drop}
use lib.Seq.{length-take-le, drop-append_seam}
use lib.Dec.{eqb}
use borrow.Author.Tests.{eqb-true, eq-eqb, ne_eqb}
use Rattle.tokens.specs.Token.{Token, token_at}
use Rattle.tokens.specs.Kind.{Indexed, Calldata, Memory, Storage, CloseParen, Comma, Ident, PrimitiveType}
use Rattle.tokens.specs.Name.{reserved}
use Rattle.tokens.specs.WellFormed.{text_good, extra_good}
use Rattle.grammar.specs.Reading.{Argument, Entry, NONE, arguments}
use Rattle.grammar.specs.Rules.{Rules}
use Rattle.grammar.specs.Grammar.{Many, none, more, Separated, alone, comma, counts, Location, calldata, memory, storage}
use Rattle.grammar.specs.Result.{plain, Res, got, bad, Step, refuse, leave, taken, with_one_more, look, choose, expect, counted, consed, less, bind, seq, joined, many}
use Rattle.grammar.specs.Reader.{separated, ends_list, entries, closed_list}
use Rattle.grammar.specs.Typed.{indexed_here, location_here, typed_name, typed_argument}
use Rattle.grammar.specs.Follows.{proper, all_proper}
use Rattle.grammar.specs.FileReading.{declared}
use Rattle.grammar.specs.FileGrammar.{Optional, absent, present, Lone, lone, IsIndexed, is_indexed, IsName, is_name, TypedArgument, typed, nameless, type_may, TypedEntry, typed_entry, TypedList, typed_list}
use Rattle.grammar.proofs.Lists.{mark}
use Rattle.grammar.proofs.Holds.{Holds, well, StepHolds, refusing, leaving, going, Finish, got_holds, cond_says, choose_says, look_holds, holds_map, seq_holds, NoneOrOne, nothing, one, Some, many_holds, same_result, many_on, many_stop, as_seq}
use Rattle.grammar.proofs.Sound.{Any, expect_holds, separated_holds, some_entry}
use Rattle.grammar.proofs.Complete.{seq_complete, Opens, opening, opens_append, many_first}
use Rattle.grammar.proofs.AtPlace.{seq_bad}
use Rattle.grammar.proofs.FileHolds.{Inner, plain_inner, eight_inner}

module _ (m : Rules) where
  indexed_holds : (events : Bool) (p : ℕ) (ts : List Token)
      → Holds (Inner m true) (Optional 0 (Lone (IsIndexed events))) (Any (Optional 0 (Lone (IsIndexed events)))) p (indexed_here events p) ts (indexed_here events p ts)
  unfolding indexed_here
  indexed_holds events p ts =
      look_holds (λ t. cond (events && eqb t.kind Indexed) (taken 1) (leave 0)) p
      (λ t. cond_says (StepHolds (Inner m true) (Optional 0 (Lone (IsIndexed events))) (Any (Optional 0 (Lone (IsIndexed events)))) p t) (events && eqb t.kind Indexed)
      (λ e. let b = (and-eq-true_iff events (eqb t.kind Indexed)).0 e in going (λ us. got_holds (present (lone t (is_indexed b.0 (eqb-true t.kind Indexed b.1))))))
      (λ e. leaving absent))
      (rw (and-false events) tt)
      ts

  abbrev Loc : List Token → ℕ → Type 0
  Loc = Optional 0 (Lone (λ k. Location k.kind))

  location_holds : (p : ℕ) (ts : List Token) → Holds (Inner m true) Loc (Any Loc) p (location_here p) ts (location_here p ts)
  unfolding location_here choose
  location_holds p ts =
      look_holds (λ t. choose ((Calldata, taken 1) ∷ (Memory, taken 2) ∷ (Storage, taken 3) ∷ []) (leave 0) t.kind) p
      (λ t. choose_says (StepHolds (Inner m true) Loc (Any Loc) p t) ((Calldata, taken 1) ∷ (Memory, taken 2) ∷ (Storage, taken 3) ∷ []) (leave 0) t.kind (
        (λ e. going (λ us. got_holds (present (lone t (calldata e))))),
        λ n₁. (
          (λ e. going (λ us. got_holds (present (lone t (memory e))))),
          λ n₂. (
            (λ e. going (λ us. got_holds (present (lone t (storage e))))),
            λ n₃. leaving absent,
          ),
        ),
      ))
      tt ts

  -- the name of an argument, at q
  abbrev name_table : ℕ → ℕ → ℕ → ℕ → Token → List (ℕ × Step Argument)
  name_table first ix l q t =
      (Ident, cond (reserved t.text) (refuse (plain 7)) (taken (declared first q ix l (suc q)))) ∷ (PrimitiveType, refuse (plain 7)) ∷ []

  typed_name_holds : {P : List Token → Argument → Type 0} {L : List Token → Type 0} (first ix l q : ℕ)
      → ((ns : List Token) (n : ℕ) → Optional NONE (Lone (IsName q)) ns n → P ns (declared first n ix l (q + length ns)))
      → Finish L []
      → (ts : List Token)
      → Holds (Inner m true) P L q (typed_name first ix l q) ts (typed_name first ix l q ts)
  unfolding typed_name choose
  typed_name_holds {P} {L} first ix l q good fin ts =
      look_holds (λ t. choose (name_table first ix l q t) (leave (declared first NONE ix l q)) t.kind) q
      (λ t. choose_says (StepHolds (Inner m true) P L q t) (name_table first ix l q t) (leave (declared first NONE ix l q)) t.kind (
        (λ e. cond_says (StepHolds (Inner m true) P L q t) (reserved t.text)
            (λ r. refusing (plain_inner m true 7 refl refl refl t) fin)
            (λ r. going (λ us. got_holds (rw (add-one q) at (good (t ∷ []) q (present (lone t (is_name e r)))))))),
        λ n₁. (
          (λ e. refusing (plain_inner m true 7 refl refl refl t) fin),
          λ n₂. leaving (rw (add-zero q) at (good [] NONE absent)),
        ),
      ))
      tt ts

  pub typed_holds : (events : Bool) (n p : ℕ) (ts : List Token)
      → Holds (Inner m true) (TypedArgument events p) (NoneOrOne (TypedArgument events p)) p (typed_argument events n p) ts (typed_argument events n p ts)
  unfolding typed_argument all_proper
  typed_holds events n p ts =
      expect_holds PrimitiveType (plain 8) (λ t. seq (indexed_here events) (λ ix. seq location_here (λ l. typed_name p ix l))) p refl (eight_inner m)
      ([], refl, nothing)
      (λ t e us. seq_holds (λ xs. TypedArgument events p (t ∷ xs)) (λ xs. NoneOrOne (TypedArgument events p) (t ∷ xs)) (indexed_here events) (λ ix. seq location_here (λ l. typed_name p ix l)) (suc p) us
      (indexed_holds events (suc p) us)
      (λ i ix h k. seq_holds (λ ys. TypedArgument events p (t ∷ (take i us ++ ys))) (λ ys. NoneOrOne (TypedArgument events p) (t ∷ (take i us ++ ys))) location_here (λ l. typed_name p ix l) (suc p + length (take i us)) (drop i us)
      (location_holds (suc p + length (take i us)) (drop i us))
      (λ j l h' k'. typed_name_holds p ix l (suc p + length (take i us) + length (take j (drop i us)))
      (λ ns x h''. typed t e k k' h'')
      ([], refl, one (typed t e k k' absent))
      (drop j (drop i us)))
      (λ ys g. ([], refl, one (typed t e k g.1 absent))))
      (λ xs g. ([], refl, one (typed t e g.1 absent absent))))
      ts

pub typed_some : (events : Bool) (p : ℕ) (xs : List Token) (a : Argument) → TypedArgument events p xs a → 0 < length xs
typed_some events p xs a (typed t e i l n) = omega arith

-- a reader of exactly xs, and what stands behind it
pub seq_run : {A B : Type 0} (u : ℕ → List Token → Res A) (f : A → ℕ → List Token → Res B) (p : ℕ) (xs ys : List Token) (a : A)
    → u p (xs ++ ys) ≡ got a (length xs)
    → seq u f p (xs ++ ys) ≡ counted (length xs) (f a (p + length xs) ys)
unfolding seq
seq_run u f p xs ys a e =
    ap (λ r. joined r f p (xs ++ ys)) e ∙ ap (λ us. counted (length xs) (f a (p + length xs) us)) (drop-append_seam xs ys)

-- a kind that stands behind Indexed and location: one that is neither
pub record Quiet (k : ℕ) : Type 0 where
  pub indexed : eqb k Indexed ≡ false
  pub calldata : eqb k Calldata ≡ false
  pub memory : eqb k Memory ≡ false
  pub storage : eqb k Storage ≡ false

indexed_complete : (events : Bool) (p : ℕ) (is ys : List Token) (ix : ℕ) → Optional 0 (Lone (IsIndexed events)) is ix → eqb (token_at ys 0).kind Indexed ≡ false
    → indexed_here events p (is ++ ys) ≡ got ix (length is)
unfolding indexed_here look
indexed_complete events p is ys ix absent h = rw h (rw (and-false events))
indexed_complete events p is ys ix (present (lone t (is_indexed e k))) h = rw e (rw k)

location_complete : (p : ℕ) (ls ys : List Token) (l : ℕ) → Optional 0 (Lone (λ k. Location k.kind)) ls l → Quiet (token_at ys 0).kind
    → location_here p (ls ++ ys) ≡ got l (length ls)
unfolding location_here look choose
location_complete p ls ys l absent h = rw h.calldata (rw h.memory (rw h.storage))
location_complete p ls ys l (present (lone t (calldata e))) h = rw e
location_complete p ls ys l (present (lone t (memory e))) h = rw e
location_complete p ls ys l (present (lone t (storage e))) h = rw e

location_first : (ls ys : List Token) (l : ℕ) → Optional 0 (Lone (λ k. Location k.kind)) ls l → Quiet (token_at ys 0).kind → eqb (token_at (ls ++ ys) 0).kind Indexed ≡ false
location_first ls ys l absent h = h.indexed
location_first ls ys l (present (lone t (calldata e))) h = rw e
location_first ls ys l (present (lone t (memory e))) h = rw e
location_first ls ys l (present (lone t (storage e))) h = rw e

-- up to the name
typed_run : (events : Bool) (c p ix l : ℕ) (is ls zs : List Token) (t : Token) (r : Res Argument)
    → t.kind ≡ PrimitiveType
    → Optional 0 (Lone (IsIndexed events)) is ix
    → Optional 0 (Lone (λ k. Location k.kind)) ls l
    → Quiet (token_at zs 0).kind
    → typed_name p ix l (suc p + length is + length ls) zs ≡ r
    → typed_argument events c p (t ∷ (is ++ (ls ++ zs))) ≡ with_one_more (counted (length is) (counted (length ls) r))
unfolding typed_argument look
typed_run events c p ix l is ls zs t r e i k q h =
    rw e (ap with_one_more
    (seq_run (indexed_here events) (λ jx. seq location_here (λ k. typed_name p jx k)) (suc p) is (ls ++ zs) ix
    (indexed_complete events (suc p) is (ls ++ zs) ix i (location_first ls zs l k q))
    ∙ ap (counted (length is)) (seq_run location_here (λ k. typed_name p ix k) (suc p + length is) ls zs l (location_complete (suc p + length is) ls zs l k q) ∙ ap (counted (length ls)) h)))

-- a kind that may stand behind an argument without a name
pub record Closes (k : ℕ) : Type 0 where
  pub quiet : Quiet k
  pub name : eqb k Ident ≡ false
  pub type : eqb k PrimitiveType ≡ false

regroup : (t : Token) (is ls ns ys : List Token) → (t ∷ (is ++ (ls ++ ns))) ++ ys ≡ t ∷ (is ++ (ls ++ (ns ++ ys)))
regroup t is ls ns ys = ap (λ xs. t ∷ xs) (append_assoc is (ls ++ ns) ys ∙ ap (λ xs. is ++ xs) (append_assoc ls ns ys))

long : (t : Token) (is ls ns : List Token) → length (t ∷ (is ++ (ls ++ ns))) ≡ suc (length is + (length ls + length ns))
long t is ls ns = omega (arith, length-append is (ls ++ ns), length-append ls ns)

-- the name itself
name_here : (p ix l q : ℕ) (t : Token) (ys : List Token) → t.kind ≡ Ident → reserved t.text ≡ false → typed_name p ix l q (t ∷ ys) ≡ got (declared p q ix l (suc q)) 1
unfolding typed_name look choose
name_here p ix l q t ys e r = rw e (rw r)

no_name : (p ix l q : ℕ) (ys : List Token) → Closes (token_at ys 0).kind → typed_name p ix l q ys ≡ got (declared p NONE ix l q) 0
unfolding typed_name look choose
no_name p ix l q ys h = rw h.name (rw h.type)

-- how long Indexed and location are
indexed_long : (events : Bool) (is : List Token) (ix : ℕ) → Optional 0 (Lone (IsIndexed events)) is ix → ix ≡ length is
indexed_long events is ix absent = refl
indexed_long events is ix (present (lone t (is_indexed e k))) = refl

location_long : (ls : List Token) (l : ℕ) → Optional 0 (Lone (λ k. Location k.kind)) ls l → cond (eqb l 0) 0 1 ≡ length ls
location_long ls l absent = refl
location_long ls l (present (lone t (calldata e))) = refl
location_long ls l (present (lone t (memory e))) = refl
location_long ls l (present (lone t (storage e))) = refl

-- an argument that ends with a name, before anything; one without a name, before what may stand there; its name's place, if it has none, at a type
pub data Ending (events : Bool) (p : ℕ) (xs : List Token) (a : Argument) : Type 0 where
  with_name : nameless a ≡ false → ((c : ℕ) (ys : List Token) → typed_argument events c p (xs ++ ys) ≡ got a (length xs)) → Ending events p xs a
  without_name : nameless a ≡ true
      → ((c : ℕ) (ys : List Token) → Closes (token_at ys 0).kind → typed_argument events c p (xs ++ ys) ≡ got a (length xs))
      → ((c : ℕ) (ys : List Token) → (token_at ys 0).kind ≡ PrimitiveType → (q : ℕ) × (typed_argument events c p (xs ++ ys) ≡ bad (plain 7) q))
      → Ending events p xs a

pub typed_ending : (events : Bool) (p : ℕ) (xs : List Token) (a : Argument) → TypedArgument events p xs a → Ending events p xs a
unfolding typed_name look choose
typed_ending events p xs a (typed {ix = ix} {l = l} {is = is} {ls = ls} t e i k (present (lone n (is_name f r)))) =
    with_name
    (ne_eqb (suc p + length is + length ls + 1) (suc p + ix + cond (eqb l 0) 0 1) (omega (arith, indexed_long events is ix i, location_long ls l k)))
    (λ c ys. ap (typed_argument events c p) (regroup t is ls (n ∷ []) ys)
    ∙ typed_run events c p ix l is ls (n ∷ ys) t (got (declared p (suc p + length is + length ls) ix l (suc (suc p + length is + length ls))) 1) e i k (rw f (record { indexed = refl; calldata = refl; memory = refl; storage = refl }))
    (name_here p ix l (suc p + length is + length ls) n ys f r)
    ∙ rw (long t is ls (n ∷ []), add-one (suc p + length is + length ls)))
typed_ending events p xs a (typed {ix = ix} {l = l} {is = is} {ls = ls} t e i k absent) =
    without_name
    (eq-eqb (suc p + length is + length ls + 0) (suc p + ix + cond (eqb l 0) 0 1) (omega (arith, indexed_long events is ix i, location_long ls l k)))
    (λ c ys h. ap (typed_argument events c p) (regroup t is ls [] ys)
    ∙ typed_run events c p ix l is ls ys t (got (declared p NONE ix l (suc p + length is + length ls)) 0) e i k h.quiet (no_name p ix l (suc p + length is + length ls) ys h)
    ∙ rw (long t is ls [], add-zero (suc p + length is + length ls)))
    (λ c ys h. (
      suc p + length is + length ls,
      ap (typed_argument events c p) (regroup t is ls [] ys)
          ∙ typed_run events c p ix l is ls ys t (bad (plain 7) (suc p + length is + length ls)) e i k (rw h (record { indexed = refl; calldata = refl; memory = refl; storage = refl })) (rw h),
    ))

-- where a type may not stand, none does
abbrev Shut : Bool → List Token → Type 0
Shut b ts = b ≡ false → eqb (token_at ts 0).kind PrimitiveType ≡ false

-- the reader has looked ahead
ahead_of : (events : Bool) (p : ℕ) (xs ys : List Token) (e : Entry) → Separated (TypedArgument events) p xs e → separated (typed_argument events 0) p (xs ++ ys) ≡ got e (length xs) → Shut (type_may true e) ys
unfolding separated
ahead_of events p xs ys e (comma c u k) eq z = absurd (false≢true (sym z))
ahead_of events p xs ys e (alone {a = a} u) eq z = go (typed_ending events p xs a u) (eqb (token_at ys 0).kind PrimitiveType) refl
  where
    go : Ending events p xs a → (b : Bool) → eqb (token_at ys 0).kind PrimitiveType ≡ b → b ≡ false
    go x false f = refl
    go (with_name n g) true f = absurd (false≢true (sym z ∙ ap not n))
    go (without_name n g h) true f =
        let w = h 0 ys (eqb-true (token_at ys 0).kind PrimitiveType f) in
        let v = sym eq ∙ seq_bad (typed_argument events 0) _ p (xs ++ ys) (plain 7) w.0 w.1 in
        absurd (omega (arith, let o : ◌≡◌ {A = ℕ} 0 1 = cc in o))

module _ (m : Rules) (events : Bool) where
  -- the loop that remembers: no argument begins where a type may not stand
  abbrev spaced : Bool → ℕ → List Token → Res Entry
  spaced true = separated (typed_argument events 0)
  spaced false = look (λ t. refuse (plain 8))

  entry_holds : (b : Bool) (p : ℕ) (ts : List Token) → Holds (Inner m true) (TypedEntry events b p) (NoneOrOne (TypedEntry events b p)) p (spaced b p) ts (spaced b p ts)
  unfolding all_proper
  entry_holds true p ts = holds_map (λ y t h. h) (λ xs e h. typed_entry refl h) lift (separated_holds (typed_argument events 0) (typed_holds m events 0) p ts)
    where
      lift : (xs : List Token) → NoneOrOne (Separated (TypedArgument events) p) xs → NoneOrOne (TypedEntry events true p) xs
      lift xs nothing = nothing
      lift xs (one h) = one (typed_entry refl h)
  entry_holds false p ts = look_holds (λ t. refuse (plain 8)) p (λ t. refusing (eight_inner m t) ([], refl, nothing)) tt ts

  separated_some : (p : ℕ) (xs : List Token) (e : Entry) → Separated (TypedArgument events) p xs e → 0 < length xs
  separated_some = some_entry (λ n. TypedArgument events) (typed_argument events) (typed_holds m events) (λ n. typed_some events) 0

  entry_some : (b : Bool) (p : ℕ) (xs : List Token) (e : Entry) → TypedEntry events b p xs e → 0 < length xs
  entry_some b p xs e (typed_entry h s) = separated_some p xs e s

  ahead : (p n : ℕ) (ts : List Token) (e : Entry) → separated (typed_argument events 0) p ts ≡ got e n
      → Holds (Inner m true) (TypedEntry events true p) (NoneOrOne (TypedEntry events true p)) p (spaced true p) ts (got e n)
      → (0 < n) × Shut (type_may true e) (drop n ts)
  ahead p n ts e eq (well h) = go h.follows
    where
      go : TypedEntry events true p (take n ts) e → (0 < n) × Shut (type_may true e) (drop n ts)
      go (typed_entry k s) = (
        omega (arith, separated_some p (take n ts) e s, length-take-le n ts h.within),
        ahead_of events p (take n ts) (drop n ts) e s (rw (take-append-drop n ts, length-take-le n ts h.within) eq),
      )

  -- without a type there is no argument
  no_type : (n p : ℕ) (t : Token) (ts : List Token) → eqb t.kind PrimitiveType ≡ false → separated (typed_argument events n) p (t ∷ ts) ≡ bad (plain 8) p
  unfolding separated seq look typed_argument
  no_type n p t ts h = rw h

  abbrev Alike : List Token → Type 0
  Alike ts =
      (k n p : ℕ) (b : Bool) → Shut b (drop k ts)
      → many ends_list counts (λ n. separated (typed_argument events n)) n k p ts ≡ many ends_list type_may spaced b k p ts

  alike_here : (t : Token) (ts : List Token) (n p : ℕ) → Alike ts → (s : Bool) → ends_list t ≡ s → (b : Bool) → Shut b (t ∷ ts)
      → many ends_list counts (λ n. separated (typed_argument events n)) n 0 p (t ∷ ts) ≡ many ends_list type_may spaced b 0 p (t ∷ ts)
  unfolding look typed_argument
  alike_here t ts n p later true e b i =
      many_stop ends_list counts (λ n. separated (typed_argument events n)) n p t ts e ∙ sym (many_stop ends_list type_may spaced b p t ts e)
  alike_here t ts n p later false e false i =
      many_on ends_list counts (λ n. separated (typed_argument events n)) n p t ts e
      ∙ ap (λ r. bind r (λ a j. counted (suc (less j)) (consed a (many ends_list counts (λ n. separated (typed_argument events n)) (counts n a) (less j) (suc p) ts)))) (no_type n p t ts (i refl))
      ∙ sym (many_on ends_list type_may spaced false p t ts e)
  alike_here t ts n p later false e true i =
      many_on ends_list counts (λ n. separated (typed_argument events n)) n p t ts e
      ∙ go (separated (typed_argument events 0) p (t ∷ ts)) refl (entry_holds true p (t ∷ ts))
      ∙ sym (many_on ends_list type_may spaced true p t ts e)
    where
      go : (r : Res Entry) → separated (typed_argument events 0) p (t ∷ ts) ≡ r → Holds (Inner m true) (TypedEntry events true p) (NoneOrOne (TypedEntry events true p)) p (spaced true p) (t ∷ ts) r
          → bind r (λ a j. counted (suc (less j)) (consed a (many ends_list counts (λ n. separated (typed_argument events n)) (counts n a) (less j) (suc p) ts)))
          ≡ bind r (λ a j. counted (suc (less j)) (consed a (many ends_list type_may spaced (type_may true a) (less j) (suc p) ts)))
      go (got a zero) eq h = absurd (omega (arith, (ahead p 0 (t ∷ ts) a eq h).0))
      go (got a (suc j)) eq h = ap (λ r. counted (suc j) (consed a r)) (later j (counts n a) (suc p) (type_may true a) (ahead p (suc j) (t ∷ ts) a eq h).1)
      go (bad y q) eq h = refl

  alike : (ts : List Token) → Alike ts
  unfolding many separated seq look typed_argument
  alike [] k n p true i = refl
  alike [] k n p false i = refl
  alike (t ∷ ts) (suc k) n p b i = alike ts k n (suc p) b i
  alike (t ∷ ts) zero n p b i = alike_here t ts n p (alike ts) (ends_list t) refl b i

  alike_entries : (p : ℕ) (ts : List Token) → entries (typed_argument events) p ts ≡ many ends_list type_may spaced true 0 p ts
  unfolding entries
  alike_entries p ts = alike ts 0 0 p true (λ z. absurd (false≢true (sym z)))

  entries_hold : (p : ℕ) (ts : List Token)
      → Holds (Inner m true) (Many type_may (TypedEntry events) true p) (Some type_may (TypedEntry events) true p) p (entries (typed_argument events) p) ts (entries (typed_argument events) p ts)
  entries_hold p ts =
      rw (alike_entries p ts)
      (same_result (entries (typed_argument events) p) (λ us e. alike_entries p us) (many_holds ends_list type_may spaced (TypedEntry events) entry_holds entry_some ts 0 true p))

  pub typed_list_holds : (p : ℕ) (ts : List Token)
      → Holds (Inner m true) (TypedList events p) (Any (TypedList events p)) p (closed_list (typed_argument events) p) ts (closed_list (typed_argument events) p ts)
  unfolding closed_list proper all_proper text_good extra_good
  typed_list_holds p ts =
      seq_holds (TypedList events p) (Any (TypedList events p)) (entries (typed_argument events)) (λ es. expect CloseParen (plain 1) (λ c q us. got (arguments es) 0)) p ts
      (entries_hold p ts)
      (λ n es h k.
      expect_holds CloseParen (plain 1) (λ c q us. got (arguments es) 0) (p + length (take n ts)) refl (plain_inner m true 1 refl refl refl)
      (mark CloseParen ∷ [], refl, (arguments es, typed_list (mark CloseParen) k refl))
      (λ t e us. got_holds (typed_list t k e))
      (drop n ts))
      (λ xs k. (mark CloseParen ∷ [], refl, (arguments k.0, typed_list (mark CloseParen) k.1 refl)))

  -- what follows the grammar is read
  closes_close : (k : ℕ) → k ≡ CloseParen → Closes k
  closes_close k e = rw e (record { quiet = record { indexed = refl; calldata = refl; memory = refl; storage = refl }; name = refl; type = refl })

  closes_comma : (k : ℕ) → k ≡ Comma → Closes k
  closes_comma k e = rw e (record { quiet = record { indexed = refl; calldata = refl; memory = refl; storage = refl }; name = refl; type = refl })

  entry_complete : (n p : ℕ) (xs ys : List Token) (e : Entry) → Separated (TypedArgument events) p xs e
      → (type_may true e ≡ true → eqb (token_at ys 0).kind Comma ≡ false)
      → (type_may true e ≡ false → (token_at ys 0).kind ≡ CloseParen)
      → separated (typed_argument events n) p (xs ++ ys) ≡ got e (length xs)
  unfolding separated look
  entry_complete n p xs ys e (alone {a = a} u) f g = go (typed_ending events p xs a u)
    where
      go : Ending events p xs a → separated (typed_argument events n) p (xs ++ ys) ≡ got e (length xs)
      go (with_name k h) =
          seq_complete (typed_argument events n) _ p 0 xs ys a e (h n ys) (rw (f (ap not k))) ∙ ap (got e) (add-zero (length xs))
      go (without_name k h i) =
          let c = g (ap not k) in
          seq_complete (typed_argument events n) _ p 0 xs ys a e (h n ys (closes_close (token_at ys 0).kind c)) (rw c) ∙ ap (got e) (add-zero (length xs))
  entry_complete n p xs ys e (comma {xs = us} {a = a} c u k) f g =
      rw (append_assoc us (c ∷ []) ys, length-append us (c ∷ []))
      (seq_complete (typed_argument events n) _ p 1 us (c ∷ ys) a e (go (typed_ending events p us a u)) (rw k))
    where
      go : Ending events p us a → typed_argument events n p (us ++ (c ∷ ys)) ≡ got a (length us)
      go (with_name l h) = h n (c ∷ ys)
      go (without_name l h i) = h n (c ∷ ys) (closes_comma c.kind k)

  typed_opens : (p : ℕ) (xs : List Token) (a : Argument) → TypedArgument events p xs a → Opens ends_list (λ t. not (eqb t.kind Comma)) xs
  typed_opens p xs a (typed {is = is} {ls = ls} {ns = ns} t e i l n) = opening t (is ++ (ls ++ ns)) (rw e) (rw e)

  entry_opens : (b : Bool) (p : ℕ) (xs : List Token) (e : Entry) → TypedEntry events b p xs e → Opens ends_list (λ t. not (eqb t.kind Comma)) xs
  entry_opens b p xs e (typed_entry h (alone {a = a} u)) = typed_opens p xs a u
  entry_opens b p xs e (typed_entry h (comma {xs = us} {a = a} c u k)) = opens_append (c ∷ []) (typed_opens p us a u)

  -- behind an argument without a name and a Comma nothing stands
  shut_none : (s : Bool) (p : ℕ) (xs : List Token) (es : List Entry) → Many type_may (TypedEntry events) s p xs es → s ≡ false → xs ≡ []
  shut_none s p xs es none z = refl
  shut_none s p xs es (more (typed_entry h k) rest) z = absurd (false≢true (sym z ∙ h))

  one_entry_lem : (n p j : ℕ) (xs ys : List Token) (e : Entry) (es : List Entry) → Opens ends_list (λ t. not (eqb t.kind Comma)) xs
      → separated (typed_argument events n) p (xs ++ ys) ≡ got e (length xs)
      → many ends_list counts (λ n. separated (typed_argument events n)) (counts n e) 0 (p + length xs) ys ≡ got es j
      → many ends_list counts (λ n. separated (typed_argument events n)) n 0 p (xs ++ ys) ≡ got (e ∷ es) (length xs + j)
  one_entry_lem n p j xs ys e es (opening t ts h f) u g =
      as_seq ends_list counts (λ n. separated (typed_argument events n)) (λ n. Separated (TypedArgument events)) (λ n. separated_holds (typed_argument events n) (typed_holds m events n)) (λ n. separated_some) n p t (ts ++ ys) h
      ∙ seq_complete (separated (typed_argument events n)) (λ b q us. consed b (many ends_list counts (λ n. separated (typed_argument events n)) (counts n b) 0 q us)) p j (t ∷ ts) ys e (e ∷ es) u (ap (consed e) g)

  entries_complete : (b : Bool) (n p : ℕ) (xs : List Token) (es : List Entry) → Many type_may (TypedEntry events) b p xs es → (c : Token) → c.kind ≡ CloseParen → (ys : List Token)
      → many ends_list counts (λ n. separated (typed_argument events n)) n 0 p (xs ++ (c ∷ ys)) ≡ got es (length xs)
  entries_complete b n p xs es none c k ys = many_stop ends_list counts (λ n. separated (typed_argument events n)) n p c ys (rw k)
  entries_complete b n p xs es (more {xs = us} {ys = vs} {a = e} {rs = qs} (typed_entry h s) rest) c k ys =
      rw (append_assoc us vs (c ∷ ys), length-append us vs)
      (one_entry_lem n p (length vs) us (vs ++ (c ∷ ys)) e qs (entry_opens b p us e (typed_entry h s))
      (entry_complete n p us (vs ++ (c ∷ ys)) e s
      (λ z. no_comma_lem (eqb (token_at (vs ++ (c ∷ ys)) 0).kind Comma) (many_first type_may (TypedEntry events) ends_list (λ t. not (eqb t.kind Comma)) entry_opens (type_may b e) (p + length us) vs qs (c ∷ ys) rest (rw k)))
      (λ z. rw (shut_none (type_may b e) (p + length us) vs qs rest z) k))
      (entries_complete (type_may b e) (counts n e) (p + length us) vs qs rest c k ys))
    where
      no_comma_lem : (x : Bool) → not x ≡ true → x ≡ false
      no_comma_lem true z = sym z
      no_comma_lem false z = refl

  pub typed_list_complete : (p : ℕ) (xs : List Token) (args : List Argument) → TypedList events p xs args → (ys : List Token) → closed_list (typed_argument events) p (xs ++ ys) ≡ got args (length xs)
  unfolding closed_list entries look
  typed_list_complete p xs args (typed_list {xs = us} {es = es} c k e) ys =
      rw (append_assoc us (c ∷ []) ys, length-append us (c ∷ []))
      (seq_complete (entries (typed_argument events)) (λ fs. expect CloseParen _ (λ d q ts. got (arguments fs) 0)) p 1 us (c ∷ ys) es args
      (entries_complete true 0 p us es k c e ys)
      (rw e))
