-- Laws of a number in parentheses. Assumes nothing.
use Prim.Native.Nat.{ℕ, suc, ◌+◌, ◌≤◌, ◌<◌}
use native.Mathlib.Nat.{add-zero}
use native.Mathlib.Numerals.{add-one, add-two}
use native.Mathlib.Omega.{arith}
use mathlib.Core.Path.{◌≡◌, refl, sym, ap, ◌∙◌}
use mathlib.Core.List.{List}
use lib.ListN.{length, drop}
use Rattle.std.specs.Prelude.{Ok, Err}
use Rattle.tokens.specs.Kind.{Num, OpenParen, CloseParen}
use Rattle.tokens.specs.Token.{Token, token_at, view}
use Rattle.tokens.specs.Place.{KindAt, extra_at}
use Rattle.tokens.proofs.TokenLaws.{view_extra}
use Rattle.grammar.specs.Result.{plain, Res, got, bad, with_one_more, expect}
use Rattle.grammar.specs.Typed.{single_number}
use Rattle.lists.specs.Answers.{SingleRead}
use Rattle.lists.proofs.At.{kind_is, expect_yes, expect_no}

-- the reader refuses at w, which the code writes q
refuses : {p size c q w : ℕ} {f : ℕ × ℕ} {x : Res ℕ} → x ≡ bad (plain c) w → f ≡ (c, q) → q ≡ w → SingleRead p size x (Err f)
refuses {c = c} {w = w} e is h = rw (e, is) (record { is = ap (λ k. Err (c, k)) (h ∙ sym (add-zero w)); within = tt })

-- the reader reads the number m, which the code calls n
answers : {p size m n : ℕ} {x : Res ℕ} → x ≡ got m 3 → n ≡ m → p < p + 3 → p + 3 ≤ size → SingleRead p size x (Ok (record { number = n; end = p + 3 }))
answers {p} e h low high = rw e (record { is = ap (λ k. Ok (record { number = k; end = p + 3 })) h; within = (low, high) })

module _ (p : ℕ) (all : List Token) where
  abbrev closing : Token → ℕ → List Token → Res ℕ
  closing t = expect CloseParen (plain 1) (λ c q ts. got t.extra 0)

  abbrev counting : ℕ → List Token → Res ℕ
  counting = expect Num (plain 9) closing

  unopened : ((token_at all p).kind ≡ OpenParen → ⊥) → single_number p (drop p all) ≡ bad (plain 1) p
  unfolding single_number
  unopened h = expect_no p all OpenParen (plain 1) (λ o. counting) h

  module _ (o : (token_at all p).kind ≡ OpenParen) where
    opened : single_number p (drop p all) ≡ with_one_more (counting (suc p) (drop (suc p) all))
    unfolding single_number
    opened = expect_yes p all OpenParen (plain 1) (λ o. counting) o

    no_number : ((token_at all (suc p)).kind ≡ Num → ⊥) → single_number p (drop p all) ≡ bad (plain 9) (suc p)
    no_number h = opened ∙ ap with_one_more (expect_no (suc p) all Num (plain 9) closing h)

    module _ (n : (token_at all (suc p)).kind ≡ Num) where
      numbered : single_number p (drop p all) ≡ with_one_more (with_one_more (closing (token_at all (suc p)) (suc (suc p)) (drop (suc (suc p)) all)))
      numbered = opened ∙ ap with_one_more (expect_yes (suc p) all Num (plain 9) closing n)

      unclosed : ((token_at all (suc (suc p))).kind ≡ CloseParen → ⊥) → single_number p (drop p all) ≡ bad (plain 1) (suc (suc p))
      unclosed h =
          numbered ∙ ap (λ x. with_one_more (with_one_more x)) (expect_no (suc (suc p)) all CloseParen (plain 1) (λ c q ts. got (token_at all (suc p)).extra 0) h)

      closed : (token_at all (suc (suc p))).kind ≡ CloseParen → single_number p (drop p all) ≡ got (token_at all (suc p)).extra 3
      closed h =
          numbered ∙ ap (λ x. with_one_more (with_one_more x)) (expect_yes (suc (suc p)) all CloseParen (plain 1) (λ c q ts. got (token_at all (suc p)).extra 0) h)

-- ---- what is answered, by the kinds that were read

module _ (text : List ℕ) {words kept : List ℕ} (p : ℕ) {k : ℕ} (here : KindAt words kept p k) where
  abbrev all : List Token
  all = view text words kept

  first_is : {q : ℕ} → k ≡ q → (token_at all p).kind ≡ q
  first_is e = kind_is text p here refl ∙ e

  pub single_unopened : {f : ℕ × ℕ} → (k ≡ OpenParen → ⊥) → f ≡ (1, p) → SingleRead p (length kept) (single_number p (drop p all)) (Err f)
  single_unopened h same = refuses (unopened p all (λ e. h (sym (first_is refl) ∙ e))) same refl

  module _ {l : ℕ} (there : KindAt words kept (p + 1) l) (o : k ≡ OpenParen) where
    second_is : {q : ℕ} → l ≡ q → (token_at all (suc p)).kind ≡ q
    second_is e = kind_is text (suc p) there (add-one p) ∙ e

    pub single_numberless : {f : ℕ × ℕ} → (l ≡ Num → ⊥) → f ≡ (9, p + 1) → SingleRead p (length kept) (single_number p (drop p all)) (Err f)
    single_numberless h same = refuses (no_number p all (first_is o) (λ e. h (sym (second_is refl) ∙ e))) same (add-one p)

    module _ {m : ℕ} (last : KindAt words kept (p + 2) m) (n : l ≡ Num) where
      third_is : {q : ℕ} → m ≡ q → (token_at all (suc (suc p))).kind ≡ q
      third_is e = kind_is text (suc (suc p)) last (add-two p) ∙ e

      pub single_unclosed : {f : ℕ × ℕ} → (m ≡ CloseParen → ⊥) → f ≡ (1, p + 2) → SingleRead p (length kept) (single_number p (drop p all)) (Err f)
      single_unclosed h same = refuses (unclosed p all (first_is o) (second_is n) (λ e. h (sym (third_is refl) ∙ e))) same (add-two p)

      pub single_closed : {v : ℕ} → m ≡ CloseParen → v ≡ extra_at words kept (p + 1) → SingleRead p (length kept) (single_number p (drop p all)) (Ok (record { number = v; end = p + 3 }))
      single_closed e is =
          answers (closed p all (first_is o) (second_is n) (third_is e)) (is ∙ ap (extra_at words kept) (add-one p) ∙ sym (view_extra text words kept (suc p))) (omega arith) (omega (arith, last.inside))
