-- Inner: the rule on labels' names, told apart from the reading of a body: the body is read without it, and then the labels before the place where that reading ended
-- are looked through for a name that stands again. `names_once_lem` (proofs, NamesOnce) says that this is the reading with the rule.
use Rattle.std.specs.Prelude.{ℕ, zero, suc, ◌+◌, ◌-◌, Bool, true, false, cond, List, [], ◌∷◌, drop, eqb, ltb}
use Rattle.tokens.specs.Number.{DuplicateLabel}
use Rattle.tokens.specs.Token.{Token, token_at}
use Rattle.tokens.specs.Kind.{Label}
use Rattle.tokens.specs.Name.{one_of}
use Rattle.grammar.specs.Rules.{Rules}
use Rattle.grammar.specs.Result.{plain, beyond, Res, got, bad}

-- the rule on pushes by itself
abbrev pub pushing : Bool → Rules
pushing strict = record { push_in_labels = strict; names_once = false }

-- among n tokens from place p on, with which ts begins, the place of the first Label whose name is one of `seen` or that of a Label before it; if there is none,
-- a place behind them all. The token behind a Label, its Colon, is passed over
unfoldable pub again : List (List ℕ) → Bool → ℕ → ℕ → List Token → ℕ
again seen false zero p ts = p
again seen true zero p ts = suc p
again seen true (suc n) p ts = again seen false n (suc p) (drop 1 ts)
again seen false (suc n) p ts =
    cond (eqb (token_at ts 0).kind Label)
    (cond (one_of seen (token_at ts 0).text) p (again ((token_at ts 0).text ∷ seen) true n (suc p) (drop 1 ts)))
    (again seen false n (suc p) (drop 1 ts))

-- the first that stands again from place p on and before place e
abbrev pub first_again : List Token → ℕ → ℕ → ℕ
first_again all p e = again [] false (e - p) p (drop p all)

-- where the cursor stands behind a result from place p on
abbrev pub cursor_of : {A : Type 0} → ℕ → Res A → ℕ
cursor_of p (got x k) = p + k
cursor_of p (bad y w) = w + beyond y

-- a result from place p on, unless a label before its cursor has a name that stands again: then 22 at that label
unfoldable pub once : {A : Type 0} → List Token → ℕ → Res A → Res A
once all p x =
    cond (ltb (first_again all p (cursor_of p x)) (cursor_of p x)) (bad (plain DuplicateLabel) (first_again all p (cursor_of p x))) x
