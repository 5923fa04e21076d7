-- Inner: a definition by the token that it begins with, and from the place behind its name on.
use Rattle.std.specs.Prelude.{ℕ, ◌≡◌, List, drop, Option, Some, None}
use Rattle.tokens.specs.Token.{Token, token_at}
use Rattle.grammar.specs.Result.{Res, got, seq}
use Rattle.grammar.specs.FileReading.{Form, Definition}

-- which of some kinds of definitions a token of kind k begins, if any, by the kind of each one's token
abbrev pub Opening : {K : Type 0} → (K → ℕ) → ℕ → Option K → Type 0
Opening token k (Some kind) = k ≡ token kind
Opening {K} token k None = (kind : K) → k ≡ token kind → ⊥

-- the definition that begins at `first`, has its name at `name`, and is of this form
abbrev pub formed : ℕ → ℕ → List Token → Form → ℕ → List Token → Res Definition
formed first name all f q ts = got (record { first = first; end = q; name = name; token = token_at all name; form = f }) 0

-- where `rest` reads its form from p on
unfoldable pub behind_name : ℕ → ℕ → List Token → (ℕ → List Token → Res Form) → ℕ → Res Definition
behind_name first name all rest p = seq rest (formed first name all) p (drop p all)
