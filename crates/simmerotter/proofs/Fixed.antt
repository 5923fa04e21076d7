-- That any two results meeting a promise are equal: the numbers of the answer and all that is lent. Assumes nothing.
use Prim.Native.Nat.{ℕ}
use mathlib.Core.Path.{◌≡◌, sym, ap, ◌∙◌}
use mathlib.Core.List.{List}
use Rattle.statements.specs.Call as bodies
use Rattle.statements.proofs.Fixed as body
use Rattle.files.specs.Call as files
use Rattle.files.proofs.Fixed as file
use Rattle.lexer.specs.Call as texts
use Rattle.lexer.proofs.Fixed as text
use Rattle.simmerotter.specs.Answered.{LexAnswered, FileAnswered, BodyAnswered}

-- of `simmerotter_lex`
pub one_text : {bytes list n n' l l' : List ℕ} → LexAnswered bytes list n l → LexAnswered bytes list n' l' → (n ≡ n') × (l ≡ l')
one_text x y = let (r, l) = text.one_call x.call y.call in (x.numbers ∙ ap texts.values r ∙ sym y.numbers, l)

-- of `simmerotter_read_file`
pub one_file : {mode : ℕ} {text words kept de st ar n n' k k' d d' s s' a a' : List ℕ}
    → FileAnswered mode text words kept de st ar n k d s a
    → FileAnswered mode text words kept de st ar n' k' d' s' a'
    → (n ≡ n') × (k ≡ k') × (d ≡ d') × (s ≡ s') × (a ≡ a')
one_file x y =
    let (r, k, d, s, a) = file.one_call x.call y.call in
    (x.numbers ∙ ap files.values r ∙ sym y.numbers, k, d, s, a)

-- of `simmerotter_read_body`
pub one_body : {mode edition : ℕ} {text words kept st ar n n' k k' s s' a a' : List ℕ} {start : ℕ}
    → BodyAnswered mode edition text words start kept st ar n k s a
    → BodyAnswered mode edition text words start kept st ar n' k' s' a'
    → (n ≡ n') × (k ≡ k') × (s ≡ s') × (a ≡ a')
one_body x y =
    let (r, k, s, a) = body.one_call x.call y.call in
    (x.numbers ∙ ap bodies.values r ∙ sym y.numbers, k, s, a)
