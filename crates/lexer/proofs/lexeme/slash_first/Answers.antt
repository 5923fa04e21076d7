-- `slash_first`: by the byte behind the slash. Assumes nothing.
use Prim.Native.Char.{code}
use Prim.Native.Nat.{◌≤◌, ◌<◌}
use mathlib.Core.Path.{◌≡◌, ◌∙◌}
use native.Mathlib.Omega.{arith}
use borrow.Author.Tests.{ne_eqb, lt-ltb, le-ltb}
use lib.ListN.{length, drop}
use Rattle.std.proofs.lemmas.List.{take_rest}
use Rattle.lexemes.specs.Reader.{opened, slash}
use Rattle.lexer.proofs.lexeme.slash_first.Goals as goal

pub returns-in-47 : goal.returns-in-47
unfolding slash
returns-in-47 c = c.found.ensures ∙ rw (← c.byte_at.ensures, c.in-47.is, c.line_of.ensures.value)

pub returns-in-Some : goal.returns-in-Some
unfolding slash
returns-in-Some c =
    let behind = drop 2 c.args.bytes.now in
    let n = c.in-Some.n in
    let h : (n < length behind) × (n ≡ opened behind) = rw (take_rest c.args.bytes.now 2) at c.in-Some.ensures in
    let l = h.0 in
    c.found-in-Some.ensures ∙ rw (← c.byte_at.ensures, c.in-42.is, ← h.1, lt-ltb n (length behind) l)

pub returns-in-None : goal.returns-in-None
unfolding slash
returns-in-None c =
    let behind = drop 2 c.args.bytes.now in
    let l : length behind ≤ opened behind = rw (take_rest c.args.bytes.now 2) at c.in-None.ensures in
    rw (← c.byte_at.ensures, c.in-42.is, le-ltb (opened behind) (length behind) l)

pub returns-in_default : goal.returns-in_default
unfolding slash
returns-in_default c = rw (← c.byte_at.ensures, ne_eqb c.byte_at.result (code "/") (omega arith), ne_eqb c.byte_at.result (code "*") (omega arith))
