use Prim.Native.Nat.{◌+◌}
use mathlib.Core.Path.{refl}
use native.Mathlib.Omega.{arith}
use Rattle.tokens.specs.Source.{all}
use Rattle.grammar.specs.Rules.{asks}
use Rattle.lists.proofs.At.{handed_on}
use Rattle.definitions.specs.Macros.{macro_sort}
use Rattle.definitions.proofs.MacroLaws.{head_is_refused, tail_is_refused, macro_read, macro_named, no_macro_lem, macro_nameless, macro_behind}
use Rattle.definitions.proofs.macros.parse_macro.Goals as goal

pub returns-in_default : goal.returns-in_default
returns-in_default c =
    let a = c.args in no_macro_lem (asks a.strict) a.first a.source.now a.p c.kind_at.ensures c.in_default.ensures c.new.ensures

pub returns-then-kind_at-ne-IDENT : goal.returns-then-kind_at-ne-IDENT
returns-then-kind_at-ne-IDENT c =
    let a = c.args in
    macro_nameless (asks a.strict) a.first a.source.now a.p c.kind_at.ensures c.kind_at-2.ensures c.in-Some.kind c.in-Some.ensures c.if-kind_at-ne-IDENT.true c.new-then-kind_at-ne-IDENT.ensures

pub returns-in_err-list : goal.returns-in_err-list
returns-in_err-list c =
    let a = c.args in
    macro_behind (asks a.strict) a.first a.source.now a.p c.kind_at.ensures c.kind_at-2.ensures c.in-Some.kind c.in-Some.ensures c.if-kind_at-ne-IDENT.false
    (head_is_refused (asks a.strict) (macro_sort c.in-Some.kind) a.first (a.p + 1) (a.p + 2) (all a.source.now) c.in_err-list.ensures (handed_on c.from_residual.result c.from_residual.ensures.1))

pub returns-in_err-tail : goal.returns-in_err-tail
returns-in_err-tail c =
    let a = c.args in
    macro_behind (asks a.strict) a.first a.source.now a.p c.kind_at.ensures c.kind_at-2.ensures c.in-Some.kind c.in-Some.ensures c.if-kind_at-ne-IDENT.false
    (tail_is_refused (asks a.strict) (macro_sort c.in-Some.kind) a.first (a.p + 1) (a.p + 2) (all a.source.now) c.in_ok-list.ensures c.in_err-tail.ensures (handed_on c.from_residual-in_err-tail.result c.from_residual-in_err-tail.ensures.1))

pub returns : goal.returns
returns c =
    let a = c.args in
    macro_behind (asks a.strict) a.first a.source.now a.p c.kind_at.ensures c.kind_at-2.ensures c.in-Some.kind c.in-Some.ensures c.if-kind_at-ne-IDENT.false
    (macro_read (asks a.strict) (macro_sort c.in-Some.kind) a.first (a.p + 1) (a.p + 2) (all a.source.now) c.in_ok-list.ensures (macro_named c.in-Some.kind) (omega arith) c.in_ok-tail.ensures (rw (c.definition.ensures, c.bare.ensures, c.into.ensures) refl))
