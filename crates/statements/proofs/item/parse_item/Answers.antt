-- Each answer is one law. Tried as laws of `using` on the function: not found so.
use mathlib.Core.Path.{refl}
use Rattle.tokens.specs.Source.{count}
use Rattle.grammar.specs.Reading.{an_invocation, a_builtin}
use Rattle.statements.specs.declared.item.StatementType.TheVariants.{Invocation, Builtin}
use Rattle.statements.proofs.StatementLaws.{one_parsed, push_parsed, list_parsed}
use Rattle.statements.proofs.item.parse_item.Goals as goal

pub returns-in-One : goal.returns-in-One
returns-in-One c = one_parsed c.args.before (count c.args.source.now) (rw c.in-One.is at c.in_ok-x.ensures) c.put_one.ensures

pub returns-in-Push : goal.returns-in-Push
returns-in-Push c = push_parsed c.args.before (count c.args.source.now) (rw c.in-Push.is at c.in_ok-x.ensures) c.put_push.ensures

pub returns-in-Call : goal.returns-in-Call
returns-in-Call c = list_parsed c.args.before (count c.args.source.now) an_invocation _ _ Invocation (rw c.in-Call.is at c.in_ok-x.ensures).1 c.parse_called.ensures refl

pub returns-in-Builtin : goal.returns-in-Builtin
returns-in-Builtin c = list_parsed c.args.before (count c.args.source.now) a_builtin _ _ Builtin (rw c.in-Builtin.is at c.in_ok-x.ensures).1 c.parse_called-in-Builtin.ensures refl
