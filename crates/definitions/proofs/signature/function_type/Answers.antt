use Rattle.definitions.specs.declared.signature.FunctionType.TheVariants.{View, Pure, Payable, NonPayable}
use Rattle.definitions.proofs.DefinitionLaws.{type_there}
use Rattle.definitions.proofs.signature.function_type.Goals as goal

pub returns-in-18 : goal.returns-in-18
returns-in-18 c text = type_there text c.args.p c.kind_at.ensures View c.in-18.is

pub returns-in-19 : goal.returns-in-19
returns-in-19 c text = type_there text c.args.p c.kind_at.ensures Pure c.in-19.is

pub returns-in-20 : goal.returns-in-20
returns-in-20 c text = type_there text c.args.p c.kind_at.ensures Payable c.in-20.is

pub returns-in-21 : goal.returns-in-21
returns-in-21 c text = type_there text c.args.p c.kind_at.ensures NonPayable c.in-21.is
