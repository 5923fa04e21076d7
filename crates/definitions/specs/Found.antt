-- Inner: the definition that a reader found, as a record says it.
use Rattle.std.specs.Prelude.{ℕ, ◌+◌, ◌≤◌}
use Rattle.tokens.specs.Number.{most_tokens}
use Rattle.lists.specs.declared.before.Before.{Before}
use Rattle.definitions.specs.declared.record.Definition as code
use Rattle.definitions.specs.declared.record.DefinitionKind.{DefinitionKind}
use Rattle.definitions.specs.declared.record.Found.{Found}

-- places and counts that its record's words can hold
pub record Fitting (f : Found) (before : Before) : Type 0 where
  pub first : f.first ≤ most_tokens
  pub name : f.name ≤ most_tokens
  pub end : f.end ≤ most_tokens
  pub inputs : f.inputs ≤ most_tokens
  pub outputs : f.outputs ≤ most_tokens
  pub statements : f.statements ≤ most_tokens
  pub statements_before : before.statements ≤ most_tokens
  pub arguments_before : before.arguments ≤ most_tokens

-- one without arguments, statements, A and B
abbrev pub bare : DefinitionKind → ℕ → ℕ → ℕ → Found
bare kind first name end =
    record { kind = kind; first = first; name = name; end = end; inputs = 0; outputs = 0; statements = 0; a = 0; b = 0 }

-- its definition, behind these records: the first output stands behind the inputs
abbrev pub definition_of : Before → Found → code.Definition
definition_of before f =
    record {
      kind = f.kind;
      name = f.name;
      first = f.first;
      end = f.end;
      argument = before.arguments;
      arguments = f.inputs;
      output = before.arguments + f.inputs;
      outputs = f.outputs;
      statement = before.statements;
      statements = f.statements;
      a = f.a;
      b = f.b;
    }
