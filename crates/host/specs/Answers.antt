-- What a host says of each node of a payoff, with what is below it.
use Rattle.std.specs.Prelude.{Bool}
use Rattle.host.specs.declared.value_type.ValueType.{ValueType}
use Rattle.meaning.specs.Parts.{Part}

-- A host is known by its answers: whether a node has effects, of which type its values are, and whether it is a name
-- that means what the language itself means by it.
pub record Answers : Type 0 where
  pub effects : Part → Bool
  pub value_type : Part → ValueType
  pub global : Part → Bool

-- What a host is asked.
pub data Question : Type 0 where
  effects value_type global : Part → Question
