-- Worlds that a clause can quantify over. A clause speaks of types of the lowest level, and a world brings types of its
-- own. Here these are numbers: its states, foreign objects, BigInts and symbols are told apart by number, as those of any
-- engine can be that runs on a machine.
use Rattle.std.specs.Prelude.{ℕ, List, Option}
use Rattle.tree.specs.declared.node.BinaryOperator.{BinaryOperator}
use Rattle.meaning.specs.Expression.{Units}
use Rattle.meaning.specs.Number.{Number}
use Rattle.meaning.specs.Value.{Primitive, Value, Slots}
use Rattle.meaning.specs.World.{World, Result, Ending, Outcome, Next, Hint}

abbrev pub NumberedValue : Type 0
NumberedValue = Value ℕ ℕ ℕ

-- What a world has besides its types: field by field as `World`, which says of each where ECMA-262 has it.
pub record NumberedWorld : Type 0 where
  pub read : Units → ℕ → Ending ℕ NumberedValue
  pub get : (object key : NumberedValue) → ℕ → Ending ℕ NumberedValue
  pub apply : (function receiver : NumberedValue) → List NumberedValue → ℕ → Ending ℕ NumberedValue
  pub iterate : NumberedValue → ℕ → Ending ℕ (List NumberedValue)
  pub next : (mark : ℕ) → List (Outcome NumberedValue) → ℕ → Next ℕ NumberedValue
  pub primitive : NumberedValue → Hint → ℕ → Result (Primitive ℕ ℕ)
  pub spread_out : ℕ → ℕ → Result (Option (Slots ℕ ℕ ℕ))
  pub big_binary : BinaryOperator → ℕ → ℕ → Result ℕ
  pub big_minus : ℕ → ℕ
  pub arith : BinaryOperator → Number → Number → Number
  pub number_text : Number → Units
  pub big_text : ℕ → Units
  pub text_number : Units → Number
  pub own : Units → NumberedValue
  pub pow : ℕ
  pub array_of : ℕ
  pub text_concat : ℕ
  pub array_concat : ℕ

abbrev pub world_of : NumberedWorld → World
world_of n = record {
  State = ℕ;
  Object = ℕ;
  Big = ℕ;
  Symbol = ℕ;
  read = n.read;
  get = n.get;
  apply = n.apply;
  iterate = n.iterate;
  next = n.next;
  primitive = n.primitive;
  spread_out = n.spread_out;
  big_binary = n.big_binary;
  big_minus = n.big_minus;
  arith = n.arith;
  number_text = n.number_text;
  big_text = n.big_text;
  text_number = n.text_number;
  own = n.own;
  pow = n.pow;
  array_of = n.array_of;
  text_concat = n.text_concat;
  array_concat = n.array_concat;
}
