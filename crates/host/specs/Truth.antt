-- When an answer is true in a world.
use Rattle.std.specs.Prelude.{◌≡◌, ℕ, Bool, true, false, List}
use Rattle.host.specs.declared.value_type.ValueType.{ValueType}
use Rattle.host.specs.declared.value_type.ValueType.TheVariants.{Undetermined, Undefined, Null, Number, BigInt, String, Boolean, Object}
use Rattle.meaning.specs.Expression.{Expression, Units}
use Rattle.meaning.specs.Number.{Number as NumberValue}
use Rattle.meaning.specs.Value.{Primitive, Value}
use Rattle.meaning.specs.World.{World, ValueIn, PrimitiveIn, Result, Ending}
use Rattle.meaning.specs.Acts.{Mode}
use Rattle.meaning.specs.Runs.{Runs, Calm, mean, then, asks, watched}
use Rattle.meaning.specs.Parts.{Part}
use Rattle.host.specs.Answers.{Answers, Question}

module _ (w : World) where
  -- A primitive value, and an array or object, of a type. ECMA-262, "ECMAScript Language Types".
  abbrev pub PrimitiveOfType : ValueType → PrimitiveIn w → Type 0
  PrimitiveOfType Undetermined p = Unit {0}
  PrimitiveOfType Undefined p = p ≡ Primitive.undefined
  PrimitiveOfType Null p = p ≡ Primitive.null
  PrimitiveOfType Number p = (x : NumberValue) × (p ≡ Primitive.number x)
  PrimitiveOfType BigInt p = (b : w.Big) × (p ≡ Primitive.bigint b)
  PrimitiveOfType String p = (u : Units) × (p ≡ Primitive.text u)
  PrimitiveOfType Boolean p = (b : Bool) × (p ≡ Primitive.boolean b)
  PrimitiveOfType Object p = ⊥

  abbrev pub TypeOfObjects : ValueType → Type 0
  TypeOfObjects Undetermined = Unit {0}
  TypeOfObjects Undefined = ⊥
  TypeOfObjects Null = ⊥
  TypeOfObjects Number = ⊥
  TypeOfObjects BigInt = ⊥
  TypeOfObjects String = ⊥
  TypeOfObjects Boolean = ⊥
  TypeOfObjects Object = Unit {0}

  abbrev pub OfType : ValueType → ValueIn w → Type 0
  OfType k (Value.primitive p) = PrimitiveOfType k p
  OfType k (Value.array xs) = TypeOfObjects k
  OfType k (Value.object o) = TypeOfObjects k

  -- The run of a spread, with what it iterates, gives these values in the state that it began in, and so does each
  -- run inside. ECMA-262, "Runtime Semantics: ArgumentListEvaluation" and "ArrayAccumulation".
  abbrev pub SpreadCalm : Expression → w.State → List (ValueIn w) → Type 0
  SpreadCalm x s vs = watched w Mode.calm (then w (mean w Mode.calm x).run (λ v. asks w (w.iterate v))) s (Result.gives vs) s

  -- A node's run from every state, and each run inside that run, ends without a throw in the state that it began in.
  -- A hole and a quasi do not run. (No section: a notion of ours.)
  abbrev pub WithoutEffects : Part → Type 0
  WithoutEffects (Part.expression x) = (s : w.State) → (v : ValueIn w) × Calm w x s v
  WithoutEffects (Part.hole l) = Unit {0}
  WithoutEffects (Part.spread l x) = (s : w.State) → (vs : List (ValueIn w)) × SpreadCalm x s vs
  WithoutEffects (Part.quasi q) = Unit {0}

  -- Every value that a node's run ends with is of the type. (No section.)
  abbrev pub HasType : ValueType → Part → Type 0
  HasType k (Part.expression x) = (s : w.State) (v : ValueIn w) (t : w.State) → Runs w x s (Result.gives v) t → OfType k v
  HasType k (Part.hole l) = Unit {0}
  HasType k (Part.spread l x) = Unit {0}
  HasType k (Part.quasi q) = Unit {0}

  -- A name reads from every state as the language's own, and changes none. ECMA-262, "The Global Object".
  abbrev pub ReadsAsOwn : Units → Type 0
  ReadsAsOwn u = (s : w.State) → w.read u s ≡ Ending.ends (Result.gives (w.own u)) s

  -- The node is such a name. ECMA-262, "Identifier Reference".
  abbrev pub IsTheLanguagesOwn : Part → Type 0
  IsTheLanguagesOwn p = (l : ℕ) × (u : Units) × (p ≡ Part.expression (Expression.name l u)) × ReadsAsOwn u

  -- An answer is true: silence always is. (No section.)
  abbrev pub TrueAnswer : Answers → Question → Type 0
  TrueAnswer a (Question.effects p) = a.effects p ≡ false → WithoutEffects p
  TrueAnswer a (Question.value_type p) = HasType (a.value_type p) p
  TrueAnswer a (Question.global p) = a.global p ≡ true → IsTheLanguagesOwn p

  -- All that a host says of a part is true. (No section.)
  abbrev pub TrueOf : Answers → Part → Type 0
  TrueOf a p = TrueAnswer a (Question.effects p) × TrueAnswer a (Question.value_type p) × TrueAnswer a (Question.global p)

  -- A host says only what is true. (No section.)
  abbrev pub Truthful : Answers → Type 0
  Truthful a = (q : Question) → TrueAnswer a q
