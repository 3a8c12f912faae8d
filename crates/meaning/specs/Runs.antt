-- The run of an expression in a world.
use Rattle.std.specs.Prelude.{ℕ, zero, suc, List, [], ◌∷◌, ◌++◌}
use Rattle.tree.specs.declared.node.FirstChild.{FirstChild}
use Rattle.meaning.specs.Expression.{Expression, Elements, Arguments, Pieces, Children, Units, cooked_text}
use Rattle.meaning.specs.Number.{Number}
use Rattle.meaning.specs.Value.{Primitive, Value, Slots, join_slots, slots_of}
use Rattle.meaning.specs.World.{World, ValueIn, SlotsIn, Result, Ending, Outcome, text_value, number_value, undefined_value}
use Rattle.meaning.specs.Coercion.{to_text, unary_result, binary_result}
use Rattle.meaning.specs.Acts.{Act, Sight, Returns, Then, Asks, Settles, Mode, Watched, Seen, Steps}

-- Two values: object and key, or receiver and function. ECMA-262, "The Reference Record Specification Type" and
-- "EvaluateCall".
pub data Pair (V : Type 0) : Type 0 where
  pair : V → V → Pair V

-- What an expression refers to: nothing that has an object, or, if it is a member, object and key, which an act finds.
-- ECMA-262, "The Reference Record Specification Type" and "IsPropertyReference".
pub data Reference (S V : Type 0) : Type 1 where
  plain : Reference S V
  member : Act S (Pair V) → Reference S V

-- What an expression means: its run, with its value, and what it refers to. ECMA-262, "Runtime Semantics: Evaluation"
-- and "GetValue".
pub record Meaning (S V : Type 0) : Type 1 where
  pub run : Act S V
  pub refers : Reference S V

module _ (w : World) where
  -- The acts of a world, by short names. ECMA-262, "Algorithm Conventions".
  abbrev pub Does : Type 0 → Type 1
  Does A = Act w.State A

  abbrev pub Means : Type 1
  Means = Meaning w.State (ValueIn w)

  abbrev pub returns : {A : Type 0} → A → Does A
  returns {A} a = Returns w.State A a

  abbrev pub then : {A B : Type 0} → Does A → (A → Does B) → Does B
  then {A} {B} m k = Then w.State A B m k

  abbrev pub asks : {A : Type 0} → (w.State → Ending w.State A) → Does A
  asks {A} f = Asks w.State A f

  abbrev pub settles : {A : Type 0} → (w.State → Result A) → Does A
  settles {A} f = Settles w.State A f

  abbrev pub watched : {A : Type 0} → Mode → Does A → Does A
  watched {A} c m = Watched w.State A m c

  -- The value of a member, from its object and key. ECMA-262, "GetValue" of a property reference.
  abbrev pub get_value : Pair (ValueIn w) → Does (ValueIn w)
  get_value (Pair.pair o k) = asks (w.get o k)

  -- The receiver and the function of a member that is called: its object, and its value. ECMA-262, "EvaluateCall" and
  -- "GetThisValue".
  abbrev pub get_method : Pair (ValueIn w) → Does (Pair (ValueIn w))
  get_method (Pair.pair o k) = then (asks (w.get o k)) (λ f. returns (Pair.pair o f))

  -- The receiver and the function of a callee: undefined is the receiver where it is no member. ECMA-262,
  -- "EvaluateCall".
  abbrev pub callee : Act w.State (ValueIn w) → Reference w.State (ValueIn w) → Does (Pair (ValueIn w))
  callee m Reference.plain = then m (λ f. returns (Pair.pair (undefined_value w) f))
  callee m (Reference.member a) = then a get_method

  -- The function is applied to the receiver and the arguments. ECMA-262, "EvaluateCall" and "Call".
  abbrev pub apply_to : List (ValueIn w) → Pair (ValueIn w) → Does (ValueIn w)
  apply_to vs (Pair.pair o f) = asks (w.apply f o vs)

  -- Object and key as an outcome. ECMA-262, "The Reference Record Specification Type".
  abbrev pub seen_reference : Pair (ValueIn w) → Outcome (ValueIn w)
  seen_reference (Pair.pair o k) = Outcome.refers o k

  -- A child whose value is taken. ECMA-262, "GetValue".
  abbrev pub sight : Act w.State (ValueIn w) → Sight w.State (ValueIn w)
  sight m = Seen w.State (ValueIn w) (ValueIn w) m Outcome.gave

  -- A child that is taken as a reference: a member yields its object and key and is not read, and anything else its
  -- value. ECMA-262, "The Reference Record Specification Type".
  abbrev pub sight_reference : Act w.State (ValueIn w) → Reference w.State (ValueIn w) → Sight w.State (ValueIn w)
  sight_reference m Reference.plain = sight m
  sight_reference m (Reference.member a) = Seen w.State (Pair (ValueIn w)) (ValueIn w) a seen_reference

  -- The first child, as the opaque expression takes it. ECMA-262, "The delete Operator" and "Tagged Templates", which
  -- take a reference.
  abbrev pub sight_first : FirstChild → Means → Sight w.State (ValueIn w)
  sight_first FirstChild.Reference m = sight_reference m.run m.refers
  sight_first FirstChild.Value m = sight m.run

  -- The meaning of an expression that is no member. ECMA-262, "Runtime Semantics: Evaluation".
  abbrev pub valued : Mode → Does (ValueIn w) → Means
  valued c m = record { run = watched c m; refers = Reference.plain }

  -- The meaning of a member, from what finds its object and key. ECMA-262, "Property Accessors", and "GetValue".
  abbrev pub membered : Mode → Does (Pair (ValueIn w)) → Means
  membered c m = record { run = watched c (then m get_value); refers = Reference.member m }

  unfoldable mutual
    -- Each kind of expression. ECMA-262, "Runtime Semantics: Evaluation" of Literal, IdentifierReference, ArrayLiteral,
    -- MemberExpression ("EvaluatePropertyAccessWithIdentifierKey" and "EvaluatePropertyAccessWithExpressionKey"),
    -- CallExpression ("EvaluateCall"), TemplateLiteral, UnaryExpression, and of the binary operators
    -- ("EvaluateStringOrNumericBinaryExpression").
    pub mean : Mode → Expression → Means
    mean c (Expression.string l u) = valued c (returns (text_value w u))
    mean c (Expression.number l n) = valued c (returns (number_value w (Number.bits n)))
    mean c (Expression.boolean l b) = valued c (returns (Value.primitive (Primitive.boolean b)))
    mean c (Expression.null l) = valued c (returns (Value.primitive Primitive.null))
    mean c (Expression.name l u) = valued c (asks (w.read u))
    mean c (Expression.array l xs) = valued c (then (elements c xs) (λ vs. returns (Value.array vs)))
    mean c (Expression.static_member l x p) = membered c (then (mean c x).run (λ o. returns (Pair.pair o (text_value w p))))
    mean c (Expression.computed_member l x y) = membered c (then (mean c x).run (λ o. then (mean c y).run (λ k. returns (Pair.pair o k))))
    mean c (Expression.call l f xs) = valued c (then (callee (mean c f).run (mean c f).refers) (λ g. then (arguments c xs) (λ vs. apply_to vs g)))
    mean c (Expression.template l ps) = valued c (then (pieces c [] ps) (λ u. returns (text_value w u)))
    mean c (Expression.unary l o x) = valued c (then (mean c x).run (λ v. settles (unary_result w o v)))
    mean c (Expression.binary l o x y) = valued c (then (mean c x).run (λ a. then (mean c y).run (λ b. settles (binary_result w o a b))))
    mean c (Expression.opaque l f m xs) = valued c (Steps w.State (ValueIn w) (w.next m) (children c f xs) [])

    -- The slots of an array's elements, in order. ECMA-262, "Runtime Semantics: ArrayAccumulation".
    pub elements : Mode → Elements → Does (SlotsIn w)
    elements c Elements.no_elements = returns Slots.no_slots
    elements c (Elements.item x xs) = then (mean c x).run (λ v. then (elements c xs) (λ vs. returns (Slots.value v vs)))
    elements c (Elements.hole l xs) = then (elements c xs) (λ vs. returns (Slots.hole vs))
    elements c (Elements.spread l x xs) = then (watched c (then (mean c x).run (λ v. asks (w.iterate v)))) (λ us. then (elements c xs) (λ vs. returns (join_slots (slots_of us) vs)))

    -- The values of a call's arguments, in order. ECMA-262, "Runtime Semantics: ArgumentListEvaluation".
    pub arguments : Mode → Arguments → Does (List (ValueIn w))
    arguments c Arguments.no_arguments = returns []
    arguments c (Arguments.argument x xs) = then (mean c x).run (λ v. then (arguments c xs) (λ vs. returns (v ∷ vs)))
    arguments c (Arguments.spread_argument l x xs) = then (watched c (then (mean c x).run (λ v. asks (w.iterate v)))) (λ us. then (arguments c xs) (λ vs. returns (us ++ vs)))

    -- The text of a template's pieces, behind the text so far: each value is made a text before the next expression
    -- runs. ECMA-262, "Runtime Semantics: Evaluation" of SubstitutionTemplate and TemplateMiddleList.
    pub pieces : Mode → Units → Pieces → Does Units
    pieces c u (Pieces.last q) = returns (u ++ cooked_text q)
    pieces c u (Pieces.piece q x ps) = then (mean c x).run (λ v. then (settles (to_text w v)) (λ t. pieces c ((u ++ cooked_text q) ++ t) ps))

    -- The child of an opaque expression at an index: only the first may be taken as a reference, and past the last
    -- there is none, so that a world that asks for it has no run. ECMA-262, "Runtime Semantics: Evaluation" of any
    -- other expression.
    pub children : Mode → FirstChild → Children → ℕ → Sight w.State (ValueIn w)
    children c f Children.no_children i = λ s o t. ⊥
    children c f (Children.child x xs) zero = sight_first f (mean c x)
    children c f (Children.child x xs) (suc i) = children c FirstChild.Value xs i

-- The run of an expression from a state ends with a result in a state. ECMA-262, "Runtime Semantics: Evaluation", and
-- "GetValue" of what it gives.
abbrev pub Runs : (w : World) → Expression → w.State → Result (ValueIn w) → w.State → Type 0
Runs w x = (mean w Mode.free x).run

-- The run from a state gives a value in that state, and each run inside it ends without a throw in the state that it
-- began in. (No section: a notion of ours.)
abbrev pub Calm : (w : World) → Expression → w.State → ValueIn w → Type 0
Calm w x s v = (mean w Mode.calm x).run s (Result.gives v) s
