-- The host that goes by what a node says of itself, its own part; and of an array by what its elements say of
-- themselves.
use Rattle.std.specs.Prelude.{ℕ, Bool, true, false, not, ◌&&◌, List, [], ◌∷◌, map, codes, bytes_eq}
use Rattle.std.specs.List.{list_all, list_any}
use Rattle.std.specs.Option.{option_map_or}
use Rattle.tree.specs.declared.node.UnaryOperator.TheVariants.{Void}
use Rattle.tree.specs.Tree.{Own, string, number, boolean, null, name, hole, array, template, unary, Trees, none, more, own_of, below, Look}
use Rattle.tree.specs.Heap.{Held, look}
use Rattle.meaning.specs.Expression.{Units}
use Rattle.meaning.specs.Parts.{part_tree}
use Rattle.host.specs.declared.value_type.ValueType.{ValueType}
use Rattle.host.specs.declared.value_type.ValueType.TheVariants.{Undetermined, Undefined, Null, Number, String, Boolean, Object}
use Rattle.host.specs.declared.structural.Structural.{Structural}
use Rattle.host.specs.Answers.{Answers}

-- The names that it takes to be bound, each in its stored form. (No section of ECMA-262: a notion of ours.)
abbrev pub bound_of : Structural → List (List ℕ)
bound_of s = map (λ bound. bound.now) s.bound.now

-- A literal, or a hole. ECMA-262, "Literals", and "Array Initializer", Elision.
abbrev pub is_literal_or_hole : Own → Bool
is_literal_or_hole (string t) = true
is_literal_or_hole (number bits) = true
is_literal_or_hole (boolean b) = true
is_literal_or_hole null = true
is_literal_or_hole hole = true
is_literal_or_hole o = false

-- A literal, a hole, or an array of only these has no effects. ECMA-262, "Runtime Semantics: Evaluation" of Literal,
-- and "Runtime Semantics: ArrayAccumulation".
abbrev pub is_free_of_effects : Own → (elements_are_literals_or_holes : Bool) → Bool
is_free_of_effects array elements_are_literals_or_holes = elements_are_literals_or_holes
is_free_of_effects o elements_are_literals_or_holes = is_literal_or_hole o

-- The type of the values. ECMA-262, "Runtime Semantics: Evaluation" of Literal, ArrayLiteral and TemplateLiteral, and
-- "The void Operator".
abbrev pub type_of : Own → ValueType
type_of (string t) = String
type_of (number bits) = Number
type_of (boolean b) = Boolean
type_of null = Null
type_of array = Object
type_of template = String
type_of (unary Void) = Undefined
type_of o = Undetermined

-- The names of the language's own that it knows: their units, and as well their stored form, since they are ASCII.
-- ECMA-262, "Value Properties of the Global Object", "Other Properties of the Global Object", "Constructor Properties
-- of the Global Object".
abbrev pub own_names : List Units
own_names = codes "undefined" ∷ codes "Math" ∷ codes "Array" ∷ []

-- A text is one of the others. ECMA-262, "IsStrictlyEqual", of Strings.
abbrev pub is_among : List ℕ → List (List ℕ) → Bool
is_among text others = list_any (λ other. bytes_eq other text) others

-- A name in its stored form is one of the language's own, and nothing else binds it. ECMA-262, "ResolveBinding".
unfoldable pub is_own_name : (bound : List (List ℕ)) → List ℕ → Bool
is_own_name bound text = is_among text own_names && not (is_among text bound)

-- The same of a node. ECMA-262, "Identifier Reference".
abbrev pub is_global : (bound : List (List ℕ)) → Own → Bool
is_global bound (name text) = is_own_name bound text
is_global bound o = false

-- Each of the trees is that of a literal or a hole. ECMA-262, "Array Initializer".
abbrev pub all_literals_or_holes : Trees → Bool
all_literals_or_holes none = true
all_literals_or_holes (more t ts) = is_literal_or_hole (own_of t) && all_literals_or_holes ts

-- Its answers of the parts of payoffs. (No section: a notion of ours.)
abbrev pub structural_answers : (bound : List (List ℕ)) → Answers
structural_answers bound = record {
  effects = λ p. not (is_free_of_effects (own_of (part_tree p)) (all_literals_or_holes (below (part_tree p))));
  value_type = λ p. type_of (own_of (part_tree p));
  global = λ p. is_global bound (own_of (part_tree p));
}

-- What is stored at a number is a literal or a hole. (No section.)
abbrev pub literal_or_hole_at : Look → ℕ → Bool
literal_or_hole_at h n = option_map_or (λ r. is_literal_or_hole r.0) (h n) false

-- What is stored at a number has no effects. (No section.)
abbrev pub free_of_effects_at : Look → ℕ → Bool
free_of_effects_at h n = option_map_or (λ r. is_free_of_effects r.0 (list_all (literal_or_hole_at h) r.1)) (h n) false

-- Its answers of a number, by what is stored there: whether it has effects. Where nothing is stored, or a record whose
-- pieces do not lie within the stores, it may. (No section.)
abbrev pub structural_effects : Held → ℕ → Bool
structural_effects h n = not (free_of_effects_at (look h) n)

-- Of which type its values are; undetermined where nothing is stored. (No section.)
abbrev pub structural_type : Held → ℕ → ValueType
structural_type h n = option_map_or (λ r. type_of r.0) (look h n) Undetermined

-- Whether it is a global name; it is none where nothing is stored. (No section.)
abbrev pub structural_global : (bound : List (List ℕ)) → Held → ℕ → Bool
structural_global bound h n = option_map_or (λ r. is_global bound r.0) (look h n) false
