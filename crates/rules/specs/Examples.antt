-- Both sides of each rule, computed: what an expression becomes, with the numbers of its new nodes, and what was asked.
use Rattle.std.specs.Prelude.{◌≡◌, ℕ, true, false, List, [], ◌∷◌, Some, None, Option, codes}
use Rattle.tree.specs.declared.node.UnaryOperator.TheVariants.{Plus, Void}
use Rattle.tree.specs.declared.node.BinaryOperator.TheVariants.{Exponentiation}
use Rattle.tree.specs.declared.node.FirstChild.{FirstChild}
use Rattle.template.specs.Escaped.{raw_of}
use Rattle.host.specs.declared.value_type.ValueType.TheVariants.{Undetermined, Number}
use Rattle.meaning.specs.Expression.{Expression, Elements, Arguments, Quasi, Pieces, Children, Units}
use Rattle.meaning.specs.Methods.{concat_name, pow_name, of_name, math_name, array_name}
use Rattle.meaning.specs.Parts.{Part}
use Rattle.host.specs.Answers.{Answers, Question}
use Rattle.rules.specs.Places.{Role, Settings}
use Rattle.rules.specs.Deciding.{decided, asked}
use Rattle.rules.specs.Property.{property_rule}
use Rattle.rules.specs.Method.{method_rule}
use Rattle.rules.specs.Chain.{chain_rule}

-- Three hosts: one knows nothing, one knows only that names are global, and by one all is a number without effects.
abbrev pub knows_nothing : Answers
knows_nothing = record { effects = λ z. true; value_type = λ z. Undetermined; global = λ z. false }

abbrev pub all_global : Answers
all_global = record { effects = λ z. true; value_type = λ z. Undetermined; global = λ z. true }

abbrev pub all_numbers : Answers
all_numbers = record { effects = λ z. false; value_type = λ z. Number; global = λ z. true }

-- Two opaque expressions; a string, an array literal and the numbers 1, 2 and 3; arguments; a call of a static member;
-- and a new quasi.
abbrev pub p : Expression
p = Expression.opaque 1 FirstChild.Value 0 Children.no_children

abbrev pub q : Expression
q = Expression.opaque 2 FirstChild.Value 1 Children.no_children

abbrev pub string : Units → Expression
string u = Expression.string 3 u

abbrev pub items : List Expression → Elements
items [] = Elements.no_elements
items (x ∷ xs) = Elements.item x (items xs)

abbrev pub array : List Expression → Expression
array xs = Expression.array 4 (items xs)

abbrev pub one : Expression
one = Expression.number 5 0x3FF0000000000000

abbrev pub two : Expression
two = Expression.number 6 0x4000000000000000

abbrev pub three : Expression
three = Expression.number 7 0x4008000000000000

abbrev pub arguments : List Expression → Arguments
arguments [] = Arguments.no_arguments
arguments (x ∷ xs) = Arguments.argument x (arguments xs)

abbrev pub call : Expression → Units → List Expression → Expression
call o k xs = Expression.call 9 (Expression.static_member 8 o k) (arguments xs)

abbrev pub quasi : ℕ → Units → Quasi
quasi l u = Quasi.quasi l (raw_of u) u

-- What is asked.
abbrev pub type_of : Expression → Question
type_of x = Question.value_type (Part.expression x)

abbrev pub effects_of : Expression → Question
effects_of x = Question.effects (Part.expression x)

abbrev pub global_of : Expression → Question
global_of x = Question.global (Part.expression x)

-- What each rule makes of an expression, and what it asks, where templates and `**` are supported and the first free
-- number is 10.
abbrev pub all_supported : Settings
all_supported = record { templates = true; power = true }

abbrev pub ByChain : Answers → Expression → Option Expression → List Question → Type 0
ByChain a x y qs = (decided a (chain_rule all_supported 10 Role.ordinary x) ≡ y) × (asked a (chain_rule all_supported 10 Role.ordinary x) ≡ qs)

abbrev pub ByMethod : Answers → Expression → Option Expression → List Question → Type 0
ByMethod a x y qs = (decided a (method_rule all_supported 10 Role.ordinary x) ≡ y) × (asked a (method_rule all_supported 10 Role.ordinary x) ≡ qs)

abbrev pub ByProperty : Answers → Expression → Option Expression → List Question → Type 0
ByProperty a x y qs = (decided a (property_rule 10 Role.ordinary x) ≡ y) × (asked a (property_rule 10 Role.ordinary x) ≡ qs)

-- Of the rule chain.
pub record ChainExamples : Type 0 where
  -- "".concat(p).concat(q) is `${p}${q}`
  pub two_calls : ByChain knows_nothing (call (call (string []) concat_name (p ∷ [])) concat_name (q ∷ []))
      (Some (Expression.template 13 (Pieces.piece (quasi 10 []) p (Pieces.piece (quasi 11 []) q (Pieces.last (quasi 12 [])))))) []
  -- "".concat(p, q).concat() is kept
  pub one_does_not_interleave : ByChain knows_nothing (call (call (string []) concat_name (p ∷ q ∷ [])) concat_name []) None (type_of p ∷ effects_of q ∷ [])
  -- "".concat(p, q, p).concat(q, p, q), all numbers, is one call, than which a template is longer
  pub all_interleave : ByChain all_numbers (call (call (string []) concat_name (p ∷ q ∷ p ∷ [])) concat_name (q ∷ p ∷ q ∷ []))
      (Some (Expression.call 10 (Expression.static_member 8 (string []) concat_name) (arguments (p ∷ q ∷ p ∷ q ∷ p ∷ q ∷ []))))
      (type_of p ∷ type_of q ∷ type_of p ∷ type_of q ∷ type_of p ∷ [])
  -- "".concat(p).concat(q).concat(p).concat(q).concat(p) is a template, which is shorter than five calls
  pub each_interleaves : ByChain knows_nothing
      (call (call (call (call (call (string []) concat_name (p ∷ [])) concat_name (q ∷ [])) concat_name (p ∷ [])) concat_name (q ∷ [])) concat_name (p ∷ []))
      (Some (Expression.template 16 (Pieces.piece (quasi 10 []) p (Pieces.piece (quasi 11 []) q (Pieces.piece (quasi 12 []) p (Pieces.piece (quasi 13 []) q (Pieces.piece (quasi 14 []) p (Pieces.last (quasi 15 [])))))))))
      (type_of p ∷ effects_of q ∷ [])
  -- "a".concat().concat("b") is "ab"
  pub only_strings : ByChain knows_nothing (call (call (string (codes "a")) concat_name []) concat_name (string (codes "b") ∷ [])) (Some (Expression.string 10 (codes "ab"))) []
  -- [].concat(p).concat(q) is kept, and is one call where p is a number, or an array literal
  pub array_kept : ByChain knows_nothing (call (call (array []) concat_name (p ∷ [])) concat_name (q ∷ [])) None (type_of p ∷ effects_of q ∷ [])
  pub array_of_numbers : ByChain all_numbers (call (call (array []) concat_name (p ∷ [])) concat_name (q ∷ []))
      (Some (Expression.call 10 (Expression.static_member 8 (array []) concat_name) (arguments (p ∷ q ∷ [])))) (type_of p ∷ [])
  pub array_of_arrays : ByChain knows_nothing (call (call (array []) concat_name (array (p ∷ []) ∷ [])) concat_name (q ∷ []))
      (Some (Expression.call 10 (Expression.static_member 8 (array []) concat_name) (arguments (array (p ∷ []) ∷ q ∷ [])))) []
  -- "".concat(p) alone is no chain
  pub one_call : ByChain knows_nothing (call (string []) concat_name (p ∷ [])) None []

-- Of the rule method.
pub record MethodExamples : Type 0 where
  -- "a".concat("b", p, "c") is `ab${p}c`, and "a".concat("b") is "ab"
  pub strings_join : ByMethod all_numbers (call (string (codes "a")) concat_name (string (codes "b") ∷ p ∷ string (codes "c") ∷ []))
      (Some (Expression.template 12 (Pieces.piece (quasi 10 (codes "ab")) p (Pieces.last (quasi 11 (codes "c")))))) (type_of (string (codes "b")) ∷ type_of p ∷ [])
  pub only_strings : ByMethod knows_nothing (call (string (codes "a")) concat_name (string (codes "b") ∷ [])) (Some (Expression.string 10 (codes "ab"))) []
  -- "".concat(p, p, p, p), all numbers, is a template, and of five it is longer
  pub four_arguments : ByMethod all_numbers (call (string []) concat_name (p ∷ p ∷ p ∷ p ∷ []))
      (Some (Expression.template 15 (Pieces.piece (quasi 10 []) p (Pieces.piece (quasi 11 []) p (Pieces.piece (quasi 12 []) p (Pieces.piece (quasi 13 []) p (Pieces.last (quasi 14 []))))))))
      (type_of p ∷ type_of p ∷ type_of p ∷ [])
  pub five_arguments : ByMethod all_numbers (call (string []) concat_name (p ∷ p ∷ p ∷ p ∷ p ∷ [])) None []
  -- "".concat(p, q) is kept
  pub effects_behind : ByMethod knows_nothing (call (string []) concat_name (p ∷ q ∷ [])) None (type_of p ∷ effects_of q ∷ [])
  -- [].concat(1, [2, ,], p) is [1, 2, ,].concat(p), by a static member and by a key
  pub leading_taken : ByMethod knows_nothing
      (call (array []) concat_name (one ∷ Expression.array 4 (Elements.item two (Elements.hole 3 Elements.no_elements)) ∷ p ∷ []))
      (Some
      (Expression.call 12 (Expression.static_member 11 (Expression.array 10 (Elements.item one (Elements.item two (Elements.hole 3 Elements.no_elements)))) concat_name) (arguments (p ∷ [])))) []
  pub by_key : ByMethod knows_nothing (Expression.call 9 (Expression.computed_member 8 (array []) (string concat_name)) (arguments (one ∷ p ∷ [])))
      (Some (Expression.call 12 (Expression.computed_member 11 (Expression.array 10 (items (one ∷ []))) (string concat_name)) (arguments (p ∷ [])))) []
  -- [1].concat([2]) is [1, 2]; [1].concat() is the array itself; [1].concat(p) is kept
  pub all_taken : ByMethod knows_nothing (call (array (one ∷ [])) concat_name (array (two ∷ []) ∷ [])) (Some (Expression.array 10 (items (one ∷ two ∷ [])))) []
  pub none_given : ByMethod knows_nothing (call (array (one ∷ [])) concat_name []) (Some (array (one ∷ []))) []
  pub none_taken : ByMethod knows_nothing (call (array (one ∷ [])) concat_name (p ∷ [])) None []
  -- Math.pow(p, q) is p ** +q, and p ** q where q is a number; of a Math that may be another it is kept
  pub power : ByMethod all_global (call (Expression.name 3 math_name) pow_name (p ∷ q ∷ []))
      (Some (Expression.binary 11 Exponentiation p (Expression.unary 10 Plus q))) (global_of (Expression.name 3 math_name) ∷ type_of q ∷ [])
  pub power_of_number : ByMethod all_numbers (call (Expression.name 3 math_name) pow_name (p ∷ q ∷ []))
      (Some (Expression.binary 10 Exponentiation p q)) (global_of (Expression.name 3 math_name) ∷ type_of q ∷ [])
  pub another_math : ByMethod knows_nothing (call (Expression.name 3 math_name) pow_name (p ∷ q ∷ [])) None (global_of (Expression.name 3 math_name) ∷ [])
  -- Array.of(p, ...q) is [p, ...q]
  pub array_of : ByMethod all_global (Expression.call 9 (Expression.static_member 8 (Expression.name 3 array_name) of_name) (Arguments.argument p (Arguments.spread_argument 4 q Arguments.no_arguments)))
      (Some (Expression.array 10 (Elements.item p (Elements.spread 4 q Elements.no_elements)))) (global_of (Expression.name 3 array_name) ∷ [])

-- Of the rule property.
pub record PropertyExamples : Type 0 where
  -- "abc"[2] is "c", and "abc"[3] is void 0
  pub unit : ByProperty all_numbers (Expression.computed_member 8 (string (codes "abc")) two) (Some (Expression.string 10 (codes "c"))) (effects_of (string (codes "abc")) ∷ [])
  pub past_end : ByProperty all_numbers (Expression.computed_member 8 (string (codes "abc")) three) (Some (Expression.unary 11 Void (Expression.number 10 0))) (effects_of (string (codes "abc")) ∷ [])
  -- [1, 2][1] is 2, the element itself, and [1, 2][2] is kept
  pub element : ByProperty all_numbers (Expression.computed_member 8 (array (one ∷ two ∷ [])) one) (Some two) (effects_of (array (one ∷ two ∷ [])) ∷ [])
  pub no_element : ByProperty all_numbers (Expression.computed_member 8 (array (one ∷ two ∷ [])) two) None []
  -- [p, 2][1] is kept, where p may have effects
  pub effects : ByProperty knows_nothing (Expression.computed_member 8 (array (p ∷ two ∷ [])) one) None (effects_of (array (p ∷ two ∷ [])) ∷ [])

-- All of them.
abbrev pub RuleExamples : Type 0
RuleExamples = ChainExamples × MethodExamples × PropertyExamples
