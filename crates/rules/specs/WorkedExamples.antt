-- Worked examples, each of both sides of a rule: p, q and n by what a host says of them.
use Rattle.std.specs.Prelude.{◌≡◌, ℕ, Bool, true, not, cond, ◌==◌, List, [], ◌∷◌, Some, None, Option, codes}
use Rattle.template.specs.Escaped.{raw_of}
use Rattle.tree.specs.declared.node.FirstChild.TheVariants.{Value}
use Rattle.meaning.specs.Expression.{Expression, Elements, Arguments, Pieces, Quasi, Children}
use Rattle.meaning.specs.Parts.{Part}
use Rattle.host.specs.declared.value_type.ValueType.{ValueType}
use Rattle.host.specs.declared.value_type.ValueType.TheVariants.{Number, Undetermined}
use Rattle.host.specs.Answers.{Answers}
use Rattle.host.specs.Structural.{structural_answers}
use Rattle.rules.specs.Places.{Settings, Role}
use Rattle.rules.specs.Deciding.{decided}
use Rattle.rules.specs.Chain.{chain_rule}
use Rattle.rules.specs.Method.{method_rule}
use Rattle.rules.specs.Property.{property_rule}
use Rattle.rules.specs.Building.{void_zero}

-- p and q are opaque, with effects and of type Undetermined; n is opaque with the mark 2, without effects and of type
-- Number. Their numbers do not matter.
abbrev pub p : Expression
p = Expression.opaque 1 Value 0 Children.no_children

abbrev pub q : Expression
q = Expression.opaque 2 Value 1 Children.no_children

abbrev pub n : Expression
n = Expression.opaque 3 Value 2 Children.no_children

-- What is said of n, and of all else what the structural host says that knows no bound names.
abbrev pub said_effects : Part → Bool
said_effects (Part.expression (Expression.opaque l f m xs)) = not (m == 2)
said_effects x = (structural_answers []).effects x

abbrev pub said_type : Part → ValueType
said_type (Part.expression (Expression.opaque l f m xs)) = cond (m == 2) Number Undetermined
said_type x = (structural_answers []).value_type x

abbrev pub answers : Answers
answers = record { effects = said_effects; value_type = said_type; global = (structural_answers []).global }

-- Templates and `**` are supported, the place is an ordinary one, and 20 is the first free number.
abbrev pub both : Settings
both = record { templates = true; power = true }

abbrev pub by_chain : Expression → Option Expression
by_chain x = decided answers (chain_rule both 20 Role.ordinary x)

abbrev pub by_method : Expression → Option Expression
by_method x = decided answers (method_rule both 20 Role.ordinary x)

abbrev pub by_property : Expression → Option Expression
by_property x = decided answers (property_rule 20 Role.ordinary x)

-- object.concat(..), with no matter which numbers.
abbrev pub concat : Expression → Arguments → Expression
concat o xs = Expression.call 10 (Expression.static_member 11 o (codes "concat")) xs

abbrev pub empty_string : Expression
empty_string = Expression.string 12 []

abbrev pub empty_array : Expression
empty_array = Expression.array 12 Elements.no_elements

abbrev pub arguments : List Expression → Arguments
arguments [] = Arguments.no_arguments
arguments (x ∷ xs) = Arguments.argument x (arguments xs)

-- The numbers 1, 2 and 3, by their bits.
abbrev pub one_node : Expression
one_node = Expression.number 13 0x3FF0000000000000

abbrev pub two_node : Expression
two_node = Expression.number 14 0x4000000000000000

abbrev pub three_node : Expression
three_node = Expression.number 15 0x4008000000000000

abbrev pub no_text : ℕ → Quasi
no_text l = Quasi.quasi l [] []

-- a.push(1), of an array a that a host knows nothing of.
abbrev pub a_name : Expression
a_name = Expression.name 16 (codes "a")

abbrev pub a_push : Expression
a_push = Expression.call 17 (Expression.static_member 18 (Expression.name 19 (codes "a")) (codes "push")) (arguments (one_node ∷ []))

pub record WorkedExamples : Type 0 where
  -- "".concat(n, n, n, n) is `${n}${n}${n}${n}`
  pub four_become_a_template : by_method (concat empty_string (arguments (n ∷ n ∷ n ∷ n ∷ [])))
      ≡ Some (Expression.template 25 (Pieces.piece (no_text 20) n (Pieces.piece (no_text 21) n (Pieces.piece (no_text 22) n (Pieces.piece (no_text 23) n (Pieces.last (no_text 24)))))))
  -- "".concat(n, n, n, n, n) is kept
  pub five_are_kept : by_method (concat empty_string (arguments (n ∷ n ∷ n ∷ n ∷ n ∷ []))) ≡ None
  -- "".concat(p, q) is kept
  pub p_and_q_do_not_interleave : by_method (concat empty_string (arguments (p ∷ q ∷ []))) ≡ None
  -- "".concat(p).concat(q) is `${p}${q}`
  pub p_then_q_do : by_chain (concat (concat empty_string (arguments (p ∷ []))) (arguments (q ∷ [])))
      ≡ Some (Expression.template 23 (Pieces.piece (no_text 20) p (Pieces.piece (no_text 21) q (Pieces.last (no_text 22)))))
  -- [].concat(1, [2, , ], p) is [1, 2, , ].concat(p)
  pub leading_literals_are_taken_in :
      by_method (concat empty_array (arguments (one_node ∷ Expression.array 6 (Elements.item two_node (Elements.hole 7 Elements.no_elements)) ∷ p ∷ [])))
      ≡ Some (Expression.call 22 (Expression.static_member 21 (Expression.array 20 (Elements.item one_node (Elements.item two_node (Elements.hole 7 Elements.no_elements)))) (codes "concat")) (arguments (p ∷ [])))
  -- [].concat(p).concat(q) is kept
  pub an_array_is_read_first : by_chain (concat (concat empty_array (arguments (p ∷ []))) (arguments (q ∷ []))) ≡ None
  -- "abc"[2] is "c"
  pub last_unit : by_property (Expression.computed_member 10 (Expression.string 11 (codes "abc")) two_node) ≡ Some (Expression.string 20 (codes "c"))
  -- "abc"[3] is void 0
  pub past_the_end : by_property (Expression.computed_member 10 (Expression.string 11 (codes "abc")) three_node) ≡ Some (void_zero 20)
  -- [1, 2][2] is kept
  pub past_the_elements : by_property (Expression.computed_member 10 (Expression.array 11 (Elements.item one_node (Elements.item two_node Elements.no_elements))) two_node) ≡ None
  -- "".concat(a, a.push(1)) is kept, since it may be an array that a.push(1) changes
  pub a_change_is_seen : by_method (concat empty_string (arguments (a_name ∷ a_push ∷ []))) ≡ None
  -- a$ escapes to a\$, and CR to \r
  pub dollar_escaped : raw_of (codes "a$") ≡ codes "a\\$"
  pub return_escaped : raw_of (0x0D ∷ []) ≡ codes "\\r"
