-- A whole session, computed: the hypotheses of the laws can be met.
use Rattle.std.specs.Prelude.{true, false, List, [], Ok, codes}
use Rattle.tree.specs.declared.node.FirstChild.TheVariants.{Value}
use Rattle.meaning.specs.Expression.{Expression, Arguments, Pieces, Quasi, Children}
use Rattle.meaning.specs.Trees.{tree_of}
use Rattle.meaning.specs.Premises.{Premises}
use Rattle.host.specs.Answers.{Answers}
use Rattle.host.specs.Structural.{structural_answers}
use Rattle.host.specs.QuietWorld.{quiet}
use Rattle.model.specs.declared.answer.Swept.{Swept}
use Rattle.model.specs.Model.{Given, Model, Opened}
use Rattle.model.specs.Tries.{Try}
use Rattle.model.specs.Sweeps.{Sweeps}
use Rattle.model.specs.Laws.{EachTrue}

-- "".concat(p) of an opaque p, and `${p}`.
abbrev pub p : Expression
p = Expression.opaque 2 Value 0 Children.no_children

abbrev pub member : Expression
member = Expression.static_member 1 (Expression.string 0 []) (codes "concat")

abbrev pub text_of_p : Expression
text_of_p = Expression.call 3 member (Arguments.argument p Arguments.no_arguments)

abbrev pub template_of_p : Expression
template_of_p = Expression.template 6 (Pieces.piece (Quasi.quasi 4 [] []) p (Pieces.last (Quasi.quasi 5 [] [])))

-- Templates are supported, and the stores have room for just the three new nodes and the list of them.
abbrev pub given : Given
given = record { supported = record { templates = true; power = false }; rooms = record { nodes = 7; entries = 4; text = 6 } }

abbrev pub before : Model
before = record { whole = tree_of text_of_p; place = []; rewrites = 0; held = record { nodes = 4; entries = 1; text = 6 } }

abbrev pub after : Model
after = record { whole = tree_of template_of_p; place = []; rewrites = 1; held = record { nodes = 7; entries = 4; text = 6 } }

-- The structural host takes no names to be bound.
abbrev pub structural : Answers
structural = structural_answers []

abbrev pub swept : Swept
swept = record { rewrites = 1; rounds = 2; left = false }

-- The session is opened, and a sweep makes the template in two rounds; in a world with the premises each answer that
-- was asked for is true.
pub record AWholeSession : Type 0 where
  pub tried : List Try
  pub opened : Opened (tree_of text_of_p) before
  pub sweeps : Sweeps given structural before (Ok swept) after tried
  pub premises : Premises quiet
  pub each_true : EachTrue quiet tried
