-- The laws, with nothing but their own hypotheses, say something of concrete payoffs. (A law with one hypothesis more,
-- or one that says less, would not give this.)
use Rattle.std.specs.Prelude.{◌≡◌, ℕ, ◌≤◌, false, true, List, [], ◌∷◌, length, is_some, None, Result, Ok, codes}
use Rattle.tree.specs.Tree.{at_place}
use Rattle.meaning.specs.Expression.{Expression, Arguments}
use Rattle.meaning.specs.Trees.{tree_of}
use Rattle.host.specs.QuietWorld.{quiet}
use Rattle.host.specs.Laws.{a_text}
use Rattle.rules.specs.Places.{Role}
use Rattle.rules.specs.Deciding.{decided}
use Rattle.rules.specs.Size.{size}
use Rattle.rules.specs.Laws.{ChainKeepsMeaning, MethodKeepsMeaning, PropertyKeepsMeaning}
use Rattle.rules.specs.Examples.{call, string, two}
use Rattle.meaning.specs.Methods.{concat_name}
use Rattle.model.specs.declared.answer.Swept.{Swept}
use Rattle.model.specs.declared.answer.SweepRefused.{SweepRefused}
use Rattle.model.specs.Model.{Model, Sound}
use Rattle.model.specs.Tries.{Rule, Try, deciding}
use Rattle.model.specs.Sweeps.{Sweeps}
use Rattle.model.specs.Calls.{changes}
use Rattle.model.specs.Laws.{SameRuns, NobodyCanTell, EachRewriteIsCounted, APayoffIsLeft}
use Rattle.model.specs.Swept.{ASweepLeavesNothing, ASweepSaysWhatItLeft, ASecondSweepChangesNothing}
use Rattle.model.specs.Hosts.{NobodyCanTellWithTrueHosts}
use Rattle.model.specs.HostExamples.{second_read}
use Rattle.model.specs.Example.{text_of_p, template_of_p, given, before, after, structural}

-- "a".concat().concat("b"), and "abc"[2].
abbrev pub joined_twice : Expression
joined_twice = call (call (string (codes "a")) concat_name []) concat_name (string (codes "b") ∷ [])

abbrev pub last_read : Expression
last_read = Expression.computed_member 8 (string (codes "abc")) two

pub record TheLawsApply : Type 0 where
  -- each rule, by its law
  pub chain : ChainKeepsMeaning quiet → SameRuns quiet joined_twice (Expression.string 10 (codes "ab"))
  pub method : MethodKeepsMeaning quiet → SameRuns quiet (call (string (codes "a")) concat_name (string (codes "b") ∷ [])) (Expression.string 10 (codes "ab"))
  pub property : PropertyKeepsMeaning quiet → SameRuns quiet last_read (Expression.string 10 (codes "c"))
  -- "".concat(p) and the template that a sweep leaves; and [Math, "a"][1] and "a", by a table
  pub nobody_can_tell : NobodyCanTell quiet → SameRuns quiet text_of_p template_of_p
  pub with_true_hosts : NobodyCanTellWithTrueHosts quiet → SameRuns quiet second_read a_text
  -- one rewrite was made, and there was room for one
  pub counted : EachRewriteIsCounted → ((ts : List Try) → Sweeps given structural before (Ok (record { rewrites = 1; rounds = 2; left = false })) after ts → 1 ≡ changes ts) × (1 ≤ size text_of_p)
  pub payoff_left : APayoffIsLeft → Sound after
  -- no rule rewrites the template, no place is too deep in it, and a second sweep leaves it
  pub nothing_left : ASweepLeavesNothing → (rule : Rule) → decided structural (deciding rule given.supported 7 Role.ordinary template_of_p) ≡ None
  pub none_too_deep : ASweepSaysWhatItLeft → (p : List ℕ) → length p ≡ 257 → is_some (at_place (tree_of template_of_p) p) ≡ true → ⊥
  pub second_sweep : ASecondSweepChangesNothing → (n : Model) (r : Result Swept SweepRefused) (us : List Try) → Sweeps given structural after r n us
      → (r ≡ Ok (record { rewrites = 0; rounds = 1; left = false })) × (n ≡ after)
  -- a call, a member and each argument count one, a spread too
  pub sizes : (size joined_twice ≡ 5) × (size last_read ≡ 1) × (size (Expression.call 0 (Expression.null 1) (Arguments.spread_argument 2 (Expression.null 3) Arguments.no_arguments)) ≡ 2)
