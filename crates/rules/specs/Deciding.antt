-- How a rule decides: it keeps an expression, or says what it becomes, or first asks a host.
use Rattle.std.specs.Prelude.{Bool, true, false, List, [], ◌∷◌, Some, None, Option, bytes_eq}
use Rattle.host.specs.declared.value_type.ValueType.{ValueType}
use Rattle.meaning.specs.Expression.{Expression, Units}
use Rattle.meaning.specs.Parts.{Part}
use Rattle.host.specs.Answers.{Answers, Question}
use Rattle.rules.specs.Places.{Role}

-- A rule's decision, with the questions on the way to it: of effects, of a type, of a global name. oxc_minifier's
-- `may_have_side_effects`, `value_type` and `is_global_reference`; an early return keeps an expression.
pub data Deciding : Type 0 where
  keep : Deciding
  becomes : Expression → Deciding
  ask_effects : Part → (Bool → Deciding) → Deciding
  ask_type : Part → (ValueType → Deciding) → Deciding
  ask_global : Part → (Bool → Deciding) → Deciding

-- What an expression becomes by the answers, or none if it is kept. (No origin: a notion of ours.)
unfoldable pub decided : Answers → Deciding → Option Expression
decided a Deciding.keep = None
decided a (Deciding.becomes y) = Some y
decided a (Deciding.ask_effects p k) = decided a (k (a.effects p))
decided a (Deciding.ask_type p k) = decided a (k (a.value_type p))
decided a (Deciding.ask_global p k) = decided a (k (a.global p))

-- The questions that were asked on the way, and no others. (No origin: a notion of ours.)
unfoldable pub asked : Answers → Deciding → List Question
asked a Deciding.keep = []
asked a (Deciding.becomes y) = []
asked a (Deciding.ask_effects p k) = Question.effects p ∷ asked a (k (a.effects p))
asked a (Deciding.ask_type p k) = Question.value_type p ∷ asked a (k (a.value_type p))
asked a (Deciding.ask_global p k) = Question.global p ∷ asked a (k (a.global p))

-- Is the place not the object of a static member `concat`? oxc_minifier's `replace_concat_chain` and `try_fold_concat`.
unfoldable pub outermost : Role → Bool
outermost Role.ordinary = true
outermost Role.concat_object = false
outermost Role.referred = true

-- Are two names the same? ECMA-262, "IsStrictlyEqual", of two texts.
abbrev pub same_name : Units → Units → Bool
same_name u v = bytes_eq u v

-- A condition that needs no host. (No origin: a notion of ours.)
unfoldable pub when : Bool → Deciding → Deciding
when true d = d
when false d = Deciding.keep

-- One decision where a part has no effects, and another where it has. oxc_minifier's `may_have_side_effects`.
unfoldable pub unless_effects : Bool → Deciding → Deciding → Deciding
unless_effects false d e = d
unless_effects true d e = e
