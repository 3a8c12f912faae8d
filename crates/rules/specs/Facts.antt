-- What is known of the parts of a payoff: what a host says of them, or what is true of them in a world. What an
-- expression becomes is a relation over either.
use Rattle.std.specs.Prelude.{◌≡◌, Bool, true, false}
use Rattle.host.specs.declared.value_type.ValueType.{ValueType}
use Rattle.meaning.specs.Parts.{Part}
use Rattle.meaning.specs.World.{World}
use Rattle.host.specs.Answers.{Answers}
use Rattle.host.specs.Truth.{WithoutEffects, HasType, IsTheLanguagesOwn}

-- Whether a part has effects, of which type its values are, and whether it is a name of the language's own. (No
-- origin: a notion of ours.)
pub record Facts : Type 1 where
  pub effects : Bool → Part → Type 0
  pub of_type : ValueType → Part → Type 0
  pub global : Bool → Part → Type 0

-- What a host says. (No origin: a notion of ours.)
abbrev pub said : Answers → Facts
said a = record { effects = λ b p. a.effects p ≡ b; of_type = λ t p. a.value_type p ≡ t; global = λ b p. a.global p ≡ b }

-- That a part has no effects is true where its run is calm; that it may have some is always true. ECMA-262, "Runtime
-- Semantics: Evaluation".
abbrev pub EffectsIn : World → Bool → Part → Type 0
EffectsIn w false p = WithoutEffects w p
EffectsIn w true p = Unit {0}

-- That a name is the language's own is true where it reads as such; that it may be another is always true. ECMA-262,
-- "The Global Object".
abbrev pub GlobalIn : World → Bool → Part → Type 0
GlobalIn w true p = IsTheLanguagesOwn w p
GlobalIn w false p = Unit {0}

-- What is true in a world. (No origin: a notion of ours.)
abbrev pub true_in : World → Facts
true_in w = record { effects = EffectsIn w; of_type = λ t p. HasType w t p; global = GlobalIn w }
