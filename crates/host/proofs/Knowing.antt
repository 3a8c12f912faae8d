-- What is always true, and the host that says no more.
use Rattle.std.proofs.Common.{◌≡◌, ℕ, true, false, sym, arith}
use Rattle.meaning.specs.Value.{Value}
use Rattle.meaning.specs.World.{World, ValueIn}
use Rattle.meaning.specs.Parts.{Part}
use Rattle.host.specs.declared.value_type.ValueType.TheVariants.{Undetermined}
use Rattle.host.specs.Answers.{Question}
use Rattle.host.specs.Truth.{OfType, HasType}
use Rattle.host.specs.Laws.{TheSilentHostIsTrue}

pub false_true : {A : Type 0} → false ≡ true → A
false_true e = let z : ◌≡◌ {A = ℕ} 0 1 = cc in absurd (omega arith)

-- Every value is of a type that nothing is known of.
pub any_value : (w : World) (v : ValueIn w) → OfType w Undetermined v
any_value w (Value.primitive p) = tt
any_value w (Value.array xs) = tt
any_value w (Value.object o) = tt

pub any_part : (w : World) (p : Part) → HasType w Undetermined p
any_part w (Part.expression x) = λ s v t d. any_value w v
any_part w (Part.hole l) = tt
any_part w (Part.spread l x) = tt
any_part w (Part.quasi q) = tt

pub silent_true : (w : World) → TheSilentHostIsTrue w
silent_true w (Question.effects p) = λ e. false_true (sym e)
silent_true w (Question.value_type p) = any_part w p
silent_true w (Question.global p) = λ e. false_true e
