-- The host that knows nothing.
use Rattle.std.specs.Prelude.{true, false}
use Rattle.host.specs.declared.value_type.ValueType.TheVariants.{Undetermined}
use Rattle.host.specs.Answers.{Answers}

-- Any node may have effects and values of any type, and none is a global name. (No section: a notion of ours.)
abbrev pub silent_answers : Answers
silent_answers = record { effects = λ p. true; value_type = λ p. Undetermined; global = λ p. false }
