use Rattle.std.proofs.Common.{[], ap, sym, ◌∙◌}
use Rattle.host.proofs.Agreeing.{effects_say}
use Rattle.cases.specs.Hosts.{answers_of}
use Rattle.cases.proofs.any_host.AnyHostHost.may_have_side_effects.Goals as goal

pub returns-in-Structural : goal.returns-in-Structural
returns-in-Structural c p e d = c.may_have_side_effects-in-Structural.ensures ∙ effects_say [] _ _ p e d ∙ ap (λ h. (answers_of h).effects p) (sym c.in-Structural.is)
