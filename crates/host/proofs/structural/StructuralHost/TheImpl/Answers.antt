use Rattle.std.proofs.Common.{[], ◌∙◌}
use Rattle.host.proofs.Agreeing.{effects_say, type_says, global_says}
use Rattle.host.proofs.structural.StructuralHost.TheImpl.Goals as goal

pub may_have_side_effects-tells : goal.may_have_side_effects-tells
may_have_side_effects-tells g c p e d = c.ensures ∙ effects_say [] _ _ p e d

pub value_type-tells : goal.value_type-tells
value_type-tells g c p e d = c.ensures ∙ type_says [] _ _ p e d

pub is_global_reference-tells : goal.is_global_reference-tells
is_global_reference-tells g c p e d = c.ensures ∙ global_says _ _ _ p e d
