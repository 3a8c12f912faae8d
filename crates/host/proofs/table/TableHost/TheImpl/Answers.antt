use Rattle.std.proofs.Common.{ap, sym, ◌∙◌}
use Rattle.host.specs.Table.{rows_of, row_at}
use Rattle.host.proofs.table.TableHost.TheImpl.Goals as goal

pub may_have_side_effects-tells : goal.may_have_side_effects-tells
may_have_side_effects-tells g c p e d = c.ensures ∙ ap (λ n. (row_at (rows_of c.args.self.now) n).effects) (sym e)

pub value_type-tells : goal.value_type-tells
value_type-tells g c p e d = c.ensures ∙ ap (λ n. (row_at (rows_of c.args.self.now) n).value_type) (sym e)

pub is_global_reference-tells : goal.is_global_reference-tells
is_global_reference-tells g c p e d = c.ensures ∙ ap (λ n. (row_at (rows_of c.args.self.now) n).global) (sym e)
