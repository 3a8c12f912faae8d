use Rattle.host.proofs.Tabled.{table_true}
use Rattle.host.proofs.laws.a_table_is_true_where_its_entries_are.Goals as goal

pub returns : goal.returns
returns g c = table_true _
