use Rattle.template.proofs.Extents.{escaped_where_longer}
use Rattle.template.proofs.extent.Extent.is_escaped.Goals as goal

pub returns : goal.returns
returns c us m = escaped_where_longer c.args.self us m
