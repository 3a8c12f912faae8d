use Rattle.building.proofs.Appended.{list_appended}
use Rattle.building.proofs.Faults.{not_within}
use Rattle.building.proofs.appending.append_list.Goals as goal

pub returns-clause-lists : goal.returns-clause-lists
returns-clause-lists c = list_appended _ _ _ _ c.append_within.ensures

pub returns-clause-fault : goal.returns-clause-fault
returns-clause-fault c = not_within c.args.stores.now.entries c.args.list.start c.args.list.len c.append_within.new.self c.append_within.result c.append_within.ensures
