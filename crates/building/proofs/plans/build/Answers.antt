use Rattle.building.proofs.Plain.{existing_built, array_of_built, for_plan}
use Rattle.building.proofs.Faults.{for_room}
use Rattle.building.proofs.plans.build.Goals as goal

pub returns-in-Existing-clause-builds : goal.returns-in-Existing-clause-builds
returns-in-Existing-clause-builds c = for_plan _ _ c.in-Existing.is (existing_built _ _)

pub returns-in-ArrayOf-clause-builds : goal.returns-in-ArrayOf-clause-builds
returns-in-ArrayOf-clause-builds c = for_plan _ _ c.in-ArrayOf.is (array_of_built _ _ _ _ c.push.ensures.pushes)

pub returns-in-Unit-clause-fault : goal.returns-in-Unit-clause-fault
returns-in-Unit-clause-fault c = for_room c.build_unit.result c.build_unit.ensures.fault

pub returns-in-VoidZero-clause-fault : goal.returns-in-VoidZero-clause-fault
returns-in-VoidZero-clause-fault c = for_room c.build_void_zero.result c.build_void_zero.ensures.fault

pub returns-in-Power-clause-fault : goal.returns-in-Power-clause-fault
returns-in-Power-clause-fault c = for_room c.build_power.result c.build_power.ensures.fault

pub returns-in-ArrayOf-clause-fault : goal.returns-in-ArrayOf-clause-fault
returns-in-ArrayOf-clause-fault c = for_room c.push.result c.push.ensures.fault

pub returns-in-Merged-clause-fault : goal.returns-in-Merged-clause-fault
returns-in-Merged-clause-fault c = for_room c.build_merged.result c.build_merged.ensures.fault

pub returns-in-ConcatLeft-clause-fault : goal.returns-in-ConcatLeft-clause-fault
returns-in-ConcatLeft-clause-fault c = for_room c.build_concat_left.result c.build_concat_left.ensures.fault

pub returns-in-OneCall-clause-fault : goal.returns-in-OneCall-clause-fault
returns-in-OneCall-clause-fault c = for_room c.build_one_call.result c.build_one_call.ensures.fault
