use Rattle.std.proofs.Common.{ap, ◌∙◌}
use Rattle.store.specs.Stores.{held_of}
use Rattle.deciding.specs.declared.plan.Plan.TheVariants.{Power, Joined}
use Rattle.deciding.proofs.PlanNeeds.{by_plan, existing_need, unit_need, void_need, power_need, coerced_need, array_need, merged_need, left_need, one_call_need, joined_need, joined_chain_need}
use Rattle.deciding.proofs.plan.Plan.need.Goals as goal

pub returns-in-Existing : goal.returns-in-Existing
returns-in-Existing c = let h = held_of c.args.stores.now in by_plan h _ c.in-Existing.is (existing_need h _ _ c.without_text.ensures)

pub returns-in-Unit : goal.returns-in-Unit
returns-in-Unit c = let h = held_of c.args.stores.now in by_plan h _ c.in-Unit.is (unit_need h _ _ c.stored_len.ensures)

pub returns-in-VoidZero : goal.returns-in-VoidZero
returns-in-VoidZero c = let h = held_of c.args.stores.now in by_plan h _ c.in-VoidZero.is (void_need h _ c.without_text-in-VoidZero.ensures)

pub returns-in-Number : goal.returns-in-Number
returns-in-Number c =
    let h = held_of c.args.stores.now in
    by_plan h _ (c.in-Power.is ∙ ap (Power c.in-Power.base) c.in-Number.is) (power_need h _ _ _ c.without_text-in-Number.ensures)

pub returns-in-Coerced : goal.returns-in-Coerced
returns-in-Coerced c =
    let h = held_of c.args.stores.now in
    by_plan h _ (c.in-Power.is ∙ ap (Power c.in-Power.base) c.in-Coerced.is) (coerced_need h _ _ _ c.without_text-in-Coerced.ensures)

pub returns-in-ArrayOf : goal.returns-in-ArrayOf
returns-in-ArrayOf c = let h = held_of c.args.stores.now in by_plan h _ c.in-ArrayOf.is (array_need h _ _ c.without_text-in-ArrayOf.ensures)

pub returns-in-Merged : goal.returns-in-Merged
returns-in-Merged c = let h = held_of c.args.stores.now in by_plan h _ c.in-Merged.is (merged_need h _ _ _ _ c.without_text-in-Merged.ensures c.merged_len.ensures)

pub returns-in-ConcatLeft : goal.returns-in-ConcatLeft
returns-in-ConcatLeft c =
    let h = held_of c.args.stores.now in
    by_plan h _ c.in-ConcatLeft.is (left_need h _ _ _ _ _ _ c.without_text-in-ConcatLeft.ensures c.merged_len-in-ConcatLeft.ensures)

pub returns-in-OneCall : goal.returns-in-OneCall
returns-in-OneCall c = let h = held_of c.args.stores.now in by_plan h _ c.in-OneCall.is (one_call_need h _ _ _ _ c.without_text-in-OneCall.ensures c.chain_len.ensures)

pub returns-in-One : goal.returns-in-One
returns-in-One c = let h = held_of c.args.stores.now in by_plan h _ (c.in-Joined.is ∙ ap Joined c.in-One.is) (joined_need h _ _ _ c.joined.ensures)

pub returns-in-Chain : goal.returns-in-Chain
returns-in-Chain c = let h = held_of c.args.stores.now in by_plan h _ (c.in-Joined.is ∙ ap Joined c.in-Chain.is) (joined_chain_need h _ _ c.joined_chain.ensures)
