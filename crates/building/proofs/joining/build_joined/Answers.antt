use Rattle.std.proofs.Common.{length, subst}
use Rattle.store.specs.Held.{held}
use Rattle.store.specs.Stores.{held_of}
use Rattle.deciding.specs.Plans.{PlanOf}
use Rattle.deciding.specs.declared.plan.Plan.TheVariants.{Joined}
use Rattle.building.proofs.CallWalks.{one_call, no_base, a_chain}
use Rattle.building.proofs.joining.build_joined.Goals as goal

pub returns-in-One-clause-builds : goal.returns-in-One-clause-builds
returns-in-One-clause-builds c limits x y plan writes enters =
    one_call c.args.stores.now c.in-One.base c.in-One.arguments c.join_calls.new.stores c.join_calls.result c.join_calls.ensures.joins x y
    (subst (λ k. PlanOf (held_of c.args.stores.now) (Joined k) (length (held c.args.stores.now.nodes)) y) c.in-One.is plan) enters

pub returns-in_default-text_of_object-clause-builds : goal.returns-in_default-text_of_object-clause-builds
returns-in_default-text_of_object-clause-builds c limits x y plan writes enters =
    absurd (no_base c.args.stores.now c.in-Chain.call limits.0 x y
    (subst (λ k. PlanOf (held_of c.args.stores.now) (Joined k) (length (held c.args.stores.now.nodes)) y) c.in-Chain.is plan) c.in-Some.chain c.in-Some.ensures c.in_default-text_of_object.ensures)

pub returns-in-Some-text_of_object-clause-builds : goal.returns-in-Some-text_of_object-clause-builds
returns-in-Some-text_of_object-clause-builds c limits x y plan writes enters =
    a_chain c.args.stores.now c.in-Chain.call limits.0 x y
    (subst (λ k. PlanOf (held_of c.args.stores.now) (Joined k) (length (held c.args.stores.now.nodes)) y) c.in-Chain.is plan) c.in-Some.chain c.in-Some.ensures
    c.in-Some-text_of_object.base c.in-Some-text_of_object.ensures c.collected_arguments.result.now c.collected_arguments.ensures.calls c.join_calls-in-Chain.new.stores c.join_calls-in-Chain.result c.join_calls-in-Chain.ensures.joins enters
