use Rattle.deciding.proofs.ChainDecided.{spread_kept, template_first, one_call, template_last, not_joined}
use Rattle.deciding.proofs.chain_joining.join_string_calls.Goals as goal

pub returns-in_default : goal.returns-in_default
returns-in_default g c = spread_kept _ _ _ _ c.in_default.ensures.counts

pub returns-then-prefers_template : goal.returns-then-prefers_template
returns-then-prefers_template g c = template_first _ _ _ _ _ c.in-Some.ensures.counts _ _ _ c.prefers_template.ensures c.if-prefers_template.true c.each_can_interleave.ensures c.then_some.ensures

pub returns-then-all_can_interleave : goal.returns-then-all_can_interleave
returns-then-all_can_interleave g c =
    one_call _ _ _ _ _ c.in-Some.ensures.counts _ c.prefers_template.ensures c.if-prefers_template.false _ c.all_can_interleave.ensures c.if-all_can_interleave.true

pub returns-then-prefers_template-2 : goal.returns-then-prefers_template-2
returns-then-prefers_template-2 g c =
    template_last _ _ _ _ _ c.in-Some.ensures.counts _ c.prefers_template.ensures c.if-prefers_template.false _ c.all_can_interleave.ensures _ _ _ c.prefers_template-2.ensures c.if-all_can_interleave.false
    c.if-prefers_template-2.true c.each_can_interleave-then-prefers_template-2.ensures c.then_some-then-prefers_template-2.ensures

pub returns : goal.returns
returns g c =
    not_joined _ _ _ _ _ c.in-Some.ensures.counts _ c.prefers_template.ensures c.if-prefers_template.false _ c.all_can_interleave.ensures _ c.prefers_template-2.ensures c.if-all_can_interleave.false
    c.if-prefers_template-2.false
