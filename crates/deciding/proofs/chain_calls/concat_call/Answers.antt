use Rattle.deciding.proofs.ConcatFound.{no_call, no_callee, other_callee, no_key, other_key, concat_found}
use Rattle.deciding.proofs.chain_calls.concat_call.Goals as goal

pub returns-in_default-call : goal.returns-in_default-call
returns-in_default-call c = no_call _ _ _ c.in-Some.ensures.held c.in_default-call.not-Call

pub returns-in_default-node : goal.returns-in_default-node
returns-in_default-node c = no_callee _ _ _ _ _ c.in-Some.ensures.held c.in-Call.is c.in_default-node.ensures.held

pub returns-in_default-member : goal.returns-in_default-member
returns-in_default-member c = other_callee _ _ _ _ _ c.in-Some.ensures.held c.in-Call.is _ c.in-Some-node.ensures.held c.in_default-member.not-StaticMember

pub returns-in_default-text : goal.returns-in_default-text
returns-in_default-text c = no_key _ _ _ _ _ c.in-Some.ensures.held c.in-Call.is _ _ _ c.in-Some-node.ensures.held c.in-StaticMember.is c.in_default-text.ensures

pub returns-then-not-is_concat : goal.returns-then-not-is_concat
returns-then-not-is_concat c = other_key _ _ _ _ _ c.in-Some.ensures.held c.in-Call.is _ _ _ c.in-Some-node.ensures.held c.in-StaticMember.is _ _ c.in-Some-text.ensures.1 c.is_concat.ensures c.if-not-is_concat.true

pub returns : goal.returns
returns c = concat_found _ _ _ _ _ c.in-Some.ensures.held c.in-Call.is _ _ _ c.in-Some-node.ensures.held c.in-StaticMember.is _ _ c.in-Some-text.ensures.1 c.is_concat.ensures c.if-not-is_concat.false
