use Rattle.deciding.proofs.ConcatFound.{other_root, string_root, array_root}
use Rattle.deciding.proofs.chain_calls.root_of.Goals as goal

pub returns-in-String : goal.returns-in-String
returns-in-String c = string_root _ _ _ _ c.in-Some.ensures.held c.in-String.is

pub returns-in-Array : goal.returns-in-Array
returns-in-Array c = array_root _ _ _ _ c.in-Some.ensures.held c.in-Array.is

pub returns-in_default-object : goal.returns-in_default-object
returns-in_default-object c = other_root _ _ _ c.in-Some.ensures.held c.in_default-object.not-String c.in_default-object.not-Array
