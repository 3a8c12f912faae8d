use Rattle.model.specs.Calls.{Makes}
use Rattle.session.proofs.Writing.{wrote_same, wrote_tried}
use Rattle.session.proofs.session.Session.make.Goals as goal

pub returns-in-Enter-clause-made : goal.returns-in-Enter-clause-made
returns-in-Enter-clause-made g c m is =
    let x = c.enter.ensures.moved m is in
    rw c.in-Enter.is (x.0, (_, Makes.enters x.1), x.2)

pub returns-in-Leave-clause-made : goal.returns-in-Leave-clause-made
returns-in-Leave-clause-made g c m is =
    let x = c.leave.ensures.moved m is in
    rw c.in-Leave.is (x.0, (_, Makes.leaves x.1), x.2)

pub returns-in-Chain-clause-made : goal.returns-in-Chain-clause-made
returns-in-Chain-clause-made g c m is =
    let x = c.chain.ensures.tried m is in
    rw c.in-Chain.is (x.0, (x.1.0, Makes.tries x.1.1), x.2)

pub returns-in-Method-clause-made : goal.returns-in-Method-clause-made
returns-in-Method-clause-made g c m is =
    let x = c.method.ensures.tried m is in
    rw c.in-Method.is (x.0, (x.1.0, Makes.tries x.1.1), x.2)

pub returns-in-Property-clause-made : goal.returns-in-Property-clause-made
returns-in-Property-clause-made g c m is =
    let x = c.property.ensures.tried m is in
    rw c.in-Property.is (x.0, (x.1.0, Makes.tries x.1.1), x.2)

pub returns-in-Sweep-clause-made : goal.returns-in-Sweep-clause-made
returns-in-Sweep-clause-made g c m is =
    let x = c.sweep.ensures.swept m is in
    rw c.in-Sweep.is (x.0, (x.1.0, Makes.sweeps x.1.1), x.2)

pub returns-in-Enter-clause-wrote : goal.returns-in-Enter-clause-wrote
returns-in-Enter-clause-wrote g c = wrote_same c.args.self.now c.enter.new.self c.enter.ensures.same

pub returns-in-Leave-clause-wrote : goal.returns-in-Leave-clause-wrote
returns-in-Leave-clause-wrote g c = wrote_same c.args.self.now c.leave.new.self c.leave.ensures.same

pub returns-in-Chain-clause-wrote : goal.returns-in-Chain-clause-wrote
returns-in-Chain-clause-wrote g c = wrote_tried c.args.self.now c.chain.new.self c.chain.result c.chain.ensures.appended

pub returns-in-Method-clause-wrote : goal.returns-in-Method-clause-wrote
returns-in-Method-clause-wrote g c = wrote_tried c.args.self.now c.method.new.self c.method.result c.method.ensures.appended

pub returns-in-Property-clause-wrote : goal.returns-in-Property-clause-wrote
returns-in-Property-clause-wrote g c = wrote_tried c.args.self.now c.property.new.self c.property.result c.property.ensures.appended

pub returns-in-Sweep-clause-wrote : goal.returns-in-Sweep-clause-wrote
returns-in-Sweep-clause-wrote g c = c.sweep.ensures.wrote
