use Rattle.std.proofs.Common.{[], ◌∷◌, Ok, Err}
use Rattle.std.proofs.lemmas.Result.{err_from_is_err_and}
use Rattle.model.specs.Tries.Rule.{chain, method, property}
use Rattle.session.proofs.Writing.{wrote_then, wrote_tried}
use Rattle.session.proofs.Sweeping.{none_tried, one_stopped, one_tried}
use Rattle.session.proofs.session.Session.try_each.Goals as goal

pub returns-in_err-chain-clause-tried : goal.returns-in_err-chain-clause-tried
returns-in_err-chain-clause-tried g c =
    let p = err_from_is_err_and c.from_residual.result c.from_residual.ensures.1 in
    let a = g.H.Host.answers c.args.host.now in
    rw (p.1, p.2)
    (one_stopped a c.args.self.now c.chain.new.self chain (method ∷ property ∷ []) c.in_err-chain.field-0.0 c.in_err-chain.ensures.tried)

pub returns-in_err-method-clause-tried : goal.returns-in_err-method-clause-tried
returns-in_err-method-clause-tried g c =
    let p = err_from_is_err_and c.from_residual-in_err-method.result c.from_residual-in_err-method.ensures.1 in
    let a = g.H.Host.answers c.args.host.now in
    rw (p.1, p.2)
    (one_tried a c.args.self.now c.chain.new.self c.method.new.self chain (method ∷ property ∷ []) c.in_ok-chain.field-0 _ c.in_ok-chain.ensures.tried c.in_ok-chain.ensures.appended
    (one_stopped a c.chain.new.self c.method.new.self method (property ∷ []) c.in_err-method.field-0.0 c.in_err-method.ensures.tried))

pub returns-in_err-property-clause-tried : goal.returns-in_err-property-clause-tried
returns-in_err-property-clause-tried g c =
    let p = err_from_is_err_and c.from_residual-in_err-property.result c.from_residual-in_err-property.ensures.1 in
    let a = g.H.Host.answers c.args.host.now in
    rw (p.1, p.2)
    (one_tried a c.args.self.now c.chain.new.self c.property.new.self chain (method ∷ property ∷ []) c.in_ok-chain.field-0 _ c.in_ok-chain.ensures.tried c.in_ok-chain.ensures.appended
    (one_tried a c.chain.new.self c.method.new.self c.property.new.self method (property ∷ []) c.in_ok-method.field-0 _ c.in_ok-method.ensures.tried c.in_ok-method.ensures.appended
    (one_stopped a c.method.new.self c.property.new.self property [] c.in_err-property.field-0.0 c.in_err-property.ensures.tried)))

pub returns-clause-tried : goal.returns-clause-tried
returns-clause-tried g c =
    let a = g.H.Host.answers c.args.host.now in
    one_tried a c.args.self.now c.chain.new.self c.property.new.self chain (method ∷ property ∷ []) c.in_ok-chain.field-0 (Ok tt) c.in_ok-chain.ensures.tried c.in_ok-chain.ensures.appended
    (one_tried a c.chain.new.self c.method.new.self c.property.new.self method (property ∷ []) c.in_ok-method.field-0 (Ok tt) c.in_ok-method.ensures.tried c.in_ok-method.ensures.appended
    (one_tried a c.method.new.self c.property.new.self c.property.new.self property [] c.in_ok-property.field-0 (Ok tt) c.in_ok-property.ensures.tried c.in_ok-property.ensures.appended
    (none_tried a c.property.new.self)))

pub returns-in_err-chain-clause-wrote : goal.returns-in_err-chain-clause-wrote
returns-in_err-chain-clause-wrote g c = wrote_tried c.args.self.now c.chain.new.self (Err c.in_err-chain.field-0.0) c.in_err-chain.ensures.appended

pub returns-in_err-method-clause-wrote : goal.returns-in_err-method-clause-wrote
returns-in_err-method-clause-wrote g c =
    wrote_then c.args.self.now c.chain.new.self c.method.new.self (wrote_tried c.args.self.now c.chain.new.self (Ok c.in_ok-chain.field-0) c.in_ok-chain.ensures.appended)
    (wrote_tried c.chain.new.self c.method.new.self (Err c.in_err-method.field-0.0) c.in_err-method.ensures.appended)

pub returns-in_err-property-clause-wrote : goal.returns-in_err-property-clause-wrote
returns-in_err-property-clause-wrote g c =
    wrote_then c.args.self.now c.chain.new.self c.property.new.self (wrote_tried c.args.self.now c.chain.new.self (Ok c.in_ok-chain.field-0) c.in_ok-chain.ensures.appended)
    (wrote_then c.chain.new.self c.method.new.self c.property.new.self (wrote_tried c.chain.new.self c.method.new.self (Ok c.in_ok-method.field-0) c.in_ok-method.ensures.appended)
    (wrote_tried c.method.new.self c.property.new.self (Err c.in_err-property.field-0.0) c.in_err-property.ensures.appended))

pub returns-clause-wrote : goal.returns-clause-wrote
returns-clause-wrote g c =
    wrote_then c.args.self.now c.chain.new.self c.property.new.self (wrote_tried c.args.self.now c.chain.new.self (Ok c.in_ok-chain.field-0) c.in_ok-chain.ensures.appended)
    (wrote_then c.chain.new.self c.method.new.self c.property.new.self (wrote_tried c.chain.new.self c.method.new.self (Ok c.in_ok-method.field-0) c.in_ok-method.ensures.appended)
    (wrote_tried c.method.new.self c.property.new.self (Ok c.in_ok-property.field-0) c.in_ok-property.ensures.appended))
