use Rattle.std.proofs.Common.{refl}
use Rattle.std.proofs.lemmas.Grind.{merely}
use Rattle.store.specs.Stores.{rooms_of}
use Rattle.file.proofs.Answering.{limited, payoff, loads}
use Rattle.file.proofs.Tallied.{zeros}
use Rattle.file.proofs.loaded.loading.fill.Goals as goal

pub check-requires : goal.check-requires
check-requires c = zeros 4096

pub copy_to-requires : goal.copy_to-requires
copy_to-requires c = let checked = c.in-Ok.ensures c.requires.0 (rooms_of c.args.stores) c.requires.1 in checked.6

pub invariant_of-result : goal.invariant_of-result
invariant_of-result c =
    let file = c.requires.0 in
    let r = c.in-Ok.records in
    let checked = c.in-Ok.ensures file (rooms_of c.args.stores) c.requires.1 in
    record {
      payoff = merely (payoff file c.args.stores c.copy_to.new.stores r checked c.copy_to.ensures);
      limited = limited file c.args.stores c.copy_to.new.stores r checked c.copy_to.ensures;
    }

pub returns-in-Ok : goal.returns-in-Ok
returns-in-Ok c file k = loads file c.args.stores c.copy_to.new.stores c.in-Ok.records (c.in-Ok.ensures file (rooms_of c.args.stores) k) c.copy_to.ensures

pub returns-in-Err : goal.returns-in-Err
returns-in-Err c file k = (c.in-Err.ensures file (rooms_of c.args.stores) k, (refl, refl, refl, refl))
