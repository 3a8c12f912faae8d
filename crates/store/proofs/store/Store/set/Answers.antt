use Rattle.store.proofs.Setting.{set_front, set_whole}
use Rattle.store.proofs.store.Store.set.Goals as goal

pub returns-then-i-self : goal.returns-then-i-self
returns-then-i-self g c =
    (set_front c.args.self.now.len c.args.self.now.items.now c.args.i c.args.item c.if-i-self.true c.args.self.now.within, set_whole c.args.self.now.len c.args.self.now.items.now c.args.i c.args.item c.if-i-self.true c.args.self.now.within)
