-- What the calls of a session do to it.
use Rattle.std.specs.Prelude.{◌≡◌, take}
use Rattle.store.specs.Stores.{held_of, rooms_of, counts_of}
use Rattle.tree.specs.Tree.{Tree, label, Denotes}
use Rattle.tree.specs.Heap.{look}
use Rattle.file.specs.declared.loaded.Loaded.{Loaded}
use Rattle.file.specs.Calls.{loaded_stores, loaded_root}
use Rattle.file.specs.Payoff.{DenotesPayoff}
use Rattle.deciding.specs.declared.place.Support.{Support}
use Rattle.deciding.specs.Plans.{settings_of}
use Rattle.model.specs.Model.{Given, Model, Opened}
use Rattle.session.specs.declared.session.Session.{Session}
use Rattle.session.specs.declared.session.ends.Ended.{Ended}
use Rattle.session.specs.Models.{Models}

-- The session, as its caller sees it.
abbrev pub Is : Session → Model → Type 0
Is s m = Models (held_of s.stores) s.root s.here (take s.depth s.path) s.rewrites m

-- What stays the same while it is open.
abbrev pub given_of : Session → Given
given_of s = record { supported = settings_of s.support; rooms = rooms_of s.stores }

-- A call takes a session to another, as these have to do with each other for the caller.
abbrev pub Follows : (Model → Model → Type 0) → (old new : Session) → Type 0
Follows R old new = (m : Model) → Is old m → (n : Model) × R m n × Is new n

-- The stores, what is supported, and the payoff are the same, and so is the count of rewrites.
pub record SamePayoff (old new : Session) : Type 0 where
  pub same_stores : new.stores ≡ old.stores
  pub same_support : new.support ≡ old.support
  pub same_root : new.root ≡ old.root
  pub same_rewrites : new.rewrites ≡ old.rewrites

-- A session is opened on what was loaded, and holds its stores.
pub record OpensOn (d : Loaded) (support : Support) (s : Session) : Type 0 where
  pub holds : s.stores ≡ loaded_stores d
  pub supports : s.support ≡ support
  pub opened : (t : Tree) → DenotesPayoff (held_of (loaded_stores d)) (loaded_root d) t → (m : Model) × Opened t m × Is s m

-- It ends: its stores are given back, in which the root's number denotes the payoff's tree.
pub record EndsWith (s : Session) (e : Ended) : Type 0 where
  pub given_back : e.stores ≡ s.stores
  pub counted : e.counts ≡ counts_of s.stores
  pub of_model : (m : Model) → Is s m → (label m.whole ≡ e.root) × (m.rewrites ≡ e.rewrites) × Denotes (look (held_of e.stores)) m.whole
