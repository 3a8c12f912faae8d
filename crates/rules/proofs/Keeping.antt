-- Ways to show that an expression keeps its runs.
use Rattle.meaning.specs.Expression.{Expression}
use Rattle.meaning.specs.World.{World, ValueIn, Result}
use Rattle.meaning.specs.Acts.{Act, Mode}
use Rattle.meaning.specs.Runs.{Runs, Calm, mean}
use Rattle.meaning.specs.Replacing.{Keeps}
use Rattle.meaning.proofs.Calming.{forget}
use Rattle.rules.proofs.Alike.{Alike}

module _ (w : World) where
  abbrev pub AlikeActs : {A : Type 0} → Act w.State A → Act w.State A → Type 0
  AlikeActs {A} a b = Alike w.State A a b

  -- the same runs in both modes
  pub keeps_by : (x y : Expression) → ((c : Mode) → AlikeActs (mean w c x).run (mean w c y).run) → Keeps w x y
  keeps_by x y h = record { forth = (h Mode.free).forth; back = (h Mode.free).back; stays_calm = λ s v. (h Mode.calm).forth s (Result.gives v) s }

  -- a calm run is one in each mode, and each is a run
  pub in_mode : (c : Mode) (x : Expression) (s : w.State) (v : ValueIn w) → Calm w x s v → (mean w c x).run s (Result.gives v) s
  in_mode Mode.free x s v d = forget w x s _ s d
  in_mode Mode.calm x s v d = d

  pub as_run : (c : Mode) (x : Expression) (s : w.State) (v : ValueIn w) (t : w.State) → (mean w c x).run s (Result.gives v) t → Runs w x s (Result.gives v) t
  as_run Mode.free x s v t d = d
  as_run Mode.calm x s v t d = forget w x s _ t d
