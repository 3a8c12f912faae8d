-- What is true of an expression stays true of one that does the same.
use Rattle.std.proofs.Common.{List}
use Rattle.meaning.specs.Expression.{Expression}
use Rattle.meaning.specs.World.{World, ValueIn, Result}
use Rattle.meaning.specs.Acts.{Mode}
use Rattle.meaning.specs.Replacing.{Keeps}
use Rattle.meaning.proofs.Replacing.{then_first, watched_both, keeps_refines}
use Rattle.host.specs.Truth.{SpreadCalm}
use Rattle.host.specs.Laws.{WhatIsTrueStaysTrue}

spread_stays : (w : World) (x y : Expression) → Keeps w x y → (s : w.State) (vs : List (ValueIn w)) → SpreadCalm w x s vs → SpreadCalm w y s vs
spread_stays w x y keeps s vs = watched_both Mode.calm (then_first (keeps_refines w Mode.calm x y keeps)) s (Result.gives vs) s

pub stays_true : (w : World) → WhatIsTrueStaysTrue w
stays_true w x y keeps = (
  λ calm s. let run = calm s in (run.0, keeps.stays_calm s run.0 run.1),
  λ l calm s. let run = calm s in (run.0, spread_stays w x y keeps s run.0 run.1),
  λ k typed s v t run. typed s v t (keeps.back s (Result.gives v) t run),
)
