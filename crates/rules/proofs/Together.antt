-- Arguments that interleave call by call, and together: what follows for arguments behind others.
use Rattle.std.proofs.Common.{false, ◌≡◌, ℕ, true, List, [], ◌∷◌}
use Rattle.host.specs.declared.value_type.ValueType.{ValueType}
use Rattle.meaning.specs.Expression.{Expression, Arguments}
use Rattle.meaning.specs.Parts.{Part}
use Rattle.rules.specs.Facts.{Facts}
use Rattle.rules.specs.Building.{append_arguments, flat}
use Rattle.rules.specs.Interleaves.{settled, EachMayFollow, Interleaves}
use Rattle.rules.specs.ChainBecomes.{EachInterleaves}

module _ (f : Facts) where
  -- an expression of type Object or Undetermined
  abbrev pub UnsettledType : Expression → Type 0
  UnsettledType x = (t : ValueType) × f.of_type t (Part.expression x) × (settled t ≡ false)

  -- some argument has effects
  pub data AnyEffects : Arguments → Type 0 where
    here : {x : Expression} {xs : Arguments} → f.effects true (Part.expression x) → AnyEffects (Arguments.argument x xs)
    past : {x : Expression} {xs : Arguments} → AnyEffects xs → AnyEffects (Arguments.argument x xs)
    past_spread : {l : ℕ} {x : Expression} {xs : Arguments} → AnyEffects xs → AnyEffects (Arguments.spread_argument l x xs)

  -- some argument with effects follows one that is not settled
  pub data Clashes : Arguments → Type 0 where
    here : {x : Expression} {xs : Arguments} → UnsettledType x → AnyEffects xs → Clashes (Arguments.argument x xs)
    past : {x : Expression} {xs : Arguments} → Clashes xs → Clashes (Arguments.argument x xs)
    past_spread : {l : ℕ} {x : Expression} {xs : Arguments} → Clashes xs → Clashes (Arguments.spread_argument l x xs)

  -- all together, so each
  follow_first : (x : Expression) (xs ys : Arguments) → EachMayFollow f x (append_arguments xs ys) → EachMayFollow f x xs
  unfolding append_arguments
  follow_first x Arguments.no_arguments ys h = tt
  follow_first x (Arguments.argument z xs) ys h = (h.0, follow_first x xs ys h.1)
  follow_first x (Arguments.spread_argument l z xs) ys h = absurd h

  both_interleave : (xs ys : Arguments) → Interleaves f (append_arguments xs ys) → Interleaves f xs × Interleaves f ys
  unfolding append_arguments
  both_interleave Arguments.no_arguments ys h = (tt, h)
  both_interleave (Arguments.argument x xs) ys h = let i = both_interleave xs ys h.1 in ((follow_first x xs ys h.0, i.0), i.1)
  both_interleave (Arguments.spread_argument l x xs) ys h = absurd h

  pub together_each : (xss : List Arguments) → Interleaves f (flat xss) → EachInterleaves f xss
  unfolding flat
  together_each [] h = tt
  together_each (xs ∷ xss) h = let i = both_interleave xs (flat xss) h in (i.0, together_each xss i.1)
