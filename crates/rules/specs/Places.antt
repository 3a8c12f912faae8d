-- Where an expression stands, and what is supported.
use Rattle.std.specs.Prelude.{Bool}

-- Whether template literals and `**` are supported. oxc_minifier's `supports_feature` of `ES2015TemplateLiterals` and
-- `ES2016ExponentiationOperator`.
pub record Settings : Type 0 where
  pub templates : Bool
  pub power : Bool

-- How a place takes its expression: as the object of a static member `concat`; as a reference, as a call takes its
-- callee and some opaque expressions their first child; or in any other way. oxc_minifier's `ctx.parent()`, as the
-- rules ask it.
pub data Role : Type 0 where
  ordinary concat_object referred : Role

-- A place that takes its expression's value. oxc_minifier's `replace_known_property_access`, by which a callee keeps
-- `this`.
abbrev pub TakesValue : Role → Type 0
TakesValue Role.ordinary = Unit {0}
TakesValue Role.concat_object = Unit {0}
TakesValue Role.referred = ⊥

-- A place that is not the object of a static member `concat`. oxc_minifier's `replace_concat_chain` and
-- `try_fold_concat`, by which the outermost call of `concat` goes first.
abbrev pub IsOutermost : Role → Type 0
IsOutermost Role.ordinary = Unit {0}
IsOutermost Role.concat_object = ⊥
IsOutermost Role.referred = Unit {0}
