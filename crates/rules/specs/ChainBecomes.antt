-- What a chain of `concat` becomes, as a relation.
use Rattle.std.specs.Prelude.{◌≡◌, ℕ, ◌≤◌, true, false, List, [], ◌∷◌, ◌++◌, length, ◌⊎◌}
use Rattle.meaning.specs.Expression.{Expression, Elements, Arguments, Units}
use Rattle.meaning.specs.Methods.{concat_name}
use Rattle.meaning.specs.Parts.{Part}
use Rattle.rules.specs.Places.{Role, Settings, IsOutermost}
use Rattle.rules.specs.Facts.{Facts}
use Rattle.rules.specs.Building.{joined, flat}
use Rattle.rules.specs.Interleaves.{SettledType, Interleaves, Short}

-- The calls of a chain on a base, as the arguments of each, the innermost call first; the number is that of the
-- innermost callee. ECMA-262, "Function Calls" of "Property Accessors"; oxc_minifier's `replace_concat_chain`.
pub data Calls (base : Expression) (m : ℕ) : Expression → List Arguments → Type 0 where
  innermost : {n : ℕ} {xs : Arguments} → Calls base m (Expression.call n (Expression.static_member m base concat_name) xs) (xs ∷ [])
  outer : {n i : ℕ} {x : Expression} {xs : Arguments} {xss : List Arguments} → Calls base m x xss
      → Calls base m (Expression.call n (Expression.static_member i x concat_name) xs) (xss ++ (xs ∷ []))

-- Each call by itself interleaves. oxc_minifier's `replace_concat_chain`.
abbrev pub EachInterleaves : Facts → List Arguments → Type 0
EachInterleaves f [] = Unit {0}
EachInterleaves f (xs ∷ xss) = Interleaves f xs × EachInterleaves f xss

-- The calls that a template is held against: one, if all arguments together interleave, since they then could become
-- one call; and else as many as there are. oxc_minifier's `replace_concat_chain`, `call_count`.
pub data CallCount (f : Facts) (xss : List Arguments) : ℕ → Type 0 where
  together : Interleaves f (flat xss) → CallCount f xss 1
  apart : (Interleaves f (flat xss) → ⊥) → CallCount f xss (length xss)

-- An array literal. ECMA-262, "Array Initializer".
pub data IsArray : Expression → Type 0 where
  array : {l : ℕ} {xs : Elements} → IsArray (Expression.array l xs)

-- No argument has effects, of a spread its iteration included. ECMA-262, "Runtime Semantics: ArgumentListEvaluation".
abbrev pub AllStill : Facts → Arguments → Type 0
AllStill f Arguments.no_arguments = Unit {0}
AllStill f (Arguments.argument x xs) = f.effects false (Part.expression x) × AllStill f xs
AllStill f (Arguments.spread_argument l x xs) = f.effects false (Part.spread l x) × AllStill f xs

-- Each argument is an array literal, or of a type other than Object and Undetermined, or no later argument has
-- effects, which a spread always asks for. ECMA-262, "IsConcatSpreadable", and "Array.prototype.concat", which reads
-- its arguments only once it is called.
abbrev pub MayBeReadLater : Facts → Arguments → (later : Arguments) → Type 0
MayBeReadLater f Arguments.no_arguments zs = Unit {0}
MayBeReadLater f (Arguments.argument x xs) zs = (IsArray x ⊎ (SettledType f x ⊎ AllStill f zs)) × MayBeReadLater f xs zs
MayBeReadLater f (Arguments.spread_argument l x xs) zs = AllStill f zs × MayBeReadLater f xs zs

-- No argument with effects follows, in a later call, a spread or an argument of type Object or Undetermined that is
-- no array literal. (A condition that the original lacks: an argument that runs later could change what was read
-- before.)
abbrev pub ArraysApart : Facts → List Arguments → Type 0
ArraysApart f [] = Unit {0}
ArraysApart f (xs ∷ xss) = MayBeReadLater f xs (flat xss) × ArraysApart f xss

-- At least two calls, inwards to a string or an array literal. ECMA-262, "String.prototype.concat" and
-- "Array.prototype.concat"; oxc_minifier's `replace_concat_chain`.
pub data ChainBecomes (f : Facts) (s : Settings) (next : ℕ) (r : Role) : Expression → Expression → Type 0 where
  -- a string's calls as one template
  to_template : {m j c : ℕ} {u : Units} {x : Expression} {xss : List Arguments} → Calls (Expression.string j u) m x xss → 2 ≤ length xss → IsOutermost r
      → s.templates ≡ true → EachInterleaves f xss → CallCount f xss c → Short c (flat xss)
      → ChainBecomes f s next r x (joined next u (flat xss))
  -- a string's calls as one call, where a template is not to be had or too long
  to_one_call : {m j : ℕ} {u : Units} {x : Expression} {xss : List Arguments} → Calls (Expression.string j u) m x xss → 2 ≤ length xss → IsOutermost r
      → Interleaves f (flat xss) → (s.templates ≡ true → Short 1 (flat xss) → ⊥)
      → ChainBecomes f s next r x (Expression.call next (Expression.static_member m (Expression.string j u) concat_name) (flat xss))
  -- an array's calls as one call
  to_array_call : {m j : ℕ} {es : Elements} {x : Expression} {xss : List Arguments} → Calls (Expression.array j es) m x xss → 2 ≤ length xss → IsOutermost r
      → ArraysApart f xss
      → ChainBecomes f s next r x (Expression.call next (Expression.static_member m (Expression.array j es) concat_name) (flat xss))
