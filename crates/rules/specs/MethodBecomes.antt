-- What a call of a known method becomes, as a relation.
use Rattle.std.specs.Prelude.{◌≡◌, ℕ, suc, ◌+◌, ◌≤◌, true, ◌≢◌}
use Rattle.tree.specs.declared.node.UnaryOperator.TheVariants.{Plus}
use Rattle.tree.specs.declared.node.BinaryOperator.TheVariants.{Exponentiation}
use Rattle.host.specs.declared.value_type.ValueType.{ValueType}
use Rattle.host.specs.declared.value_type.ValueType.TheVariants.{Number}
use Rattle.meaning.specs.Expression.{Expression, Elements, Arguments, Units}
use Rattle.meaning.specs.Methods.{concat_name, pow_name, of_name, math_name, array_name}
use Rattle.meaning.specs.Parts.{Part}
use Rattle.rules.specs.Places.{Role, Settings, IsOutermost}
use Rattle.rules.specs.Facts.{Facts}
use Rattle.rules.specs.Building.{elements_of, append_elements, joined, with_object}
use Rattle.rules.specs.Interleaves.{Interleaves, Short, argument_count}
use Rattle.rules.specs.Takes.{Takes}

-- A callee names a method of an object: by a static member, or by a string node as key. ECMA-262, "Property Accessors".
pub data Method : Expression → Expression → Units → Type 0 where
  static : {m : ℕ} {o : Expression} {k : Units} → Method (Expression.static_member m o k) o k
  keyed : {m i : ℕ} {o : Expression} {k : Units} → Method (Expression.computed_member m o (Expression.string i k)) o k

-- The four known methods. ECMA-262, "String.prototype.concat", "Array.prototype.concat", "Math.pow" and "Array.of";
-- oxc_minifier's `try_fold_concat`, `try_fold_pow` and `try_fold_array_of`.
pub data MethodBecomes (f : Facts) (s : Settings) (next : ℕ) (r : Role) : Expression → Expression → Type 0 where
  -- "base".concat(..) as one template
  of_string : {l j : ℕ} {g : Expression} {u : Units} {xs : Arguments} → Method g (Expression.string j u) concat_name → IsOutermost r
      → s.templates ≡ true → 1 ≤ argument_count xs → Short 1 xs → Interleaves f xs
      → MethodBecomes f s next r (Expression.call l g xs) (joined next u xs)
  -- [..].concat() as the array itself
  of_array : {l j : ℕ} {g : Expression} {es : Elements} → Method g (Expression.array j es) concat_name → IsOutermost r
      → MethodBecomes f s next r (Expression.call l g Arguments.no_arguments) (Expression.array j es)
  -- [..].concat(..) as one new array, where every argument is taken in
  of_array_taking_all : {l j n : ℕ} {g : Expression} {es ts : Elements} {xs : Arguments} → Method g (Expression.array j es) concat_name → IsOutermost r
      → Takes (suc n) xs ts Arguments.no_arguments
      → MethodBecomes f s next r (Expression.call l g xs) (Expression.array next (append_elements es ts))
  -- and as a call on the new array with the arguments that are left
  of_array_taking_some : {l j n : ℕ} {g : Expression} {es ts : Elements} {xs ys : Arguments} → Method g (Expression.array j es) concat_name → IsOutermost r
      → Takes (suc n) xs ts ys → 1 ≤ argument_count ys
      → MethodBecomes f s next r (Expression.call l g xs) (Expression.call (next + 2) (with_object (next + 1) g (Expression.array next (append_elements es ts))) ys)
  -- Math.pow(a, b) as a ** b, where b is of type Number
  of_pow_with_number : {l j : ℕ} {g a b : Expression} → Method g (Expression.name j math_name) pow_name → s.power ≡ true
      → f.global true (Part.expression (Expression.name j math_name)) → f.of_type Number (Part.expression b)
      → MethodBecomes f s next r (Expression.call l g (Arguments.argument a (Arguments.argument b Arguments.no_arguments))) (Expression.binary next Exponentiation a b)
  -- and as a ** +b, where it is not
  of_pow : {l j : ℕ} {g a b : Expression} {t : ValueType} → Method g (Expression.name j math_name) pow_name → s.power ≡ true
      → f.global true (Part.expression (Expression.name j math_name)) → f.of_type t (Part.expression b) → t ≢ Number
      → MethodBecomes f s next r (Expression.call l g (Arguments.argument a (Arguments.argument b Arguments.no_arguments)))
      (Expression.binary (next + 1) Exponentiation a (Expression.unary next Plus b))
  -- Array.of(..) as an array
  of_array_of : {l j : ℕ} {g : Expression} {xs : Arguments} → Method g (Expression.name j array_name) of_name
      → f.global true (Part.expression (Expression.name j array_name))
      → MethodBecomes f s next r (Expression.call l g xs) (Expression.array next (elements_of xs))
