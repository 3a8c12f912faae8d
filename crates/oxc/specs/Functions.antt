-- `replace_concat_chain`, `replace_known_global_methods` and `replace_known_property_access`, step by step, on the
-- kinds of expressions that payoffs have, with a host's answers for `may_have_side_effects`, `value_type` and
-- `is_global_reference`, and with what the rules see of the parent. Left out are constant evaluation, `join`, regular
-- expressions, BigInt literals, the constants of Number and `?.`. New nodes have the number 0.
use Rattle.std.specs.Prelude.{ℕ, zero, suc, Bool, true, false, cond, ◌&&◌, ◌||◌, List, [], ◌∷◌, ◌++◌, length, reverse, Some, None, Option, codes, bytes_eq, nat_le, nat_lt, slice_get}
use Rattle.text.specs.Utf16.{points}
use Rattle.tree.specs.declared.node.UnaryOperator.TheVariants.{Plus, Void}
use Rattle.tree.specs.declared.node.BinaryOperator.TheVariants.{Exponentiation}
use Rattle.meaning.specs.Expression.{Expression, Elements, Arguments, Units}
use Rattle.meaning.specs.Number.{Number as NumberValue, whole}
use Rattle.meaning.specs.Parts.{Part}
use Rattle.host.specs.declared.value_type.ValueType.{ValueType}
use Rattle.host.specs.declared.value_type.ValueType.TheVariants.{Number}
use Rattle.host.specs.Answers.{Answers}
use Rattle.rules.specs.Places.{Settings, Role}
use Rattle.rules.specs.Building.{append_elements}
use Rattle.oxc.specs.Escaping.{no_str}
use Rattle.oxc.specs.Folding.{iter, from_iter, object_or_undetermined, string_concat_can_interleave, string_concat_prefers_template, expression_count, fold_string_concat}

-- What a function makes of the node: it leaves it, or replaces it. There is no answer where the Rust's step contradicts
-- ECMA-262.
pub data Made : Type 0 where
  left : Made
  replaced : Expression → Made
  no_answer : Made

-- `name == ".."`
abbrev pub is : Units → Units → Bool
is u v = bytes_eq u v

-- `Ancestor::StaticMemberExpressionObject(member) if member.property().name == "concat"`
unfoldable pub parent_is_concat : Role → Bool
parent_is_concat Role.concat_object = true
parent_is_concat r = false

-- ---- replace_concat_chain

-- Its loop: it ends with nothing, or with the callee of the innermost call, that callee's object, and the arguments of
-- all calls, the outermost first.
pub data Root : Type 0 where
  nothing : Root
  root : (callee object : Expression) → (collected_arguments : List Arguments) → Root

unfoldable mutual
  pub collect : Expression → List Arguments → Root
  collect (Expression.call l f xs) collected = collect_callee f (collected ++ xs ∷ [])
  collect x collected = Root.nothing

  pub collect_callee : Expression → List Arguments → Root
  collect_callee (Expression.static_member m o p) collected = cond (is p (codes "concat")) (collect_object m o p collected) Root.nothing
  collect_callee f collected = Root.nothing

  pub collect_object : ℕ → Expression → Units → List Arguments → Root
  collect_object m (Expression.array l xs) p collected = Root.root (Expression.static_member m (Expression.array l xs) p) (Expression.array l xs) collected
  collect_object m (Expression.string l u) p collected = Root.root (Expression.static_member m (Expression.string l u) p) (Expression.string l u) collected
  collect_object m (Expression.call l f xs) p collected = collect_callee f (collected ++ xs ∷ [])
  collect_object m o p collected = Root.nothing

-- `iter().rev().flat_map(|args| args.iter())`, without the `rev`
unfoldable pub flat_map : List Arguments → List Part
flat_map [] = []
flat_map (xs ∷ xss) = iter xs ++ flat_map xss

-- `iter().all(|args| Self::string_concat_can_interleave(args.iter(), ctx))`
unfoldable pub all_can_interleave : Answers → List Arguments → Bool
all_can_interleave a [] = true
all_can_interleave a (xs ∷ xss) = string_concat_can_interleave a (iter xs) && all_can_interleave a xss

-- The calls become one.
abbrev pub one_call : Expression → List Part → Made
one_call callee args = Made.replaced (Expression.call 0 callee (from_iter args))

-- Of a string: `call_count`, and what follows from it.
abbrev pub call_count : Bool → List Arguments → ℕ
call_count flattens collected = cond flattens 1 (length collected)

abbrev pub string_chain : Settings → Answers → (callee : Expression) (base : Units) → List Arguments → List Part → (flattens : Bool) → Made
string_chain s a callee base collected args flattens =
    cond
    (s.templates && all_can_interleave a collected && string_concat_prefers_template (length args) (expression_count args) (call_count flattens collected))
    (Made.replaced (fold_string_concat base args))
    (cond flattens (one_call callee args) Made.left)

-- Of an array, the Rust makes one call whatever the arguments are. An argument of a later call that has effects runs,
-- by ECMA-262, after `Array.prototype.concat` has read what an earlier call added, and then before: so there is no
-- answer where such an argument follows one that may be an object and is no array of the source text.
unfoldable pub may_be_read : Answers → Part → Bool
may_be_read a (Part.expression (Expression.array l xs)) = false
may_be_read a (Part.expression x) = object_or_undetermined (a.value_type (Part.expression x))
may_be_read a p = true

unfoldable pub any_read : Answers → List Part → Bool
any_read a [] = false
any_read a (p ∷ ps) = may_be_read a p || any_read a ps

unfoldable pub any_effects : Answers → List Part → Bool
any_effects a [] = false
any_effects a (p ∷ ps) = a.effects p || any_effects a ps

-- The arguments of the calls, the innermost first.
unfoldable pub order_matters : Answers → List Arguments → Bool
order_matters a [] = false
order_matters a (xs ∷ xss) = (any_read a (iter xs) && any_effects a (flat_map xss)) || order_matters a xss

abbrev pub array_chain : Answers → (callee : Expression) → List Arguments → Made
array_chain a callee innermost_first = cond (order_matters a innermost_first) Made.no_answer (one_call callee (flat_map innermost_first))

abbrev pub chain_from : Settings → Answers → (callee object : Expression) → List Arguments → Made
chain_from s a callee (Expression.string l base) collected =
    string_chain s a callee base collected (flat_map (reverse collected)) (string_concat_can_interleave a (flat_map (reverse collected)))
chain_from s a callee object collected = array_chain a callee (reverse collected)

unfoldable pub from_root : Settings → Answers → Root → Made
from_root s a Root.nothing = Made.left
from_root s a (Root.root callee object collected) = cond (nat_le (length collected) 1) Made.left (chain_from s a callee object collected)

abbrev pub replace_concat_chain : Settings → Role → Answers → Expression → Made
replace_concat_chain s parent a x = cond (parent_is_concat parent) Made.left (from_root s a (collect x []))

-- ---- replace_known_global_methods

-- `argument.is_literal()`
unfoldable pub is_literal : Expression → Bool
is_literal (Expression.string l u) = true
is_literal (Expression.number l n) = true
is_literal (Expression.boolean l b) = true
is_literal (Expression.null l) = true
is_literal x = false

-- An argument that merges: `elements.push(argument)`, or `elements.append(&mut argument_array.elements)`.
unfoldable pub merges : Part → Bool
merges (Part.expression (Expression.array l xs)) = true
merges (Part.expression x) = is_literal x
merges p = false

unfoldable pub merged_one : Elements → Part → Elements
merged_one es (Part.expression (Expression.array l xs)) = append_elements es xs
merged_one es (Part.expression x) = append_elements es (Elements.item x Elements.no_elements)
merged_one es p = es

-- `args.drain(..=can_merge_until)`: the elements, the arguments that are left, and how many were drained.
pub record Drained : Type 0 where
  pub elements : Elements
  pub args : List Part
  pub merged : ℕ

unfoldable pub drained : Elements → ℕ → List Part → Drained
drained es n [] = record { elements = es; args = []; merged = n }
drained es n (p ∷ ps) = cond (merges p) (drained (merged_one es p) (suc n) ps) (record { elements = es; args = p ∷ ps; merged = n })

-- The callee, of its array with these elements.
unfoldable pub with_elements : Expression → Elements → Expression
with_elements (Expression.static_member m o p) es = Expression.static_member m (Expression.array 0 es) p
with_elements (Expression.computed_member m o k) es = Expression.computed_member m (Expression.array 0 es) k
with_elements f es = f

abbrev pub after_drain : Expression → Drained → Made
after_drain callee d =
    cond (nat_le (length d.args) 0) (Made.replaced (Expression.array 0 d.elements))
    (cond (nat_le 1 d.merged) (Made.replaced (Expression.call 0 (with_elements callee d.elements) (from_iter d.args))) Made.left)

unfoldable pub try_fold_concat : Settings → Answers → (callee object : Expression) → List Part → Made
try_fold_concat s a callee (Expression.array l es) args = after_drain callee (drained es 0 args)
try_fold_concat s a callee (Expression.string l base) args =
    cond
    (s.templates && nat_le 1 (length args) && string_concat_can_interleave a args && string_concat_prefers_template (length args) (expression_count args) 1)
    (Made.replaced (fold_string_concat base args))
    Made.left
try_fold_concat s a callee object args = Made.left

-- `validate_global_reference`
unfoldable pub validate_global_reference : Answers → Expression → Units → Bool
validate_global_reference a (Expression.name l u) target = a.global (Part.expression (Expression.name l u)) && is u target
validate_global_reference a x target = false

-- `wrap_with_unary_plus_if_needed`
unfoldable pub wrapped : ValueType → Expression → Expression
wrapped Number x = x
wrapped t x = Expression.unary 0 Plus x

unfoldable pub try_fold_pow : Settings → Answers → (object : Expression) → List Part → Made
try_fold_pow s a object (Part.expression x ∷ Part.expression y ∷ []) =
    cond (s.power && validate_global_reference a object (codes "Math"))
    (Made.replaced (Expression.binary 0 Exponentiation x (wrapped (a.value_type (Part.expression y)) y)))
    Made.left
try_fold_pow s a object args = Made.left

unfoldable pub elements_of : List Part → Elements
elements_of [] = Elements.no_elements
elements_of (Part.expression x ∷ ps) = Elements.item x (elements_of ps)
elements_of (Part.spread l x ∷ ps) = Elements.spread l x (elements_of ps)
elements_of (p ∷ ps) = elements_of ps

abbrev pub try_fold_array_of : Answers → (object : Expression) → List Part → Made
try_fold_array_of a object args = cond (validate_global_reference a object (codes "Array")) (Made.replaced (Expression.array 0 (elements_of args))) Made.left

-- `match name`
abbrev pub by_name : Settings → Role → Answers → (callee object : Expression) (name : Units) → List Part → Made
by_name s parent a callee object name args =
    cond (is name (codes "concat")) (cond (parent_is_concat parent) Made.left (try_fold_concat s a callee object args))
    (cond (is name (codes "pow")) (try_fold_pow s a object args)
    (cond (is name (codes "of")) (try_fold_array_of a object args) Made.left))

-- `match &callee`; a key whose text is no `str` ends it.
unfoldable pub by_callee : Settings → Role → Answers → (callee : Expression) → List Part → Made
by_callee s parent a (Expression.static_member m o p) args = by_name s parent a (Expression.static_member m o p) o p args
by_callee s parent a (Expression.computed_member m o (Expression.string l k)) args =
    cond (no_str (points k)) Made.left (by_name s parent a (Expression.computed_member m o (Expression.string l k)) o k args)
by_callee s parent a callee args = Made.left

unfoldable pub replace_known_global_methods : Settings → Role → Answers → Expression → Made
replace_known_global_methods s parent a (Expression.call l f xs) = by_callee s parent a f (iter xs)
replace_known_global_methods s parent a x = Made.left

-- ---- replace_known_property_access

-- `new_void_0`
abbrev pub new_void_0 : Expression
new_void_0 = Expression.unary 0 Void (Expression.number 0 0)

-- `s.value.encode_utf16().nth(index)`
unfoldable pub from_unit : Option ℕ → Expression
from_unit None = new_void_0
from_unit (Some unit) = Expression.string 0 (unit ∷ [])

-- `elements.iter().take_while(|el| !el.is_spread()).count()`
unfoldable pub length_until_spread : Elements → ℕ
length_until_spread Elements.no_elements = 0
length_until_spread (Elements.item x xs) = suc (length_until_spread xs)
length_until_spread (Elements.hole l xs) = suc (length_until_spread xs)
length_until_spread (Elements.spread l x xs) = 0

-- `&array_expr.elements[property]`: an elision gives `void 0`, and an expression itself.
unfoldable pub element : Elements → ℕ → Made
element (Elements.item x xs) zero = Made.replaced x
element (Elements.hole l xs) zero = Made.replaced new_void_0
element (Elements.item x xs) (suc k) = element xs k
element (Elements.hole l xs) (suc k) = element xs k
element (Elements.spread l x xs) (suc k) = element xs k
element xs k = Made.left

unfoldable pub fold_access : Expression → ℕ → Made
fold_access (Expression.string l u) index = Made.replaced (from_unit (slice_get u index))
fold_access (Expression.array l xs) index = cond (nat_lt index (length_until_spread xs)) (element xs index) Made.left
fold_access object index = Made.left

abbrev pub try_fold_integer_index_access : Answers → (object : Expression) → ℕ → Made
try_fold_integer_index_access a object index = cond (a.effects (Part.expression object)) Made.left (fold_access object index)

-- `to_integer_index`, which gives a `u32`
abbrev pub to_integer_index : Option ℕ → Option ℕ
to_integer_index None = None
to_integer_index (Some k) = cond (nat_le k 4294967295) (Some k) None

unfoldable pub at_integer_index : Answers → (object : Expression) → Option ℕ → Made
at_integer_index a object None = Made.left
at_integer_index a object (Some k) = try_fold_integer_index_access a object k

unfoldable pub by_member : Answers → Expression → Made
by_member a (Expression.computed_member m o (Expression.number l n)) = at_integer_index a o (to_integer_index (whole (NumberValue.bits n)))
by_member a x = Made.left

-- The parent is a call that has the node as its callee, a tagged template, or `delete`.
unfoldable pub replace_known_property_access : Role → Answers → Expression → Made
replace_known_property_access Role.referred a x = Made.left
replace_known_property_access parent a x = by_member a x
