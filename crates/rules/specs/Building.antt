-- What the rules build. New nodes are numbered from the first free number on, children before parents, left to right.
use Rattle.std.specs.Prelude.{ℕ, suc, ◌+◌, List, [], ◌∷◌, ◌++◌, Some, None, Option}
use Rattle.tree.specs.declared.node.UnaryOperator.TheVariants.{Void}
use Rattle.template.specs.Escaped.{raw_of}
use Rattle.meaning.specs.Expression.{Expression, Elements, Arguments, Quasi, Pieces, Units}

-- Arguments as elements, spreads as spreads. oxc_minifier's `try_fold_array_of`.
unfoldable pub elements_of : Arguments → Elements
elements_of Arguments.no_arguments = Elements.no_elements
elements_of (Arguments.argument x xs) = Elements.item x (elements_of xs)
elements_of (Arguments.spread_argument l x xs) = Elements.spread l x (elements_of xs)

-- One row of elements behind the other. oxc_minifier's `try_fold_concat`, `append`.
unfoldable pub append_elements : Elements → Elements → Elements
append_elements Elements.no_elements ys = ys
append_elements (Elements.item x xs) ys = Elements.item x (append_elements xs ys)
append_elements (Elements.hole l xs) ys = Elements.hole l (append_elements xs ys)
append_elements (Elements.spread l x xs) ys = Elements.spread l x (append_elements xs ys)

-- One row of arguments behind the other. oxc_minifier's `replace_concat_chain`, `flat_map`.
unfoldable pub append_arguments : Arguments → Arguments → Arguments
append_arguments Arguments.no_arguments ys = ys
append_arguments (Arguments.argument x xs) ys = Arguments.argument x (append_arguments xs ys)
append_arguments (Arguments.spread_argument l x xs) ys = Arguments.spread_argument l x (append_arguments xs ys)

-- The arguments of several calls, in order. oxc_minifier's `replace_concat_chain`, `flat_map`.
unfoldable pub flat : List Arguments → Arguments
flat [] = Arguments.no_arguments
flat (xs ∷ xss) = append_arguments xs (flat xss)

-- The text of a string node; no other node joins the texts beside it. oxc_minifier's `fold_string_concat`.
unfoldable pub text_of : Expression → Option Units
text_of (Expression.string l u) = Some u
text_of x = None

-- A new quasi of a text, whose raw text is the text escaped. oxc_minifier's `template_element`.
unfoldable pub new_quasi : ℕ → Units → Quasi
new_quasi l u = Quasi.quasi l (raw_of u) u

-- One argument behind a text: a string joins the text, and any other argument ends a quasi. The rest is built from a
-- number and the text so far. oxc_minifier's `fold_string_concat`.
unfoldable pub add_piece : ℕ → Units → Expression → (ℕ → Units → Pieces) → Option Units → Pieces
add_piece next u x rest (Some v) = rest next (u ++ v)
add_piece next u x rest None = Pieces.piece (new_quasi next u) x (rest (suc next) [])

-- The pieces of a text and the arguments behind it, the quasis numbered from `next` on. (A spread has no place in a
-- template, and no rule builds one of a spread.) oxc_minifier's `fold_string_concat`.
unfoldable pub pieces_of : ℕ → Units → Arguments → Pieces
pieces_of next u Arguments.no_arguments = Pieces.last (new_quasi next u)
pieces_of next u (Arguments.argument x xs) = add_piece next u x (λ n v. pieces_of n v xs) (text_of x)
pieces_of next u (Arguments.spread_argument l x xs) = pieces_of next u xs

-- How many quasis there are. ECMA-262, "Template Literals".
unfoldable pub quasi_count : Pieces → ℕ
quasi_count (Pieces.last q) = 1
quasi_count (Pieces.piece q x ps) = suc (quasi_count ps)

-- The template of pieces whose quasis are numbered from `next` on: its own number is behind theirs. Without an
-- expression it is a string, and no quasi is made. oxc_minifier's `fold_string_concat`.
unfoldable pub template_of : ℕ → Pieces → Expression
template_of next (Pieces.last (Quasi.quasi l raw u)) = Expression.string next u
template_of next (Pieces.piece q x ps) = Expression.template (next + quasi_count (Pieces.piece q x ps)) (Pieces.piece q x ps)

-- The template, or string, of a base text and arguments. oxc_minifier's `fold_string_concat`.
abbrev pub joined : ℕ → Units → Arguments → Expression
joined next u xs = template_of next (pieces_of next u xs)

-- A callee, of another object: a new member with the same name, or the same key node. (No origin: the original
-- changes the array in place.)
unfoldable pub with_object : ℕ → Expression → Expression → Expression
with_object l (Expression.static_member m o k) y = Expression.static_member l y k
with_object l (Expression.computed_member m o k) y = Expression.computed_member l y k
with_object l f y = f

-- `void 0`, two new nodes. oxc_minifier's `new_void_0`; ECMA-262, "The void Operator".
abbrev pub void_zero : ℕ → Expression
void_zero next = Expression.unary (next + 1) Void (Expression.number next 0)
