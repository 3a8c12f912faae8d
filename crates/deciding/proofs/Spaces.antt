-- The space that the rules count for what a plan is for.
use Rattle.std.proofs.Common.{◌≡◌, ℕ, suc, ◌+◌, ◌*◌, ◌<◌, ◌≤◌, Bool, true, false, cond, ◌⊎◌, inl, inr, List, [], ◌∷◌, ◌++◌, length, Some, None, Option, nat_le, refl, sym, subst, ap, ap₂, ◌∙◌, arith}
use Rattle.std.specs.Prelude.{◌==◌}
use Rattle.std.specs.List.{slice_get}
use Rattle.std.proofs.lemmas.Bool.Decides.{nat_tests}
use Rattle.std.proofs.lemmas.Option.{slice_get_within}
use Rattle.text.specs.Stored.{stored}
use Rattle.template.specs.Escaped.{raw_of}
use Rattle.tree.specs.declared.node.Node.{Node}
use Rattle.tree.specs.Tree.{Own, Tree, Trees, tree, none, more, Denotes, DenoteAll}
use Rattle.tree.specs.Heap.{Held, look, read}
use Rattle.meaning.specs.Expression.{Expression, Elements, Arguments, Pieces, Quasi, Units}
use Rattle.meaning.specs.Methods.{concat_name}
use Rattle.meaning.specs.Trees.{tree_of, element_trees, argument_trees, piece_trees, quasi_tree}
use Rattle.rules.specs.Building.{elements_of, append_elements, append_arguments, flat, text_of, new_quasi, add_piece, pieces_of, quasi_count, template_of}
use Rattle.rules.specs.Chain.{Chain, chain_of, called_on, longer}
use Rattle.rules.specs.Deciding.{same_name}
use Rattle.rules.specs.Space.{bytes_of, new_nodes, new_nodes_of, new_bytes, new_bytes_of, piece_count, new_entries, space}
use Rattle.rules.specs.Taking.{Leading, leading, taken, taken_with, left, left_with}
use Rattle.deciding.specs.Standing.{AllStand, element_parts, argument_parts}
use Rattle.deciding.specs.Reached.{Reached, quasi_bytes, with_value, with_part, with_parts, needed}

-- So many nodes and bytes of a tree are new.
pub record Takes (next : ℕ) (t : Tree) (nodes bytes : ℕ) : Type 0 where
  pub nodes_are : new_nodes next t ≡ nodes
  pub bytes_are : new_bytes next t ≡ bytes

pub record TakesOf (next : ℕ) (ts : Trees) (nodes bytes : ℕ) : Type 0 where
  pub nodes_are : new_nodes_of next ts ≡ nodes
  pub bytes_are : new_bytes_of next ts ≡ bytes

cond_old : (b : Bool) (k n m : ℕ) → b ≡ false → n ≡ m → cond b k 0 + n ≡ m
cond_old b k n m e z = rw e (omega (arith, z))

cond_new : (b : Bool) (k n m : ℕ) → b ≡ true → n ≡ m → cond b k 0 + n ≡ k + m
cond_new b k n m e z = rw e (omega (arith, z))

pub takes_nothing : (next : ℕ) → TakesOf next none 0 0
unfolding new_nodes_of new_bytes_of
takes_nothing next = record { nodes_are = refl; bytes_are = refl }

pub takes_both : (next : ℕ) (t : Tree) (ts : Trees) (n b m c : ℕ) → Takes next t n b → TakesOf next ts m c → TakesOf next (more t ts) (n + m) (b + c)
unfolding new_nodes_of new_bytes_of
takes_both next t ts n b m c f g = record {
  nodes_are = ap₂ (λ (i j : ℕ). i + j) f.nodes_are g.nodes_are;
  bytes_are = ap₂ (λ (i j : ℕ). i + j) f.bytes_are g.bytes_are;
}

pub takes_new : (next l : ℕ) (o : Own) (ts : Trees) (n b : ℕ) → next ≤ l → TakesOf next ts n b → Takes next (tree l o ts) (1 + n) (bytes_of o + b)
unfolding new_nodes new_bytes
takes_new next l o ts n b le f =
    let e : nat_le next l ≡ true = grind (arith, nat_tests) in
    record { nodes_are = cond_new (nat_le next l) 1 (new_nodes_of next ts) n e f.nodes_are; bytes_are = cond_new (nat_le next l) (bytes_of o) (new_bytes_of next ts) b e f.bytes_are }

takes_old : (next l : ℕ) (o : Own) (ts : Trees) → l < next → TakesOf next ts 0 0 → Takes next (tree l o ts) 0 0
unfolding new_nodes new_bytes
takes_old next l o ts lt f =
    let e : nat_le next l ≡ false = grind (arith, nat_tests) in
    record { nodes_are = cond_old (nat_le next l) 1 (new_nodes_of next ts) 0 e f.nodes_are; bytes_are = cond_old (nat_le next l) (bytes_of o) (new_bytes_of next ts) 0 e f.bytes_are }

pub space_is : (next : ℕ) (x y : Expression) (n b nodes entries text : ℕ) → Takes next (tree_of y) n b → nodes ≡ n → entries ≡ new_entries next x y → text ≡ b
    → record { nodes = nodes; entries = entries; text = text } ≡ space next x y
space_is next x y n b nodes entries text t e f g =
    let i = e ∙ sym t.nodes_are in
    let j = g ∙ sym t.bytes_are in
    cc

-- ---- what is held already

pub held_number : (h : Held) (l : ℕ) (w : Own × List ℕ) → look h l ≡ Some w → l < length h.nodes
held_number h l w e = by (slice_get h.nodes l) refl e
  where
    by : (o : Option Node) → slice_get h.nodes l ≡ o → read h.entries h.text o ≡ Some w → l < length h.nodes
    by None f g = absurd (cc)
    by (Some r) f g = slice_get_within h.nodes l r f

entries_held_at : (next l n : ℕ) → l < next → 0 ≡ cond (nat_le next l) n 0
entries_held_at next l n lt = let e : nat_le next l ≡ false = grind (arith, nat_tests) in rw e refl

pub entries_held : (h : Held) (x y : Expression) → Denotes (look h) (tree_of y) → 0 ≡ new_entries (length h.nodes) x y
unfolding new_entries
entries_held h x (Expression.array l es) d = entries_held_at (length h.nodes) l _ (held_number h l _ d.0)
entries_held h x (Expression.call l f xs) d = entries_held_at (length h.nodes) l _ (held_number h l _ d.0)
entries_held h x (Expression.template l ps) d = entries_held_at (length h.nodes) l _ (held_number h l _ d.0)
entries_held h x y d = refl

mutual
  pub denoted : (h : Held) (t : Tree) → Denotes (look h) t → Takes (length h.nodes) t 0 0
  denoted h (tree l o ts) d = takes_old (length h.nodes) l o ts (held_number h l _ d.0) (all_denoted h ts d.1)

  pub all_denoted : (h : Held) (ts : Trees) → DenoteAll (look h) ts → TakesOf (length h.nodes) ts 0 0
  all_denoted h none d = takes_nothing (length h.nodes)
  all_denoted h (more t ts) d = takes_both (length h.nodes) t ts 0 0 0 0 (denoted h t d.0) (all_denoted h ts d.1)

module _ (h : Held) where
  abbrev pub ElementsHeld : Elements → Type 0
  ElementsHeld es = DenoteAll (look h) (element_trees es)

  abbrev pub ArgumentsHeld : Arguments → Type 0
  ArgumentsHeld xs = DenoteAll (look h) (argument_trees xs)

  pub elements_held : (ns : List ℕ) (es : Elements) → AllStand h ns (element_parts es) → ElementsHeld es
  unfolding element_parts
  elements_held ns Elements.no_elements s = tt
  elements_held [] (Elements.item x xs) s = absurd s
  elements_held (n ∷ ns) (Elements.item x xs) s = (s.0.denoted, elements_held ns xs s.1)
  elements_held [] (Elements.hole l xs) s = absurd s
  elements_held (n ∷ ns) (Elements.hole l xs) s = (s.0.denoted, elements_held ns xs s.1)
  elements_held [] (Elements.spread l x xs) s = absurd s
  elements_held (n ∷ ns) (Elements.spread l x xs) s = (s.0.denoted, elements_held ns xs s.1)

  pub arguments_held : (ns : List ℕ) (xs : Arguments) → AllStand h ns (argument_parts xs) → ArgumentsHeld xs
  unfolding argument_parts
  arguments_held ns Arguments.no_arguments s = tt
  arguments_held [] (Arguments.argument x xs) s = absurd s
  arguments_held (n ∷ ns) (Arguments.argument x xs) s = (s.0.denoted, arguments_held ns xs s.1)
  arguments_held [] (Arguments.spread_argument l x xs) s = absurd s
  arguments_held (n ∷ ns) (Arguments.spread_argument l x xs) s = (s.0.denoted, arguments_held ns xs s.1)

  pub append_held : (es fs : Elements) → ElementsHeld es → ElementsHeld fs → ElementsHeld (append_elements es fs)
  unfolding append_elements
  append_held Elements.no_elements fs d e = e
  append_held (Elements.item x xs) fs d e = (d.0, append_held xs fs d.1 e)
  append_held (Elements.hole l xs) fs d e = (d.0, append_held xs fs d.1 e)
  append_held (Elements.spread l x xs) fs d e = (d.0, append_held xs fs d.1 e)

  pub as_elements_held : (xs : Arguments) → ArgumentsHeld xs → ElementsHeld (elements_of xs)
  unfolding elements_of
  as_elements_held Arguments.no_arguments d = tt
  as_elements_held (Arguments.argument x xs) d = (d.0, as_elements_held xs d.1)
  as_elements_held (Arguments.spread_argument l x xs) d = (d.0, as_elements_held xs d.1)

  taken_with_held : (x : Expression) (es : Elements) → Denotes (look h) (tree_of x) → ElementsHeld es → ElementsHeld (taken_with x (leading x) es)
  unfolding taken_with leading
  taken_with_held (Expression.string l u) es d e = (d, e)
  taken_with_held (Expression.number l n) es d e = (d, e)
  taken_with_held (Expression.boolean l b) es d e = (d, e)
  taken_with_held (Expression.null l) es d e = (d, e)
  taken_with_held (Expression.array l fs) es d e = append_held fs es d.1 e
  taken_with_held x es d e = tt

  pub taken_held : (xs : Arguments) → ArgumentsHeld xs → ElementsHeld (taken xs)
  unfolding taken
  taken_held Arguments.no_arguments d = tt
  taken_held (Arguments.argument x xs) d = taken_with_held x (taken xs) d.0 (taken_held xs d.1)
  taken_held (Arguments.spread_argument l x xs) d = tt

  left_with_held : (x : Expression) (t : Leading) (xs ys : Arguments) → Denotes (look h) (tree_of x) → ArgumentsHeld xs → ArgumentsHeld ys → ArgumentsHeld (left_with x t xs ys)
  unfolding left_with
  left_with_held x Leading.literal xs ys d e f = f
  left_with_held x (Leading.gives es) xs ys d e f = f
  left_with_held x Leading.other xs ys d e f = (d, e)

  pub left_held : (xs : Arguments) → ArgumentsHeld xs → ArgumentsHeld (left xs)
  unfolding left
  left_held Arguments.no_arguments d = tt
  left_held (Arguments.argument x xs) d = left_with_held x (leading x) xs (left xs) d.0 d.1 (left_held xs d.1)
  left_held (Arguments.spread_argument l x xs) d = d

  append_arguments_held : (xs ys : Arguments) → ArgumentsHeld xs → ArgumentsHeld ys → ArgumentsHeld (append_arguments xs ys)
  unfolding append_arguments
  append_arguments_held Arguments.no_arguments ys d e = e
  append_arguments_held (Arguments.argument x xs) ys d e = (d.0, append_arguments_held xs ys d.1 e)
  append_arguments_held (Arguments.spread_argument l x xs) ys d e = (d.0, append_arguments_held xs ys d.1 e)

  -- ---- the calls of a chain

  abbrev CallsHeld : List Arguments → Type 0
  CallsHeld [] = Unit {0}
  CallsHeld (xs ∷ xss) = ArgumentsHeld xs × CallsHeld xss

  abbrev ChainHeld : Chain → Type 0
  ChainHeld (Chain.of_string f u xss) = CallsHeld xss
  ChainHeld (Chain.of_array f xss) = CallsHeld xss
  ChainHeld Chain.none = Unit {0}

  flat_held : (xss : List Arguments) → CallsHeld xss → ArgumentsHeld (flat xss)
  unfolding flat
  flat_held [] d = tt
  flat_held (xs ∷ xss) d = append_arguments_held xs (flat xss) d.0 (flat_held xss d.1)

  one_more_held : (xss : List Arguments) (xs : Arguments) → CallsHeld xss → ArgumentsHeld xs → CallsHeld (xss ++ (xs ∷ []))
  one_more_held [] xs d e = (e, tt)
  one_more_held (ys ∷ xss) xs d e = (d.0, one_more_held xss xs d.1 e)

  longer_held : (c : Chain) (xs : Arguments) → ChainHeld c → ArgumentsHeld xs → ChainHeld (longer c xs)
  unfolding longer
  longer_held (Chain.of_string f u xss) xs d e = one_more_held xss xs d e
  longer_held (Chain.of_array f xss) xs d e = one_more_held xss xs d e
  longer_held Chain.none xs d e = tt

  called_held : (f o : Expression) (xs : Arguments) (c : Chain) → ChainHeld c → ArgumentsHeld xs → ChainHeld (called_on f o xs c)
  unfolding called_on
  called_held f (Expression.string l u) xs c d e = (e, tt)
  called_held f (Expression.array l es) xs c d e = (e, tt)
  called_held f o xs c d e = longer_held c xs d e

  chain_held : (x : Expression) → Denotes (look h) (tree_of x) → ChainHeld (chain_of x)
  unfolding chain_of
  chain_held (Expression.call n (Expression.static_member m o k) xs) d =
      by (same_name k concat_name) (called_held (Expression.static_member m o k) o xs (chain_of o) (chain_held o d.1.0.1.0) d.1.1)
    where
      by : (b : Bool) → ChainHeld (called_on (Expression.static_member m o k) o xs (chain_of o)) → ChainHeld (cond b (called_on (Expression.static_member m o k) o xs (chain_of o)) Chain.none)
      by true w = w
      by false w = tt
  chain_held x d = tt

  pub chain_arguments_held : (x g : Expression) (xss : List Arguments) → Denotes (look h) (tree_of x)
      → ((u : Units) × (chain_of x ≡ Chain.of_string g u xss)) ⊎ (chain_of x ≡ Chain.of_array g xss) → ArgumentsHeld (flat xss)
  chain_arguments_held x g xss d (inl e) = flat_held xss (subst ChainHeld e.1 (chain_held x d))
  chain_arguments_held x g xss d (inr e) = flat_held xss (subst ChainHeld e (chain_held x d))

-- ---- pieces

-- A string of the text behind, where there is no expression, or so many more.
abbrev Shape : Pieces → ℕ → Reached → Type 0
Shape (Pieces.last (Quasi.quasi l raw v)) e s = (s.expressions ≡ e) × (v ≡ s.text)
Shape (Pieces.piece q x ps) e s = e < s.expressions

record PiecesTake (next : ℕ) (ps : Pieces) (e b : ℕ) (s : Reached) : Type 0 where
  nodes : new_nodes_of next (piece_trees ps) + e ≡ suc s.expressions
  bytes : new_bytes_of next (piece_trees ps) + b ≡ s.bytes + quasi_bytes s.text
  count : piece_count ps + 2 * e ≡ 2 * s.expressions + 1
  shape : Shape ps e s

one_quasi : (next l : ℕ) (u : Units) → next ≤ l → Takes next (quasi_tree (new_quasi l u)) 1 (quasi_bytes u)
unfolding new_quasi
one_quasi next l u le =
    let t = takes_new next l (Own.quasi (raw_of u) (stored u)) none 0 0 le (takes_nothing next) in
    let n = t.nodes_are in
    let b = t.bytes_are in
    record { nodes_are = omega (arith, n); bytes_are = omega (arith, b) }

last_takes : (next l : ℕ) (u : Units) (e b : ℕ) → next ≤ l → PiecesTake next (Pieces.last (new_quasi l u)) e b (record { expressions = e; bytes = b; text = u })
unfolding new_quasi piece_count
last_takes next l u e b le =
    let t = takes_both next (quasi_tree (new_quasi l u)) none 1 (quasi_bytes u) 0 0 (one_quasi next l u le) (takes_nothing next) in
    let n = t.nodes_are in
    let m = t.bytes_are in
    record { nodes = omega (arith, n); bytes = omega (arith, m); count = omega arith; shape = (refl, refl) }

piece_takes : (next l : ℕ) (u : Units) (x : Expression) (ps : Pieces) (e b : ℕ) (s : Reached) → next ≤ l → Takes next (tree_of x) 0 0
    → PiecesTake next ps (suc e) (b + quasi_bytes u) s → PiecesTake next (Pieces.piece (new_quasi l u) x ps) e b s
unfolding piece_count
piece_takes next l u x ps e b s le old rest =
    let rest_of : TakesOf next (piece_trees ps) (new_nodes_of next (piece_trees ps)) (new_bytes_of next (piece_trees ps)) = record { nodes_are = refl; bytes_are = refl } in
    let t = takes_both next (quasi_tree (new_quasi l u)) (more (tree_of x) (piece_trees ps)) 1 (quasi_bytes u) _ _ (one_quasi next l u le)
    (takes_both next (tree_of x) (piece_trees ps) 0 0 _ _ old rest_of) in
    let n = t.nodes_are in
    let m = t.bytes_are in
    let i = rest.nodes in
    let j = rest.bytes in
    let k = rest.count in
    record { nodes = omega (arith, n, i); bytes = omega (arith, m, j); count = omega (arith, k); shape = omega (arith, k) }

pieces_take : (h : Held) (l : ℕ) (u : Units) (xs : Arguments) (e b : ℕ) → length h.nodes ≤ l → DenoteAll (look h) (argument_trees xs)
    → PiecesTake (length h.nodes) (pieces_of l u xs) e b (with_parts (record { expressions = e; bytes = b; text = u }) (argument_parts xs))
unfolding pieces_of with_parts argument_parts with_part with_value add_piece
pieces_take h l u Arguments.no_arguments e b le d = last_takes (length h.nodes) l u e b le
pieces_take h l u (Arguments.argument x xs) e b le d =
    by (text_of x) (λ v. pieces_take h l (u ++ v) xs e b le d.1) (pieces_take h (suc l) [] xs (suc e) (b + quasi_bytes u) (omega (arith, le)) d.1)
  where
    by : (o : Option Units)
        → ((v : Units) → PiecesTake (length h.nodes) (pieces_of l (u ++ v) xs) e b (with_parts (record { expressions = e; bytes = b; text = u ++ v }) (argument_parts xs)))
        → PiecesTake (length h.nodes) (pieces_of (suc l) [] xs) (suc e) (b + quasi_bytes u) (with_parts (record { expressions = suc e; bytes = b + quasi_bytes u; text = [] }) (argument_parts xs))
        → PiecesTake (length h.nodes) (add_piece l u x (λ n v. pieces_of n v xs) o) e b (with_parts (with_value (record { expressions = e; bytes = b; text = u }) o) (argument_parts xs))
    by (Some v) longer ended = longer v
    by None longer ended = piece_takes (length h.nodes) l u x (pieces_of (suc l) [] xs) e b _ le (denoted h (tree_of x) d.0) ended
pieces_take h l u (Arguments.spread_argument k x xs) e b le d = pieces_take h l u xs e b le d.1

template_space : (next : ℕ) (x : Expression) (ps : Pieces) (s : Reached) → PiecesTake next ps 0 0 s → needed s ≡ space next x (template_of next ps)
unfolding template_of new_entries bytes_of
template_space next x (Pieces.last (Quasi.quasi l raw v)) s t =
    let none : (s.expressions == 0) ≡ true = let z = t.shape.0 in grind (arith, nat_tests) in
    let w = takes_new next next (Own.string (stored v)) Trees.none 0 0 (omega arith) (takes_nothing next) in
    let same = ap (λ z. length (stored z)) t.shape.1 in
    rw none (space_is next x (Expression.string next v) _ _ _ _ _ w (omega arith) refl (omega (arith, same)))
template_space next x (Pieces.piece q y ps) s t =
    let some : (s.expressions == 0) ≡ false = let z = t.shape in grind (arith, nat_tests) in
    let l = next + quasi_count (Pieces.piece q y ps) in
    let all : TakesOf next (piece_trees (Pieces.piece q y ps)) (new_nodes_of next (piece_trees (Pieces.piece q y ps))) (new_bytes_of next (piece_trees (Pieces.piece q y ps))) = record { nodes_are = refl; bytes_are = refl } in
    let w = takes_new next l Own.template (piece_trees (Pieces.piece q y ps)) _ _ (omega arith) all in
    let new : nat_le next l ≡ true = grind (arith, nat_tests) in
    let n = t.nodes in
    let b = t.bytes in
    let c = t.count in
    let entries : 2 * s.expressions + 1 ≡ cond (nat_le next l) (piece_count (Pieces.piece q y ps)) 0 = rw new (omega (arith, c)) in
    rw some (space_is next x (Expression.template l (Pieces.piece q y ps)) _ _ _ _ _ w (omega (arith, n)) entries (omega (arith, b)))

pub joined_space : (h : Held) (x : Expression) (u : Units) (xs : Arguments) → DenoteAll (look h) (argument_trees xs)
    → needed (with_parts (record { expressions = 0; bytes = 0; text = u }) (argument_parts xs)) ≡ space (length h.nodes) x (template_of (length h.nodes) (pieces_of (length h.nodes) u xs))
joined_space h x u xs d = template_space (length h.nodes) x (pieces_of (length h.nodes) u xs) _ (pieces_take h (length h.nodes) u xs 0 0 (omega arith) d)
