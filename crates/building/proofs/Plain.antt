-- Plans of one or two new nodes, on nodes that there are.
use Rattle.std.proofs.Common.{◌≡◌, ℕ, ◌+◌, [], ◌∷◌, length, true, cond, ◌&&◌, Ok, Err, Result, refl, sym, subst, ap, ap₂, ◌∙◌, arith, length-append}
use Rattle.std.proofs.lemmas.Bool.{and_from, le-leb}
use Rattle.base.specs.declared.fault.Fault.{Fault}
use Rattle.store.specs.declared.stores.Stores.{Stores}
use Rattle.store.specs.Held.{held, room}
use Rattle.store.specs.Stores.{held_of}
use Rattle.tree.specs.declared.node.Node.{Node}
use Rattle.tree.specs.declared.node.Node.TheVariants.{Number, Array, Unary, Binary}
use Rattle.tree.specs.declared.node.UnaryOperator.TheVariants.{Plus, Void}
use Rattle.tree.specs.declared.node.BinaryOperator.TheVariants.{Exponentiation}
use Rattle.tree.specs.declared.run.Run.{Run}
use Rattle.tree.specs.Tree.{Own, Trees, tree, label, labels, Denotes, DenoteAll}
use Rattle.tree.specs.Heap.{Held, look, no_list, list_of, texts_of, entries_at, own, children, within, all_within, inside}
use Rattle.meaning.specs.Expression.{Expression}
use Rattle.meaning.specs.Trees.{tree_of, element_trees}
use Rattle.meaning.specs.Parts.{Part}
use Rattle.rules.specs.Building.{void_zero, elements_of}
use Rattle.rules.specs.Space.{bytes_of, new_nodes, new_bytes, new_entries, elements_from, space}
use Rattle.deciding.specs.declared.plan.Plan.TheVariants.{Existing, VoidZero, Power, ArrayOf}
use Rattle.deciding.specs.declared.plan.Plan.{Plan}
use Rattle.deciding.specs.declared.plan.Exponent.{Exponent}
use Rattle.deciding.specs.declared.plan.Exponent.TheVariants.{Number as NumberExponent, Coerced}
use Rattle.deciding.specs.Standing.{Stands, AllStand}
use Rattle.building.specs.Growing.{GrowsBy, HasRoom, Pushes, Takes, one_node}
use Rattle.building.specs.Builds.{Built, Builds}
use Rattle.building.proofs.Grown.{grows_none, grows_twice, nodes_left, denotes_pushed, denotes_then}
use Rattle.building.proofs.Lists.{elements_denoted, parts_of_arguments}
use Rattle.building.proofs.Spent.{old_nodes, old_bytes, old_entries, one_new, its_bytes_alone, one_more_node, its_bytes, nodes_none, nodes_behind, bytes_none, bytes_behind, built}

-- Where there is room, a node is pushed.
pub pushed : {b c : Stores} {n : Node} (r : Result ℕ Fault) → Pushes b n c r → Takes (length (held b.nodes)) 1 (room b.nodes) → (r ≡ Ok (length (held b.nodes))) × GrowsBy b (one_node n) c
pushed (Ok k) p t = (ap Ok p.0, p.1)
pushed (Err e) p t = absurd (p t)

-- What is built of an expression of this form.
pub of_form : {a c : Stores} {r : Result ℕ Fault} (x : Expression) {y z : Expression} → y ≡ z
    → (HasRoom a (space (length (held a.nodes)) x z) → Built a z (space (length (held a.nodes)) x z) c r)
    → HasRoom a (space (length (held a.nodes)) x y) → Built a y (space (length (held a.nodes)) x y) c r
of_form {a} {c} {r} x e f = subst (λ z. HasRoom a (space (length (held a.nodes)) x z) → Built a z (space (length (held a.nodes)) x z) c r) (sym e) f

-- ---- pushing

-- So many nodes are held then.
pub one_behind : {a b : Stores} {n : Node} → GrowsBy a (one_node n) b → length (held b.nodes) ≡ length (held a.nodes) + 1
one_behind {a} {b} {n} g = ap length g.nodes_grow.0 ∙ length-append (held a.nodes) (n ∷ [])

-- The number of a new node denotes what it is, where it has the number that it is to have.
pub denotes_at : {a b : Stores} {n : Node} {l : ℕ} (o : Own) (ts : Trees) → GrowsBy a (one_node n) b → length (held a.nodes) ≡ l → inside (held_of a).entries (held_of a).text n ≡ true
    → own (held_of a).text n ≡ o → children (held_of a).entries n ≡ labels ts → DenoteAll (look (held_of a)) ts → Denotes (look (held_of b)) (tree l o ts)
denotes_at {b = b} o ts g at i e f d = subst (λ z. Denotes (look (held_of b)) (tree z o ts)) at (denotes_pushed o ts g i e f d)

-- A node with no list and no text has its pieces within any stores.
pub no_pieces : (h : Held) (n : Node) → list_of n ≡ no_list → texts_of n ≡ [] → inside h.entries h.text n ≡ true
no_pieces h n e f = ap₂ (λ r ts. within h.entries r.start r.len && all_within h.text ts) e f ∙ and_from (within h.entries 0 0) true (le-leb 0 (length h.entries) (omega arith)) refl

-- ---- a node that there is

pub existing_built : (a : Stores) (n : ℕ) → Builds a (Existing n) a (Ok n)
existing_built a n limits x y s writes has =
    built x y (grows_none a) (ap Ok (sym s.numbered)) s.denoted (sym (old_nodes (held_of a) (tree_of y) s.denoted)) (sym (old_entries (held_of a) x y s.denoted)) (sym (old_bytes (held_of a) (tree_of y) s.denoted))

-- ---- `void 0`

module _ (next : ℕ) where
  void_zero_nodes : new_nodes next (tree_of (void_zero next)) ≡ 2
  void_zero_nodes =
      omega (
        arith,
        one_more_node next (next + 1) (Own.unary Void) (Trees.more (tree next (Own.number 0) Trees.none) Trees.none) (omega arith),
        nodes_behind next (tree next (Own.number 0) Trees.none) Trees.none,
        one_more_node next next (Own.number 0) Trees.none (omega arith),
        nodes_none next,
      )

  void_zero_bytes : new_bytes next (tree_of (void_zero next)) ≡ 0
  unfolding bytes_of
  void_zero_bytes =
      omega (
        arith,
        its_bytes next (next + 1) (Own.unary Void) (Trees.more (tree next (Own.number 0) Trees.none) Trees.none) (omega arith),
        bytes_behind next (tree next (Own.number 0) Trees.none) Trees.none,
        its_bytes next next (Own.number 0) Trees.none (omega arith),
        bytes_none next,
      )

  void_zero_entries : (x : Expression) → new_entries next x (void_zero next) ≡ 0
  unfolding new_entries
  void_zero_entries x = refl

void_zero_room : (a : Stores) (x : Expression) → HasRoom a (space (length (held a.nodes)) x (void_zero (length (held a.nodes)))) → Takes (length (held a.nodes)) 2 (room a.nodes)
void_zero_room a x h = subst (λ k. Takes (length (held a.nodes)) k (room a.nodes)) (void_zero_nodes (length (held a.nodes))) h.for_nodes

pub void_zero_first : {a : Stores} (c : Stores) (r : Result ℕ Fault) → (Takes (length (held a.nodes)) 1 (room a.nodes) → ⊥) → Builds a VoidZero c r
void_zero_first {a} c r p limits x y plan writes has = of_form x plan (λ h. absurd (p (nodes_left (grows_none a) 1 2 (omega arith) (void_zero_room a x h)))) has

pub void_zero_built : {a b c : Stores} {k : ℕ} {r : Result ℕ Fault} → k ≡ length (held a.nodes) → GrowsBy a (one_node (Number 0)) b → Pushes b (Unary Void k) c r → Builds a VoidZero c r
void_zero_built {a} {b} {c} {k} {r} e g q limits x y plan writes has = of_form x plan go has
  where
    next : ℕ
    next = length (held a.nodes)

    go : HasRoom a (space next x (void_zero next)) → Built a (void_zero next) (space next x (void_zero next)) c r
    go h =
        let l = pushed r q (nodes_left g 1 2 (omega arith) (void_zero_room a x h)) in
        let first : Denotes (look (held_of b)) (tree next (Own.number 0) Trees.none) = denotes_at (Own.number 0) Trees.none g refl (no_pieces (held_of a) (Number 0) refl refl) refl refl tt in
        built x (void_zero next) (grows_twice g l.1) (l.0 ∙ ap Ok (one_behind g))
        (denotes_at (Own.unary Void) (Trees.more (tree next (Own.number 0) Trees.none) Trees.none) l.1 (one_behind g) (no_pieces (held_of b) (Unary Void k) refl refl) refl (ap (λ z. z ∷ []) e) (first, tt))
        (sym (void_zero_nodes next)) (sym (void_zero_entries next x)) (sym (void_zero_bytes next))

-- ---- one new node, with neither list nor text of its own

module _ {a c : Stores} (n : Node) (x z : Expression) (r : Result ℕ Fault) (o : Own) (ts : Trees) where
  pub one_built : tree_of z ≡ tree (length (held a.nodes)) o ts → Pushes a n c r → DenoteAll (look (held_of a)) ts
      → inside (held_of a).entries (held_of a).text n ≡ true → own (held_of a).text n ≡ o → children (held_of a).entries n ≡ labels ts
      → bytes_of o ≡ 0 → new_entries (length (held a.nodes)) x z ≡ 0
      → HasRoom a (space (length (held a.nodes)) x z) → Built a z (space (length (held a.nodes)) x z) c r
  one_built e p d i f k b w has =
      let nodes : new_nodes (length (held a.nodes)) (tree_of z) ≡ 1 = ap (new_nodes (length (held a.nodes))) e ∙ one_new (held_of a) o ts d in
      let bytes : new_bytes (length (held a.nodes)) (tree_of z) ≡ 0 = ap (new_bytes (length (held a.nodes))) e ∙ its_bytes_alone (held_of a) o ts d ∙ b in
      let l = pushed r p (subst (λ k. Takes (length (held a.nodes)) k (room a.nodes)) nodes has.for_nodes) in
      built x z l.1 (l.0 ∙ ap Ok (ap label (sym e))) (subst (Denotes (look (held_of c))) (sym e) (denotes_at o ts l.1 refl i f k d)) (sym nodes) (sym w) (sym bytes)

-- ---- `base ** exponent`

module _ (base exponent : ℕ) where
  pub power_of_number : (a c : Stores) (r : Result ℕ Fault) → Pushes a (Binary Exponentiation base exponent) c r → Builds a (Power base (NumberExponent exponent)) c r
  unfolding new_entries bytes_of
  power_of_number a c r p limits x y plan writes has =
      let e = plan.0 in
      let f = plan.1 in
      let se = plan.3 in
      let sf = plan.4 in
      of_form x plan.2
      (one_built (Binary Exponentiation base exponent) x (Expression.binary (length (held a.nodes)) Exponentiation e f) r (Own.binary Exponentiation) (Trees.more (tree_of e) (Trees.more (tree_of f) Trees.none))
      refl p (se.denoted, (sf.denoted, tt)) (no_pieces (held_of a) (Binary Exponentiation base exponent) refl refl) refl
      (ap₂ (λ i j. i ∷ j ∷ []) (sym se.numbered) (sym sf.numbered)) refl refl)
      has

-- ---- `base ** +exponent`

module _ (a : Stores) (x e f : Expression) (base exponent : ℕ) (se : Stands (held_of a) base (Part.expression e)) (sf : Stands (held_of a) exponent (Part.expression f)) where
  abbrev next_of : ℕ
  next_of = length (held a.nodes)

  abbrev plus : Expression
  plus = Expression.unary next_of Plus f

  abbrev coerced : Expression
  coerced = Expression.binary (next_of + 1) Exponentiation e plus

  coerced_nodes : new_nodes next_of (tree_of coerced) ≡ 2
  coerced_nodes =
      omega (
        arith,
        one_more_node next_of (next_of + 1) (Own.binary Exponentiation) (Trees.more (tree_of e) (Trees.more (tree_of plus) Trees.none)) (omega arith),
        nodes_behind next_of (tree_of e) (Trees.more (tree_of plus) Trees.none),
        nodes_behind next_of (tree_of plus) Trees.none,
        nodes_none next_of,
        old_nodes (held_of a) (tree_of e) se.denoted,
        one_new (held_of a) (Own.unary Plus) (Trees.more (tree_of f) Trees.none) (sf.denoted, tt),
      )

  coerced_bytes : new_bytes next_of (tree_of coerced) ≡ 0
  unfolding bytes_of
  coerced_bytes =
      omega (
        arith,
        its_bytes next_of (next_of + 1) (Own.binary Exponentiation) (Trees.more (tree_of e) (Trees.more (tree_of plus) Trees.none)) (omega arith),
        bytes_behind next_of (tree_of e) (Trees.more (tree_of plus) Trees.none),
        bytes_behind next_of (tree_of plus) Trees.none,
        bytes_none next_of,
        old_bytes (held_of a) (tree_of e) se.denoted,
        its_bytes_alone (held_of a) (Own.unary Plus) (Trees.more (tree_of f) Trees.none) (sf.denoted, tt),
      )

  coerced_room : HasRoom a (space next_of x coerced) → Takes next_of 2 (room a.nodes)
  coerced_room h = subst (λ k. Takes next_of k (room a.nodes)) coerced_nodes h.for_nodes

  plus_built : {b c : Stores} {k : ℕ} {r : Result ℕ Fault} → k ≡ next_of → GrowsBy a (one_node (Unary Plus exponent)) b → Pushes b (Binary Exponentiation base k) c r
      → HasRoom a (space next_of x coerced) → Built a coerced (space next_of x coerced) c r
  unfolding new_entries
  plus_built {b} {c} {k} {r} i g q h =
      let l = pushed r q (nodes_left g 1 2 (omega arith) (coerced_room h)) in
      let first : Denotes (look (held_of b)) (tree_of plus) =
      denotes_at (Own.unary Plus) (Trees.more (tree_of f) Trees.none) g refl (no_pieces (held_of a) (Unary Plus exponent) refl refl) refl (ap (λ j. j ∷ []) (sym sf.numbered)) (sf.denoted, tt) in
      built x coerced (grows_twice g l.1) (l.0 ∙ ap Ok (one_behind g))
      (denotes_at (Own.binary Exponentiation) (Trees.more (tree_of e) (Trees.more (tree_of plus) Trees.none)) l.1 (one_behind g) (no_pieces (held_of b) (Binary Exponentiation base k) refl refl) refl
      (ap₂ (λ i j. i ∷ j ∷ []) (sym se.numbered) i) (denotes_then g (tree_of e) se.denoted, (first, tt)))
      (sym coerced_nodes) refl (sym coerced_bytes)

module _ (base : ℕ) where
  number_of : {a : Stores} {exponent k : ℕ} (c : Stores) (r : Result ℕ Fault) → k ≡ exponent → Pushes a (Binary Exponentiation base k) c r → Builds a (Power base (NumberExponent exponent)) c r
  number_of {a} {exponent} c r e p = power_of_number base exponent a c r (subst (λ z. Pushes a (Binary Exponentiation base z) c r) e p)

  pub number_built : {a b : Stores} {right exponent : ℕ} {e : Exponent} (c : Stores) (r : Result ℕ Fault) → e ≡ NumberExponent exponent → b ≡ a → right ≡ exponent
      → Pushes b (Binary Exponentiation base right) c r → Builds a (Power base e) c r
  number_built {a} {b} {right} {exponent} {e} c r i j k p =
      subst (λ z. Builds a (Power base z) c r) (sym i) (number_of c r k (subst (λ z. Pushes z (Binary Exponentiation base right) c r) j p))

  coerced_none : {a : Stores} (exponent : ℕ) (c : Stores) (r : Result ℕ Fault) → (Takes (length (held a.nodes)) 1 (room a.nodes) → ⊥) → Builds a (Power base (Coerced exponent)) c r
  coerced_none {a} exponent c r p limits x y plan writes has =
      of_form x plan.2 (λ h. absurd (p (nodes_left (grows_none a) 1 2 (omega arith) (coerced_room a x plan.0 plan.1 base exponent plan.3 plan.4 h)))) has

  pub coerced_first : {a : Stores} {exponent : ℕ} {e : Exponent} (c : Stores) (r : Result ℕ Fault) → e ≡ Coerced exponent → (Takes (length (held a.nodes)) 1 (room a.nodes) → ⊥)
      → Builds a (Power base e) c r
  coerced_first {a} {exponent} c r i p = subst (λ z. Builds a (Power base z) c r) (sym i) (coerced_none exponent c r p)

  coerced_of : {a b : Stores} {k exponent : ℕ} (c : Stores) (r : Result ℕ Fault) → k ≡ length (held a.nodes) → GrowsBy a (one_node (Unary Plus exponent)) b
      → Pushes b (Binary Exponentiation base k) c r → Builds a (Power base (Coerced exponent)) c r
  coerced_of {a} {exponent = exponent} c r i g q limits x y plan writes has = of_form x plan.2 (plus_built a x plan.0 plan.1 base exponent plan.3 plan.4 i g q) has

  pub coerced_built : {a b d : Stores} {right k exponent : ℕ} {e : Exponent} (c : Stores) (r : Result ℕ Fault) → e ≡ Coerced exponent → d ≡ b → right ≡ k
      → k ≡ length (held a.nodes) → GrowsBy a (one_node (Unary Plus exponent)) b → Pushes d (Binary Exponentiation base right) c r → Builds a (Power base e) c r
  coerced_built {a} {b} {d} {right} {k} {exponent} {e} c r i j l m g q =
      subst (λ z. Builds a (Power base z) c r) (sym i) (coerced_of c r (l ∙ m) g (subst (λ z. Pushes z (Binary Exponentiation base right) c r) j q))

-- ---- an array of arguments

pub array_of_built : (a c : Stores) (arguments : Run ℕ) (r : Result ℕ Fault) → Pushes a (Array arguments) c r → Builds a (ArrayOf arguments) c r
unfolding new_entries bytes_of
array_of_built a c arguments r p limits x y plan writes has =
    let xs = plan.0 in
    let next = length (held a.nodes) in
    let lists = plan.2 in
    let all = elements_denoted (held_of a) (entries_at (held a.entries) arguments) (elements_of xs) (subst (AllStand (held_of a) (entries_at (held a.entries) arguments)) (sym (parts_of_arguments xs)) lists.1) in
    of_form x plan.1
    (one_built (Array arguments) x (Expression.array next (elements_of xs)) r Own.array (element_trees (elements_of xs)) refl p all.1
    (and_from (within (held a.entries) arguments.start arguments.len) true lists.0 refl) refl all.0 refl
    (ap (λ b. cond b (elements_from x (elements_of xs)) 0) (le-leb next next (omega arith)) ∙ writes (elements_of xs)))
    has

-- ---- any plan

pub for_plan : {a : Stores} (c : Stores) (r : Result ℕ Fault) {p q : Plan} → p ≡ q → Builds a q c r → Builds a p c r
for_plan {a} c r e f = subst (λ z. Builds a z c r) (sym e) f
