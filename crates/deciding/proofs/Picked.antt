-- What stands at an index of a literal.
use Rattle.std.proofs.Common.{◌≡◌, ℕ, zero, suc, ◌<◌, ◌≤◌, Bool, true, false, cond, ◌||◌, List, [], ◌∷◌, length, take, Some, None, Option, slice_index_or, nat_lt, ◌⊎◌, ⊎_elim, refl, sym, subst, ap, ◌∙◌, arith}
use Rattle.std.specs.List.{slice_get, list_any}
use Rattle.std.specs.Option.{option_map_or}
use Rattle.std.proofs.lemmas.Bool.Decides.{nat_tests}
use Rattle.text.specs.Stored.{Stores}
use Rattle.text.proofs.Pairing.{stored_once}
use Rattle.tree.specs.declared.node.Node.{Node}
use Rattle.tree.specs.declared.node.Node.TheVariants.{String, Number, Boolean, Null, Name, Hole, Spread, Array, StaticMember, ComputedMember, Call, Template, Quasi, Unary, Binary, Opaque}
use Rattle.tree.specs.declared.role.Sort.{Sort}
use Rattle.tree.specs.declared.role.Sort.TheVariants.{IsExpression, IsHole, IsSpread, IsQuasi}
use Rattle.tree.specs.Tree.{Own, Tree, tree, label, own_of, below, labels, Denotes}
use Rattle.tree.specs.declared.run.Run.{Run}
use Rattle.tree.specs.Heap.{Held, look, own, children, inside, read, text_at, entries_at}
use Rattle.tree.specs.Lawful.{sort_of}
use Rattle.tree.specs.Roles.{sort_of_node}
use Rattle.meaning.specs.Expression.{Expression, Elements, Units, Quasi as QuasiNode}
use Rattle.meaning.specs.Trees.{tree_of}
use Rattle.meaning.specs.Parts.{Part, part_tree}
use Rattle.rules.specs.Building.{void_zero}
use Rattle.rules.specs.Property.{unit_or_void, element_at}
use Rattle.deciding.specs.declared.plan.Plan.{Plan}
use Rattle.deciding.specs.declared.plan.Plan.TheVariants.{Existing, VoidZero}
use Rattle.deciding.specs.Arguments.{is_spread, stored_at}
use Rattle.deciding.specs.Meant.{Meant}
use Rattle.deciding.specs.Standing.{Stands, AllStand, element_parts}
use Rattle.deciding.proofs.Meaning.{meant}
use Rattle.deciding.specs.Picking.{PlanIf, UnitAt, ElementAt, read_at}

-- ---- a unit

unit_of : (next : ℕ) (u : Units) (k : ℕ) (o : Option ℕ) → o ≡ slice_get u k → (v : ℕ) → o ≡ Some v → unit_or_void next u k ≡ Expression.string next (v ∷ [])
unfolding unit_or_void
unit_of next [] k o e v f = let z : None ≡ Some v = sym e ∙ f in let y : ◌≡◌ {A = ℕ} 0 1 = cc in absurd (omega arith)
unit_of next (x ∷ u) zero o e v f = let z : x ≡ v = cc in ap (λ y. Expression.string next (y ∷ [])) z
unit_of next (x ∷ u) (suc k) o e v f = unit_of next u k o e v f

no_unit : (next : ℕ) (u : Units) (k : ℕ) (o : Option ℕ) → o ≡ slice_get u k → o ≡ None → unit_or_void next u k ≡ void_zero next
unfolding unit_or_void
no_unit next [] k o e f = refl
no_unit next (x ∷ u) zero o e f = let z : Some x ≡ None = sym e ∙ f in let y : ◌≡◌ {A = ℕ} 0 1 = cc in absurd (omega arith)
no_unit next (x ∷ u) (suc k) o e f = no_unit next u k o e f

pub unit_here : (text us u : List ℕ) (k v : ℕ) (o : Option ℕ) → Stores text us → o ≡ slice_get us k → o ≡ Some v → Stores text u → (next : ℕ) → unit_or_void next u k ≡ Expression.string next (v ∷ [])
unit_here text us u k v o s e f t next = unit_of next u k o (e ∙ ap (λ z. slice_get z k) (stored_once text us u s t)) v f

pub unit_past : (text us u : List ℕ) (k : ℕ) (o : Option ℕ) → Stores text us → o ≡ slice_get us k → o ≡ None → Stores text u → (next : ℕ) → unit_or_void next u k ≡ void_zero next
unit_past text us u k o s e f t next = no_unit next u k o (e ∙ ap (λ z. slice_get z k) (stored_once text us u s t)) f

abbrev is_spread_sort : Sort → Bool
is_spread_sort IsSpread = true
is_spread_sort s = false

-- ---- the record of a part

abbrev Recorded : Held → ℕ → Own → List ℕ → Type 0
Recorded h n o cs = (r : Node) × (slice_get h.nodes n ≡ Some r) × (own h.text r ≡ o) × (children h.entries r ≡ cs)

recorded_by : (h : Held) (n : ℕ) (o : Own) (cs : List ℕ) (found : Option Node) → slice_get h.nodes n ≡ found → read h.entries h.text found ≡ Some (o, cs)
    → Recorded h n o cs
recorded_by h n o cs None e f = let y : ◌≡◌ {A = ℕ} 0 1 = cc in absurd (omega arith)
recorded_by h n o cs (Some r) e f = by (inside h.entries h.text r) f
  where
    by : (b : Bool) → cond {A = Option (Own × List ℕ)} b (Some (own h.text r, children h.entries r)) None ≡ Some (o, cs) → Recorded h n o cs
    by true g = let i : ◌≡◌ {A = Own × List ℕ} (own h.text r, children h.entries r) (o, cs) = cc in (r, e, ap (λ z. z.0) i, ap (λ z. z.1) i)
    by false g = let y : ◌≡◌ {A = ℕ} 0 1 = cc in absurd (omega arith)

look_of : (h : Held) (t : Tree) → Denotes (look h) t → look h (label t) ≡ Some (own_of t, labels (below t))
look_of h (tree l o ts) d = d.0

pub record_of : (h : Held) (n : ℕ) (p : Part) → Stands h n p → Recorded h n (own_of (part_tree p)) (labels (below (part_tree p)))
record_of h n p s =
    recorded_by h n (own_of (part_tree p)) (labels (below (part_tree p))) (slice_get h.nodes n) refl
    (subst (λ z. look h z ≡ Some (own_of (part_tree p), labels (below (part_tree p)))) s.numbered (look_of h (part_tree p) s.denoted))

-- ---- sorts

pub any_text : (r : Node) (bytes : List ℕ) → sort_of (own bytes r) ≡ sort_of_node r
any_text (String t) bytes = refl
any_text (Number n) bytes = refl
any_text (Boolean b) bytes = refl
any_text Null bytes = refl
any_text (Name t) bytes = refl
any_text Hole bytes = refl
any_text (Spread x) bytes = refl
any_text (Array es) bytes = refl
any_text (StaticMember x p) bytes = refl
any_text (ComputedMember x k) bytes = refl
any_text (Call f es) bytes = refl
any_text (Template es) bytes = refl
any_text (Quasi r c) bytes = refl
any_text (Unary o x) bytes = refl
any_text (Binary o x y) bytes = refl
any_text (Opaque es m f) bytes = refl

spread_own : (r : Node) (bytes : List ℕ) → is_spread r ≡ is_spread_sort (sort_of (own bytes r))
spread_own r bytes = by r ∙ ap is_spread_sort (sym (any_text r bytes))
  where
    by : (r : Node) → is_spread r ≡ is_spread_sort (sort_of_node r)
    by (Spread x) = refl
    by r = refl

-- A part is a spread where its record is one.
spread_stands : (h : Held) (n : ℕ) (p : Part) → Stands h n p → stored_at is_spread h n ≡ is_spread_sort (sort_of (own_of (part_tree p)))
spread_stands h n p s =
    let r = record_of h n p s in
    ap (λ z. option_map_or is_spread z false) r.1 ∙ spread_own r.0 h.text ∙ ap (λ z. is_spread_sort (sort_of z)) r.2

sort_expression : (x : Expression) → sort_of (own_of (tree_of x)) ≡ IsExpression
sort_expression (Expression.string l u) = refl
sort_expression (Expression.number l n) = refl
sort_expression (Expression.boolean l b) = refl
sort_expression (Expression.null l) = refl
sort_expression (Expression.name l u) = refl
sort_expression (Expression.array l xs) = refl
sort_expression (Expression.static_member l x p) = refl
sort_expression (Expression.computed_member l x k) = refl
sort_expression (Expression.call l f xs) = refl
sort_expression (Expression.template l ps) = refl
sort_expression (Expression.unary l o x) = refl
sort_expression (Expression.binary l o x y) = refl
sort_expression (Expression.opaque l f m xs) = refl

not_spread : (h : Held) (n : ℕ) (x : Expression) → Stands h n (Part.expression x) → stored_at is_spread h n ≡ false
not_spread h n x s = spread_stands h n (Part.expression x) s ∙ ap is_spread_sort (sort_expression x)

hole_no_spread : (h : Held) (n l : ℕ) → Stands h n (Part.hole l) → stored_at is_spread h n ≡ false
hole_no_spread h n l s = spread_stands h n (Part.hole l) s

true_false : {A : Type 0} → true ≡ false → A
true_false e = let z : ◌≡◌ {A = ℕ} 0 1 = cc in absurd (omega arith)

-- ---- elements

module _ (h : Held) (next : ℕ) where
  past_by : (xs : Elements) (ns : List ℕ) (k : ℕ) → AllStand h ns (element_parts xs) → length ns ≤ k → element_at next xs k ≡ None
  unfolding element_parts element_at
  past_by Elements.no_elements ns k a l = refl
  past_by (Elements.spread m x xs) ns k a l = refl
  past_by (Elements.item x xs) [] k a l = absurd a
  past_by (Elements.item x xs) (n ∷ ns) zero a l = absurd (omega arith)
  past_by (Elements.item x xs) (n ∷ ns) (suc k) a l = past_by xs ns k a.1 (omega arith)
  past_by (Elements.hole m xs) [] k a l = absurd a
  past_by (Elements.hole m xs) (n ∷ ns) zero a l = absurd (omega arith)
  past_by (Elements.hole m xs) (n ∷ ns) (suc k) a l = past_by xs ns k a.1 (omega arith)

  past_elements : (xs : Elements) (ns : List ℕ) (k : ℕ) → AllStand h ns (element_parts xs) → false ≡ nat_lt k (length ns) → element_at next xs k ≡ None
  past_elements xs ns k a e = past_by xs ns k a (not_less k (length ns) e)
    where
      not_less : (k m : ℕ) → false ≡ nat_lt k m → m ≤ k
      not_less k m e = grind (arith, nat_tests)

  behind_spread : (xs : Elements) (ns : List ℕ) (k : ℕ) → AllStand h ns (element_parts xs) → true ≡ list_any (stored_at is_spread h) (take k ns) → element_at next xs k ≡ None
  unfolding element_parts element_at
  behind_spread Elements.no_elements ns k a e = refl
  behind_spread (Elements.spread m x xs) ns k a e = refl
  behind_spread (Elements.item x xs) [] k a e = absurd a
  behind_spread (Elements.item x xs) (n ∷ ns) zero a e = true_false e
  behind_spread (Elements.item x xs) (n ∷ ns) (suc k) a e = behind_spread xs ns k a.1 (e ∙ ap (λ b. b || list_any (stored_at is_spread h) (take k ns)) (not_spread h n x a.0))
  behind_spread (Elements.hole m xs) [] k a e = absurd a
  behind_spread (Elements.hole m xs) (n ∷ ns) zero a e = true_false e
  behind_spread (Elements.hole m xs) (n ∷ ns) (suc k) a e = behind_spread xs ns k a.1 (e ∙ ap (λ b. b || list_any (stored_at is_spread h) (take k ns)) (hole_no_spread h n m a.0))

  no_plan : (o : Option Expression) → o ≡ None → PlanIf h next o None
  no_plan o e = subst (λ z. PlanIf h next z None) (sym e) tt

  pub past_planned : (xs : Elements) (ns : List ℕ) (k : ℕ) → AllStand h ns (element_parts xs) → false ≡ nat_lt k (length ns) → PlanIf h next (element_at next xs k) None
  past_planned xs ns k a e = no_plan (element_at next xs k) (past_elements xs ns k a e)

  pub behind_planned : (xs : Elements) (ns : List ℕ) (k : ℕ) → AllStand h ns (element_parts xs) → true ≡ list_any (stored_at is_spread h) (take k ns) → PlanIf h next (element_at next xs k) None
  behind_planned xs ns k a e = no_plan (element_at next xs k) (behind_spread xs ns k a e)

  -- What is there, by its sort.
  abbrev pub planned : ℕ → Sort → Option Plan
  planned n IsExpression = Some (Existing n)
  planned n IsHole = Some VoidZero
  planned n IsSpread = None
  planned n IsQuasi = None

  element_there : (xs : Elements) (ns : List ℕ) (k d : ℕ) → AllStand h ns (element_parts xs) → false ≡ list_any (stored_at is_spread h) (take k ns) → k < length ns
      → (p : Part) × Stands h (slice_index_or ns k d) p × PlanIf h next (element_at next xs k) (planned (slice_index_or ns k d) (sort_of (own_of (part_tree p))))
  unfolding element_parts element_at
  element_there Elements.no_elements [] k d a e l = absurd (omega arith)
  element_there Elements.no_elements (n ∷ ns) k d a e l = absurd a
  element_there (Elements.spread m x xs) [] k d a e l = absurd a
  element_there (Elements.spread m x xs) (n ∷ ns) zero d a e l = (Part.spread m x, a.0, tt)
  element_there (Elements.spread m x xs) (n ∷ ns) (suc k) d a e l = true_false (sym (e ∙ ap (λ b. b || list_any (stored_at is_spread h) (take k ns)) (spread_stands h n (Part.spread m x) a.0)))
  element_there (Elements.item x xs) [] k d a e l = absurd a
  element_there (Elements.item x xs) (n ∷ ns) zero d a e l = (Part.expression x, a.0, subst (λ z. PlanIf h next (Some x) (planned n z)) (sym (sort_expression x)) a.0)
  element_there (Elements.item x xs) (n ∷ ns) (suc k) d a e l = element_there xs ns k d a.1 (e ∙ ap (λ b. b || list_any (stored_at is_spread h) (take k ns)) (not_spread h n x a.0)) (omega arith)
  element_there (Elements.hole m xs) [] k d a e l = absurd a
  element_there (Elements.hole m xs) (n ∷ ns) zero d a e l = (Part.hole m, a.0, refl)
  element_there (Elements.hole m xs) (n ∷ ns) (suc k) d a e l = element_there xs ns k d a.1 (e ∙ ap (λ b. b || list_any (stored_at is_spread h) (take k ns)) (hole_no_spread h n m a.0)) (omega arith)

  -- The record there has that sort.
  pub element_planned : (xs : Elements) (ns : List ℕ) (k n d : ℕ) (r : Node) (s : Sort) → AllStand h ns (element_parts xs) → false ≡ list_any (stored_at is_spread h) (take k ns)
      → true ≡ nat_lt k (length ns) → n ≡ slice_index_or ns k d → Some r ≡ slice_get h.nodes n → s ≡ sort_of_node r → PlanIf h next (element_at next xs k) (planned n s)
  element_planned xs ns k n d r s a e l f g i =
      let t = element_there xs ns k d a e (is_less k (length ns) l) in
      let q = record_of h (slice_index_or ns k d) t.0 t.1 in
      let same : r ≡ q.0 = some_same (g ∙ ap (slice_get h.nodes) f ∙ q.1) in
      let sorted : s ≡ sort_of (own_of (part_tree t.0)) = i ∙ ap sort_of_node same ∙ sym (any_text q.0 h.text) ∙ ap sort_of q.2 in
      subst (λ z. PlanIf h next (element_at next xs k) (planned n z)) (sym sorted)
      (subst (λ z. PlanIf h next (element_at next xs k) (planned z (sort_of (own_of (part_tree t.0))))) (sym f) t.2)
    where
      is_less : (k m : ℕ) → true ≡ nat_lt k m → k < m
      is_less k m e = grind (arith, nat_tests)

      some_same : {a b : Node} → Some a ≡ Some b → a ≡ b
      some_same e = cc

  pub none_planned : (xs : Elements) (ns : List ℕ) (k n d : ℕ) (r : Node) (s : Sort) → AllStand h ns (element_parts xs) → false ≡ list_any (stored_at is_spread h) (take k ns)
      → true ≡ nat_lt k (length ns) → n ≡ slice_index_or ns k d → Some r ≡ slice_get h.nodes n → s ≡ sort_of_node r → (s ≡ IsSpread) ⊎ (s ≡ IsQuasi)
      → PlanIf h next (element_at next xs k) None
  none_planned xs ns k n d r s a e l f g i h2 =
      let there = element_planned xs ns k n d r s a e l f g i in
      ⊎_elim (λ q. subst (λ z. PlanIf h next (element_at next xs k) (planned n z)) q there) (λ q. subst (λ z. PlanIf h next (element_at next xs k) (planned n z)) q there) h2

  pub node_there : {A : Type 0} (xs : Elements) (ns : List ℕ) (k n d : ℕ) → AllStand h ns (element_parts xs) → false ≡ list_any (stored_at is_spread h) (take k ns) → true ≡ nat_lt k (length ns)
      → n ≡ slice_index_or ns k d → None ≡ slice_get h.nodes n → A
  node_there xs ns k n d a e l f g =
      let t = element_there xs ns k d a e (is_less k (length ns) l) in
      let q = record_of h (slice_index_or ns k d) t.0 t.1 in
      none_some (g ∙ ap (slice_get h.nodes) f ∙ q.1)
    where
      is_less : (k m : ℕ) → true ≡ nat_lt k m → k < m
      is_less k m e = grind (arith, nat_tests)

      none_some : {X : Type 0} {b : Node} → None ≡ Some b → X
      none_some e = let z : ◌≡◌ {A = ℕ} 0 1 = cc in absurd (omega arith)

-- ---- a literal

-- A record that is stored says what its number stands for.
pub means : (h : Held) (n : ℕ) (r : Node) (p : Part) → Some r ≡ slice_get h.nodes n → Stands h n p → Meant h r p
means h n r p e s =
    let q = record_of h n p s in
    let same : q.0 ≡ r = some_same (sym q.1 ∙ sym e) in
    meant h n r p s (sym (ap (own h.text) (sym same) ∙ q.2)) (sym (ap (children h.entries) (sym same) ∙ q.3))
  where
    some_same : {a b : Node} → Some a ≡ Some b → a ≡ b
    some_same e = cc

pub same_expression : {x y : Expression} → Part.expression x ≡ Part.expression y → y ≡ x
same_expression e = cc

pub not_hole : {A : Type 0} {x : Expression} {l : ℕ} → Part.expression x ≡ Part.hole l → A
not_hole e = let z : ◌≡◌ {A = ℕ} 0 1 = cc in absurd (omega arith)

pub not_a_spread : {A : Type 0} {x y : Expression} {l : ℕ} → Part.expression x ≡ Part.spread l y → A
not_a_spread e = let z : ◌≡◌ {A = ℕ} 0 1 = cc in absurd (omega arith)

pub not_quasi : {A : Type 0} {x : Expression} {q : QuasiNode} → Part.expression x ≡ Part.quasi q → A
not_quasi e = let z : ◌≡◌ {A = ℕ} 0 1 = cc in absurd (omega arith)

module _ (h : Held) (next n k : ℕ) where
  pub read_string : (t : Run ℕ) (x : Expression) (plan : Option Plan) (text : List ℕ) → Some (String t) ≡ slice_get h.nodes n → text ≡ text_at h.text t → UnitAt text k plan
      → Stands h n (Part.expression x) → PlanIf h next (read_at next x k) plan
  unfolding read_at
  read_string t x plan text e f u s =
      let m = means h n (String t) (Part.expression x) e s in
      subst (λ z. PlanIf h next (read_at next z k) plan) (same_expression m.2) (u h next m.1 (subst (λ z. Stores z m.1) (sym f) m.3))

  pub read_array : (es : Run ℕ) (x : Expression) (plan : Option Plan) (ns : List ℕ) → Some (Array es) ≡ slice_get h.nodes n → ns ≡ entries_at h.entries es → ElementAt h ns k plan
      → Stands h n (Part.expression x) → PlanIf h next (read_at next x k) plan
  unfolding read_at
  read_array es x plan ns e f u s =
      let m = means h n (Array es) (Part.expression x) e s in
      subst (λ z. PlanIf h next (read_at next z k) plan) (same_expression m.2) (u next m.1 (subst (λ z. AllStand h z (element_parts m.1)) (sym f) m.3))

  -- Of no other kind is anything read.
  kept : {x y : Expression} → Part.expression x ≡ Part.expression y → read_at next y k ≡ None → PlanIf h next (read_at next x k) None
  kept {x} {y} e f = subst (λ z. PlanIf h next z None) (sym (ap (λ z. read_at next z k) (sym (same_expression e)) ∙ f)) tt

  other_by : (r : Node) (x : Expression) → ((t : Run ℕ) → r ≡ String t → ⊥) → ((es : Run ℕ) → r ≡ Array es → ⊥) → Meant h r (Part.expression x) → PlanIf h next (read_at next x k) None
  unfolding read_at
  other_by (String t) x a b m = absurd (a t refl)
  other_by (Number i) x a b m = kept m.1 refl
  other_by (Boolean i) x a b m = kept m.1 refl
  other_by Null x a b m = kept m.1 refl
  other_by (Name t) x a b m = kept m.2 refl
  other_by Hole x a b m = not_hole m.1
  other_by (Spread i) x a b m = not_a_spread m.2
  other_by (Array es) x a b m = absurd (b es refl)
  other_by (StaticMember o t) x a b m = kept m.3 refl
  other_by (ComputedMember o i) x a b m = kept m.3 refl
  other_by (Call f es) x a b m = kept m.3 refl
  other_by (Template es) x a b m = kept m.2 refl
  other_by (Quasi i j) x a b m = not_quasi m.1
  other_by (Unary o i) x a b m = kept m.2 refl
  other_by (Binary o i j) x a b m = kept m.3 refl
  other_by (Opaque es i f) x a b m = kept m.2 refl

  pub read_other : (r : Node) (x : Expression) → Some r ≡ slice_get h.nodes n → ((t : Run ℕ) → r ≡ String t → ⊥) → ((es : Run ℕ) → r ≡ Array es → ⊥) → Stands h n (Part.expression x)
      → PlanIf h next (read_at next x k) None
  read_other r x e a b s = other_by r x a b (means h n r (Part.expression x) e s)

  pub none_stored : (x : Expression) (plan : Option Plan) → None ≡ slice_get h.nodes n → Stands h n (Part.expression x) → PlanIf h next (read_at next x k) plan
  none_stored x plan e s = none_some (e ∙ (record_of h n (Part.expression x) s).1)
    where
      none_some : {X : Type 0} {b : Node} → None ≡ Some b → X
      none_some e = let z : ◌≡◌ {A = ℕ} 0 1 = cc in absurd (omega arith)
