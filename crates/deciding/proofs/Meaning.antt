-- A record says what its number stands for.
use Rattle.std.proofs.Common.{◌≡◌, ℕ, suc, List, [], ◌∷◌, refl, subst}
use Rattle.text.specs.Stored.{Stores}
use Rattle.tree.specs.declared.node.Node.{Node}
use Rattle.tree.specs.declared.node.Node.TheVariants.{String, Number, Boolean, Null, Name, Hole, Spread, Array, StaticMember, ComputedMember, Call, Template, Quasi, Unary, Binary, Opaque}
use Rattle.tree.specs.Tree.{Own, label, labels, own_of, below, Denotes, DenoteAll}
use Rattle.tree.specs.Heap.{Held, look, own, children}
use Rattle.tree.specs.Lawful.{LawfulTree, LawfulBelow}
use Rattle.meaning.specs.Expression.{Expression, Elements, Arguments, Pieces, Children, Units, Quasi as QuasiNode}
use Rattle.meaning.specs.Trees.{tree_of, element_trees, argument_trees}
use Rattle.meaning.specs.Parts.{Part, part_tree}
use Rattle.meaning.specs.Payoffs.{SpelledElements, SpelledArguments}
use Rattle.deciding.specs.Standing.{SpelledPart, Stands, AllStand, element_parts, argument_parts}
use Rattle.deciding.specs.Meant.{Meant}

-- The part of an own part and the children's numbers.
abbrev FromOwn : Held → Own → List ℕ → Part → Type 0
FromOwn h (Own.string t) cs p = (l : ℕ) × (u : Units) × (p ≡ Part.expression (Expression.string l u)) × Stores t u
FromOwn h (Own.number n) cs p = (l : ℕ) × (p ≡ Part.expression (Expression.number l n))
FromOwn h (Own.boolean b) cs p = (l : ℕ) × (p ≡ Part.expression (Expression.boolean l b))
FromOwn h Own.null cs p = (l : ℕ) × (p ≡ Part.expression (Expression.null l))
FromOwn h (Own.name t) cs p = (l : ℕ) × (u : Units) × (p ≡ Part.expression (Expression.name l u)) × Stores t u
FromOwn h Own.hole cs p = (l : ℕ) × (p ≡ Part.hole l)
FromOwn h Own.spread cs p = (l : ℕ) × (x : Expression) × (n : ℕ) × (p ≡ Part.spread l x) × (cs ≡ n ∷ []) × Stands h n (Part.expression x)
FromOwn h Own.array cs p = (l : ℕ) × (xs : Elements) × (p ≡ Part.expression (Expression.array l xs)) × AllStand h cs (element_parts xs)
FromOwn h (Own.static_member t) cs p =
    (l : ℕ) × (x : Expression) × (u : Units) × (n : ℕ) × (p ≡ Part.expression (Expression.static_member l x u)) × (cs ≡ n ∷ []) × Stands h n (Part.expression x) × Stores t u
FromOwn h Own.computed_member cs p =
    (l : ℕ) × (x : Expression) × (y : Expression) × (n : ℕ) × (m : ℕ) × (p ≡ Part.expression (Expression.computed_member l x y)) × (cs ≡ n ∷ m ∷ []) × Stands h n (Part.expression x) × Stands h m (Part.expression y)
FromOwn h Own.call cs p =
    (l : ℕ) × (g : Expression) × (xs : Arguments) × (n : ℕ) × (ns : List ℕ) × (p ≡ Part.expression (Expression.call l g xs)) × (cs ≡ n ∷ ns) × Stands h n (Part.expression g) × AllStand h ns (argument_parts xs)
FromOwn h Own.template cs p = (l : ℕ) × (ps : Pieces) × (p ≡ Part.expression (Expression.template l ps))
FromOwn h (Own.quasi r c) cs p = (q : QuasiNode) × (p ≡ Part.quasi q)
FromOwn h (Own.unary o) cs p = (l : ℕ) × (x : Expression) × (n : ℕ) × (p ≡ Part.expression (Expression.unary l o x)) × (cs ≡ n ∷ []) × Stands h n (Part.expression x)
FromOwn h (Own.binary o) cs p =
    (l : ℕ) × (x : Expression) × (y : Expression) × (n : ℕ) × (m : ℕ) × (p ≡ Part.expression (Expression.binary l o x y)) × (cs ≡ n ∷ m ∷ []) × Stands h n (Part.expression x) × Stands h m (Part.expression y)
FromOwn h (Own.opaque m f) cs p = (l : ℕ) × (xs : Children) × (p ≡ Part.expression (Expression.opaque l f m xs))

-- What is denoted, lawful and spelled stands at its number.
standing : (h : Held) (p : Part) → Denotes (look h) (part_tree p) → LawfulTree (part_tree p) → SpelledPart p → Stands h (label (part_tree p)) p
standing h p d l s = record { numbered = refl; denoted = d; lawful = l; spelled = s }

elements_stand : (h : Held) (k : ℕ) (xs : Elements) → DenoteAll (look h) (element_trees xs) → LawfulBelow Own.array k (element_trees xs) → SpelledElements xs → AllStand h (labels (element_trees xs)) (element_parts xs)
unfolding element_parts
elements_stand h k Elements.no_elements d l s = tt
elements_stand h k (Elements.item x xs) d l s = (standing h (Part.expression x) d.0 l.1 s.0, elements_stand h (suc k) xs d.1 l.2 s.1)
elements_stand h k (Elements.hole n xs) d l s = (standing h (Part.hole n) d.0 l.1 tt, elements_stand h (suc k) xs d.1 l.2 s)
elements_stand h k (Elements.spread n x xs) d l s = (standing h (Part.spread n x) d.0 l.1 s.0, elements_stand h (suc k) xs d.1 l.2 s.1)

arguments_stand : (h : Held) (k : ℕ) (xs : Arguments) → DenoteAll (look h) (argument_trees xs) → LawfulBelow Own.call k (argument_trees xs) → SpelledArguments xs → AllStand h (labels (argument_trees xs)) (argument_parts xs)
unfolding argument_parts
arguments_stand h k Arguments.no_arguments d l s = tt
arguments_stand h k (Arguments.argument x xs) d l s = (standing h (Part.expression x) d.0 l.1 s.0, arguments_stand h (suc k) xs d.1 l.2 s.1)
arguments_stand h k (Arguments.spread_argument n x xs) d l s = (standing h (Part.spread n x) d.0 l.1 s.0, arguments_stand h (suc k) xs d.1 l.2 s.1)

-- Each part is that of its own.
itself : (h : Held) (p : Part) → Denotes (look h) (part_tree p) → LawfulTree (part_tree p) → SpelledPart p → FromOwn h (own_of (part_tree p)) (labels (below (part_tree p))) p
itself h (Part.expression (Expression.string l u)) d w s = (l, u, refl, (s, refl))
itself h (Part.expression (Expression.number l n)) d w s = (l, refl)
itself h (Part.expression (Expression.boolean l b)) d w s = (l, refl)
itself h (Part.expression (Expression.null l)) d w s = (l, refl)
itself h (Part.expression (Expression.name l u)) d w s = (l, u, refl, (s, refl))
itself h (Part.expression (Expression.array l xs)) d w s = (l, xs, refl, elements_stand h 0 xs d.1 w.1 s)
itself h (Part.expression (Expression.static_member l x k)) d w s = (l, x, k, label (tree_of x), refl, refl, standing h (Part.expression x) d.1.0 w.1.1 s.0, (s.1, refl))
itself h (Part.expression (Expression.computed_member l x y)) d w s =
    (l, x, y, label (tree_of x), label (tree_of y), refl, refl, standing h (Part.expression x) d.1.0 w.1.1 s.0, standing h (Part.expression y) d.1.1.0 w.1.2.1 s.1)
itself h (Part.expression (Expression.call l g xs)) d w s =
    (l, g, xs, label (tree_of g), labels (argument_trees xs), refl, refl, standing h (Part.expression g) d.1.0 w.1.1 s.0, arguments_stand h 1 xs d.1.1 w.1.2 s.1)
itself h (Part.expression (Expression.template l ps)) d w s = (l, ps, refl)
itself h (Part.expression (Expression.unary l o x)) d w s = (l, x, label (tree_of x), refl, refl, standing h (Part.expression x) d.1.0 w.1.1 s)
itself h (Part.expression (Expression.binary l o x y)) d w s =
    (l, x, y, label (tree_of x), label (tree_of y), refl, refl, standing h (Part.expression x) d.1.0 w.1.1 s.0, standing h (Part.expression y) d.1.1.0 w.1.2.1 s.1)
itself h (Part.expression (Expression.opaque l f m xs)) d w s = (l, xs, refl)
itself h (Part.hole l) d w s = (l, refl)
itself h (Part.spread l x) d w s = (l, x, label (tree_of x), refl, refl, standing h (Part.expression x) d.1.0 w.1.1 s)
itself h (Part.quasi (QuasiNode.quasi l r c)) d w s = (QuasiNode.quasi l r c, refl)

-- And so is the part of a record.
one_link : {h : Held} {p : Part} {a n : ℕ} → a ∷ [] ≡ n ∷ [] → Stands h n p → Stands h a p
one_link {h} {p} {a} {n} e s = let i : n ≡ a = cc in subst (λ z. Stands h z p) i s

first_link : {h : Held} {p : Part} {a n : ℕ} {bs ns : List ℕ} → a ∷ bs ≡ n ∷ ns → Stands h n p → Stands h a p
first_link {h} {p} {a} {n} e s = let i : n ≡ a = cc in subst (λ z. Stands h z p) i s

second_link : {h : Held} {p : Part} {a b n m : ℕ} → a ∷ b ∷ [] ≡ n ∷ m ∷ [] → Stands h m p → Stands h b p
second_link {h} {p} {a} {b} {n} {m} e s = let i : m ≡ b = cc in subst (λ z. Stands h z p) i s

other_links : (h : Held) (ps : List Part) {a n : ℕ} {bs ns : List ℕ} → a ∷ bs ≡ n ∷ ns → AllStand h ns ps → AllStand h bs ps
other_links h ps {a} {n} {bs} {ns} e s = let i : ns ≡ bs = cc in subst (λ z. AllStand h z ps) i s

of_record : (h : Held) (r : Node) (p : Part) → FromOwn h (own h.text r) (children h.entries r) p → Meant h r p
of_record h (String t) p f = f
of_record h (Number n) p f = f
of_record h (Boolean b) p f = f
of_record h Null p f = f
of_record h (Name t) p f = f
of_record h Hole p f = f
of_record h (Spread n) p f = (f.0, f.1, f.3, one_link f.4 f.5)
of_record h (Array es) p f = f
of_record h (StaticMember o t) p f = (f.0, f.1, f.2, f.4, one_link f.5 f.6, f.7)
of_record h (ComputedMember o k) p f = (f.0, f.1, f.2, f.5, first_link f.6 f.7, second_link f.6 f.8)
of_record h (Call g es) p f = (f.0, f.1, f.2, f.5, first_link f.6 f.7, other_links h (argument_parts f.2) f.6 f.8)
of_record h (Template es) p f = f
of_record h (Quasi r c) p f = f
of_record h (Unary o n) p f = (f.0, f.1, f.3, one_link f.4 f.5)
of_record h (Binary o n m) p f = (f.0, f.1, f.2, f.5, first_link f.6 f.7, second_link f.6 f.8)
of_record h (Opaque es m g) p f = f

pub meant : (h : Held) (n : ℕ) (r : Node) (p : Part) → Stands h n p → own_of (part_tree p) ≡ own h.text r → labels (below (part_tree p)) ≡ children h.entries r → Meant h r p
meant h n r p s e f =
    of_record h r p (subst (λ cs. FromOwn h (own h.text r) cs p) f (subst (λ o. FromOwn h o (labels (below (part_tree p))) p) e (itself h p s.denoted s.lawful s.spelled)))
