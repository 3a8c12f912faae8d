-- What a record says of the part that its number stands for: a case for each kind, by which code that reads a record
-- knows the expression, and what its links and its list stand for.
use Rattle.std.specs.Prelude.{◌≡◌, ℕ}
use Rattle.text.specs.Stored.{Stores}
use Rattle.tree.specs.declared.node.Node.{Node}
use Rattle.tree.specs.declared.node.Node.TheVariants.{String, Number, Boolean, Null, Name, Hole, Spread, Array, StaticMember, ComputedMember, Call, Template, Quasi, Unary, Binary, Opaque}
use Rattle.tree.specs.Heap.{Held, text_at, entries_at}
use Rattle.meaning.specs.Expression.{Expression, Elements, Arguments, Pieces, Children, Units, Quasi as QuasiNode}
use Rattle.meaning.specs.Parts.{Part}
use Rattle.deciding.specs.Standing.{Stands, AllStand, element_parts, argument_parts}

abbrev pub Meant : Held → Node → Part → Type 0
Meant h (String t) p = (l : ℕ) × (u : Units) × (p ≡ Part.expression (Expression.string l u)) × Stores (text_at h.text t) u
Meant h (Number bits) p = (l : ℕ) × (p ≡ Part.expression (Expression.number l bits))
Meant h (Boolean b) p = (l : ℕ) × (p ≡ Part.expression (Expression.boolean l b))
Meant h Null p = (l : ℕ) × (p ≡ Part.expression (Expression.null l))
Meant h (Name t) p = (l : ℕ) × (u : Units) × (p ≡ Part.expression (Expression.name l u)) × Stores (text_at h.text t) u
Meant h Hole p = (l : ℕ) × (p ≡ Part.hole l)
Meant h (Spread n) p = (l : ℕ) × (x : Expression) × (p ≡ Part.spread l x) × Stands h n (Part.expression x)
Meant h (Array es) p = (l : ℕ) × (xs : Elements) × (p ≡ Part.expression (Expression.array l xs)) × AllStand h (entries_at h.entries es) (element_parts xs)
Meant h (StaticMember o t) p =
    (l : ℕ) × (x : Expression) × (u : Units) × (p ≡ Part.expression (Expression.static_member l x u)) × Stands h o (Part.expression x) × Stores (text_at h.text t) u
Meant h (ComputedMember o k) p =
    (l : ℕ) × (x : Expression) × (y : Expression) × (p ≡ Part.expression (Expression.computed_member l x y)) × Stands h o (Part.expression x) × Stands h k (Part.expression y)
Meant h (Call f es) p =
    (l : ℕ) × (g : Expression) × (xs : Arguments) × (p ≡ Part.expression (Expression.call l g xs)) × Stands h f (Part.expression g) × AllStand h (entries_at h.entries es) (argument_parts xs)
Meant h (Template es) p = (l : ℕ) × (ps : Pieces) × (p ≡ Part.expression (Expression.template l ps))
Meant h (Quasi r c) p = (q : QuasiNode) × (p ≡ Part.quasi q)
Meant h (Unary o n) p = (l : ℕ) × (x : Expression) × (p ≡ Part.expression (Expression.unary l o x)) × Stands h n (Part.expression x)
Meant h (Binary o n m) p =
    (l : ℕ) × (x : Expression) × (y : Expression) × (p ≡ Part.expression (Expression.binary l o x y)) × Stands h n (Part.expression x) × Stands h m (Part.expression y)
Meant h (Opaque es m f) p = (l : ℕ) × (xs : Children) × (p ≡ Part.expression (Expression.opaque l f m xs))
