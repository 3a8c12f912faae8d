-- What stored records mean.
use Rattle.std.specs.Prelude.{ℕ, zero, suc, ◌+◌, ◌-◌, Bool, true, cond, ◌&&◌, List, [], ◌∷◌, ◌++◌, length, take, drop, Some, None, Option, nat_le, nat_lt, slice_set}
use Rattle.std.specs.List.{slice_get}
use Rattle.tree.specs.declared.node.Node.{Node}
use Rattle.tree.specs.declared.node.Node.TheVariants.{String, Number, Boolean, Null, Name, Hole, Spread, Array, StaticMember, ComputedMember, Call, Template, Quasi, Unary, Binary, Opaque}
use Rattle.tree.specs.declared.run.Run.{Run}
use Rattle.tree.specs.Tree.{Own, string, number, boolean, null, name, hole, spread, array, static_member, computed_member, call, template, quasi, unary, binary, opaque, Look}

-- What the stores hold.
pub record Held : Type 0 where
  pub nodes : List Node
  pub entries : List ℕ
  pub text : List ℕ

-- The len items from start on.
abbrev pub cut : {X : Type 0} → List X → ℕ → ℕ → List X
cut xs start len = take len (drop start xs)

abbrev pub within : {X : Type 0} → List X → ℕ → ℕ → Bool
within xs start len = nat_le (start + len) (length xs)

abbrev pub text_at : List ℕ → Run ℕ → List ℕ
text_at bytes r = cut bytes r.start r.len

abbrev pub entries_at : List ℕ → Run ℕ → List ℕ
entries_at es r = cut es r.start r.len

-- The numbers that the record itself links to.
abbrev pub links : Node → List ℕ
links (String t) = []
links (Number n) = []
links (Boolean b) = []
links Null = []
links (Name t) = []
links Hole = []
links (Spread x) = x ∷ []
links (Array es) = []
links (StaticMember x p) = x ∷ []
links (ComputedMember x k) = x ∷ k ∷ []
links (Call f es) = f ∷ []
links (Template es) = []
links (Quasi r c) = []
links (Unary op x) = x ∷ []
links (Binary op x y) = x ∷ y ∷ []
links (Opaque es m f) = []

-- Its piece of the list store, empty for a kind that has none.
abbrev pub no_list : Run ℕ
no_list = record { start = 0; len = 0; of = record {} }

abbrev pub list_of : Node → Run ℕ
list_of (String t) = no_list
list_of (Number n) = no_list
list_of (Boolean b) = no_list
list_of Null = no_list
list_of (Name t) = no_list
list_of Hole = no_list
list_of (Spread x) = no_list
list_of (Array es) = es
list_of (StaticMember x p) = no_list
list_of (ComputedMember x k) = no_list
list_of (Call f es) = es
list_of (Template es) = es
list_of (Quasi r c) = no_list
list_of (Unary op x) = no_list
list_of (Binary op x y) = no_list
list_of (Opaque es m f) = es

-- Its pieces of the text store.
abbrev pub texts_of : Node → List (Run ℕ)
texts_of (String t) = t ∷ []
texts_of (Number n) = []
texts_of (Boolean b) = []
texts_of Null = []
texts_of (Name t) = t ∷ []
texts_of Hole = []
texts_of (Spread x) = []
texts_of (Array es) = []
texts_of (StaticMember x p) = p ∷ []
texts_of (ComputedMember x k) = []
texts_of (Call f es) = []
texts_of (Template es) = []
texts_of (Quasi r c) = r ∷ c ∷ []
texts_of (Unary op x) = []
texts_of (Binary op x y) = []
texts_of (Opaque es m f) = []

-- What the record says besides its children.
abbrev pub own : List ℕ → Node → Own
own bytes (String t) = string (text_at bytes t)
own bytes (Number n) = number n
own bytes (Boolean b) = boolean b
own bytes Null = null
own bytes (Name t) = name (text_at bytes t)
own bytes Hole = hole
own bytes (Spread x) = spread
own bytes (Array es) = array
own bytes (StaticMember x p) = static_member (text_at bytes p)
own bytes (ComputedMember x k) = computed_member
own bytes (Call f es) = call
own bytes (Template es) = template
own bytes (Quasi r c) = quasi (text_at bytes r) (text_at bytes c)
own bytes (Unary op x) = unary op
own bytes (Binary op x y) = binary op
own bytes (Opaque es m f) = opaque m f

-- The children's numbers, links before list.
abbrev pub children : List ℕ → Node → List ℕ
children es n = links n ++ entries_at es (list_of n)

-- The record's pieces lie within the stores.
abbrev pub all_within : List ℕ → List (Run ℕ) → Bool
all_within bytes [] = true
all_within bytes (t ∷ ts) = within bytes t.start t.len && all_within bytes ts

abbrev pub inside : List ℕ → List ℕ → Node → Bool
inside es bytes n = within es (list_of n).start (list_of n).len && all_within bytes (texts_of n)

-- What is stored at a number.
abbrev pub read : List ℕ → List ℕ → Option Node → Option (Own × List ℕ)
read es bytes None = None
read es bytes (Some n) = cond (inside es bytes n) (Some (own bytes n, children es n)) None

abbrev pub look : Held → Look
look h x = read h.entries h.text (slice_get h.nodes x)

-- The record with its link i changed to m.
abbrev pub with_link : Node → ℕ → ℕ → Node
with_link (String t) i m = String t
with_link (Number n) i m = Number n
with_link (Boolean b) i m = Boolean b
with_link Null i m = Null
with_link (Name t) i m = Name t
with_link Hole i m = Hole
with_link (Spread x) i m = Spread m
with_link (Array es) i m = Array es
with_link (StaticMember x p) i m = StaticMember m p
with_link (ComputedMember x k) zero m = ComputedMember m k
with_link (ComputedMember x k) (suc i) m = ComputedMember x m
with_link (Call f es) i m = Call m es
with_link (Template es) i m = Template es
with_link (Quasi r c) i m = Quasi r c
with_link (Unary op x) i m = Unary op m
with_link (Binary op x y) zero m = Binary op m y
with_link (Binary op x y) (suc i) m = Binary op x m
with_link (Opaque es k f) i m = Opaque es k f

-- The stores after the link to child i of the node q, whose record is n, is changed to m: a word of the record, or an
-- entry of its list.
abbrev pub linked : Held → ℕ → Node → ℕ → ℕ → Held
linked h q n i m =
    cond (nat_lt i (length (links n)))
    (record { nodes = slice_set h.nodes q (with_link n i m); entries = h.entries; text = h.text })
    (cond (nat_lt (i - length (links n)) (list_of n).len)
    (record { nodes = h.nodes; entries = slice_set h.entries ((list_of n).start + (i - length (links n))) m; text = h.text })
    h)

abbrev pub linked_at : Held → ℕ → Option Node → ℕ → ℕ → Held
linked_at h q None i m = h
linked_at h q (Some n) i m = linked h q n i m

abbrev pub relinked : Held → ℕ → ℕ → ℕ → Held
relinked h q i m = linked_at h q (slice_get h.nodes q) i m

-- The stores with more nodes, entries and bytes behind what they hold.
abbrev pub grown : Held → Held → Held
grown h more = record { nodes = h.nodes ++ more.nodes; entries = h.entries ++ more.entries; text = h.text ++ more.text }
