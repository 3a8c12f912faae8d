-- The steps of loading: the header, the sections, and what is asked of each node.
use Rattle.std.specs.Prelude.{◌≡◌, ℕ, ◌+◌, ◌*◌, ◌<◌, ◌≤◌, true, List, [], ◌∷◌, map, length, Some, None, Ok, Err, Option, Result, ◌≢◌}
use Rattle.std.specs.List.{slice_get}
use Rattle.base.specs.declared.fault.Fault.{Fault}
use Rattle.base.specs.Questions.{Refuses}
use Rattle.file.specs.declared.header.Header.{Header}
use Rattle.file.specs.declared.header.Place.{Place}
use Rattle.file.specs.declared.sections.Sections.{Sections}
use Rattle.file.specs.declared.records.Records.{Records}
use Rattle.store.specs.declared.store.Store.{Store}
use Rattle.store.specs.declared.stores.Stores.{Stores}
use Rattle.store.specs.declared.stores.Counts.{Counts}
use Rattle.store.specs.Held.{Refilled}
use Rattle.file.specs.Found.{laid, AllRecords}
use Rattle.file.specs.Format.{word, records, record_at, record_of}
use Rattle.file.specs.Layout.{Versioned, Sized, Layout, layout}
use Rattle.file.specs.Lawful.{size_questions, record_questions, link_questions, LawfulNode, LawfulRecord, LawfulRoot, LawfulLinks, Fits, load_questions}
use Rattle.text.specs.Stored.{Lawful}
use Rattle.template.specs.Cooked.{CooksTo}
use Rattle.tree.specs.declared.role.Role.{Role}
use Rattle.tree.specs.declared.run.Run.{Run}
use Rattle.tree.specs.Lawful.{admits}
use Rattle.tree.specs.declared.node.Node.{Node}
use Rattle.tree.specs.Heap.{within, text_at, children}
use Rattle.tree.specs.Roles.{role_of_node, sort_of_node}

abbrev pub place_at : List ℕ → ℕ → Place
place_at file at = record { count = word file at; offset = word file (at + 4) }

abbrev pub header_of : List ℕ → Header
header_of file = record { root = word file 4; nodes = place_at file 8; entries = place_at file 16; text = place_at file 24 }

abbrev pub ReadsHeader : List ℕ → Result Header Fault → Type 0
ReadsHeader file (Ok h) = Versioned file × (h ≡ header_of file)
ReadsHeader file (Err e) = Refuses (((1, 0), Versioned file) ∷ []) e

-- The two halves of `Sized`.
abbrev pub InLimits : Header → Type 0
InLimits h = (1 ≤ h.nodes.count) × (h.nodes.count ≤ 4096) × (h.entries.count ≤ 16384) × (h.text.count ≤ 65536)

abbrev pub InPlace : Header → ℕ → Type 0
InPlace h len =
    (h.nodes.offset ≡ 32) × (h.entries.offset ≡ 32 + 20 * h.nodes.count)
    × (h.text.offset ≡ 32 + 20 * h.nodes.count + 4 * h.entries.count)
    × (len ≡ 32 + 20 * h.nodes.count + 4 * h.entries.count + h.text.count)

abbrev pub CutsInto : List ℕ → Result Sections Fault → Type 0
CutsInto file (Ok s) = Versioned file × Sized file × (laid s ≡ layout file)
CutsInto file (Err e) = Refuses (size_questions file) e

-- A text that lies within its section and is lawful, and two of which the first cooks to the second.
abbrev pub TextIn : List ℕ → Run ℕ → Type 0
TextIn text t = (within text t.start t.len ≡ true) × Lawful (text_at text t)

abbrev pub CookedIn : List ℕ → Run ℕ → Run ℕ → Type 0
CookedIn text raw cooked =
    (within text raw.start raw.len ≡ true) × (within text cooked.start cooked.len ≡ true)
    × CooksTo (text_at text raw) (text_at text cooked)

-- The node of record x, where there is one.
abbrev pub NodeAt : Layout → ℕ → Option Node → Type 0
NodeAt l x None = x < l.count → (n : Node) → record_of n ≢ record_at l.rows x
NodeAt l x (Some n) = (x < l.count) × (record_of n ≡ record_at l.rows x)

-- The node of record x, where that is lawful.
abbrev pub NodeChecked : Layout → ℕ → Option Node → Type 0
NodeChecked l x None = x < l.count → LawfulRecord l x → ⊥
NodeChecked l x (Some n) = (record_of n ≡ record_at l.rows x) × LawfulNode l.entries l.text n

-- The child c of node x is lower, and what stands there may stand in this role.
abbrev pub Reached : Layout → ℕ → Role → ℕ → Type 0
Reached l x r c = (c < x) × ((m : Node) × NodeAt l c (Some m) × (admits r (sort_of_node m) ≡ true))

abbrev pub AllReached : Layout → ℕ → Node → Type 0
AllReached l x n = (k c : ℕ) → slice_get (children l.entries n) k ≡ Some c → Reached l x (role_of_node n k) c

-- All records of the sections are lawful; or the lowest that is not is named.
abbrev pub ChecksRecords : Sections → Result Records Fault → Type 0
ChecksRecords s (Ok r) = (r.sections ≡ s) × AllRecords (laid s)
ChecksRecords s (Err e) = Refuses (record_questions (laid s)) e

abbrev pub AllLinks : Layout → Type 0
AllLinks l = LawfulRoot l × ((x : ℕ) → x < l.count → LawfulLinks l x)

abbrev pub LinksChecked : Layout → Result (Unit {0}) Fault → Type 0
LinksChecked l (Ok u) = AllLinks l
LinksChecked l (Err e) = Refuses (link_questions l) e

-- Stores with these rooms hold all that the sections have.
abbrev pub FitsIn : Sections → Counts → Type 0
FitsIn s rooms = (length s.nodes.now ≤ rooms.nodes) × (length s.entries.now ≤ rooms.entries) × (length s.text.now ≤ rooms.text)

-- The questions of the header and of the rooms are answered yes, or the first no is named.
abbrev pub Fitting : List ℕ → Counts → Result Sections Fault → Type 0
Fitting file rooms (Ok s) = CutsInto file (Ok s) × FitsIn s rooms
Fitting file rooms (Err e) = Refuses (load_questions file rooms) e

-- All questions are answered yes, or the first no is named.
abbrev pub Checked : List ℕ → Counts → Result Records Fault → Type 0
Checked file rooms (Ok r) =
    Versioned file × Sized file × Fits file rooms × AllRecords (layout file) × AllLinks (layout file)
    × (laid r.sections ≡ layout file) × FitsIn r.sections rooms
Checked file rooms (Err e) = Refuses (load_questions file rooms) e

-- A store is refilled with the nodes of all records, and the three stores with all that the file holds.
abbrev pub CopiesNodes : Layout → Store Node → Store Node → Type 0
CopiesNodes l old new = (ns : List Node) × Refilled old ns new × (map record_of ns ≡ records l.rows 0 l.count)

abbrev pub CopiesTo : Layout → Stores → Stores → Type 0
CopiesTo l old new =
    CopiesNodes l old.nodes new.nodes × Refilled old.entries l.entries new.entries × Refilled old.text l.text new.text
