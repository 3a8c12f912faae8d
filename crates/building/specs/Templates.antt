-- A template that grows behind all that the stores hold.
use Rattle.std.specs.Prelude.{◌≡◌, ℕ, suc, ◌+◌, List, [], ◌∷◌, ◌++◌, length, Ok, Err, Result}
use Rattle.base.specs.declared.fault.Fault.{Fault}
use Rattle.text.specs.Utf16.{Text}
use Rattle.text.specs.Stored.{stored}
use Rattle.tree.specs.declared.node.Node.{Node}
use Rattle.tree.specs.declared.run.Run.{Run}
use Rattle.tree.specs.Tree.{label, Look, Denotes}
use Rattle.tree.specs.Heap.{Held, look}
use Rattle.store.specs.declared.stores.Stores.{Stores}
use Rattle.store.specs.declared.stores.Counts.{Counts}
use Rattle.store.specs.Held.{held}
use Rattle.store.specs.Stores.{held_of}
use Rattle.meaning.specs.Expression.{Expression, Arguments, Pieces, Units}
use Rattle.meaning.specs.Trees.{tree_of}
use Rattle.rules.specs.Building.{new_quasi, pieces_of, template_of, append_arguments}
use Rattle.rules.specs.Space.{space}
use Rattle.deciding.specs.Standing.{AllStand, argument_parts, ListsArguments, Spells}
use Rattle.building.specs.Growing.{GrowsBy, HasRoom}
use Rattle.building.specs.Builds.{Built}
use Rattle.building.specs.Texts.{EndsWithText}
use Rattle.building.specs.Quasis.{IsQuasi, raw_written}
use Rattle.building.specs.declared.template_builder.TemplateBuilder.{TemplateBuilder}

-- Quasis that are ended, as their texts, each with the expression behind it.
abbrev pub Ended : Type 0
Ended = List (Units × Expression)

-- The pieces of them, numbered from `next` on, then of a text so far and of the arguments that follow it.
abbrev pub continued : (next : ℕ) → Ended → Units → Arguments → Pieces
continued next [] u xs = pieces_of next u xs
continued next (d ∷ ds) u xs = Pieces.piece (new_quasi next d.0) d.1 (continued (suc next) ds u xs)

-- Their entries, quasis and expressions in turn.
abbrev pub entries_of : (next : ℕ) → Ended → List ℕ
entries_of next [] = []
entries_of next (d ∷ ds) = next ∷ label (tree_of d.1) ∷ entries_of (suc next) ds

-- The bytes of their texts.
abbrev pub texts_length : Ended → ℕ
texts_length [] = 0
texts_length (d ∷ ds) = length (stored d.0) + length (raw_written d.0) + texts_length ds

-- The records are those of the quasis, whose texts stand among the bytes.
abbrev pub AreQuasis : (bytes : List ℕ) → List Node → Ended → Type 0
AreQuasis bytes [] [] = Unit {0}
AreQuasis bytes [] (d ∷ ds) = ⊥
AreQuasis bytes (n ∷ ns) [] = ⊥
AreQuasis bytes (n ∷ ns) (d ∷ ds) = IsQuasi bytes n d.0 × AreQuasis bytes ns ds

abbrev pub AllDenoted : Look → Ended → Type 0
AllDenoted h [] = Unit {0}
AllDenoted h (d ∷ ds) = Denotes h (tree_of d.1) × AllDenoted h ds

-- The stores `old` grew by the first quasis of a template of these pieces, and by a text so far: what is left to add is
-- the arguments `rest`.
pub record Growth (old : Stores) (pieces : Pieces) (rest : Arguments) (b : TemplateBuilder) (new : Stores) : Type 0 where
  pub more : Held
  pub ended : Ended
  pub text : Units
  pub grew : GrowsBy old (record { nodes = more.nodes; entries = more.entries; text = more.text ++ stored text }) new
  pub goes_on : pieces ≡ continued (length (held old.nodes)) ended text rest
  pub is_text : Text text
  pub quasis : AreQuasis (held old.text ++ more.text) more.nodes ended
  pub entries : more.entries ≡ entries_of (length (held old.nodes)) ended
  pub denoted : AllDenoted (look (held_of old)) ended
  pub bytes : length more.text ≡ texts_length ended
  pub first : b.first_entry ≡ length (held old.entries)
  pub starts : b.text_start ≡ length (held old.text ++ more.text)

-- The space that a template, or a string, of the pieces takes.
abbrev pub need : (next : ℕ) → Pieces → Counts
need next ps = space next (template_of next ps) (template_of next ps)

abbrev pub GrowthOr : (old : Stores) (pieces : Pieces) (rest : Arguments) (b : TemplateBuilder) (new : Stores) → Result (Unit {0}) Fault → Type 0
GrowthOr old ps rest b new (Ok _) = Growth old ps rest b new
GrowthOr old ps rest b new (Err e) = ⊥

abbrev pub BuilderOr : (old : Stores) (pieces : Pieces) (rest : Arguments) (new : Stores) → Result TemplateBuilder Fault → Type 0
BuilderOr old ps rest new (Ok b) = Growth old ps rest b new
BuilderOr old ps rest new (Err e) = ⊥

-- A template of a base text begins.
abbrev pub Begins : (old : Stores) (base : Run ℕ) (new : Stores) → Result TemplateBuilder Fault → Type 0
Begins old base new r =
    (u : Units) (xs : Arguments) → Spells (held_of old) base u → HasRoom old (need (length (held old.nodes)) (pieces_of (length (held old.nodes)) u xs))
    → BuilderOr old (pieces_of (length (held old.nodes)) u xs) xs new r

-- The arguments that stand at these numbers are added.
abbrev pub AddsAll : (b : TemplateBuilder) (s : Stores) (standing : Stores → Arguments → Type 0) (c : TemplateBuilder) (t : Stores) → Result (Unit {0}) Fault → Type 0
AddsAll b s standing c t r =
    (old : Stores) (ps : Pieces) (xs rest : Arguments) → HasRoom old (need (length (held old.nodes)) ps) → standing old xs
    → Growth old ps (append_arguments xs rest) b s → GrowthOr old ps rest c t r

abbrev pub Adds : (b : TemplateBuilder) (s : Stores) (number : ℕ) (c : TemplateBuilder) (t : Stores) → Result (Unit {0}) Fault → Type 0
Adds b s n c t r = AddsAll b s (λ old xs. AllStand (held_of old) (n ∷ []) (argument_parts xs)) c t r

abbrev pub AddsArguments : (b : TemplateBuilder) (s : Stores) (arguments : Run ℕ) (c : TemplateBuilder) (t : Stores) → Result (Unit {0}) Fault → Type 0
AddsArguments b s run c t r = AddsAll b s (λ old xs. ListsArguments (held_of old) run xs) c t r

-- A quasi of this text is appended, and has this number.
pub record QuasiEnded (old : Stores) (u : Units) (c : TemplateBuilder) (new : Stores) (number : ℕ) : Type 0 where
  pub node : Node
  pub grew : GrowsBy old (record { nodes = node ∷ []; entries = []; text = raw_written u }) new
  pub is : IsQuasi (held new.text) node u
  pub numbered : number ≡ length (held old.nodes)
  pub starts : c.text_start ≡ length (held new.text)

abbrev pub QuasiEndedOr : (old : Stores) (u : Units) (c : TemplateBuilder) (new : Stores) → Result ℕ Fault → Type 0
QuasiEndedOr old u c new (Ok n) = QuasiEnded old u c new n
QuasiEndedOr old u c new (Err e) = HasRoom old (record { nodes = 1; entries = 0; text = length (raw_written u) }) → ⊥

abbrev pub EndsQuasi : (b : TemplateBuilder) (old : Stores) (c : TemplateBuilder) (new : Stores) → Result ℕ Fault → Type 0
EndsQuasi b old c new r =
    (c.first_entry ≡ b.first_entry) × ((front u : List ℕ) → EndsWithText (held old.text) b.text_start front u → QuasiEndedOr old u c new r)

-- The template, or the string, of all the pieces is built.
abbrev pub Finishes : (b : TemplateBuilder) (s t : Stores) → Result ℕ Fault → Type 0
Finishes b s t r =
    (old : Stores) (ps : Pieces) → HasRoom old (need (length (held old.nodes)) ps) → Growth old ps Arguments.no_arguments b s
    → Built old (template_of (length (held old.nodes)) ps) (need (length (held old.nodes)) ps) t r
