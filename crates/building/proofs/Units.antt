-- A new string of one unit.
use Rattle.std.proofs.Common.{◌≡◌, ℕ, ◌+◌, ◌-◌, ◌≤◌, true, List, [], ◌∷◌, ◌++◌, length, ◌&&◌, Ok, Result, refl, sym, subst, ap, ◌∙◌, append-nil, arith}
use Rattle.std.proofs.Math.Utf8.{encode}
use Rattle.std.proofs.lemmas.Bool.{and_from, le-leb}
use Rattle.base.specs.declared.fault.Fault.{Fault}
use Rattle.base.specs.Questions.{Refuses}
use Rattle.text.specs.Stored.{stored}
use Rattle.store.specs.declared.store.Store.{Store}
use Rattle.store.specs.declared.stores.Stores.{Stores}
use Rattle.store.specs.Held.{held, room, Refilled}
use Rattle.store.specs.Stores.{held_of}
use Rattle.tree.specs.declared.node.Node.TheVariants.{String}
use Rattle.tree.specs.declared.run.Run.{Run}
use Rattle.tree.specs.Tree.{Own, Trees}
use Rattle.tree.specs.Heap.{Held, within, inside, cut}
use Rattle.meaning.specs.Expression.{Expression}
use Rattle.meaning.specs.Trees.{tree_of}
use Rattle.rules.specs.Space.{bytes_of, new_nodes, new_bytes, new_entries, space}
use Rattle.deciding.specs.declared.plan.Plan.TheVariants.{Unit as UnitPlan}
use Rattle.building.specs.Growing.{GrowsBy, HasRoom, Pushes, Takes, some_bytes}
use Rattle.building.specs.Builds.{Built, Builds}
use Rattle.building.proofs.Grown.{grows_twice, nodes_left}
use Rattle.building.proofs.Spent.{one_new, its_bytes_alone, built}
use Rattle.building.proofs.Ends.{ends_within, ends_with, refused_less, text_grown}
use Rattle.building.proofs.Plain.{pushed, of_form, denotes_at}

-- Its bytes.
unit_stored : (unit : ℕ) → stored (unit ∷ []) ≡ encode unit
unit_stored unit = append-nil (encode unit)

text_inside : (h : Held) (run : Run ℕ) → within h.text run.start run.len ≡ true → inside h.entries h.text (String run) ≡ true
text_inside h run e = and_from (within h.entries 0 0) (within h.text run.start run.len && true) (le-leb 0 (length h.entries) (omega arith)) (and_from (within h.text run.start run.len) true e refl)

module _ (a : Stores) (x : Expression) (unit : ℕ) where
  abbrev next : ℕ
  next = length (held a.nodes)

  abbrev made : Expression
  made = Expression.string next (unit ∷ [])

  unit_nodes : new_nodes next (tree_of made) ≡ 1
  unit_nodes = one_new (held_of a) (Own.string (stored (unit ∷ []))) Trees.none tt

  unit_bytes : new_bytes next (tree_of made) ≡ length (encode unit)
  unfolding bytes_of
  unit_bytes = its_bytes_alone (held_of a) (Own.string (stored (unit ∷ []))) Trees.none tt ∙ ap length (unit_stored unit)

  unit_room : HasRoom a (space next x made) → Takes (length (held a.text)) (length (encode unit)) (room a.text)
  unit_room h = subst (λ k. Takes (length (held a.text)) k (room a.text)) unit_bytes h.for_text

  unit_made : {b c : Stores} {r : Result ℕ Fault} (run : Run ℕ) → GrowsBy a (some_bytes (encode unit)) b → held b.text ≡ held a.text ++ encode unit
      → run.start ≡ length (held a.text) → run.len ≡ length (held b.text) - length (held a.text) → Pushes b (String run) c r
      → HasRoom a (space next x made) → Built a made (space next x made) c r
  unfolding new_entries
  unit_made {b} {c} {r} run g e s l p h =
      let one = subst (λ k. Takes next k (room a.nodes)) unit_nodes h.for_nodes in
      let last = pushed r p (nodes_left g 1 1 (omega arith) one) in
      let long : run.len ≡ length (held a.text ++ encode unit) - length (held a.text) = l ∙ ap (λ bytes. length bytes - length (held a.text)) e in
      let lies : within (held b.text) run.start run.len ≡ true = ap (λ bytes. within bytes run.start run.len) e ∙ ends_within (held a.text) (encode unit) run.start run.len s long in
      let reads = ap (λ bytes. cut bytes run.start run.len) e ∙ ends_with (held a.text) (encode unit) run.start run.len s long ∙ sym (unit_stored unit) in
      let at : length (held b.nodes) ≡ next = ap length g.nodes_grow.0 ∙ ap length (append-nil (held a.nodes)) in
      built x made (grows_twice g last.1) (last.0 ∙ ap Ok at)
      (denotes_at (Own.string (stored (unit ∷ []))) Trees.none last.1 at (text_inside (held_of b) run lies) (ap Own.string reads) refl tt)
      (sym unit_nodes) refl (ap length (append-nil (encode unit)) ∙ sym unit_bytes)

pub unit_full : {a : Stores} {bytes : List ℕ} {unit : ℕ} (e : Fault) (c : Stores) (r : Result ℕ Fault) → bytes ≡ encode unit
    → Refuses (((13, 0), length (held a.text) + length bytes ≤ room a.text) ∷ []) e → Builds a (UnitPlan unit) c r
unit_full {a} {bytes} {unit} e c r i f limits x y plan writes has =
    of_form x plan (λ h. absurd (refused_less e (let u = (unit_room a x unit h).0 in omega (arith, u, ap length i)) f)) has

pub unit_built : {a : Stores} {bytes : List ℕ} {unit : ℕ} (t : Store ℕ) (run : Run ℕ) (c : Stores) (r : Result ℕ Fault) → bytes ≡ encode unit
    → Refilled a.text (held a.text ++ bytes) t → run.start ≡ length (held a.text) → run.len ≡ length (held t) - length (held a.text)
    → Pushes (record { nodes = a.nodes; entries = a.entries; text = t }) (String run) c r → Builds a (UnitPlan unit) c r
unit_built {a} {bytes} {unit} t run c r e f s l p limits x y plan writes has =
    let g = subst (λ bs. Refilled a.text (held a.text ++ bs) t) e f in
    of_form x plan (unit_made a x unit run (text_grown a t (encode unit) g) g.0 s l p) has
