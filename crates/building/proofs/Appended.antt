-- Lists that are appended to the list store.
use Rattle.std.proofs.Common.{◌≡◌, ℕ, ◌+◌, ◌≤◌, true, List, [], ◌∷◌, ◌++◌, length, Ok, Err, Result, sym, ap, ◌∙◌, arith, length-append}
use Rattle.std.proofs.lemmas.Bool.{leb-true}
use Rattle.base.specs.declared.fault.Fault.{Fault}
use Rattle.base.specs.Questions.{Refuses}
use Rattle.store.specs.declared.store.Store.{Store}
use Rattle.store.specs.declared.stores.Stores.{Stores}
use Rattle.store.specs.Held.{held, room, Refilled, AppendsWithin}
use Rattle.store.specs.Stores.{held_of}
use Rattle.tree.specs.declared.run.Run.{Run}
use Rattle.tree.specs.Heap.{within, entries_at}
use Rattle.tree.proofs.Cuts.{length_cut}
use Rattle.meaning.specs.Parts.{Part}
use Rattle.deciding.specs.Standing.{Stands, AllStand}
use Rattle.building.specs.Growing.{RunBetween}
use Rattle.building.specs.Lists.{Lists, NoRoom, AppendsList, Writes}
use Rattle.building.proofs.Grown.{grows_none, grows_twice, all_stand_then, entries_left}
use Rattle.building.proofs.Ends.{refused_less, entries_grown}
use Rattle.building.proofs.Lists.{stand_behind, how_many_stand}

-- A list that lies within has so many entries as parts stand in it.
list_count : (a : Stores) (list : Run ℕ) (ps : List Part) → within (held a.entries) list.start list.len ≡ true → AllStand (held_of a) (entries_at (held a.entries) list) ps → list.len ≡ length ps
list_count a list ps w s =
    sym (length_cut (held a.entries) list.start list.len (leb-true (list.start + list.len) (length (held a.entries)) w)) ∙ how_many_stand (held_of a) (entries_at (held a.entries) list) ps s

-- Stores of which the list store grew.
listed : (a : Stores) (t : Store ℕ) (ns : List ℕ) (ps : List Part) → Refilled a.entries (held a.entries ++ ns) t → AllStand (held_of a) ns ps
    → Lists a ps (record { nodes = a.nodes; entries = t; text = a.text })
listed a t ns ps g s = record { numbers = ns; grew = entries_grown a t ns g; stand = all_stand_then (entries_grown a t ns g) ns ps s }

pub list_appended : (a : Stores) (list : Run ℕ) (t : Store ℕ) (r : Result (Unit {0}) Fault) → AppendsWithin a.entries list.start list.len t r
    → AppendsList a list (record { nodes = a.nodes; entries = t; text = a.text }) r
list_appended a list t (Ok u) g ps w s = listed a t (entries_at (held a.entries) list) ps g.0 s
list_appended a list t (Err e) f ps w s =
    λ takes.
    let n = list_count a list ps w s in
    let t0 = takes.0 in
    refused_less e (leb-true (list.start + list.len) (length (held a.entries)) w, omega (arith, n, t0)) f.2

-- One number.
pub number_appended : (a : Stores) (n : ℕ) (t : Store ℕ) (p : Part) → Refilled a.entries (held a.entries ++ (n ∷ [])) t → Stands (held_of a) n p
    → Lists a (p ∷ []) (record { nodes = a.nodes; entries = t; text = a.text })
number_appended a n t p g s = listed a t (n ∷ []) (p ∷ []) g (s, tt)

pub number_refused : (a : Stores) (n : ℕ) (p : Part) (e : Fault) → Refuses (((13, 0), length (held a.entries) + length (n ∷ []) ≤ room a.entries) ∷ []) e → NoRoom a (p ∷ [])
number_refused a n p e f takes = refused_less e takes.0 f

-- None, and one list behind the other.
pub none_listed : (a : Stores) → Lists a [] a
none_listed a = record { numbers = []; grew = grows_none a; stand = tt }

pub lists_behind : {a b c : Stores} {ps qs : List Part} → Lists a ps b → Lists b qs c → Lists a (ps ++ qs) c
lists_behind {a} {b} {c} {ps} {qs} f g = record {
  numbers = f.numbers ++ g.numbers;
  grew = grows_twice f.grew g.grew;
  stand = stand_behind (held_of c) f.numbers g.numbers ps qs (all_stand_then g.grew f.numbers ps f.stand) g.stand;
}

-- Where there is no room for the rest, there is none for all.
pub no_room_behind : {a b : Stores} {ps : List Part} (qs : List Part) → Lists a ps b → NoRoom b qs → NoRoom a (ps ++ qs)
no_room_behind {a} {b} {ps} qs f none takes =
    let n = how_many_stand (held_of b) f.numbers ps f.stand in
    none (entries_left f.grew (length qs) (length (ps ++ qs)) (omega (arith, n, length-append ps qs)) takes)

pub no_room_for_more : (a : Stores) (ps qs : List Part) → NoRoom a ps → NoRoom a (ps ++ qs)
no_room_for_more a ps qs none takes =
    let t0 = takes.0 in
    let t1 = takes.1 in
    let n = length-append ps qs in
    none (omega (arith, n, t0), omega (arith, n, t1))

-- The piece that they are.
pub listed_at : {a b : Stores} {ps : List Part} (start end : ℕ) (r : Result (Run ℕ) Fault) → Lists a ps b → start ≡ length (held a.entries) → end ≡ length (held b.entries)
    → RunBetween start end r → Writes a ps b r
listed_at {a} {b} {ps} start end (Ok run) f e i g =
    let long = ap length f.grew.entries_grow.0 ∙ length-append (held a.entries) f.numbers in
    record { lists = f; start = g.0 ∙ e; len = omega (arith, g.1, e, i, long) }
listed_at {a} {b} {ps} start end (Err x) f e i g =
    λ takes.
    let long = ap length f.grew.entries_grow.0 ∙ length-append (held a.entries) f.numbers in
    let n = how_many_stand (held_of b) f.numbers ps f.stand in
    let t1 = takes.1 in
    g (omega (arith, e, i, long)) (omega (arith, i, long, n, t1))
