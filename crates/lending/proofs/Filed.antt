-- A file that is loaded and swept.
use Rattle.std.proofs.Common.{◌≡◌, ℕ, ◌≤◌, List, length, drop, inl, inr, Ok, Result, ap, subst, ◌∙◌, arith, length-append, length-drop}
use Rattle.std.proofs.lemmas.List.{length-take-le}
use Rattle.base.specs.declared.fault.Fault.{Fault}
use Rattle.base.specs.Questions.{Refuses}
use Rattle.store.specs.declared.store.Store.{Store}
use Rattle.store.specs.declared.stores.Stores.{Stores}
use Rattle.store.specs.declared.stores.Counts.{Counts}
use Rattle.store.specs.Held.{lent, held, room, Refilled}
use Rattle.store.specs.Stores.{held_of, rooms_of}
use Rattle.tree.specs.Heap.{Held}
use Rattle.file.specs.declared.loaded.Loaded.{Loaded}
use Rattle.file.specs.Layout.{Sized}
use Rattle.file.specs.Lawful.{LawfulFile, Fits, load_questions}
use Rattle.file.specs.Payoff.{DenotesPayoff}
use Rattle.file.specs.Calls.{Holds, Loads, loaded_stores}
use Rattle.file.proofs.Counted.{nodes_counted, entries_counted, text_counted}
use Rattle.deciding.specs.declared.place.Support.{Support}
use Rattle.model.specs.declared.answer.Swept.{Swept}
use Rattle.model.specs.declared.answer.SweepRefused.{SweepRefused}
use Rattle.session.specs.declared.session.ends.Ended.{Ended}
use Rattle.lending.specs.declared.known.Known.{Known}
use Rattle.lending.specs.Lending.{Left, Lent, SweepsLoaded, SweepsFile, RoomFor, answers_by, given_in, loaded_nodes, rooms_up_to, counts_up_to, limits}

room_kept : {T : Type 0} (old new : Store T) (xs : List T) → Refilled old xs new → length xs ≤ room old → room new ≡ room old
room_kept old new xs f le = omega (arith, ap length f.1, length-append xs (drop (length xs) (lent old)), length-drop (length xs) (lent old))

counts_same : (a b : Counts) → a.nodes ≡ b.nodes → a.entries ≡ b.entries → a.text ≡ b.text → a ≡ b
counts_same a b n e t =
    let f : ℕ → ℕ → ℕ → Counts = λ x y z. record { nodes = x; entries = y; text = z } in
    ap (λ x. f x a.entries a.text) n ∙ ap (λ y. f b.nodes y a.text) e ∙ ap (λ z. f b.nodes b.entries z) t

rooms_kept : (file : List ℕ) (h : Held) (old new : Stores) → LawfulFile file h → Fits file (rooms_of old) → Holds old h new → rooms_of new ≡ rooms_of old
rooms_kept file h old new lawful fits holds = counts_same (rooms_of new) (rooms_of old)
    (room_kept old.nodes new.nodes h.nodes holds.nodes_held (omega (arith, nodes_counted file h lawful, fits.nodes_fit)))
    (room_kept old.entries new.entries h.entries holds.entries_held (omega (arith, entries_counted file h lawful, fits.entries_fit)))
    (room_kept old.text new.text h.text holds.text_held (omega (arith, text_counted file h lawful, fits.text_fits)))

pub file_swept : (file : List ℕ) (known : Known) (support : Support) (start : Stores) (d : Loaded) (e : Ended) (r : Result Swept SweepRefused)
    → Loads file start (Ok d) → SweepsLoaded (answers_by known (loaded_nodes d)) d support e r → SweepsFile (rooms_of start) file (answers_by known) support (Ok (e, r))
file_swept file known support start d e r loads swept =
    let h : Held = held_of (loaded_stores d) in
    let rooms = rooms_kept file h start d.stores loads.0 loads.1 loads.3 in
    let t = loads.4 in (
      h,
      loads.0,
      loads.1,
      swept.rooms_same ∙ rooms,
      swept.written,
      t.0,
      subst (λ n. DenotesPayoff h n t.0) loads.2 t.1,
      subst (λ k. Left (answers_by known (length h.nodes)) (given_in k support) t.0 (held_of e.stores) (record { root = e.root; counts = e.counts; swept = r })) rooms (swept.left t.0 t.1),
    )

-- What a store holds is no more than its room.
held_room : {T : Type 0} (s : Store T) → length (held s) ≤ room s
held_room s = omega (arith, length-take-le s.len (lent s) s.within, s.within)

-- What stores with the room of some memory hold has room there.
pub has_room : (most : Counts) (m : Lent) (s : Stores) → rooms_of s ≡ rooms_up_to most m → RoomFor (held_of s) m
has_room most m s e = (
  omega (arith, held_room s.nodes, ap (λ c. c.nodes) e),
  omega (arith, held_room s.entries, ap (λ c. c.entries) e),
  omega (arith, held_room s.text, ap (λ c. c.text) e),
)

-- ---- a file that is small

-- Of a file of no more bytes than this, all fits into a small room.
pub small_fits : (file : List ℕ) → length file ≤ 4096 → Sized file → Fits file (counts_up_to 256 1024 4096)
small_fits file le z = record { nodes_fit = omega (arith, le, z.whole); entries_fit = omega (arith, le, z.whole); text_fits = omega (arith, le, z.whole) }

pub lawful_fits : (file : List ℕ) → Sized file → Fits file limits
lawful_fits file z = record { nodes_fit = z.few_nodes; entries_fit = z.few_entries; text_fits = z.little_text }

-- Where all fits into either room, the same is refused in both.
pub refused_in : (file : List ℕ) (a b : Counts) → (Sized file → Fits file a) → (Sized file → Fits file b) → (e : Fault)
    → Refuses (load_questions file a) e → Refuses (load_questions file b) e
refused_in file a b in_a in_b e (inl bad) = inl bad
refused_in file a b in_a in_b e (inr (v, inl bad)) = inr (v, inl bad)
refused_in file a b in_a in_b e (inr (v, inr (z, inl bad))) = absurd (bad.1 (in_a z))
refused_in file a b in_a in_b e (inr (v, inr (z, inr rest))) = inr (v, inr (z, inr (in_b z, rest.1)))
