-- What the calls of a case make of a file that was loaded. Assumes nothing.
use Rattle.std.proofs.Common.{◌≡◌, ℕ, ◌≤◌, List, ◌++◌, length, drop, codes, inr, Ok, sym, ap, subst, ◌∙◌, arith}
use Rattle.std.proofs.lemmas.List.{append_assoc, length-append, length-drop}
use Rattle.store.specs.declared.store.Store.{Store}
use Rattle.store.specs.declared.stores.Stores.{Stores}
use Rattle.store.specs.declared.stores.Counts.{Counts}
use Rattle.store.specs.Held.{lent, room, Refilled}
use Rattle.store.specs.Stores.{held_of, rooms_of, counts_of}
use Rattle.tree.specs.Tree.{label}
use Rattle.tree.specs.Heap.{Held}
use Rattle.file.specs.declared.loaded.Loaded.{Loaded}
use Rattle.file.specs.Layout.{root}
use Rattle.file.specs.Lawful.{LawfulFile, Fits}
use Rattle.file.specs.Payoff.{DenotesPayoff}
use Rattle.file.specs.Calls.{Holds, Loads, loaded_stores}
use Rattle.file.proofs.Counted.{nodes_counted, entries_counted, text_counted}
use Rattle.deciding.specs.declared.place.Support.{Support}
use Rattle.deciding.specs.Plans.{settings_of}
use Rattle.session.specs.declared.session.Session.{Session}
use Rattle.session.specs.declared.session.ends.Ended.{Ended}
use Rattle.session.specs.Following.{given_of, OpensOn, EndsWith}
use Rattle.cases.specs.declared.call.CaseCall.{CaseCall}
use Rattle.cases.specs.declared.told.End.{End}
use Rattle.cases.specs.Items.{MakesItems, MakesEach, end_of}
use Rattle.cases.specs.Cases.{RunOf}
use Rattle.cases.specs.Rooms.{within_limits}

room_kept : {T : Type 0} (old new : Store T) (xs : List T) → Refilled old xs new → length xs ≤ room old → room new ≡ room old
room_kept old new xs f le = omega (arith, ap length f.1, length-append xs (drop (length xs) (lent old)), length-drop (length xs) (lent old))

counts_same : (a b : Counts) → a.nodes ≡ b.nodes → a.entries ≡ b.entries → a.text ≡ b.text → a ≡ b
counts_same a b n e t =
    let f : ℕ → ℕ → ℕ → Counts = λ x y z. record { nodes = x; entries = y; text = z } in
    ap (λ x. f x a.entries a.text) n ∙ ap (λ y. f b.nodes y a.text) e ∙ ap (λ z. f b.nodes b.entries z) t

-- The stores have the room that was lent.
rooms_kept : (file : List ℕ) (h : Held) (old new : Stores) → LawfulFile file h → Fits file (rooms_of old) → Holds old h new → rooms_of new ≡ rooms_of old
rooms_kept file h old new lawful fits holds = counts_same (rooms_of new) (rooms_of old)
    (room_kept old.nodes new.nodes h.nodes holds.nodes_held (omega (arith, nodes_counted file h lawful, fits.nodes_fit)))
    (room_kept old.entries new.entries h.entries holds.entries_held (omega (arith, entries_counted file h lawful, fits.entries_fit)))
    (room_kept old.text new.text h.text holds.text_held (omega (arith, text_counted file h lawful, fits.text_fits)))

-- What is written before the items, the items, and what is written behind them.
pub written_so : (front items back before after all : List ℕ) → before ≡ codes "loaded" → after ≡ before ++ items → back ≡ front → all ≡ after ++ back → all ≡ codes "loaded" ++ (items ++ front)
written_so front items back before after all is_before is_after is_back is_all =
    is_all ∙ ap (λ xs. after ++ xs) is_back ∙ ap (λ xs. xs ++ front) (is_after ∙ ap (λ xs. xs ++ items) is_before) ∙ append_assoc (codes "loaded") items front

module _ (file bytes : List ℕ) (rooms : Counts) (support : Support) (calls : List CaseCall) (old : Stores) (d : Loaded) (first last : Session) (e : Ended) (end : End) (items text : List ℕ) where
  pub answered_run : bytes ≡ file → rooms_of old ≡ within_limits rooms → Loads bytes old (Ok d) → OpensOn d support first
      → MakesEach calls first last items → EndsWith last e
      → end.root ≡ e.root → end.rewrites ≡ e.rewrites → end.counts ≡ e.counts
      → text ≡ codes "loaded" ++ (items ++ (codes "; " ++ end_of end.root end.rewrites end.counts))
      → RunOf file rooms support calls text
  answered_run same lent loads opens made ends is_root is_rewrites is_counts told =
      let h : Held = held_of (loaded_stores d) in
      let o = opens.opened loads.4.0 loads.4.1 in
      let x = made o.0 o.2 in
      let f = ends.of_model x.0 x.2 in
      let rooms_so : rooms_of first.stores ≡ within_limits rooms =
      ap rooms_of opens.holds ∙ rooms_kept bytes h old (loaded_stores d) loads.0 loads.1 loads.3 ∙ lent in
      let given_so : given_of first ≡ record { supported = settings_of support; rooms = within_limits rooms } =
      ap (λ k. record { supported = settings_of k; rooms = rooms_of first.stores }) opens.supports
      ∙ ap (λ k. record { supported = settings_of support; rooms = k }) rooms_so in
      let nodes_so : (counts_of first.stores).nodes ≡ length h.nodes = ap (λ s. (counts_of s).nodes) opens.holds in
      let makes : MakesItems (record { supported = settings_of support; rooms = within_limits rooms }) (length h.nodes) o.0 calls items x.0 =
      subst (λ g. MakesItems g (length h.nodes) o.0 calls items x.0) given_so (subst (λ n. MakesItems (given_of first) n o.0 calls items x.0) nodes_so x.1) in
      let held_so : end.counts ≡ x.0.held = is_counts ∙ ends.counted ∙ sym x.2.held in
      let tells : text ≡ codes "loaded" ++ (items ++ (codes "; " ++ end_of (label x.0.whole) x.0.rewrites x.0.held)) =
      told
      ∙ ap (λ n. codes "loaded" ++ (items ++ (codes "; " ++ end_of n end.rewrites end.counts))) (is_root ∙ sym f.0)
      ∙ ap (λ n. codes "loaded" ++ (items ++ (codes "; " ++ end_of (label x.0.whole) n end.counts))) (is_rewrites ∙ sym f.1)
      ∙ ap (λ n. codes "loaded" ++ (items ++ (codes "; " ++ end_of (label x.0.whole) x.0.rewrites n))) held_so in
      inr (record {
        contents = h;
        lawful = subst (λ b. LawfulFile b h) same loads.0;
        fits = subst (λ b. Fits b (within_limits rooms)) same (subst (Fits bytes) lent loads.1);
        tree = loads.4.0;
        denotes = subst (λ n. DenotesPayoff h n loads.4.0) (loads.2 ∙ ap root same) loads.4.1;
        start = o.0;
        opened = o.1;
        end = x.0;
        items = items;
        made = makes;
        told = tells;
      })
