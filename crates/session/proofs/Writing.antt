-- What the stores hold after some calls.
use Rattle.std.proofs.Common.{◌≡◌, ℕ, zero, suc, ◌+◌, ◌≤◌, List, [], ◌∷◌, ◌++◌, length, take, drop, Some, None, Option, Ok, Err, Result, refl, sym, ap, subst, ◌∙◌, arith}
use Rattle.std.proofs.Math.Logic.{∥∥₁_map, ∥∥₁_map₂}
use Rattle.std.proofs.lemmas.List.{append_assoc, append-nil}
use Rattle.std.proofs.lemmas.Slice.{drop-append-drop}
use Rattle.base.specs.declared.fault.Fault.{Fault}
use Rattle.tree.specs.Heap.{Held, grown}
use Rattle.store.specs.declared.stores.Stores.{Stores}
use Rattle.store.specs.declared.store.Store.{Store}
use Rattle.store.specs.Held.{held, lent, Refilled}
use Rattle.store.specs.Stores.{held_of}
use Rattle.model.specs.declared.answer.Outcome.{Outcome}
use Rattle.session.specs.declared.step.Step.{Step}
use Rattle.session.specs.declared.session.Session.{Session}
use Rattle.session.specs.Following.{SamePayoff}
use Rattle.session.specs.Trying.{Holds, Appends, Appended, Written, Writes, hung, parent_of}
use Rattle.session.proofs.Rewriting.{grown_counts, relinked_text}
use Rattle.session.proofs.Tried.{hung_counts, same_held}

split_front : {X : Type 0} (n : ℕ) (xs : List X) → xs ≡ take n xs ++ drop (length (take n xs)) xs
split_front zero xs = refl
split_front (suc n) [] = refl
split_front (suc n) (x ∷ xs) = ap (λ ys. x ∷ ys) (split_front n xs)

-- A store holds what it holds.
holds_itself : (s : Stores) → Holds s (held_of s) s
holds_itself s = record {
  nodes = (refl, split_front s.nodes.len (lent s.nodes));
  entries = (refl, split_front s.entries.len (lent s.entries));
  text = (refl, split_front s.text.len (lent s.text));
}

-- By another name for it.
module _ {T : Type 0} (a c : Store T) (xs : List T) where
  renamed : Refilled a xs c → Refilled a (held c) c
  renamed f = (refl, f.1 ∙ ap (λ ys. ys ++ drop (length ys) (lent a)) (sym f.0))

-- One refill after the other, the second no shorter.
module _ {T : Type 0} (a b c : Store T) where
  refilled : Refilled a (held b) b → Refilled b (held c) c → length (held b) ≤ length (held c) → Refilled a (held c) c
  refilled f g le = (refl, g.1 ∙ ap (λ ys. held c ++ ys) (ap (drop (length (held c))) f.1 ∙ drop-append-drop (length (held b)) (lent a) (held b) (length (held c)) le refl))

-- ---- so many rewrites

no_fewer : {n : ℕ} {h k : Held} → Written n h k → (length h.nodes ≤ length k.nodes) × (length h.entries ≤ length k.entries) × (length h.text ≤ length k.text)
no_fewer Written.none = (omega arith, omega arith, omega arith)
no_fewer (Written.then {h = h} link extra number w) =
    let r = no_fewer w in
    let c = hung_counts link (grown h extra) number in
    let g = grown_counts h extra in (
      omega (arith, r.0, ap (λ d. d.nodes) c, ap (λ d. d.nodes) g),
      omega (arith, r.1, ap (λ d. d.entries) c, ap (λ d. d.entries) g),
      omega (arith, r.2, ap (λ d. d.text) c, ap (λ d. d.text) g),
    )

written_then : {n m : ℕ} {h j k : Held} → Written n h j → Written m j k → Written (n + m) h k
written_then {m = m} {h = h} {k = k} Written.none w = subst (λ i. Written i h k) (omega arith) w
written_then {m = m} {k = k} (Written.then {n = n} {h = h} link extra number v) w = subst (λ i. Written i h k) (omega arith) (Written.then link extra number (written_then v w))

-- No rewrite changes a byte of the text that is held.
hung_text : (o : Option Step) (h : Held) (n : ℕ) → (hung o h n).text ≡ h.text
hung_text None h n = refl
hung_text (Some t) h n = relinked_text h t.node t.child n

pub text_kept : {n : ℕ} {h k : Held} → Written n h k → (more : List ℕ) × (k.text ≡ h.text ++ more)
text_kept (Written.none {h = h}) = ([], sym (append-nil h.text))
text_kept (Written.then {h = h} link extra number w) =
    let r = text_kept w in (
      extra.text ++ r.0,
      r.1 ∙ ap (λ bs. bs ++ r.0) (hung_text link (grown h extra) number) ∙ append_assoc h.text extra.text r.0,
    )

-- ---- sessions

pub wrote_none : (s : Session) → ∥ Writes s s ∥₁
wrote_none s = ∣ record { count = 0; counted = omega arith; written = Written.none; holds = holds_itself s.stores } ∣₁

pub wrote_equal : (old new : Session) → new ≡ old → ∥ Writes old new ∥₁
wrote_equal old new e = subst (λ s. ∥ Writes old s ∥₁) (sym e) (wrote_none old)

pub wrote_same : (old new : Session) → SamePayoff old new → ∥ Writes old new ∥₁
wrote_same old new s = ∣ record {
  count = 0;
  counted = omega (arith, s.same_rewrites);
  written = subst (λ k. Written 0 (held_of old.stores) (held_of k)) (sym s.same_stores) Written.none;
  holds = subst (λ k. Holds old.stores (held_of k) k) (sym s.same_stores) (holds_itself old.stores);
} ∣₁

pub wrote_then : (a b c : Session) → ∥ Writes a b ∥₁ → ∥ Writes b c ∥₁ → ∥ Writes a c ∥₁
wrote_then a b c v w = ∥∥₁_map₂ v w (λ x y.
    let le = no_fewer y.written in
    record {
      count = x.count + y.count;
      counted = omega (arith, x.counted, y.counted);
      written = written_then x.written y.written;
      holds = record {
        nodes = refilled a.stores.nodes b.stores.nodes c.stores.nodes x.holds.nodes y.holds.nodes le.0;
        entries = refilled a.stores.entries b.stores.entries c.stores.entries x.holds.entries y.holds.entries le.1;
        text = refilled a.stores.text b.stores.text c.stores.text x.holds.text y.holds.text le.2;
      };
    })

wrote_once : (old new : Session) → Appends old new → ∥ Writes old new ∥₁
wrote_once old new p = ∥∥₁_map p.holds (λ h.
    let after : Held = hung (parent_of old) (grown (held_of old.stores) h.0) new.here in
    let is : held_of new.stores ≡ after = same_held (held_of new.stores) after h.1.nodes.0 h.1.entries.0 h.1.text.0 in
    record {
      count = 1;
      counted = p.counted;
      written = subst (λ k. Written 1 (held_of old.stores) k) (sym is) (Written.then (parent_of old) h.0 new.here Written.none);
      holds = record {
        nodes = renamed old.stores.nodes new.stores.nodes after.nodes h.1.nodes;
        entries = renamed old.stores.entries new.stores.entries after.entries h.1.entries;
        text = renamed old.stores.text new.stores.text after.text h.1.text;
      };
    })

pub wrote_tried : (old new : Session) (r : Result Outcome Fault) → Appended old new r → ∥ Writes old new ∥₁
wrote_tried old new (Ok Outcome.Kept) e = wrote_equal old new e
wrote_tried old new (Ok Outcome.Rewritten) e = wrote_once old new e
wrote_tried old new (Err f) e = wrote_equal old new e
