-- The cursor's node is rewritten: the stores grow, and the link to it, or the root's number, is changed.
use Rattle.std.proofs.Common.{◌≡◌, ℕ, ◌+◌, ◌-◌, ◌<◌, ◌≤◌, Bool, true, false, cond, ltb, set, None, List, [], ◌∷◌, ◌++◌, length, take, get_or, Some, Option, sym, refl, ap, ◌∙◌, subst, arith}
use Rattle.std.specs.List.{slice_get}
use Rattle.std.specs.Option.{option_map}
use Rattle.std.proofs.lemmas.List.{length-set, length-map, length-append}
use Rattle.tree.specs.declared.node.Node.{Node}
use Rattle.tree.specs.Tree.{Tree, tree, label, uses, Denotes, at_place, among, replace}
use Rattle.tree.specs.Heap.{Held, look, links, list_of, with_link, relinked, linked_at, grown}
use Rattle.tree.specs.Limits.{WithinLimits}
use Rattle.tree.proofs.Growing.{grows}
use Rattle.tree.proofs.Hanging.{hung}
use Rattle.tree.proofs.Places.{above, labelled, place_last, place_replace, denotes_place}
use Rattle.tree.proofs.Relinking.{one_place}
use Rattle.meaning.specs.Expression.{Expression}
use Rattle.meaning.specs.Trees.{tree_of}
use Rattle.meaning.specs.Payoffs.{StoredAs}
use Rattle.meaning.proofs.Reading.{one_expression}
use Rattle.host.specs.Answers.{Answers}
use Rattle.rules.specs.Deciding.{decided}
use Rattle.rules.specs.Size.{size}
use Rattle.model.specs.Model.{Given, Model, At, Sound}
use Rattle.model.specs.Tries.{Rule, decision, need, rewritten}
use Rattle.model.proofs.Making.{makes_smaller}
use Rattle.model.proofs.Steady.{rewrite_sound, rewrite_shrinks, new_distinct, old_numbers}
use Rattle.model.proofs.Without.{without}
use Rattle.session.specs.declared.step.Step.{Step}
use Rattle.session.specs.Models.{Models, children, numbers, counts}

-- A changed link leaves the counts as they are.
module _ (h : Held) (q i n : ℕ) where
  by_kind : (r : Node) (b c : Bool)
      → counts (cond b (record { nodes = set h.nodes q (with_link r i n); entries = h.entries; text = h.text })
      (cond c (record { nodes = h.nodes; entries = set h.entries ((list_of r).start + (i - length (links r))) n; text = h.text }) h)) ≡ counts h
  by_kind r true c = ap (λ k. record { nodes = k; entries = length h.entries; text = length h.text }) (length-set h.nodes q (with_link r i n))
  by_kind r false true = ap (λ k. record { nodes = length h.nodes; entries = k; text = length h.text }) (length-set h.entries ((list_of r).start + (i - length (links r))) n)
  by_kind r false false = refl

  linked_counts : (r : Option Node) → counts (linked_at h q r i n) ≡ counts h
  linked_counts None = refl
  linked_counts (Some r) = by_kind r (ltb i (length (links r))) (ltb (i - length (links r)) (list_of r).len)

  pub relinked_counts : counts (relinked h q i n) ≡ counts h
  relinked_counts = linked_counts (slice_get h.nodes q)

  -- And the text.
  text_by_kind : (r : Node) (b c : Bool)
      → (cond b (record { nodes = set h.nodes q (with_link r i n); entries = h.entries; text = h.text })
      (cond c (record { nodes = h.nodes; entries = set h.entries ((list_of r).start + (i - length (links r))) n; text = h.text }) h)).text ≡ h.text
  text_by_kind r true c = refl
  text_by_kind r false true = refl
  text_by_kind r false false = refl

  linked_text : (r : Option Node) → (linked_at h q r i n).text ≡ h.text
  linked_text None = refl
  linked_text (Some r) = text_by_kind r (ltb i (length (links r))) (ltb (i - length (links r)) (list_of r).len)

  pub relinked_text : (relinked h q i n).text ≡ h.text
  relinked_text = linked_text (slice_get h.nodes q)

-- And what is appended adds to them.
pub grown_counts : (h extra : Held) → counts (grown h extra) ≡ record { nodes = length h.nodes + length extra.nodes; entries = length h.entries + length extra.entries; text = length h.text + length extra.text }
grown_counts h extra =
    let n : length (h.nodes ++ extra.nodes) ≡ length h.nodes + length extra.nodes = length-append h.nodes extra.nodes in
    let e : length (h.entries ++ extra.entries) ≡ length h.entries + length extra.entries = length-append h.entries extra.entries in
    let t : length (h.text ++ extra.text) ≡ length h.text + length extra.text = length-append h.text extra.text in
    cc

within_counts : (h k : Held) → counts k ≡ counts h → WithinLimits h → WithinLimits k
within_counts h k e w = (omega (arith, ap (λ c. c.nodes) e, w.0), omega (arith, ap (λ c. c.entries) e, w.1), omega (arith, ap (λ c. c.text) e, w.2))

empty_trail : (trail : List Step) → length trail ≡ 0 → children trail ≡ []
empty_trail [] e = refl
empty_trail (s ∷ ss) e = absurd (omega arith)

replaced_top : (t u : Tree) → replace t [] u ≡ u
replaced_top (tree l o ts) u = refl

label_below : (t u : Tree) (p : List ℕ) (i : ℕ) → label (replace t (p ++ i ∷ []) u) ≡ label t
label_below (tree l o ts) u [] i = refl
label_below (tree l o ts) u (j ∷ p) i = refl

module _ (g : Given) (a : Answers) (rule : Rule) (h : Held) (root here : ℕ) (trail : List Step) (count : ℕ) (m : Model) (is : Models h root here trail count m) where
  module _ (x y : Expression) (at : At m x) (made : decided a (decision g a rule m x) ≡ Some y)
      (extra : Held) (denoted : Denotes (look (grown h extra)) (tree_of y)) (needed : counts extra ≡ need g a rule m x y) (limited : WithinLimits (grown h extra)) where
    abbrev after : Model
    after = rewritten m y (need g a rule m x y)

    sound : Sound after
    sound = rewrite_sound g a rule m x y is.sound at made

    trail_above : (d : ℕ) → d < length trail → option_map label (at_place after.whole (take d (children trail))) ≡ Some (get_or (numbers trail) d 0)
    trail_above d lt =
        ap (λ p. option_map label (at_place after.whole (take d p))) (sym is.placed)
        ∙ above m.whole m.place (tree_of y) d (omega (arith, ap length is.placed, length-map trail (λ s. s.child)))
        ∙ ap (λ p. option_map label (at_place m.whole (take d p))) is.placed
        ∙ is.trailed d lt

    still_bounded : (v : Expression) → StoredAs after.whole v → after.rewrites + size v ≤ 8192
    still_bounded v s =
        let u = one_expression m.whole is.sound.payoff in
        omega (arith, is.bounded u.0 u.1, rewrite_shrinks g a rule m x y is.sound at made u.0 v u.1 s)

    now_held : after.held ≡ counts (grown h extra)
    now_held =
        let c : m.held ≡ counts h = is.held in
        let d : counts extra ≡ need g a rule m x y = needed in
        let e = grown_counts h extra in
        ap (λ k. record { nodes = k.nodes + (need g a rule m x y).nodes; entries = k.entries + (need g a rule m x y).entries; text = k.text + (need g a rule m x y).text }) c
        ∙ ap (λ k. record { nodes = length h.nodes + k.nodes; entries = length h.entries + k.entries; text = length h.text + k.text }) (sym d)
        ∙ sym e

    -- In whichever stores and with whichever root the tree is denoted that is left.
    models_after : (k : Held) (top : ℕ) → Denotes (look k) after.whole → label after.whole ≡ top → counts k ≡ counts (grown h extra)
        → Models k top (label (tree_of y)) trail (count + 1) after
    models_after k top d r c = record {
      denoted = d;
      sound = sound;
      limited = within_counts (grown h extra) k c limited;
      rooted = r;
      placed = is.placed;
      trailed = trail_above;
      at_cursor = ap (option_map label) (place_replace m.whole m.place (tree_of x) (tree_of y) at.1);
      counted = omega (arith, is.counted);
      held = now_held ∙ sym c;
      bounded = still_bounded;
    }

    -- The root is rewritten.
    pub rewritten_root : length trail ≡ 0 → Models (grown h extra) (label (tree_of y)) (label (tree_of y)) trail (count + 1) after
    rewritten_root none =
        let whole : after.whole ≡ tree_of y = ap (λ p. replace m.whole p (tree_of y)) (is.placed ∙ empty_trail trail none) ∙ replaced_top m.whole (tree_of y) in
        models_after (grown h extra) (label (tree_of y)) (subst (Denotes (look (grown h extra))) (sym whole) denoted) (ap label whole) refl

    -- A node below it is: by the last step, which left the node q for its child i.
    pub rewritten_below : (p : List ℕ) (q i : ℕ) → children trail ≡ p ++ i ∷ [] → option_map label (at_place m.whole p) ≡ Some q
        → Models (relinked (grown h extra) q i (label (tree_of y))) root (label (tree_of y)) trail (count + 1) after
    rewritten_below p q i path parent =
        let l = labelled (at_place m.whole p) q parent in
        let there : at_place m.whole (p ++ i ∷ []) ≡ Some (tree_of x) = ap (at_place m.whole) (sym (is.placed ∙ path)) ∙ at.1 in
        let kid : among l.1 i [] ≡ Some (tree_of x) = sym (place_last m.whole p i q l.0 l.1 l.2) ∙ there in
        let old = old_numbers g a rule m x y is.sound at made in
        let small : size y < size x = makes_smaller a g.supported m.held.nodes _ x y rule made in
        let was : Denotes (look (grown h extra)) (tree_of x) = denotes_place (look (grown h extra)) m.whole m.place (tree_of x) at.1 (grows h extra m.whole is.denoted) in
        let apart : uses (label (tree_of x)) (tree_of y) ≡ 0 = without (look (grown h extra)) x y was denoted small in
        let new : Denotes (look (relinked (grown h extra) q i (label (tree_of y)))) (tree_of y) =
        hung h extra m.whole p q l.0 l.1 i (tree_of x) (tree_of y) is.denoted is.sound.distinct l.2 kid denoted old apart in
        let d = one_place h extra m.whole p q l.0 l.1 i (tree_of x) (tree_of y) is.denoted is.sound.distinct l.2 kid new (new_distinct g a rule m x y is.sound at made) old in
        let same : replace m.whole (p ++ i ∷ []) (tree_of y) ≡ after.whole = ap (λ r. replace m.whole r (tree_of y)) (sym (is.placed ∙ path)) in
        models_after (relinked (grown h extra) q i (label (tree_of y))) root (subst (Denotes (look (relinked (grown h extra) q i (label (tree_of y))))) same d.0)
        (ap label (sym same) ∙ label_below m.whole (tree_of y) p i ∙ is.rooted) (relinked_counts (grown h extra) q i (label (tree_of y)))
