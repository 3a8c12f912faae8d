-- A template, or a string, that is built.
use Rattle.std.proofs.Common.{◌≡◌, ℕ, zero, suc, ◌+◌, ◌*◌, ◌^◌, ◌<◌, ◌≤◌, true, ◌&&◌, List, [], ◌∷◌, ◌++◌, length, Some, Ok, Err, Result, sym, refl, ap, ◌∙◌, subst, inl, inr, arith, length-append, append_assoc}
use Rattle.std.specs.List.{slice_get}
use Rattle.std.proofs.lemmas.Bool.{le-leb, and_from}
use Rattle.std.proofs.lemmas.List.{append-nil}
use Rattle.base.specs.declared.fault.Fault.{Fault}
use Rattle.text.specs.Stored.{stored}
use Rattle.template.specs.Escaped.{raw_of}
use Rattle.tree.specs.declared.node.Node.{Node}
use Rattle.tree.specs.declared.node.Node.TheVariants.{String, Quasi, Template}
use Rattle.tree.specs.declared.run.Run.{Run}
use Rattle.tree.specs.Tree.{string, quasi, template, label, labels, Denotes, DenoteAll}
use Rattle.tree.specs.Heap.{Held, look, read, within, text_at, entries_at, inside, grown}
use Rattle.tree.proofs.Growing.{grows}
use Rattle.tree.proofs.Records.{read_inside}
use Rattle.store.specs.declared.stores.Stores.{Stores}
use Rattle.store.specs.declared.stores.Counts.{Counts}
use Rattle.store.specs.declared.store.Store.{Store}
use Rattle.store.specs.Held.{held, room, Refilled, AppendsTo}
use Rattle.store.specs.Stores.{held_of}
use Rattle.meaning.specs.Expression.{Expression, Arguments, Pieces, Units}
use Rattle.meaning.specs.Trees.{tree_of, quasi_tree, piece_trees}
use Rattle.rules.specs.Building.{new_quasi, pieces_of, quasi_count, template_of}
use Rattle.building.specs.Growing.{GrowsBy, HasRoom, Pushes, one_node}
use Rattle.building.specs.Builds.{Built}
use Rattle.building.specs.Texts.{EndsWithText}
use Rattle.building.specs.Growing.{RunBetween}
use Rattle.building.specs.Quasis.{IsQuasi, raw_written}
use Rattle.building.specs.Templates.{Ended, continued, entries_of, texts_length, AreQuasis, AllDenoted, Growth, need, QuasiEnded, EndsQuasi}
use Rattle.building.specs.declared.template_builder.TemplateBuilder.{TemplateBuilder}
use Rattle.building.proofs.Refilling.{roomy, grows_on}
use Rattle.building.proofs.Escapes.{behind}
use Rattle.building.proofs.Pieces.{entries_length, quasis_more, quasis_length, need_last, all_taken}

-- ---- what the pieces denote

nth_at : {X : Type 0} (xs : List X) (y : X) (ys : List X) → slice_get (xs ++ y ∷ ys) (length xs) ≡ Some y
nth_at [] y ys = refl
nth_at (x ∷ xs) y ys = nth_at xs y ys

quasi_denoted : (h : Held) (n : ℕ) (r : Node) (u : Units) → slice_get h.nodes n ≡ Some r → IsQuasi h.text r u → Denotes (look h) (quasi_tree (new_quasi n u))
unfolding new_quasi
quasi_denoted h n r u e q =
    let in_bytes : (within h.text q.raw.start q.raw.len && (within h.text q.cooked.start q.cooked.len && true)) ≡ true =
    and_from (within h.text q.raw.start q.raw.len) (within h.text q.cooked.start q.cooked.len && true) q.raw_inside
    (and_from (within h.text q.cooked.start q.cooked.len) true q.cooked_inside refl) in
    let in_stores : inside h.entries h.text (Quasi q.raw q.cooked) ≡ true =
    and_from (within h.entries 0 0) (within h.text q.raw.start q.raw.len && (within h.text q.cooked.start q.cooked.len && true)) (le-leb 0 (length h.entries) (omega arith)) in_bytes in (
      ap (read h.entries h.text) (e ∙ ap Some q.is)
          ∙ read_inside h.entries h.text (Quasi q.raw q.cooked) in_stores
          ∙ ap (λ o. Some (o, [])) (ap (λ t. quasi t (text_at h.text q.cooked)) q.raw_text ∙ ap (quasi (raw_of u)) q.cooked_text),
      tt,
    )

-- Quasis that stand in turn, with expressions that are denoted, are the pieces.
pieces_denoted : (h : Held) (pre ns : List Node) (last : Node) (rest : List Node) (n : ℕ) (ds : Ended) (u : Units) → h.nodes ≡ pre ++ (ns ++ (last ∷ rest)) → length pre ≡ n
    → AreQuasis h.text ns ds → IsQuasi h.text last u → AllDenoted (look h) ds → DenoteAll (look h) (piece_trees (continued n ds u Arguments.no_arguments))
unfolding pieces_of
pieces_denoted h pre [] last rest n [] u e long q i all =
    (quasi_denoted h n last u (ap (λ l. slice_get l n) e ∙ ap (slice_get (pre ++ (last ∷ rest))) (sym long) ∙ nth_at pre last rest) i, tt)
pieces_denoted h pre [] last rest n (d ∷ ds) u e long q i all = absurd q
pieces_denoted h pre (r ∷ ns) last rest n [] u e long q i all = absurd q
pieces_denoted h pre (r ∷ ns) last rest n (d ∷ ds) u e long q i all = (
  quasi_denoted h n r d.0 (ap (λ l. slice_get l n) e ∙ ap (slice_get (pre ++ (r ∷ (ns ++ (last ∷ rest))))) (sym long) ∙ nth_at pre r (ns ++ (last ∷ rest))) q.0,
  (
    all.0,
    pieces_denoted h (pre ++ r ∷ []) ns last rest (suc n) ds u (e ∙ sym (append_assoc pre (r ∷ []) (ns ++ (last ∷ rest)))) (omega (arith, length-append pre (r ∷ []), long)) q.1 i all.1,
  ),
)

pieces_labelled : (n : ℕ) (ds : Ended) (u : Units) → labels (piece_trees (continued n ds u Arguments.no_arguments)) ≡ entries_of n ds ++ (n + length ds) ∷ []
unfolding pieces_of new_quasi
pieces_labelled n [] u = ap (λ k. k ∷ []) (omega arith)
pieces_labelled n (d ∷ ds) u =
    ap (λ l. n ∷ label (tree_of d.1) ∷ l) (pieces_labelled (suc n) ds u ∙ ap (λ k. entries_of (suc n) ds ++ k ∷ []) (omega arith))

pieces_counted : (n : ℕ) (ds : Ended) (u : Units) → quasi_count (continued n ds u Arguments.no_arguments) ≡ length ds + 1
unfolding pieces_of quasi_count
pieces_counted n [] u = refl
pieces_counted n (d ∷ ds) u = omega (arith, pieces_counted (suc n) ds u)

a_template : (n : ℕ) (ds : Ended) (u : Units) → 1 ≤ length ds → template_of n (continued n ds u Arguments.no_arguments) ≡ Expression.template (n + (length ds + 1)) (continued n ds u Arguments.no_arguments)
unfolding template_of
a_template n [] u some = absurd (omega (arith, some))
a_template n (d ∷ ds) u some = ap (λ k. Expression.template (n + k) (continued n (d ∷ ds) u Arguments.no_arguments)) (pieces_counted n (d ∷ ds) u)

grown_denoted : (h more : Held) (ds : Ended) → AllDenoted (look h) ds → AllDenoted (look (grown h more)) ds
grown_denoted h more [] all = tt
grown_denoted h more (d ∷ ds) all = (grows h more (tree_of d.1) all.0, grown_denoted h more ds all.1)

both_grow : (a b c : Stores) (m n : Held) → GrowsBy a m b → GrowsBy b n c → GrowsBy a (record { nodes = m.nodes ++ n.nodes; entries = m.entries ++ n.entries; text = m.text ++ n.text }) c
both_grow a b c m n p q = record {
  nodes_grow = grows_on a.nodes b.nodes c.nodes m.nodes n.nodes p.nodes_grow q.nodes_grow;
  entries_grow = grows_on a.entries b.entries c.entries m.entries n.entries p.entries_grow q.entries_grow;
  text_grows = grows_on a.text b.text c.text m.text n.text p.text_grows q.text_grows;
}

no_items : {X : Type 0} (xs : List X) → length xs ≡ 0 → xs ≡ []
no_items [] e = refl
no_items (x ∷ xs) e = absurd (omega (arith, e))

same_counts : {a b c x y z : ℕ} → a ≡ x → b ≡ y → c ≡ z → ◌≡◌ {A = Counts} (record { nodes = a; entries = b; text = c }) (record { nodes = x; entries = y; text = z })
same_counts e f g = cc

same_held : {a x : List Node} {b y c z : List ℕ} → a ≡ x → b ≡ y → c ≡ z → ◌≡◌ {A = Held} (record { nodes = a; entries = b; text = c }) (record { nodes = x; entries = y; text = z })
same_held e f h = cc

-- The last quasi is appended, and its entry.
pub record QuasiListed (old : Stores) (u : Units) (new : Stores) : Type 0 where
  pub node : Node
  pub grew : GrowsBy old (record { nodes = node ∷ []; entries = length (held old.nodes) ∷ []; text = raw_written u }) new
  pub is : IsQuasi (held new.text) node u

module _ (old : Stores) (ps : Pieces) (b : TemplateBuilder) (s : Stores) (enters : HasRoom old (need (length (held old.nodes)) ps)) (g : Growth old ps Arguments.no_arguments b s) where
  entries_held : length (held s.entries) ≡ length (held old.entries) + 2 * length g.ended
  entries_held = omega (arith, ap length g.grew.entries_grow.0, length-append (held old.entries) g.more.entries, ap length g.entries, entries_length (length (held old.nodes)) g.ended)

  nodes_held : length (held s.nodes) ≡ length (held old.nodes) + length g.ended
  nodes_held = omega (arith, ap length g.grew.nodes_grow.0, length-append (held old.nodes) g.more.nodes, quasis_length (held old.text ++ g.more.text) g.more.nodes g.ended g.quasis)

  text_held : length (held s.text) ≡ length (held old.text) + (texts_length g.ended + length (stored g.text))
  text_held = omega (arith, ap length g.grew.text_grows.0, length-append (held old.text) (g.more.text ++ stored g.text), length-append g.more.text (stored g.text), g.bytes)

  -- ---- without an expression

  module _ (count : ℕ) (counted : count ≡ length (held s.entries)) (same : count ≡ b.first_entry) where
    none_ended : g.ended ≡ []
    none_ended = no_items g.ended (omega (arith, counted, same, g.first, entries_held))

    is_last : ps ≡ Pieces.last (new_quasi (length (held old.nodes)) g.text)
    unfolding pieces_of
    is_last = g.goes_on ∙ ap (λ ds. continued (length (held old.nodes)) ds g.text Arguments.no_arguments) none_ended

    needs : need (length (held old.nodes)) ps ≡ record { nodes = 1; entries = 0; text = length (stored g.text) }
    needs = ap (need (length (held old.nodes))) is_last ∙ need_last (length (held old.nodes)) (length (held old.nodes)) g.text

    no_texts : texts_length g.ended ≡ 0
    no_texts = ap texts_length none_ended

    nothing_ended : length g.ended ≡ 0
    nothing_ended = ap length none_ended

    module _ (end : ℕ) (ended : end ≡ length (held s.text)) where
      pub text_too_long : (e : Fault) → RunBetween {X = ℕ} b.text_start end (Err e) → ⊥
      text_too_long e r =
          r (omega (arith, ended, g.starts, ap length g.grew.text_grows.0, length-append (held old.text) (g.more.text ++ stored g.text), length-append g.more.text (stored g.text), length-append (held old.text) g.more.text))
          (omega (arith, ended, text_held, no_texts, enters.for_text.1, ap (λ c. c.text) needs))

      module _ (run : Run ℕ) (ran : RunBetween b.text_start end (Ok run)) where
        no_more : g.more ≡ record { nodes = []; entries = []; text = [] }
        no_more =
            let a : g.more.nodes ≡ [] = no_items g.more.nodes (omega (arith, quasis_length (held old.text ++ g.more.text) g.more.nodes g.ended g.quasis, nothing_ended)) in
            let e : g.more.entries ≡ [] = g.entries ∙ ap (entries_of (length (held old.nodes))) none_ended in
            let t : g.more.text ≡ [] = no_items g.more.text (omega (arith, g.bytes, no_texts)) in
            same_held a e t

        whole : Held
        whole = record { nodes = String run ∷ []; entries = []; text = stored g.text }

        begins : run.start ≡ length (held old.text)
        begins = omega (arith, ran.0, g.starts, length-append (held old.text) g.more.text, ap (λ m. length m.text) no_more)

        takes : run.len ≡ length (stored g.text)
        takes = omega (arith, ran.1, ran.0, begins, ended, text_held, no_texts)

        string_denoted : Denotes (look (grown (held_of old) whole)) (tree_of (Expression.string (length (held old.nodes)) g.text))
        unfolding whole
        string_denoted =
            let at = behind (held old.text) (stored g.text) run begins takes in
            let es = held old.entries ++ [] in
            let bytes = held old.text ++ stored g.text in
            let in_stores : inside es bytes (String run) ≡ true =
            and_from (within es 0 0) (within bytes run.start run.len && true) (le-leb 0 (length es) (omega arith)) (and_from (within bytes run.start run.len) true at.0 refl) in (
              ap (read es bytes) (nth_at (held old.nodes) (String run) [])
                  ∙ read_inside es bytes (String run) in_stores
                  ∙ ap (λ t. Some (string t, [])) at.1,
              tt,
            )

        string_grows : (t : Stores) → GrowsBy s (one_node (String run)) t → GrowsBy old whole t
        unfolding whole
        string_grows t p =
            subst (λ m. GrowsBy old m t)
            (ap (λ m. record { nodes = m.nodes ++ String run ∷ []; entries = m.entries ++ []; text = (m.text ++ stored g.text) ++ [] }) no_more
            ∙ ap (λ l. record { nodes = String run ∷ []; entries = []; text = l }) (append-nil (stored g.text)))
            (both_grow old s t (record { nodes = g.more.nodes; entries = g.more.entries; text = g.more.text ++ stored g.text }) (one_node (String run)) g.grew p)

        string_alone : (t : Stores) (r : Result ℕ Fault) → Pushes s (String run) t r
            → Built old (Expression.string (length (held old.nodes)) g.text) (record { nodes = 1; entries = 0; text = length (stored g.text) }) t r
        unfolding whole
        string_alone t (Ok n) p = record {
          more = whole;
          answered = ap Ok (omega (arith, p.0, nodes_held, nothing_ended));
          grew = string_grows t p.1;
          needed = refl;
          denoted = string_denoted;
        }
        string_alone t (Err e) p =
            let same = roomy old.nodes s.nodes (held old.nodes ++ g.more.nodes) g.grew.nodes_grow (omega (arith, enters.for_nodes.0, length-append (held old.nodes) g.more.nodes, ap (λ m. length m.nodes) no_more)) in
            absurd (p (omega (arith, enters.for_nodes.0, ap (λ c. c.nodes) needs, nodes_held, nothing_ended, same), omega (arith, enters.for_nodes.1, ap (λ c. c.nodes) needs, nodes_held, nothing_ended)))

        pub string_built : (t : Stores) (r : Result ℕ Fault) → Pushes s (String run) t r → Built old (template_of (length (held old.nodes)) ps) (need (length (held old.nodes)) ps) t r
        unfolding template_of new_quasi
        string_built t r p =
            subst (λ q. Built old (template_of (length (held old.nodes)) q) (need (length (held old.nodes)) ps) t r) (sym is_last)
            (subst (λ c. Built old (Expression.string (length (held old.nodes)) g.text) c t r) (sym needs) (string_alone t r p))

  -- ---- with expressions

  module _ (count : ℕ) (counted : count ≡ length (held s.entries)) (other : count ≡ b.first_entry → ⊥) where
    some_ended : 1 ≤ length g.ended
    some_ended = at_least_one (length g.ended) (λ e. other (omega (arith, counted, g.first, entries_held, e)))
      where
        at_least_one : (n : ℕ) → (n ≡ 0 → ⊥) → 1 ≤ n
        at_least_one zero f = absurd (f refl)
        at_least_one (suc n) f = omega arith

    all_needs : need (length (held old.nodes)) ps ≡ record { nodes = length g.ended + 2; entries = 2 * length g.ended + 1; text = texts_length g.ended + (length (stored g.text) + length (raw_written g.text)) }
    all_needs = ap (need (length (held old.nodes))) g.goes_on ∙ all_taken (held_of old) g.ended g.text g.denoted some_ended

    all_nodes : (length (held old.nodes) + (length g.ended + 2) ≤ room old.nodes) × (length (held old.nodes) + (length g.ended + 2) < 2 ^ 32)
    all_nodes = (omega (arith, enters.for_nodes.0, ap (λ c. c.nodes) all_needs), omega (arith, enters.for_nodes.1, ap (λ c. c.nodes) all_needs))

    all_entries : (length (held old.entries) + (2 * length g.ended + 1) ≤ room old.entries) × (length (held old.entries) + (2 * length g.ended + 1) < 2 ^ 32)
    all_entries = (omega (arith, enters.for_entries.0, ap (λ c. c.entries) all_needs), omega (arith, enters.for_entries.1, ap (λ c. c.entries) all_needs))

    all_texts : (length (held old.text) + (texts_length g.ended + (length (stored g.text) + length (raw_written g.text))) ≤ room old.text)
        × (length (held old.text) + (texts_length g.ended + (length (stored g.text) + length (raw_written g.text))) < 2 ^ 32)
    all_texts = (omega (arith, enters.for_text.0, ap (λ c. c.text) all_needs), omega (arith, enters.for_text.1, ap (λ c. c.text) all_needs))

    nodes_room : room s.nodes ≡ room old.nodes
    nodes_room = roomy old.nodes s.nodes (held old.nodes ++ g.more.nodes) g.grew.nodes_grow (omega (arith, all_nodes.0, ap length g.grew.nodes_grow.0, nodes_held))

    entries_room : room s.entries ≡ room old.entries
    entries_room = roomy old.entries s.entries (held old.entries ++ g.more.entries) g.grew.entries_grow (omega (arith, all_entries.0, ap length g.grew.entries_grow.0, entries_held))

    text_room : room s.text ≡ room old.text
    text_room = roomy old.text s.text (held old.text ++ (g.more.text ++ stored g.text)) g.grew.text_grows (omega (arith, all_texts.0, ap length g.grew.text_grows.0, text_held))

    last_fits : HasRoom s (record { nodes = 1; entries = 0; text = length (raw_written g.text) })
    last_fits = record {
      for_nodes = (omega (arith, all_nodes.0, nodes_held, nodes_room), omega (arith, all_nodes.1, nodes_held));
      for_entries = (omega (arith, all_entries.0, entries_held, entries_room), omega (arith, all_entries.1, entries_held));
      for_text = (omega (arith, all_texts.0, text_held, text_room), omega (arith, all_texts.1, text_held));
    }

    ended_so_far : EndsWithText (held s.text) b.text_start (held old.text ++ g.more.text) g.text
    ended_so_far = record { is = g.grew.text_grows.0 ∙ sym (append_assoc (held old.text) g.more.text (stored g.text)); starts = sym g.starts; text = g.is_text }

    pub last_not_ended : (c : TemplateBuilder) (t : Stores) (e : Fault) → EndsQuasi b s c t (Err e) → ⊥
    last_not_ended c t e q = q.1 (held old.text ++ g.more.text) g.text ended_so_far last_fits

    module _ (c : TemplateBuilder) (v : Stores) (k : ℕ) (ends : EndsQuasi b s c v (Ok k)) where
      quasi_ended : QuasiEnded s g.text c v k
      quasi_ended = ends.1 (held old.text ++ g.more.text) g.text ended_so_far

      entries_same : Refilled s.entries (held s.entries) v.entries
      entries_same = subst (λ l. Refilled s.entries l v.entries) (append-nil (held s.entries)) quasi_ended.grew.entries_grow

      pub last_not_listed : (es : Store ℕ) (e : Fault) → AppendsTo v.entries (k ∷ []) es (Err e) → ⊥
      last_not_listed es e w =
          let same = roomy s.entries v.entries (held s.entries) entries_same (omega (arith, all_entries.0, entries_held, entries_room)) in
          elim w.2 [
            | inl bad ↦ bad.1 (omega (arith, all_entries.0, entries_held, entries_room, ap length entries_same.0, same))
            | inr never ↦ absurd never.1
          ]

      pub quasi_listed : (es : Store ℕ) (y : Unit {0}) → AppendsTo v.entries (k ∷ []) es (Ok y) → QuasiListed s g.text (record { nodes = v.nodes; entries = es; text = v.text })
      quasi_listed es y w = record {
        node = quasi_ended.node;
        grew = record {
          nodes_grow = quasi_ended.grew.nodes_grow;
          entries_grow =
              subst (λ j. Refilled s.entries (held s.entries ++ j ∷ []) es) quasi_ended.numbered
              (grows_on s.entries v.entries es [] (k ∷ []) quasi_ended.grew.entries_grow w.0);
          text_grows = quasi_ended.grew.text_grows;
        };
        is = quasi_ended.is;
      }

    module _ (c : TemplateBuilder) (t : Stores) (kept : c.first_entry ≡ b.first_entry) (last : QuasiListed s g.text t) where
      entries_all : length (held t.entries) ≡ length (held old.entries) + (2 * length g.ended + 1)
      entries_all = omega (arith, ap length last.grew.entries_grow.0, length-append (held s.entries) (length (held s.nodes) ∷ []), entries_held)

      nodes_all : length (held t.nodes) ≡ length (held old.nodes) + (length g.ended + 1)
      nodes_all = omega (arith, ap length last.grew.nodes_grow.0, length-append (held s.nodes) (last.node ∷ []), nodes_held)

      module _ (end : ℕ) (stops : end ≡ length (held t.entries)) where
        pub pieces_too_long : (e : Fault) → RunBetween {X = ℕ} c.first_entry end (Err e) → ⊥
        pieces_too_long e r = r (omega (arith, kept, g.first, stops, entries_all)) (omega (arith, stops, entries_all, all_entries.1))

        module _ (run : Run ℕ) (ran : RunBetween c.first_entry end (Ok run)) where
          all : Held
          all = record {
            nodes = (g.more.nodes ++ last.node ∷ []) ++ Template run ∷ [];
            entries = (g.more.entries ++ length (held s.nodes) ∷ []) ++ [];
            text = ((g.more.text ++ stored g.text) ++ raw_written g.text) ++ [];
          }

          numbers : g.more.entries ++ length (held s.nodes) ∷ [] ≡ labels (piece_trees (continued (length (held old.nodes)) g.ended g.text Arguments.no_arguments))
          numbers =
              ap (λ l. l ++ length (held s.nodes) ∷ []) g.entries
              ∙ ap (λ k. entries_of (length (held old.nodes)) g.ended ++ k ∷ []) nodes_held
              ∙ sym (pieces_labelled (length (held old.nodes)) g.ended g.text)

          listed : (within (held old.entries ++ all.entries) run.start run.len ≡ true) × (entries_at (held old.entries ++ all.entries) run ≡ all.entries)
          unfolding all
          listed =
              behind (held old.entries) ((g.more.entries ++ length (held s.nodes) ∷ []) ++ []) run (omega (arith, ran.0, kept, g.first))
              (omega (arith, ran.1, ran.0, kept, g.first, stops, entries_all, length-append (g.more.entries ++ length (held s.nodes) ∷ []) [], length-append g.more.entries (length (held s.nodes) ∷ []), ap length g.entries, entries_length (length (held old.nodes)) g.ended))

          texts_stand : held old.text ++ all.text ≡ held t.text
          unfolding all
          texts_stand =
              ap (λ l. held old.text ++ l) (append-nil ((g.more.text ++ stored g.text) ++ raw_written g.text))
              ∙ sym (append_assoc (held old.text) (g.more.text ++ stored g.text) (raw_written g.text))
              ∙ ap (λ l. l ++ raw_written g.text) (sym g.grew.text_grows.0)
              ∙ sym last.grew.text_grows.0

          quasis_stand : AreQuasis (held old.text ++ all.text) g.more.nodes g.ended
          unfolding all
          quasis_stand =
              subst (λ l. AreQuasis l g.more.nodes g.ended)
              (append_assoc (held old.text) g.more.text (stored g.text ++ raw_written g.text)
              ∙ ap (λ l. held old.text ++ l) (sym (append_assoc g.more.text (stored g.text) (raw_written g.text)) ∙ sym (append-nil ((g.more.text ++ stored g.text) ++ raw_written g.text))))
              (quasis_more (held old.text ++ g.more.text) (stored g.text ++ raw_written g.text) g.more.nodes g.ended g.quasis)

          nodes_stand : held old.nodes ++ all.nodes ≡ held old.nodes ++ (g.more.nodes ++ (last.node ∷ (Template run ∷ [])))
          unfolding all
          nodes_stand = ap (λ l. held old.nodes ++ l) (append_assoc g.more.nodes (last.node ∷ []) (Template run ∷ []))

          template_stands : slice_get (held old.nodes ++ all.nodes) (length (held old.nodes) + (length g.ended + 1)) ≡ Some (Template run)
          unfolding all
          template_stands =
              ap (slice_get (held old.nodes ++ all.nodes)) (omega (arith, length-append (held old.nodes) (g.more.nodes ++ last.node ∷ []), length-append g.more.nodes (last.node ∷ []), quasis_length (held old.text ++ g.more.text) g.more.nodes g.ended g.quasis))
              ∙ ap (λ l. slice_get l (length (held old.nodes ++ (g.more.nodes ++ last.node ∷ [])))) (sym (append_assoc (held old.nodes) (g.more.nodes ++ last.node ∷ []) (Template run ∷ [])))
              ∙ nth_at (held old.nodes ++ (g.more.nodes ++ last.node ∷ [])) (Template run) []

          template_denoted : Denotes (look (grown (held_of old) all)) (tree_of (Expression.template (length (held old.nodes) + (length g.ended + 1)) (continued (length (held old.nodes)) g.ended g.text Arguments.no_arguments)))
          unfolding all
          template_denoted =
              let es = held old.entries ++ all.entries in
              let bytes = held old.text ++ all.text in
              let in_stores : inside es bytes (Template run) ≡ true = and_from (within es run.start run.len) true listed.0 refl in (
                ap (read es bytes) template_stands
                    ∙ read_inside es bytes (Template run) in_stores
                    ∙ ap (λ l. Some (template, l)) (listed.1 ∙ append-nil (g.more.entries ++ length (held s.nodes) ∷ []) ∙ numbers),
                pieces_denoted (grown (held_of old) all) (held old.nodes) g.more.nodes last.node (Template run ∷ []) (length (held old.nodes)) g.ended g.text nodes_stand refl quasis_stand
                    (subst (λ l. IsQuasi l last.node g.text) (sym texts_stand) last.is) (grown_denoted (held_of old) all g.ended g.denoted),
              )

          pub template_alone : (v : Stores) (r : Result ℕ Fault) → Pushes t (Template run) v r
              → Built old (Expression.template (length (held old.nodes) + (length g.ended + 1)) (continued (length (held old.nodes)) g.ended g.text Arguments.no_arguments))
              (record { nodes = length g.ended + 2; entries = 2 * length g.ended + 1; text = texts_length g.ended + (length (stored g.text) + length (raw_written g.text)) }) v r
          unfolding all
          template_alone v (Ok n) p = record {
            more = all;
            answered = ap Ok (p.0 ∙ nodes_all);
            grew =
                both_grow old t v (record { nodes = g.more.nodes ++ last.node ∷ []; entries = g.more.entries ++ length (held s.nodes) ∷ []; text = (g.more.text ++ stored g.text) ++ raw_written g.text }) (one_node (Template run))
                (both_grow old s t (record { nodes = g.more.nodes; entries = g.more.entries; text = g.more.text ++ stored g.text }) (record { nodes = last.node ∷ []; entries = length (held s.nodes) ∷ []; text = raw_written g.text }) g.grew last.grew) p.1;
            needed =
                same_counts
                (omega (arith, length-append (g.more.nodes ++ last.node ∷ []) (Template run ∷ []), length-append g.more.nodes (last.node ∷ []), quasis_length (held old.text ++ g.more.text) g.more.nodes g.ended g.quasis))
                (omega (arith, length-append (g.more.entries ++ length (held s.nodes) ∷ []) [], length-append g.more.entries (length (held s.nodes) ∷ []), ap length g.entries, entries_length (length (held old.nodes)) g.ended))
                (omega (arith, length-append ((g.more.text ++ stored g.text) ++ raw_written g.text) [], length-append (g.more.text ++ stored g.text) (raw_written g.text), length-append g.more.text (stored g.text), g.bytes));
            denoted = template_denoted;
          }
          template_alone v (Err e) p =
              let same = roomy s.nodes t.nodes (held s.nodes ++ last.node ∷ []) last.grew.nodes_grow (omega (arith, all_nodes.0, nodes_room, ap length last.grew.nodes_grow.0, nodes_all)) in
              absurd (p (omega (arith, all_nodes.0, nodes_all, same, nodes_room), omega (arith, all_nodes.1, nodes_all)))

          pub template_built : (v : Stores) (r : Result ℕ Fault) → Pushes t (Template run) v r → Built old (template_of (length (held old.nodes)) ps) (need (length (held old.nodes)) ps) v r
          template_built v r p =
              subst (λ x. Built old x (need (length (held old.nodes)) ps) v r) (sym (ap (template_of (length (held old.nodes))) g.goes_on ∙ a_template (length (held old.nodes)) g.ended g.text some_ended))
              (subst (λ k. Built old (Expression.template (length (held old.nodes) + (length g.ended + 1)) (continued (length (held old.nodes)) g.ended g.text Arguments.no_arguments)) k v r) (sym all_needs) (template_alone v r p))
