-- A template that grows behind all that the stores hold.
use Rattle.std.proofs.Common.{◌≡◌, ℕ, ◌+◌, ◌≤◌, true, List, [], ◌∷◌, ◌++◌, length, None, Ok, Err, Result, sym, refl, ap, ◌∙◌, subst, inl, inr, arith, length-append, append_assoc}
use Rattle.std.proofs.lemmas.Bool.{leb-true, le-leb}
use Rattle.std.proofs.lemmas.List.{append-nil}
use Rattle.base.specs.declared.fault.Fault.{Fault}
use Rattle.text.specs.Stored.{stored, Stores as StoresText}
use Rattle.text.proofs.Pairing.{text_append}
use Rattle.tree.specs.declared.run.Run.{Run}
use Rattle.tree.specs.Tree.{label, Denotes}
use Rattle.tree.specs.Heap.{look, within, text_at}
use Rattle.tree.proofs.Cuts.{cut_more}
use Rattle.store.specs.declared.store.Store.{Store}
use Rattle.store.specs.declared.stores.Stores.{Stores}
use Rattle.store.specs.Held.{held, room, Refilled, AppendsTo}
use Rattle.store.specs.Stores.{held_of}
use Rattle.meaning.specs.Expression.{Expression, Arguments, Pieces, Units}
use Rattle.meaning.specs.Trees.{tree_of}
use Rattle.rules.specs.Building.{text_of, pieces_of, append_arguments}
use Rattle.deciding.specs.Standing.{Spells}
use Rattle.building.specs.Growing.{HasRoom, Takes}
use Rattle.building.specs.Texts.{EndsWithText, TwoTexts, JoinsText}
use Rattle.building.specs.Quasis.{IsQuasi, raw_written}
use Rattle.building.specs.Templates.{Ended, continued, entries_of, AreQuasis, AllDenoted, Growth, need, GrowthOr, QuasiEnded, EndsQuasi}
use Rattle.building.specs.declared.template_builder.TemplateBuilder.{TemplateBuilder}
use Rattle.building.proofs.Refilling.{again, as_it_was, roomy, grows_on}
use Rattle.building.proofs.Pieces.{continued_string, continued_spread, continued_other, entries_append, entries_length, texts_append, denoted_append, quasis_more, quasis_append, quasis_length, longer_text, enough_text, enough}

unchanged : {T : Type 0} (s : Store T) → Refilled s (held s ++ []) s
unchanged s = subst (λ l. Refilled s l s) (sym (append-nil (held s))) (as_it_was s)

-- ---- the beginning

module _ (s : Stores) (base : Run ℕ) (t : Store ℕ) (first start : ℕ) (f : first ≡ length (held s.entries)) (e : start ≡ length (held s.text))
    (u : Units) (xs : Arguments) (p : Spells (held_of s) base u) (enters : HasRoom s (need (length (held s.nodes)) (pieces_of (length (held s.nodes)) u xs))) where
  none_so_far : TwoTexts (held s.text) start base (held s.text) [] u
  none_so_far = record { ends = record { is = sym (append-nil (held s.text)); starts = sym e; text = tt }; inside = p.0; spelled = p.1 }

  pub begun : (y : Unit {0}) → JoinsText s.text start base t (Ok y)
      → Growth s (pieces_of (length (held s.nodes)) u xs) xs (record { first_entry = first; text_start = start }) (record { nodes = s.nodes; entries = s.entries; text = t })
  begun y j = record {
    more = record { nodes = []; entries = []; text = [] };
    ended = [];
    text = u;
    grew = record { nodes_grow = unchanged s.nodes; entries_grow = unchanged s.entries; text_grows = j (held s.text) [] u none_so_far };
    goes_on = refl;
    is_text = p.1.0;
    quasis = tt;
    entries = refl;
    denoted = tt;
    bytes = refl;
    first = f;
    starts = e ∙ ap length (sym (append-nil (held s.text)));
  }

  pub not_begun : (x : Fault) → JoinsText s.text start base t (Err x) → ⊥
  not_begun x j =
      j (held s.text) [] u none_so_far
      (omega (arith, length-append (held s.text) (stored u), enters.for_text.0, enough_text (held_of s) [] u xs tt))

-- ---- one more argument

module _ (old : Stores) (ps : Pieces) (rest : Arguments) (b : TemplateBuilder) (s : Stores) (enters : HasRoom old (need (length (held old.nodes)) ps)) where
  -- A spread adds nothing.
  pub spread_added : (l : ℕ) (x : Expression) → Growth old ps (Arguments.spread_argument l x rest) b s → Growth old ps rest b s
  spread_added l x g = record {
    more = g.more;
    ended = g.ended;
    text = g.text;
    grew = g.grew;
    goes_on = g.goes_on ∙ continued_spread (length (held old.nodes)) g.ended g.text l x rest;
    is_text = g.is_text;
    quasis = g.quasis;
    entries = g.entries;
    denoted = g.denoted;
    bytes = g.bytes;
    first = g.first;
    starts = g.starts;
  }

  -- A string is joined to the text.
  module _ (l : ℕ) (v : Units) (g : Growth old ps (Arguments.argument (Expression.string l v) rest) b s) (run : Run ℕ)
      (inside : within (held old.text) run.start run.len ≡ true) (spelled : StoresText (text_at (held old.text) run) v) where
    before : List ℕ
    before = held old.text ++ g.more.text

    low : run.start + run.len ≤ length (held old.text)
    low = leb-true (run.start + run.len) (length (held old.text)) inside

    texts : TwoTexts (held s.text) b.text_start run before g.text v
    unfolding before
    texts = record {
      ends = record { is = g.grew.text_grows.0 ∙ sym (append_assoc (held old.text) g.more.text (stored g.text)); starts = sym g.starts; text = g.is_text };
      inside = le-leb (run.start + run.len) (length (held old.text ++ g.more.text)) (omega (arith, low, length-append (held old.text) g.more.text));
      spelled = subst (λ t. StoresText t v) (sym (cut_more (held old.text) run.start run.len g.more.text low)) spelled;
    }

    goes : ps ≡ continued (length (held old.nodes)) g.ended (g.text ++ v) rest
    goes = g.goes_on ∙ continued_string (length (held old.nodes)) g.ended g.text l v rest

    fits : length (held old.text) + (length g.more.text + length (stored (g.text ++ v))) ≤ room old.text
    fits =
        let e = enough_text (held_of old) g.ended (g.text ++ v) rest g.denoted in
        omega (arith, enters.for_text.0, e, g.bytes, ap (λ q. (need (length (held old.nodes)) q).text) goes)

    as_long : room s.text ≡ room old.text
    as_long =
        roomy old.text s.text (held old.text ++ (g.more.text ++ stored g.text)) g.grew.text_grows
        (omega (arith, fits, longer_text g.text v, length-append (held old.text) (g.more.text ++ stored g.text), length-append g.more.text (stored g.text)))

    pub string_added : (t : Store ℕ) (r : Result (Unit {0}) Fault) → JoinsText s.text b.text_start run t r → GrowthOr old ps rest b (record { nodes = s.nodes; entries = s.entries; text = t }) r
    unfolding before
    string_added t (Ok y) j = record {
      more = g.more;
      ended = g.ended;
      text = g.text ++ v;
      grew = record {
        nodes_grow = g.grew.nodes_grow;
        entries_grow = g.grew.entries_grow;
        text_grows =
            again old.text s.text t (held old.text ++ (g.more.text ++ stored g.text)) (held old.text ++ (g.more.text ++ stored (g.text ++ v))) g.grew.text_grows
            (subst (λ m. Refilled s.text m t) (append_assoc (held old.text) g.more.text (stored (g.text ++ v))) (j before g.text v texts))
            (omega (
              arith,
              longer_text g.text v,
              length-append (held old.text) (g.more.text ++ stored g.text),
              length-append g.more.text (stored g.text),
              length-append (held old.text) (g.more.text ++ stored (g.text ++ v)),
              length-append g.more.text (stored (g.text ++ v)),
            ));
      };
      goes_on = goes;
      is_text = text_append g.text v g.is_text spelled.0;
      quasis = g.quasis;
      entries = g.entries;
      denoted = g.denoted;
      bytes = g.bytes;
      first = g.first;
      starts = g.starts;
    }
    string_added t (Err e) j =
        absurd (j before g.text v texts
        (omega (arith, as_long, fits, length-append (held old.text ++ g.more.text) (stored (g.text ++ v)), length-append (held old.text) g.more.text)))

  -- Any other expression ends a quasi.
  module _ (x : Expression) (g : Growth old ps (Arguments.argument x rest) b s) (plain : text_of x ≡ None) (n : ℕ) (numbered : label (tree_of x) ≡ n) (denoted : Denotes (look (held_of old)) (tree_of x)) where
    pub ended_so_far : EndsWithText (held s.text) b.text_start (held old.text ++ g.more.text) g.text
    ended_so_far = record { is = g.grew.text_grows.0 ∙ sym (append_assoc (held old.text) g.more.text (stored g.text)); starts = sym g.starts; text = g.is_text }

    now : Ended
    now = g.ended ++ (g.text, x) ∷ []

    goes_next : ps ≡ continued (length (held old.nodes)) now [] rest
    unfolding now
    goes_next = g.goes_on ∙ continued_other (length (held old.nodes)) g.ended g.text x rest plain

    all_denoted : AllDenoted (look (held_of old)) now
    unfolding now
    all_denoted = denoted_append (look (held_of old)) g.ended g.text x g.denoted denoted

    one_longer : length now ≡ length g.ended + 1
    unfolding now
    one_longer = length-append g.ended ((g.text, x) ∷ [])

    record Fits : Type 0 where
      nodes_fit : Takes (length (held old.nodes)) (length g.more.nodes + 2) (room old.nodes)
      entries_fit : Takes (length (held old.entries)) (length g.more.entries + 3) (room old.entries)
      text_fits : Takes (length (held old.text)) (length g.more.text + (length (stored g.text) + length (raw_written g.text))) (room old.text)

    fits_next : Fits
    unfolding now
    fits_next =
        let e = enough (held_of old) now [] rest all_denoted (omega (arith, one_longer)) in
        let q = quasis_length (held old.text ++ g.more.text) g.more.nodes g.ended g.quasis in
        let k = ap length g.entries ∙ entries_length (length (held old.nodes)) g.ended in
        let c = ap (need (length (held old.nodes))) goes_next in
        let t = texts_append g.ended g.text x in
        record {
          nodes_fit = (omega (arith, enters.for_nodes.0, e.some_nodes, one_longer, q, ap (λ y. y.nodes) c), omega (arith, enters.for_nodes.1, e.some_nodes, one_longer, q, ap (λ y. y.nodes) c));
          entries_fit = (omega (arith, enters.for_entries.0, e.some_entries, one_longer, k, ap (λ y. y.entries) c), omega (arith, enters.for_entries.1, e.some_entries, one_longer, k, ap (λ y. y.entries) c));
          text_fits = (omega (arith, enters.for_text.0, e.some_text, t, g.bytes, ap (λ y. y.text) c), omega (arith, enters.for_text.1, e.some_text, t, g.bytes, ap (λ y. y.text) c));
        }

    nodes_held : length (held s.nodes) ≡ length (held old.nodes) + length g.more.nodes
    nodes_held = ap length g.grew.nodes_grow.0 ∙ length-append (held old.nodes) g.more.nodes

    entries_held : length (held s.entries) ≡ length (held old.entries) + length g.more.entries
    entries_held = ap length g.grew.entries_grow.0 ∙ length-append (held old.entries) g.more.entries

    text_held : length (held s.text) ≡ length (held old.text) + (length g.more.text + length (stored g.text))
    text_held = omega (arith, ap length g.grew.text_grows.0, length-append (held old.text) (g.more.text ++ stored g.text), length-append g.more.text (stored g.text))

    nodes_room : room s.nodes ≡ room old.nodes
    nodes_room = let f = fits_next in roomy old.nodes s.nodes (held old.nodes ++ g.more.nodes) g.grew.nodes_grow (omega (arith, f.nodes_fit.0, length-append (held old.nodes) g.more.nodes))

    entries_room : room s.entries ≡ room old.entries
    entries_room = let f = fits_next in roomy old.entries s.entries (held old.entries ++ g.more.entries) g.grew.entries_grow (omega (arith, f.entries_fit.0, length-append (held old.entries) g.more.entries))

    text_room : room s.text ≡ room old.text
    text_room =
        let f = fits_next in
        roomy old.text s.text (held old.text ++ (g.more.text ++ stored g.text)) g.grew.text_grows
        (omega (arith, f.text_fits.0, length-append (held old.text) (g.more.text ++ stored g.text), length-append g.more.text (stored g.text)))

    pub quasi_fits : HasRoom s (record { nodes = 1; entries = 0; text = length (raw_written g.text) })
    quasi_fits =
        let f = fits_next in
        record {
          for_nodes = (omega (arith, f.nodes_fit.0, nodes_held, nodes_room), omega (arith, f.nodes_fit.1, nodes_held));
          for_entries = (omega (arith, f.entries_fit.0, entries_held, entries_room), omega (arith, f.entries_fit.1, entries_held));
          for_text = (omega (arith, f.text_fits.0, text_held, text_room), omega (arith, f.text_fits.1, text_held));
        }

    pub not_ended : (c : TemplateBuilder) (t : Stores) (e : Fault) → EndsQuasi b s c t (Err e) → ⊥
    not_ended c t e q = q.1 (held old.text ++ g.more.text) g.text ended_so_far quasi_fits

    module _ (c : TemplateBuilder) (t : Stores) (k : ℕ) (ends : EndsQuasi b s c t (Ok k)) where
      quasi : QuasiEnded s g.text c t k
      quasi = ends.1 (held old.text ++ g.more.text) g.text ended_so_far

      in_turn : k ≡ length (held old.nodes) + length g.ended
      in_turn = omega (arith, quasi.numbered, nodes_held, quasis_length (held old.text ++ g.more.text) g.more.nodes g.ended g.quasis)

      bytes_now : List ℕ
      bytes_now = (g.more.text ++ stored g.text) ++ raw_written g.text

      text_now : Refilled old.text (held old.text ++ bytes_now) t.text
      unfolding bytes_now
      text_now = grows_on old.text s.text t.text (g.more.text ++ stored g.text) (raw_written g.text) g.grew.text_grows quasi.grew.text_grows

      bytes_before : (held old.text ++ g.more.text) ++ (stored g.text ++ raw_written g.text) ≡ held old.text ++ bytes_now
      unfolding bytes_now
      bytes_before =
          append_assoc (held old.text) g.more.text (stored g.text ++ raw_written g.text)
          ∙ ap (λ l. held old.text ++ l) (sym (append_assoc g.more.text (stored g.text) (raw_written g.text)))

      quasis_now : AreQuasis (held old.text ++ bytes_now) (g.more.nodes ++ quasi.node ∷ []) now
      unfolding now
      quasis_now =
          quasis_append (held old.text ++ bytes_now) g.more.nodes g.ended quasi.node g.text x
          (subst (λ l. AreQuasis l g.more.nodes g.ended) bytes_before (quasis_more (held old.text ++ g.more.text) (stored g.text ++ raw_written g.text) g.more.nodes g.ended g.quasis))
          (subst (λ l. IsQuasi l quasi.node g.text) text_now.0 quasi.is)

      entries_now : g.more.entries ++ (k ∷ n ∷ []) ≡ entries_of (length (held old.nodes)) now
      unfolding now
      entries_now =
          ap (λ l. l ++ (k ∷ n ∷ [])) g.entries
          ∙ ap (λ j. entries_of (length (held old.nodes)) g.ended ++ (j ∷ n ∷ [])) in_turn
          ∙ ap (λ j. entries_of (length (held old.nodes)) g.ended ++ ((length (held old.nodes) + length g.ended) ∷ j ∷ [])) (sym numbered)
          ∙ sym (entries_append (length (held old.nodes)) g.ended g.text x)

      entries_behind : Refilled old.entries (held old.entries ++ g.more.entries) t.entries
      entries_behind =
          subst (λ l. Refilled old.entries (held old.entries ++ l) t.entries) (append-nil g.more.entries)
          (grows_on old.entries s.entries t.entries g.more.entries [] g.grew.entries_grow quasi.grew.entries_grow)

      pub other_added : (es : Store ℕ) (r : Result (Unit {0}) Fault) → AppendsTo t.entries (k ∷ n ∷ []) es r → GrowthOr old ps rest c (record { nodes = t.nodes; entries = es; text = t.text }) r
      unfolding now bytes_now
      other_added es (Ok z) w = record {
        more = record { nodes = g.more.nodes ++ quasi.node ∷ []; entries = g.more.entries ++ (k ∷ n ∷ []); text = bytes_now };
        ended = now;
        text = [];
        grew = record {
          nodes_grow = grows_on old.nodes s.nodes t.nodes g.more.nodes (quasi.node ∷ []) g.grew.nodes_grow quasi.grew.nodes_grow;
          entries_grow = grows_on old.entries t.entries es g.more.entries (k ∷ n ∷ []) entries_behind w.0;
          text_grows = subst (λ l. Refilled old.text (held old.text ++ l) t.text) (sym (append-nil bytes_now)) text_now;
        };
        goes_on = goes_next;
        is_text = tt;
        quasis = quasis_now;
        entries = entries_now;
        denoted = all_denoted;
        bytes = omega (arith, texts_append g.ended g.text x, g.bytes, length-append (g.more.text ++ stored g.text) (raw_written g.text), length-append g.more.text (stored g.text));
        first = ends.0 ∙ g.first;
        starts = quasi.starts ∙ ap length text_now.0;
      }
      other_added es (Err e) w =
          let f = fits_next in
          let long = length-append (held old.entries) g.more.entries in
          let same = roomy old.entries t.entries (held old.entries ++ g.more.entries) entries_behind (omega (arith, f.entries_fit.0, long)) in
          elim w.2 [
            | inl bad ↦ absurd (bad.1 (omega (arith, f.entries_fit.0, ap length entries_behind.0, long, same)))
            | inr never ↦ absurd never.1
          ]

-- ---- the argument in front

module _ {old : Stores} {ps : Pieces} {rest : Arguments} {b : TemplateBuilder} {s : Stores} {xs : Arguments} where
  pub argument_in_front : {x : Expression} → xs ≡ Arguments.argument x Arguments.no_arguments → Growth old ps (append_arguments xs rest) b s → Growth old ps (Arguments.argument x rest) b s
  unfolding append_arguments
  argument_in_front e g = subst (λ ys. Growth old ps (append_arguments ys rest) b s) e g

  pub spread_in_front : {l : ℕ} {x : Expression} → xs ≡ Arguments.spread_argument l x Arguments.no_arguments → Growth old ps (append_arguments xs rest) b s → Growth old ps (Arguments.spread_argument l x rest) b s
  unfolding append_arguments
  spread_in_front e g = subst (λ ys. Growth old ps (append_arguments ys rest) b s) e g
