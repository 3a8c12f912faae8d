-- From the questions of each step to those of load.
use Rattle.std.proofs.Common.{◌≡◌, ℕ, List, ◌∷◌, ◌++◌, map, length, drop, Ok, sym, refl, ap, ◌∙◌, subst, inl, inr, arith}
use Rattle.std.proofs.lemmas.List.{length-map}
use Rattle.base.specs.declared.fault.Fault.{Fault}
use Rattle.base.specs.declared.fault.Fault.TheVariants.{StoresTooSmall}
use Rattle.base.specs.Questions.{Refuses, Granted}
use Rattle.base.proofs.Asking.{refuses_first, refuses_later, granted_each}
use Rattle.store.specs.declared.store.Store.{Store}
use Rattle.store.specs.declared.stores.Counts.{Counts}
use Rattle.store.specs.declared.stores.Stores.{Stores}
use Rattle.store.specs.Held.{held, lent, Refilled}
use Rattle.store.specs.Stores.{held_of, rooms_of}
use Rattle.tree.proofs.Cuts.{length_cut}
use Rattle.file.specs.declared.sections.Sections.{Sections}
use Rattle.file.specs.declared.records.Records.{Records}
use Rattle.file.specs.Calls.{Holds}
use Rattle.file.specs.Payoff.{IsPayoffRoot}
use Rattle.file.specs.Format.{word, record_of}
use Rattle.file.specs.Layout.{layout, root, node_count, entry_count, text_count, text_offset}
use Rattle.file.specs.Lawful.{Contents, LawfulFile, Fits, LawfulRecord, size_questions, record_questions, link_questions, load_questions}
use Rattle.file.specs.Found.{laid, AllRecords}
use Rattle.file.specs.Steps.{CutsInto, FitsIn, AllLinks, Checked, CopiesTo}
use Rattle.file.proofs.Words.{length_words}
use Rattle.file.proofs.Counted.{limited as within_limits}
use Rattle.tree.specs.Limits.{WithinLimits}
use Rattle.file.proofs.Granting.{held_lawful}
use Rattle.file.proofs.TreeOf.{payoff_of}

module _ (file : List ℕ) (rooms : Counts) (s : Sections) (k : CutsInto file (Ok s)) where
  same : laid s ≡ layout file
  same = k.2

  count_same : length s.nodes.now ≡ node_count file
  count_same = ap (λ l. l.count) same

  entries_same : length s.entries.now ≡ entry_count file
  entries_same =
      sym (length-map s.entries.now (λ entry. word entry 0)) ∙ ap (λ l. length l.entries) same ∙ length_words _ 0 (entry_count file)

  text_same : length s.text.now ≡ text_count file
  text_same = ap (λ l. length l.text) same ∙ length_cut file (text_offset file) (text_count file) (omega (arith, k.1.whole, k.1.text_last))

  pub fits_file : FitsIn s rooms → Fits file rooms
  fits_file f = record { nodes_fit = omega (arith, f.0, count_same); entries_fit = omega (arith, f.1, entries_same); text_fits = omega (arith, f.2, text_same) }

  fits_back : Fits file rooms → FitsIn s rooms
  fits_back f = (omega (arith, f.nodes_fit, count_same), omega (arith, f.entries_fit, entries_same), omega (arith, f.text_fits, text_same))

  sized_yes : Granted (size_questions file)
  sized_yes = (k.0, (k.1, tt))

  pub room_refused : (FitsIn s rooms → ⊥) → Refuses (load_questions file rooms) StoresTooSmall
  room_refused not =
      refuses_later (size_questions file) (((3, 0), Fits file rooms) ∷ (record_questions (layout file) ++ link_questions (layout file))) StoresTooSmall sized_yes (inl (refl, λ f. not (fits_back f)))

  later : FitsIn s rooms → (e : Fault) → Refuses (record_questions (layout file) ++ link_questions (layout file)) e → Refuses (load_questions file rooms) e
  later f e r =
      refuses_later (size_questions file) (((3, 0), Fits file rooms) ∷ (record_questions (layout file) ++ link_questions (layout file))) e sized_yes (inr (fits_file f, r))

  pub records_refused : FitsIn s rooms → (e : Fault) → Refuses (record_questions (laid s)) e → Refuses (load_questions file rooms) e
  records_refused f e r =
      later f e (refuses_first (record_questions (layout file)) (link_questions (layout file)) e (subst (λ l. Refuses (record_questions l) e) same r))

  pub links_refused : FitsIn s rooms → AllRecords (laid s) → (found : Records) → found.sections ≡ s → (e : Fault) → Refuses (link_questions (laid found.sections)) e → Refuses (load_questions file rooms) e
  links_refused f all found is e r =
      let there : AllRecords (layout file) = subst AllRecords same all in
      later f e
      (refuses_later (record_questions (layout file)) (link_questions (layout file)) e
      (granted_each 4 (LawfulRecord (layout file)) 0 (node_count file) (λ y a b. there y (omega arith)))
      (subst (λ l. Refuses (link_questions l) e) (ap laid is ∙ same) r))

  pub all_checked : FitsIn s rooms → AllRecords (laid s) → (r : Records) → r.sections ≡ s → AllLinks (laid r.sections) → Checked file rooms (Ok r)
  all_checked f all r is links =
      let laid_same : laid r.sections ≡ layout file = ap laid is ∙ same in
      (k.0, k.1, fits_file f, subst AllRecords same all, subst AllLinks laid_same links, laid_same, subst (λ z. FitsIn z rooms) (sym is) f)

-- ---- what is loaded

module _ (file : List ℕ) (old new : Stores) (r : Records) (k : Checked file (rooms_of old) (Ok r)) where
  module _ (c : CopiesTo (laid r.sections) old new) where
    contained : Contents (layout file) (held_of new)
    contained = subst (λ l. Contents l (held_of new)) k.5 (record { recorded = ap (map record_of) c.0.1.0 ∙ c.0.2; listed = c.1.0; texted = c.2.0 })

    lawful : LawfulFile file (held_of new)
    lawful = record { versioned = k.0; sized = k.1; contents = contained; lawful = held_lawful (layout file) (held_of new) contained k.3 k.4 }

    -- A store that is refilled with what it then holds.
    refilled : {T : Type 0} (a : Store T) (xs : List T) (b : Store T) → Refilled a xs b → Refilled a (held b) b
    refilled a xs b r = (refl, r.1 ∙ ap (λ ys. ys ++ drop (length ys) (lent a)) (sym r.0))

    top : r.sections.root ≡ root file
    top = ap (λ l. l.top) k.5

    pub limited : WithinLimits (held_of new)
    limited = within_limits file (held_of new) lawful

    pub payoff : IsPayoffRoot (held_of new) r.sections.root
    payoff = subst (IsPayoffRoot (held_of new)) (sym top) (payoff_of (held_of new) (root file) lawful.lawful)

    pub loads : LawfulFile file (held_of new) × Fits file (rooms_of old) × (r.sections.root ≡ root file) × Holds old (held_of new) new × IsPayoffRoot (held_of new) r.sections.root
    loads = (
      lawful,
      k.2,
      top,
      record {
        nodes_held = refilled old.nodes c.0.0 new.nodes c.0.1;
        entries_held = refilled old.entries (laid r.sections).entries new.entries c.1;
        text_held = refilled old.text (laid r.sections).text new.text c.2;
      },
      payoff,
    )
