-- A file is granted all that load asks where it is lawful and fits, and only there.
use Rattle.std.proofs.Common.{◌≡◌, ℕ, ◌<◌, List, Some, None, Option, sym, refl, subst, arith}
use Rattle.std.specs.List.{slice_get}
use Rattle.base.specs.Questions.{Granted}
use Rattle.base.proofs.Asking.{granted_both, granted_apart, granted_each, each_granted, granted_not_refused}
use Rattle.store.specs.declared.stores.Counts.{Counts}
use Rattle.tree.specs.declared.node.Node.{Node}
use Rattle.tree.specs.Heap.{Held}
use Rattle.std.proofs.lemmas.Option.{slice_get_within}
use Rattle.file.specs.Layout.{Layout, layout}
use Rattle.file.specs.Lawful.{Contents, LawfulNode, LawfulRecord, LawfulRoot, LawfulLinks, LinkedAt, RootAt, LawfulHeld, LawfulFile, Fits, record_questions, link_questions, load_questions}
use Rattle.file.specs.Laws.{LawfulExactlyWhereGranted}
use Rattle.file.specs.Found.{AllRecords}
use Rattle.file.specs.Steps.{AllLinks}
use Rattle.file.proofs.Contained.{holding, how_many, held_once, recorded_there}
use Rattle.file.proofs.Following.{nth_none}
use Rattle.file.proofs.Linking.{lawful_there}

-- From what is asked of each record and link to what is held.
pub held_lawful : (l : Layout) (h : Held) → Contents l h → AllRecords l → AllLinks l → LawfulHeld h l.top
held_lawful l h c all links =
    record {
      nodes_lawful = λ x n e.
          let lt : x < l.count = omega (arith, slice_get_within h.nodes x n e, how_many l h c) in
          subst (λ es. LawfulNode es h.text n) (sym c.listed) (subst (λ t. LawfulNode l.entries t n) (sym c.texted) (lawful_there l x (all x lt) n (recorded_there l h x n c lt e)));
      root_lawful = links.0 h c;
      links_lawful = λ x lt. links.1 x (omega (arith, how_many l h c)) h c;
    }

-- And back.
module _ (l : Layout) (h : Held) (c : Contents l h) (f : LawfulHeld h l.top) where
  records_back : AllRecords l
  records_back x lt = go (slice_get h.nodes x) refl
    where
      go : (o : Option Node) → slice_get h.nodes x ≡ o → LawfulRecord l x
      go None e = absurd (omega (arith, nth_none h.nodes x e, how_many l h c))
      go (Some n) e = (
        n,
        recorded_there l h x n c lt e,
        subst (λ t. LawfulNode l.entries t n) c.texted (subst (λ es. LawfulNode es h.text n) c.listed (f.nodes_lawful x n e)),
      )

  root_back : LawfulRoot l
  root_back k d = subst (λ z. RootAt z l.top) (held_once l h k c d) f.root_lawful

  links_back : (x : ℕ) → x < l.count → LawfulLinks l x
  links_back x lt k d = subst (λ z. LinkedAt z x) (held_once l h k c d) (f.links_lawful x (omega (arith, how_many l h c)))

lawful_granted : (file : List ℕ) (h : Held) (rooms : Counts) → LawfulFile file h → Fits file rooms → Granted (load_questions file rooms)
lawful_granted file h rooms f fits =
    let l = layout file in
    let records = granted_each 4 (LawfulRecord l) 0 l.count (λ y le lt. records_back l h f.contents f.lawful y (omega arith)) in
    let links = granted_each 5 (LawfulLinks l) 0 l.count (λ y le lt. links_back l h f.contents f.lawful y (omega arith)) in
    (f.versioned, (f.sized, (fits, granted_both (record_questions l) (link_questions l) records (root_back l h f.contents f.lawful, links))))

granted_lawful : (file : List ℕ) (rooms : Counts) → Granted (load_questions file rooms) → (h : Held) × LawfulFile file h × Fits file rooms
granted_lawful file rooms g =
    let l = layout file in
    let two = granted_apart (record_questions l) (link_questions l) g.1.1.1 in
    let all : AllRecords l = λ x lt. each_granted 4 (LawfulRecord l) 0 l.count two.0 x (omega arith) (omega arith) in
    let links : AllLinks l = (two.1.0, λ x lt. each_granted 5 (LawfulLinks l) 0 l.count two.1.1 x (omega arith) (omega arith)) in
    let held = holding l all in (
      held.0,
      record { versioned = g.0; sized = g.1.0; contents = held.1; lawful = held_lawful l held.0 held.1 all links },
      g.1.1.0,
    )

pub lawful_where_granted : LawfulExactlyWhereGranted
lawful_where_granted = (
  lawful_granted,
  granted_lawful,
  λ file rooms e g. granted_not_refused (load_questions file rooms) e g,
  λ file h k f g. held_once (layout file) h k f.contents g.contents,
)
