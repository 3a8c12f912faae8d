-- Counting the parents of each node, node by node, and what is asked of links.
use Rattle.std.proofs.Common.{◌≡◌, ℕ, suc, ◌+◌, ◌<◌, ◌≤◌, Bool, true, false, cond, eqb, List, length, get_or, Some, None, Option, sym, refl, ap, ◌∙◌, subst, inl, inr, arith}
use Rattle.std.specs.Option.{option_or}
use Rattle.std.proofs.lemmas.Bool.{cases_lt}
use Rattle.std.proofs.lemmas.Grind.{not_there}
use Rattle.std.proofs.Math.Logic.{∥∥₁_elim}
use Rattle.std.proofs.Math.Bool.{Bool-set}
use Rattle.std.proofs.Math.Nat.{ℕ_set}
use Rattle.std.specs.Coded.{le_prop}
use Rattle.base.specs.declared.fault.Fault.TheVariants.{BadLink}
use Rattle.base.specs.Questions.{Refuses}
use Rattle.base.proofs.Asking.{refuses_each}
use Rattle.tree.specs.declared.node.Node.{Node}
use Rattle.tree.specs.declared.role.Role.{Role}
use Rattle.tree.specs.Tree.{Own, Look, children_of}
use Rattle.tree.specs.Lawful.{AdmitsRow}
use Rattle.tree.specs.Heap.{Held, look, children}
use Rattle.tree.specs.Laws.{count, parents}
use Rattle.file.specs.Format.{record_at, record_of}
use Rattle.file.specs.Layout.{Layout}
use Rattle.file.specs.Lawful.{Contents, LawfulNode, LawfulRoot, LawfulLinks, LinkedAt, LinksRow, due, link_questions}
use Rattle.file.specs.Found.{RecordsTo, AllRecords, LinksAt, CountsParents, LinksCounted}
use Rattle.file.specs.Steps.{AllReached, AllLinks}
use Rattle.file.proofs.Contained.{holding, how_many}
use Rattle.file.proofs.Linking.{node_row, links_found, links_back}
use Rattle.file.proofs.Tallied.{right_parts, right_from, tallied_as, lowest_kept, lowest_found, lowest_later}
use Rattle.file.specs.Tables.{Tallies, Lowest, Right}

lowest_wrong : (P : ℕ → Type 0) (n : ℕ) (o : Option ℕ) → Lowest P n o → (P n → ⊥) → Lowest P (n + 1) (option_or o (Some n))
lowest_wrong P n None low not = lowest_found P n low not
lowest_wrong P n (Some x) low not = lowest_later P n x low

module _ (l : Layout) (x : ℕ) (below : RecordsTo l x) (low : x < l.count) (n : Node) (e : record_of n ≡ record_at l.rows x) (lawful : LawfulNode l.entries l.text n) (h : Held) (cs : Contents l h) (old new : List ℕ)
    (more : (f : ℕ → ℕ) → Tallies old f → Tallies new (λ y. f y + count y (children l.entries n))) where
  tallied : Tallies old (parents (look h) x) → Tallies new (parents (look h) (x + 1))
  tallied t =
      let next : x + 1 ≡ suc x = omega arith in
      tallied_as new (λ y. parents (look h) x y + count y (children l.entries n)) (parents (look h) (x + 1))
      (λ y. omega (arith, ap (λ r. count y (children_of r)) (node_row l x below low n e lawful h cs), ap (λ k. parents (look h) k y) next))
      (more (parents (look h) x) t)

  pub parents_more : (o : Option ℕ) → CountsParents h x old o → AllReached l x n → CountsParents h (x + 1) new o
  parents_more o w ok = (tallied w.0, lowest_kept (LinksAt h) x o w.1 (links_found l x below low n e lawful h cs ok))

  pub parents_wrong : (o : Option ℕ) → CountsParents h x old o → (AllReached l x n → ⊥) → CountsParents h (x + 1) new (option_or o (Some x))
  parents_wrong o w not = (tallied w.0, lowest_wrong (LinksAt h) x o w.1 (λ ok. not (links_back l x below low n e lawful h cs ok)))

-- ---- what the table says

due_small : (n x : ℕ) → due n x ≤ 1
due_small n x = go (eqb (suc x) n)
  where
    go : (b : Bool) → cond b 0 1 ≤ 1
    go true = omega arith
    go false = omega arith

below_named : (P : ℕ → Type 0) (n x : ℕ) (o : Option ℕ) → Lowest P n o → x < n → ((y : ℕ) → y ≤ x → o ≡ Some y → ⊥) → P x
below_named P n x None low lt not = low x lt
below_named P n x (Some w) low lt not = elim (cases_lt x w) [ inl a ↦ low.1 x a | inr b ↦ absurd (not w b refl) ]

-- What is asked of links has one proof at most.
below_prop : (n m : ℕ) → IsProp (n < m)
below_prop n m = le_prop

admits_prop : (r : Role) (o : Option (Own × List ℕ)) → IsProp (AdmitsRow r o)
admits_prop r None = hlevel
admits_prop r (Some p) = hlevel Bool-set

links_prop : (h : Look) (x : ℕ) (o : Option (Own × List ℕ)) → IsProp (LinksRow h x o)
links_prop h x None = hlevel
links_prop h x (Some p) = hlevel (admits_prop, below_prop)

linked_prop : (h : Held) (x : ℕ) → IsProp (LinkedAt h x)
linked_prop h x = hlevel (links_prop, ℕ_set)

module _ (l : Layout) (table : List ℕ) (wrong : Option ℕ) (long : length table ≡ l.count) (counted : ∥ LinksCounted l table wrong ∥₁) where
  -- Where this node and all lower ones are right, its links are lawful.
  right_at : (x : ℕ) → x < l.count → ((y : ℕ) → y ≤ x → Right table wrong y) → (h : Held) → Contents l h → CountsParents h l.count table wrong → LinkedAt h x
  right_at x lt right h cs w =
      let here = right_parts table wrong x (right x (omega arith)) in
      let e = w.0 x (omega arith) in
      let d : get_or table x 0 ≡ due l.count x = here.1 ∙ ap (λ n. due n x) long in
      let is_due : parents (look h) l.count x ≡ due l.count x = omega (arith, e, d, due_small l.count x) in (
        below_named (LinksAt h) l.count x wrong w.1 lt (λ y le. (right_parts table wrong y (right y le)).0),
        subst (λ n. parents (look h) n x ≡ due n x) (sym (how_many l h cs)) is_due,
      )

  links_right : (x : ℕ) → x < l.count → ((y : ℕ) → y ≤ x → Right table wrong y) → LawfulLinks l x
  links_right x lt right h cs = ∥∥₁_elim counted (linked_prop h x) (λ found. right_at x lt right h cs (found h cs))

  -- Where it is not, they are not.
  wrong_at : AllRecords l → LinksCounted l table wrong → (x : ℕ) → x < l.count → (Right table wrong x → ⊥) → LawfulLinks l x → ⊥
  wrong_at all found x lt not ok =
      let h = holding l all in
      let w = found h.0 h.1 in
      let r = ok h.0 h.1 in
      let e = w.0 x (omega arith) in
      let d : due (length table) x ≡ due l.count x = ap (λ n. due n x) long in
      let is_due : parents (look h.0) l.count x ≡ due l.count x = subst (λ n. parents (look h.0) n x ≡ due n x) (how_many l h.0 h.1) r.1 in
      not (right_from table wrong x (named (LinksAt h.0) l.count wrong w.1 r.0) (omega (arith, e, d, is_due, due_small l.count x)))
    where
      named : (P : ℕ → Type 0) (n : ℕ) (o : Option ℕ) → Lowest P n o → P x → o ≡ Some x → ⊥
      named P n None low here f = let z : ◌≡◌ {A = ℕ} 0 1 = cc in omega arith
      named P n (Some v) low here f = let g : v ≡ x = cc in low.2 (subst P (sym g) here)

  links_wrong : ∥ AllRecords l ∥₁ → (x : ℕ) → x < l.count → (Right table wrong x → ⊥) → LawfulLinks l x → ⊥
  links_wrong all x lt not ok = not_there all (λ a. not_there counted (λ found. wrong_at a found x lt not ok))

  -- The lowest node that is not right is the one that the questions name.
  pub link_refused : ∥ AllRecords l ∥₁ → LawfulRoot l → (x : ℕ) → Lowest (Right table wrong) (length table) (Some x) → Refuses (link_questions l) (BadLink x)
  link_refused all top x low =
      let lt : x < l.count = omega (arith, low.0) in
      inr (
        top,
        refuses_each 5 (LawfulLinks l) (BadLink x) 0 l.count x refl (omega arith) (omega arith)
            (λ y a b. links_right y (omega arith) (λ z le. low.1 z (omega arith)))
            (links_wrong all x lt low.2),
      )

  pub links_all : LawfulRoot l → Lowest (Right table wrong) (length table) None → AllLinks l
  links_all top low = (top, λ x lt. links_right x lt (λ y le. low y (omega arith)))
