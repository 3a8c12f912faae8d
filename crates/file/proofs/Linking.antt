-- From what the code finds of links to what is asked of them.
use Rattle.std.proofs.Common.{◌≡◌, ℕ, suc, ◌<◌, Bool, true, false, List, Some, None, Option, MatchOption, MatchBool, sym, refl, ap, ◌∙◌, subst, inl, inr, arith}
use Rattle.std.proofs.lemmas.Bool.{cases_Bool}
use Rattle.std.proofs.lemmas.Grind.{not_there}
use Rattle.tree.specs.declared.node.Node.{Node}
use Rattle.tree.specs.declared.node.Node.TheVariants.{String}
use Rattle.tree.specs.declared.role.Sort.TheVariants.{IsExpression}
use Rattle.tree.specs.Heap.{Held, look, own, children, inside}
use Rattle.tree.specs.Lawful.{sort_of, role, admits, AdmitsRow}
use Rattle.tree.specs.Roles.{sort_of_node, role_of_node}
use Rattle.file.specs.Format.{record_at, record_of}
use Rattle.file.specs.Layout.{Layout}
use Rattle.file.specs.Lawful.{Contents, LawfulNode, LawfulRecord, ExpressionRow, LawfulRoot, LinksRow}
use Rattle.file.specs.Found.{RecordsTo, AllRecords, LinksAt}
use Rattle.file.specs.Steps.{NodeAt, AllReached}
use Rattle.file.proofs.OneNode.{one_node}
use Rattle.file.proofs.Contained.{holding, how_many, row_there}

-- ---- sorts and roles do not depend on the text

pub sort_own : (bytes : List ℕ) (n : Node) → sort_of (own bytes n) ≡ sort_of_node n
sort_own bytes (String t) = refl
sort_own bytes n = refl

role_own : (bytes : List ℕ) (n : Node) (k : ℕ) → role (own bytes n) k ≡ role_of_node n k
role_own bytes (String t) k = refl
role_own bytes n k = refl

-- ---- the root

module _ (l : Layout) (x : ℕ) (r : LawfulRecord l x) (n : Node) (e : record_of n ≡ record_at l.rows x) where
  -- The node of a record is the lawful one.
  pub lawful_there : LawfulNode l.entries l.text n
  lawful_there = subst (LawfulNode l.entries l.text) (one_node r.0 n (r.1 ∙ sym e)) r.2

  row_is : x < l.count → (h : Held) → Contents l h → look h x ≡ Some (own l.text n, children l.entries n)
  row_is low h c = row_there l h x n c low e lawful_there.0

-- The pieces of a node lie within, where all records are lawful.
inside_there : (l : Layout) (x : ℕ) → ∥ AllRecords l ∥₁ → x < l.count → (n : Node) → record_of n ≡ record_at l.rows x → inside l.entries l.text n ≡ true
inside_there l x all lt n e =
    elim (cases_Bool (inside l.entries l.text n)) [
      | inl there ↦ there
      | inr beyond ↦ absurd (not_there all (λ a. let ok = (lawful_there l x (a x lt) n e).0 in let f : true ≡ false = sym ok ∙ beyond in let z : ◌≡◌ {A = ℕ} 0 1 = cc in omega arith))
    ]

root_found : (l : Layout) → ∥ AllRecords l ∥₁ → suc l.top ≡ l.count → (n : Node) → record_of n ≡ record_at l.rows l.top → sort_of_node n ≡ IsExpression → LawfulRoot l
root_found l all last n e is h c =
    let lt : l.top < l.count = omega arith in (
      last ∙ sym (how_many l h c),
      subst ExpressionRow (sym (row_there l h l.top n c lt e (inside_there l l.top all lt n e))) (sort_own l.text n ∙ is),
    )

root_other : (l : Layout) → AllRecords l → suc l.top ≡ l.count → (n : Node) → record_of n ≡ record_at l.rows l.top → (sort_of_node n ≡ IsExpression → ⊥) → LawfulRoot l → ⊥
root_other l all last n e not r =
    let h = holding l all in
    not (sym (sort_own l.text n) ∙ subst ExpressionRow (row_is l l.top (all l.top (omega arith)) n e (omega arith) h.0 h.1) (r h.0 h.1).1)

pub root_not_last : (l : Layout) → ∥ AllRecords l ∥₁ → (suc l.top ≡ l.count → ⊥) → LawfulRoot l → ⊥
root_not_last l all not r = not_there all (λ a. let h = holding l a in not ((r h.0 h.1).0 ∙ how_many l h.0 h.1))

-- The answer about the root, from what stands there.
pub root_answer : (l : Layout) → ∥ AllRecords l ∥₁ → suc l.top ≡ l.count → (o : Option Node) → NodeAt l l.top o → (b : Bool) → MatchOption o (b ≡ false) (λ n. MatchBool b (sort_of_node n ≡ IsExpression) (sort_of_node n ≡ IsExpression → ⊥))
    → MatchBool b (LawfulRoot l) (LawfulRoot l → ⊥)
root_answer l all last None at b is = absurd (not_there all (λ a. let r = a l.top (omega arith) in at (omega arith) r.0 r.1))
root_answer l all last (Some n) at true is = root_found l all last n at.1 is
root_answer l all last (Some n) at false not = λ r. not_there all (λ a. root_other l a last n at.1 not r)

-- ---- a node's links

admits_there : (l : Layout) (c : ℕ) (r : LawfulRecord l c) (low : c < l.count) (h : Held) → Contents l h → (n : Node) (k : ℕ) (m : Node) → record_of m ≡ record_at l.rows c
    → admits (role_of_node n k) (sort_of_node m) ≡ true → AdmitsRow (role (own l.text n) k) (look h c)
admits_there l c r low h cs n k m e ok =
    subst (AdmitsRow (role (own l.text n) k)) (sym (row_is l c r m e low h cs))
    (ap (λ a. admits a (sort_of (own l.text m))) (role_own l.text n k) ∙ ap (admits (role_of_node n k)) (sort_own l.text m) ∙ ok)

module _ (l : Layout) (x : ℕ) (below : RecordsTo l x) (low : x < l.count) (n : Node) (e : record_of n ≡ record_at l.rows x) (lawful : LawfulNode l.entries l.text n) (h : Held) (cs : Contents l h) where
  pub node_row : look h x ≡ Some (own l.text n, children l.entries n)
  node_row = row_there l h x n cs low e lawful.0

  pub links_found : AllReached l x n → LinksAt h x
  links_found ok =
      subst (LinksRow (look h) x) (sym node_row)
      (λ k c at. let r = ok k c at in (r.0, admits_there l c (below c r.0) (omega (arith, r.0)) h cs n k r.1.0 r.1.1.1 r.1.2))

  pub links_back : LinksAt h x → AllReached l x n
  links_back ok k c at =
      let r = subst (LinksRow (look h) x) node_row ok k c at in
      let b = below c r.0 in
      let lt : c < l.count = omega (arith, r.0) in
      let a = subst (AdmitsRow (role (own l.text n) k)) (row_is l c b b.0 b.1 lt h cs) r.1 in (
        r.0,
        (b.0, (lt, b.1), sym (ap (admits (role_of_node n k)) (sort_own l.text b.0)) ∙ sym (ap (λ i. admits i (sort_of (own l.text b.0))) (role_own l.text n k)) ∙ a),
      )
