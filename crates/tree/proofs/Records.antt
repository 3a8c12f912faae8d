-- A node's record: with one link changed, and in larger stores.
use Rattle.std.proofs.Common.{◌≡◌, ℕ, zero, suc, ◌+◌, ◌-◌, ◌<◌, ◌≤◌, true, false, cond, ◌&&◌, leb, List, [], ◌∷◌, ◌++◌, length, get_or, set, Some, None, sym, refl, ap, ◌∙◌, subst, ap₂, inl, inr, arith, length-append, length-set, get_or-append-add}
use lib.Seq.{set-append_left}
use Rattle.std.proofs.lemmas.List.{set-append_right}
use Rattle.std.proofs.lemmas.Bool.{and_from, and_parts, cases_Bool, leb-true, le-leb}
use Rattle.tree.specs.declared.node.Node.{Node}
use Rattle.tree.specs.declared.node.Node.TheVariants.{String, Number, Boolean, Null, Name, Hole, Spread, Array, StaticMember, ComputedMember, Call, Template, Quasi, Unary, Binary, Opaque}
use Rattle.tree.specs.declared.run.Run.{Run}
use Rattle.tree.specs.Tree.{Own, string, name, static_member, quasi}
use Rattle.tree.specs.Heap.{within, text_at, entries_at, links, list_of, texts_of, own, children, all_within, inside, read, with_link}
use Rattle.tree.specs.Laws.{count}
use Rattle.tree.proofs.Counting.{count_getD}
use Rattle.tree.proofs.Cuts.{length_cut, getD_cut, cut_set, cut_more}
use Rattle.tree.proofs.Denoting.{some_same}

-- ---- the kinds, one by one

-- Changing a link changes that link, and nothing else.
pub links_with : (n : Node) (i m : ℕ) → i < length (links n) → links (with_link n i m) ≡ set (links n) i m
links_with (String t) i m lt = absurd (omega arith)
links_with (Number n) i m lt = absurd (omega arith)
links_with (Boolean b) i m lt = absurd (omega arith)
links_with Null i m lt = absurd (omega arith)
links_with (Name t) i m lt = absurd (omega arith)
links_with Hole i m lt = absurd (omega arith)
links_with (Spread x) zero m lt = refl
links_with (Spread x) (suc i) m lt = absurd (omega arith)
links_with (Array es) i m lt = absurd (omega arith)
links_with (StaticMember x p) zero m lt = refl
links_with (StaticMember x p) (suc i) m lt = absurd (omega arith)
links_with (ComputedMember x k) zero m lt = refl
links_with (ComputedMember x k) (suc zero) m lt = refl
links_with (ComputedMember x k) (suc (suc i)) m lt = absurd (omega arith)
links_with (Call f es) zero m lt = refl
links_with (Call f es) (suc i) m lt = absurd (omega arith)
links_with (Template es) i m lt = absurd (omega arith)
links_with (Quasi r c) i m lt = absurd (omega arith)
links_with (Unary op x) zero m lt = refl
links_with (Unary op x) (suc i) m lt = absurd (omega arith)
links_with (Binary op x y) zero m lt = refl
links_with (Binary op x y) (suc zero) m lt = refl
links_with (Binary op x y) (suc (suc i)) m lt = absurd (omega arith)
links_with (Opaque es k f) i m lt = absurd (omega arith)

-- The rest of the record is what three functions read of it.
abbrev pub Alike : Node → Node → Type 0
Alike n n' = (list_of n ≡ list_of n') × (texts_of n ≡ texts_of n') × ((bytes : List ℕ) → own bytes n ≡ own bytes n')

pub alike_with : (n : Node) (i m : ℕ) → Alike (with_link n i m) n
alike_with (String t) i m = (refl, refl, λ bytes. refl)
alike_with (Number n) i m = (refl, refl, λ bytes. refl)
alike_with (Boolean b) i m = (refl, refl, λ bytes. refl)
alike_with Null i m = (refl, refl, λ bytes. refl)
alike_with (Name t) i m = (refl, refl, λ bytes. refl)
alike_with Hole i m = (refl, refl, λ bytes. refl)
alike_with (Spread x) i m = (refl, refl, λ bytes. refl)
alike_with (Array es) i m = (refl, refl, λ bytes. refl)
alike_with (StaticMember x p) i m = (refl, refl, λ bytes. refl)
alike_with (ComputedMember x k) zero m = (refl, refl, λ bytes. refl)
alike_with (ComputedMember x k) (suc i) m = (refl, refl, λ bytes. refl)
alike_with (Call f es) i m = (refl, refl, λ bytes. refl)
alike_with (Template es) i m = (refl, refl, λ bytes. refl)
alike_with (Quasi r c) i m = (refl, refl, λ bytes. refl)
alike_with (Unary op x) i m = (refl, refl, λ bytes. refl)
alike_with (Binary op x y) zero m = (refl, refl, λ bytes. refl)
alike_with (Binary op x y) (suc i) m = (refl, refl, λ bytes. refl)
alike_with (Opaque es k f) i m = (refl, refl, λ bytes. refl)

text_more : (bytes more : List ℕ) (t : Run ℕ) → within bytes t.start t.len ≡ true → text_at (bytes ++ more) t ≡ text_at bytes t
text_more bytes more t e = cut_more bytes t.start t.len more (leb-true (t.start + t.len) (length bytes) e)

-- Its texts are the same with more text behind.
pub own_more : (n : Node) (bytes more : List ℕ) → all_within bytes (texts_of n) ≡ true → own (bytes ++ more) n ≡ own bytes n
own_more (String t) bytes more e = ap string (text_more bytes more t (and_parts (within bytes t.start t.len) true e).0)
own_more (Number n) bytes more e = refl
own_more (Boolean b) bytes more e = refl
own_more Null bytes more e = refl
own_more (Name t) bytes more e = ap name (text_more bytes more t (and_parts (within bytes t.start t.len) true e).0)
own_more Hole bytes more e = refl
own_more (Spread x) bytes more e = refl
own_more (Array es) bytes more e = refl
own_more (StaticMember x p) bytes more e = ap static_member (text_more bytes more p (and_parts (within bytes p.start p.len) true e).0)
own_more (ComputedMember x k) bytes more e = refl
own_more (Call f es) bytes more e = refl
own_more (Template es) bytes more e = refl
own_more (Quasi r c) bytes more e =
    let two = and_parts (within bytes r.start r.len) (all_within bytes (c ∷ [])) e in
    ap₂ quasi (text_more bytes more r two.0) (text_more bytes more c (and_parts (within bytes c.start c.len) true two.1).0)
own_more (Unary op x) bytes more e = refl
own_more (Binary op x y) bytes more e = refl
own_more (Opaque es m f) bytes more e = refl

-- ---- what is read of a record

within_more : (xs ys : List ℕ) (start len : ℕ) → within xs start len ≡ true → within (xs ++ ys) start len ≡ true
within_more xs ys start len e = le-leb (start + len) (length (xs ++ ys)) (omega (arith, length-append xs ys, leb-true (start + len) (length xs) e))

all_within_more : (bytes more : List ℕ) (ts : List (Run ℕ)) → all_within bytes ts ≡ true → all_within (bytes ++ more) ts ≡ true
all_within_more bytes more [] e = refl
all_within_more bytes more (t ∷ ts) e =
    let two = and_parts (within bytes t.start t.len) (all_within bytes ts) e in
    and_from (within (bytes ++ more) t.start t.len) (all_within (bytes ++ more) ts)
    (within_more bytes more t.start t.len two.0) (all_within_more bytes more ts two.1)

module _ (es bytes : List ℕ) (n : Node) where
  pub read_inside : inside es bytes n ≡ true → read es bytes (Some n) ≡ Some (own bytes n, children es n)
  read_inside e = ap (λ b. cond b (Some (own bytes n, children es n)) None) e

  pub read_outside : inside es bytes n ≡ false → read es bytes (Some n) ≡ None
  read_outside e = ap (λ b. cond b (Some (own bytes n, children es n)) None) e

  -- What is read says that the record's pieces lie within the stores, and what they are.
  pub reads : (o : Own) (ks : List ℕ) → read es bytes (Some n) ≡ Some (o, ks) → (inside es bytes n ≡ true) × (own bytes n ≡ o) × (children es n ≡ ks)
  reads o ks e =
      elim (cases_Bool (inside es bytes n)) [
        | inl t ↦ let s = some_same (own bytes n) o (children es n) ks (sym (read_inside t) ∙ e) in (t, s.0, s.1)
        | inr f ↦ absurd (let g = sym (read_outside f) ∙ e in let z : ◌≡◌ {A = ℕ} 0 1 = cc in omega arith)
      ]

  pub list_inside : inside es bytes n ≡ true → (list_of n).start + (list_of n).len ≤ length es
  list_inside e = leb-true ((list_of n).start + (list_of n).len) (length es) (and_parts (within es (list_of n).start (list_of n).len) (all_within bytes (texts_of n)) e).0

  pub length_children : inside es bytes n ≡ true → length (children es n) ≡ length (links n) + (list_of n).len
  length_children e = omega (arith, length-append (links n) (entries_at es (list_of n)), length_cut es (list_of n).start (list_of n).len (list_inside e))

  -- A record whose pieces lie within reads the same in larger stores.
  pub read_more : (fs more : List ℕ) → inside es bytes n ≡ true → read (es ++ fs) (bytes ++ more) (Some n) ≡ read es bytes (Some n)
  read_more fs more e =
      let two = and_parts (within es (list_of n).start (list_of n).len) (all_within bytes (texts_of n)) e in
      ap (λ b. cond b (Some (own (bytes ++ more) n, children (es ++ fs) n)) None)
      (and_from (within (es ++ fs) (list_of n).start (list_of n).len) (all_within (bytes ++ more) (texts_of n))
      (within_more es fs (list_of n).start (list_of n).len two.0) (all_within_more bytes more (texts_of n) two.1))
      ∙ ap (λ o. Some (o, children (es ++ fs) n)) (own_more n bytes more two.1)
      ∙ ap (λ ks. Some (own bytes n, links n ++ ks)) (cut_more es (list_of n).start (list_of n).len fs (list_inside e))
      ∙ sym (read_inside e)

  -- An entry of its list is a child.
  pub entry_child : (j : ℕ) → inside es bytes n ≡ true → j < (list_of n).len → 1 ≤ count (get_or es ((list_of n).start + j) 0) (children es n)
  entry_child j e lt =
      subst (λ k. 1 ≤ count k (children es n))
      (get_or-append-add (links n) (entries_at es (list_of n)) j 0 ∙ getD_cut es (list_of n).start (list_of n).len j 0 lt)
      (count_getD (children es n) (length (links n) + j) (omega (arith, length_children e)))

-- ---- a changed link

-- A word of the record.
pub inside_with : (es bytes : List ℕ) (n : Node) (i m : ℕ) → inside es bytes (with_link n i m) ≡ inside es bytes n
inside_with es bytes n i m =
    let a = alike_with n i m in
    ap (λ r. within es r.start r.len && all_within bytes (texts_of (with_link n i m))) a.0 ∙ ap (λ ts. within es (list_of n).start (list_of n).len && all_within bytes ts) a.1

pub children_with : (es : List ℕ) (n : Node) (i m : ℕ) → i < length (links n) → children es (with_link n i m) ≡ set (children es n) i m
children_with es n i m lt =
    ap (λ ls. ls ++ entries_at es (list_of (with_link n i m))) (links_with n i m lt)
    ∙ ap (λ r. set (links n) i m ++ entries_at es r) (alike_with n i m).0
    ∙ sym (set-append_left (links n) (entries_at es (list_of n)) i m lt)

-- An entry of its list.
pub inside_set : (es bytes : List ℕ) (n : Node) (at m : ℕ) → inside (set es at m) bytes n ≡ inside es bytes n
inside_set es bytes n at m = ap (λ k. leb ((list_of n).start + (list_of n).len) k && all_within bytes (texts_of n)) (length-set es at m)

pub children_set : (es : List ℕ) (n : Node) (i m : ℕ) → length (links n) ≤ i → i - length (links n) < (list_of n).len → children (set es ((list_of n).start + (i - length (links n))) m) n ≡ set (children es n) i m
children_set es n i m le lt =
    ap (λ ks. links n ++ ks) (cut_set es (list_of n).start (list_of n).len (i - length (links n)) m lt)
    ∙ sym (set-append_right (links n) (entries_at es (list_of n)) (length (links n)) i m refl le)
