-- What is counted of the elements that arguments give.
use Rattle.std.proofs.Common.{◌≡◌, ℕ, suc, ◌+◌, ◌-◌, ◌*◌, ◌^◌, ◌<◌, ◌≤◌, Bool, true, ◌⊎◌, inl, inr, List, [], ◌∷◌, length, drop, get_or, Some, None, Option, refl, sym, subst, ap, ◌∙◌, arith}
use Rattle.std.specs.List.{slice_get}
use Rattle.std.proofs.lemmas.Bool.{and_parts}
use Rattle.std.proofs.lemmas.List.{append-nil}
use Rattle.text.proofs.Widths.{encode_2, encode_3}
use Rattle.tree.specs.declared.run.Run.{Run}
use Rattle.tree.specs.declared.node.Node.{Node}
use Rattle.tree.specs.declared.node.Node.TheVariants.{String, Number, Boolean, Null, Name, Hole, Spread, Array, StaticMember, ComputedMember, Call, Template, Quasi, Unary, Binary, Opaque}
use Rattle.tree.specs.Heap.{Held, within, entries_at}
use Rattle.meaning.specs.Expression.{Expression, Elements, Arguments}
use Rattle.meaning.specs.Parts.{Part}
use Rattle.rules.specs.Building.{append_elements}
use Rattle.rules.specs.Space.{element_count}
use Rattle.rules.specs.Taking.{Leading, leading, taken, taken_with}
use Rattle.deciding.specs.Standing.{AllStand, element_parts, argument_parts, ListsElements}
use Rattle.deciding.specs.Needs.{StoresUnit, given_by, given, GivesOf, MergesTo}
use Rattle.deciding.proofs.ChainCounts.{cut_length}
use Rattle.deciding.proofs.ReadPieces.{PartAt, part_at, parts_end}
use Rattle.deciding.proofs.Records.{Read, read_there}

-- ---- one unit

pub two_bytes : (unit : ℕ) → 0x80 ≤ unit → unit < 0x800 → StoresUnit unit 2
two_bytes unit l h = sym (ap length (append-nil _ ∙ encode_2 unit l h))

pub three_bytes : (unit : ℕ) → 0x800 ≤ unit → unit < 0x10000 → StoresUnit unit 3
three_bytes unit l h = sym (ap length (append-nil _ ∙ encode_3 unit l h))

-- ---- elements

element_len : (h : Held) (ns : List ℕ) (xs : Elements) → AllStand h ns (element_parts xs) → length ns ≡ element_count xs
unfolding element_parts element_count
element_len h [] Elements.no_elements s = refl
element_len h (n ∷ ns) Elements.no_elements s = absurd s
element_len h [] (Elements.item x xs) s = absurd s
element_len h (n ∷ ns) (Elements.item x xs) s = ap suc (element_len h ns xs s.1)
element_len h [] (Elements.hole l xs) s = absurd s
element_len h (n ∷ ns) (Elements.hole l xs) s = ap suc (element_len h ns xs s.1)
element_len h [] (Elements.spread l x xs) s = absurd s
element_len h (n ∷ ns) (Elements.spread l x xs) s = ap suc (element_len h ns xs s.1)

listed_len : (h : Held) (r : Run ℕ) (xs : Elements) → ListsElements h r xs → r.len ≡ element_count xs
listed_len h r xs s = sym (cut_length h.entries r.start r.len s.0) ∙ element_len h (entries_at h.entries r) xs s.1

append_count : (xs ys : Elements) → element_count (append_elements xs ys) ≡ element_count xs + element_count ys
unfolding append_elements element_count
append_count Elements.no_elements ys = omega arith
append_count (Elements.item x xs) ys = let i = append_count xs ys in omega (arith, i)
append_count (Elements.hole l xs) ys = let i = append_count xs ys in omega (arith, i)
append_count (Elements.spread l x xs) ys = let i = append_count xs ys in omega (arith, i)

-- ---- one argument

unfoldable of_record : Node → Option ℕ
of_record (Array es) = Some es.len
of_record (String t) = Some 1
of_record (Number n) = Some 1
of_record (Boolean b) = Some 1
of_record Null = Some 1
of_record r = None

recorded_given : (h : Held) (r : Node) (p : Part) → Read h r p → of_record r ≡ given p
unfolding of_record given given_by leading
recorded_given h (String t) p q = sym (ap given q.says.2)
recorded_given h (Number n) p q = sym (ap given q.says.1)
recorded_given h (Boolean b) p q = sym (ap given q.says.1)
recorded_given h Null p q = sym (ap given q.says.1)
recorded_given h (Name t) p q = sym (ap given q.says.2)
recorded_given h Hole p q = sym (ap given q.says.1)
recorded_given h (Spread n) p q = sym (ap given q.says.2)
recorded_given h (Array es) p q =
    let inside : within h.entries es.start es.len ≡ true = (and_parts (within h.entries es.start es.len) true q.within).0 in
    ap Some (listed_len h es q.says.1 (inside, q.says.3)) ∙ sym (ap given q.says.2)
recorded_given h (StaticMember o t) p q = sym (ap given q.says.3)
recorded_given h (ComputedMember o k) p q = sym (ap given q.says.3)
recorded_given h (Call f es) p q = sym (ap given q.says.3)
recorded_given h (Template es) p q = sym (ap given q.says.2)
recorded_given h (Quasi a b) p q = sym (ap given q.says.1)
recorded_given h (Unary o n) p q = sym (ap given q.says.2)
recorded_given h (Binary o n k) p q = sym (ap given q.says.3)
recorded_given h (Opaque es k f) p q = sym (ap given q.says.2)

module _ (h : Held) (n : ℕ) (r : Node) (at : Some r ≡ slice_get h.nodes n) where
  by_record : (o : Option ℕ) → of_record r ≡ o → GivesOf h n o
  by_record o e p s = sym e ∙ recorded_given h r p (read_there s at refl)

  pub array_gives : (es : Run ℕ) → r ≡ Array es → GivesOf h n (Some es.len)
  unfolding of_record
  array_gives es e = by_record (Some es.len) (ap of_record e)

  pub literal_gives : ((t : Run ℕ) × (r ≡ String t)) ⊎ (((k : ℕ) × (r ≡ Number k)) ⊎ (((b : Bool) × (r ≡ Boolean b)) ⊎ (r ≡ Null))) → GivesOf h n (Some 1)
  unfolding of_record
  literal_gives (inl e) = by_record (Some 1) (ap of_record e.1)
  literal_gives (inr (inl e)) = by_record (Some 1) (ap of_record e.1)
  literal_gives (inr (inr (inl e))) = by_record (Some 1) (ap of_record e.1)
  literal_gives (inr (inr (inr e))) = by_record (Some 1) (ap of_record e)

  pub other_gives : ((t : Run ℕ) → r ≡ String t → ⊥) → ((k : ℕ) → r ≡ Number k → ⊥) → ((b : Bool) → r ≡ Boolean b → ⊥) → (r ≡ Null → ⊥) → ((es : Run ℕ) → r ≡ Array es → ⊥) → GivesOf h n None
  unfolding of_record
  other_gives s k b z a = by_record None (other r s k b z a)
    where
      other : (q : Node) → ((t : Run ℕ) → q ≡ String t → ⊥) → ((k : ℕ) → q ≡ Number k → ⊥) → ((b : Bool) → q ≡ Boolean b → ⊥) → (q ≡ Null → ⊥) → ((es : Run ℕ) → q ≡ Array es → ⊥) → of_record q ≡ None
      other (String t) s k b z a = absurd (s t refl)
      other (Number n) s k b z a = absurd (k n refl)
      other (Boolean c) s k b z a = absurd (b c refl)
      other Null s k b z a = absurd (z refl)
      other (Array es) s k b z a = absurd (a es refl)
      other q s k b z a = refl

-- ---- arguments, one by one

unfoldable pub given_with : Option ℕ → ℕ → ℕ
given_with (Some n) k = n + k
given_with None k = 0

-- How many elements leading parts give.
unfoldable pub given_by_parts : List Part → ℕ
given_by_parts [] = 0
given_by_parts (p ∷ ps) = given_with (given p) (given_by_parts ps)

with_leading : (x : Expression) (t : Leading) (es : Elements) → element_count (taken_with x t es) ≡ given_with (given_by t) (element_count es)
unfolding taken_with element_count given_with given_by
with_leading x Leading.literal es = omega arith
with_leading x (Leading.gives fs) es = append_count fs es
with_leading x Leading.other es = refl

taken_given : (xs : Arguments) → element_count (taken xs) ≡ given_by_parts (argument_parts xs)
unfolding taken element_count argument_parts given_by_parts given_with given
taken_given Arguments.no_arguments = refl
taken_given (Arguments.argument x xs) = with_leading x (leading x) (taken xs) ∙ ap (given_with (given_by (leading x))) (taken_given xs)
taken_given (Arguments.spread_argument l x xs) = refl

no_parts : given_by_parts [] ≡ 0
unfolding given_by_parts
no_parts = refl

more_parts : (p : Part) (ps : List Part) → given_by_parts (p ∷ ps) ≡ given_with (given p) (given_by_parts ps)
unfolding given_by_parts
more_parts p ps = refl

with_none : (k : ℕ) → given_with None k ≡ 0
unfolding given_with
with_none k = refl

with_some : (n k : ℕ) → given_with (Some n) k ≡ n + k
unfolding given_with
with_some n k = refl

-- So many elements are counted of the first k arguments, with those before.
pub record GivenSoFar (h : Held) (ns : List ℕ) (before len k : ℕ) : Type 0 where
  pub bounded : len ≤ (k + 1) * (2 ^ 32 - 1)
  pub behind : (ps : List Part) → AllStand h ns ps → before + given_by_parts ps ≡ len + given_by_parts (drop k ps)

pub none_given : (h : Held) (ns : List ℕ) (before : ℕ) → before < 2 ^ 32 → GivenSoFar h ns before before 0
none_given h ns before lt = record { bounded = omega (arith, lt); behind = λ ps s. refl }

module _ (h : Held) (elements arguments : Run ℕ) (ns : List ℕ) (len k : ℕ) (is : ns ≡ entries_at h.entries arguments) (w : GivenSoFar h ns elements.len len k) where
  merges : ((ps : List Part) → AllStand h ns ps → given_by_parts (drop k ps) ≡ 0) → MergesTo h elements arguments len
  merges none es xs le la =
      let stand = subst (λ z. AllStand h z (argument_parts xs)) (sym is) la.1 in
      let a = w.behind (argument_parts xs) stand in
      let b = none (argument_parts xs) stand in
      let c = append_count es (taken xs) in
      let d = taken_given xs in
      let e = listed_len h elements es le in
      omega (arith, a, b, c, d, e)

  pub given_end : length ns ≤ k → MergesTo h elements arguments len
  given_end le = merges (λ ps s. ap given_by_parts (parts_end h ns k ps s le) ∙ no_parts)

  module _ (lt : k < length ns) (o : Option ℕ) (gives : GivesOf h (get_or ns k 0) o) where
    here : (ps : List Part) (w : PartAt h ns k ps) → given_by_parts (drop k ps) ≡ given_with o (given_by_parts w.rest)
    here ps w = ap given_by_parts w.here ∙ more_parts w.part w.rest ∙ ap (λ z. given_with z (given_by_parts w.rest)) (sym (gives w.part w.stands))

    pub given_stop : o ≡ None → MergesTo h elements arguments len
    given_stop e = merges (λ ps s. let p = part_at h ns k ps s lt in here ps p ∙ ap (λ z. given_with z (given_by_parts p.rest)) e ∙ with_none (given_by_parts p.rest))

    pub given_step : (n : ℕ) → o ≡ Some n → n < 2 ^ 32 → GivenSoFar h ns elements.len (len + n) (k + 1)
    given_step n e fits = record {
      bounded = let a = w.bounded in omega (arith, a, fits);
      behind = λ ps s.
          let p = part_at h ns k ps s lt in
          let a = w.behind ps s in
          let b = here ps p ∙ ap (λ z. given_with z (given_by_parts p.rest)) e ∙ with_some n (given_by_parts p.rest) in
          let f : k + 1 ≡ suc k = omega arith in
          let c = ap given_by_parts (ap (λ z. drop z ps) f ∙ p.next) in
          omega (arith, a, b, c);
    }
