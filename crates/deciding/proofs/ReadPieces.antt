-- What is counted of a template, as far as its parts are read.
use Rattle.std.proofs.Common.{◌≡◌, ℕ, zero, suc, ◌+◌, ◌-◌, ◌*◌, ◌^◌, ◌<◌, ◌≤◌, min, Bool, true, false, ◌&&◌, cond, List, [], ◌∷◌, length, drop, get_or, Some, Ok, refl, sym, subst, ap, ◌∙◌, arith, MatchBool, ◌≢◌}
use Rattle.std.specs.Prelude.{bytes_eq, ◌==◌}
use Rattle.std.specs.Borrow.{Bor}
use Rattle.std.proofs.lemmas.Bool.{and_parts}
use Rattle.std.proofs.lemmas.Bool.Decides.{nat_tests}
use Rattle.std.proofs.lemmas.Slice.Eq.{bytes_eq-Decides}
use Rattle.std.specs.List.{slice_get}
use Rattle.std.proofs.lemmas.List.{length-drop, length-take}
use Rattle.text.specs.Stored.{stored, Stores}
use Rattle.text.proofs.Pairing.{stored_once}
use Rattle.template.specs.Escaped.{raw_of}
use Rattle.template.specs.Extent.{Measures, MeasuresText, MeasuresBoth, TellsEscaped}
use Rattle.template.specs.declared.extent.Extent.{Extent}
use Rattle.template.proofs.Extents.{raw_at_most_twice, together_no_longer}
use Rattle.tree.specs.declared.run.Run.{Run}
use Rattle.tree.specs.declared.node.Node.{Node}
use Rattle.tree.specs.declared.node.Node.TheVariants.{String, Number, Boolean, Null, Name, Hole, Spread, Array, StaticMember, ComputedMember, Call, Template, Quasi, Unary, Binary, Opaque}
use Rattle.tree.specs.Tree.{Own}
use Rattle.tree.specs.Heap.{Held, own, cut, within, entries_at}
use Rattle.tree.specs.Pieces.{PieceOf}
use Rattle.meaning.specs.Expression.{Expression, Units}
use Rattle.meaning.specs.Parts.{Part}
use Rattle.rules.specs.Building.{text_of}
use Rattle.rules.specs.Space.{bytes_of}
use Rattle.deciding.specs.declared.pieces.Pieces.{Pieces}
use Rattle.deciding.specs.Standing.{Stands, AllStand, argument_parts}
use Rattle.deciding.specs.Meant.{Meant}
use Rattle.deciding.specs.Reached.{Reached, quasi_bytes, with_text, with_expression, with_value, with_part, with_parts, needed, size, Tells, Fits, ReadsText, Ends, ReadsPart, ReadsAll, TakesQuasi, TakesAll}
use Rattle.deciding.proofs.Records.{recorded, read_there}

-- ---- texts

pub cut_small : (bytes : List ℕ) (start len : ℕ) → length (cut bytes start len) ≤ length bytes
cut_small bytes start len =
    let a = length-take len (drop start bytes) in
    let b = length-drop start bytes in
    omega (arith, a, b)

-- The text of a string's own part.
abbrev text_in : Own → List ℕ
text_in (Own.string t) = t
text_in o = []

text_small : (bytes : List ℕ) (r : Node) → length (text_in (own bytes r)) ≤ length bytes
text_small bytes (String t) = cut_small bytes t.start t.len
text_small bytes (Number n) = omega arith
text_small bytes (Boolean b) = omega arith
text_small bytes Null = omega arith
text_small bytes (Name t) = omega arith
text_small bytes Hole = omega arith
text_small bytes (Spread n) = omega arith
text_small bytes (Array es) = omega arith
text_small bytes (StaticMember o t) = omega arith
text_small bytes (ComputedMember o k) = omega arith
text_small bytes (Call f es) = omega arith
text_small bytes (Template es) = omega arith
text_small bytes (Quasi q c) = omega arith
text_small bytes (Unary o n) = omega arith
text_small bytes (Binary o n k) = omega arith
text_small bytes (Opaque es k f) = omega arith

string_small : (h : Held) (n l : ℕ) (u : Units) → Stands h n (Part.expression (Expression.string l u)) → length (stored u) ≤ length h.text
string_small h n l u s =
    let r = recorded h n (Part.expression (Expression.string l u)) s in
    let same = ap (λ o. length (text_in o)) r.owned in
    let small = text_small h.text r.node in
    omega (arith, same, small)

pub text_read : (h : Held) (r : Run ℕ) (before : Pieces) (piece : Bor (List ℕ)) (e both : Extent) → PieceOf h.text r.start r.len (Some piece) → MeasuresText piece.now (Ok e)
    → MeasuresBoth before.quasi e both → ReadsText h r before (record { expressions = before.expressions; bytes = before.bytes; quasi = both })
text_read h r before piece e both at measured joined few u sp s t fits =
    let same : measured.0 ≡ u = stored_once piece.now measured.0 u measured.1 (subst (λ b. Stores b u) (sym at.1) sp.1) in
    let m : Measures e u = subst (Measures e) same measured.2 in
    let a = raw_at_most_twice s.text in
    let b = raw_at_most_twice u in
    let c = ap length sp.1.1 in
    let l = cut_small h.text r.start r.len in
    record { expressions = t.expressions; bytes = t.bytes; text = joined s.text u t.text m (omega (arith, a, b, c, l, few, fits)) }

-- ---- quasis

quasi_small : (u : Units) → quasi_bytes u ≤ 3 * length (stored u)
unfolding bytes_of
quasi_small u = let a = raw_at_most_twice u in by (bytes_eq (raw_of u) (stored u)) a
  where
    by : (b : Bool) → length (raw_of u) ≤ 2 * length (stored u) → length (stored u) + cond b 0 (length (raw_of u)) ≤ 3 * length (stored u)
    by true a = omega arith
    by false a = omega arith

quasi_written : (u : Units) (b : Bool) → MatchBool b (raw_of u ≢ stored u) (raw_of u ≡ stored u) → quasi_bytes u ≡ length (stored u) + cond b (length (raw_of u)) 0
unfolding bytes_of
quasi_written u true m = ap (λ z. length (stored u) + cond z 0 (length (raw_of u))) (unlike (bytes_eq (raw_of u) (stored u)) refl)
  where
    unlike : (b : Bool) → bytes_eq (raw_of u) (stored u) ≡ b → b ≡ false
    unlike true e = absurd (m ((bytes_eq-Decides (raw_of u) (stored u)).0 e))
    unlike false e = refl
quasi_written u false m = ap (λ z. length (stored u) + cond z 0 (length (raw_of u))) ((bytes_eq-Decides (raw_of u) (stored u)).1 m)

quasi_raw : (p : Pieces) (s : Reached) (b : Bool) (raw n : ℕ) → Tells p s → Fits s 0 → TellsEscaped p.quasi b → raw ≡ cond b p.quasi.raw 0 → n ≡ min (p.quasi.stored + raw) (2 ^ 64 - 1) → n ≡ quasi_bytes s.text
quasi_raw p s b raw n t fits escaped r e =
    let w = quasi_written s.text b (escaped s.text t.text) in
    let small = quasi_small s.text in
    let known : raw ≡ cond b (length (raw_of s.text)) 0 = r ∙ ap (λ z. cond b z 0) t.text.raw_length in
    let long = t.text.stored_length in
    omega (arith, w, small, known, long, e, fits)

pub quasi_taken : (p : Pieces) (b : Bool) (raw n : ℕ) → TellsEscaped p.quasi b → raw ≡ cond b p.quasi.raw 0 → n ≡ min (p.quasi.stored + raw) (2 ^ 64 - 1) → TakesQuasi p n
quasi_taken p b raw n escaped r e s t fits = quasi_raw p s b raw n t fits escaped r e

pub expression_read : (p : Pieces) (quasi n m : ℕ) (e : Extent) → TakesQuasi p quasi → Measures e [] → n ≡ min (p.expressions + 1) (2 ^ 64 - 1) → m ≡ min (p.bytes + quasi) (2 ^ 64 - 1)
    → Ends p (record { expressions = n; bytes = m; quasi = e })
expression_read p quasi n m e takes empty en em s t fits =
    let taken = takes s t (omega (arith, fits)) in
    let small = quasi_small s.text in
    let a = t.expressions in
    let b = t.bytes in
    record { expressions = omega (arith, a, en, fits); bytes = omega (arith, b, em, taken, small, fits); text = empty }

-- ---- one part

with_string : (s : Reached) (l : ℕ) (u : Units) → with_part s (Part.expression (Expression.string l u)) ≡ with_text s u
unfolding with_part with_value text_of
with_string s l u = refl

with_spread : (s : Reached) (l : ℕ) (x : Expression) → with_part s (Part.spread l x) ≡ s
unfolding with_part
with_spread s l x = refl

-- What is no string and no spread.
ends_it : (h : Held) (r : Node) → ((t : Run ℕ) → r ≡ String t → ⊥) → ((k : ℕ) → r ≡ Spread k → ⊥) → (p : Part) → Meant h r p → (s : Reached) → with_part s p ≡ with_expression s
unfolding with_part with_value text_of
ends_it h (String t) f g p m s = absurd (f t refl)
ends_it h (Number b) f g p m s = ap (with_part s) m.1
ends_it h (Boolean b) f g p m s = ap (with_part s) m.1
ends_it h Null f g p m s = ap (with_part s) m.1
ends_it h (Name t) f g p m s = ap (with_part s) m.2
ends_it h Hole f g p m s = ap (with_part s) m.1
ends_it h (Spread k) f g p m s = absurd (g k refl)
ends_it h (Array es) f g p m s = ap (with_part s) m.2
ends_it h (StaticMember x t) f g p m s = ap (with_part s) m.3
ends_it h (ComputedMember x k) f g p m s = ap (with_part s) m.3
ends_it h (Call c es) f g p m s = ap (with_part s) m.3
ends_it h (Template es) f g p m s = ap (with_part s) m.2
ends_it h (Quasi a b) f g p m s = ap (with_part s) m.1
ends_it h (Unary op k) f g p m s = ap (with_part s) m.2
ends_it h (Binary op a b) f g p m s = ap (with_part s) m.3
ends_it h (Opaque es m f) a g p w s = ap (with_part s) w.2

module _ (h : Held) (n : ℕ) (before after : Pieces) (r : Node) (at : Some r ≡ slice_get h.nodes n) where
  pub string_read : (u : Run ℕ) → r ≡ String u → ReadsText h u before after → ReadsPart h n before after
  string_read u e reads few p t s told fits =
      let q = read_there t at (ap Some e) in
      let inside : within h.text u.start u.len ≡ true = (and_parts (within h.text u.start u.len) true (and_parts (within h.entries 0 0) (within h.text u.start u.len && true) q.within).1).0 in
      subst (Tells after) (sym (ap (with_part s) q.says.2 ∙ with_string s q.says.0 q.says.1)) (reads few q.says.1 (inside, q.says.3) s told fits)

  pub spread_read : (k : ℕ) → r ≡ Spread k → ReadsPart h n before before
  spread_read k e few p t s told fits =
      let q = read_there t at (ap Some e) in
      subst (Tells before) (sym (ap (with_part s) q.says.2 ∙ with_spread s q.says.0 q.says.1)) told

  pub other_read : ((t : Run ℕ) → r ≡ String t → ⊥) → ((k : ℕ) → r ≡ Spread k → ⊥) → Ends before after → ReadsPart h n before after
  other_read f g ends few p t s told fits = subst (Tells after) (sym (ends_it h r f g p (read_there t at refl).says s)) (ends s told fits)

-- ---- all parts

part_small : (h : Held) (n : ℕ) (p : Part) → length h.text ≤ 65536 → Stands h n p → (s : Reached) → size (with_part s p) ≤ size s + 2 ^ 18
unfolding with_part with_value text_of
part_small h n (Part.expression (Expression.string l u)) few t s =
    let a = together_no_longer s.text u in
    let b = string_small h n l u t in
    omega (arith, a, b, few)
part_small h n (Part.expression x) few t s = let a = quasi_small s.text in omega (arith, a)
part_small h n (Part.hole l) few t s = let a = quasi_small s.text in omega (arith, a)
part_small h n (Part.spread l x) few t s = omega arith
part_small h n (Part.quasi q) few t s = let a = quasi_small s.text in omega (arith, a)

pub parts_small : (h : Held) (ns : List ℕ) (ps : List Part) → length h.text ≤ 65536 → AllStand h ns ps → (s : Reached) → size (with_parts s ps) ≤ size s + length ns * 2 ^ 18
unfolding with_parts
parts_small h [] [] few t s = omega arith
parts_small h [] (p ∷ ps) few t s = absurd t
parts_small h (n ∷ ns) [] few t s = absurd t
parts_small h (n ∷ ns) (p ∷ ps) few t s =
    let a = part_small h n p few t.0 s in
    let b = parts_small h ns ps few t.1 (with_part s p) in
    omega (arith, a, b)

-- The k-th part, and those behind it.
pub record PartAt (h : Held) (ns : List ℕ) (k : ℕ) (ps : List Part) : Type 0 where
  pub part : Part
  pub rest : List Part
  pub here : drop k ps ≡ part ∷ rest
  pub next : drop (suc k) ps ≡ rest
  pub stands : Stands h (get_or ns k 0) part

pub part_at : (h : Held) (ns : List ℕ) (k : ℕ) (ps : List Part) → AllStand h ns ps → k < length ns → PartAt h ns k ps
part_at h [] k ps t lt = absurd (omega arith)
part_at h (n ∷ ns) k [] t lt = absurd t
part_at h (n ∷ ns) zero (p ∷ ps) t lt = record { part = p; rest = ps; here = refl; next = refl; stands = t.0 }
part_at h (n ∷ ns) (suc k) (p ∷ ps) t lt =
    let w = part_at h ns k ps t.1 (omega arith) in
    record { part = w.part; rest = w.rest; here = w.here; next = w.next; stands = w.stands }

pub parts_end : (h : Held) (ns : List ℕ) (k : ℕ) (ps : List Part) → AllStand h ns ps → length ns ≤ k → drop k ps ≡ []
parts_end h [] zero [] t le = refl
parts_end h [] (suc k) [] t le = refl
parts_end h [] k (p ∷ ps) t le = absurd t
parts_end h (n ∷ ns) k [] t le = absurd t
parts_end h (n ∷ ns) zero (p ∷ ps) t le = absurd (omega arith)
parts_end h (n ∷ ns) (suc k) (p ∷ ps) t le = parts_end h ns k ps t.1 (omega arith)

with_more : (s : Reached) (p : Part) (ps : List Part) → with_parts s (p ∷ ps) ≡ with_parts (with_part s p) ps
unfolding with_parts
with_more s p ps = refl

with_no_more : (s : Reached) → with_parts s [] ≡ s
unfolding with_parts
with_no_more s = refl

-- So far the first k parts are read.
pub record Along (pieces : Pieces) (s : Reached) (ps : List Part) (k : ℕ) : Type 0 where
  state : Reached
  told : Tells pieces state
  behind : with_parts s ps ≡ with_parts state (drop k ps)
  small : size state ≤ size s + k * 2 ^ 18

pub record ReadSoFar (h : Held) (ns : List ℕ) (before pieces : Pieces) (k : ℕ) : Type 0 where
  pub along : length h.text ≤ 65536 → (ps : List Part) → AllStand h ns ps → (s : Reached) → Tells before s → Fits s (length ns) → Along pieces s ps k

pub none_read : (h : Held) (ns : List ℕ) (before : Pieces) → ReadSoFar h ns before before 0
none_read h ns before = record { along = λ few ps t s told fits. record { state = s; told = told; behind = refl; small = omega arith } }

pub read_step : (h : Held) (ns : List ℕ) (before pieces more : Pieces) (k : ℕ) → ReadSoFar h ns before pieces k → k < length ns → ReadsPart h (get_or ns k 0) pieces more → ReadSoFar h ns before more (k + 1)
read_step h ns before pieces more k w lt reads = record {
  along = λ few ps t s told fits.
      let a = w.along few ps t s told fits in
      let p = part_at h ns k ps t lt in
      let i = a.small in
      let j = part_small h (get_or ns k 0) p.part few p.stands a.state in
      let e : k + 1 ≡ suc k = omega arith in
      record {
        state = with_part a.state p.part;
        told = reads few p.part p.stands a.state a.told (omega (arith, i, fits, lt));
        behind = a.behind ∙ ap (with_parts a.state) p.here ∙ with_more a.state p.part p.rest ∙ ap (with_parts (with_part a.state p.part)) (sym (ap (λ z. drop z ps) e ∙ p.next));
        small = omega (arith, i, j);
      };
}

pub all_read : (h : Held) (r : Run ℕ) (ns : List ℕ) (before pieces : Pieces) (k : ℕ) → ReadSoFar h ns before pieces k → ns ≡ entries_at h.entries r → length ns ≤ k → ReadsAll h r before pieces
all_read h r ns before pieces k w e le few xs t s told fits =
    let n = ap length e in
    let stand = subst (λ z. AllStand h z (argument_parts xs)) (sym e) t.1 in
    let a = w.along few (argument_parts xs) stand s told (omega (arith, n, fits)) in
    subst (Tells pieces) (sym (a.behind ∙ ap (with_parts a.state) (parts_end h ns k (argument_parts xs) stand le) ∙ with_no_more a.state)) a.told

-- ---- the whole

needed_with : (s : Reached) (nodes entries text : ℕ) → (s.expressions ≡ 0 → ⊥) → nodes ≡ s.expressions + 2 → entries ≡ 2 * s.expressions + 1 → text ≡ s.bytes + quasi_bytes s.text
    → record { nodes = nodes; entries = entries; text = text } ≡ needed s
needed_with s nodes entries text some a b c =
    let f : (s.expressions == 0) ≡ false = grind (arith, nat_tests) in
    rw f (cc)

pub template_needed : (p : Pieces) (quasi nodes twice entries text : ℕ) → (p.expressions ≡ 0 → ⊥) → TakesQuasi p quasi → nodes ≡ min (p.expressions + 2) (2 ^ 64 - 1)
    → twice ≡ min (p.expressions * 2) (2 ^ 64 - 1) → entries ≡ min (twice + 1) (2 ^ 64 - 1) → text ≡ min (p.bytes + quasi) (2 ^ 64 - 1)
    → TakesAll p (record { nodes = nodes; entries = entries; text = text })
template_needed p quasi nodes twice entries text some takes n d e b s t fits =
    let taken = takes s t fits in
    let small = quasi_small s.text in
    let x = t.expressions in
    let y = t.bytes in
    needed_with s nodes entries text (λ z. some (x ∙ z)) (omega (arith, x, n, fits)) (omega (arith, x, d, e, fits)) (omega (arith, y, taken, small, b, fits))
