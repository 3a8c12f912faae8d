-- The walk that finds out whether arguments interleave asks what the rules' program asks.
use Rattle.std.proofs.Common.{◌≡◌, ℕ, ◌+◌, ◌<◌, ◌≤◌, Bool, true, false, cond, not, List, length, get_or, Some, None, Option, refl, sym, ap, subst, ◌∙◌, ◌⊎◌, inl, inr, add-one, arith}
use Rattle.std.specs.Option.{is_some}
use Rattle.tree.specs.Heap.{Held}
use Rattle.meaning.specs.Expression.{Expression, Arguments}
use Rattle.meaning.specs.Parts.{Part}
use Rattle.host.specs.declared.value_type.ValueType.{ValueType}
use Rattle.host.specs.Answers.{Answers}
use Rattle.host.specs.Host.{Says}
use Rattle.rules.specs.Deciding.{Deciding, decided, unless_effects}
use Rattle.rules.specs.Interleaves.{settled}
use Rattle.rules.specs.Building.{append_arguments}
use Rattle.rules.specs.Interleaving.{no_spread, none_left, interleaving, all_quiet}
use Rattle.deciding.specs.Standing.{Stands, AllStand, argument_parts}
use Rattle.deciding.specs.Arguments.{going, went, GoesOn, InterleavesOf}
use Rattle.deciding.proofs.Walks.{arguments_from, AtHead, at_head, at_end}

-- Of arguments at these numbers, the first k are done with, and what is left to ask is asked of the others.
pub record Gone (a : Answers) (h : Held) (ns : List ℕ) (before followed : Bool) (k : ℕ) (may : Bool) : Type 0 where
  pub left : (xs zs : Arguments) → AllStand h ns (argument_parts xs) → no_spread xs ≡ true → none_left zs ≡ not followed → (d e : Deciding)
      → decided a (going before (append_arguments xs zs) d e) ≡ decided a (going may (append_arguments (arguments_from k xs) zs) d e)

-- What a host says of a number that stands for a part is its answer of the part.
pub said : {A : Type 0} {answer : Part → A} {h : Held} {n : ℕ} {s : A} {p : Part} → Says answer h n s → Stands h n p → s ≡ answer p
said {p = p} s t = s p t.numbered t.denoted

-- Before the first argument.
pub begun : (a : Answers) (h : Held) (ns : List ℕ) (before followed : Bool) → Gone a h ns before followed 0 before
unfolding arguments_from
begun a h ns before followed = record { left = λ xs zs s t z d e. refl }

quiet_head : (a : Answers) (x : Expression) (xs : Arguments) (d e : Deciding) (b : Bool) → b ≡ a.effects (Part.expression x) → decided a (all_quiet (Arguments.argument x xs) d e) ≡ decided a (unless_effects b (all_quiet xs d e) e)
unfolding all_quiet decided
quiet_head a x xs d e b i = rw i refl

settled_or : (a : Answers) (b : Bool) (xs : Arguments) (d e : Deciding) → decided a (cond b (interleaving xs d e) (all_quiet xs d e)) ≡ decided a (going (not b) xs d e)
settled_or a true xs d e = refl
settled_or a false xs d e = refl

type_head : (a : Answers) (x : Expression) (xs : Arguments) (d e : Deciding) (t : ValueType) → t ≡ a.value_type (Part.expression x) → none_left xs ≡ false
    → decided a (interleaving (Arguments.argument x xs) d e) ≡ decided a (going (not (settled t)) xs d e)
unfolding interleaving decided
type_head a x xs d e t i f = rw (f, i) (settled_or a (settled (a.value_type (Part.expression x))) xs d e)

last_head : (a : Answers) (x : Expression) (d e : Deciding) → decided a (interleaving (Arguments.argument x Arguments.no_arguments) d e) ≡ decided a (interleaving Arguments.no_arguments d e)
unfolding interleaving none_left
last_head a x d e = refl

-- Of one argument in front of others.
append_head : (x : Expression) (ys zs : Arguments) → append_arguments (Arguments.argument x ys) zs ≡ Arguments.argument x (append_arguments ys zs)
unfolding append_arguments
append_head x ys zs = refl

append_none : (zs : Arguments) → append_arguments Arguments.no_arguments zs ≡ zs
unfolding append_arguments
append_none zs = refl

none_left_of : (zs : Arguments) → none_left zs ≡ true → zs ≡ Arguments.no_arguments
unfolding none_left
none_left_of Arguments.no_arguments e = refl
none_left_of (Arguments.argument x xs) e = absurd (cc)
none_left_of (Arguments.spread_argument l x xs) e = absurd (cc)

more_in_front : (ys zs : Arguments) → none_left ys ≡ false → none_left (append_arguments ys zs) ≡ false
unfolding none_left append_arguments
more_in_front Arguments.no_arguments zs e = absurd (cc)
more_in_front (Arguments.argument x xs) zs e = refl
more_in_front (Arguments.spread_argument l x xs) zs e = refl

more_behind : (ys zs : Arguments) → none_left zs ≡ false → none_left (append_arguments ys zs) ≡ false
unfolding none_left append_arguments
more_behind Arguments.no_arguments zs e = e
more_behind (Arguments.argument x xs) zs e = refl
more_behind (Arguments.spread_argument l x xs) zs e = refl

module _ (a : Answers) (h : Held) (ns : List ℕ) (before followed : Bool) (k : ℕ) where
  -- What is left to ask begins with the next argument.
  opened : (may : Bool) (xs zs : Arguments) (w : AtHead h ns k xs) (d e : Deciding)
      → decided a (going may (append_arguments (arguments_from k xs) zs) d e) ≡ decided a (going may (Arguments.argument w.head (append_arguments w.rest zs)) d e)
  opened may xs zs w d e = rw (w.here, append_head) refl

  closed : (may : Bool) (xs zs : Arguments) (w : AtHead h ns k xs) (d e : Deciding)
      → decided a (going may (append_arguments (arguments_from (k + 1) xs) zs) d e) ≡ decided a (going may (append_arguments w.rest zs) d e)
  closed may xs zs w d e = rw (add-one, w.next) refl

  quiet : Gone a h ns before followed k true → k < length ns → Says a.effects h (get_or ns k 0) false → Gone a h ns before followed (k + 1) true
  unfolding unless_effects
  quiet g lt said_so = record {
    left = λ xs zs s t z d e.
        let w = at_head h ns k xs s t lt in
        g.left xs zs s t z d e ∙ opened true xs zs w d e ∙ quiet_head a w.head (append_arguments w.rest zs) d e false (said said_so w.stands) ∙ sym (closed true xs zs w d e);
  }

  loud : Gone a h ns before followed k true → k < length ns → Says a.effects h (get_or ns k 0) true → GoesOn a h ns before followed None
  unfolding unless_effects
  loud g lt said_so xs zs s t z d e =
      let w = at_head h ns k xs s t lt in
      g.left xs zs s t z d e ∙ opened true xs zs w d e ∙ quiet_head a w.head (append_arguments w.rest zs) d e true (said said_so w.stands)

  -- An argument with effects, behind one that may coerce an object; one without; one whose type is asked; the last one.
  pub refuse : (may effects : Bool) → may ≡ true → effects ≡ true → Gone a h ns before followed k may → k < length ns → Says a.effects h (get_or ns k 0) effects → GoesOn a h ns before followed None
  refuse may effects m b g lt said_so = loud (subst (Gone a h ns before followed k) m g) lt (subst (Says a.effects h (get_or ns k 0)) b said_so)

  pub quiet_step : (may effects after : Bool) → may ≡ true → effects ≡ false → after ≡ may → Gone a h ns before followed k may → k < length ns → Says a.effects h (get_or ns k 0) effects
      → Gone a h ns before followed (k + 1) after
  quiet_step may effects after m b i g lt said_so =
      subst (Gone a h ns before followed (k + 1)) (sym (i ∙ m)) (quiet (subst (Gone a h ns before followed k) m g) lt (subst (Says a.effects h (get_or ns k 0)) b said_so))

  more_left : (xs zs : Arguments) (w : AtHead h ns k xs) → none_left zs ≡ not followed → (followed ≡ true) ⊎ (k + 1 < length ns) → none_left (append_arguments w.rest zs) ≡ false
  more_left xs zs w z (inl f) = more_behind w.rest zs (z ∙ ap not f)
  more_left xs zs w z (inr lt) = more_in_front w.rest zs (w.is_not_last (omega arith))

  typed : (t : ValueType) → Gone a h ns before followed k false → k < length ns → (followed ≡ true) ⊎ (k + 1 < length ns) → Says a.value_type h (get_or ns k 0) t
      → Gone a h ns before followed (k + 1) (not (settled t))
  typed vt g lt m said_so = record {
    left = λ xs zs s t z d e.
        let w = at_head h ns k xs s t lt in
        g.left xs zs s t z d e ∙ opened false xs zs w d e ∙ type_head a w.head (append_arguments w.rest zs) d e vt (said said_so w.stands) (more_left xs zs w z m) ∙ sym (closed (not (settled vt)) xs zs w d e);
  }

  pub type_step : (may is_settled after : Bool) (t : ValueType) → may ≡ false → is_settled ≡ settled t → after ≡ not is_settled → Gone a h ns before followed k may → k < length ns
      → (followed ≡ true) ⊎ (k + 1 < length ns) → Says a.value_type h (get_or ns k 0) t → Gone a h ns before followed (k + 1) after
  type_step may is_settled after vt m b i g lt more said_so =
      subst (Gone a h ns before followed (k + 1)) (sym (i ∙ ap not b)) (typed vt (subst (Gone a h ns before followed k) m g) lt more said_so)

  nothing_left : (xs zs : Arguments) (w : AtHead h ns k xs) → none_left zs ≡ not followed → followed ≡ false → length ns ≤ k + 1 → append_arguments w.rest zs ≡ Arguments.no_arguments
  nothing_left xs zs w z f le =
      let none = w.is_last (omega arith) in
      rw (none, append_none) (none_left_of zs (z ∙ ap not f))

  ended : Gone a h ns before followed k false → k < length ns → followed ≡ false → length ns ≤ k + 1 → Gone a h ns before followed (k + 1) false
  ended g lt f le = record {
    left = λ xs zs s t z d e.
        let w = at_head h ns k xs s t lt in
        let none = nothing_left xs zs w z f le in
        g.left xs zs s t z d e ∙ opened false xs zs w d e ∙ ap (λ ys. decided a (interleaving (Arguments.argument w.head ys) d e)) none ∙ last_head a w.head d e
        ∙ sym (closed false xs zs w d e ∙ ap (λ ys. decided a (interleaving ys d e)) none);
  }

  pub last_step : (may after : Bool) → may ≡ false → after ≡ may → Gone a h ns before followed k may → k < length ns → followed ≡ false → length ns ≤ k + 1 → Gone a h ns before followed (k + 1) after
  last_step may after m i g lt f le = subst (Gone a h ns before followed (k + 1)) (sym (i ∙ m)) (ended (subst (Gone a h ns before followed k) m g) lt f le)

  -- Behind the last argument.
  pub finish : (may : Bool) → Gone a h ns before followed k may → length ns ≤ k → GoesOn a h ns before followed (Some may)
  finish may g le xs zs s t z d e = g.left xs zs s t z d e ∙ ap (λ ys. decided a (going may ys d e)) (ap (λ ys. append_arguments ys zs) (at_end h ns k xs s le) ∙ append_none zs)

-- ---- arguments by themselves

append_to_none : (xs : Arguments) → append_arguments xs Arguments.no_arguments ≡ xs
unfolding append_arguments
append_to_none Arguments.no_arguments = refl
append_to_none (Arguments.argument x xs) = ap (λ ys. Arguments.argument x ys) (append_to_none xs)
append_to_none (Arguments.spread_argument l x xs) = ap (λ ys. Arguments.spread_argument l x ys) (append_to_none xs)

going_none : (a : Answers) (may : Bool) (d e : Deciding) → decided a (going may Arguments.no_arguments d e) ≡ decided a d
unfolding all_quiet interleaving
going_none a true d e = refl
going_none a false d e = refl

went_none : (a : Answers) (d e : Deciding) (r : Option Bool) → went a Arguments.no_arguments d e r ≡ decided a (cond (is_some r) d e)
went_none a d e None = refl
went_none a d e (Some may) = going_none a may d e

pub alone : (a : Answers) (h : Held) (ns : List ℕ) (r : Option Bool) (b : Bool) → GoesOn a h ns false false r → b ≡ is_some r → InterleavesOf a h ns b
unfolding none_left
alone a h ns r b g i xs s t d e =
    ap (λ ys. decided a (interleaving ys d e)) (sym (append_to_none xs)) ∙ g xs Arguments.no_arguments s t refl d e ∙ went_none a d e r ∙ ap (λ z. decided a (cond z d e)) (sym i)
