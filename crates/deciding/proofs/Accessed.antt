-- What the rule property decides, by what the code finds out.
use Rattle.std.proofs.Common.{◌≡◌, ℕ, ◌<◌, ◌≤◌, ◌^◌, Bool, true, false, cond, length, Some, None, Option, nat_le, refl, sym, subst, ap, ◌∙◌, arith}
use Rattle.std.specs.List.{slice_get}
use Rattle.std.proofs.lemmas.Bool.Decides.{nat_tests}
use Rattle.tree.specs.declared.node.Node.{Node}
use Rattle.tree.specs.declared.node.Node.TheVariants.{String, Number, Boolean, Null, Name, Hole, Spread, Array, StaticMember, ComputedMember, Call, Template, Quasi, Unary, Binary, Opaque}
use Rattle.tree.specs.Heap.{Held}
use Rattle.meaning.specs.Expression.{Expression}
use Rattle.meaning.specs.Number.{Number as NumberValue, whole}
use Rattle.meaning.specs.Parts.{Part}
use Rattle.host.specs.Answers.{Answers}
use Rattle.host.specs.Host.{Says}
use Rattle.rules.specs.Deciding.{Deciding, decided, when, unless_effects}
use Rattle.rules.specs.Property.{without_effects, at_index, at_whole, at_key, property_read, property_rule}
use Rattle.deciding.specs.declared.place.Place.{Place}
use Rattle.deciding.specs.declared.place.Place.TheVariants.{Ordinary, ConcatObject, Referred}
use Rattle.deciding.specs.declared.plan.Plan.{Plan}
use Rattle.deciding.specs.declared.plan.Decision.TheVariants.{Kept, Rewritten}
use Rattle.deciding.specs.Meant.{Meant}
use Rattle.deciding.specs.Picking.{PlanIf, ReadAt, read_at}
use Rattle.deciding.specs.Plans.{DecisionOf, role_of}
use Rattle.deciding.specs.Standing.{Stands}
use Rattle.deciding.proofs.Picked.{means, record_of, same_expression, not_hole, not_a_spread, not_quasi}

-- What is taken as a reference is kept.
pub reference_kept : (h : Held) (a : Answers) (next : ℕ) (place : Place) → place ≡ Referred → (x : Expression) → DecisionOf h (decided a (property_rule next (role_of place) x)) Kept
unfolding decided property_rule
reference_kept h a next place e x = subst (λ z. DecisionOf h (decided a (property_rule next (role_of z) x)) Kept) (sym e) tt

by_place : (next : ℕ) (place : Place) → (place ≡ Referred → ⊥) → (x : Expression) → property_rule next (role_of place) x ≡ property_read next x
unfolding property_rule
by_place next Ordinary n x = refl
by_place next ConcatObject n x = refl
by_place next Referred n x = absurd (n refl)

no_record : {A : Type 0} (h : Held) (n : ℕ) (p : Part) → None ≡ slice_get h.nodes n → Stands h n p → A
no_record h n p e s = none_some (e ∙ (record_of h n p s).1)
  where
    none_some : {X : Type 0} {b : Node} → None ≡ Some b → X
    none_some e = let z : ◌≡◌ {A = ℕ} 0 1 = cc in absurd (omega arith)

module _ (h : Held) (a : Answers) (next : ℕ) where
  abbrev KeptBy : Deciding → Type 0
  KeptBy d = DecisionOf h (decided a d) Kept

  kept_member : {x y : Expression} → y ≡ x → decided a (property_read next y) ≡ None → KeptBy (property_read next x)
  kept_member {x} {y} e f = subst (λ z. KeptBy (property_read next z)) e (subst (λ o. DecisionOf h o Kept) (sym f) tt)

  not_member : (r : Node) (x : Expression) → ((i j : ℕ) → r ≡ ComputedMember i j → ⊥) → Meant h r (Part.expression x) → KeptBy (property_read next x)
  unfolding property_read decided
  not_member (String t) x n m = kept_member (same_expression m.2) refl
  not_member (Number i) x n m = kept_member (same_expression m.1) refl
  not_member (Boolean i) x n m = kept_member (same_expression m.1) refl
  not_member Null x n m = kept_member (same_expression m.1) refl
  not_member (Name t) x n m = kept_member (same_expression m.2) refl
  not_member Hole x n m = not_hole m.1
  not_member (Spread i) x n m = not_a_spread m.2
  not_member (Array es) x n m = kept_member (same_expression m.2) refl
  not_member (StaticMember o t) x n m = kept_member (same_expression m.3) refl
  not_member (ComputedMember o i) x n m = absurd (n o i refl)
  not_member (Call f es) x n m = kept_member (same_expression m.3) refl
  not_member (Template es) x n m = kept_member (same_expression m.2) refl
  not_member (Quasi i j) x n m = not_quasi m.1
  not_member (Unary o i) x n m = kept_member (same_expression m.2) refl
  not_member (Binary o i j) x n m = kept_member (same_expression m.3) refl
  not_member (Opaque es i f) x n m = kept_member (same_expression m.2) refl

  pub member_kept : (place : Place) → (place ≡ Referred → ⊥) → (node : ℕ) (r : Node) → Some r ≡ slice_get h.nodes node → ((i j : ℕ) → r ≡ ComputedMember i j → ⊥)
      → (x : Expression) → Stands h node (Part.expression x) → KeptBy (property_rule next (role_of place) x)
  member_kept place p node r e n x s = subst KeptBy (sym (by_place next place p x)) (not_member r x n (means h node r (Part.expression x) e s))

  -- A computed member is decided by its object and key.
  pub data ByKey (object key : ℕ) (d : Deciding) : Type 0 where
    by_key : (o y : Expression) → Stands h object (Part.expression o) → Stands h key (Part.expression y) → d ≡ at_key next o y → ByKey object key d

  pub of_member : (place : Place) → (place ≡ Referred → ⊥) → (node object key : ℕ) (r : Node) → Some r ≡ slice_get h.nodes node → r ≡ ComputedMember object key
      → (x : Expression) → Stands h node (Part.expression x) → ByKey object key (property_rule next (role_of place) x)
  unfolding property_read
  of_member place p node object key r e f x s =
      let m = means h node (ComputedMember object key) (Part.expression x) (ap Some (sym f) ∙ e) s in
      by_key m.1 m.2 m.4 m.5 (by_place next place p x ∙ ap (property_read next) (sym (same_expression m.3)))

  pub no_key : {object key : ℕ} {d : Deciding} → ByKey object key d → None ≡ slice_get h.nodes key → KeptBy d
  no_key {object} {key} (by_key o y s t e) f = no_record h key (Part.expression y) f t

  kept_key : (o : Expression) {x y : Expression} → y ≡ x → decided a (at_key next o y) ≡ None → KeptBy (at_key next o x)
  kept_key o {x} {y} e f = subst (λ z. KeptBy (at_key next o z)) e (subst (λ u. DecisionOf h u Kept) (sym f) tt)

  not_number : (b : Expression) (r : Node) (x : Expression) → ((i : ℕ) → r ≡ Number i → ⊥) → Meant h r (Part.expression x) → KeptBy (at_key next b x)
  unfolding at_key decided
  not_number b (String t) x n m = kept_key b (same_expression m.2) refl
  not_number b (Number i) x n m = absurd (n i refl)
  not_number b (Boolean i) x n m = kept_key b (same_expression m.1) refl
  not_number b Null x n m = kept_key b (same_expression m.1) refl
  not_number b (Name t) x n m = kept_key b (same_expression m.2) refl
  not_number b Hole x n m = not_hole m.1
  not_number b (Spread i) x n m = not_a_spread m.2
  not_number b (Array es) x n m = kept_key b (same_expression m.2) refl
  not_number b (StaticMember o t) x n m = kept_key b (same_expression m.3) refl
  not_number b (ComputedMember o i) x n m = kept_key b (same_expression m.3) refl
  not_number b (Call f es) x n m = kept_key b (same_expression m.3) refl
  not_number b (Template es) x n m = kept_key b (same_expression m.2) refl
  not_number b (Quasi i j) x n m = not_quasi m.1
  not_number b (Unary o i) x n m = kept_key b (same_expression m.2) refl
  not_number b (Binary o i j) x n m = kept_key b (same_expression m.3) refl
  not_number b (Opaque es i f) x n m = kept_key b (same_expression m.2) refl

  pub key_kept : {object key : ℕ} {d : Deciding} → ByKey object key d → (r : Node) → Some r ≡ slice_get h.nodes key → ((i : ℕ) → r ≡ Number i → ⊥) → KeptBy d
  key_kept {object} {key} (by_key o y s t e) r f n = subst KeptBy (sym e) (not_number o r y n (means h key r (Part.expression y) f t))

  -- A number as key is an index, or keeps the member.
  pub data ByWhole (object bits : ℕ) (d : Deciding) : Type 0 where
    by_whole : (o : Expression) → Stands h object (Part.expression o) → d ≡ at_whole next o (whole (NumberValue.bits bits)) → ByWhole object bits d

  pub of_number : {object key : ℕ} {d : Deciding} → ByKey object key d → (bits : ℕ) (r : Node) → Some r ≡ slice_get h.nodes key → r ≡ Number bits → ByWhole object bits d
  unfolding at_key
  of_number {object} {key} (by_key o y s t e) bits r f g =
      let m = means h key (Number bits) (Part.expression y) (ap Some (sym g) ∙ f) t in by_whole o s (e ∙ ap (at_key next o) (sym (same_expression m.1)))

  too_large : (o : Expression) (w : Option ℕ) → ((k : ℕ) → w ≡ Some k → 2 ^ 32 ≤ k) → KeptBy (at_whole next o w)
  unfolding at_whole decided when
  too_large o None f = tt
  too_large o (Some k) f = by (nat_le k 4294967295) refl
    where
      by : (b : Bool) → nat_le k 4294967295 ≡ b → KeptBy (when b (at_index next o k))
      by false e = tt
      by true e = absurd (not_both k (f k refl) e)
        where
          not_both : (k : ℕ) → 2 ^ 32 ≤ k → nat_le k 4294967295 ≡ true → ⊥
          not_both k l e = grind (arith, nat_tests)

  pub index_kept : {object bits : ℕ} {d : Deciding} → ByWhole object bits d → ((k : ℕ) → whole (NumberValue.bits bits) ≡ Some k → 2 ^ 32 ≤ k) → KeptBy d
  index_kept {object} {bits} (by_whole o s e) f = subst KeptBy (sym e) (too_large o (whole (NumberValue.bits bits)) f)

  -- And then by what is read there, unless the object has effects.
  pub data ByIndex (object k : ℕ) (d : Deciding) : Type 0 where
    by_index : (o : Expression) → Stands h object (Part.expression o) → decided a d ≡ cond (a.effects (Part.expression o)) None (read_at next o k) → ByIndex object k d

  without_by : (b : Bool) (y : Expression) → decided a (unless_effects b (Deciding.becomes y) Deciding.keep) ≡ cond b None (Some y)
  unfolding decided unless_effects
  without_by true y = refl
  without_by false y = refl

  without : (o : Expression) (y : Option Expression) → decided a (without_effects o y) ≡ cond (a.effects (Part.expression o)) None y
  unfolding decided without_effects
  without o None = either_none (a.effects (Part.expression o))
    where
      either_none : (b : Bool) → None ≡ cond {A = Option Expression} b None None
      either_none true = refl
      either_none false = refl
  without o (Some y) = without_by (a.effects (Part.expression o)) y

  read_there : (o : Expression) (k : ℕ) → decided a (at_index next o k) ≡ cond (a.effects (Part.expression o)) None (read_at next o k)
  unfolding at_index read_at decided
  read_there (Expression.string l u) k = without (Expression.string l u) _
  read_there (Expression.array l xs) k = without (Expression.array l xs) _
  read_there o k = either_none (a.effects (Part.expression o))
    where
      either_none : (b : Bool) → None ≡ cond {A = Option Expression} b None None
      either_none true = refl
      either_none false = refl

  pub of_index : {object bits k : ℕ} {d : Deciding} → ByWhole object bits d → whole (NumberValue.bits bits) ≡ Some k → k < 2 ^ 32 → ByIndex object k d
  unfolding at_whole when
  of_index {object} {bits} {k} (by_whole o s e) f l =
      by_index o s (ap (decided a) (e ∙ ap (at_whole next o) f ∙ ap (λ b. when b (at_index next o k)) (fits k l)) ∙ read_there o k)
    where
      fits : (k : ℕ) → k < 2 ^ 32 → nat_le k 4294967295 ≡ true
      fits k l = grind (arith, nat_tests)

  no_plan : (o : Option Expression) (b : Bool) → PlanIf h next o None → DecisionOf h (cond b None o) Kept
  no_plan None true p = tt
  no_plan None false p = tt
  no_plan (Some y) b p = absurd p

  pub nothing_read : {object k : ℕ} {d : Deciding} → ByIndex object k d → ReadAt h object k None → KeptBy d
  nothing_read {object} {k} (by_index o s e) r = subst (λ u. DecisionOf h u Kept) (sym e) (no_plan (read_at next o k) (a.effects (Part.expression o)) (r next o s))

  pub effects_kept : {object k : ℕ} {d : Deciding} → ByIndex object k d → Says a.effects h object true → KeptBy d
  effects_kept {object} {k} (by_index o s e) f =
      subst (λ u. DecisionOf h u Kept) (sym (e ∙ ap (λ b. cond b None (read_at next o k)) (sym (f (Part.expression o) s.numbered s.denoted)))) tt

-- Where it has none, the plan is for what is read.
planned : (h : Held) (o : Option Expression) (plan : Plan) → PlanIf h (length h.nodes) o (Some plan) → DecisionOf h o (Rewritten plan)
planned h None plan p = p
planned h (Some y) plan p = p

pub read_planned : (h : Held) (a : Answers) (object k : ℕ) (plan : Plan) (d : Deciding) → ByIndex h a (length h.nodes) object k d → ReadAt h object k (Some plan) → Says a.effects h object false → DecisionOf h (decided a d) (Rewritten plan)
read_planned h a object k plan d (by_index o s e) r f =
    subst (λ u. DecisionOf h u (Rewritten plan)) (sym (e ∙ ap (λ b. cond b None (read_at (length h.nodes) o k)) (sym (f (Part.expression o) s.numbered s.denoted))))
    (planned h (read_at (length h.nodes) o k) plan (r (length h.nodes) o s))
