-- A rule is tried where the cursor is: what follows of what is decided, of the space there is, and of what is built.
use Rattle.std.proofs.Common.{◌≡◌, ℕ, ◌+◌, ◌<◌, ◌≤◌, ◌⊎◌, List, [], ◌∷◌, ◌++◌, length, take, drop, Some, None, Option, Ok, Err, Result, inl, inr, refl, sym, ap, subst, ◌∙◌, arith}
use Rattle.std.proofs.Math.Logic.{∥∥₁_elim}
use Rattle.std.proofs.lemmas.Bool.{cases_eq, cases_lt}
use Rattle.std.proofs.Math.Seq.{drop-append_seam}
use Rattle.std.proofs.lemmas.List.{length-append, length-drop}
use Rattle.meaning.proofs.Reading.{one_expression}
use Rattle.std.specs.List.{last_or}
use Rattle.base.specs.declared.fault.Fault.{Fault}
use Rattle.base.specs.Questions.{Refuses, Granted}
use Rattle.tree.specs.declared.role.Sort.{Sort}
use Rattle.tree.specs.declared.role.Sort.TheVariants.{IsExpression, IsHole, IsSpread, IsQuasi}
use Rattle.tree.specs.Tree.{label, own_of}
use Rattle.tree.specs.Lawful.{sort_of}
use Rattle.tree.specs.Heap.{Held, grown}
use Rattle.tree.specs.Limits.{WithinLimits}
use Rattle.store.specs.declared.stores.Stores.{Stores}
use Rattle.store.specs.declared.stores.Counts.{Counts}
use Rattle.store.specs.declared.store.Store.{Store}
use Rattle.store.specs.Held.{held, lent, room, Refilled}
use Rattle.store.specs.Stores.{held_of, rooms_of}
use Rattle.host.specs.Answers.{Answers}
use Rattle.meaning.specs.Expression.{Expression}
use Rattle.meaning.specs.Trees.{tree_of}
use Rattle.rules.specs.Deciding.{decided}
use Rattle.rules.specs.Space.{space}
use Rattle.deciding.specs.declared.plan.Plan.{Plan}
use Rattle.deciding.specs.declared.plan.Decision.{Decision}
use Rattle.deciding.specs.declared.plan.Decision.TheVariants.{Kept, Rewritten}
use Rattle.deciding.specs.Plans.{PlanOf, WritesFor, DecisionOf}
use Rattle.deciding.specs.Needs.{NeedOf}
use Rattle.building.specs.Growing.{GrowsBy, HasRoom}
use Rattle.building.specs.Builds.{Built, Builds}
use Rattle.model.specs.declared.answer.Outcome.{Outcome}
use Rattle.model.specs.Model.{Model, At}
use Rattle.model.specs.Tries.{Rule, Try, Tries, decision, need, tried, rewritten, space_questions}
use Rattle.session.specs.declared.step.Step.{Step}
use Rattle.session.specs.declared.session.Session.{Session}
use Rattle.session.specs.Models.{Models, counts}
use Rattle.session.specs.Following.{Is, given_of}
use Rattle.session.specs.Trying.{Decides, Holds, hung, hung_root}
use Rattle.session.proofs.Here.{top_here, stands_here, expression_here}
use Rattle.session.proofs.Parent.{parent_there, no_last}
use Rattle.session.proofs.Rewriting.{rewritten_root, rewritten_below, relinked_counts, grown_counts}

-- ---- what follows where something is only known to be there

no_two : (x y : ⊥) → x ≡ y
no_two x y = absurd x

pub never : {A : Type 0} → ∥ A ∥₁ → (A → ⊥) → ⊥
never t f = ∥∥₁_elim t no_two f

pub equal_from : {A : Type 0} → ∥ A ∥₁ → (a b : ℕ) → (A → a ≡ b) → a ≡ b
equal_from t a b f = elim (cases_eq a b) [ inl e ↦ e | inr n ↦ absurd (never t (λ x. n (f x))) ]

pub lower_from : {A : Type 0} → ∥ A ∥₁ → (a b : ℕ) → (A → a < b) → a < b
lower_from t a b f = elim (cases_lt a b) [ inl lt ↦ lt | inr le ↦ absurd (never t (λ x. omega (arith, f x))) ]

pub counts_from : {A : Type 0} → ∥ A ∥₁ → (a b : Counts) → (A → a ≡ b) → a ≡ b
counts_from t a b f =
    ap (λ n. record { nodes = n; entries = a.entries; text = a.text }) (equal_from t a.nodes b.nodes (λ x. ap (λ c. c.nodes) (f x)))
    ∙ ap (λ n. record { nodes = b.nodes; entries = n; text = a.text }) (equal_from t a.entries b.entries (λ x. ap (λ c. c.entries) (f x)))
    ∙ ap (λ n. record { nodes = b.nodes; entries = b.entries; text = n }) (equal_from t a.text b.text (λ x. ap (λ c. c.text) (f x)))

-- ---- what the stores hold after it

module _ {T : Type 0} (old mid new : Store T) (xs ys : List T) where
  refilled_then : Refilled old xs mid → Refilled mid ys new → length ys ≡ length xs → Refilled old ys new
  refilled_then f g e = (
    g.0,
    g.1 ∙ ap (λ r. ys ++ r)
        (ap (λ n. drop n (lent mid)) e
        ∙ ap (drop (length xs)) f.1
        ∙ drop-append_seam xs (drop (length xs) (lent old))
        ∙ ap (λ n. drop n (lent old)) (sym e)),
  )

room_kept : {T : Type 0} (old new : Store T) (xs : List T) → Refilled old xs new → length xs ≤ room old → room new ≡ room old
room_kept old new xs f le = omega (arith, ap length f.1, length-append xs (drop (length xs) (lent old)), length-drop (length xs) (lent old))

pub hung_counts : (o : Option Step) (h : Held) (n : ℕ) → counts (hung o h n) ≡ counts h
hung_counts None h n = refl
hung_counts (Some t) h n = relinked_counts h t.node t.child n

pub same_held : (h k : Held) → h.nodes ≡ k.nodes → h.entries ≡ k.entries → h.text ≡ k.text → h ≡ k
same_held h k a b c =
    ap (λ ns. record { nodes = ns; entries = h.entries; text = h.text }) a
    ∙ ap (λ es. record { nodes = k.nodes; entries = es; text = h.text }) b
    ∙ ap (λ bs. record { nodes = k.nodes; entries = k.entries; text = bs }) c

module _ (o : Option Step) (old mid new : Stores) (extra : Held) (n : ℕ) (grew : GrowsBy old extra mid) (hangs : Holds mid (hung o (held_of mid) n) new) where
  abbrev whole : Held
  whole = grown (held_of old) extra

  mid_is : held_of mid ≡ whole
  mid_is = same_held (held_of mid) whole grew.nodes_grow.0 grew.entries_grow.0 grew.text_grows.0

  hung_holds : Holds mid (hung o whole n) new
  hung_holds = subst (λ h. Holds mid (hung o h n) new) mid_is hangs

  pub now_held : held_of new ≡ hung o whole n
  now_held = same_held (held_of new) (hung o whole n) hung_holds.nodes.0 hung_holds.entries.0 hung_holds.text.0

  same_counts : counts (hung o whole n) ≡ counts whole
  same_counts = hung_counts o whole n

  pub holds_now : Holds old (hung o whole n) new
  holds_now = record {
    nodes = refilled_then old.nodes mid.nodes new.nodes whole.nodes (hung o whole n).nodes grew.nodes_grow hung_holds.nodes (ap (λ c. c.nodes) same_counts);
    entries = refilled_then old.entries mid.entries new.entries whole.entries (hung o whole n).entries grew.entries_grow hung_holds.entries (ap (λ c. c.entries) same_counts);
    text = refilled_then old.text mid.text new.text whole.text (hung o whole n).text grew.text_grows hung_holds.text (ap (λ c. c.text) same_counts);
  }

  -- The lent memory is as long as it was, where there was room.
  pub same_rooms : HasRoom old (counts extra) → rooms_of new ≡ rooms_of old
  same_rooms r =
      let g = grown_counts (held_of old) extra in
      let a : room new.nodes ≡ room old.nodes =
      room_kept old.nodes new.nodes (hung o whole n).nodes holds_now.nodes (omega (arith, ap (λ c. c.nodes) same_counts, ap (λ c. c.nodes) g, r.for_nodes.0)) in
      let b : room new.entries ≡ room old.entries =
      room_kept old.entries new.entries (hung o whole n).entries holds_now.entries (omega (arith, ap (λ c. c.entries) same_counts, ap (λ c. c.entries) g, r.for_entries.0)) in
      let c : room new.text ≡ room old.text =
      room_kept old.text new.text (hung o whole n).text holds_now.text (omega (arith, ap (λ c. c.text) same_counts, ap (λ c. c.text) g, r.for_text.0)) in
      cc

-- There are no more rewrites than can be counted.
pub few_rewrites : (s : Session) (m : Model) → Is s m → s.rewrites ≤ 8192
few_rewrites s m is = let u = one_expression m.whole is.sound.payoff in omega (arith, is.bounded u.0 u.1, is.counted)

-- ---- what was decided

is_one : (s : Sort) → (s ≡ IsExpression) ⊎ (s ≡ IsExpression → ⊥)
is_one IsExpression = inl refl
is_one IsHole = inr (λ e. cc)
is_one IsSpread = inr (λ e. cc)
is_one IsQuasi = inr (λ e. cc)

no_plan : (p : Plan) → ◌≡◌ {A = Decision} (Rewritten p) Kept → ⊥
no_plan p e = cc

module _ (a : Answers) (k : Rule) (s : Session) (m : Model) (is : Is s m) where
  -- The rule keeps what it is tried at.
  pub kept : Decides a k s Kept → (ts : List Try) × Tries (given_of s) a k m (Ok Outcome.Kept) m ts
  kept d =
      let t = top_here _ _ _ _ _ m is in
      elim (is_one (sort_of (own_of t.0))) [
        | inr n ↦ ([], Tries.at_no_expression t.0 t.1 n)
        | inl e ↦
            let x = expression_here _ _ _ _ _ m is t.0 t.1 e in
            (_, Tries.keeps x.0 x.1 (none_made (decided a (decision (given_of s) a k m x.0)) (d.of_expression m is x.0 x.1)))
      ]
    where
      none_made : (o : Option Expression) → DecisionOf (held_of s.stores) o Kept → o ≡ None
      none_made None f = refl
      none_made (Some y) f = absurd f

  module _ (plan : Plan) (d : Decides a k s (Rewritten plan)) where
    -- The expression there, and the one that the plan is for.
    pub record Planned : Type 0 where
      pub x : Expression
      pub y : Expression
      pub at : At m x
      pub made : decided a (decision (given_of s) a k m x) ≡ Some y
      pub plans : PlanOf (held_of s.stores) plan (length (held_of s.stores).nodes) y
      pub writes : WritesFor x (Rewritten plan)

    some_made : (x : Expression) → At m x → (o : Option Expression) → decided a (decision (given_of s) a k m x) ≡ o → DecisionOf (held_of s.stores) o (Rewritten plan) → WritesFor x (Rewritten plan) → Planned
    some_made x at None e f w = absurd f
    some_made x at (Some y) e f w = record { x = x; y = y; at = at; made = e; plans = f; writes = w }

    pub planned : Planned
    planned =
        let t = top_here _ _ _ _ _ m is in
        let sort : sort_of (own_of t.0) ≡ IsExpression = elim (is_one (sort_of (own_of t.0))) [ inl e ↦ e | inr n ↦ absurd (no_plan plan (d.of_other m is t.0 t.1 n)) ] in
        let x = expression_here _ _ _ _ _ m is t.0 t.1 sort in
        some_made x.0 x.1 (decided a (decision (given_of s) a k m x.0)) refl (d.of_expression m is x.0 x.1) (d.writes m is x.0 x.1)

    module _ (n : Counts) (needed : NeedOf (held_of s.stores) plan n) where
      abbrev pub p : Planned
      p = planned

      abbrev pub takes : Counts
      takes = space (length (held_of s.stores).nodes) p.x p.y

      n_is : n ≡ takes
      n_is = needed is.limited p.x p.y p.plans p.writes

      takes_is : takes ≡ need (given_of s) a k m p.x p.y
      takes_is = ap (λ c. space c.nodes p.x p.y) (sym is.held)

      here_is : label (tree_of p.x) ≡ s.here
      here_is = (stands_here _ _ _ _ _ m is p.x p.at).numbered

      -- There is no space for the rewrite.
      pub refused : (e : Fault) → Refuses (space_questions (given_of s) m s.here n) e → (ts : List Try) × Tries (given_of s) a k m (Err e) m ts
      refused e r = (
        _,
        Tries.refuses p.x p.y e p.at p.made
            (subst (λ l. Refuses (space_questions (given_of s) m l (need (given_of s) a k m p.x p.y)) e) (sym here_is)
            (subst (λ c. Refuses (space_questions (given_of s) m s.here c) e) (n_is ∙ takes_is) r)),
      )

      module _ (granted : Granted (space_questions (given_of s) m s.here n)) where
        held_nodes : m.held.nodes ≡ length (held s.stores.nodes)
        held_nodes = ap (λ c. c.nodes) is.held

        held_entries : m.held.entries ≡ length (held s.stores.entries)
        held_entries = ap (λ c. c.entries) is.held

        held_text : m.held.text ≡ length (held s.stores.text)
        held_text = ap (λ c. c.text) is.held

        has_room : HasRoom s.stores n
        has_room = record {
          for_nodes = (omega (arith, granted.0.0, held_nodes), omega (arith, granted.0.1, held_nodes));
          for_entries = (omega (arith, granted.1.0.0, held_entries), omega (arith, granted.1.0.1, held_entries));
          for_text = (omega (arith, granted.1.1.0.0, held_text), omega (arith, granted.1.1.0.1, held_text));
        }

        pub room_there : HasRoom s.stores takes
        room_there = subst (HasRoom s.stores) n_is has_room

        pub is_built : (new : Stores) (answer : Result ℕ Fault) → Builds s.stores plan new answer → Built s.stores p.y takes new answer
        is_built new answer b = b is.limited p.x p.y p.plans p.writes room_there

        module _ (new : Stores) (number : ℕ) (b : Built s.stores p.y takes new (Ok number)) where
          abbrev pub after : Model
          after = rewritten m p.y (need (given_of s) a k m p.x p.y)

          number_is : label (tree_of p.y) ≡ number
          number_is = let f = b.answered in cc

          now_limited : WithinLimits (grown (held_of s.stores) b.more)
          now_limited =
              let c = grown_counts (held_of s.stores) b.more in
              let t : counts b.more ≡ n = b.needed ∙ sym n_is in (
                omega (arith, ap (λ k'. k'.nodes) c, ap (λ k'. k'.nodes) t, granted.0.1, held_nodes),
                omega (arith, ap (λ k'. k'.entries) c, ap (λ k'. k'.entries) t, granted.1.0.1, held_entries),
                omega (arith, ap (λ k'. k'.text) c, ap (λ k'. k'.text) t, granted.1.1.0.1, held_text),
              )

          abbrev pub trail : List Step
          trail = take s.depth s.path

          hung_there : (o : Option Step) → last_or None trail ≡ o
              → Models (hung o (grown (held_of s.stores) b.more) (label (tree_of p.y))) (hung_root o s.root (label (tree_of p.y))) (label (tree_of p.y)) trail (s.rewrites + 1) after
          hung_there None e =
              rewritten_root (given_of s) a k (held_of s.stores) s.root s.here trail s.rewrites m is p.x p.y p.at p.made b.more b.denoted (b.needed ∙ takes_is) now_limited (no_last trail e)
          hung_there (Some t) e =
              let q = parent_there _ _ _ _ _ m is t e in
              rewritten_below (given_of s) a k (held_of s.stores) s.root s.here trail s.rewrites m is p.x p.y p.at p.made b.more b.denoted (b.needed ∙ takes_is) now_limited q.0 t.node t.child q.1 q.2

          -- The session after it.
          pub hung_after : Models (hung (last_or None trail) (grown (held_of s.stores) b.more) number) (hung_root (last_or None trail) s.root number) number trail (s.rewrites + 1) after
          hung_after =
              subst (λ l. Models (hung (last_or None trail) (grown (held_of s.stores) b.more) l) (hung_root (last_or None trail) s.root l) l trail (s.rewrites + 1) after) number_is
              (hung_there (last_or None trail) refl)

          pub rewrote : Tries (given_of s) a k m (Ok Outcome.Rewritten) after (tried (given_of s) a k m p.x (label (tree_of p.y)) ∷ [])
          rewrote =
              Tries.rewrites p.x p.y p.at p.made
              (subst (λ l. Granted (space_questions (given_of s) m l (need (given_of s) a k m p.x p.y))) (sym here_is)
              (subst (λ c. Granted (space_questions (given_of s) m s.here c)) (n_is ∙ takes_is) granted))

          module _ (o : Option Step) (parent : o ≡ last_or None trail) (end : Stores) (hangs : Holds new (hung o (held_of new) number) end) where
            hangs_there : Holds new (hung (last_or None trail) (held_of new) number) end
            hangs_there = subst (λ q. Holds new (hung q (held_of new) number) end) parent hangs

            pub is_after : (top : ℕ) → top ≡ hung_root o s.root number → Models (held_of end) top number trail (s.rewrites + 1) after
            is_after top rooted =
                subst (λ t. Models (held_of end) t number trail (s.rewrites + 1) after) (sym (rooted ∙ ap (λ q. hung_root q s.root number) parent))
                (subst (λ h. Models h (hung_root (last_or None trail) s.root number) number trail (s.rewrites + 1) after)
                (sym (now_held (last_or None trail) s.stores new end b.more number b.grew hangs_there)) hung_after)

            pub holds_after : (extra : Held) × Holds s.stores (hung (last_or None trail) (grown (held_of s.stores) extra) number) end
            holds_after = (b.more, holds_now (last_or None trail) s.stores new end b.more number b.grew hangs_there)

            pub rooms_after : rooms_of end ≡ rooms_of s.stores
            rooms_after = same_rooms (last_or None trail) s.stores new end b.more number b.grew hangs_there (subst (HasRoom s.stores) (sym b.needed) room_there)

        pub no_fault : (new : Stores) (e : Fault) → Builds s.stores plan new (Err e) → ⊥
        no_fault new e b = let f = (is_built new (Err e) b).answered in absurd (cc)
