-- The cursor goes down and up.
use Rattle.std.proofs.Common.{◌≡◌, ℕ, ◌+◌, ◌-◌, ◌<◌, ◌≤◌, true, List, [], ◌∷◌, ◌++◌, length, take, set, get_or, is_some, Some, None, Option, inl, inr, refl, sym, ap, ◌∙◌, subst, arith}
use Rattle.std.specs.List.{slice_get}
use Rattle.std.specs.Option.{option_map}
use Rattle.std.proofs.lemmas.Bool.{cases_lt}
use Rattle.std.proofs.lemmas.List.{map-append, length-map, length-append, length-take-le, take-map, take-take, take_at, take-append-le, take_all, take_more, take_more_set, get_or-take, get_or_at, get_or_append_left, get_or-map}
use Rattle.tree.specs.Tree.{tree, label, children_of, at_place}
use Rattle.tree.specs.Heap.{Held, look}
use Rattle.tree.proofs.Denoting.{used}
use Rattle.tree.proofs.Counting.{same_self}
use Rattle.tree.proofs.Places.{child_is, labelled, place_top, uses_place}
use Rattle.model.specs.Model.{Model, moved}
use Rattle.session.specs.declared.step.Step.{Step}
use Rattle.session.specs.Models.{Models, children, numbers}

some_mapped : {X Y : Type 0} (f : X → Y) (o : Option X) → is_some (option_map f o) ≡ is_some o
some_mapped f None = refl
some_mapped f (Some x) = refl

pub empty_place : (p : List ℕ) → length p ≡ 0 → p ≡ []
empty_place [] e = refl
empty_place (i ∷ p) e = absurd (omega arith)

-- A path that is not empty has a last step.
pub last_step : (p : List ℕ) (n : ℕ) → 0 < n → length p ≡ n → p ≡ take (n - 1) p ++ get_or p (n - 1) 0 ∷ []
last_step p n pos e = sym (take_all n p (omega arith)) ∙ ap (λ k. take k p) (omega arith) ∙ take_more p (n - 1) 0 (omega arith)

module _ (h : Held) (root here : ℕ) (trail : List Step) (count : ℕ) (m : Model) (is : Models h root here trail count m) where
  at_trail : option_map label (at_place m.whole (children trail)) ≡ Some here
  at_trail = ap (λ p. option_map label (at_place m.whole p)) (sym is.placed) ∙ is.at_cursor

  -- Something is stored at the cursor's number.
  pub stored_here : is_some (look h here) ≡ true
  stored_here =
      let l = labelled (at_place m.whole m.place) here is.at_cursor in
      used (look h) here m.whole is.denoted (omega (arith, uses_place here m.whole m.place (tree here l.0 l.1) l.2, same_self here))

  -- What the stores say of its children is what the tree says.
  pub child_stored : (k : ℕ) → slice_get (children_of (look h here)) k ≡ option_map label (at_place m.whole (m.place ++ k ∷ []))
  child_stored k =
      child_is (look h) m.whole (children trail) here k is.denoted at_trail
      ∙ ap (λ p. option_map label (at_place m.whole (p ++ k ∷ []))) (sym is.placed)

  pub has_child : (k : ℕ) → is_some (at_place m.whole (m.place ++ k ∷ [])) ≡ is_some (slice_get (children_of (look h here)) k)
  has_child k = sym (some_mapped label (at_place m.whole (m.place ++ k ∷ []))) ∙ ap is_some (sym (child_stored k))

  pub depth_is : length m.place ≡ length trail
  depth_is = ap length is.placed ∙ length-map trail (λ s. s.child)

  -- At the root.
  pub top : Models h root root [] count (moved m [])
  top = record {
    denoted = is.denoted;
    sound = record { payoff = is.sound.payoff; distinct = is.sound.distinct; numbered = is.sound.numbered };
    limited = is.limited;
    rooted = is.rooted;
    placed = refl;
    trailed = λ d lt. absurd (omega arith);
    at_cursor = ap (option_map label) (place_top m.whole) ∙ ap (λ n. Some n) is.rooted;
    counted = is.counted;
    held = is.held;
    bounded = is.bounded;
  }

  down : (k c : ℕ) → slice_get (children_of (look h here)) k ≡ Some c → Models h root c (trail ++ record { node = here; child = k } ∷ []) count (moved m (m.place ++ k ∷ []))
  down k c e =
      let s : Step = record { node = here; child = k } in
      let kids : children (trail ++ s ∷ []) ≡ children trail ++ k ∷ [] = map-append (λ t. t.child) trail (s ∷ []) in
      let nums : numbers (trail ++ s ∷ []) ≡ numbers trail ++ here ∷ [] = map-append (λ t. t.node) trail (s ∷ []) in
      let lc = length-map trail (λ t. t.child) in
      let ln = length-map trail (λ t. t.node) in
      record {
        denoted = is.denoted;
        sound = record { payoff = is.sound.payoff; distinct = is.sound.distinct; numbered = is.sound.numbered };
        limited = is.limited;
        rooted = is.rooted;
        placed = ap (λ p. p ++ k ∷ []) is.placed ∙ sym kids;
        trailed = λ d lt. elim (cases_lt d (length trail)) [
          | inl lo ↦
              ap (λ p. option_map label (at_place m.whole (take d p))) kids
              ∙ ap (λ p. option_map label (at_place m.whole p)) (take-append-le d (children trail) (k ∷ []) (omega arith))
              ∙ is.trailed d lo
              ∙ ap (λ n. Some n) (sym (ap (λ ns. get_or ns d 0) nums ∙ get_or_append_left (numbers trail) (here ∷ []) 0 d (omega arith)))
          | inr hi ↦
              let at : length trail ≡ d = omega (arith, length-append trail (s ∷ [])) in
              ap (λ p. option_map label (at_place m.whole (take d p))) kids
              ∙ ap (λ p. option_map label (at_place m.whole p)) (take_at (children trail) (k ∷ []) d (omega arith))
              ∙ at_trail
              ∙ ap (λ n. Some n) (sym (ap (λ ns. get_or ns d 0) nums ∙ get_or_at (numbers trail) here [] 0 d (omega arith)))
        ];
        at_cursor = sym (child_stored k) ∙ e;
        counted = is.counted;
        held = is.held;
        bounded = is.bounded;
      }

  up : 0 < length trail → Models h root (get_or (numbers trail) (length trail - 1) 0) (take (length trail - 1) trail) count (moved m (take (length trail - 1) m.place))
  up pos =
      let n : ℕ = length trail - 1 in
      let kids : children (take n trail) ≡ take n (children trail) = sym (take-map (λ s. s.child) n trail) in
      let nums : numbers (take n trail) ≡ take n (numbers trail) = sym (take-map (λ s. s.node) n trail) in
      let short : length (take n trail) ≡ n = length-take-le n trail (omega arith) in
      record {
        denoted = is.denoted;
        sound = record { payoff = is.sound.payoff; distinct = is.sound.distinct; numbered = is.sound.numbered };
        limited = is.limited;
        rooted = is.rooted;
        placed = ap (take n) is.placed ∙ sym kids;
        trailed = λ d lt.
            let lo : d < n = omega arith in
            ap (λ p. option_map label (at_place m.whole (take d p))) kids
            ∙ ap (λ p. option_map label (at_place m.whole p)) (take-take d n (children trail) (omega arith))
            ∙ is.trailed d (omega arith)
            ∙ ap (λ x. Some x) (sym (ap (λ ns. get_or ns d 0) nums ∙ get_or-take n (numbers trail) d 0 lo));
        at_cursor = ap (λ p. option_map label (at_place m.whole (take n p))) is.placed ∙ is.trailed n (omega arith);
        counted = is.counted;
        held = is.held;
        bounded = is.bounded;
      }

-- The same over a path of which the trail is the first part.
module _ (h : Held) (root here : ℕ) (path : List Step) (depth count : ℕ) (m : Model) (is : Models h root here (take depth path) count m) where
  pub down_path : (k c : ℕ) → depth < length path → slice_get (children_of (look h here)) k ≡ Some c
      → Models h root c (take (depth + 1) (set path depth (record { node = here; child = k }))) count (moved m (m.place ++ k ∷ []))
  down_path k c lt e =
      subst (λ t. Models h root c t count (moved m (m.place ++ k ∷ [])))
      (sym (take_more_set path depth (record { node = here; child = k }) lt))
      (down h root here (take depth path) count m is k c e)

  pub place_is : depth ≤ length path → length m.place ≡ depth
  place_is le = depth_is h root here (take depth path) count m is ∙ length-take-le depth path le

  last_number : (d : Step) → 0 < depth → depth ≤ length path → get_or (numbers (take depth path)) (length (take depth path) - 1) 0 ≡ (get_or path (depth - 1) d).node
  last_number d pos le =
      let n : length (take depth path) ≡ depth = length-take-le depth path le in
      ap (λ i. get_or (numbers (take depth path)) (i - 1) 0) n
      ∙ get_or-map (λ s. s.node) (take depth path) (depth - 1) d 0 (omega arith)
      ∙ ap (λ s. s.node) (get_or-take depth path (depth - 1) d (omega arith))

  pub up_path : (d : Step) → 0 < depth → depth ≤ length path
      → Models h root (get_or path (depth - 1) d).node (take (depth - 1) path) count (moved m (take (depth - 1) m.place))
  up_path d pos le =
      let n : length (take depth path) ≡ depth = length-take-le depth path le in
      let u = up h root here (take depth path) count m is (omega arith) in
      subst (λ x. Models h root x (take (depth - 1) path) count (moved m (take (depth - 1) m.place))) (last_number d pos le)
      (subst (λ t. Models h root (get_or (numbers (take depth path)) (length (take depth path) - 1) 0) t count (moved m (take (depth - 1) m.place))) (take-take (depth - 1) depth path (omega arith))
      (subst (λ i. Models h root (get_or (numbers (take depth path)) (length (take depth path) - 1) 0) (take (i - 1) (take depth path)) count (moved m (take (i - 1) m.place))) n u))
