-- One rewrite leaves a session sound, makes its payoff smaller and keeps its runs, and changes the number at the place.
use Rattle.std.proofs.Common.{◌≡◌, ℕ, ◌+◌, ◌<◌, ◌≤◌, Some, inl, inr, sym, refl, ap, ◌∙◌, subst, arith}
use Rattle.std.proofs.lemmas.Bool.{cases_lt}
use Rattle.tree.specs.declared.node.FirstChild.{FirstChild}
use Rattle.tree.specs.Tree.{Tree, tree, label, own_of, below, same, uses, uses_all, Distinct, at_place, replace}
use Rattle.tree.specs.Lawful.{LawfulTree, Payoff, sort_of}
use Rattle.tree.proofs.Counting.{same_self}
use Rattle.tree.proofs.Places.{uses_place, uses_replace, replace_distinct}
use Rattle.meaning.specs.Expression.{Expression}
use Rattle.meaning.specs.Trees.{tree_of}
use Rattle.meaning.specs.Payoffs.{StoredAs}
use Rattle.meaning.specs.World.{World}
use Rattle.meaning.specs.Premises.{Premises}
use Rattle.meaning.specs.Replacing.{Keeps, Swap}
use Rattle.meaning.proofs.Replacing.{alike}
use Rattle.host.specs.Answers.{Answers}
use Rattle.rules.specs.Places.{Role}
use Rattle.rules.specs.Deciding.{decided, asked}
use Rattle.rules.specs.Size.{size}
use Rattle.rules.specs.Space.{new_nodes}
use Rattle.rules.specs.Lawful.{LawfulExpression}
use Rattle.rules.specs.Numbering.{NumberedFrom}
use Rattle.rules.specs.Laws.{AllTrue, Fits}
use Rattle.rules.proofs.Payoffs.{sort_is, lawful_payoff}
use Rattle.rules.proofs.Sizes.{whole_smaller}
use Rattle.model.specs.Places.{role_at}
use Rattle.model.specs.Model.{Given, Model, At, Sound}
use Rattle.model.specs.Tries.{Rule, decision, need, rewritten}
use Rattle.model.proofs.Lawful.{lawful_place, lawful_replaced, sort_replaced, expression_lawful, lawful_spelled, stored_alike}
use Rattle.model.proofs.Swapping.{swap_at}
use Rattle.model.proofs.Making.{top_used, makes_lawful, makes_smaller, makes_numbered, makes_new_or_below, makes_fitting, makes_alike}
use Rattle.model.proofs.Counting.{new_counted}

uses_split : (n : ℕ) (t : Tree) → uses n t ≡ same n (label t) + uses_all n (below t)
uses_split n (tree l o ts) = refl

module _ (g : Given) (a : Answers) (rule : Rule) (m : Model) (x y : Expression) (sound : Sound m) (at : At m x) (made : decided a (decision g a rule m x) ≡ Some y) where
  abbrev next : ℕ
  next = m.held.nodes

  abbrev role : Role
  role = role_at m.whole m.place

  abbrev pub after : Model
  after = rewritten m y (need g a rule m x y)

  here_lawful : LawfulTree (tree_of x)
  here_lawful = lawful_place m.whole m.place (tree_of x) at.1 sound.payoff.0

  new_lawful : LawfulExpression y
  new_lawful = makes_lawful a g.supported next role x y rule made (expression_lawful x at.0 here_lawful)

  new_payoff : Payoff (tree_of y)
  new_payoff = lawful_payoff y new_lawful

  -- ---- numbers

  part : (n : ℕ) → uses n (tree_of x) ≤ uses n m.whole
  part n = uses_place n m.whole m.place (tree_of x) at.1

  numbers : NumberedFrom next x y
  numbers = makes_numbered a g.supported next role x y rule made (λ n i. omega (arith, part n, sound.numbered n i))

  pub new_distinct : Distinct (tree_of y)
  new_distinct n =
      let d = numbers.1 n in
      elim (cases_lt n next) [
        | inl i ↦ omega (arith, d.0 i, part n, sound.distinct n)
        | inr i ↦ elim (cases_lt n (next + numbers.0)) [ inl j ↦ omega (arith, d.1 i j) | inr j ↦ omega (arith, d.2 j) ]
      ]

  pub old_numbers : (n : ℕ) → 1 ≤ uses n m.whole → uses n (tree_of y) ≤ uses n (tree_of x)
  old_numbers n u = elim (cases_lt n next) [ inl i ↦ (numbers.1 n).0 i | inr i ↦ absurd (omega (arith, sound.numbered n i)) ]

  counted : new_nodes next (tree_of y) ≡ numbers.0
  counted = new_counted next numbers.0 (tree_of y) (λ n. (numbers.1 n).1) (λ n. (numbers.1 n).2)

  still_numbered : (n : ℕ) → after.held.nodes ≤ n → uses n after.whole ≡ 0
  still_numbered n i =
      let j : next + numbers.0 ≤ n = omega (arith, counted) in
      omega (arith, uses_replace n m.whole m.place (tree_of x) (tree_of y) at.1, sound.numbered n (omega arith), (numbers.1 n).2 j)

  -- ---- the session after it is sound

  sorts : sort_of (own_of (tree_of y)) ≡ sort_of (own_of (tree_of x))
  sorts = new_payoff.1 ∙ sym (sort_is x)

  pub rewrite_sound : Sound after
  rewrite_sound = record {
    payoff = (
      lawful_replaced m.whole m.place (tree_of x) (tree_of y) at.1 sorts new_payoff.0 sound.payoff.0,
      sort_replaced m.whole m.place (tree_of x) (tree_of y) at.1 sorts ∙ sound.payoff.1,
    );
    distinct = replace_distinct m.whole m.place (tree_of x) (tree_of y) at.1 sound.distinct new_distinct old_numbers;
    numbered = still_numbered;
  }

  -- Another number stands at the place.
  pub number_changes : label (tree_of x) ≡ label (tree_of y) → ⊥
  number_changes e =
      let old = part (label (tree_of x)) in
      let top = top_used (tree_of x) in
      elim (makes_new_or_below a g.supported next role x y rule made) [
        | inl i ↦ omega (arith, old, top, sound.numbered (label (tree_of x)) (omega arith))
        | inr i ↦
            let j : 1 ≤ uses_all (label (tree_of x)) (below (tree_of x)) = subst (λ n. 1 ≤ uses_all n (below (tree_of x))) (sym e) i in
            omega (arith, old, uses_split (label (tree_of x)) (tree_of x), same_self (label (tree_of x)), sound.distinct (label (tree_of x)))
      ]

  -- ---- the payoff of the whole

  pub rewrite_swaps : (u v : Expression) → StoredAs m.whole u → StoredAs after.whole v → Swap x y FirstChild.Value u v
  rewrite_swaps u v s t =
      let fits = subst (λ z. Fits (role_at z m.place) x y) (sym s.1) (makes_fitting a g.supported next role x y rule made) in
      let d = swap_at x y at.0 here_lawful (lawful_spelled y new_lawful) u m.place Role.ordinary s.0 (ap (λ z. at_place z m.place) s.1 ∙ at.1) fits in
      let same = stored_alike after.whole d.0 v rewrite_sound.payoff (d.2, sym d.1 ∙ ap (λ z. replace z m.place (tree_of y)) s.1) t in
      subst (λ z. Swap x y FirstChild.Value u z) same d.3

  pub rewrite_shrinks : (u v : Expression) → StoredAs m.whole u → StoredAs after.whole v → size v < size u
  rewrite_shrinks u v s t = whole_smaller x y u v FirstChild.Value (makes_smaller a g.supported next role x y rule made) (rewrite_swaps u v s t)

  pub rewrite_keeps : (w : World) → Premises w → AllTrue w a (asked a (decision g a rule m x)) → (u v : Expression) → StoredAs m.whole u → StoredAs after.whole v → Keeps w u v
  rewrite_keeps w p h u v s t = alike w x y u v FirstChild.Value (makes_alike a g.supported next role x y w p rule made h) (rewrite_swaps u v s t)
