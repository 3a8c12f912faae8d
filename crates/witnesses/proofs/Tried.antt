-- Two tries of one rule at one place are the same.
use Rattle.std.proofs.Common.{◌≡◌, ℕ, List, [], ◌∷◌, ◌++◌, Some, None, Result, inl, inr, refl, sym, subst, ap, ◌∙◌, arith}
use Rattle.base.specs.declared.fault.Fault.{Fault}
use Rattle.base.specs.Questions.{Questions, Refuses, Granted}
use Rattle.tree.specs.declared.role.Sort.TheVariants.{IsExpression}
use Rattle.tree.specs.Tree.{Tree, label, at_place, own_of}
use Rattle.tree.specs.Lawful.{sort_of}
use Rattle.meaning.specs.Expression.{Expression}
use Rattle.meaning.specs.Trees.{tree_of}
use Rattle.host.specs.Answers.{Answers}
use Rattle.rules.specs.Deciding.{decided}
use Rattle.rules.proofs.Payoffs.{sort_is}
use Rattle.model.specs.declared.answer.Outcome.{Outcome}
use Rattle.model.specs.Model.{Given, Model, At, Sound, moved}
use Rattle.model.specs.Moves.{Enters, Leaves, enter_questions, leave_questions}
use Rattle.model.specs.Tries.{Rule, Try, Tries, decision, tried, need, rewritten, space_questions}
use Rattle.model.proofs.Lawful.{lawful_place, stored_alike}
use Rattle.witnesses.specs.OneAnswer.{SameAnswer}
use Rattle.witnesses.specs.OneTry.{EachTryDoesOneThing}
use Rattle.witnesses.proofs.FirstNo.{one_named}

none_is_some : {A : Type 0} {a : A} → None ≡ Some a → ⊥
none_is_some e = let z : ◌≡◌ {A = ℕ} 0 1 = cc in omega arith

granted_refused : (qs : Questions) (e : Fault) → Granted qs → Refuses qs e → ⊥
granted_refused [] e g r = elim r [ ]
granted_refused (q ∷ qs) e g (inl (_, fails)) = fails g.0
granted_refused (q ∷ qs) e g (inr (_, r)) = granted_refused qs e g.1 r

no_end : (q : List ℕ) (j : ℕ) → [] ≡ q ++ j ∷ [] → ⊥
no_end [] j e = let z : ◌≡◌ {A = ℕ} 0 1 = cc in omega arith
no_end (y ∷ q) j e = let z : ◌≡◌ {A = ℕ} 0 1 = cc in omega arith

same_front : (p q : List ℕ) (i j : ℕ) → p ++ i ∷ [] ≡ q ++ j ∷ [] → p ≡ q
same_front [] [] i j e = refl
same_front [] (y ∷ q) i j e = let f : [] ≡ q ++ j ∷ [] = cc in absurd (no_end q j f)
same_front (x ∷ p) [] i j e = let f : [] ≡ p ++ i ∷ [] = cc in absurd (no_end p i f)
same_front (x ∷ p) (y ∷ q) i j e = let f : p ++ i ∷ [] ≡ q ++ j ∷ [] = cc in let g : x ≡ y = cc in let h : p ≡ q = same_front p q i j f in cc

enter_once : {l m n : Model} {k : ℕ} {r q : Result (Unit {0}) Fault} → Enters l k r m → Enters l k q n → SameAnswer r q × (m ≡ n)
enter_once (Enters.enters c at g) (Enters.enters d at2 h) = (refl, refl)
enter_once {l} {k = k} (Enters.enters c at g) (Enters.refuses d e at2 r) =
    let same : d ≡ c = cc in absurd (granted_refused (enter_questions l c k) e g (subst (λ z. Refuses (enter_questions l z k) e) same r))
enter_once {l} {k = k} (Enters.refuses d e at2 r) (Enters.enters c at g) =
    let same : d ≡ c = cc in absurd (granted_refused (enter_questions l c k) e g (subst (λ z. Refuses (enter_questions l z k) e) same r))
enter_once {l} {k = k} (Enters.refuses c e at r) (Enters.refuses d f at2 s) =
    let same : d ≡ c = cc in (one_named (enter_questions l c k) e f r (subst (λ z. Refuses (enter_questions l z k) f) same s), refl)

leave_once : {l m n : Model} {r q : Result (Unit {0}) Fault} → Leaves l r m → Leaves l q n → SameAnswer r q × (m ≡ n)
leave_once {l} (Leaves.leaves p i e) (Leaves.leaves q j f) = (refl, ap (moved l) (same_front p q i j (sym e ∙ f)))
leave_once (Leaves.leaves p i e) (Leaves.refuses c f at (inl (_, fails))) = absurd (fails (λ h. no_end p i (sym h ∙ e)))
leave_once (Leaves.leaves p i e) (Leaves.refuses c f at (inr (_, z))) = elim z [ ]
leave_once (Leaves.refuses c f at (inl (_, fails))) (Leaves.leaves p i e) = absurd (fails (λ h. no_end p i (sym h ∙ e)))
leave_once (Leaves.refuses c f at (inr (_, z))) (Leaves.leaves p i e) = elim z [ ]
leave_once {l} (Leaves.refuses c e at r) (Leaves.refuses d f at2 s) =
    let same : d ≡ c = cc in (one_named (leave_questions l c) e f r (subst (λ z. Refuses (leave_questions l z) f) same s), refl)

-- What is stored at a place is one expression, and no other node.
alike_at : (m : Model) (x y : Expression) → Sound m → At m x → At m y → x ≡ y
alike_at m x y s i j =
    let same : tree_of x ≡ tree_of y = (let e : Some (tree_of x) ≡ Some (tree_of y) = sym i.1 ∙ j.1 in cc) in
    stored_alike (tree_of x) x y (lawful_place m.whole m.place (tree_of x) i.1 s.payoff.0, sort_is x) (i.0, refl) (j.0, sym same)

no_other : (m : Model) (t : Tree) (x : Expression) → at_place m.whole m.place ≡ Some t → (sort_of (own_of t) ≡ IsExpression → ⊥) → At m x → ⊥
no_other m t x at other i =
    let same : tree_of x ≡ t = (let e : Some (tree_of x) ≡ Some t = sym i.1 ∙ at in cc) in
    other (subst (λ z. sort_of (own_of z) ≡ IsExpression) same (sort_is x))

kept_made : (g : Given) (a : Answers) (k : Rule) (l : Model) (x z y : Expression) → x ≡ z → decided a (decision g a k l x) ≡ None → decided a (decision g a k l z) ≡ Some y → ⊥
kept_made g a k l x z y same d e = none_is_some (sym d ∙ (ap (λ v. decided a (decision g a k l v)) same ∙ e))

made_once : (g : Given) (a : Answers) (k : Rule) (l : Model) (x z y u : Expression) → x ≡ z → decided a (decision g a k l x) ≡ Some y → decided a (decision g a k l z) ≡ Some u → y ≡ u
made_once g a k l x z y u same d e = let f : Some y ≡ Some u = sym d ∙ (ap (λ v. decided a (decision g a k l v)) same ∙ e) in cc

abbrev asks : Given → Answers → Rule → Model → Expression → Expression → Questions
asks g a k l x y = space_questions g l (label (tree_of x)) (need g a k l x y)

refused_there : (g : Given) (a : Answers) (k : Rule) (l : Model) (x z y u : Expression) (e : Fault) → x ≡ z → y ≡ u → Refuses (asks g a k l x y) e → Refuses (asks g a k l z u) e
refused_there g a k l x z y u e same made r = subst (λ v. Refuses (asks g a k l z v) e) made (subst (λ v. Refuses (asks g a k l v y) e) same r)

try_once : {g : Given} {a : Answers} {k : Rule} {l m n : Model} {r q : Result Outcome Fault} {ts us : List Try}
    → Sound l → Tries g a k l r m ts → Tries g a k l q n us → SameAnswer r q × (m ≡ n) × (ts ≡ us)
try_once s (Tries.at_no_expression t at other) (Tries.at_no_expression u at2 other2) = (refl, refl, refl)
try_once {l = l} s (Tries.at_no_expression t at other) (Tries.keeps x i d) = absurd (no_other l t x at other i)
try_once {l = l} s (Tries.at_no_expression t at other) (Tries.rewrites x y i d f) = absurd (no_other l t x at other i)
try_once {l = l} s (Tries.at_no_expression t at other) (Tries.refuses x y e i d f) = absurd (no_other l t x at other i)
try_once {l = l} s (Tries.keeps x i d) (Tries.at_no_expression t at other) = absurd (no_other l t x at other i)
try_once {l = l} s (Tries.rewrites x y i d f) (Tries.at_no_expression t at other) = absurd (no_other l t x at other i)
try_once {l = l} s (Tries.refuses x y e i d f) (Tries.at_no_expression t at other) = absurd (no_other l t x at other i)
try_once {g} {a} {k} {l} s (Tries.keeps x i d) (Tries.keeps z j e) =
    (refl, refl, ap (λ v. tried g a k l v (label (tree_of v)) ∷ []) (alike_at l x z s i j))
try_once {g} {a} {k} {l} s (Tries.keeps x i d) (Tries.rewrites z y j e f) = absurd (kept_made g a k l x z y (alike_at l x z s i j) d e)
try_once {g} {a} {k} {l} s (Tries.keeps x i d) (Tries.refuses z y e j f h) = absurd (kept_made g a k l x z y (alike_at l x z s i j) d f)
try_once {g} {a} {k} {l} s (Tries.rewrites z y j e f) (Tries.keeps x i d) = absurd (kept_made g a k l x z y (alike_at l x z s i j) d e)
try_once {g} {a} {k} {l} s (Tries.refuses z y e j f h) (Tries.keeps x i d) = absurd (kept_made g a k l x z y (alike_at l x z s i j) d f)
try_once {g} {a} {k} {l} s (Tries.rewrites x y i d f) (Tries.rewrites z u j e h) =
    let same : x ≡ z = alike_at l x z s i j in
    let made : y ≡ u = made_once g a k l x z y u same d e in (
      refl,
      ap (λ v. rewritten l y (need g a k l v y)) same ∙ ap (λ v. rewritten l v (need g a k l z v)) made,
      ap (λ v. tried g a k l v (label (tree_of y)) ∷ []) same ∙ ap (λ v. tried g a k l z (label (tree_of v)) ∷ []) made,
    )
try_once {g} {a} {k} {l} s (Tries.rewrites x y i d f) (Tries.refuses z u e j h r) =
    let same : z ≡ x = alike_at l z x s j i in
    absurd (granted_refused (asks g a k l x y) e f (refused_there g a k l z x u y e same (made_once g a k l z x u y same h d) r))
try_once {g} {a} {k} {l} s (Tries.refuses z u e j h r) (Tries.rewrites x y i d f) =
    let same : z ≡ x = alike_at l z x s j i in
    absurd (granted_refused (asks g a k l x y) e f (refused_there g a k l z x u y e same (made_once g a k l z x u y same h d) r))
try_once {g} {a} {k} {l} s (Tries.refuses x y e i d r) (Tries.refuses z u f j h q) =
    let same : z ≡ x = alike_at l z x s j i in (
      one_named (asks g a k l x y) e f r (refused_there g a k l z x u y f same (made_once g a k l z x u y same h d) q),
      refl,
      ap (λ v. tried g a k l v (label (tree_of v)) ∷ []) (sym same),
    )

pub one_try : EachTryDoesOneThing
one_try = record { opens = λ o p. (o.whole ∙ sym p.whole, o.at_root ∙ sym p.at_root, o.none_made ∙ sym p.none_made); enters = enter_once; leaves = leave_once; tries = try_once }
