-- The arguments of each call are added, in order.
use Rattle.std.proofs.Common.{◌≡◌, ℕ, ◌+◌, ◌<◌, ◌≤◌, List, [], ◌∷◌, length, drop, get_or, Some, None, Ok, Err, Option, Result, sym, refl, ap, ◌∙◌, subst}
use Rattle.base.specs.declared.fault.Fault.{Fault}
use Rattle.tree.specs.declared.run.Run.{Run}
use Rattle.store.specs.declared.stores.Stores.{Stores}
use Rattle.store.specs.Held.{held}
use Rattle.store.specs.Stores.{held_of}
use Rattle.meaning.specs.Expression.{Expression, Arguments, Pieces, Quasi, Units}
use Rattle.meaning.specs.Methods.{concat_name}
use Rattle.meaning.specs.Parts.{Part}
use Rattle.rules.specs.Building.{append_arguments, flat, pieces_of, joined, template_of}
use Rattle.rules.specs.Chain.{Chain, chain_of}
use Rattle.rules.specs.Space.{new_entries, space}
use Rattle.rules.proofs.Chaining.{ChainSays, chain_says}
use Rattle.deciding.specs.declared.concat_chain.ConcatChain.{ConcatChain}
use Rattle.deciding.specs.declared.concat_chain.Root.{Root}
use Rattle.deciding.specs.declared.concat_chain.Root.TheVariants.{String, Array}
use Rattle.deciding.specs.Standing.{Stands, Spells}
use Rattle.deciding.specs.ConcatCalls.{CallsStand, calls_of, Rooted, IsCollected, Collects}
use Rattle.deciding.specs.Plans.{PlanOf}
use Rattle.deciding.specs.declared.plan.Plan.TheVariants.{Joined}
use Rattle.deciding.specs.declared.plan.Calls.TheVariants.{One, Chain as ChainOf}
use Rattle.deciding.proofs.ChainWalks.{call_at, behind_it, calls_end, flat_front, flat_none}
use Rattle.building.specs.Growing.{HasRoom}
use Rattle.building.specs.Builds.{Built}
use Rattle.building.specs.Joined.{TextOrNone, BaseOf, JoinsCalls}
use Rattle.building.specs.Templates.{Growth, need, Begins, AddsArguments, Finishes}
use Rattle.building.specs.declared.template_builder.TemplateBuilder.{TemplateBuilder}

-- Of a base text, the arguments of the first i calls have been added.
abbrev pub CallsWalked : (old : Stores) (base : Run ℕ) (calls : List (Run ℕ)) (i : ℕ) (b : TemplateBuilder) (s : Stores) → Type 0
CallsWalked old base calls i b s =
    (u : Units) (xss : List Arguments) → Spells (held_of old) base u → CallsStand (held_of old) calls xss
    → HasRoom old (need (length (held old.nodes)) (pieces_of (length (held old.nodes)) u (flat xss)))
    → Growth old (pieces_of (length (held old.nodes)) u (flat xss)) (flat (drop i xss)) b s

pub begun : (old : Stores) (base : Run ℕ) (calls : List (Run ℕ)) (s : Stores) (b : TemplateBuilder) → Begins old base s (Ok b) → CallsWalked old base calls 0 b s
begun old base calls s b begins u xss p stands enters = begins u (flat xss) p enters

module _ (old : Stores) (base : Run ℕ) (calls : List (Run ℕ)) (i : ℕ) (b : TemplateBuilder) (s : Stores) (w : CallsWalked old base calls i b s) where
  pub finished : length calls ≤ i → (t : Stores) (r : Result ℕ Fault) → Finishes b s t r → JoinsCalls old base calls t r
  finished le t r f u xss p stands enters =
      f old (pieces_of (length (held old.nodes)) u (flat xss)) enters
      (subst (λ ys. Growth old (pieces_of (length (held old.nodes)) u (flat xss)) ys b s) (ap flat (calls_end (held_of old) calls i xss stands le) ∙ flat_none) (w u xss p stands enters))

  module _ (lt : i < length calls) (d : Run ℕ) where
    in_front : (u : Units) (xss : List Arguments) (p : Spells (held_of old) base u) (stands : CallsStand (held_of old) calls xss)
        (enters : HasRoom old (need (length (held old.nodes)) (pieces_of (length (held old.nodes)) u (flat xss))))
        → Growth old (pieces_of (length (held old.nodes)) u (flat xss)) (append_arguments (call_at (held_of old) calls i d xss stands lt).arguments (flat (drop (i + 1) xss))) b s
    in_front u xss p stands enters =
        let a = call_at (held_of old) calls i d xss stands lt in
        subst (λ ys. Growth old (pieces_of (length (held old.nodes)) u (flat xss)) ys b s)
        (ap flat a.here ∙ flat_front a.arguments a.rest ∙ ap (λ yss. append_arguments a.arguments (flat yss)) (sym (behind_it (held_of old) calls i d xss a)))
        (w u xss p stands enters)

    pub added : (c : TemplateBuilder) (t : Stores) (y : Unit {0}) → AddsArguments b s (get_or calls i d) c t (Ok y) → CallsWalked old base calls (i + 1) c t
    added c t y adds u xss p stands enters =
        let a = call_at (held_of old) calls i d xss stands lt in
        adds old (pieces_of (length (held old.nodes)) u (flat xss)) a.arguments (flat (drop (i + 1) xss)) enters a.stand (in_front u xss p stands enters)

    pub not_added : (c : TemplateBuilder) (t : Stores) (e : Fault) → AddsArguments b s (get_or calls i d) c t (Err e)
        → (u : Units) (xss : List Arguments) → Spells (held_of old) base u → CallsStand (held_of old) calls xss
        → HasRoom old (need (length (held old.nodes)) (pieces_of (length (held old.nodes)) u (flat xss))) → ⊥
    not_added c t e adds u xss p stands enters =
        let a = call_at (held_of old) calls i d xss stands lt in
        adds old (pieces_of (length (held old.nodes)) u (flat xss)) a.arguments (flat (drop (i + 1) xss)) enters a.stand (in_front u xss p stands enters)

-- ---- the plan

-- The space of a template does not depend on what it is built for.
space_of : (next : ℕ) (x : Expression) (ps : Pieces) → space next x (template_of next ps) ≡ need next ps
unfolding template_of new_entries
space_of next x (Pieces.last (Quasi.quasi l raw u)) = refl
space_of next x (Pieces.piece q y ps) = refl

pub planned : (old : Stores) (base : Run ℕ) (calls : List (Run ℕ)) (t : Stores) (r : Result ℕ Fault) → JoinsCalls old base calls t r
    → (x y : Expression) (u : Units) (xss : List Arguments) → y ≡ joined (length (held old.nodes)) u (flat xss) → Spells (held_of old) base u → CallsStand (held_of old) calls xss
    → HasRoom old (space (length (held old.nodes)) x y) → Built old y (space (length (held old.nodes)) x y) t r
planned old base calls t r joins x y u xss e p stands enters =
    let ps = pieces_of (length (held old.nodes)) u (flat xss) in
    let same : space (length (held old.nodes)) x y ≡ need (length (held old.nodes)) ps = ap (space (length (held old.nodes)) x) e ∙ space_of (length (held old.nodes)) x ps in
    subst (λ c. Built old y c t r) (sym same)
    (subst (λ z. Built old z (need (length (held old.nodes)) ps) t r) (sym e) (joins u xss p stands (subst (HasRoom old) same enters)))

append_nothing : (xs : Arguments) → append_arguments xs Arguments.no_arguments ≡ xs
unfolding append_arguments
append_nothing Arguments.no_arguments = refl
append_nothing (Arguments.argument x xs) = ap (Arguments.argument x) (append_nothing xs)
append_nothing (Arguments.spread_argument l x xs) = ap (Arguments.spread_argument l x) (append_nothing xs)

pub one_call : (old : Stores) (base run : Run ℕ) (t : Stores) (r : Result ℕ Fault) → JoinsCalls old base (run ∷ []) t r
    → (x y : Expression) → PlanOf (held_of old) (Joined (One base run)) (length (held old.nodes)) y → HasRoom old (space (length (held old.nodes)) x y) → Built old y (space (length (held old.nodes)) x y) t r
one_call old base run t r joins x y plan enters =
    planned old base (run ∷ []) t r joins x y plan.0 (plan.1 ∷ [])
    (plan.2 ∙ ap (joined (length (held old.nodes)) plan.0) (sym (flat_front plan.1 [] ∙ ap (append_arguments plan.1) flat_none ∙ append_nothing plan.1)))
    plan.3 (plan.4, tt) enters

-- What is called innermost is a member of the string.
record MemberOf (g : Expression) (u : Units) : Type 0 where
  member : ℕ
  object : ℕ
  is : g ≡ Expression.static_member member (Expression.string object u) concat_name

member_of : (x : Expression) (c : Chain) (g : Expression) (u : Units) (xss : List Arguments) → ChainSays x c → c ≡ Chain.of_string g u xss → MemberOf g u
member_of x c g u xss (ChainSays.of_string {m = m} {j = j} {u = v} {xss = yss} d) e =
    let a : Expression.static_member m (Expression.string j v) concat_name ≡ g = cc in
    let b : v ≡ u = cc in
    record { member = m; object = j; is = sym a ∙ ap (λ w. Expression.static_member m (Expression.string j w) concat_name) b }
member_of x c g u xss (ChainSays.of_array d) e = absurd (cc)
member_of x c g u xss ChainSays.none e = absurd (cc)

record OfString (f g : Expression) (yss xss : List Arguments) : Type 0 where
  same_callee : f ≡ g
  same_calls : yss ≡ xss

of_string : (root : Root) (f g : Expression) (u : Units) (yss xss : List Arguments) (c : Chain) → Rooted root f yss c → c ≡ Chain.of_string g u xss → OfString f g yss xss
of_string String f g u yss xss c r e = let k : Chain.of_string f r.0 yss ≡ Chain.of_string g u xss = sym r.1 ∙ e in record { same_callee = cc; same_calls = cc }
of_string Array f g u yss xss c r e = absurd (cc)

module _ (old : Stores) (call : ℕ) (few : length (held old.nodes) ≤ 4096) (x y : Expression) (plan : PlanOf (held_of old) (Joined (ChainOf call)) (length (held old.nodes)) y) where
  module _ (chain : ConcatChain) (k : Collects (held_of old) call (Some chain)) where
    collected : IsCollected (held_of old) chain (chain_of plan.0)
    collected = k few plan.0 plan.5

    the_string : OfString collected.callee plan.1 collected.calls plan.3
    the_string = of_string chain.root collected.callee plan.1 plan.2 collected.calls plan.3 (chain_of plan.0) collected.rooted plan.6

    based : (r : Option (Run ℕ)) → BaseOf (held_of old) chain.new_root_callee r → TextOrNone (held_of old) plan.2 r
    based r b =
        let m = member_of plan.0 (chain_of plan.0) plan.1 plan.2 plan.3 (chain_says plan.0) plan.6 in
        b m.member m.object plan.2 concat_name (subst (λ g. Stands (held_of old) chain.new_root_callee (Part.expression g)) (the_string.same_callee ∙ m.is) collected.callee_stands)

    pub no_base : BaseOf (held_of old) chain.new_root_callee None → ⊥
    no_base b = based None b

    pub a_chain : (base : Run ℕ) → BaseOf (held_of old) chain.new_root_callee (Some base) → (calls : List (Run ℕ)) → calls ≡ calls_of chain → (t : Stores) (r : Result ℕ Fault) → JoinsCalls old base calls t r
        → HasRoom old (space (length (held old.nodes)) x y) → Built old y (space (length (held old.nodes)) x y) t r
    a_chain base b calls e t r joins enters =
        planned old base calls t r joins x y plan.2 plan.3 plan.4 (based (Some base) b)
        (subst (λ l. CallsStand (held_of old) l plan.3) (sym e) (subst (CallsStand (held_of old) (calls_of chain)) the_string.same_calls collected.calls_stand)) enters
