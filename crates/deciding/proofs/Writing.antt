-- Which entries the arrays that `method` plans take.
use Rattle.std.proofs.Common.{◌≡◌, ℕ, Bool, true, ◌&&◌, List, Some, Option, refl, sym, subst, ap, ◌∙◌}
use Rattle.std.specs.Borrow.{Bor}
use Rattle.std.proofs.lemmas.Bool.{and_parts}
use Rattle.tree.specs.declared.node.Node.TheVariants.{Array, Call}
use Rattle.tree.specs.declared.run.Run.{Run}
use Rattle.tree.specs.Heap.{Held}
use Rattle.meaning.specs.Expression.{Expression, Elements, Arguments, Units}
use Rattle.meaning.specs.Parts.{Part}
use Rattle.host.proofs.Knowing.{false_true}
use Rattle.rules.specs.Method.{Callee, callee_of}
use Rattle.rules.specs.Space.{elements_by, elements_from}
use Rattle.deciding.specs.declared.plan.Decision.{Decision}
use Rattle.deciding.specs.declared.plan.Decision.TheVariants.{Rewritten}
use Rattle.deciding.specs.declared.plan.Plan.TheVariants.{ArrayOf, Merged}
use Rattle.deciding.specs.Plans.{WritesOn, WritesAt, WritesFor}
use Rattle.deciding.specs.Method.{is_name, FindsMethod, FindsMethodOf}
use Rattle.deciding.proofs.Records.{same_expression, Read}
use Rattle.deciding.proofs.Objects.{named_by}

-- The arguments of a name's method are not written.
name_writes_none : (k : Units) (o : Expression) → is_name k o ≡ true → (j : Units) (es : Elements) → elements_by (Callee.method o j) es ≡ 0
unfolding elements_by
name_writes_none k (Expression.name l u) e j es = refl
name_writes_none k (Expression.array l xs) e j es = false_true e
name_writes_none k o e j es = refl

pub global_writes_none : (b : Bool) (k : Units) (o : Expression) (told : Bool) → told ≡ (is_name k o && b) → told ≡ true → (j : Units) (es : Elements) → elements_by (Callee.method o j) es ≡ 0
global_writes_none b k o told t e = name_writes_none k o (and_parts (is_name k o) b (sym t ∙ e)).0

-- What is decided of each array is decided of one that is read.
pub array_writes : {h : Held} {es : Run ℕ} {o : Expression} (d : Decision) → Read h (Array es) (Part.expression o) → ((j : ℕ) (xs : Elements) → WritesOn (Expression.array j xs) d) → WritesOn o d
array_writes d m w = subst (λ q. WritesOn q d) (same_expression m.says.2) (w m.says.0 m.says.1)

-- What is decided of the object is decided of the whole call.
called_writes : (l : ℕ) (f : Expression) (xs : Arguments) (o : Expression) (k : Units) (d : Decision) → callee_of f ≡ Callee.method o k → WritesOn o d → WritesFor (Expression.call l f xs) d
unfolding elements_from
called_writes l f xs o k (Rewritten (ArrayOf arguments)) e w = λ es. ap (λ c. elements_by c es) e ∙ w k es
called_writes l f xs o k (Rewritten (Merged elements leading)) e w = λ es. ap (λ c. elements_by c es) e ∙ w k es
called_writes l f xs o k d e w = tt

pub found_writes : (h : Held) {x : Expression} {callee : ℕ} {arguments : Run ℕ} {found : Option (Bor (List ℕ) × ℕ)} (name : Bor (List ℕ)) (object : ℕ) (d : Decision)
    → Read h (Call callee arguments) (Part.expression x) → FindsMethodOf h callee found → found ≡ Some (name, object) → WritesAt h object d → WritesFor x d
found_writes h {x} name object d m finds e w =
    let n = named_by h (callee_of m.says.1) name object (subst (FindsMethod h (callee_of m.says.1)) e (finds m.says.1 m.says.4)) in
    subst (λ q. WritesFor q d) (same_expression m.says.3) (called_writes m.says.0 m.says.1 m.says.2 n.of n.units d n.is_it (w n.of n.stands))
