-- What a callee names, by its record.
use Rattle.std.proofs.Common.{◌≡◌, ℕ, Bool, true, false, List, Some, None, Option, refl, sym, subst, ap, ◌∙◌}
use Rattle.std.specs.List.{slice_get}
use Rattle.std.specs.Borrow.{Bor}
use Rattle.std.specs.Option.{option_map_or}
use Rattle.std.proofs.lemmas.Bool.{and_parts}
use Rattle.text.specs.Stored.{Stores}
use Rattle.tree.specs.declared.node.Node.{Node}
use Rattle.tree.specs.declared.node.Node.TheVariants.{String, StaticMember, ComputedMember}
use Rattle.tree.specs.declared.run.Run.{Run}
use Rattle.tree.specs.Pieces.{PieceOf}
use Rattle.tree.specs.Tree.{Own, string, static_member, computed_member, own_of}
use Rattle.tree.specs.Heap.{Held, own, within, text_at}
use Rattle.meaning.specs.Expression.{Expression, Units}
use Rattle.meaning.specs.Trees.{tree_of}
use Rattle.meaning.specs.Parts.{Part}
use Rattle.rules.specs.Method.{Callee, callee_of, keyed}
use Rattle.deciding.specs.Standing.{Stands}
use Rattle.deciding.specs.Method.{FindsMethod}
use Rattle.host.proofs.Knowing.{false_true}
use Rattle.deciding.proofs.Records.{same_expression, Read, recorded, read_there}

abbrev pub is_member : Own → Bool
is_member (static_member p) = true
is_member computed_member = true
is_member o = false

abbrev pub is_text : Own → Bool
is_text (string t) = true
is_text o = false

-- ---- no known method

no_member : (f : Expression) → is_member (own_of (tree_of f)) ≡ false → callee_of f ≡ Callee.none
unfolding callee_of
no_member (Expression.static_member l x k) e = false_true (sym e)
no_member (Expression.computed_member l x y) e = false_true (sym e)
no_member f e = refl

no_key : (o y : Expression) → is_text (own_of (tree_of y)) ≡ false → keyed o y ≡ Callee.none
unfolding keyed
no_key o (Expression.string l u) e = false_true (sym e)
no_key o y e = refl

finds_none : (h : Held) (c : Callee) → c ≡ Callee.none → FindsMethod h c None
finds_none h c e = subst (λ d. FindsMethod h d None) (sym e) tt

pub not_a_member : {h : Held} {r : Node} {f : Expression} → Read h r (Part.expression f) → is_member (own h.text r) ≡ false → FindsMethod h (callee_of f) None
not_a_member {h} {r} {f} m e = finds_none h (callee_of f) (no_member f (ap is_member m.owned ∙ e))

abbrev pub string_there : List ℕ → Option Node → Bool
string_there bytes o = option_map_or (λ r. is_text (own bytes r)) o false

key_read : (h : Held) (n : ℕ) (y : Expression) (o : Option Node) → Stands h n (Part.expression y) → o ≡ slice_get h.nodes n → string_there h.text o ≡ is_text (own_of (tree_of y))
key_read h n y o s e =
    let t = recorded h n (Part.expression y) s in
    ap (string_there h.text) (e ∙ t.there) ∙ sym (ap is_text t.owned)

pub not_a_key : {h : Held} {object key : ℕ} {f : Expression} {o : Option Node} → Read h (ComputedMember object key) (Part.expression f) → o ≡ slice_get h.nodes key → string_there h.text o ≡ false
    → FindsMethod h (callee_of f) None
unfolding callee_of
not_a_key {h} {object} {key} {f} {o} m e b =
    let says = m.says in
    subst (λ g. FindsMethod h (callee_of g) None) (same_expression says.3) (finds_none h (keyed says.1 says.2) (no_key says.1 says.2 (sym (key_read h key says.2 o says.5 e) ∙ b)))

-- ---- a known method

-- The object's number and the piece of text are those of what the callee names.
pub record Found (h : Held) (f : Expression) (run : Run ℕ) (object : ℕ) : Type 0 where
  pub of : Expression
  pub name : Units
  pub callee : callee_of f ≡ Callee.method of name
  pub spelled : Stores (text_at h.text run) name
  pub stands : Stands h object (Part.expression of)
  pub lies_within : within h.text run.start run.len ≡ true

pub static_found : {h : Held} {object : ℕ} {run : Run ℕ} {f : Expression} → Read h (StaticMember object run) (Part.expression f) → Found h f run object
unfolding callee_of
static_found {h} {object} {run} {f} m =
    let says = m.says in
    record {
      of = says.1;
      name = says.2;
      callee = ap callee_of (sym (same_expression says.3));
      spelled = says.5;
      stands = says.4;
      lies_within = (and_parts _ _ (and_parts _ _ m.within).1).0;
    }

pub keyed_found : {h : Held} {object key : ℕ} {run : Run ℕ} {f : Expression} {o : Option Node} → Read h (ComputedMember object key) (Part.expression f) → o ≡ slice_get h.nodes key → o ≡ Some (String run) → Found h f run object
unfolding callee_of keyed
keyed_found {h} {object} {key} {run} {f} {o} m e b =
    let says = m.says in
    let k = read_there says.5 e b in
    let names = k.says in
    record {
      of = says.1;
      name = names.1;
      callee = ap callee_of (sym (same_expression says.3)) ∙ ap (keyed says.1) (sym (same_expression names.2));
      spelled = names.3;
      stands = says.4;
      lies_within = (and_parts _ _ (and_parts _ _ k.within).1).0;
    }

-- So its name can be read, and is that of the method.
pub none_found : {A : Type 0} {h : Held} {f : Expression} {run : Run ℕ} {object : ℕ} → Found h f run object → within h.text run.start run.len ≡ false → A
none_found f e = absurd (cc (f.lies_within, e))

pub one_found : {h : Held} {f : Expression} {run : Run ℕ} {object : ℕ} (s : Bor (List ℕ)) → Found h f run object → PieceOf h.text run.start run.len (Some s) → FindsMethod h (callee_of f) (Some (s, object))
one_found {h} {f} {run} {object} s w p =
    subst (λ c. FindsMethod h c (Some (s, object))) (sym w.callee) (subst (λ z. Stores z w.name) (sym p.1) w.spelled, w.stands)
