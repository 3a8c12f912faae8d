-- A call of a static member `concat`, and a root, by the records at their numbers.
use Rattle.std.proofs.Common.{rules, ◌≡◌, ℕ, Bool, true, false, List, Some, None, Option, refl, sym, subst, ap, ◌∙◌, arith}
use Rattle.std.specs.Prelude.{bytes_eq}
use Rattle.std.specs.List.{slice_get}
use Rattle.std.proofs.lemmas.Bool.{and_parts}
use Rattle.std.proofs.lemmas.Slice.Eq.{bytes_eq-Decides}
use lib.Utf8.{encode}
use Rattle.text.specs.Stored.{Stores, stored}
use Rattle.text.proofs.Pairing.{stored_once}
use Rattle.tree.specs.declared.run.Run.{Run}
use Rattle.tree.specs.declared.node.Node.{Node}
use Rattle.tree.specs.declared.node.Node.TheVariants.{String, Number, Boolean, Null, Name, Hole, Spread, Array, StaticMember, ComputedMember, Call, Template, Quasi, Unary, Binary, Opaque}
use Rattle.tree.specs.Heap.{Held, text_at, inside, within}
use Rattle.meaning.specs.Expression.{Expression, Arguments, Units}
use Rattle.meaning.specs.Methods.{concat_name}
use Rattle.meaning.specs.Parts.{Part}
use Rattle.rules.specs.Deciding.{same_name}
use Rattle.rules.specs.Chain.{Chain, chain_of}
use Rattle.deciding.specs.declared.concat_chain.Root.{Root}
use Rattle.deciding.specs.declared.concat_chain.Root.TheVariants.{String as StringRoot, Array as ArrayRoot}
use Rattle.deciding.specs.Standing.{Stands, ListsArguments}
use Rattle.deciding.specs.Meant.{Meant}
use Rattle.deciding.specs.ConcatCalls.{root_of, RootAt, ConcatAt}
use Rattle.deciding.proofs.Picked.{means, same_expression, not_hole, not_a_spread, not_quasi}
use Rattle.deciding.proofs.Records.{recorded}

some_same : {a b : Node} → Some a ≡ Some b → a ≡ b
some_same e = cc

-- ---- a root

root_by : {o : Option Root} {x y : Expression} → y ≡ x → o ≡ root_of y → o ≡ root_of x
root_by {o} {x} {y} e f = f ∙ ap root_of e

no_root : (h : Held) (r : Node) (x : Expression) → ((t : Run ℕ) → r ≡ String t → ⊥) → ((es : Run ℕ) → r ≡ Array es → ⊥) → Meant h r (Part.expression x) → None ≡ root_of x
unfolding root_of
no_root h (String t) x a b m = absurd (a t refl)
no_root h (Number i) x a b m = root_by (same_expression m.1) refl
no_root h (Boolean i) x a b m = root_by (same_expression m.1) refl
no_root h Null x a b m = root_by (same_expression m.1) refl
no_root h (Name t) x a b m = root_by (same_expression m.2) refl
no_root h Hole x a b m = not_hole m.1
no_root h (Spread i) x a b m = not_a_spread m.2
no_root h (Array es) x a b m = absurd (b es refl)
no_root h (StaticMember o t) x a b m = root_by (same_expression m.3) refl
no_root h (ComputedMember o i) x a b m = root_by (same_expression m.3) refl
no_root h (Call f es) x a b m = root_by (same_expression m.3) refl
no_root h (Template es) x a b m = root_by (same_expression m.2) refl
no_root h (Quasi i j) x a b m = not_quasi m.1
no_root h (Unary o i) x a b m = root_by (same_expression m.2) refl
no_root h (Binary o i j) x a b m = root_by (same_expression m.3) refl
no_root h (Opaque es i f) x a b m = root_by (same_expression m.2) refl

module _ (h : Held) (n : ℕ) where
  pub other_root : (r : Node) → Some r ≡ slice_get h.nodes n → ((t : Run ℕ) → r ≡ String t → ⊥) → ((es : Run ℕ) → r ≡ Array es → ⊥) → RootAt h n None
  other_root r e a b x s = no_root h r x a b (means h n r (Part.expression x) e s)

  pub string_root : (r : Node) (t : Run ℕ) → Some r ≡ slice_get h.nodes n → r ≡ String t → RootAt h n (Some StringRoot)
  unfolding root_of
  string_root r t e f x s = let m = means h n (String t) (Part.expression x) (ap Some (sym f) ∙ e) s in root_by (same_expression m.2) refl

  pub array_root : (r : Node) (es : Run ℕ) → Some r ≡ slice_get h.nodes n → r ≡ Array es → RootAt h n (Some ArrayRoot)
  unfolding root_of
  array_root r es e f x s = let m = means h n (Array es) (Part.expression x) (ap Some (sym f) ∙ e) s in root_by (same_expression m.2) refl

-- ---- the name, which is stored as its units

concat_stored : Stores concat_name concat_name
unfolding encode concat_name
concat_stored = (search rules, refl)

no_name : {A : Type 0} → true ≡ false → A
no_name e = absurd (cc)

same_test : (p q : Bool) → (p ≡ true → q ≡ true) → (q ≡ true → p ≡ true) → p ≡ q
same_test true q a b = sym (a refl)
same_test false true a b = no_name (sym (b refl))
same_test false false a b = refl

name_stored : (bytes u : List ℕ) → Stores bytes u → bytes_eq bytes concat_name ≡ same_name u concat_name
name_stored bytes u s =
    same_test (bytes_eq bytes concat_name) (bytes_eq u concat_name)
    (λ e. (bytes_eq-Decides u concat_name).1 (stored_once concat_name u concat_name (subst (λ z. Stores z u) ((bytes_eq-Decides bytes concat_name).0 e) s) concat_stored))
    (λ e. (bytes_eq-Decides bytes concat_name).1 (sym s.1 ∙ ap stored ((bytes_eq-Decides u concat_name).0 e) ∙ concat_stored.1))

-- ---- a call

abbrev NoChain : Expression → Type 0
NoChain x = chain_of x ≡ Chain.none

no_chain_by : {x y : Expression} → y ≡ x → chain_of y ≡ Chain.none → chain_of x ≡ Chain.none
no_chain_by {x} {y} e f = subst (λ z. chain_of z ≡ Chain.none) e f

not_call : (h : Held) (r : Node) (x : Expression) → ((f : ℕ) (es : Run ℕ) → r ≡ Call f es → ⊥) → Meant h r (Part.expression x) → NoChain x
unfolding chain_of
not_call h (String t) x a m = no_chain_by (same_expression m.2) refl
not_call h (Number i) x a m = no_chain_by (same_expression m.1) refl
not_call h (Boolean i) x a m = no_chain_by (same_expression m.1) refl
not_call h Null x a m = no_chain_by (same_expression m.1) refl
not_call h (Name t) x a m = no_chain_by (same_expression m.2) refl
not_call h Hole x a m = not_hole m.1
not_call h (Spread i) x a m = not_a_spread m.2
not_call h (Array es) x a m = no_chain_by (same_expression m.2) refl
not_call h (StaticMember o t) x a m = no_chain_by (same_expression m.3) refl
not_call h (ComputedMember o i) x a m = no_chain_by (same_expression m.3) refl
not_call h (Call f es) x a m = absurd (a f es refl)
not_call h (Template es) x a m = no_chain_by (same_expression m.2) refl
not_call h (Quasi i j) x a m = not_quasi m.1
not_call h (Unary o i) x a m = no_chain_by (same_expression m.2) refl
not_call h (Binary o i j) x a m = no_chain_by (same_expression m.3) refl
not_call h (Opaque es i f) x a m = no_chain_by (same_expression m.2) refl

-- A call of another callee ends no chain.
not_member : (h : Held) (r : Node) (l : ℕ) (g : Expression) (xs : Arguments) → ((o : ℕ) (t : Run ℕ) → r ≡ StaticMember o t → ⊥) → Meant h r (Part.expression g)
    → NoChain (Expression.call l g xs)
unfolding chain_of
not_member h (String t) l g xs a m = no_chain_by (ap (λ z. Expression.call l z xs) (same_expression m.2)) refl
not_member h (Number i) l g xs a m = no_chain_by (ap (λ z. Expression.call l z xs) (same_expression m.1)) refl
not_member h (Boolean i) l g xs a m = no_chain_by (ap (λ z. Expression.call l z xs) (same_expression m.1)) refl
not_member h Null l g xs a m = no_chain_by (ap (λ z. Expression.call l z xs) (same_expression m.1)) refl
not_member h (Name t) l g xs a m = no_chain_by (ap (λ z. Expression.call l z xs) (same_expression m.2)) refl
not_member h Hole l g xs a m = not_hole m.1
not_member h (Spread i) l g xs a m = not_a_spread m.2
not_member h (Array es) l g xs a m = no_chain_by (ap (λ z. Expression.call l z xs) (same_expression m.2)) refl
not_member h (StaticMember o t) l g xs a m = absurd (a o t refl)
not_member h (ComputedMember o i) l g xs a m = no_chain_by (ap (λ z. Expression.call l z xs) (same_expression m.3)) refl
not_member h (Call f es) l g xs a m = no_chain_by (ap (λ z. Expression.call l z xs) (same_expression m.3)) refl
not_member h (Template es) l g xs a m = no_chain_by (ap (λ z. Expression.call l z xs) (same_expression m.2)) refl
not_member h (Quasi i j) l g xs a m = not_quasi m.1
not_member h (Unary o i) l g xs a m = no_chain_by (ap (λ z. Expression.call l z xs) (same_expression m.2)) refl
not_member h (Binary o i j) l g xs a m = no_chain_by (ap (λ z. Expression.call l z xs) (same_expression m.3)) refl
not_member h (Opaque es i f) l g xs a m = no_chain_by (ap (λ z. Expression.call l z xs) (same_expression m.2)) refl

pub no_call : (h : Held) (n : ℕ) (r : Node) → Some r ≡ slice_get h.nodes n → ((f : ℕ) (es : Run ℕ) → r ≡ Call f es → ⊥) → ConcatAt h n None
no_call h n r e a x s = not_call h r x a (means h n r (Part.expression x) e s)

-- What a call's record says.
record Called (h : Held) (x : Expression) (callee : ℕ) (run : Run ℕ) : Type 0 where
  l : ℕ
  g : Expression
  arguments : Arguments
  called : x ≡ Expression.call l g arguments
  callee_stands : Stands h callee (Part.expression g)
  arguments_stand : ListsArguments h run arguments

called_by : (h : Held) (n : ℕ) (r : Node) (callee : ℕ) (run : Run ℕ) → Some r ≡ slice_get h.nodes n → r ≡ Call callee run → (x : Expression) → Stands h n (Part.expression x) → Called h x callee run
called_by h n r callee run e f x s =
    let there = ap Some (sym f) ∙ e in
    let m = means h n (Call callee run) (Part.expression x) there s in
    let q = recorded h n (Part.expression x) s in
    let i : q.node ≡ Call callee run = some_same (sym q.there ∙ sym there) in
    let w : inside h.entries h.text (Call callee run) ≡ true = ap (inside h.entries h.text) (sym i) ∙ q.within in
    record { l = m.0; g = m.1; arguments = m.2; called = sym (same_expression m.3); callee_stands = m.4; arguments_stand = ((and_parts _ _ w).0, m.5) }

module _ (h : Held) (n callee : ℕ) (run : Run ℕ) (r : Node) (there : Some r ≡ slice_get h.nodes n) (is_call : r ≡ Call callee run) where
  pub no_callee : None ≡ slice_get h.nodes callee → ConcatAt h n None
  no_callee e x s =
      let c = called_by h n r callee run there is_call x s in
      let q = recorded h callee (Part.expression c.g) c.callee_stands in
      none_some (e ∙ q.there)
    where
      none_some : {X : Type 0} {b : Node} → None ≡ Some b → X
      none_some e = let z : ◌≡◌ {A = ℕ} 0 1 = cc in absurd (omega arith)

  pub other_callee : (m : Node) → Some m ≡ slice_get h.nodes callee → ((o : ℕ) (t : Run ℕ) → m ≡ StaticMember o t → ⊥) → ConcatAt h n None
  other_callee m e a x s =
      let c = called_by h n r callee run there is_call x s in
      no_chain_by (sym c.called) (not_member h m c.l c.g c.arguments a (means h callee m (Part.expression c.g) e c.callee_stands))

  record Membered (x : Expression) (object : ℕ) (name : Run ℕ) : Type 0 where
    l : ℕ
    m : ℕ
    o : Expression
    key : Units
    arguments : Arguments
    called : x ≡ Expression.call l (Expression.static_member m o key) arguments
    callee_stands : Stands h callee (Part.expression (Expression.static_member m o key))
    object_stands : Stands h object (Part.expression o)
    arguments_stand : ListsArguments h run arguments
    key_stored : Stores (text_at h.text name) key
    key_within : within h.text name.start name.len ≡ true

  module _ (member : Node) (object : ℕ) (name : Run ℕ) (there_too : Some member ≡ slice_get h.nodes callee) (is_member : member ≡ StaticMember object name) where
    membered : (x : Expression) → Stands h n (Part.expression x) → Membered x object name
    membered x s =
        let c = called_by h n r callee run there is_call x s in
        let e = ap Some (sym is_member) ∙ there_too in
        let m = means h callee (StaticMember object name) (Part.expression c.g) e c.callee_stands in
        let q = recorded h callee (Part.expression c.g) c.callee_stands in
        let i : q.node ≡ StaticMember object name = some_same (sym q.there ∙ sym e) in
        let w : inside h.entries h.text (StaticMember object name) ≡ true = ap (inside h.entries h.text) (sym i) ∙ q.within in
        record {
          l = c.l;
          m = m.0;
          o = m.1;
          key = m.2;
          arguments = c.arguments;
          called = c.called ∙ ap (λ z. Expression.call c.l z c.arguments) (sym (same_expression m.3));
          callee_stands = subst (λ z. Stands h callee (Part.expression z)) (sym (same_expression m.3)) c.callee_stands;
          object_stands = m.4;
          arguments_stand = c.arguments_stand;
          key_stored = m.5;
          key_within = (and_parts _ _ (and_parts _ _ w).1).0;
        }

    pub no_key : within h.text name.start name.len ≡ false → ConcatAt h n None
    no_key e x s = no_name (sym (membered x s).key_within ∙ e)

    named_otherwise : (l m : ℕ) (o : Expression) (k : Units) (xs : Arguments) → same_name k concat_name ≡ false → NoChain (Expression.call l (Expression.static_member m o k) xs)
    unfolding chain_of
    named_otherwise l m o k xs e = rw e refl

    pub other_key : (text : List ℕ) (b : Bool) → text ≡ text_at h.text name → b ≡ bytes_eq text concat_name → b ≡ false → ConcatAt h n None
    other_key text b e f i x s =
        let w = membered x s in
        no_chain_by (sym w.called)
        (named_otherwise w.l w.m w.o w.key w.arguments (sym (name_stored text w.key (subst (λ z. Stores z w.key) (sym e) w.key_stored)) ∙ sym f ∙ i))

    pub concat_found : (text : List ℕ) (b : Bool) → text ≡ text_at h.text name → b ≡ bytes_eq text concat_name → b ≡ true
        → ConcatAt h n (Some (record { callee = callee; object = object; arguments = run }))
    concat_found text b e f i x s =
        let w = membered x s in
        record {
          l = w.l;
          m = w.m;
          object = w.o;
          key = w.key;
          arguments = w.arguments;
          called = w.called;
          named = sym (name_stored text w.key (subst (λ z. Stores z w.key) (sym e) w.key_stored)) ∙ sym f ∙ i;
          callee_stands = w.callee_stands;
          object_stands = w.object_stands;
          arguments_stand = w.arguments_stand;
        }
