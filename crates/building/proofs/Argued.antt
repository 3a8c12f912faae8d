-- What the record at a number says of the argument that stands there.
use Rattle.std.proofs.Common.{◌≡◌, ℕ, true, ◌&&◌, List, [], ◌∷◌, ◌++◌, Some, None, sym, refl, ap, ◌∙◌, subst}
use Rattle.std.specs.List.{slice_get}
use Rattle.std.proofs.lemmas.Bool.{and_parts}
use Rattle.text.specs.Stored.{stored, Stores}
use Rattle.tree.specs.declared.node.Node.{Node}
use Rattle.tree.specs.declared.node.Node.TheVariants.{String, Number, Boolean, Null, Name, Hole, Spread, Array, StaticMember, ComputedMember, Call, Template, Quasi, Unary, Binary, Opaque}
use Rattle.tree.specs.declared.run.Run.{Run}
use Rattle.tree.specs.Tree.{string, spread, own_of}
use Rattle.tree.specs.Heap.{Held, own, within, text_at, list_of}
use Rattle.tree.proofs.Cuts.{nth_append_left}
use Rattle.meaning.specs.Expression.{Expression, Arguments, Units}
use Rattle.meaning.specs.Parts.{Part, part_tree}
use Rattle.rules.specs.Building.{text_of}
use Rattle.deciding.specs.Standing.{Stands, AllStand, argument_parts}
use Rattle.deciding.proofs.Records.{recorded, Read, read_there}

some_same : {A : Type 0} {x y : A} → Some x ≡ Some y → x ≡ y
some_same e = cc

-- What is read of larger stores stands in the smaller ones.
pub read_before : (h : Held) (more : List Node) (n : ℕ) (p : Part) (r : Node) → Stands h n p → Some r ≡ slice_get (h.nodes ++ more) n → slice_get h.nodes n ≡ Some r
read_before h more n p r s e =
    let t = recorded h n p s in
    t.there ∙ ap Some (some_same (sym (nth_append_left h.nodes more n t.node t.there) ∙ sym e))

string_record : (text : List ℕ) (r : Node) (bytes : List ℕ) → string bytes ≡ own text r → ((t : Run ℕ) → r ≡ String t → ⊥) → ⊥
string_record text (String t) bytes e f = f t refl
string_record text (Number n) bytes e f = absurd (cc)
string_record text (Boolean b) bytes e f = absurd (cc)
string_record text Null bytes e f = absurd (cc)
string_record text (Name t) bytes e f = absurd (cc)
string_record text Hole bytes e f = absurd (cc)
string_record text (Spread m) bytes e f = absurd (cc)
string_record text (Array es) bytes e f = absurd (cc)
string_record text (StaticMember o t) bytes e f = absurd (cc)
string_record text (ComputedMember o k) bytes e f = absurd (cc)
string_record text (Call g es) bytes e f = absurd (cc)
string_record text (Template es) bytes e f = absurd (cc)
string_record text (Quasi r c) bytes e f = absurd (cc)
string_record text (Unary o m) bytes e f = absurd (cc)
string_record text (Binary o m k) bytes e f = absurd (cc)
string_record text (Opaque es k z) bytes e f = absurd (cc)

spread_record : (text : List ℕ) (r : Node) → spread ≡ own text r → ((m : ℕ) → r ≡ Spread m → ⊥) → ⊥
spread_record text (String t) e f = absurd (cc)
spread_record text (Number n) e f = absurd (cc)
spread_record text (Boolean b) e f = absurd (cc)
spread_record text Null e f = absurd (cc)
spread_record text (Name t) e f = absurd (cc)
spread_record text Hole e f = absurd (cc)
spread_record text (Spread m) e f = f m refl
spread_record text (Array es) e f = absurd (cc)
spread_record text (StaticMember o t) e f = absurd (cc)
spread_record text (ComputedMember o k) e f = absurd (cc)
spread_record text (Call g es) e f = absurd (cc)
spread_record text (Template es) e f = absurd (cc)
spread_record text (Quasi r c) e f = absurd (cc)
spread_record text (Unary o m) e f = absurd (cc)
spread_record text (Binary o m k) e f = absurd (cc)
spread_record text (Opaque es k z) e f = absurd (cc)

not_text : (x : Expression) → ((l : ℕ) (u : Units) → x ≡ Expression.string l u → ⊥) → text_of x ≡ None
unfolding text_of
not_text (Expression.string l u) f = absurd (f l u refl)
not_text x f = refl

pub record IsString (h : Held) (t : Run ℕ) (xs : Arguments) : Type 0 where
  pub label : ℕ
  pub text : Units
  pub is : xs ≡ Arguments.argument (Expression.string label text) Arguments.no_arguments
  pub inside : within h.text t.start t.len ≡ true
  pub spelled : Stores (text_at h.text t) text

pub record IsSpread (xs : Arguments) : Type 0 where
  pub label : ℕ
  pub value : Expression
  pub is : xs ≡ Arguments.spread_argument label value Arguments.no_arguments

pub record IsOther (h : Held) (n : ℕ) (xs : Arguments) : Type 0 where
  pub value : Expression
  pub is : xs ≡ Arguments.argument value Arguments.no_arguments
  pub no_text : text_of value ≡ None
  pub stands : Stands h n (Part.expression value)

module _ (h : Held) (more : List Node) (n : ℕ) where
  none_behind : (xs : Arguments) → AllStand h [] (argument_parts xs) → xs ≡ Arguments.no_arguments
  unfolding argument_parts
  none_behind Arguments.no_arguments a = refl
  none_behind (Arguments.argument x xs) a = absurd a
  none_behind (Arguments.spread_argument l x xs) a = absurd a

  said : (p : Part) (r : Node) → Stands h n p → Some r ≡ slice_get (h.nodes ++ more) n → Read h r p
  said p r s e = read_there {o = Some r} s (sym (read_before h more n p r s e)) refl

  pub a_string : (xs : Arguments) (t : Run ℕ) → AllStand h (n ∷ []) (argument_parts xs) → Some (String t) ≡ slice_get (h.nodes ++ more) n → IsString h t xs
  unfolding argument_parts
  a_string Arguments.no_arguments t a e = absurd a
  a_string (Arguments.argument x xs) t a e =
      let r = said (Part.expression x) (String t) a.0 e in
      let m = r.says in
      let is : x ≡ Expression.string m.0 m.1 = cc (m.2) in
      record {
        label = m.0;
        text = m.1;
        is = ap (λ y. Arguments.argument y xs) is ∙ ap (Arguments.argument (Expression.string m.0 m.1)) (none_behind xs a.1);
        inside = (and_parts (within h.text t.start t.len) true (and_parts (within h.entries (list_of (String t)).start (list_of (String t)).len) (within h.text t.start t.len && true) r.within).1).0;
        spelled = m.3;
      }
  a_string (Arguments.spread_argument l x xs) t a e = absurd (let m = (said (Part.spread l x) (String t) a.0 e).says in cc (m.2))

  pub a_spread : (xs : Arguments) (m : ℕ) → AllStand h (n ∷ []) (argument_parts xs) → Some (Spread m) ≡ slice_get (h.nodes ++ more) n → IsSpread xs
  unfolding argument_parts
  a_spread Arguments.no_arguments m a e = absurd a
  a_spread (Arguments.argument x xs) m a e = absurd (let k = (said (Part.expression x) (Spread m) a.0 e).says in cc (k.2))
  a_spread (Arguments.spread_argument l x xs) m a e = record { label = l; value = x; is = ap (Arguments.spread_argument l x) (none_behind xs a.1) }

  pub another : (xs : Arguments) (r : Node) → AllStand h (n ∷ []) (argument_parts xs) → Some r ≡ slice_get (h.nodes ++ more) n
      → ((t : Run ℕ) → r ≡ String t → ⊥) → ((m : ℕ) → r ≡ Spread m → ⊥) → IsOther h n xs
  unfolding argument_parts
  another Arguments.no_arguments r a e f g = absurd a
  another (Arguments.argument x xs) r a e f g =
      let s = said (Part.expression x) r a.0 e in
      record {
        value = x;
        is = ap (Arguments.argument x) (none_behind xs a.1);
        no_text = not_text x (λ l u same. string_record h.text r (stored u) (subst (λ y. own_of (part_tree (Part.expression y)) ≡ own h.text r) same s.owned) f);
        stands = a.0;
      }
  another (Arguments.spread_argument l x xs) r a e f g = absurd (spread_record h.text r (said (Part.spread l x) r a.0 e).owned g)

-- A record that is read of the stores.
pub read_as : {r q : Node} {ns ms : List Node} (n : ℕ) → Some r ≡ slice_get ns n → r ≡ q → ns ≡ ms → Some q ≡ slice_get ms n
read_as n e f g = ap Some (sym f) ∙ e ∙ ap (λ l. slice_get l n) g
