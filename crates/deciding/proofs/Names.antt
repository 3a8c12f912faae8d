-- Names in their stored form, and the known ones.
use Rattle.std.proofs.Common.{◌≡◌, ℕ, Bool, true, false, cond, List, [], ◌∷◌, length, get_or, arith, Some, None, refl, sym, subst, ap, ◌∙◌, rules}
use Rattle.std.specs.Prelude.{codes, bytes_eq}
use Rattle.std.specs.Bool.{Decides}
use lib.Utf8.{encode}
use Rattle.std.proofs.lemmas.Bool.Decides.{same_from_decides}
use Rattle.std.proofs.lemmas.Slice.Eq.{bytes_eq-Decides}
use Rattle.text.specs.Stored.{stored, Stores}
use Rattle.text.proofs.Pairing.{stored_once}
use Rattle.tree.specs.declared.node.Node.TheVariants.{Name}
use Rattle.tree.specs.declared.run.Run.{Run}
use Rattle.tree.specs.Pieces.{PieceOf}
use Rattle.tree.specs.Heap.{Held}
use Rattle.meaning.specs.Parts.{Part}
use Rattle.meaning.specs.Expression.{Expression, Units}
use Rattle.std.specs.Borrow.{Bor}
use Rattle.meaning.specs.Methods.{concat_name, pow_name, of_name, math_name, array_name}
use Rattle.deciding.specs.declared.methods.KnownMethod.{KnownMethod}
use Rattle.deciding.specs.declared.methods.KnownMethod.TheVariants.{Concat, Pow, Of}
use Rattle.deciding.specs.Method.{known_name, is_name}
use Rattle.deciding.proofs.Records.{same_expression, Read}

-- Texts are the same exactly where their stored forms are.
pub same_stored : (b c : List ℕ) (u v : Units) → Stores b u → Stores c v → bytes_eq b c ≡ bytes_eq u v
same_stored b c u v s t =
    let alike : Decides (bytes_eq u v) (b ≡ c) =
    (λ e. sym s.1 ∙ ap stored ((bytes_eq-Decides u v).0 e) ∙ t.1, λ e. (bytes_eq-Decides u v).1 (stored_once b u v s (subst (λ z. Stores z v) (sym e) t)))
    in
    same_from_decides (bytes_eq b c) (bytes_eq u v) (bytes_eq-Decides b c) alike

-- ---- the stored form of each

pub concat_stored : Stores (codes "concat") (codes "concat")
unfolding encode
concat_stored = (search rules, refl)

pow_stored : Stores (codes "pow") (codes "pow")
unfolding encode
pow_stored = (search rules, refl)

of_stored : Stores (codes "of") (codes "of")
unfolding encode
of_stored = (search rules, refl)

pub math_stored : Stores (codes "Math") math_name
unfolding encode math_name
math_stored = (search rules, refl)

pub array_stored : Stores (codes "Array") array_name
unfolding encode array_name
array_stored = (search rules, refl)

-- ---- the known methods

pub same_known : (b : List ℕ) (k : Units) → Stores b k → known_name b ≡ known_name k
same_known b k s =
    rw (same_stored b (codes "concat") k (codes "concat") s concat_stored, same_stored b (codes "pow") k (codes "pow") s pow_stored, same_stored b (codes "of") k (codes "of") s of_stored) refl

abbrev pub name_of : KnownMethod → Units
name_of Concat = concat_name
name_of Pow = pow_name
name_of Of = of_name

by_tests : (p q r : Bool) (k : Units) (m : KnownMethod) → bytes_eq k (codes "concat") ≡ p → bytes_eq k (codes "pow") ≡ q → bytes_eq k (codes "of") ≡ r
    → cond p (Some Concat) (cond q (Some Pow) (cond r (Some Of) None)) ≡ Some m → k ≡ name_of m
unfolding concat_name pow_name of_name
by_tests true q r k Concat e f g h = (bytes_eq-Decides k (codes "concat")).0 e
by_tests true q r k Pow e f g h = absurd (cc)
by_tests true q r k Of e f g h = absurd (cc)
by_tests false true r k Pow e f g h = (bytes_eq-Decides k (codes "pow")).0 f
by_tests false true r k Concat e f g h = absurd (cc)
by_tests false true r k Of e f g h = absurd (cc)
by_tests false false true k Of e f g h = (bytes_eq-Decides k (codes "of")).0 g
by_tests false false true k Concat e f g h = absurd (cc)
by_tests false false true k Pow e f g h = absurd (cc)
by_tests false false false k m e f g h = absurd (cc)

pub named : (k : Units) (m : KnownMethod) → known_name k ≡ Some m → k ≡ name_of m
named k m h = by_tests (bytes_eq k (codes "concat")) (bytes_eq k (codes "pow")) (bytes_eq k (codes "of")) k m refl refl refl h

pub record Unknown (k : Units) : Type 0 where
  pub no_concat : bytes_eq k concat_name ≡ false
  pub no_pow : bytes_eq k pow_name ≡ false
  pub no_of : bytes_eq k of_name ≡ false

no_test : (p q r : Bool) (k : Units) → bytes_eq k (codes "concat") ≡ p → bytes_eq k (codes "pow") ≡ q → bytes_eq k (codes "of") ≡ r
    → cond p (Some Concat) (cond q (Some Pow) (cond r (Some Of) None)) ≡ None → Unknown k
unfolding concat_name pow_name of_name
no_test true q r k e f g h = absurd (cc)
no_test false true r k e f g h = absurd (cc)
no_test false false true k e f g h = absurd (cc)
no_test false false false k e f g h = record { no_concat = e; no_pow = f; no_of = g }

pub unknown : (k : Units) → known_name k ≡ None → Unknown k
unknown k h = no_test (bytes_eq k (codes "concat")) (bytes_eq k (codes "pow")) (bytes_eq k (codes "of")) k refl refl refl h

-- Of six bytes, one by one.
pub concat_by_bytes : (b : List ℕ) → length b ≡ 6 → get_or b 0 0 ≡ 99 → get_or b 1 0 ≡ 111 → get_or b 2 0 ≡ 110 → get_or b 3 0 ≡ 99 → get_or b 4 0 ≡ 97 → get_or b 5 0 ≡ 116 → known_name b ≡ Some Concat
concat_by_bytes [] l p q r s t u = absurd (omega arith)
concat_by_bytes (x ∷ []) l p q r s t u = absurd (omega arith)
concat_by_bytes (x ∷ y ∷ []) l p q r s t u = absurd (omega arith)
concat_by_bytes (x ∷ y ∷ z ∷ []) l p q r s t u = absurd (omega arith)
concat_by_bytes (x ∷ y ∷ z ∷ v ∷ []) l p q r s t u = absurd (omega arith)
concat_by_bytes (x ∷ y ∷ z ∷ v ∷ w ∷ []) l p q r s t u = absurd (omega arith)
concat_by_bytes (x ∷ y ∷ z ∷ v ∷ w ∷ a ∷ []) l p q r s t u =
    let same : x ∷ y ∷ z ∷ v ∷ w ∷ a ∷ [] ≡ codes "concat" = cc in
    ap known_name same
concat_by_bytes (x ∷ y ∷ z ∷ v ∷ w ∷ a ∷ b ∷ bs) l p q r s t u = absurd (omega arith)

-- A name in the stores is this one exactly where its bytes are.
pub name_told : {h : Held} {run : Run ℕ} {x : Expression} (found : Bor (List ℕ)) (bytes : List ℕ) (k : Units) → Read h (Name run) (Part.expression x) → PieceOf h.text run.start run.len (Some found) → Stores bytes k
    → bytes_eq found.now bytes ≡ is_name k x
name_told found bytes k m p t =
    let says = m.says in
    same_stored found.now bytes says.1 k (subst (λ z. Stores z says.1) (sym p.1) says.3) t ∙ ap (is_name k) (same_expression says.2)
