-- A record is that of one node at most: the node can be computed back from it.
use Rattle.std.proofs.Common.{◌≡◌, ℕ, ◌+◌, ◌*◌, ◌/◌, ◌%◌, ◌^◌, true, false, cond, eqb, sym, refl, ap, ◌∙◌, arith}
use Rattle.tree.specs.declared.node.Node.{Node}
use Rattle.tree.specs.declared.node.Node.TheVariants.{String, Number, Boolean, Null, Name, Hole, Spread, Array, StaticMember, ComputedMember, Call, Template, Quasi, Unary, Binary, Opaque}
use Rattle.tree.specs.declared.node.UnaryOperator.TheVariants.{Plus, Minus, Void}
use Rattle.tree.specs.declared.node.BinaryOperator.TheVariants.{Exponentiation, Subtraction, Division}
use Rattle.tree.specs.declared.node.FirstChild.TheVariants.{Value, Reference}
use Rattle.tree.specs.declared.run.Run.{Run}
use Rattle.file.specs.declared.record.Record.{Record}
use Rattle.file.specs.Format.{record_of}

abbrev run : ℕ → ℕ → Run ℕ
run start len = record { start = start; len = len; of = record {} }

-- The node of a record, by its kind and flag.
abbrev back : Record → Node
back r =
    cond (eqb r.kind 1) (String (run r.a r.b))
    (cond (eqb r.kind 2) (Number (r.a + r.b * 2 ^ 32))
    (cond (eqb r.kind 3) (Boolean (eqb r.flag 1))
    (cond (eqb r.kind 4) Null
    (cond (eqb r.kind 5) (Name (run r.a r.b))
    (cond (eqb r.kind 6) Hole
    (cond (eqb r.kind 7) (Spread r.a)
    (cond (eqb r.kind 8) (Array (run r.a r.b))
    (cond (eqb r.kind 9) (StaticMember r.a (run r.b r.c))
    (cond (eqb r.kind 10) (ComputedMember r.a r.b)
    (cond (eqb r.kind 11) (Call r.a (run r.b r.c))
    (cond (eqb r.kind 12) (Template (run r.a r.b))
    (cond (eqb r.kind 13) (Quasi (run r.a r.b) (run r.c r.d))
    (cond (eqb r.kind 14) (Unary (cond (eqb r.flag 0) Plus (cond (eqb r.flag 1) Minus Void)) r.a)
    (cond (eqb r.kind 15) (Binary (cond (eqb r.flag 0) Exponentiation (cond (eqb r.flag 1) Subtraction Division)) r.a r.b)
    (Opaque (run r.a r.b) r.c (cond (eqb r.flag 0) Value Reference))))))))))))))))

back_of : (n : Node) → back (record_of n) ≡ n
back_of (Number bits) = let e : bits % 2 ^ 32 + bits / 2 ^ 32 * 2 ^ 32 ≡ bits = omega arith in ap (λ k. Number k) e
back_of (Boolean true) = refl
back_of (Boolean false) = refl
back_of (Unary Plus x) = refl
back_of (Unary Minus x) = refl
back_of (Unary Void x) = refl
back_of (Binary Exponentiation x y) = refl
back_of (Binary Subtraction x y) = refl
back_of (Binary Division x y) = refl
back_of (Opaque es m Value) = refl
back_of (Opaque es m Reference) = refl
back_of n = refl

pub one_node : (n m : Node) → record_of n ≡ record_of m → n ≡ m
one_node n m e = sym (back_of n) ∙ ap back e ∙ back_of m
