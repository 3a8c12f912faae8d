-- Equations that cannot be.
use Rattle.std.proofs.Common.{◌≡◌, ℕ, true, false, Some, None, arith}

pub none_some : {A B : Type 0} {b : B} → None ≡ Some b → A
none_some e = let z : ◌≡◌ {A = ℕ} 0 1 = cc in absurd (omega arith)

pub true_false : {A : Type 0} → true ≡ false → A
true_false e = let z : ◌≡◌ {A = ℕ} 0 1 = cc in absurd (omega arith)

pub false_true : {A : Type 0} → false ≡ true → A
false_true e = let z : ◌≡◌ {A = ℕ} 0 1 = cc in absurd (omega arith)
