-- Reading bytes from digits, two at a time. Assumes nothing.
use Rattle.std.proofs.Common.{◌≡◌, ℕ, ◌-◌, ◌/◌, ◌%◌, ◌≤◌, List, [], ◌∷◌, ◌++◌, Err, length, get_or, take, drop, sym, refl, ap, ◌∙◌, append-nil, arith}
use Rattle.std.proofs.lemmas.List.{take_rest}
use Rattle.std.specs.Char.{digit_char}
use Rattle.script.specs.Hex.{Byte, two_digits, hexed}
use Rattle.script.specs.Words.{Bytes, BytesRead}
use Rattle.script.specs.declared.flaw.Flaw.{Flaw}
use Rattle.script.specs.declared.flaw.Flaw.TheVariants.{Malformed, Memory}

pub hexed_push : (bs : List ℕ) (b : ℕ) (rest : List ℕ) → hexed (bs ++ b ∷ []) ++ rest ≡ hexed bs ++ (two_digits b ++ rest)
hexed_push [] b rest = refl
hexed_push (a ∷ bs) b rest = ap (λ (l : List ℕ). digit_char (a / 16) ∷ digit_char (a % 16) ∷ l) (hexed_push bs b rest)

abbrev front : List ℕ → List ℕ
front [] = []
front (x ∷ []) = []
front (x ∷ y ∷ l) = x ∷ y ∷ []

abbrev back : List ℕ → List ℕ
back [] = []
back (x ∷ []) = []
back (x ∷ y ∷ l) = l

-- Where a pair of digits is that of no byte, the digits are those of no bytes.
pub no_pair : (done : List ℕ) (high low : ℕ) (more bs : List ℕ) → ((b : ℕ) → Byte b → two_digits b ≡ high ∷ low ∷ [] → ⊥) → Bytes bs → hexed bs ≡ hexed done ++ high ∷ low ∷ more → ⊥
no_pair [] high low more [] never ok e = omega (arith, ap length e)
no_pair [] high low more (b ∷ bs) never ok e = never b ok.0 (ap front e)
no_pair (d ∷ done) high low more [] never ok e = omega (arith, ap length e)
no_pair (d ∷ done) high low more (b ∷ bs) never ok e = no_pair done high low more bs never ok.1 (ap back e)

-- Nor are they where one is left over.
pub no_odd : (done : List ℕ) (x : ℕ) (bs : List ℕ) → hexed bs ≡ hexed done ++ x ∷ [] → ⊥
no_odd [] x [] e = omega (arith, ap length e)
no_odd [] x (b ∷ bs) e = omega (arith, ap length e)
no_odd (d ∷ done) x [] e = omega (arith, ap length e)
no_odd (d ∷ done) x (b ∷ bs) e = no_odd done x bs (ap back e)

pub pair_again : (done new rest digits : List ℕ) (b : ℕ) → 2 ≤ length rest → hexed done ++ rest ≡ digits → new ≡ done ++ b ∷ [] → two_digits b ≡ get_or rest 0 0 ∷ get_or rest 1 0 ∷ [] → hexed new ++ take (length rest - 2) (drop 2 rest) ≡ digits
pair_again done new [] digits b l h n e = absurd (omega arith)
pair_again done new (x ∷ []) digits b l h n e = absurd (omega arith)
pair_again done new (x ∷ y ∷ rest) digits b l h n e =
    let written : two_digits b ≡ x ∷ y ∷ [] = e in
    ap (λ (zs : List ℕ). hexed new ++ zs) (take_rest (x ∷ y ∷ rest) 2)
    ∙ ap (λ (zs : List ℕ). hexed zs ++ rest) n
    ∙ hexed_push done b rest
    ∙ ap (λ (zs : List ℕ). hexed done ++ (zs ++ rest)) written
    ∙ h

-- Where the digits are those of no bytes, they may be called malformed.
pub refused : (word : List ℕ) (e : Flaw) → ((bs : List ℕ) → Bytes bs → hexed bs ≡ word → ⊥) → BytesRead word (Err e)
refused word Malformed never = never
refused word Memory never = tt

pub pair_refused : (done rest digits : List ℕ) → 2 ≤ length rest → hexed done ++ rest ≡ digits → ((b : ℕ) → Byte b → two_digits b ≡ get_or rest 0 0 ∷ get_or rest 1 0 ∷ [] → ⊥) → (bs : List ℕ) → Bytes bs → hexed bs ≡ digits → ⊥
pair_refused done [] digits l h never bs ok e = omega arith
pair_refused done (x ∷ []) digits l h never bs ok e = omega arith
pair_refused done (x ∷ y ∷ rest) digits l h never bs ok e = no_pair done x y rest bs never ok (e ∙ sym h)

pub none_left : (done rest digits : List ℕ) → length rest ≡ 0 → hexed done ++ rest ≡ digits → hexed done ≡ digits
none_left done [] digits l h = sym (append-nil (hexed done)) ∙ h
none_left done (x ∷ rest) digits l h = absurd (omega (arith, l))

pub one_left : (done rest digits : List ℕ) → length rest ≡ 1 → hexed done ++ rest ≡ digits → (bs : List ℕ) → Bytes bs → hexed bs ≡ digits → ⊥
one_left done [] digits l h bs ok e = omega (arith, l)
one_left done (x ∷ []) digits l h bs ok e = no_odd done x bs (e ∙ sym h)
one_left done (x ∷ y ∷ rest) digits l h bs ok e = omega (arith, l)
