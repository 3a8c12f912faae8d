-- Escaping, as the Rust does it.
use Rattle.std.proofs.Common.{◌≡◌, ℕ, suc, ◌<◌, ◌≤◌, ◌/◌, ◌%◌, Bool, true, false, cond, ◌||◌, List, [], ◌∷◌, ◌++◌, ◌==◌, sym, refl, ap, ◌∙◌, subst, arith}
use Rattle.std.specs.Char.{digit_char}
use Rattle.std.specs.Fmt.{digits, digits_onto}
use Rattle.std.proofs.lemmas.Bool.Decides.{nat_tests}
use Rattle.std.proofs.Math.Utf8.{encodes}
use Rattle.text.specs.Utf16.{points, leading, trailing}
use Rattle.template.specs.Escaped.{escaped, escapes, four_digits}
use Rattle.oxc.specs.Escaping.{no_char, no_str, padded, pushed_all, contains, replaced, all_replaced}
use Rattle.oxc.specs.Laws.{TheRustEscapesAlike}

not_zero : (n : ℕ) → 1 ≤ n → (n == 0) ≡ false
not_zero n h = grind (arith, nat_tests)

goes : (k n : ℕ) (acc : List ℕ) → 1 ≤ n / 16 → digits_onto (suc k) 16 false n acc ≡ digits_onto k 16 false (n / 16) (digit_char (n % 16) ∷ acc)
goes k n acc h = ap (λ b. cond b (digit_char (n % 16) ∷ acc) (digits_onto k 16 false (n / 16) (digit_char (n % 16) ∷ acc))) (not_zero (n / 16) h)

stops : (k n : ℕ) (acc : List ℕ) → n / 16 ≡ 0 → digits_onto (suc k) 16 false n acc ≡ digit_char (n % 16) ∷ acc
stops k n acc h = ap (λ b. cond (b == 0) (digit_char (n % 16) ∷ acc) (digits_onto k 16 false b (digit_char (n % 16) ∷ acc))) h

-- A surrogate has four digits.
four_read : (c : ℕ) → 0x1000 ≤ c → c < 0x10000 → digits 16 false c ≡ digit_char (c / 16 / 16 / 16 % 16) ∷ digit_char (c / 16 / 16 % 16) ∷ digit_char (c / 16 % 16) ∷ digit_char (c % 16) ∷ []
unfolding digits
four_read c low high =
    goes 63 c [] (omega arith)
    ∙ goes 62 (c / 16) (digit_char (c % 16) ∷ []) (omega arith)
    ∙ goes 61 (c / 16 / 16) (digit_char (c / 16 % 16) ∷ digit_char (c % 16) ∷ []) (omega arith)
    ∙ stops 60 (c / 16 / 16 / 16) (digit_char (c / 16 / 16 % 16) ∷ digit_char (c / 16 % 16) ∷ digit_char (c % 16) ∷ []) (omega arith)

four : (c : ℕ) → 0x1000 ≤ c → c < 0x10000 → padded (digits 16 false c) ≡ four_digits c
four c low high =
    let first : c / 16 / 16 / 16 % 16 ≡ c / 0x1000 = omega arith in
    let second : c / 16 / 16 % 16 ≡ c / 0x100 % 16 = omega arith in
    ap padded (four_read c low high)
    ∙ ap (λ d. digit_char d ∷ digit_char (c / 16 / 16 % 16) ∷ digit_char (c / 16 % 16) ∷ digit_char (c % 16) ∷ []) first
    ∙ ap (λ d. digit_char (c / 0x1000) ∷ digit_char d ∷ digit_char (c / 16 % 16) ∷ digit_char (c % 16) ∷ []) second

-- What is tested of a character, by what it is.
surrogate_same : (c : ℕ) → (leading c || trailing c) ≡ no_char c
surrogate_same c = grind (arith, nat_tests)

no_mark : (c : ℕ) → no_char c ≡ true → (c == 0x5C || c == 0x60 || c == 0x24) ≡ false
no_mark c e = grind (arith, nat_tests)

no_return : (c : ℕ) → no_char c ≡ true → (c == 0x0D) ≡ false
no_return c e = grind (arith, nat_tests)

high_enough : (c : ℕ) → no_char c ≡ true → 0xD800 ≤ c
high_enough c e = grind (arith, nat_tests)

low_enough : (c : ℕ) → no_char c ≡ true → c < 0xE000
low_enough c e = grind (arith, nat_tests)

-- The choice among the four ways to write a character, by three tests.
abbrev choice : Bool → Bool → Bool → (marked returned surrogate plain : List ℕ) → List ℕ
choice p q s a b d e = cond p a (cond q b (cond s d e))

marked : (c : ℕ) → (c == 0x5C || c == 0x60 || c == 0x24) ≡ true → escaped c ≡ 0x5C ∷ c ∷ []
marked c e = ap (λ p. choice p (c == 0x0D) (leading c || trailing c) (0x5C ∷ c ∷ []) (0x5C ∷ 0x72 ∷ []) (0x5C ∷ 0x75 ∷ four_digits c) (c ∷ [])) e

unmarked : (c : ℕ) → (c == 0x5C || c == 0x60 || c == 0x24) ≡ false → escaped c ≡ cond (c == 0x0D) (0x5C ∷ 0x72 ∷ []) (cond (leading c || trailing c) (0x5C ∷ 0x75 ∷ four_digits c) (c ∷ []))
unmarked c e = ap (λ p. choice p (c == 0x0D) (leading c || trailing c) (0x5C ∷ c ∷ []) (0x5C ∷ 0x72 ∷ []) (0x5C ∷ 0x75 ∷ four_digits c) (c ∷ [])) e

-- A surrogate, and a character that is none.
of_surrogate : (c : ℕ) → no_char c ≡ true → escaped c ≡ 0x5C ∷ 0x75 ∷ four_digits c
of_surrogate c e =
    unmarked c (no_mark c e)
    ∙ ap (λ q. cond q (0x5C ∷ 0x72 ∷ []) (cond (leading c || trailing c) (0x5C ∷ 0x75 ∷ four_digits c) (c ∷ []))) (no_return c e)
    ∙ ap (λ s. cond s (0x5C ∷ 0x75 ∷ four_digits c) (c ∷ [])) (surrogate_same c ∙ e)

of_char : (c : ℕ) → no_char c ≡ false → escaped c ≡ cond (c == 0x5C || c == 0x60 || c == 0x24) (0x5C ∷ c ∷ []) (cond (c == 0x0D) (0x5C ∷ 0x72 ∷ []) (c ∷ []))
of_char c e = ap (λ s. choice (c == 0x5C || c == 0x60 || c == 0x24) (c == 0x0D) s (0x5C ∷ c ∷ []) (0x5C ∷ 0x72 ∷ []) (0x5C ∷ 0x75 ∷ four_digits c) (c ∷ [])) (surrogate_same c ∙ e)

abbrev pushed_by : Bool → ℕ → List ℕ
pushed_by s c =
    cond s (0x5C ∷ 0x75 ∷ padded (digits 16 false c)) (cond (c == 0x5C || c == 0x60 || c == 0x24) (0x5C ∷ c ∷ []) (cond (c == 0x0D) (0x5C ∷ 0x72 ∷ []) (c ∷ [])))

pushed_as : (c : ℕ) (s : Bool) → no_char c ≡ s → pushed_by s c ≡ escaped c
pushed_as c true e = ap (λ ds. 0x5C ∷ 0x75 ∷ ds) (four c (omega (arith, high_enough c e)) (omega (arith, low_enough c e))) ∙ sym (of_surrogate c e)
pushed_as c false e = sym (of_char c e)

pushed_escaped : (cs : List ℕ) → pushed_all cs ≡ escapes cs
pushed_escaped [] = refl
pushed_escaped (c ∷ cs) = ap (λ z. z ++ pushed_all cs) (pushed_as c (no_char c) refl) ∙ ap (λ z. escaped c ++ z) (pushed_escaped cs)

-- Replacing goes through the text from left to right.
append_assoc : (xs ys zs : List ℕ) → (xs ++ ys) ++ zs ≡ xs ++ (ys ++ zs)
append_assoc [] ys zs = refl
append_assoc (x ∷ xs) ys zs = ap (λ z. x ∷ z) (append_assoc xs ys zs)

replaced_append : (c : ℕ) (run xs ys : List ℕ) → replaced c run (xs ++ ys) ≡ replaced c run xs ++ replaced c run ys
replaced_append c run [] ys = refl
replaced_append c run (x ∷ xs) ys =
    ap (λ z. cond (x == c) run (x ∷ []) ++ z) (replaced_append c run xs ys) ∙ sym (append_assoc (cond (x == c) run (x ∷ [])) (replaced c run xs) (replaced c run ys))

all_append : (xs ys : List ℕ) → all_replaced (xs ++ ys) ≡ all_replaced xs ++ all_replaced ys
all_append xs ys =
    let a = 0x5C ∷ 0x5C ∷ [] in
    let b = 0x5C ∷ 0x60 ∷ [] in
    let d = 0x5C ∷ 0x24 ∷ [] in
    let e = 0x5C ∷ 0x72 ∷ [] in
    ap (λ z. replaced 0x0D e (replaced 0x24 d (replaced 0x60 b z))) (replaced_append 0x5C a xs ys)
    ∙ ap (λ z. replaced 0x0D e (replaced 0x24 d z)) (replaced_append 0x60 b (replaced 0x5C a xs) (replaced 0x5C a ys))
    ∙ ap (λ z. replaced 0x0D e z) (replaced_append 0x24 d (replaced 0x60 b (replaced 0x5C a xs)) (replaced 0x60 b (replaced 0x5C a ys)))
    ∙ replaced_append 0x0D e (replaced 0x24 d (replaced 0x60 b (replaced 0x5C a xs))) (replaced 0x24 d (replaced 0x60 b (replaced 0x5C a ys)))

stays : (c d : ℕ) (run : List ℕ) → (c == d) ≡ false → replaced d run (c ∷ []) ≡ c ∷ []
stays c d run e = ap (λ b. cond b run (c ∷ []) ++ []) e

equal : (c d : ℕ) → (c == d) ≡ true → d ≡ c
equal c d e = grind (arith, nat_tests)

all_stay : (c : ℕ) → (c == 0x5C) ≡ false → (c == 0x60) ≡ false → (c == 0x24) ≡ false → (c == 0x0D) ≡ false → all_replaced (c ∷ []) ≡ c ∷ []
all_stay c e f g h =
    let a = 0x5C ∷ 0x60 ∷ [] in
    let b = 0x5C ∷ 0x24 ∷ [] in
    let d = 0x5C ∷ 0x72 ∷ [] in
    ap (λ z. replaced 0x0D d (replaced 0x24 b (replaced 0x60 a z))) (stays c 0x5C (0x5C ∷ 0x5C ∷ []) e)
    ∙ ap (λ z. replaced 0x0D d (replaced 0x24 b z)) (stays c 0x60 a f)
    ∙ ap (λ z. replaced 0x0D d z) (stays c 0x24 b g)
    ∙ stays c 0x0D d h

-- No `char` but the four is escaped.
plain : (c : ℕ) → no_char c ≡ false → (c == 0x5C) ≡ false → (c == 0x60) ≡ false → (c == 0x24) ≡ false → (c == 0x0D) ≡ false → escaped c ≡ c ∷ []
plain c n e f g h =
    of_char c n
    ∙ ap (λ p. cond (p || c == 0x60 || c == 0x24) (0x5C ∷ c ∷ []) (cond (c == 0x0D) (0x5C ∷ 0x72 ∷ []) (c ∷ []))) e
    ∙ ap (λ p. cond (p || c == 0x24) (0x5C ∷ c ∷ []) (cond (c == 0x0D) (0x5C ∷ 0x72 ∷ []) (c ∷ []))) f
    ∙ ap (λ p. cond p (0x5C ∷ c ∷ []) (cond (c == 0x0D) (0x5C ∷ 0x72 ∷ []) (c ∷ []))) g
    ∙ ap (λ q. cond q (0x5C ∷ 0x72 ∷ []) (c ∷ [])) h

one_as : (c : ℕ) → no_char c ≡ false → (p q r s : Bool) → (c == 0x5C) ≡ p → (c == 0x60) ≡ q → (c == 0x24) ≡ r → (c == 0x0D) ≡ s → all_replaced (c ∷ []) ≡ escaped c
one_as c n true q r s e f g h = subst (λ d. all_replaced (d ∷ []) ≡ escaped d) (equal c 0x5C e) refl
one_as c n false true r s e f g h = subst (λ d. all_replaced (d ∷ []) ≡ escaped d) (equal c 0x60 f) refl
one_as c n false false true s e f g h = subst (λ d. all_replaced (d ∷ []) ≡ escaped d) (equal c 0x24 g) refl
one_as c n false false false true e f g h = subst (λ d. all_replaced (d ∷ []) ≡ escaped d) (equal c 0x0D h) refl
one_as c n false false false false e f g h = all_stay c e f g h ∙ sym (plain c n e f g h)

-- Neither of two, where not one of them.
neither : (a b : Bool) → (a || b) ≡ false → (a ≡ false) × (b ≡ false)
neither false b e = (refl, e)
neither true b e = let z : ◌≡◌ {A = ℕ} 0 1 = cc in absurd (omega arith)

replaced_escaped : (cs : List ℕ) → no_str cs ≡ false → all_replaced cs ≡ escapes cs
replaced_escaped [] e = refl
replaced_escaped (c ∷ cs) e =
    all_append (c ∷ []) cs
    ∙ ap (λ z. z ++ all_replaced cs) (one_as c (neither (no_char c) (no_str cs) e).0 (c == 0x5C) (c == 0x60) (c == 0x24) (c == 0x0D) refl refl refl refl)
    ∙ ap (λ z. escaped c ++ z) (replaced_escaped cs (neither (no_char c) (no_str cs) e).1)

-- A text without any of the four is its own raw text.
untouched : (cs : List ℕ) → no_str cs ≡ false → contains cs ≡ false → cs ≡ escapes cs
untouched [] e f = refl
untouched (c ∷ cs) e f =
    let s = neither (no_char c) (no_str cs) e in
    let all = neither (c == 0x5C || c == 0x60 || c == 0x24 || c == 0x0D) (contains cs) f in
    let three = neither (c == 0x5C || c == 0x60 || c == 0x24) (c == 0x0D) all.0 in
    let two = neither (c == 0x5C || c == 0x60) (c == 0x24) three.0 in
    let one = neither (c == 0x5C) (c == 0x60) two.0 in
    ap (λ z. z ++ cs) (sym (plain c s.0 one.0 one.1 two.1 three.1)) ∙ ap (λ z. escaped c ++ z) (untouched cs s.1 all.1)

by_tests : (cs : List ℕ) (s b : Bool) → no_str cs ≡ s → contains cs ≡ b → cond s (pushed_all cs) (cond b (all_replaced cs) cs) ≡ escapes cs
by_tests cs true b e f = pushed_escaped cs
by_tests cs false true e f = replaced_escaped cs e
by_tests cs false false e f = untouched cs e f

pub escapes_alike : TheRustEscapesAlike
escapes_alike us = ap encodes (by_tests (points us) (no_str (points us)) (contains (points us)) refl refl)
