-- Calls of known methods, as the Rust replaces them.
use Rattle.std.proofs.Common.{◌≡◌, ℕ, suc, ◌+◌, Bool, true, false, cond, ◌&&◌, ◌||◌, List, [], ◌∷◌, length, codes, Some, None, bytes_eq, nat_le, refl, sym, subst, ap, ◌∙◌, arith}
use Rattle.std.proofs.lemmas.Slice.Eq.{bytes_eq-Decides}
use Rattle.std.proofs.lemmas.Bool.Decides.{nat_tests}
use Rattle.text.specs.Utf16.{points}
use Rattle.tree.specs.declared.node.BinaryOperator.TheVariants.{Exponentiation}
use Rattle.host.specs.declared.value_type.ValueType.{ValueType}
use Rattle.host.specs.declared.value_type.ValueType.TheVariants.{Undetermined, Undefined, Null, Number, BigInt, String, Boolean, Object}
use Rattle.host.specs.Answers.{Answers}
use Rattle.meaning.specs.Expression.{Expression, Elements, Arguments, Units}
use Rattle.meaning.specs.Methods.{concat_name, pow_name, of_name, math_name, array_name}
use Rattle.meaning.specs.Parts.{Part}
use Rattle.meaning.specs.Numbering.{renumbered, renumbered_elements, renumbered_arguments}
use Rattle.rules.specs.Deciding.{Deciding, decided, when, outermost}
use Rattle.rules.specs.Places.{Role, Settings}
use Rattle.rules.specs.Building.{append_elements, joined, elements_of as of_arguments, with_object}
use Rattle.rules.specs.Interleaves.{argument_count}
use Rattle.rules.specs.Interleaving.{no_spread, none_left, interleaving, short}
use Rattle.rules.specs.Taking.{Leading, leading, taken, left, taken_count, taken_with, left_with, taken_count_with}
use Rattle.rules.specs.Method.{keyed, callee_of, string_concat, array_left, array_concat, is_number, power, math_pow, array_of, global_method, method_of_object, method_called, method_rule}
use Rattle.oxc.specs.Escaping.{no_str}
use Rattle.oxc.specs.Folding.{iter, from_iter, interleave_from, string_concat_can_interleave, string_concat_prefers_template, expression_count, fold_string_concat, object_or_undetermined}
use Rattle.oxc.specs.Functions.{Made, parent_is_concat, is_literal, merges, merged_one, Drained, drained, with_elements, after_drain, try_fold_concat, validate_global_reference, wrapped, try_fold_pow, elements_of, try_fold_array_of, by_name, by_callee, replace_known_global_methods}
use Rattle.oxc.specs.Laws.{SameButNumbers, Agree, TheRustReplacesMethodsAlike}
use Rattle.oxc.proofs.Folding.{short_alike, interleaving_alike, template_alike, counts_arguments}

-- ---- a string

false_either : (b : Bool) → cond b false false ≡ false
false_either true = refl
false_either false = refl

pub spread_no : (a : Answers) (b : Bool) (xs : Arguments) → no_spread xs ≡ false → interleave_from a b (iter xs) ≡ false
unfolding no_spread interleave_from iter
spread_no a b Arguments.no_arguments e = let z : ◌≡◌ {A = ℕ} 0 1 = cc in absurd (omega arith)
spread_no a b (Arguments.argument x xs) e =
    let may = b || object_or_undetermined (a.value_type (Part.expression x)) in
    let asked = b && a.effects (Part.expression x) in
    ap (λ z. cond asked false z) (spread_no a may xs e) ∙ false_either asked
spread_no a b (Arguments.spread_argument l x xs) e = refl

pub and_false : (b : Bool) → (b && false) ≡ false
and_false true = refl
and_false false = refl

-- The four conditions in either order.
conditions : (a : Answers) (t n w p c : Bool) (d : Deciding) (y z : Expression) → (w ≡ false → c ≡ false) → decided a d ≡ cond c (Some y) None → SameButNumbers y z
    → Agree (decided a (when (t && (n && (w && p))) d)) (cond (t && n && c && p) (Made.replaced z) Made.left)
unfolding when decided
conditions a false n w p c d y z h e s = tt
conditions a true false w p c d y z h e s = tt
conditions a true true false p c d y z h e s = subst (λ q. Agree None (cond (q && p) (Made.replaced z) Made.left)) (sym (h refl)) tt
conditions a true true true false c d y z h e s = subst (λ q. Agree None (cond q (Made.replaced z) Made.left)) (sym (and_false c)) tt
conditions a true true true true true d y z h e s = subst (λ o. Agree o (Made.replaced z)) (sym e) s
conditions a true true true true false d y z h e s = subst (λ o. Agree o Made.left) (sym e) tt

string_alike : (s : Settings) (next : ℕ) (a : Answers) (f : Expression) (j : ℕ) (u : Units) (xs : Arguments)
    → Agree (decided a (string_concat s next u xs)) (try_fold_concat s a f (Expression.string j u) (iter xs))
unfolding string_concat try_fold_concat decided
string_alike s next a f j u xs =
    let c = string_concat_can_interleave a (iter xs) in
    let p = string_concat_prefers_template (length (iter xs)) (expression_count (iter xs)) 1 in
    let made = joined next u xs in
    let agreed = conditions a s.templates (nat_le 1 (argument_count xs)) (no_spread xs) (short 1 xs) c (interleaving xs (Deciding.becomes made) Deciding.keep) made (fold_string_concat u (iter xs))
    (λ e. spread_no a false xs e) (interleaving_alike a (Deciding.becomes made) Deciding.keep xs) (template_alike next u xs) in
    let counted = subst (λ n. Agree (decided a (string_concat s next u xs)) (cond (s.templates && nat_le 1 n && c && short 1 xs) (Made.replaced (fold_string_concat u (iter xs))) Made.left)) (sym (counts_arguments xs)) agreed in
    subst (λ q. Agree (decided a (string_concat s next u xs)) (cond (s.templates && nat_le 1 (length (iter xs)) && c && q) (Made.replaced (fold_string_concat u (iter xs))) Made.left)) (short_alike 1 xs) counted

-- ---- an array

append_none : (es : Elements) → append_elements es Elements.no_elements ≡ es
unfolding append_elements
append_none Elements.no_elements = refl
append_none (Elements.item x es) = ap (λ z. Elements.item x z) (append_none es)
append_none (Elements.hole l es) = ap (λ z. Elements.hole l z) (append_none es)
append_none (Elements.spread l x es) = ap (λ z. Elements.spread l x z) (append_none es)

append_twice : (es fs gs : Elements) → append_elements (append_elements es fs) gs ≡ append_elements es (append_elements fs gs)
unfolding append_elements
append_twice Elements.no_elements fs gs = refl
append_twice (Elements.item x es) fs gs = ap (λ z. Elements.item x z) (append_twice es fs gs)
append_twice (Elements.hole l es) fs gs = ap (λ z. Elements.hole l z) (append_twice es fs gs)
append_twice (Elements.spread l x es) fs gs = ap (λ z. Elements.spread l x z) (append_twice es fs gs)

abbrev state : Elements → List Part → ℕ → Drained
state es ps n = record { elements = es; args = ps; merged = n }

-- What one more merged argument leaves to merge.
merged_more : (es fs : Elements) (n : ℕ) (xs : Arguments) (ps : List Part)
    → drained (append_elements es fs) (suc n) ps ≡ state (append_elements (append_elements es fs) (taken xs)) (iter (left xs)) (suc n + taken_count xs)
    → drained (append_elements es fs) (suc n) ps ≡ state (append_elements es (append_elements fs (taken xs))) (iter (left xs)) (n + suc (taken_count xs))
merged_more es fs n xs ps h =
    let m : suc n + taken_count xs ≡ n + suc (taken_count xs) = omega arith in
    h ∙ ap (λ z. state z (iter (left xs)) (suc n + taken_count xs)) (append_twice es fs (taken xs)) ∙ ap (λ z. state (append_elements es (append_elements fs (taken xs))) (iter (left xs)) z) m

nothing_merged : (es : Elements) (n : ℕ) (ps : List Part) → state es ps n ≡ state (append_elements es Elements.no_elements) ps (n + 0)
nothing_merged es n ps =
    let m : n ≡ n + 0 = omega arith in
    ap (λ z. state z ps n) (sym (append_none es)) ∙ ap (λ z. state (append_elements es Elements.no_elements) ps z) m

drained_alike : (es : Elements) (n : ℕ) (xs : Arguments) → drained es n (iter xs) ≡ state (append_elements es (taken xs)) (iter (left xs)) (n + taken_count xs)
unfolding drained iter merges merged_one is_literal taken taken_with left left_with taken_count taken_count_with leading append_elements
drained_alike es n Arguments.no_arguments = nothing_merged es n []
drained_alike es n (Arguments.spread_argument l x xs) = nothing_merged es n (iter (Arguments.spread_argument l x xs))
drained_alike es n (Arguments.argument (Expression.string l u) xs) =
    merged_more es (Elements.item (Expression.string l u) Elements.no_elements) n xs (iter xs) (drained_alike (append_elements es (Elements.item (Expression.string l u) Elements.no_elements)) (suc n) xs)
drained_alike es n (Arguments.argument (Expression.number l u) xs) =
    merged_more es (Elements.item (Expression.number l u) Elements.no_elements) n xs (iter xs) (drained_alike (append_elements es (Elements.item (Expression.number l u) Elements.no_elements)) (suc n) xs)
drained_alike es n (Arguments.argument (Expression.boolean l u) xs) =
    merged_more es (Elements.item (Expression.boolean l u) Elements.no_elements) n xs (iter xs) (drained_alike (append_elements es (Elements.item (Expression.boolean l u) Elements.no_elements)) (suc n) xs)
drained_alike es n (Arguments.argument (Expression.null l) xs) =
    merged_more es (Elements.item (Expression.null l) Elements.no_elements) n xs (iter xs) (drained_alike (append_elements es (Elements.item (Expression.null l) Elements.no_elements)) (suc n) xs)
drained_alike es n (Arguments.argument (Expression.array l fs) xs) = merged_more es fs n xs (iter xs) (drained_alike (append_elements es fs) (suc n) xs)
drained_alike es n (Arguments.argument x xs) = nothing_merged es n (iter (Arguments.argument x xs))

-- The callee is made the same way.
callee_alike : (l n : ℕ) (f : Expression) (es : Elements) → SameButNumbers (with_object l f (Expression.array n es)) (with_elements f es)
unfolding with_object with_elements
callee_alike l n (Expression.static_member m o k) es = refl
callee_alike l n (Expression.computed_member m o k) es = refl
callee_alike l n f es = refl

-- The arguments are collected as they were.
pub collected_again : (xs : Arguments) → from_iter (iter xs) ≡ xs
unfolding from_iter iter
collected_again Arguments.no_arguments = refl
collected_again (Arguments.argument x xs) = ap (λ z. Arguments.argument x z) (collected_again xs)
collected_again (Arguments.spread_argument l x xs) = ap (λ z. Arguments.spread_argument l x z) (collected_again xs)

abbrev bare : Expression → Expression
bare x = renumbered (λ n. 0) x

-- One call by both: callees that are the same but for numbers, and the same arguments.
pub call_alike : (l : ℕ) (f g : Expression) (ys : Arguments) → SameButNumbers f g → SameButNumbers (Expression.call l f ys) (Expression.call 0 g (from_iter (iter ys)))
call_alike l f g ys e =
    ap (λ z. Expression.call 0 z (renumbered_arguments (λ n. 0) ys)) e ∙ ap (λ z. Expression.call 0 (bare g) (renumbered_arguments (λ n. 0) z)) (sym (collected_again ys))

some_left : (n : ℕ) → false ≡ nat_le (suc n) 0
some_left n = grind (arith, nat_tests)

merged_some : (n : ℕ) → true ≡ nat_le 1 (0 + suc n)
merged_some n = grind (arith, nat_tests)

abbrev after_by : Bool → Bool → Expression → Elements → List Part → Made
after_by none some f es ps = cond none (Made.replaced (Expression.array 0 es)) (cond some (Made.replaced (Expression.call 0 (with_elements f es) (from_iter ps))) Made.left)

left_alike : (next : ℕ) (a : Answers) (f : Expression) (es : Elements) (ys : Arguments) (n : ℕ) → Agree (decided a (array_left next f es ys)) (after_drain f (state es (iter ys) (0 + suc n)))
unfolding array_left decided iter
left_alike next a f es Arguments.no_arguments n = refl
left_alike next a f es (Arguments.argument x ys) n =
    subst (λ b. Agree (Some (Expression.call (next + 2) (with_object (next + 1) f (Expression.array next es)) (Arguments.argument x ys))) (after_by b (nat_le 1 (0 + suc n)) f es (iter (Arguments.argument x ys))))
    (some_left (length (iter ys)))
    (subst (λ b. Agree (Some (Expression.call (next + 2) (with_object (next + 1) f (Expression.array next es)) (Arguments.argument x ys))) (after_by false b f es (iter (Arguments.argument x ys))))
    (merged_some n)
    (call_alike (next + 2) (with_object (next + 1) f (Expression.array next es)) (with_elements f es) (Arguments.argument x ys) (callee_alike (next + 1) next f es)))
left_alike next a f es (Arguments.spread_argument l x ys) n =
    subst (λ b. Agree (Some (Expression.call (next + 2) (with_object (next + 1) f (Expression.array next es)) (Arguments.spread_argument l x ys))) (after_by b (nat_le 1 (0 + suc n)) f es (iter (Arguments.spread_argument l x ys))))
    (some_left (length (iter ys)))
    (subst (λ b. Agree (Some (Expression.call (next + 2) (with_object (next + 1) f (Expression.array next es)) (Arguments.spread_argument l x ys))) (after_by false b f es (iter (Arguments.spread_argument l x ys))))
    (merged_some n)
    (call_alike (next + 2) (with_object (next + 1) f (Expression.array next es)) (with_elements f es) (Arguments.spread_argument l x ys) (callee_alike (next + 1) next f es)))

none_merged : (f : Expression) (es : Elements) (p : Part) (ps : List Part) → after_drain f (state es (p ∷ ps) 0) ≡ Made.left
none_merged f es p ps = ap (λ b. after_by b false f es (p ∷ ps)) (sym (some_left (length ps)))

by_leading : (next : ℕ) (a : Answers) (f : Expression) (j : ℕ) (es : Elements) (x : Expression) (xs : Arguments) (l : Leading) → leading x ≡ l
    → Agree (decided a (array_concat next f j es (Arguments.argument x xs) (taken_count_with l (taken_count xs))))
    (after_drain f (state (append_elements es (taken_with x l (taken xs))) (iter (left_with x l xs (left xs))) (0 + taken_count_with l (taken_count xs))))
unfolding array_concat decided taken_count_with taken_with left_with when none_left iter taken left leading
by_leading next a f j es x xs Leading.literal e =
    subst (λ l. Agree (decided a (array_left next f (append_elements es (taken_with x l (taken xs))) (left_with x l xs (left xs)))) (after_drain f (state (append_elements es (Elements.item x (taken xs))) (iter (left xs)) (0 + suc (taken_count xs)))))
    (sym e) (left_alike next a f (append_elements es (Elements.item x (taken xs))) (left xs) (taken_count xs))
by_leading next a f j es x xs (Leading.gives fs) e =
    subst (λ l. Agree (decided a (array_left next f (append_elements es (taken_with x l (taken xs))) (left_with x l xs (left xs)))) (after_drain f (state (append_elements es (append_elements fs (taken xs))) (iter (left xs)) (0 + suc (taken_count xs)))))
    (sym e) (left_alike next a f (append_elements es (append_elements fs (taken xs))) (left xs) (taken_count xs))
by_leading next a f j es x xs Leading.other e = subst (λ m. Agree None m) (sym (none_merged f (append_elements es Elements.no_elements) (Part.expression x) (iter xs))) tt

array_by : (next : ℕ) (a : Answers) (f : Expression) (j : ℕ) (es : Elements) (xs : Arguments)
    → Agree (decided a (array_concat next f j es xs (taken_count xs))) (after_drain f (state (append_elements es (taken xs)) (iter (left xs)) (0 + taken_count xs)))
unfolding array_concat decided taken_count taken left when none_left iter
array_by next a f j es Arguments.no_arguments = ap (λ z. Expression.array 0 (renumbered_elements (λ n. 0) z)) (sym (append_none es))
array_by next a f j es (Arguments.argument x xs) = by_leading next a f j es x xs (leading x) refl
array_by next a f j es (Arguments.spread_argument l x xs) = subst (λ m. Agree None m) (sym (none_merged f (append_elements es Elements.no_elements) (Part.spread l x) (iter xs))) tt

array_alike : (s : Settings) (next : ℕ) (a : Answers) (f : Expression) (j : ℕ) (es : Elements) (xs : Arguments)
    → Agree (decided a (array_concat next f j es xs (taken_count xs))) (try_fold_concat s a f (Expression.array j es) (iter xs))
unfolding try_fold_concat
array_alike s next a f j es xs = subst (λ d. Agree (decided a (array_concat next f j es xs (taken_count xs))) (after_drain f d)) (sym (drained_alike es 0 xs)) (array_by next a f j es xs)

-- ---- the names

no_pow : (s : Settings) (a : Answers) (o : Expression) (xs : Arguments) → validate_global_reference a o (codes "Math") ≡ false → Made.left ≡ try_fold_pow s a o (iter xs)
unfolding try_fold_pow iter
no_pow s a o Arguments.no_arguments e = refl
no_pow s a o (Arguments.spread_argument l x xs) e = refl
no_pow s a o (Arguments.argument x Arguments.no_arguments) e = refl
no_pow s a o (Arguments.argument x (Arguments.spread_argument l y xs)) e = refl
no_pow s a o (Arguments.argument x (Arguments.argument y Arguments.no_arguments)) e =
    let made = Made.replaced (Expression.binary 0 Exponentiation x (wrapped (a.value_type (Part.expression y)) y)) in
    ap (λ b. cond b made Made.left) (sym (and_false s.power)) ∙ ap (λ b. cond (s.power && b) made Made.left) (sym e)
no_pow s a o (Arguments.argument x (Arguments.argument y (Arguments.argument z xs))) e = refl
no_pow s a o (Arguments.argument x (Arguments.argument y (Arguments.spread_argument l z xs))) e = refl

no_of : (a : Answers) (o : Expression) (ps : List Part) → validate_global_reference a o (codes "Array") ≡ false → Made.left ≡ try_fold_array_of a o ps
no_of a o ps e = ap (λ b. cond b (Made.replaced (Expression.array 0 (elements_of ps))) Made.left) (sym e)

wrapped_alike : (next : ℕ) (x y : Expression) (t : ValueType) → SameButNumbers (power next x y (is_number t)) (Expression.binary 0 Exponentiation x (wrapped t y))
unfolding power is_number wrapped
wrapped_alike next x y Number = refl
wrapped_alike next x y Undetermined = refl
wrapped_alike next x y Undefined = refl
wrapped_alike next x y Null = refl
wrapped_alike next x y BigInt = refl
wrapped_alike next x y String = refl
wrapped_alike next x y Boolean = refl
wrapped_alike next x y Object = refl

pow_by : (next : ℕ) (a : Answers) (o x y : Expression) (p g : Bool) → a.global (Part.expression o) ≡ g
    → Agree (decided a (when p (Deciding.ask_global (Part.expression o) (λ g. when g (Deciding.ask_type (Part.expression y) (λ t. Deciding.becomes (power next x y (is_number t))))))))
    (cond (p && (g && true)) (Made.replaced (Expression.binary 0 Exponentiation x (wrapped (a.value_type (Part.expression y)) y))) Made.left)
unfolding decided when
pow_by next a o x y false g e = tt
pow_by next a o x y true true e =
    subst (λ b. Agree (decided a (when b (Deciding.ask_type (Part.expression y) (λ t. Deciding.becomes (power next x y (is_number t)))))) (Made.replaced (Expression.binary 0 Exponentiation x (wrapped (a.value_type (Part.expression y)) y))))
    (sym e) (wrapped_alike next x y (a.value_type (Part.expression y)))
pow_by next a o x y true false e = subst (λ b. Agree (decided a (when b (Deciding.ask_type (Part.expression y) (λ t. Deciding.becomes (power next x y (is_number t)))))) Made.left) (sym e) tt

pow_alike : (s : Settings) (next : ℕ) (a : Answers) (j : ℕ) (xs : Arguments)
    → Agree (decided a (math_pow s next (Expression.name j math_name) xs)) (try_fold_pow s a (Expression.name j math_name) (iter xs))
unfolding math_pow try_fold_pow iter decided validate_global_reference math_name
pow_alike s next a j Arguments.no_arguments = tt
pow_alike s next a j (Arguments.spread_argument l x xs) = tt
pow_alike s next a j (Arguments.argument x Arguments.no_arguments) = tt
pow_alike s next a j (Arguments.argument x (Arguments.spread_argument l y xs)) = tt
pow_alike s next a j (Arguments.argument x (Arguments.argument y Arguments.no_arguments)) = pow_by next a (Expression.name j math_name) x y s.power (a.global (Part.expression (Expression.name j math_name))) refl
pow_alike s next a j (Arguments.argument x (Arguments.argument y (Arguments.argument z xs))) = tt
pow_alike s next a j (Arguments.argument x (Arguments.argument y (Arguments.spread_argument l z xs))) = tt

elements_same : (xs : Arguments) → of_arguments xs ≡ elements_of (iter xs)
unfolding of_arguments elements_of iter
elements_same Arguments.no_arguments = refl
elements_same (Arguments.argument x xs) = ap (λ z. Elements.item x z) (elements_same xs)
elements_same (Arguments.spread_argument l x xs) = ap (λ z. Elements.spread l x z) (elements_same xs)

of_by : (next : ℕ) (a : Answers) (o : Expression) (xs : Arguments) (g : Bool) → a.global (Part.expression o) ≡ g
    → Agree (decided a (array_of next o xs)) (cond (g && true) (Made.replaced (Expression.array 0 (elements_of (iter xs)))) Made.left)
unfolding decided when array_of
of_by next a o xs true e = subst (λ b. Agree (decided a (when b (Deciding.becomes (Expression.array next (of_arguments xs))))) (Made.replaced (Expression.array 0 (elements_of (iter xs))))) (sym e) (ap (λ z. Expression.array 0 (renumbered_elements (λ n. 0) z)) (elements_same xs))
of_by next a o xs false e = subst (λ b. Agree (decided a (when b (Deciding.becomes (Expression.array next (of_arguments xs))))) Made.left) (sym e) tt

-- ---- by name

keeps_name : (s : Settings) (next : ℕ) (a : Answers) (j : ℕ) (u k : Units) (xs : Arguments) → bytes_eq k (codes "pow") ≡ false → bytes_eq k (codes "of") ≡ false
    → decided a (global_method s next j u k xs) ≡ None
unfolding global_method decided when pow_name of_name
keeps_name s next a j u k xs e f = rw (e, f, and_false (bytes_eq u math_name), and_false (bytes_eq u array_name)) refl

keeps_other : (s : Settings) (next : ℕ) (r : Role) (a : Answers) (f : Expression) (xs : Arguments) (k : Units) (o : Expression)
    → bytes_eq k (codes "concat") ≡ false → bytes_eq k (codes "pow") ≡ false → bytes_eq k (codes "of") ≡ false → decided a (method_of_object s next r f xs k o) ≡ None
unfolding method_of_object decided when concat_name
keeps_other s next r a f xs k (Expression.string j u) e g h = rw e refl
keeps_other s next r a f xs k (Expression.array j es) e g h = rw e refl
keeps_other s next r a f xs k (Expression.name j u) e g h = keeps_name s next a j u k xs g h
keeps_other s next r a f xs k o e g h = refl

either_left : (b : Bool) → Agree None (cond b Made.left Made.left)
either_left true = tt
either_left false = tt

concat_alike : (s : Settings) (next : ℕ) (r : Role) (a : Answers) (f : Expression) (xs : Arguments) (o : Expression)
    → Agree (decided a (method_of_object s next r f xs (codes "concat") o)) (cond (parent_is_concat r) Made.left (try_fold_concat s a f o (iter xs)))
unfolding method_of_object decided when concat_name parent_is_concat outermost try_fold_concat
concat_alike s next Role.ordinary a f xs (Expression.string j u) = string_alike s next a f j u xs
concat_alike s next Role.referred a f xs (Expression.string j u) = string_alike s next a f j u xs
concat_alike s next Role.concat_object a f xs (Expression.string j u) = tt
concat_alike s next Role.ordinary a f xs (Expression.array j es) = array_alike s next a f j es xs
concat_alike s next Role.referred a f xs (Expression.array j es) = array_alike s next a f j es xs
concat_alike s next Role.concat_object a f xs (Expression.array j es) = tt
concat_alike s next r a f xs (Expression.name j u) = subst (λ o. Agree o (cond (parent_is_concat r) Made.left Made.left)) (sym (keeps_name s next a j u (codes "concat") xs refl refl)) (either_left (parent_is_concat r))
concat_alike s next r a f xs o = either_left (parent_is_concat r)

not_global : (a : Answers) (j : ℕ) (u v : Units) → bytes_eq u v ≡ false → validate_global_reference a (Expression.name j u) v ≡ false
unfolding validate_global_reference
not_global a j u v e = rw e (and_false (a.global (Part.expression (Expression.name j u))))

of_pow_by : (s : Settings) (next : ℕ) (a : Answers) (j : ℕ) (u : Units) (xs : Arguments) (b : Bool) → bytes_eq u (codes "Math") ≡ b
    → Agree (decided a (global_method s next j u (codes "pow") xs)) (try_fold_pow s a (Expression.name j u) (iter xs))
unfolding global_method decided when pow_name of_name math_name
of_pow_by s next a j u xs true e = subst (λ v. Agree (decided a (global_method s next j v (codes "pow") xs)) (try_fold_pow s a (Expression.name j v) (iter xs))) (sym ((bytes_eq-Decides u (codes "Math")).0 e)) (pow_alike s next a j xs)
of_pow_by s next a j u xs false e = subst (λ m. Agree (decided a (global_method s next j u (codes "pow") xs)) m) (no_pow s a (Expression.name j u) xs (not_global a j u (codes "Math") e)) (rw (e, and_false (bytes_eq u array_name)) tt)

pow_named : (s : Settings) (next : ℕ) (r : Role) (a : Answers) (f : Expression) (xs : Arguments) (o : Expression)
    → Agree (decided a (method_of_object s next r f xs (codes "pow") o)) (try_fold_pow s a o (iter xs))
unfolding method_of_object decided when concat_name validate_global_reference
pow_named s next r a f xs (Expression.name j u) = of_pow_by s next a j u xs (bytes_eq u (codes "Math")) refl
pow_named s next r a f xs o = subst (λ m. Agree None m) (no_pow s a o xs refl) tt

of_of_by : (s : Settings) (next : ℕ) (a : Answers) (j : ℕ) (u : Units) (xs : Arguments) (b : Bool) → bytes_eq u (codes "Array") ≡ b
    → Agree (decided a (global_method s next j u (codes "of") xs)) (try_fold_array_of a (Expression.name j u) (iter xs))
unfolding global_method decided when pow_name of_name array_name math_name validate_global_reference
of_of_by s next a j u xs true e =
    subst (λ v. Agree (decided a (global_method s next j v (codes "of") xs)) (try_fold_array_of a (Expression.name j v) (iter xs)))
    (sym ((bytes_eq-Decides u (codes "Array")).0 e)) (of_by next a (Expression.name j (codes "Array")) xs (a.global (Part.expression (Expression.name j (codes "Array")))) refl)
of_of_by s next a j u xs false e =
    subst (λ m. Agree (decided a (global_method s next j u (codes "of") xs)) m)
    (no_of a (Expression.name j u) (iter xs) (not_global a j u (codes "Array") e)) (rw (e, and_false (bytes_eq u math_name)) tt)

of_named : (s : Settings) (next : ℕ) (r : Role) (a : Answers) (f : Expression) (xs : Arguments) (o : Expression)
    → Agree (decided a (method_of_object s next r f xs (codes "of") o)) (try_fold_array_of a o (iter xs))
unfolding method_of_object decided when concat_name validate_global_reference
of_named s next r a f xs (Expression.name j u) = of_of_by s next a j u xs (bytes_eq u (codes "Array")) refl
of_named s next r a f xs o = tt

-- A name is one of the three, or none of them.
named : (s : Settings) (next : ℕ) (r : Role) (a : Answers) (f o : Expression) (k : Units) (xs : Arguments) (b c d : Bool)
    → bytes_eq k (codes "concat") ≡ b → bytes_eq k (codes "pow") ≡ c → bytes_eq k (codes "of") ≡ d
    → Agree (decided a (method_of_object s next r f xs k o)) (by_name s r a f o k (iter xs))
named s next r a f o k xs true c d e g h =
    subst (λ v. Agree (decided a (method_of_object s next r f xs v o)) (by_name s r a f o v (iter xs))) (sym ((bytes_eq-Decides k (codes "concat")).0 e)) (concat_alike s next r a f xs o)
named s next r a f o k xs false true d e g h =
    subst (λ v. Agree (decided a (method_of_object s next r f xs v o)) (by_name s r a f o v (iter xs))) (sym ((bytes_eq-Decides k (codes "pow")).0 g)) (pow_named s next r a f xs o)
named s next r a f o k xs false false true e g h =
    subst (λ v. Agree (decided a (method_of_object s next r f xs v o)) (by_name s r a f o v (iter xs))) (sym ((bytes_eq-Decides k (codes "of")).0 h)) (of_named s next r a f xs o)
named s next r a f o k xs false false false e g h = rw (keeps_other s next r a f xs k o e g h, e, g, h) tt

method_alike : (s : Settings) (next : ℕ) (r : Role) (a : Answers) (f o : Expression) (k : Units) (xs : Arguments)
    → Agree (decided a (method_of_object s next r f xs k o)) (by_name s r a f o k (iter xs))
method_alike s next r a f o k xs = named s next r a f o k xs (bytes_eq k (codes "concat")) (bytes_eq k (codes "pow")) (bytes_eq k (codes "of")) refl refl refl

-- A key that is no `str` is none of the names.
no_name : (k : Units) (v : Units) (b : Bool) → no_str (points k) ≡ true → no_str (points v) ≡ false → bytes_eq k v ≡ b → bytes_eq k v ≡ false
no_name k v true e n h = let same : k ≡ v = (bytes_eq-Decides k v).0 h in let z : true ≡ false = sym e ∙ ap (λ u. no_str (points u)) same ∙ n in let y : ◌≡◌ {A = ℕ} 0 1 = cc in absurd (omega arith)
no_name k v false e n h = h

key_alike : (s : Settings) (next : ℕ) (r : Role) (a : Answers) (f o : Expression) (k : Units) (xs : Arguments) (b : Bool) → no_str (points k) ≡ b
    → Agree (decided a (method_of_object s next r f xs k o)) (cond b Made.left (by_name s r a f o k (iter xs)))
key_alike s next r a f o k xs true e =
    subst (λ o. Agree o Made.left)
    (sym (keeps_other s next r a f xs k o (no_name k (codes "concat") (bytes_eq k (codes "concat")) e refl refl) (no_name k (codes "pow") (bytes_eq k (codes "pow")) e refl refl) (no_name k (codes "of") (bytes_eq k (codes "of")) e refl refl)))
    tt
key_alike s next r a f o k xs false e = method_alike s next r a f o k xs

keyed_alike : (s : Settings) (next : ℕ) (r : Role) (a : Answers) (m : ℕ) (o y : Expression) (xs : Arguments)
    → Agree (decided a (method_called s next r (Expression.computed_member m o y) xs (keyed o y))) (by_callee s r a (Expression.computed_member m o y) (iter xs))
unfolding method_called keyed by_callee decided
keyed_alike s next r a m o (Expression.string l k) xs = key_alike s next r a (Expression.computed_member m o (Expression.string l k)) o k xs (no_str (points k)) refl
keyed_alike s next r a m o y xs = tt

callee_of_alike : (s : Settings) (next : ℕ) (r : Role) (a : Answers) (f : Expression) (xs : Arguments)
    → Agree (decided a (method_called s next r f xs (callee_of f))) (by_callee s r a f (iter xs))
unfolding method_called callee_of by_callee decided
callee_of_alike s next r a (Expression.static_member m o k) xs = method_alike s next r a (Expression.static_member m o k) o k xs
callee_of_alike s next r a (Expression.computed_member m o y) xs = keyed_alike s next r a m o y xs
callee_of_alike s next r a f xs = tt

pub methods_alike : TheRustReplacesMethodsAlike
unfolding method_rule replace_known_global_methods decided
methods_alike s next r a (Expression.call l f xs) = callee_of_alike s next r a f xs
methods_alike s next r a x = tt
