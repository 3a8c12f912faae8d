-- Interleaving, counting and building a template, as the Rust does it.
use Rattle.std.proofs.Common.{◌≡◌, ℕ, suc, ◌+◌, ◌-◌, ◌*◌, Bool, true, false, cond, List, [], ◌∷◌, ◌++◌, length, Some, None, Option, nat_le, refl, sym, ap, ◌∙◌, arith}
use Rattle.template.specs.Escaped.{raw_of}
use Rattle.host.specs.declared.value_type.ValueType.{ValueType}
use Rattle.host.specs.declared.value_type.ValueType.TheVariants.{Undetermined, Undefined, Null, Number, BigInt, String, Boolean, Object}
use Rattle.host.specs.Answers.{Answers}
use Rattle.meaning.specs.Expression.{Expression, Arguments, Pieces, Quasi, Units}
use Rattle.meaning.specs.Parts.{Part}
use Rattle.meaning.specs.Numbering.{renumbered, renumbered_pieces}
use Rattle.rules.specs.Deciding.{Deciding, decided, unless_effects}
use Rattle.rules.specs.Interleaves.{settled, argument_count, string_count, expression_count, one_if_text, one_unless_text}
use Rattle.rules.specs.Building.{text_of, new_quasi, add_piece, pieces_of, template_of, joined}
use Rattle.rules.specs.Interleaving.{none_left, all_quiet, interleaving, short}
use Rattle.oxc.specs.Folding.{template_element, iter, object_or_undetermined, interleave_from, string_concat_can_interleave, string_concat_prefers_template, not_a_string, Folded, folded_one, folded, in_turn, assembled, fold_string_concat, expression_count as counted}
use Rattle.oxc.specs.Laws.{SameButNumbers}

pub counts_arguments : (xs : Arguments) → length (iter xs) ≡ argument_count xs
unfolding iter argument_count
counts_arguments Arguments.no_arguments = refl
counts_arguments (Arguments.argument x xs) = ap suc (counts_arguments xs)
counts_arguments (Arguments.spread_argument l x xs) = ap suc (counts_arguments xs)

not_text : (x : Expression) → not_a_string (Part.expression x) ≡ one_unless_text (text_of x)
unfolding not_a_string one_unless_text text_of
not_text (Expression.string l u) = refl
not_text x = refl

counts_expressions : (xs : Arguments) → counted (iter xs) ≡ expression_count xs
unfolding iter counted expression_count not_a_string
counts_expressions Arguments.no_arguments = refl
counts_expressions (Arguments.argument x xs) = ap (λ n. n + counted (iter xs)) (not_text x) ∙ ap (λ n. one_unless_text (text_of x) + n) (counts_expressions xs)
counts_expressions (Arguments.spread_argument l x xs) = omega (arith, counts_expressions xs)

one_each : (o : Option Units) → one_if_text o + one_unless_text o ≡ 1
unfolding one_if_text one_unless_text
one_each (Some u) = refl
one_each None = refl

splits : (xs : Arguments) → argument_count xs ≡ string_count xs + expression_count xs
unfolding argument_count string_count expression_count
splits Arguments.no_arguments = refl
splits (Arguments.argument x xs) = omega (arith, splits xs, one_each (text_of x))
splits (Arguments.spread_argument l x xs) = omega (arith, splits xs)

-- Both formulas say when a template is not longer.
pub short_alike : (c : ℕ) (xs : Arguments) → short c xs ≡ string_concat_prefers_template (length (iter xs)) (counted (iter xs)) c
unfolding short string_concat_prefers_template
short_alike c xs =
    let a = counts_arguments xs in
    let e = counts_expressions xs in
    let left : 3 * expression_count xs ≡ counted (iter xs) * 3 = omega (arith, e) in
    let right : 9 * c + argument_count xs + 2 * string_count xs ≡ c * 9 + length (iter xs) + (length (iter xs) - counted (iter xs)) * 2 = omega (arith, a, e, splits xs) in
    ap (λ m. nat_le m (9 * c + argument_count xs + 2 * string_count xs)) left ∙ ap (λ n. nat_le (counted (iter xs) * 3) n) right

-- Both loops say when arguments interleave.
module _ (a : Answers) (d e : Deciding) where
  quiet_by : (b : Bool) (ps : List Part) (m : Deciding) → decided a m ≡ cond (interleave_from a true ps) (decided a d) (decided a e)
      → decided a (unless_effects b m e) ≡ cond (cond b false (interleave_from a true ps)) (decided a d) (decided a e)
  unfolding unless_effects
  quiet_by true ps m h = refl
  quiet_by false ps m h = h

  quiet : (xs : Arguments) → decided a (all_quiet xs d e) ≡ cond (interleave_from a true (iter xs)) (decided a d) (decided a e)
  unfolding all_quiet decided interleave_from iter
  quiet Arguments.no_arguments = refl
  quiet (Arguments.argument x xs) = quiet_by (a.effects (Part.expression x)) (iter xs) (all_quiet xs d e) (quiet xs)
  quiet (Arguments.spread_argument l x xs) = refl

  typed : (t : ValueType) (ps : List Part) (m n : Deciding)
      → decided a m ≡ cond (interleave_from a false ps) (decided a d) (decided a e) → decided a n ≡ cond (interleave_from a true ps) (decided a d) (decided a e)
      → decided a (cond (settled t) m n) ≡ cond (interleave_from a (object_or_undetermined t) ps) (decided a d) (decided a e)
  unfolding settled object_or_undetermined
  typed Undetermined ps m n h k = k
  typed Undefined ps m n h k = h
  typed Null ps m n h k = h
  typed Number ps m n h k = h
  typed BigInt ps m n h k = h
  typed String ps m n h k = h
  typed Boolean ps m n h k = h
  typed Object ps m n h k = k

  pub interleaving_alike : (xs : Arguments) → decided a (interleaving xs d e) ≡ cond (string_concat_can_interleave a (iter xs)) (decided a d) (decided a e)
  unfolding interleaving decided interleave_from iter none_left
  interleaving_alike Arguments.no_arguments = refl
  interleaving_alike (Arguments.argument x Arguments.no_arguments) = refl
  interleaving_alike (Arguments.argument x (Arguments.argument y xs)) =
      typed (a.value_type (Part.expression x)) (iter (Arguments.argument y xs)) (interleaving (Arguments.argument y xs) d e) (all_quiet (Arguments.argument y xs) d e)
      (interleaving_alike (Arguments.argument y xs)) (quiet (Arguments.argument y xs))
  interleaving_alike (Arguments.argument x (Arguments.spread_argument l y xs)) =
      typed (a.value_type (Part.expression x)) (iter (Arguments.spread_argument l y xs)) (interleaving (Arguments.spread_argument l y xs) d e) (all_quiet (Arguments.spread_argument l y xs) d e)
      (interleaving_alike (Arguments.spread_argument l y xs)) (quiet (Arguments.spread_argument l y xs))
  interleaving_alike (Arguments.spread_argument l x xs) = refl

-- Both build the same template.
abbrev bare : Pieces → Pieces
bare ps = renumbered_pieces (λ n. 0) ps

prepended : List Units → List Expression → Pieces → Pieces
prepended (q ∷ qs) (x ∷ xs) ps = Pieces.piece (template_element q) x (prepended qs xs ps)
prepended qs xs ps = ps

turned : (qs : List Units) (es : List Expression) (c : Units) → length qs ≡ length es → in_turn qs es c ≡ prepended qs es (Pieces.last (template_element c))
unfolding in_turn prepended
turned [] [] c e = refl
turned [] (x ∷ es) c e = absurd (omega (arith, e))
turned (q ∷ qs) [] c e = absurd (omega (arith, e))
turned (q ∷ qs) (x ∷ es) c e = ap (λ z. Pieces.piece (template_element q) x z) (turned qs es c (omega (arith, e)))

added : (qs : List Units) (es : List Expression) (c : Units) (x : Expression) (ps : Pieces) → length qs ≡ length es
    → prepended (qs ++ c ∷ []) (es ++ x ∷ []) ps ≡ prepended qs es (Pieces.piece (template_element c) x ps)
unfolding prepended
added [] [] c x ps e = refl
added [] (y ∷ es) c x ps e = absurd (omega (arith, e))
added (q ∷ qs) [] c x ps e = absurd (omega (arith, e))
added (q ∷ qs) (y ∷ es) c x ps e = ap (λ z. Pieces.piece (template_element q) y z) (added qs es c x ps (omega (arith, e)))

bare_behind : (qs : List Units) (es : List Expression) (ps ps2 : Pieces) → bare ps ≡ bare ps2 → bare (prepended qs es ps) ≡ bare (prepended qs es ps2)
unfolding prepended
bare_behind [] es ps ps2 e = e
bare_behind (q ∷ qs) [] ps ps2 e = e
bare_behind (q ∷ qs) (x ∷ es) ps ps2 e = ap (λ z. Pieces.piece (Quasi.quasi 0 (raw_of q) q) (renumbered (λ n. 0) x) z) (bare_behind qs es ps ps2 e)

one_longer : {A : Type 0} (xs : List A) (x : A) → length (xs ++ x ∷ []) ≡ suc (length xs)
one_longer [] x = refl
one_longer (y ∷ xs) x = ap suc (one_longer xs x)

abbrev state : List Units → List Expression → Units → Folded
state qs es c = record { quasis = qs; expressions = es; cooked = c }

abbrev turned_of : Folded → Pieces
turned_of f = in_turn f.quasis f.expressions f.cooked

-- What the loop makes of arguments, behind what it has, and that it keeps its lists equally long.
pieces_alike : (qs : List Units) (es : List Expression) (c : Units) (n : ℕ) (xs : Arguments) → length qs ≡ length es
    → (bare (turned_of (folded (state qs es c) (iter xs))) ≡ bare (prepended qs es (pieces_of n c xs)))
    × (length (folded (state qs es c) (iter xs)).quasis ≡ length (folded (state qs es c) (iter xs)).expressions)
unfolding folded folded_one iter pieces_of add_piece text_of new_quasi
pieces_alike qs es c n Arguments.no_arguments e =
    (ap bare (turned qs es c e) ∙ bare_behind qs es (Pieces.last (template_element c)) (Pieces.last (new_quasi n c)) refl, e)
pieces_alike qs es c n (Arguments.spread_argument l x xs) e = pieces_alike qs es c n xs e
pieces_alike qs es c n (Arguments.argument (Expression.string l v) xs) e = pieces_alike qs es (c ++ v) n xs e
pieces_alike qs es c n (Arguments.argument x xs) e =
    let longer : length (qs ++ c ∷ []) ≡ length (es ++ x ∷ []) = one_longer qs c ∙ ap suc e ∙ sym (one_longer es x) in
    let r = pieces_alike (qs ++ c ∷ []) (es ++ x ∷ []) [] (suc n) xs longer in
    let rest = pieces_of (suc n) [] xs in (
      r.0 ∙ ap bare (added qs es c x rest e) ∙ bare_behind qs es (Pieces.piece (template_element c) x rest) (Pieces.piece (new_quasi n c) x rest) refl,
      r.1,
    )

-- A template of pieces with no numbers.
template_bare : Pieces → Expression
template_bare (Pieces.last (Quasi.quasi l raw u)) = Expression.string 0 u
template_bare (Pieces.piece q x ps) = Expression.template 0 (Pieces.piece q x ps)

of_pieces : (n : ℕ) (ps : Pieces) → renumbered (λ n. 0) (template_of n ps) ≡ template_bare (bare ps)
unfolding template_of template_bare
of_pieces n (Pieces.last (Quasi.quasi l raw u)) = refl
of_pieces n (Pieces.piece q x ps) = refl

of_turned : (qs : List Units) (es : List Expression) (c : Units) → length qs ≡ length es → renumbered (λ n. 0) (assembled qs es c) ≡ template_bare (bare (in_turn qs es c))
unfolding assembled in_turn template_bare
of_turned [] [] c e = refl
of_turned [] (x ∷ es) c e = absurd (omega (arith, e))
of_turned (q ∷ qs) [] c e = absurd (omega (arith, e))
of_turned (q ∷ qs) (x ∷ es) c e = refl

pub template_alike : (next : ℕ) (u : Units) (xs : Arguments) → SameButNumbers (joined next u xs) (fold_string_concat u (iter xs))
unfolding prepended
template_alike next u xs =
    let r = pieces_alike [] [] u next xs refl in
    let f = folded (state [] [] u) (iter xs) in
    of_pieces next (pieces_of next u xs) ∙ ap template_bare (sym r.0) ∙ sym (of_turned f.quasis f.expressions f.cooked r.1)
