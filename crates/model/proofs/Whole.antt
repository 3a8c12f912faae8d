-- The whole session, computed.
use Rattle.std.proofs.Common.{◌≡◌, ℕ, zero, suc, ◌≤◌, false, List, [], ◌∷◌, Some, None, Ok, refl, rules, arith}
use Rattle.std.proofs.Math.Utf8.{encode}
use Rattle.std.specs.Prelude.{codes}
use Rattle.text.specs.Utf16.{Text}
use Rattle.tree.specs.declared.role.Sort.TheVariants.{IsExpression}
use Rattle.tree.specs.Tree.{Tree, Distinct, uses, own_of, at_place}
use Rattle.tree.specs.Lawful.{sort_of}
use Rattle.tree.proofs.Counting.{same_other}
use Rattle.meaning.specs.Expression.{Expression, Quasi}
use Rattle.meaning.specs.Trees.{tree_of, quasi_tree}
use Rattle.meaning.specs.Methods.{concat_name, pow_name, of_name, math_name, array_name}
use Rattle.host.specs.Truth.{Truthful}
use Rattle.host.specs.QuietWorld.{quiet}
use Rattle.host.proofs.Shaped.{structural_true}
use Rattle.host.proofs.Example.{met}
use Rattle.rules.specs.Building.{append_arguments, text_of, new_quasi, add_piece, pieces_of, quasi_count, template_of, flat}
use Rattle.rules.specs.Interleaves.{argument_count, one_if_text, one_unless_text, string_count, expression_count, settled}
use Rattle.rules.specs.Interleaving.{no_spread, none_left, all_quiet, interleaving, short}
use Rattle.rules.specs.Deciding.{decided, outermost, when, unless_effects}
use Rattle.rules.specs.Property.{at_key, property_read, property_rule}
use Rattle.rules.specs.Method.{keyed, callee_of, string_concat, method_of_object, method_called, method_rule}
use Rattle.rules.specs.Chain.{longer, called_on, chain_of, chained, chain_rule}
use Rattle.rules.specs.Space.{bytes_of, new_nodes, new_bytes, piece_count, new_entries}
use Rattle.rules.specs.Lawful.{LawfulExpression}
use Rattle.rules.proofs.Payoffs.{lawful_payoff}
use Rattle.model.specs.Model.{Model, At, Opened, moved}
use Rattle.model.specs.Tries.{Rule, Try, Tries, decision}
use Rattle.model.specs.Sweeps.{TriesEach, each_rule, Visits, VisitsBelow, Rounds, Sweeps}
use Rattle.model.specs.Example.{p, member, text_of_p, template_of_p, given, before, after, structural, swept, AWholeSession}
use Rattle.model.proofs.Silencing.{sweeps_true}

-- ---- it is opened

numbered : (n : ℕ) → 4 ≤ n → uses n (tree_of text_of_p) ≡ 0
numbered n le = omega (arith, same_other n 0 (λ e. omega arith), same_other n 1 (λ e. omega arith), same_other n 2 (λ e. omega arith), same_other n 3 (λ e. omega arith))

distinct : Distinct (tree_of text_of_p)
distinct zero = omega arith
distinct (suc zero) = omega arith
distinct (suc (suc zero)) = omega arith
distinct (suc (suc (suc zero))) = omega arith
distinct (suc (suc (suc (suc n)))) = omega (arith, numbered (suc (suc (suc (suc n)))) (omega arith))

name_is_text : Text (codes "concat")
name_is_text = search rules

lawful : LawfulExpression text_of_p
lawful = ((tt, name_is_text), ((tt, tt), tt))

open_it : Opened (tree_of text_of_p) before
open_it = record {
  whole = refl;
  at_root = refl;
  none_made = refl;
  sound = record { payoff = lawful_payoff text_of_p lawful; distinct = distinct; numbered = numbered };
}

-- ---- at each place, three tries

abbrev AllTried : (l m : Model) → Type 0
AllTried l m = (ts : List Try) × TriesEach given structural (each_rule given structural) l (Ok tt) m ts

-- All rules keep an expression, and what is none.
kept : (m : Model) (x : Expression) → At m x → ((k : Rule) → decided structural (decision given structural k m x) ≡ None) → AllTried m m
kept m x at h = (_, TriesEach.tried (Tries.keeps x at (h Rule.chain)) (TriesEach.tried (Tries.keeps x at (h Rule.method)) (TriesEach.tried (Tries.keeps x at (h Rule.property)) TriesEach.none)))

passed : (m : Model) (s : Tree) → at_place m.whole m.place ≡ Some s → (sort_of (own_of s) ≡ IsExpression → ⊥) → AllTried m m
passed m s at n = (_, TriesEach.tried (Tries.at_no_expression s at n) (TriesEach.tried (Tries.at_no_expression s at n) (TriesEach.tried (Tries.at_no_expression s at n) TriesEach.none)))

string_kept : AllTried (moved before (0 ∷ 0 ∷ [])) (moved before (0 ∷ 0 ∷ []))
unfolding encode concat_name pow_name of_name math_name array_name append_arguments flat text_of new_quasi add_piece pieces_of quasi_count template_of argument_count one_if_text one_unless_text string_count expression_count settled no_spread none_left all_quiet interleaving short decided outermost when unless_effects property_read property_rule at_key keyed callee_of string_concat method_of_object method_called method_rule longer called_on chain_of chained chain_rule
string_kept = kept (moved before (0 ∷ 0 ∷ [])) (Expression.string 0 []) (tt, refl) (elim [ Rule.chain ↦ refl | Rule.method ↦ refl | Rule.property ↦ refl ])

member_kept : AllTried (moved before (0 ∷ [])) (moved before (0 ∷ []))
unfolding encode concat_name pow_name of_name math_name array_name append_arguments flat text_of new_quasi add_piece pieces_of quasi_count template_of argument_count one_if_text one_unless_text string_count expression_count settled no_spread none_left all_quiet interleaving short decided outermost when unless_effects property_read property_rule at_key keyed callee_of string_concat method_of_object method_called method_rule longer called_on chain_of chained chain_rule
member_kept = kept (moved before (0 ∷ [])) member ((tt, name_is_text), refl) (elim [ Rule.chain ↦ refl | Rule.method ↦ refl | Rule.property ↦ refl ])

p_kept : AllTried (moved before (1 ∷ [])) (moved before (1 ∷ []))
unfolding encode concat_name pow_name of_name math_name array_name append_arguments flat text_of new_quasi add_piece pieces_of quasi_count template_of argument_count one_if_text one_unless_text string_count expression_count settled no_spread none_left all_quiet interleaving short decided outermost when unless_effects property_read property_rule at_key keyed callee_of string_concat method_of_object method_called method_rule longer called_on chain_of chained chain_rule
p_kept = kept (moved before (1 ∷ [])) p (tt, refl) (elim [ Rule.chain ↦ refl | Rule.method ↦ refl | Rule.property ↦ refl ])

made : AllTried before after
unfolding bytes_of new_nodes new_bytes piece_count new_entries encode concat_name pow_name of_name math_name array_name append_arguments flat text_of new_quasi add_piece pieces_of quasi_count template_of argument_count one_if_text one_unless_text string_count expression_count settled no_spread none_left all_quiet interleaving short decided outermost when unless_effects property_read property_rule at_key keyed callee_of string_concat method_of_object method_called method_rule longer called_on chain_of chained chain_rule
made = (
  _,
  TriesEach.tried (Tries.keeps text_of_p (((tt, name_is_text), (tt, tt)), refl) refl)
      (TriesEach.tried (Tries.rewrites text_of_p template_of_p (((tt, name_is_text), (tt, tt)), refl) refl ((omega arith, omega arith), ((omega arith, omega arith), ((omega arith, omega arith), tt))))
      (TriesEach.tried (Tries.keeps template_of_p ((tt, tt, tt), refl) refl) TriesEach.none)),
)

quasi_passed : (i l : ℕ) → at_place after.whole (i ∷ []) ≡ Some (quasi_tree (Quasi.quasi l [] [])) → AllTried (moved after (i ∷ [])) (moved after (i ∷ []))
quasi_passed i l at = passed (moved after (i ∷ [])) (quasi_tree (Quasi.quasi l [] [])) at (λ e. let z : ◌≡◌ {A = ℕ} 0 1 = cc in omega arith)

p_kept_again : AllTried (moved after (1 ∷ [])) (moved after (1 ∷ []))
unfolding encode concat_name pow_name of_name math_name array_name append_arguments flat text_of new_quasi add_piece pieces_of quasi_count template_of argument_count one_if_text one_unless_text string_count expression_count settled no_spread none_left all_quiet interleaving short decided outermost when unless_effects property_read property_rule at_key keyed callee_of string_concat method_of_object method_called method_rule longer called_on chain_of chained chain_rule
p_kept_again = kept (moved after (1 ∷ [])) p (tt, refl) (elim [ Rule.chain ↦ refl | Rule.method ↦ refl | Rule.property ↦ refl ])

template_kept : AllTried after after
unfolding encode concat_name pow_name of_name math_name array_name append_arguments flat text_of new_quasi add_piece pieces_of quasi_count template_of argument_count one_if_text one_unless_text string_count expression_count settled no_spread none_left all_quiet interleaving short decided outermost when unless_effects property_read property_rule at_key keyed callee_of string_concat method_of_object method_called method_rule longer called_on chain_of chained chain_rule
template_kept = kept after template_of_p ((tt, tt, tt), refl) (elim [ Rule.chain ↦ refl | Rule.method ↦ refl | Rule.property ↦ refl ])

-- ---- two rounds

abbrev Visited : ℕ → (l m : Model) → Type 0
Visited d l m = (ts : List Try) × Visits given structural d l (Ok false) m ts

string_visited : (d : ℕ) → Visited d (moved before (0 ∷ 0 ∷ [])) (moved before (0 ∷ 0 ∷ []))
string_visited d = (_, Visits.visited {t = tree_of (Expression.string 0 [])} refl VisitsBelow.none string_kept.1)

member_visited : (d : ℕ) → Visited (suc d) (moved before (0 ∷ [])) (moved before (0 ∷ []))
member_visited d = (_, Visits.visited {t = tree_of member} refl (VisitsBelow.child (string_visited d).1 VisitsBelow.none) member_kept.1)

p_visited : (d : ℕ) → Visited d (moved before (1 ∷ [])) (moved before (1 ∷ []))
p_visited d = (_, Visits.visited {t = tree_of p} refl VisitsBelow.none p_kept.1)

first_round : (d : ℕ) → Visited (suc (suc d)) before after
first_round d = (_, Visits.visited {t = tree_of text_of_p} refl (VisitsBelow.child (member_visited d).1 (VisitsBelow.child (p_visited (suc d)).1 VisitsBelow.none)) made.1)

quasi_visited : (d i l : ℕ) → at_place after.whole (i ∷ []) ≡ Some (quasi_tree (Quasi.quasi l [] [])) → Visited d (moved after (i ∷ [])) (moved after (i ∷ []))
quasi_visited d i l at = (_, Visits.visited {t = quasi_tree (Quasi.quasi l [] [])} at VisitsBelow.none (quasi_passed i l at).1)

p_visited_again : (d : ℕ) → Visited d (moved after (1 ∷ [])) (moved after (1 ∷ []))
p_visited_again d = (_, Visits.visited {t = tree_of p} refl VisitsBelow.none p_kept_again.1)

second_round : (d : ℕ) → Visited (suc d) after after
second_round d = (
  _,
  Visits.visited {t = tree_of template_of_p} refl
      (VisitsBelow.child (quasi_visited d 0 4 refl).1 (VisitsBelow.child (p_visited_again d).1 (VisitsBelow.child (quasi_visited d 2 5 refl).1 VisitsBelow.none)))
      template_kept.1,
)

sweep : (ts : List Try) × Sweeps given structural before (Ok swept) after ts
sweep = (_, Sweeps.sweeps (Rounds.more (first_round 254).1 (λ e. omega arith) (Rounds.last (second_round 255).1 refl)) refl)

honest : Truthful quiet structural
honest = structural_true quiet [] met.complete_in_quiet

pub whole_session : AWholeSession
whole_session = record {
  tried = sweep.0;
  opened = open_it;
  sweeps = sweep.1;
  premises = met.premises_in_quiet;
  each_true = sweeps_true quiet honest sweep.1;
}
