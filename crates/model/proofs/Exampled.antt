-- The example of a session with a table.
use Rattle.std.proofs.Common.{◌≡◌, ℕ, zero, suc, ◌<◌, ◌≤◌, [], ◌∷◌, Some, Ok, inl, inr, sym, refl, ap, ◌∙◌, subst, arith}
use Rattle.std.proofs.lemmas.Bool.{cases_lt}
use Rattle.tree.specs.declared.role.Sort.TheVariants.{IsExpression, IsHole, IsSpread, IsQuasi}
use Rattle.tree.specs.Tree.{label, own_of, uses, Distinct}
use Rattle.tree.specs.Lawful.{sort_of}
use Rattle.tree.proofs.Counting.{same_other}
use Rattle.meaning.specs.Expression.{Expression, Quasi}
use Rattle.meaning.specs.Number.{whole, whole_of_fields, exponent_field, fraction_field}
use Rattle.meaning.specs.Trees.{tree_of}
use Rattle.meaning.specs.Parts.{Part, part_tree}
use Rattle.meaning.specs.Laws.{one_bits}
use Rattle.meaning.specs.Acts.{Returns, Watched, Still}
use Rattle.meaning.specs.Runs.{mean}
use Rattle.host.specs.declared.row.Row.{Row}
use Rattle.host.specs.declared.value_type.ValueType.TheVariants.{Number}
use Rattle.host.specs.Truth.{HasType}
use Rattle.host.specs.Silent.{silent_answers}
use Rattle.host.specs.Table.{row_at}
use Rattle.host.specs.QuietWorld.{quiet}
use Rattle.host.specs.Laws.{TrueRow, HasEntry, math_name, a_text, math_and_text}
use Rattle.host.proofs.Example.{met}
use Rattle.host.proofs.Knowing.{any_part, false_true}
use Rattle.rules.specs.Deciding.{decided, when, unless_effects}
use Rattle.rules.specs.Property.{unit_or_void, element_at, without_effects, at_index, at_whole, at_key, property_read, property_rule}
use Rattle.rules.specs.Space.{new_nodes, new_bytes, new_entries}
use Rattle.rules.specs.Lawful.{LawfulExpression}
use Rattle.rules.proofs.Absurd.{none_some}
use Rattle.rules.proofs.Payoffs.{sort_is, lawful_payoff}
use Rattle.model.specs.declared.answer.Outcome.TheVariants.{Kept, Rewritten}
use Rattle.model.specs.Model.{Model, At, Opened}
use Rattle.model.specs.Tries.{Rule, Tries, tried, need, rewritten}
use Rattle.model.specs.Calls.{Makes, MakesAll}
use Rattle.model.specs.Hosts.{SpelledPart, TrueFrom, EntriesAreTrue}
use Rattle.model.specs.HostExamples.{second_read, five_rows, by_table, at_first, all_given, TrueHostsCanBeHad}
use Rattle.model.proofs.Lawful.{stored_alike, lawful_spelled}

-- ---- the payoff

name_lawful : LawfulExpression math_name
name_lawful = (omega arith, (omega arith, (omega arith, (omega arith, tt))))

text_lawful : LawfulExpression a_text
text_lawful = (omega arith, tt)

array_lawful : LawfulExpression math_and_text
array_lawful = (name_lawful, (text_lawful, tt))

one_lawful : LawfulExpression (Expression.number 3 one_bits)
one_lawful = (omega arith, λ e. omega arith)

all_lawful : LawfulExpression second_read
all_lawful = (array_lawful, one_lawful)

high : (n : ℕ) → 5 ≤ n → uses n (tree_of second_read) ≡ 0
high n h =
    omega (
      arith,
      same_other n 0 (λ e. omega arith),
      same_other n 1 (λ e. omega arith),
      same_other n 2 (λ e. omega arith),
      same_other n 3 (λ e. omega arith),
      same_other n 4 (λ e. omega arith),
    )

low : (n : ℕ) → n < 5 → uses n (tree_of second_read) ≤ 1
low zero h = omega arith
low (suc zero) h = omega arith
low (suc (suc zero)) h = omega arith
low (suc (suc (suc zero))) h = omega arith
low (suc (suc (suc (suc zero)))) h = omega arith
low (suc (suc (suc (suc (suc n))))) h = absurd (omega arith)

once : Distinct (tree_of second_read)
once n = elim (cases_lt n 5) [ inl i ↦ low n i | inr i ↦ omega (arith, high n i) ]

is_opened : Opened (tree_of second_read) at_first
is_opened = record { whole = refl; at_root = refl; none_made = refl; sound = record { payoff = lawful_payoff second_read all_lawful; distinct = once; numbered = high } }

-- ---- the entries

-- One part alone is stored as an expression's tree.
one_part : (x : Expression) → LawfulExpression x → (p : Part) → SpelledPart p → Some (tree_of x) ≡ Some (part_tree p) → Part.expression x ≡ p
one_part x h (Part.expression y) s e =
    let f : tree_of x ≡ tree_of y = cc in
    ap Part.expression (stored_alike (tree_of x) x y (lawful_payoff x h) (lawful_spelled x h, refl) (s, sym f))
one_part x h (Part.hole l) s e =
    let f : tree_of x ≡ part_tree (Part.hole l) = cc in
    let g : IsExpression ≡ IsHole = sym (sort_is x) ∙ ap (λ z. sort_of (own_of z)) f in
    let z : ◌≡◌ {A = ℕ} 0 1 = cc in
    absurd (omega arith)
one_part x h (Part.spread l y) s e =
    let f : tree_of x ≡ part_tree (Part.spread l y) = cc in
    let g : IsExpression ≡ IsSpread = sym (sort_is x) ∙ ap (λ z. sort_of (own_of z)) f in
    let z : ◌≡◌ {A = ℕ} 0 1 = cc in
    absurd (omega arith)
one_part x h (Part.quasi (Quasi.quasi l raw u)) s e =
    let f : tree_of x ≡ part_tree (Part.quasi (Quasi.quasi l raw u)) = cc in
    let g : IsExpression ≡ IsQuasi = sym (sort_is x) ∙ ap (λ z. sort_of (own_of z)) f in
    let z : ◌≡◌ {A = ℕ} 0 1 = cc in
    absurd (omega arith)

abbrev EntryTrue : Part → Type 0
EntryTrue p = (r : Row) → HasEntry five_rows 5 (label (part_tree p)) r → TrueRow quiet r p

-- The entry is this row.
by_row : (x : Expression) (row r : Row) → Some row ≡ Some r → TrueRow quiet row (Part.expression x) → TrueRow quiet r (Part.expression x)
by_row x row r e h = let f : row ≡ r = cc in subst (λ z. TrueRow quiet z (Part.expression x)) f h

number_row : TrueRow quiet (row_at five_rows 3) (Part.expression (Expression.number 3 one_bits))
unfolding mean
number_row = record { effects = λ e s. (_, Watched.calmly Returns.returns Still.still); value_type = typed; global = λ e. false_true e }
  where
    typed : HasType quiet Number (Part.expression (Expression.number 3 one_bits))
    typed s v t (Watched.freely Returns.returns) = (_, refl)

whole_row : TrueRow quiet (row_at five_rows 4) (Part.expression second_read)
whole_row = record { effects = λ e. false_true (sym e); value_type = any_part quiet (Part.expression second_read); global = λ e. false_true e }

placed_entry : (x : Expression) → LawfulExpression x → EntryTrue (Part.expression x) → (p : Part) → SpelledPart p → Some (tree_of x) ≡ Some (part_tree p) → EntryTrue p
placed_entry x h entry p s e = subst EntryTrue (one_part x h p s e) entry

entries : EntriesAreTrue quiet (tree_of second_read) five_rows 5
entries p (s, [], e) = placed_entry second_read all_lawful (λ r i. by_row second_read (row_at five_rows 4) r i.1 whole_row) p s e
entries p (s, (zero ∷ []), e) = placed_entry math_and_text array_lawful (λ r i. by_row math_and_text (row_at five_rows 2) r i.1 met.true_of_array) p s e
entries p (s, (zero ∷ (zero ∷ [])), e) = placed_entry math_name name_lawful (λ r i. by_row math_name (row_at five_rows 0) r i.1 met.true_of_name) p s e
entries p (s, (zero ∷ (zero ∷ (i ∷ q))), e) = none_some e
entries p (s, (zero ∷ (suc zero ∷ [])), e) = placed_entry a_text text_lawful (λ r i. by_row a_text (row_at five_rows 1) r i.1 met.true_of_text) p s e
entries p (s, (zero ∷ (suc zero ∷ (i ∷ q))), e) = none_some e
entries p (s, (zero ∷ (suc (suc i) ∷ q)), e) = none_some e
entries p (s, (suc zero ∷ []), e) = placed_entry (Expression.number 3 one_bits) one_lawful (λ r i. by_row (Expression.number 3 one_bits) (row_at five_rows 3) r i.1 number_row) p s e
entries p (s, (suc zero ∷ (i ∷ q)), e) = none_some e
entries p (s, (suc (suc i) ∷ q), e) = none_some e

-- ---- the calls

here : At at_first second_read
here = (lawful_spelled second_read all_lawful, refl)

silence_keeps : Tries all_given silent_answers Rule.property at_first (Ok Kept) at_first (tried all_given silent_answers Rule.property at_first second_read 4 ∷ [])
unfolding whole whole_of_fields exponent_field fraction_field decided when unless_effects unit_or_void element_at without_effects at_index at_whole at_key property_read property_rule
silence_keeps = Tries.keeps second_read here refl

abbrev at_last : Model
at_last = rewritten at_first a_text (need all_given by_table Rule.property at_first second_read a_text)

table_rewrites : Tries all_given by_table Rule.property at_first (Ok Rewritten) at_last (tried all_given by_table Rule.property at_first second_read 1 ∷ [])
unfolding whole whole_of_fields exponent_field fraction_field decided when unless_effects unit_or_void element_at without_effects at_index at_whole at_key property_read property_rule new_nodes new_bytes new_entries
table_rewrites = Tries.rewrites second_read a_text here refl (((omega arith), (omega arith)), (((omega arith), (omega arith)), (((omega arith), (omega arith)), tt)))

pub had : TrueHostsCanBeHad
had = record {
  premises = met.premises_in_quiet;
  opened = is_opened;
  true_hosts = (TrueFrom.silent, (TrueFrom.table five_rows entries, tt));
  makes = (at_last, _, MakesAll.then (Makes.tries silence_keeps) (MakesAll.then (Makes.tries table_rewrites) MakesAll.none), refl);
}
