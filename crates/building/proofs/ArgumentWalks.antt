-- The arguments of a call are added one by one, and the calls of a chain.
use Rattle.std.proofs.Common.{◌≡◌, ℕ, zero, suc, ◌+◌, ◌<◌, ◌≤◌, List, [], ◌∷◌, length, get_or, Some, None, Ok, Err, Option, sym, refl, ap, ◌∙◌, subst, arith}
use Rattle.std.specs.List.{slice_get}
use Rattle.std.proofs.lemmas.Bool.{leb-true}
use Rattle.std.proofs.lemmas.Option.{slice_get-get_or}
use Rattle.base.specs.declared.fault.Fault.{Fault}
use Rattle.tree.specs.declared.run.Run.{Run}
use Rattle.tree.specs.Heap.{Held, entries_at}
use Rattle.tree.proofs.Cuts.{nth_append_left, length_cut, getD_cut}
use Rattle.store.specs.declared.stores.Stores.{Stores}
use Rattle.store.specs.Held.{held}
use Rattle.store.specs.Stores.{held_of}
use Rattle.meaning.specs.Expression.{Arguments, Pieces}
use Rattle.rules.specs.Building.{append_arguments}
use Rattle.deciding.specs.Standing.{AllStand, argument_parts, ListsArguments}
use Rattle.deciding.proofs.Walks.{arguments_from, at_end}
use Rattle.building.specs.Growing.{HasRoom}
use Rattle.building.specs.Templates.{Growth, need, Adds}
use Rattle.building.specs.declared.template_builder.TemplateBuilder.{TemplateBuilder}

-- ---- the arguments of one call

append_twice : (xs ys zs : Arguments) → append_arguments (append_arguments xs ys) zs ≡ append_arguments xs (append_arguments ys zs)
unfolding append_arguments
append_twice Arguments.no_arguments ys zs = refl
append_twice (Arguments.argument x xs) ys zs = ap (Arguments.argument x) (append_twice xs ys zs)
append_twice (Arguments.spread_argument l x xs) ys zs = ap (Arguments.spread_argument l x) (append_twice xs ys zs)

append_none : (xs : Arguments) → append_arguments Arguments.no_arguments xs ≡ xs
unfolding append_arguments
append_none xs = refl

record OneAt (h : Held) (n k : ℕ) (xs : Arguments) : Type 0 where
  one : Arguments
  is : arguments_from k xs ≡ append_arguments one (arguments_from (suc k) xs)
  stands : AllStand h (n ∷ []) (argument_parts one)

one_at : (h : Held) (ns : List ℕ) (k : ℕ) (xs : Arguments) → AllStand h ns (argument_parts xs) → k < length ns → OneAt h (get_or ns k 0) k xs
unfolding argument_parts arguments_from append_arguments
one_at h [] k xs s lt = absurd (omega arith)
one_at h (n ∷ ns) k Arguments.no_arguments s lt = absurd s
one_at h (n ∷ ns) zero (Arguments.argument x xs) s lt = record { one = Arguments.argument x Arguments.no_arguments; is = refl; stands = (s.0, tt) }
one_at h (n ∷ ns) zero (Arguments.spread_argument l x xs) s lt = record { one = Arguments.spread_argument l x Arguments.no_arguments; is = refl; stands = (s.0, tt) }
one_at h (n ∷ ns) (suc k) (Arguments.argument x xs) s lt = let w = one_at h ns k xs s.1 (omega arith) in record { one = w.one; is = w.is; stands = w.stands }
one_at h (n ∷ ns) (suc k) (Arguments.spread_argument l x xs) s lt = let w = one_at h ns k xs s.1 (omega arith) in record { one = w.one; is = w.is; stands = w.stands }

-- The first i arguments have been added.
abbrev pub Walked : (run : Run ℕ) (b : TemplateBuilder) (s : Stores) (i : ℕ) (c : TemplateBuilder) (t : Stores) → Type 0
Walked run b s i c t =
    (old : Stores) (ps : Pieces) (xs rest : Arguments) → HasRoom old (need (length (held old.nodes)) ps) → ListsArguments (held_of old) run xs
    → Growth old ps (append_arguments xs rest) b s → Growth old ps (append_arguments (arguments_from i xs) rest) c t

pub set_out : (run : Run ℕ) (b : TemplateBuilder) (s : Stores) → Walked run b s 0 b s
unfolding arguments_from
set_out run b s old ps xs rest enters lists g = g

module _ (run : Run ℕ) (b : TemplateBuilder) (s : Stores) (i : ℕ) (c : TemplateBuilder) (t : Stores) (w : Walked run b s i c t) where
  pub walked : run.len ≤ i → (old : Stores) (ps : Pieces) (xs rest : Arguments) → HasRoom old (need (length (held old.nodes)) ps) → ListsArguments (held_of old) run xs
      → Growth old ps (append_arguments xs rest) b s → Growth old ps rest c t
  walked le old ps xs rest enters lists g =
      let long = length_cut (held old.entries) run.start run.len (leb-true (run.start + run.len) (length (held old.entries)) lists.0) in
      subst (λ ys. Growth old ps ys c t)
      (ap (λ ys. append_arguments ys rest) (at_end (held_of old) (entries_at (held old.entries) run) i xs lists.1 (omega (arith, le, long))) ∙ append_none rest)
      (w old ps xs rest enters lists g)

  module _ (lt : i < run.len) where
    there : (old : Stores) (ps : Pieces) (xs rest : Arguments) → ListsArguments (held_of old) run xs → Growth old ps rest c t
        → slice_get (held t.entries) (run.start + i) ≡ Some (get_or (entries_at (held old.entries) run) i 0)
    there old ps xs rest lists g =
        let low = leb-true (run.start + run.len) (length (held old.entries)) lists.0 in
        ap (λ l. slice_get l (run.start + i)) g.grew.entries_grow.0
        ∙ nth_append_left (held old.entries) g.more.entries (run.start + i) (get_or (held old.entries) (run.start + i) 0) (slice_get-get_or (held old.entries) (run.start + i) 0 (omega (arith, low, lt)))
        ∙ ap Some (sym (getD_cut (held old.entries) run.start run.len i 0 lt))

    pub not_missing : (o : Option ℕ) → o ≡ slice_get (held t.entries) (run.start + i) → o ≡ None → (old : Stores) (ps : Pieces) (xs rest : Arguments)
        → HasRoom old (need (length (held old.nodes)) ps) → ListsArguments (held_of old) run xs → Growth old ps (append_arguments xs rest) b s → ⊥
    not_missing o e f old ps xs rest enters lists g =
        let a = there old ps xs (append_arguments (arguments_from i xs) rest) lists (w old ps xs rest enters lists g) in
        absurd (cc (a, e, f))

    module _ (n : ℕ) (e : Some n ≡ slice_get (held t.entries) (run.start + i)) where
      here : (old : Stores) (ps : Pieces) (xs rest : Arguments) → HasRoom old (need (length (held old.nodes)) ps) → ListsArguments (held_of old) run xs
          → Growth old ps (append_arguments xs rest) b s → OneAt (held_of old) n i xs
      here old ps xs rest enters lists g =
          let a = there old ps xs (append_arguments (arguments_from i xs) rest) lists (w old ps xs rest enters lists g) in
          let same : n ≡ get_or (entries_at (held old.entries) run) i 0 = cc (a, e) in
          let long = length_cut (held old.entries) run.start run.len (leb-true (run.start + run.len) (length (held old.entries)) lists.0) in
          subst (λ m. OneAt (held_of old) m i xs) (sym same) (one_at (held_of old) (entries_at (held old.entries) run) i xs lists.1 (omega (arith, lt, long)))

      in_front : (old : Stores) (ps : Pieces) (xs rest : Arguments) (enters : HasRoom old (need (length (held old.nodes)) ps)) (lists : ListsArguments (held_of old) run xs)
          (g : Growth old ps (append_arguments xs rest) b s) → Growth old ps (append_arguments (here old ps xs rest enters lists g).one (append_arguments (arguments_from (i + 1) xs) rest)) c t
      in_front old ps xs rest enters lists g =
          let o = here old ps xs rest enters lists g in
          let next : suc i ≡ i + 1 = omega arith in
          subst (λ ys. Growth old ps ys c t)
          (ap (λ ys. append_arguments ys rest) (o.is ∙ ap (λ k. append_arguments o.one (arguments_from k xs)) next) ∙ append_twice o.one (arguments_from (i + 1) xs) rest)
          (w old ps xs rest enters lists g)

      pub refused : (d : TemplateBuilder) (v : Stores) (f : Fault) → Adds c t n d v (Err f) → (old : Stores) (ps : Pieces) (xs rest : Arguments)
          → HasRoom old (need (length (held old.nodes)) ps) → ListsArguments (held_of old) run xs → Growth old ps (append_arguments xs rest) b s → ⊥
      refused d v f a old ps xs rest enters lists g =
          a old ps (here old ps xs rest enters lists g).one (append_arguments (arguments_from (i + 1) xs) rest) enters (here old ps xs rest enters lists g).stands (in_front old ps xs rest enters lists g)

      pub step : (d : TemplateBuilder) (v : Stores) (y : Unit {0}) → Adds c t n d v (Ok y) → Walked run b s (i + 1) d v
      step d v y a old ps xs rest enters lists g =
          a old ps (here old ps xs rest enters lists g).one (append_arguments (arguments_from (i + 1) xs) rest) enters (here old ps xs rest enters lists g).stands (in_front old ps xs rest enters lists g)
