-- What is counted of the records is what the rules count of the arguments.
use Rattle.std.proofs.Common.{◌≡◌, ℕ, suc, ◌+◌, Bool, true, false, cond, not, List, [], ◌∷◌, length, Some, None, Option, refl, sym, subst, ap, ap₂, ◌∙◌, arith}
use Rattle.std.specs.Prelude.{take_while}
use Rattle.std.proofs.lemmas.List.Sums.{sum_by-cons, take_while-cons}
use Rattle.tree.specs.declared.node.Node.{Node}
use Rattle.tree.specs.declared.node.Node.TheVariants.{String, Number, Boolean, Null, Name, Hole, Spread, Array, StaticMember, ComputedMember, Call, Template, Quasi, Unary, Binary, Opaque}
use Rattle.tree.specs.Heap.{Held}
use Rattle.meaning.specs.Expression.{Expression, Arguments, Units}
use Rattle.meaning.specs.Parts.{Part}
use Rattle.rules.specs.Building.{text_of}
use Rattle.rules.specs.Interleaves.{argument_count, string_count, expression_count, one_if_text, one_unless_text}
use Rattle.rules.specs.Interleaving.{no_spread}
use Rattle.rules.specs.Taking.{Leading, leading, taken_count, taken_count_with}
use Rattle.deciding.specs.Standing.{Stands, AllStand, argument_parts}
use Rattle.deciding.specs.Meant.{Meant}
use Rattle.deciding.specs.Arguments.{is_spread, is_string, is_taken, stored_at, any_spread, expressions_among, leading_taken}
use Rattle.deciding.proofs.Records.{Recorded, recorded, same_expression}

pub at_record : (test : Node → Bool) (h : Held) (n : ℕ) (p : Part) (r : Recorded h n p) → stored_at test h n ≡ test r.node
at_record test h n p r = rw r.there refl

-- ---- a record of an expression

unfoldable is_text : Expression → Bool
is_text (Expression.string l u) = true
is_text x = false

unfoldable taken_in : Leading → Bool
taken_in Leading.literal = true
taken_in (Leading.gives es) = true
taken_in Leading.other = false

record Counted (r : Node) (x : Expression) : Type 0 where
  no_spread : is_spread r ≡ false
  text : is_string r ≡ is_text x
  taken : is_taken r ≡ taken_in (leading x)

counted_of : (r : Node) {x y : Expression} → Part.expression x ≡ Part.expression y → Counted r y → Counted r x
counted_of r e c = subst (Counted r) (same_expression e) c

counted : (h : Held) (r : Node) (x : Expression) → Meant h r (Part.expression x) → Counted r x
unfolding is_text taken_in leading
counted h (String t) x m = counted_of (String t) m.2 (record { no_spread = refl; text = refl; taken = refl })
counted h (Number n) x m = counted_of (Number n) m.1 (record { no_spread = refl; text = refl; taken = refl })
counted h (Boolean b) x m = counted_of (Boolean b) m.1 (record { no_spread = refl; text = refl; taken = refl })
counted h Null x m = counted_of Null m.1 (record { no_spread = refl; text = refl; taken = refl })
counted h (Name t) x m = counted_of (Name t) m.2 (record { no_spread = refl; text = refl; taken = refl })
counted h Hole x m = absurd (cc)
counted h (Spread n) x m = absurd (cc)
counted h (Array es) x m = counted_of (Array es) m.2 (record { no_spread = refl; text = refl; taken = refl })
counted h (StaticMember o t) x m = counted_of (StaticMember o t) m.3 (record { no_spread = refl; text = refl; taken = refl })
counted h (ComputedMember o k) x m = counted_of (ComputedMember o k) m.3 (record { no_spread = refl; text = refl; taken = refl })
counted h (Call f es) x m = counted_of (Call f es) m.3 (record { no_spread = refl; text = refl; taken = refl })
counted h (Template es) x m = counted_of (Template es) m.2 (record { no_spread = refl; text = refl; taken = refl })
counted h (Quasi q c) x m = absurd (cc)
counted h (Unary o n) x m = counted_of (Unary o n) m.2 (record { no_spread = refl; text = refl; taken = refl })
counted h (Binary o n k) x m = counted_of (Binary o n k) m.3 (record { no_spread = refl; text = refl; taken = refl })
counted h (Opaque es k f) x m = counted_of (Opaque es k f) m.2 (record { no_spread = refl; text = refl; taken = refl })

record CountedAt (h : Held) (n : ℕ) (x : Expression) : Type 0 where
  no_spread : stored_at is_spread h n ≡ false
  text : stored_at is_string h n ≡ is_text x
  taken : stored_at is_taken h n ≡ taken_in (leading x)

counted_at : (h : Held) (n : ℕ) (x : Expression) → Stands h n (Part.expression x) → CountedAt h n x
counted_at h n x s =
    let r = recorded h n (Part.expression x) s in
    let c = counted h r.node x r.says in
    record {
      no_spread = at_record is_spread h n (Part.expression x) r ∙ c.no_spread;
      text = at_record is_string h n (Part.expression x) r ∙ c.text;
      taken = at_record is_taken h n (Part.expression x) r ∙ c.taken;
    }

-- ---- a record of a spread

record SpreadAt (h : Held) (n : ℕ) : Type 0 where
  spread : stored_at is_spread h n ≡ true
  text : stored_at is_string h n ≡ false
  taken : stored_at is_taken h n ≡ false

record SpreadRecord (r : Node) : Type 0 where
  spread : is_spread r ≡ true
  text : is_string r ≡ false
  taken : is_taken r ≡ false

spread_record : (h : Held) (r : Node) (l : ℕ) (x : Expression) → Meant h r (Part.spread l x) → SpreadRecord r
spread_record h (Spread n) l x m = record { spread = refl; text = refl; taken = refl }
spread_record h (String t) l x m = absurd (cc)
spread_record h (Number n) l x m = absurd (cc)
spread_record h (Boolean b) l x m = absurd (cc)
spread_record h Null l x m = absurd (cc)
spread_record h (Name t) l x m = absurd (cc)
spread_record h Hole l x m = absurd (cc)
spread_record h (Array es) l x m = absurd (cc)
spread_record h (StaticMember o t) l x m = absurd (cc)
spread_record h (ComputedMember o k) l x m = absurd (cc)
spread_record h (Call f es) l x m = absurd (cc)
spread_record h (Template es) l x m = absurd (cc)
spread_record h (Quasi q c) l x m = absurd (cc)
spread_record h (Unary o n) l x m = absurd (cc)
spread_record h (Binary o n k) l x m = absurd (cc)
spread_record h (Opaque es k f) l x m = absurd (cc)

spread_at : (h : Held) (n l : ℕ) (x : Expression) → Stands h n (Part.spread l x) → SpreadAt h n
spread_at h n l x s =
    let r = recorded h n (Part.spread l x) s in
    let c = spread_record h r.node l x r.says in
    record {
      spread = at_record is_spread h n (Part.spread l x) r ∙ c.spread;
      text = at_record is_string h n (Part.spread l x) r ∙ c.text;
      taken = at_record is_taken h n (Part.spread l x) r ∙ c.taken;
    }

-- ---- all arguments

pub how_many : (h : Held) (ns : List ℕ) (xs : Arguments) → AllStand h ns (argument_parts xs) → length ns ≡ argument_count xs
unfolding argument_parts argument_count
how_many h [] Arguments.no_arguments s = refl
how_many h (n ∷ ns) Arguments.no_arguments s = absurd s
how_many h [] (Arguments.argument x xs) s = absurd s
how_many h (n ∷ ns) (Arguments.argument x xs) s = ap suc (how_many h ns xs s.1)
how_many h [] (Arguments.spread_argument l x xs) s = absurd s
how_many h (n ∷ ns) (Arguments.spread_argument l x xs) s = ap suc (how_many h ns xs s.1)

pub spread_among : (h : Held) (ns : List ℕ) (xs : Arguments) → AllStand h ns (argument_parts xs) → no_spread xs ≡ not (any_spread h ns)
unfolding argument_parts no_spread
spread_among h [] Arguments.no_arguments s = refl
spread_among h (n ∷ ns) Arguments.no_arguments s = absurd s
spread_among h [] (Arguments.argument x xs) s = absurd s
spread_among h (n ∷ ns) (Arguments.argument x xs) s = rw (counted_at h n x s.0).no_spread (spread_among h ns xs s.1)
spread_among h [] (Arguments.spread_argument l x xs) s = absurd s
spread_among h (n ∷ ns) (Arguments.spread_argument l x xs) s = rw (spread_at h n l x s.0).spread refl

one_unless : (x : Expression) → one_unless_text (text_of x) ≡ cond (not (is_text x)) 1 0
unfolding text_of is_text one_unless_text
one_unless (Expression.string l u) = refl
one_unless x = refl

more_expressions : (h : Held) (n : ℕ) (ns : List ℕ) (b : Bool) → stored_at is_string h n ≡ b → expressions_among h (n ∷ ns) ≡ cond (not b) 1 0 + expressions_among h ns
more_expressions h n ns b e = sum_by-cons (λ m. cond (not (stored_at is_string h m)) 1 0) n ns ∙ ap (λ z. cond (not z) 1 0 + expressions_among h ns) e

pub expressions : (h : Held) (ns : List ℕ) (xs : Arguments) → AllStand h ns (argument_parts xs) → expressions_among h ns ≡ expression_count xs
unfolding argument_parts expression_count
expressions h [] Arguments.no_arguments s = refl
expressions h (n ∷ ns) Arguments.no_arguments s = absurd s
expressions h [] (Arguments.argument x xs) s = absurd s
expressions h (n ∷ ns) (Arguments.argument x xs) s =
    more_expressions h n ns (is_text x) (counted_at h n x s.0).text ∙ ap₂ (λ a b. a + b) (sym (one_unless x)) (expressions h ns xs s.1)
expressions h [] (Arguments.spread_argument l x xs) s = absurd s
expressions h (n ∷ ns) (Arguments.spread_argument l x xs) s =
    let more = more_expressions h n ns false (spread_at h n l x s.0).text in
    let i = expressions h ns xs s.1 in
    omega (arith, more, i)

one_of_two : (o : Option Units) → one_unless_text o + one_if_text o ≡ 1
unfolding one_unless_text one_if_text
one_of_two (Some u) = refl
one_of_two None = refl

pub strings : (xs : Arguments) → argument_count xs ≡ expression_count xs + string_count xs
unfolding argument_count expression_count string_count
strings Arguments.no_arguments = refl
strings (Arguments.argument x xs) =
    let one = one_of_two (text_of x) in
    let i = strings xs in
    omega (arith, one, i)
strings (Arguments.spread_argument l x xs) = let i = strings xs in omega (arith, i)

length_if : (b : Bool) (n : ℕ) (ns : List ℕ) → length (cond b (n ∷ ns) []) ≡ cond b (suc (length ns)) 0
length_if true n ns = refl
length_if false n ns = refl

more_taken : (h : Held) (n : ℕ) (ns : List ℕ) (b : Bool) → stored_at is_taken h n ≡ b → leading_taken h (n ∷ ns) ≡ cond b (suc (leading_taken h ns)) 0
more_taken h n ns b e =
    ap length (take_while-cons (stored_at is_taken h) n ns) ∙ length_if (stored_at is_taken h n) n (take_while (stored_at is_taken h) ns) ∙ ap (λ z. cond z (suc (leading_taken h ns)) 0) e

taken_count_if : (t : Leading) (k : ℕ) → taken_count_with t k ≡ cond (taken_in t) (suc k) 0
unfolding taken_count_with taken_in
taken_count_if Leading.literal k = refl
taken_count_if (Leading.gives es) k = refl
taken_count_if Leading.other k = refl

pub leading_ones : (h : Held) (ns : List ℕ) (xs : Arguments) → AllStand h ns (argument_parts xs) → leading_taken h ns ≡ taken_count xs
unfolding argument_parts taken_count
leading_ones h [] Arguments.no_arguments s = refl
leading_ones h (n ∷ ns) Arguments.no_arguments s = absurd s
leading_ones h [] (Arguments.argument x xs) s = absurd s
leading_ones h (n ∷ ns) (Arguments.argument x xs) s =
    more_taken h n ns (taken_in (leading x)) (counted_at h n x s.0).taken ∙ ap (λ k. cond (taken_in (leading x)) (suc k) 0) (leading_ones h ns xs s.1)
    ∙ sym (taken_count_if (leading x) (taken_count xs))
leading_ones h [] (Arguments.spread_argument l x xs) s = absurd s
leading_ones h (n ∷ ns) (Arguments.spread_argument l x xs) s = more_taken h n ns false (spread_at h n l x s.0).taken
