-- What `concat` on an array literal takes in of its arguments.
use Rattle.std.proofs.Common.{◌≡◌, ℕ, zero, suc, ◌+◌, ◌<◌, ◌≤◌, Bool, true, false, List, [], ◌∷◌, ◌++◌, length, take, drop, Some, None, Option, Ok, Err, Result, refl, sym, subst, ap, ◌∙◌, arith, append_assoc, append-nil, add-one, length-append}
use Rattle.std.specs.List.{slice_get}
use Rattle.std.specs.Result.{IsErr}
use Rattle.std.proofs.lemmas.Bool.{and_parts, leb-true}
use Rattle.std.proofs.lemmas.List.{drop_all}
use Rattle.base.specs.declared.fault.Fault.{Fault}
use Rattle.store.specs.declared.stores.Stores.{Stores}
use Rattle.store.specs.Held.{held}
use Rattle.store.specs.Stores.{held_of}
use Rattle.tree.specs.declared.node.Node.{Node}
use Rattle.tree.specs.declared.node.Node.TheVariants.{String, Number, Boolean, Null, Name, Hole, Spread, Array, StaticMember, ComputedMember, Call, Template, Quasi, Unary, Binary, Opaque}
use Rattle.tree.specs.declared.run.Run.{Run}
use Rattle.tree.specs.Heap.{Held, within, cut, entries_at}
use Rattle.tree.proofs.Cuts.{length_cut}
use Rattle.meaning.specs.Expression.{Expression, Elements, Arguments}
use Rattle.meaning.specs.Parts.{Part}
use Rattle.rules.specs.Building.{append_elements}
use Rattle.rules.specs.Taking.{Leading, leading, taken, taken_with}
use Rattle.deciding.specs.Arguments.{is_taken}
use Rattle.deciding.specs.Meant.{Meant}
use Rattle.deciding.specs.Standing.{AllStand, ListsArguments, element_parts, argument_parts}
use Rattle.deciding.proofs.Records.{Read}
use Rattle.building.specs.Lists.{is_literal, Lists, NoRoom, Appends, given, given_by, TakesIn, TakesInArgument}
use Rattle.building.proofs.Grown.{stands_then}
use Rattle.building.proofs.Lists.{parts_behind}
use Rattle.building.proofs.Appended.{none_listed, lists_behind, no_room_behind, no_room_for_more}

-- ---- one argument

-- A literal gives itself.
record Literal (p : Part) : Type 0 where
  value : Expression
  is_it : p ≡ Part.expression value
  leads : leading value ≡ Leading.literal

literal_of : (h : Held) (r : Node) (p : Part) → Meant h r p → is_literal r ≡ true → Literal p
unfolding leading
literal_of h (String t) p m e = record { value = Expression.string m.0 m.1; is_it = m.2; leads = refl }
literal_of h (Number bits) p m e = record { value = Expression.number m.0 bits; is_it = m.1; leads = refl }
literal_of h (Boolean b) p m e = record { value = Expression.boolean m.0 b; is_it = m.1; leads = refl }
literal_of h Null p m e = record { value = Expression.null m.0; is_it = m.1; leads = refl }
literal_of h (Name t) p m e = absurd (cc)
literal_of h Hole p m e = absurd (cc)
literal_of h (Spread n) p m e = absurd (cc)
literal_of h (Array es) p m e = absurd (cc)
literal_of h (StaticMember o t) p m e = absurd (cc)
literal_of h (ComputedMember o k) p m e = absurd (cc)
literal_of h (Call f es) p m e = absurd (cc)
literal_of h (Template es) p m e = absurd (cc)
literal_of h (Quasi q c) p m e = absurd (cc)
literal_of h (Unary o n) p m e = absurd (cc)
literal_of h (Binary o n k) p m e = absurd (cc)
literal_of h (Opaque es k f) p m e = absurd (cc)

one_given : (p : Part) (l : Literal p) → given p ≡ Some (Elements.item l.value Elements.no_elements)
one_given p l = ap given l.is_it ∙ ap (given_by l.value) l.leads

one_part : (x : Expression) → element_parts (Elements.item x Elements.no_elements) ≡ Part.expression x ∷ []
unfolding element_parts
one_part x = refl

array_given : (l : ℕ) (es : Elements) (p : Part) → p ≡ Part.expression (Expression.array l es) → given p ≡ Some es
unfolding leading
array_given l es p e = ap given e

-- Nothing else gives anything.
none_given : (h : Held) (r : Node) (p : Part) → Meant h r p → is_taken r ≡ false → given p ≡ None
unfolding leading
none_given h (String t) p m e = absurd (cc)
none_given h (Number bits) p m e = absurd (cc)
none_given h (Boolean b) p m e = absurd (cc)
none_given h Null p m e = absurd (cc)
none_given h (Array es) p m e = absurd (cc)
none_given h (Name t) p m e = ap given m.2
none_given h Hole p m e = ap given m.1
none_given h (Spread n) p m e = ap given m.2
none_given h (StaticMember o t) p m e = ap given m.3
none_given h (ComputedMember o k) p m e = ap given m.3
none_given h (Call f es) p m e = ap given m.3
none_given h (Template es) p m e = ap given m.2
none_given h (Quasi q c) p m e = ap given m.1
none_given h (Unary o n) p m e = ap given m.2
none_given h (Binary o n k) p m e = ap given m.3
none_given h (Opaque es k f) p m e = ap given m.2

-- What is neither.
abbrev pub is_array : Node → Bool
is_array (Array es) = true
is_array r = false

pub not_taken : (r : Node) → is_literal r ≡ false → is_array r ≡ false → is_taken r ≡ false
not_taken (String t) e f = absurd (cc)
not_taken (Number bits) e f = absurd (cc)
not_taken (Boolean b) e f = absurd (cc)
not_taken Null e f = absurd (cc)
not_taken (Array es) e f = absurd (cc)
not_taken (Name t) e f = refl
not_taken Hole e f = refl
not_taken (Spread n) e f = refl
not_taken (StaticMember o t) e f = refl
not_taken (ComputedMember o k) e f = refl
not_taken (Call g es) e f = refl
not_taken (Template es) e f = refl
not_taken (Quasi q c) e f = refl
not_taken (Unary o n) e f = refl
not_taken (Binary o n k) e f = refl
not_taken (Opaque es k g) e f = refl

-- What a call of it answers.
failed : (a c : Stores) (es : Elements) (r : Result Bool Fault) → IsErr r → NoRoom a (element_parts es) → TakesIn a (Some es) c r
failed a c es (Ok b) i n = absurd (cc)
failed a c es (Err e) i n = n

pub nothing_taken : (a : Stores) {r : Node} (p : Part) → Read (held_of a) r p → is_taken r ≡ false → TakesIn a (given p) a (Ok false)
nothing_taken a {r} p m e = subst (λ g. TakesIn a g a (Ok false)) (sym (none_given (held_of a) r p m.says e)) refl

module _ (a c : Stores) {list : Run ℕ} (p : Part) (m : Read (held_of a) (Array list) p) where
  array_lies : within (held a.entries) list.start list.len ≡ true
  array_lies = (and_parts (within (held a.entries) list.start list.len) true m.within).0

  pub array_taken : ((ps : List Part) → within (held a.entries) list.start list.len ≡ true → AllStand (held_of a) (entries_at (held a.entries) list) ps → Lists a ps c) → TakesIn a (given p) c (Ok true)
  array_taken f = subst (λ g. TakesIn a g c (Ok true)) (sym (array_given m.says.0 m.says.1 p m.says.2)) (f (element_parts m.says.1) array_lies m.says.3)

  pub array_refused : (r : Result Bool Fault) → IsErr r → ((ps : List Part) → within (held a.entries) list.start list.len ≡ true → AllStand (held_of a) (entries_at (held a.entries) list) ps → NoRoom a ps)
      → TakesIn a (given p) c r
  array_refused r i f = subst (λ g. TakesIn a g c r) (sym (array_given m.says.0 m.says.1 p m.says.2)) (failed a c m.says.1 r i (f (element_parts m.says.1) array_lies m.says.3))

module _ (a c : Stores) {r : Node} (p : Part) (m : Read (held_of a) r p) (e : is_literal r ≡ true) where
  the_literal : Literal p
  the_literal = literal_of (held_of a) r p m.says e

  its_part : p ∷ [] ≡ element_parts (Elements.item the_literal.value Elements.no_elements)
  its_part = ap (λ q. q ∷ []) the_literal.is_it ∙ sym (one_part the_literal.value)

  pub literal_taken : Lists a (p ∷ []) c → TakesIn a (given p) c (Ok true)
  literal_taken f = subst (λ g. TakesIn a g c (Ok true)) (sym (one_given p the_literal)) (subst (λ ps. Lists a ps c) its_part f)

  pub literal_refused : (r : Result Bool Fault) → IsErr r → NoRoom a (p ∷ []) → TakesIn a (given p) c r
  literal_refused r i f =
      subst (λ g. TakesIn a g c r) (sym (one_given p the_literal))
      (failed a c (Elements.item the_literal.value Elements.no_elements) r i (subst (NoRoom a) its_part f))

-- ---- all arguments

at_drop : (ns : List ℕ) (i n : ℕ) → slice_get ns i ≡ Some n → drop i ns ≡ n ∷ drop (suc i) ns
at_drop [] i n e = absurd (cc)
at_drop (m ∷ ns) zero n e = let f : m ≡ n = cc in ap (λ z. z ∷ ns) f
at_drop (m ∷ ns) (suc i) n e = at_drop ns i n e

at_take : (es : List ℕ) (len i : ℕ) → i < len → slice_get (take len es) i ≡ slice_get es i
at_take es zero i lt = absurd (omega arith)
at_take [] (suc len) i lt = refl
at_take (e ∷ es) (suc len) zero lt = refl
at_take (e ∷ es) (suc len) (suc i) lt = at_take es len i (omega arith)

plus_none : (i : ℕ) → i ≡ 0 + i
plus_none i = omega arith

plus_one : (k i : ℕ) → suc (k + i) ≡ suc k + i
plus_one k i = omega arith

at_start : (es : List ℕ) (start i : ℕ) → slice_get (drop start es) i ≡ slice_get es (start + i)
at_start es zero i = ap (slice_get es) (plus_none i)
at_start [] (suc start) i = refl
at_start (e ∷ es) (suc start) i = at_start es start i ∙ ap (slice_get (e ∷ es)) (plus_one start i)

at_front : (es more : List ℕ) (k : ℕ) → k < length es → slice_get (es ++ more) k ≡ slice_get es k
at_front [] more k lt = absurd (omega arith)
at_front (e ∷ es) more zero lt = refl
at_front (e ∷ es) more (suc k) lt = at_front es more k (omega arith)

there : (es : List ℕ) (k : ℕ) → k < length es → slice_get es k ≡ None → ⊥
there [] k lt e = omega arith
there (x ∷ es) zero lt e = absurd (cc)
there (x ∷ es) (suc k) lt e = there es k (omega arith) e

-- The i-th entry of a list that lies within, read where more was appended.
entry_read : (es more : List ℕ) (start len i : ℕ) → within es start len ≡ true → i < len → slice_get (es ++ more) (start + i) ≡ slice_get (cut es start len) i
entry_read es more start len i w lt =
    let lies = leb-true (start + len) (length es) w in
    at_front es more (start + i) (omega arith) ∙ sym (at_start es start i) ∙ sym (at_take (drop start es) len i lt)

-- What has been taken in of the arguments, and those that are left.
pub record TakenOf (a : Stores) (arguments : Run ℕ) (i : ℕ) (b : Stores) (xs : Arguments) : Type 0 where
  pub rest : Arguments
  pub done : List Part
  pub lists : Lists a done b
  pub behind : AllStand (held_of a) (drop i (entries_at (held a.entries) arguments)) (argument_parts rest)
  pub all : element_parts (taken xs) ≡ done ++ element_parts (taken rest)

pub none_taken_yet : (a : Stores) (arguments : Run ℕ) (xs : Arguments) → ListsArguments (held_of a) arguments xs → TakenOf a arguments 0 a xs
none_taken_yet a arguments xs s = record { rest = xs; done = []; lists = none_listed a; behind = s.1; all = refl }

-- What follows once one more argument was asked for.
abbrev pub Onward : (a : Stores) (arguments : Run ℕ) (i : ℕ) (c : Stores) (xs : Arguments) → Result Bool Fault → Type 0
Onward a arguments i c xs (Ok true) = TakenOf a arguments (suc i) c xs
Onward a arguments i c xs (Ok false) = Lists a (element_parts (taken xs)) c
Onward a arguments i c xs (Err e) = NoRoom a (element_parts (taken xs))

module _ (a b c : Stores) (arguments : Run ℕ) (i n : ℕ) (xs : Arguments) where
  abbrev ns : List ℕ
  ns = entries_at (held a.entries) arguments

  taken_some : (x : Expression) (ys : Arguments) (es : Elements) → given (Part.expression x) ≡ Some es → taken (Arguments.argument x ys) ≡ append_elements es (taken ys)
  unfolding taken taken_with append_elements
  taken_some x ys es e = by (leading x) e
    where
      by : (l : Leading) → given_by x l ≡ Some es → taken_with x l (taken ys) ≡ append_elements es (taken ys)
      by Leading.literal f = let g : Elements.item x Elements.no_elements ≡ es = cc in ap (λ z. append_elements z (taken ys)) g
      by (Leading.gives fs) f = let g : fs ≡ es = cc in ap (λ z. append_elements z (taken ys)) g
      by Leading.other f = absurd (cc)

  taken_none : (x : Expression) (ys : Arguments) → given (Part.expression x) ≡ None → element_parts (taken (Arguments.argument x ys)) ≡ []
  unfolding taken taken_with element_parts
  taken_none x ys e = by (leading x) e
    where
      by : (l : Leading) → given_by x l ≡ None → element_parts (taken_with x l (taken ys)) ≡ []
      by Leading.literal f = absurd (cc)
      by (Leading.gives fs) f = absurd (cc)
      by Leading.other f = refl

  -- the argument gives nothing
  stops : (t : TakenOf a arguments i b xs) → element_parts (taken t.rest) ≡ [] → c ≡ b → Lists a (element_parts (taken xs)) c
  stops t e f = subst (Lists a (element_parts (taken xs))) (sym f) (subst (λ ps. Lists a ps b) (sym (t.all ∙ ap (λ ps. t.done ++ ps) e ∙ append-nil t.done)) t.lists)

  -- it gives elements
  goes : (t : TakenOf a arguments i b xs) (x : Expression) (ys : Arguments) (es : Elements) → t.rest ≡ Arguments.argument x ys → given (Part.expression x) ≡ Some es
      → Lists b (element_parts es) c → AllStand (held_of a) (drop (suc i) ns) (argument_parts ys) → TakenOf a arguments (suc i) c xs
  goes t x ys es e f l s = record {
    rest = ys;
    done = t.done ++ element_parts es;
    lists = lists_behind t.lists l;
    behind = s;
    all =
        t.all ∙ ap (λ z. t.done ++ element_parts (taken z)) e ∙ ap (λ z. t.done ++ element_parts z) (taken_some x ys es f)
        ∙ ap (λ ps. t.done ++ ps) (parts_behind es (taken ys)) ∙ sym (append_assoc t.done (element_parts es) (element_parts (taken ys)));
  }

  -- there is no room for them
  fails : (t : TakenOf a arguments i b xs) (x : Expression) (ys : Arguments) (es : Elements) → t.rest ≡ Arguments.argument x ys → given (Part.expression x) ≡ Some es
      → NoRoom b (element_parts es) → NoRoom a (element_parts (taken xs))
  fails t x ys es e f l =
      subst (NoRoom a)
      (sym
      (t.all ∙ ap (λ z. t.done ++ element_parts (taken z)) e ∙ ap (λ z. t.done ++ element_parts z) (taken_some x ys es f)
      ∙ ap (λ ps. t.done ++ ps) (parts_behind es (taken ys)) ∙ sym (append_assoc t.done (element_parts es) (element_parts (taken ys)))))
      (no_room_for_more a (t.done ++ element_parts es) (element_parts (taken ys)) (no_room_behind (element_parts es) t.lists l))

  by_given : (t : TakenOf a arguments i b xs) (x : Expression) (ys : Arguments) (g : Option Elements) (r : Result Bool Fault) → t.rest ≡ Arguments.argument x ys
      → given (Part.expression x) ≡ g → TakesIn b g c r → AllStand (held_of a) (drop (suc i) ns) (argument_parts ys) → Onward a arguments i c xs r
  by_given t x ys None (Ok true) e f k s = absurd k
  by_given t x ys None (Ok false) e f k s = stops t (ap (λ z. element_parts (taken z)) e ∙ taken_none x ys f) k
  by_given t x ys None (Err z) e f k s = absurd k
  by_given t x ys (Some es) (Ok true) e f k s = goes t x ys es e f k s
  by_given t x ys (Some es) (Ok false) e f k s = absurd k
  by_given t x ys (Some es) (Err z) e f k s = fails t x ys es e f k

  spread_ends : (t : TakenOf a arguments i b xs) (l : ℕ) (x : Expression) (ys : Arguments) (r : Result Bool Fault) → t.rest ≡ Arguments.spread_argument l x ys → TakesIn b None c r
      → Onward a arguments i c xs r
  unfolding taken element_parts
  spread_ends t l x ys (Ok true) e k = absurd k
  spread_ends t l x ys (Ok false) e k = stops t (ap (λ z. element_parts (taken z)) e) k
  spread_ends t l x ys (Err z) e k = absurd k

  by_rest : (t : TakenOf a arguments i b xs) (ys : Arguments) (r : Result Bool Fault) → t.rest ≡ ys → AllStand (held_of a) (n ∷ drop (suc i) ns) (argument_parts ys)
      → TakesInArgument b n c r → Onward a arguments i c xs r
  unfolding argument_parts
  by_rest t Arguments.no_arguments r e s f = absurd s
  by_rest t (Arguments.argument x ys) r e s f = by_given t x ys (given (Part.expression x)) r e refl (f (Part.expression x) (stands_then t.lists.grew s.0)) s.1
  by_rest t (Arguments.spread_argument l x ys) r e s f = spread_ends t l x ys r e (f (Part.spread l x) (stands_then t.lists.grew s.0))

  at_entry : (t : TakenOf a arguments i b xs) → within (held a.entries) arguments.start arguments.len ≡ true → i < arguments.len
      → slice_get (held b.entries) (arguments.start + i) ≡ slice_get ns i
  at_entry t w lt = ap (λ es. slice_get es (arguments.start + i)) t.lists.grew.entries_grow.0 ∙ entry_read (held a.entries) t.lists.numbers arguments.start arguments.len i w lt

  pub asked : (r : Result Bool Fault) → TakenOf a arguments i b xs → within (held a.entries) arguments.start arguments.len ≡ true → i < arguments.len
      → slice_get (held b.entries) (arguments.start + i) ≡ Some n → TakesInArgument b n c r → Onward a arguments i c xs r
  asked r t w lt e f = by_rest t t.rest r refl (subst (λ z. AllStand (held_of a) z (argument_parts t.rest)) (at_drop ns i n (sym (at_entry t w lt) ∙ e)) t.behind) f

-- Each entry is there.
pub entry_there : (a b : Stores) (arguments : Run ℕ) (i : ℕ) (xs : Arguments) → TakenOf a arguments i b xs → within (held a.entries) arguments.start arguments.len ≡ true → i < arguments.len
    → slice_get (held b.entries) (arguments.start + i) ≡ None → ⊥
entry_there a b arguments i xs t w lt e =
    let lies = leb-true (arguments.start + arguments.len) (length (held a.entries)) w in
    let long = ap length t.lists.grew.entries_grow.0 ∙ length-append (held a.entries) t.lists.numbers in
    there (held b.entries) (arguments.start + i) (omega (arith, long, lies)) e

-- All were taken in.
pub all_taken : (a b : Stores) (arguments : Run ℕ) (i : ℕ) (xs : Arguments) → TakenOf a arguments i b xs → within (held a.entries) arguments.start arguments.len ≡ true → arguments.len ≤ i
    → Lists a (element_parts (taken xs)) b
unfolding argument_parts taken element_parts
all_taken a b arguments i xs t w le = go t.rest refl (subst (λ z. AllStand (held_of a) z (argument_parts t.rest)) none t.behind)
  where
    none : drop i (entries_at (held a.entries) arguments) ≡ []
    none =
        let n = length_cut (held a.entries) arguments.start arguments.len (leb-true (arguments.start + arguments.len) (length (held a.entries)) w) in
        drop_all i (entries_at (held a.entries) arguments) (omega (arith, n))

    done : (ys : Arguments) → t.rest ≡ ys → element_parts (taken ys) ≡ [] → Lists a (element_parts (taken xs)) b
    done ys e f = subst (λ ps. Lists a ps b) (sym (t.all ∙ ap (λ z. t.done ++ element_parts (taken z)) e ∙ ap (λ ps. t.done ++ ps) f ∙ append-nil t.done)) t.lists

    go : (ys : Arguments) → t.rest ≡ ys → AllStand (held_of a) [] (argument_parts ys) → Lists a (element_parts (taken xs)) b
    go Arguments.no_arguments e s = done Arguments.no_arguments e refl
    go (Arguments.argument x ys) e s = absurd s
    go (Arguments.spread_argument l x ys) e s = absurd s

-- ---- the walk over the arguments

pub record Going (a : Stores) (arguments : Run ℕ) (i : ℕ) (b : Stores) : Type 0 where
  pub long : length (held a.entries) ≤ length (held b.entries)
  pub so_far : (xs : Arguments) → ListsArguments (held_of a) arguments xs → TakenOf a arguments i b xs

pub sets_out : (a : Stores) (arguments : Run ℕ) → Going a arguments 0 a
sets_out a arguments = record { long = omega arith; so_far = none_taken_yet a arguments }

pub walked : {a b : Stores} {arguments : Run ℕ} {i : ℕ} → Going a arguments i b → arguments.len ≤ i → (xs : Arguments) → ListsArguments (held_of a) arguments xs → Lists a (element_parts (taken xs)) b
walked {a} {b} {arguments} {i} w le xs s = all_taken a b arguments i xs (w.so_far xs s) s.0 le

module _ {a b : Stores} {arguments : Run ℕ} {i : ℕ} (w : Going a arguments i b) (lt : i < arguments.len) where
  pub not_there : slice_get (held b.entries) (arguments.start + i) ≡ None → (r : Result (Unit {0}) Fault) (c : Stores) (xs : Arguments) → ListsArguments (held_of a) arguments xs
      → Appends a (element_parts (taken xs)) c r
  not_there e r c xs s = absurd (entry_there a b arguments i xs (w.so_far xs s) s.0 lt e)

  pub refused : (n : ℕ) (e : Fault) (c : Stores) (r : Result (Unit {0}) Fault) → slice_get (held b.entries) (arguments.start + i) ≡ Some n → TakesInArgument b n c (Err e) → IsErr r
      → (xs : Arguments) → ListsArguments (held_of a) arguments xs → Appends a (element_parts (taken xs)) c r
  refused n e c (Ok u) f t k xs s = absurd (cc)
  refused n e c (Err z) f t k xs s = asked a b c arguments i n xs (Err e) (w.so_far xs s) s.0 lt f t

  pub stopped : (n : ℕ) (found : Bool) (c : Stores) → slice_get (held b.entries) (arguments.start + i) ≡ Some n → TakesInArgument b n c (Ok found) → found ≡ false
      → (xs : Arguments) → ListsArguments (held_of a) arguments xs → Lists a (element_parts (taken xs)) c
  stopped n found c f t e xs s = asked a b c arguments i n xs (Ok false) (w.so_far xs s) s.0 lt f (subst (λ z. TakesInArgument b n c (Ok z)) e t)

  pub goes_on : (n : ℕ) (found : Bool) (c : Stores) → slice_get (held b.entries) (arguments.start + i) ≡ Some n → TakesInArgument b n c (Ok found) → found ≡ true
      → length (held b.entries) ≤ length (held c.entries) → Going a arguments (i + 1) c
  goes_on n found c f t e le = record {
    long = omega (arith, w.long, le);
    so_far = λ xs s.
        subst (λ j. TakenOf a arguments j c xs) (sym (add-one i))
        (asked a b c arguments i n xs (Ok true) (w.so_far xs s) s.0 lt f (subst (λ z. TakesInArgument b n c (Ok z)) e t));
  }
