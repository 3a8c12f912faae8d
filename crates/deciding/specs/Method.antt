-- What is found out of a call of a known method.
use Rattle.std.specs.Prelude.{◌≡◌, ℕ, Bool, true, false, cond, ◌&&◌, codes, bytes_eq, List, length, Some, None, Option}
use Rattle.std.specs.Borrow.{Bor}
use Rattle.text.specs.Stored.{Stores}
use Rattle.tree.specs.declared.run.Run.{Run}
use Rattle.tree.specs.Heap.{Held}
use Rattle.meaning.specs.Expression.{Expression, Elements, Arguments, Units}
use Rattle.meaning.specs.Parts.{Part}
use Rattle.host.specs.Answers.{Answers}
use Rattle.rules.specs.Places.{Role, Settings}
use Rattle.rules.specs.Deciding.{decided, same_name}
use Rattle.rules.specs.Method.{Callee, callee_of, method_of_object, array_concat, string_concat}
use Rattle.rules.specs.Taking.{taken_count}
use Rattle.deciding.specs.declared.methods.KnownMethod.{KnownMethod}
use Rattle.deciding.specs.declared.methods.KnownMethod.TheVariants.{Concat, Pow, Of}
use Rattle.deciding.specs.declared.plan.Decision.{Decision}
use Rattle.deciding.specs.Standing.{Stands, ListsElements, ListsArguments, Spells}
use Rattle.deciding.specs.Plans.{DecisionOf, NamesMethod}

-- The known method of a name: of its units, or of its stored form, since the names are ASCII.
abbrev pub known_name : List ℕ → Option KnownMethod
known_name name =
    cond (bytes_eq name (codes "concat")) (Some Concat) (cond (bytes_eq name (codes "pow")) (Some Pow) (cond (bytes_eq name (codes "of")) (Some Of) None))

-- What a callee names was found: the method's name in its stored form, and the number of the object.
abbrev pub FindsMethod : Held → Callee → Option (Bor (List ℕ) × ℕ) → Type 0
FindsMethod h (Callee.method o k) (Some found) = Stores found.0.now k × Stands h found.1 (Part.expression o)
FindsMethod h (Callee.method o k) None = ⊥
FindsMethod h Callee.none (Some found) = ⊥
FindsMethod h Callee.none None = Unit {0}

-- And so of whichever expression the callee's number stands for.
abbrev pub FindsMethodOf : Held → ℕ → Option (Bor (List ℕ) × ℕ) → Type 0
FindsMethodOf h callee found = (f : Expression) → Stands h callee (Part.expression f) → FindsMethod h (callee_of f) found

-- The expression is this name.
abbrev pub is_name : Units → Expression → Bool
is_name k (Expression.name l u) = same_name u k
is_name k x = false

-- And it means what the language itself means by it.
abbrev pub is_global_name : Answers → Units → Expression → Bool
is_global_name a k x = is_name k x && a.global (Part.expression x)

-- It is told whether this holds of the expression at a number and of a text in its stored form.
abbrev pub Tells : Held → ℕ → List ℕ → (Units → Expression → Bool) → Bool → Type 0
Tells h n bytes test told = (x : Expression) (k : Units) → Stands h n (Part.expression x) → Stores bytes k → told ≡ test k x

-- What the rule decides of a call with this callee, which names a method of the object at a number, with the arguments
-- of a list.
abbrev pub FoldsOf : Held → Answers → Settings → Role → Units → Expression → (object : ℕ) (arguments : Run ℕ) → Decision → Type 0
FoldsOf h a s r k f object arguments decision =
    (o : Expression) (xs : Arguments) → Stands h object (Part.expression o) → ListsArguments h arguments xs
    → DecisionOf h (decided a (method_of_object s (length h.nodes) r f xs k o)) decision

-- What the rule decides of `concat` on an array literal, whose elements stand in a list.
abbrev pub ConcatsArray : Held → (callee object : ℕ) (elements arguments : Run ℕ) → Decision → Type 0
ConcatsArray h callee object elements arguments decision =
    (a : Answers) (f : Expression) (j : ℕ) (es : Elements) (xs : Arguments) → NamesMethod h callee f → Stands h object (Part.expression (Expression.array j es))
    → ListsElements h elements es → ListsArguments h arguments xs
    → DecisionOf h (decided a (array_concat (length h.nodes) f j es xs (taken_count xs))) decision

-- And of `concat` on a string, whose text stands in a piece, where templates are supported.
abbrev pub JoinsString : Answers → Held → (base : Run ℕ) (arguments : Run ℕ) → Decision → Type 0
JoinsString a h base arguments decision =
    (s : Settings) (u : Units) (xs : Arguments) → s.templates ≡ true → Spells h base u → ListsArguments h arguments xs
    → DecisionOf h (decided a (string_concat s (length h.nodes) u xs)) decision
