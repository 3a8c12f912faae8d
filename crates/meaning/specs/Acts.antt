-- An act takes a state to a result and a state, or does not end. It is a relation, and runs are put together from acts.
use Rattle.std.specs.Prelude.{◌≡◌, ℕ, List, [], ◌∷◌, ◌++◌}
use Rattle.meaning.specs.World.{Result, Ending, Outcome, Next}

-- From which state, with which result and in which state an act ends. ECMA-262, "Algorithm Conventions" and "The
-- Completion Record Specification Type".
abbrev pub Act : Type 0 → Type 0 → Type 1
Act S A = S → Result A → S → Type 0

-- One value, and the state as it was. ECMA-262, "NormalCompletion".
pub data Returns (S A : Type 0) (a : A) : S → Result A → S → Type 0 where
  returns : {s : S} → Returns S A a s (Result.gives a) s

-- One act, and with its value another; a throw of the first ends both. ECMA-262, "ReturnIfAbrupt Shorthands".
pub data Then (S A B : Type 0) (first : Act S A) (second : A → Act S B) : S → Result B → S → Type 0 where
  goes : {s u t : S} {a : A} {r : Result B} → first s (Result.gives a) u → second a u r t → Then S A B first second s r t
  stops : {s t : S} → first s Result.throws t → Then S A B first second s Result.throws t

-- A function of the world, where it ends. ECMA-262, "Abstract Operations".
pub data Asks (S A : Type 0) (f : S → Ending S A) : S → Result A → S → Type 0 where
  asks : {s t : S} {r : Result A} → f s ≡ Ending.ends r t → Asks S A f s r t

-- What may throw, and ends, and changes no state. ECMA-262, "Abstract Operations".
pub data Settles (S A : Type 0) (f : S → Result A) : S → Result A → S → Type 0 where
  settles : {s : S} {r : Result A} → f s ≡ r → Settles S A f s r s

-- It ends without a throw in the state that it began in. (No section: a notion of ours.)
pub data Still (S A : Type 0) : S → Result A → S → Type 0 where
  still : {s : S} {a : A} → Still S A s (Result.gives a) s

-- All runs, or only those of which each run inside is still. (No section: a notion of ours.)
pub data Mode : Type 0 where
  free calm : Mode

-- An act, which in the calm mode has to be still. (No section: a notion of ours.)
pub data Watched (S A : Type 0) (m : Act S A) : Mode → S → Result A → S → Type 0 where
  freely : {s t : S} {r : Result A} → m s r t → Watched S A m Mode.free s r t
  calmly : {s t : S} {r : Result A} → m s r t → Still S A s r t → Watched S A m Mode.calm s r t

-- From which state, with which outcome and in which state a child of an opaque expression ends. ECMA-262, "The
-- Completion Record Specification Type".
abbrev pub Sight : Type 0 → Type 0 → Type 1
Sight S V = S → Outcome V → S → Type 0

-- An act as an opaque expression sees it: a throw is an outcome too. ECMA-262, "Completion", which keeps a completion
-- as it is.
pub data Seen (S A V : Type 0) (m : Act S A) (f : A → Outcome V) : S → Outcome V → S → Type 0 where
  gave : {s t : S} {a : A} {o : Outcome V} → m s (Result.gives a) t → f a ≡ o → Seen S A V m f s o t
  threw : {s t : S} → m s Result.throws t → Seen S A V m f s Outcome.threw t

-- From the outcomes so far: the end, or a child that runs, and all that follows from its outcome. ECMA-262, "Runtime
-- Semantics: Evaluation" of any other expression.
pub data Steps (S V : Type 0) (next : List (Outcome V) → S → Next S V) (child : ℕ → Sight S V) : List (Outcome V) → S → Result V → S → Type 0 where
  ends : {os : List (Outcome V)} {s t : S} {r : Result V} → next os s ≡ Next.stops (Ending.ends r t) → Steps S V next child os s r t
  runs : {os : List (Outcome V)} {s u v t : S} {i : ℕ} {o : Outcome V} {r : Result V}
      → next os s ≡ Next.runs i u → child i u o v → Steps S V next child (os ++ (o ∷ [])) v r t → Steps S V next child os s r t
