-- The items of a case's answer.
use Rattle.std.specs.Prelude.{◌≡◌, ℕ, List, [], ◌∷◌, ◌++◌, map, take, cond, codes, decimal, Ok, Err, vec_items}
use Rattle.store.specs.declared.stores.Counts.{Counts}
use Rattle.store.specs.Stores.{counts_of}
use Rattle.host.specs.Answers.{Answers}
use Rattle.host.specs.Silent.{silent_answers}
use Rattle.host.specs.Structural.{structural_answers}
use Rattle.host.specs.Table.{table_answers}
use Rattle.model.specs.declared.answer.Outcome.TheVariants.{Kept, Rewritten}
use Rattle.model.specs.Model.{Given, Model}
use Rattle.model.specs.Tries.{Rule, Try}
use Rattle.model.specs.Calls.{Call, Makes}
use Rattle.script.specs.Lines.{line_of}
use Rattle.script.specs.declared.answer.Answer.TheVariants.{Refused}
use Rattle.session.specs.declared.call.Answer.{Answer}
use Rattle.session.specs.declared.call.Answer.TheVariants.{Moved, Tried, Swept}
use Rattle.session.specs.declared.session.Session.{Session}
use Rattle.session.specs.Calling.{answer_of}
use Rattle.session.specs.Following.{given_of, Follows}
use Rattle.cases.specs.declared.host_word.HostWord.{HostWord}
use Rattle.cases.specs.declared.host_word.HostWord.TheVariants.{Silent, Structural, Table}
use Rattle.cases.specs.declared.call.Trial.{Trial}
use Rattle.cases.specs.declared.call.Trial.TheVariants.{Chain, Method, Property, Sweep}
use Rattle.cases.specs.declared.call.CaseCall.{CaseCall}
use Rattle.cases.specs.declared.call.CaseCall.TheVariants.{Enter, Leave, Try as TryCall, Tree}

-- What a call of a session answers, in words.
abbrev pub item_of : Answer → List ℕ
item_of (Moved (Ok u)) = codes "ok"
item_of (Moved (Err e)) = line_of (Refused e)
item_of (Tried (Ok Kept)) = codes "kept"
item_of (Tried (Ok Rewritten)) = codes "rewritten"
item_of (Tried (Err e)) = line_of (Refused e)
item_of (Swept (Ok s)) = codes "swept " ++ (decimal s.rewrites ++ (codes " " ++ (decimal s.rounds ++ (codes " " ++ decimal (cond s.left 1 0)))))
item_of (Swept (Err e)) = line_of (Refused e.fault) ++ (codes " after " ++ decimal e.rewrites)

-- The last item: the root, the count of rewrites, and what the stores hold.
abbrev pub end_of : (root rewrites : ℕ) → Counts → List ℕ
end_of root rewrites held =
    codes "end " ++ (decimal root ++ (codes " " ++ (decimal rewrites ++ (codes " " ++ (decimal held.nodes ++ (codes " " ++ (decimal held.entries ++ (codes " " ++ decimal held.text))))))))

-- The names that are bound, by a word of a host.
abbrev pub names_said : HostWord → List (List ℕ)
names_said Silent = []
names_said (Structural names) = map vec_items (vec_items names)
names_said (Table rows) = []

-- The answers of the host that a word names, where so many nodes were loaded.
abbrev pub answers_said : (loaded : ℕ) → HostWord → Answers
answers_said loaded Silent = silent_answers
answers_said loaded (Structural names) = structural_answers (map vec_items (vec_items names))
answers_said loaded (Table rows) = table_answers (take loaded (vec_items rows))

abbrev pub call_of_trial : Trial → Answers → Call
call_of_trial Chain a = Call.rewrite Rule.chain a
call_of_trial Method a = Call.rewrite Rule.method a
call_of_trial Property a = Call.rewrite Rule.property a
call_of_trial Sweep a = Call.sweep a

-- The session's call that this is, and what it answers, as an item.
abbrev pub Calls : Given → Call → Model → (item : List ℕ) → Model → Type 0
Calls g c m item n = (r : Answer) × (ts : List Try) × Makes g m c (answer_of r) n ts × (item ≡ item_of r)

-- A call of a case is made: a call of the session, or a look at its tree, whose item may be any.
abbrev pub MakesItem : Given → (loaded : ℕ) → CaseCall → Model → (item : List ℕ) → Model → Type 0
MakesItem g loaded (Enter k) m item n = Calls g (Call.enter k) m item n
MakesItem g loaded Leave m item n = Calls g Call.leave m item n
MakesItem g loaded (TryCall t w) m item n = Calls g (call_of_trial t (answers_said loaded w)) m item n
MakesItem g loaded Tree m item n = n ≡ m

-- All of them, one on what the other leaves, with a semicolon and a space before each item.
pub data MakesItems (g : Given) (loaded : ℕ) (l : Model) : List CaseCall → (items : List ℕ) → Model → Type 0 where
  none : MakesItems g loaded l [] [] l
  then : {cs : List CaseCall} {items : List ℕ} {m n : Model} (c : CaseCall) (item : List ℕ)
      → MakesItems g loaded l cs items m → MakesItem g loaded c m item n → MakesItems g loaded l (cs ++ c ∷ []) (items ++ (codes "; " ++ item)) n

-- As the caller of a session sees it.
abbrev pub MakesOne : (loaded : ℕ) → CaseCall → (old new : Session) → (item : List ℕ) → Type 0
MakesOne loaded c old new item = Follows (λ m n. MakesItem (given_of old) loaded c m item n) old new

abbrev pub MakesEach : List CaseCall → (old new : Session) → (items : List ℕ) → Type 0
MakesEach cs old new items = Follows (λ m n. MakesItems (given_of old) (counts_of old.stores).nodes m cs items n) old new

-- Their items are written behind what stood there.
abbrev pub AppendsEach : List CaseCall → (old new : Session) → (before after : List ℕ) → Type 0
AppendsEach cs old new before after = (items : List ℕ) × (after ≡ before ++ items) × MakesEach cs old new items
