-- A session is opened in one way, and a move and a try of a rule do one thing: what they answer, and what they leave,
-- follows from the session before.
use Rattle.std.specs.Prelude.{◌≡◌, ℕ, List, Result}
use Rattle.base.specs.declared.fault.Fault.{Fault}
use Rattle.host.specs.Answers.{Answers}
use Rattle.model.specs.declared.answer.Outcome.{Outcome}
use Rattle.tree.specs.Tree.{Tree}
use Rattle.model.specs.Model.{Given, Model, Sound, Opened}
use Rattle.model.specs.Moves.{Enters, Leaves}
use Rattle.model.specs.Tries.{Rule, Try, Tries}
use Rattle.witnesses.specs.OneAnswer.{SameAnswer}

pub record EachTryDoesOneThing : Type 0 where
  pub opens : {t : Tree} {l m : Model} → Opened t l → Opened t m → (l.whole ≡ m.whole) × (l.place ≡ m.place) × (l.rewrites ≡ m.rewrites)
  pub enters : {l m n : Model} {k : ℕ} {r q : Result (Unit {0}) Fault} → Enters l k r m → Enters l k q n → SameAnswer r q × (m ≡ n)
  pub leaves : {l m n : Model} {r q : Result (Unit {0}) Fault} → Leaves l r m → Leaves l q n → SameAnswer r q × (m ≡ n)
  pub tries : {g : Given} {a : Answers} {k : Rule} {l m n : Model} {r q : Result Outcome Fault} {ts us : List Try}
      → Sound l → Tries g a k l r m ts → Tries g a k l q n us → SameAnswer r q × (m ≡ n) × (ts ≡ us)
