-- The calls of a case, made one after the other. Assumes nothing.
use Rattle.std.proofs.Common.{◌≡◌, ℕ, ◌+◌, ◌<◌, List, [], ◌∷◌, ◌++◌, length, take, get_or, codes, refl, sym, ap, subst, ◌∙◌, append-nil}
use Rattle.std.proofs.lemmas.List.{append_assoc, take_more}
use Rattle.model.specs.Model.{Model}
use Rattle.model.specs.Tries.{Try}
use Rattle.model.specs.Calls.{Call, Makes}
use Rattle.session.specs.declared.call.Answer.{Answer}
use Rattle.session.specs.declared.session.Session.{Session}
use Rattle.session.specs.Calling.{answer_of}
use Rattle.session.specs.Following.{given_of, Follows}
use Rattle.cases.specs.declared.call.CaseCall.{CaseCall}
use Rattle.cases.specs.Items.{item_of, Calls, MakesItem, MakesItems, MakesOne}

-- A call of a case is a call of the session, and its item says what that answers.
module _ (loaded : ℕ) (c d : CaseCall) (j k : Call) (old new now : Session) (r answer : Answer) (item : List ℕ) where
  pub call_told : c ≡ d → now ≡ new → answer ≡ r → item ≡ item_of answer
      → Follows (λ m n. (ts : List Try) × Makes (given_of old) m j (answer_of r) n ts) old new → j ≡ k
      → ((m n : Model) → Calls (given_of old) k m item n → MakesItem (given_of old) loaded d m item n)
      → MakesOne loaded c old now item
  call_told is_call is_session is_answer told made same turn =
      let one : MakesOne loaded d old new item = λ m is.
      let x = made m is in
      (x.0, turn m x.0 (r, x.1.0, subst (λ i. Makes (given_of old) m i (answer_of r) x.0 x.1.0) same x.1.1, told ∙ ap item_of is_answer), x.2) in
      subst (λ e. MakesOne loaded e old now item) (sym is_call) (subst (λ s. MakesOne loaded d old s item) (sym is_session) one)

-- What is known when the first calls are made, and their items are written.
pub record Going (start now : Session) (loaded : ℕ) (calls : List CaseCall) (items : List ℕ) (i : ℕ) : Type 0 where
  pub given : given_of now ≡ given_of start
  pub so_far : Follows (λ m n. MakesItems (given_of start) loaded m (take i calls) items n) start now

pub none_made : (s : Session) (loaded : ℕ) (calls : List CaseCall) → Going s s loaded calls [] 0
none_made s loaded calls = record { given = refl; so_far = λ m is. (m, MakesItems.none, is) }

module _ (start now next : Session) (loaded : ℕ) (calls : List CaseCall) (items item more : List ℕ) (i : ℕ) (c : CaseCall) where
  pub call_made : Going start now loaded calls items i → i < length calls → c ≡ get_or calls i c
      → MakesOne loaded c now next item → given_of next ≡ given_of now → more ≡ items ++ (codes "; " ++ item)
      → Going start next loaded calls more (i + 1)
  call_made going low is_c made same e = record {
    given = same ∙ going.given;
    so_far = λ m is.
        let x = going.so_far m is in
        let y = made x.0 x.2 in
        let one : MakesItem (given_of start) loaded c x.0 item y.0 = subst (λ g. MakesItem g loaded c x.0 item y.0) going.given y.1 in
        let cs : take (i + 1) calls ≡ take i calls ++ c ∷ [] = take_more calls i c low ∙ ap (λ d. take i calls ++ d ∷ []) (sym is_c) in
        let all : MakesItems (given_of start) loaded m (take i calls ++ c ∷ []) (items ++ (codes "; " ++ item)) y.0 = MakesItems.then c item x.1 one in (
          y.0,
          subst (λ ds. MakesItems (given_of start) loaded m ds more y.0) (sym cs) (subst (λ ws. MakesItems (given_of start) loaded m (take i calls ++ c ∷ []) ws y.0) (sym e) all),
          y.2,
        );
  }

-- The same, where the items stand behind what was written before.
pub record Written (before after : List ℕ) (start now : Session) (loaded : ℕ) (calls : List CaseCall) (i : ℕ) : Type 0 where
  pub items : List ℕ
  pub behind : after ≡ before ++ items
  pub going : Going start now loaded calls items i

pub none_written : (before : List ℕ) (s : Session) (loaded : ℕ) (calls : List CaseCall) → Written before before s s loaded calls 0
none_written before s loaded calls = record { items = []; behind = sym (append-nil before); going = none_made s loaded calls }

module _ (before after later : List ℕ) (start now next : Session) (loaded : ℕ) (calls : List CaseCall) (item : List ℕ) (i : ℕ) (c : CaseCall) where
  pub call_written : Written before after start now loaded calls i → i < length calls → c ≡ get_or calls i c
      → MakesOne loaded c now next item → given_of next ≡ given_of now → later ≡ after ++ codes "; " ++ item
      → Written before later start next loaded calls (i + 1)
  call_written w low is_c made same e = record {
    items = w.items ++ (codes "; " ++ item);
    behind = e
        ∙ ap (λ xs. xs ++ codes "; " ++ item) w.behind
        ∙ append_assoc (before ++ w.items) (codes "; ") item
        ∙ append_assoc before w.items (codes "; " ++ item);
    going = call_made start now next loaded calls w.items item (w.items ++ (codes "; " ++ item)) i c w.going low is_c made same refl;
  }
