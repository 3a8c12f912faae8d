-- Texts that are joined in the text store.
use Rattle.std.specs.Prelude.{◌≡◌, ℕ, ◌≤◌, true, false, ◌&&◌, List, [], ◌∷◌, ◌++◌, length, Some, None, Ok, Err, Option, Result}
use Rattle.std.proofs.Math.Utf8.{encode}
use Rattle.base.specs.declared.fault.Fault.{Fault}
use Rattle.text.specs.declared.encoded.Encoded.{Encoded}
use Rattle.text.specs.Encoded.{bytes_of}
use Rattle.text.specs.Utf16.{Text, leading, trailing, paired}
use Rattle.text.specs.Points.{ends}
use Rattle.text.specs.Laws.{begins_trailing}
use Rattle.text.specs.Stored.{stored, Stores}
use Rattle.tree.specs.declared.run.Run.{Run}
use Rattle.tree.specs.Heap.{within, text_at}
use Rattle.store.specs.declared.store.Store.{Store}
use Rattle.store.specs.Held.{held, room, Refilled}

-- The bytes end with the stored form of a text, which begins at `start`.
pub record EndsWithText (bytes : List ℕ) (start : ℕ) (front u : List ℕ) : Type 0 where
  pub is : bytes ≡ front ++ stored u
  pub starts : length front ≡ start
  pub text : Text u

-- And another text stands in front of it.
pub record TwoTexts (bytes : List ℕ) (start : ℕ) (run : Run ℕ) (front : List ℕ) (u v : List ℕ) : Type 0 where
  pub ends : EndsWithText bytes start front u
  pub inside : within front run.start run.len ≡ true
  pub spelled : Stores (text_at front run) v

-- One text ends with a leading surrogate, and the other begins with a trailing one: together these are one character.
pub record Meeting (u v : List ℕ) (c : List ℕ) : Type 0 where
  pub before : List ℕ
  pub first : ℕ
  pub second : ℕ
  pub behind : List ℕ
  pub ends_first : u ≡ before ++ first ∷ []
  pub begins_second : v ≡ second ∷ behind
  pub leads : leading first ≡ true
  pub trails : trailing second ≡ true
  pub is : c ≡ encode (paired first second)

-- The character that two texts make where they meet, if they do.
abbrev pub Seam : (u v : List ℕ) → Option Encoded → Type 0
Seam u v None = (ends false u && begins_trailing v) ≡ false
Seam u v (Some c) = Meeting u v (bytes_of c)

abbrev pub SeamOf : (bytes : List ℕ) (start : ℕ) (run : Run ℕ) → Option Encoded → Type 0
SeamOf bytes start run r = (front u v : List ℕ) → TwoTexts bytes start run front u v → Seam u v r

-- The store holds so much and a text behind it; or it has no room for that.
abbrev pub HoldsText : (old : Store ℕ) (front u : List ℕ) (new : Store ℕ) → Result (Unit {0}) Fault → Type 0
HoldsText old front u new (Ok _) = Refilled old (front ++ stored u) new
HoldsText old front u new (Err e) = length (front ++ stored u) ≤ room old → ⊥

-- One text is joined to the other.
abbrev pub JoinsText : (old : Store ℕ) (start : ℕ) (run : Run ℕ) (new : Store ℕ) → Result (Unit {0}) Fault → Type 0
JoinsText old start run new r = (front u v : List ℕ) → TwoTexts (held old) start run front u v → HoldsText old front (u ++ v) new r
