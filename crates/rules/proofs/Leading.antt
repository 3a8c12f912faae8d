-- Where a decision leads to, whatever is answered: then that holds of what is decided.
use Rattle.std.proofs.Common.{◌≡◌, ℕ, Bool, true, false, cond, List, [], ◌∷◌, Some, Option, refl, subst, arith}
use Rattle.host.specs.declared.value_type.ValueType.{ValueType}
use Rattle.meaning.specs.Expression.{Expression}
use Rattle.meaning.specs.Parts.{Part}
use Rattle.meaning.specs.World.{World}
use Rattle.host.specs.Answers.{Answers, Question}
use Rattle.host.specs.Truth.{TrueAnswer, WithoutEffects, IsTheLanguagesOwn}
use Rattle.rules.specs.Deciding.{Deciding, decided, asked, when, unless_effects}
use Rattle.rules.specs.Facts.{Facts, said, true_in, EffectsIn, GlobalIn}
use Rattle.rules.specs.Laws.{AllTrue}

module _ (f : Facts) (P : Expression → Type 0) where
  abbrev pub Leads : Deciding → Type 0
  Leads Deciding.keep = Unit {0}
  Leads (Deciding.becomes y) = P y
  Leads (Deciding.ask_effects p k) = (b : Bool) → f.effects b p → Leads (k b)
  Leads (Deciding.ask_type p k) = (t : ValueType) → f.of_type t p → Leads (k t)
  Leads (Deciding.ask_global p k) = (b : Bool) → f.global b p → Leads (k b)

  pub when_leads : (b : Bool) (d : Deciding) → (b ≡ true → Leads d) → Leads (when b d)
  unfolding when
  when_leads true d h = h refl
  when_leads false d h = tt

  pub cond_leads : (b : Bool) (d e : Deciding) → (b ≡ true → Leads d) → (b ≡ false → Leads e) → Leads (cond b d e)
  cond_leads true d e h k = h refl
  cond_leads false d e h k = k refl

  pub unless_leads : (p : Part) (d e : Deciding) → (f.effects false p → Leads d) → (f.effects true p → Leads e) → Leads (Deciding.ask_effects p (λ b. unless_effects b d e))
  unfolding unless_effects
  unless_leads p d e h k false i = h i
  unless_leads p d e h k true i = k i

  module _ (a : Answers) where
    abbrev pub Holds : Question → Type 0
    Holds (Question.effects p) = f.effects (a.effects p) p
    Holds (Question.value_type p) = f.of_type (a.value_type p) p
    Holds (Question.global p) = f.global (a.global p) p

    abbrev pub AllHold : List Question → Type 0
    AllHold [] = Unit {0}
    AllHold (q ∷ qs) = Holds q × AllHold qs

    pub led_to : (d : Deciding) → Leads d → AllHold (asked a d) → (y : Expression) → decided a d ≡ Some y → P y
    unfolding decided asked
    led_to Deciding.keep l h y e = let z : ◌≡◌ {A = ℕ} 0 1 = cc in absurd (omega arith)
    led_to (Deciding.becomes x) l h y e = let i : x ≡ y = cc in subst P i l
    led_to (Deciding.ask_effects p k) l h y e = led_to (k (a.effects p)) (l (a.effects p) h.0) h.1 y e
    led_to (Deciding.ask_type p k) l h y e = led_to (k (a.value_type p)) (l (a.value_type p) h.0) h.1 y e
    led_to (Deciding.ask_global p k) l h y e = led_to (k (a.global p)) (l (a.global p) h.0) h.1 y e

-- and so to all that follows from it
pub leads_map : (f : Facts) (P Q : Expression → Type 0) → ((y : Expression) → P y → Q y) → (d : Deciding) → Leads f P d → Leads f Q d
leads_map f P Q h Deciding.keep l = tt
leads_map f P Q h (Deciding.becomes y) l = h y l
leads_map f P Q h (Deciding.ask_effects p k) l = λ b i. leads_map f P Q h (k b) (l b i)
leads_map f P Q h (Deciding.ask_type p k) l = λ t i. leads_map f P Q h (k t) (l t i)
leads_map f P Q h (Deciding.ask_global p k) l = λ b i. leads_map f P Q h (k b) (l b i)

-- what a host says, it says
said_holds : (P : Expression → Type 0) (a : Answers) (q : Question) → Holds (said a) P a q
said_holds P a (Question.effects p) = refl
said_holds P a (Question.value_type p) = refl
said_holds P a (Question.global p) = refl

all_said : (P : Expression → Type 0) (a : Answers) (qs : List Question) → AllHold (said a) P a qs
all_said P a [] = tt
all_said P a (q ∷ qs) = (said_holds P a q, all_said P a qs)

pub said_to : (P : Expression → Type 0) (a : Answers) (d : Deciding) → Leads (said a) P d → (y : Expression) → decided a d ≡ Some y → P y
said_to P a d l y e = led_to (said a) P a d l (all_said P a (asked a d)) y e

-- what is true holds in the world
effects_true : (w : World) (p : Part) (b : Bool) → (b ≡ false → WithoutEffects w p) → EffectsIn w b p
effects_true w p true h = tt
effects_true w p false h = h refl

global_true : (w : World) (p : Part) (b : Bool) → (b ≡ true → IsTheLanguagesOwn w p) → GlobalIn w b p
global_true w p true h = h refl
global_true w p false h = tt

true_holds : (P : Expression → Type 0) (w : World) (a : Answers) (q : Question) → TrueAnswer w a q → Holds (true_in w) P a q
true_holds P w a (Question.effects p) h = effects_true w p (a.effects p) h
true_holds P w a (Question.value_type p) h = h
true_holds P w a (Question.global p) h = global_true w p (a.global p) h

all_true : (P : Expression → Type 0) (w : World) (a : Answers) (qs : List Question) → AllTrue w a qs → AllHold (true_in w) P a qs
all_true P w a [] h = tt
all_true P w a (q ∷ qs) h = (true_holds P w a q h.0, all_true P w a qs h.1)

pub truly_to : (P : Expression → Type 0) (w : World) (a : Answers) (d : Deciding) → Leads (true_in w) P d → AllTrue w a (asked a d) → (y : Expression) → decided a d ≡ Some y → P y
truly_to P w a d l h y e = led_to (true_in w) P a d l (all_true P w a (asked a d) h) y e

-- ---- the other way round: conditions that hold decide as if they were not there

pub when_decided : (a : Answers) (b : Bool) (d : Deciding) → b ≡ true → decided a (when b d) ≡ decided a d
unfolding when
when_decided a true d e = refl
when_decided a false d e = let z : ◌≡◌ {A = ℕ} 0 1 = cc in absurd (omega arith)

pub unless_decided : (a : Answers) (b : Bool) (d e : Deciding) → b ≡ false → decided a (unless_effects b d e) ≡ decided a d
unfolding unless_effects
unless_decided a false d e h = refl
unless_decided a true d e h = let z : ◌≡◌ {A = ℕ} 0 1 = cc in absurd (omega arith)

pub cond_decided : (a : Answers) (b : Bool) (d e : Deciding) (z : Option Expression) → (b ≡ true → decided a d ≡ z) → (b ≡ false → decided a e ≡ z) → decided a (cond b d e) ≡ z
cond_decided a true d e z h k = h refl
cond_decided a false d e z h k = k refl
