-- The laws of the rules.
use Rattle.std.specs.Prelude.{◌≡◌, ℕ, ◌<◌, List, [], ◌∷◌, Some, ◌⊎◌, ◌↔◌}
use Rattle.tree.specs.declared.node.FirstChild.{FirstChild}
use Rattle.meaning.specs.Expression.{Expression, NoMember}
use Rattle.meaning.specs.World.{World}
use Rattle.meaning.specs.Premises.{Premises}
use Rattle.meaning.specs.Replacing.{Keeps, Swap}
use Rattle.host.specs.Answers.{Answers, Question}
use Rattle.host.specs.Truth.{TrueAnswer}
use Rattle.rules.specs.Places.{Role, Settings, TakesValue}
use Rattle.rules.specs.Facts.{said}
use Rattle.rules.specs.Indexed.{PropertyBecomes}
use Rattle.rules.specs.MethodBecomes.{MethodBecomes}
use Rattle.rules.specs.ChainBecomes.{ChainBecomes}
use Rattle.rules.specs.Deciding.{Deciding, decided, asked}
use Rattle.rules.specs.Property.{property_rule}
use Rattle.rules.specs.Method.{method_rule}
use Rattle.rules.specs.Chain.{chain_rule}
use Rattle.rules.specs.Size.{size}

-- Each answer that was asked for is true in a world. (No origin: a notion of ours.)
abbrev pub AllTrue : World → Answers → List Question → Type 0
AllTrue w a [] = Unit {0}
AllTrue w a (q ∷ qs) = TrueAnswer w a q × AllTrue w a qs

-- What replaces an expression fits its place: where it is taken as a reference, nothing becomes a member or ceases to
-- be one. ECMA-262, "The Reference Record Specification Type".
abbrev pub Fits : Role → (old new : Expression) → Type 0
Fits Role.ordinary x y = Unit {0}
Fits Role.concat_object x y = Unit {0}
Fits Role.referred x y = (NoMember x × NoMember y) ⊎ (x ≡ y)

-- In a world with the premises: what an expression becomes by a host, if those of its answers that were asked for are
-- true there, has the same runs, and is calm where it was; and it fits where it stands.
abbrev pub KeepsMeaning : World → (ℕ → Role → Expression → Deciding) → Type 0
KeepsMeaning w rule =
    Premises w → (next : ℕ) (r : Role) (x y : Expression) (a : Answers)
    → AllTrue w a (asked a (rule next r x)) → decided a (rule next r x) ≡ Some y → Keeps w x y × Fits r x y

-- Of each rule.
abbrev pub ChainKeepsMeaning : World → Type 0
ChainKeepsMeaning w = (s : Settings) → KeepsMeaning w (chain_rule s)

abbrev pub MethodKeepsMeaning : World → Type 0
MethodKeepsMeaning w = (s : Settings) → KeepsMeaning w (method_rule s)

abbrev pub PropertyKeepsMeaning : World → Type 0
PropertyKeepsMeaning w = KeepsMeaning w property_rule

-- By a host's answers an expression becomes another by a rule exactly where the rule's relation says so.
abbrev pub ChainRewritesExactlyWhen : Type 0
ChainRewritesExactlyWhen =
    (a : Answers) (s : Settings) (next : ℕ) (r : Role) (x y : Expression)
    → (decided a (chain_rule s next r x) ≡ Some y) ↔ ChainBecomes (said a) s next r x y

abbrev pub MethodRewritesExactlyWhen : Type 0
MethodRewritesExactlyWhen =
    (a : Answers) (s : Settings) (next : ℕ) (r : Role) (x y : Expression)
    → (decided a (method_rule s next r x) ≡ Some y) ↔ MethodBecomes (said a) s next r x y

abbrev pub PropertyRewritesExactlyWhen : Type 0
PropertyRewritesExactlyWhen =
    (a : Answers) (next : ℕ) (r : Role) (x y : Expression)
    → (decided a (property_rule next r x) ≡ Some y) ↔ (TakesValue r × PropertyBecomes (said a) next x y)

-- Each rewrite, by the answers of any host, makes the expression smaller.
abbrev pub ARewriteMakesItSmaller : Type 0
ARewriteMakesItSmaller =
    (a : Answers) (s : Settings) (next : ℕ) (r : Role) (x y : Expression)
    → (decided a (chain_rule s next r x) ≡ Some y → size y < size x)
    × (decided a (method_rule s next r x) ≡ Some y → size y < size x)
    × (decided a (property_rule next r x) ≡ Some y → size y < size x)

-- And so a whole in which it is made at one place.
abbrev pub ASmallerPartMakesTheWholeSmaller : Type 0
ASmallerPartMakesTheWholeSmaller = (old new x y : Expression) (taken : FirstChild) → size new < size old → Swap old new taken x y → size y < size x
