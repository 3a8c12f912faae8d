-- Reading the words of a request that are no text: the name of the call, and a number.
use Rattle.std.specs.Prelude.{◌≡◌, ℕ, ◌^◌, ◌<◌, List, codes, Result, MatchResult, ◌≢◌}
use Rattle.std.specs.Str.Parse.{IsNumeral, digits_value}
use Rattle.script.specs.declared.request.Call.{Call}
use Rattle.script.specs.declared.request.Call.TheVariants.{Escape, Cook}
use Rattle.script.specs.declared.flaw.Flaw.{Flaw}

abbrev pub name_of : Call → List ℕ
name_of Escape = codes "escape"
name_of Cook = codes "cook"

abbrev pub CallRead : List ℕ → Result Call Flaw → Type 0
CallRead word r = MatchResult r (λ call. name_of call ≡ word) (λ _. (call : Call) → name_of call ≢ word)

-- A numeral is read as its value, and refused where 64 bits do not hold that.
abbrev pub NumberRead : List ℕ → Result ℕ Flaw → Type 0
NumberRead word r = MatchResult r (λ n. IsNumeral 10 word × (digits_value 10 word ≡ n)) (λ _. IsNumeral 10 word → digits_value 10 word < 2 ^ 64 → ⊥)
