use Rattle.std.proofs.Common.{◌≡◌, take}
use Rattle.template.specs.Grammar.{HexDigits}
use Rattle.template.specs.Fronts.{capped}
use Rattle.template.proofs.raw.escapes.hex_number.Given as goal

abbrev pub invariant-loop-d : goal.invariant-loop-d
invariant-loop-d l = HexDigits (take l.d-index l.digits) × (l.number ≡ capped (take l.d-index l.digits))
