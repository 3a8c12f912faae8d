-- Whole numbers, computed from their bits.
use Rattle.std.proofs.Common.{refl}
use Rattle.meaning.specs.Number.{one, negative, exponent_field, fraction_field, whole_of_fields, whole}
use Rattle.meaning.specs.Laws.{WholeExamples}

pub computed : WholeExamples
unfolding one negative exponent_field fraction_field whole_of_fields whole
computed = (refl, refl, refl, refl, refl, refl, refl, refl, refl, refl)
