use Rattle.deciding.proofs.Indexes.{zero_index, outside, broken, unbroken, index_held}
use Rattle.deciding.proofs.integer_index.to_integer_index.Goals as goal

pub returns-then-bits-eq0 : goal.returns-then-bits-eq0
returns-then-bits-eq0 c = zero_index _ c.then-bits-eq0.either

pub returns-then-exponent-lt-EXPONENT_OF_ONE : goal.returns-then-exponent-lt-EXPONENT_OF_ONE
returns-then-exponent-lt-EXPONENT_OF_ONE c = outside _ c.if-bits-eq0.false c.if-bits-eq-NEGATIVE_ZERO.false c.then-exponent-lt-EXPONENT_OF_ONE.either

pub returns-then-significand-one-ne0 : goal.returns-then-significand-one-ne0
returns-then-significand-one-ne0 c = broken _ c.if-bits-eq0.false c.if-bits-eq-NEGATIVE_ZERO.false c.if-exponent-lt-EXPONENT_OF_ONE.false c.if-exponent-ge-EXPONENT_OF_FRACTIONS.false c.if-significand-one-ne0.true

pub returns : goal.returns
returns c =
    index_held _ _ _ _ c.ok.ensures.value c.try_from.ensures
    (unbroken _ c.if-bits-eq0.false c.if-bits-eq-NEGATIVE_ZERO.false c.if-exponent-lt-EXPONENT_OF_ONE.false c.if-exponent-ge-EXPONENT_OF_FRACTIONS.false c.if-significand-one-ne0.false)
