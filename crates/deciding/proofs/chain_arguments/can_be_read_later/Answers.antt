use Rattle.deciding.proofs.ChainAsked.{read_spread, read_begun, type_refused, type_step, array_step, read_done}
use Rattle.deciding.proofs.chain_arguments.can_be_read_later.Goals as goal
use Rattle.deciding.proofs.chain_arguments.can_be_read_later.Goals.{else-not-is_array-via-then-not-is_array+else-not-is_settled, else-not-is_array-via-else-not-is_array}

pub returns-then-has_spread : goal.returns-then-has_spread
returns-then-has_spread g c = read_spread _ _ _ _ c.has_spread.ensures c.if-has_spread.true

pub loop-argument-init : goal.loop-argument-init
loop-argument-init g c = read_begun _ _ _

pub returns-then-not-is_settled : goal.returns-then-not-is_settled
returns-then-not-is_settled g c =
    type_refused _ _ _ _ c.has_spread.ensures _ c.loop-argument.invariant c.loop-argument-test.true _ c.is_array.ensures c.if-not-is_array.true _ c.value_type.ensures _ c.is_settled.ensures c.if-has_spread.false
    c.if-not-is_settled.true

pub loop-argument-preserved : goal.loop-argument-preserved
loop-argument-preserved g c =
    elim c.else-not-is_array.branch [
      | else-not-is_array-via-then-not-is_array+else-not-is_settled w ↦
          type_step _ _ _ _ c.has_spread.ensures _ c.loop-argument.invariant c.loop-argument-test.true _ c.is_array.ensures w.if-not-is_array.true _ w.value_type.ensures _ w.is_settled.ensures w.if-not-is_settled.false
      | else-not-is_array-via-else-not-is_array w ↦ array_step _ _ _ _ c.has_spread.ensures _ c.loop-argument.invariant c.loop-argument-test.true _ c.is_array.ensures w.if-not-is_array.false
    ]

pub returns : goal.returns
returns g c = read_done _ _ _ _ c.has_spread.ensures _ c.if-has_spread.false c.loop-argument.invariant c.loop-argument-test.false
