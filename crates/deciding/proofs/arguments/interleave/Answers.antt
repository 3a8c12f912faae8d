use Rattle.std.proofs.Common.{◌≡◌, ◌+◌, ◌<◌, true, inl, inr, ◌⊎◌, length, arith}
use Rattle.deciding.proofs.Interleaves.{begun, quiet_step, refuse, type_step, last_step, finish}
use Rattle.deciding.proofs.arguments.interleave.Goals as goal
use Rattle.deciding.proofs.arguments.interleave.Goals.{then-may_coerce_object+else-may_have_side_effects, else-may_coerce_object+then-is_followed, then-is_followed-via-then-is_followed, then-is_followed-via-else-is_followed+then-i-arguments, else-may_coerce_object+else-is_followed+else-i-arguments}

pub loop-i-init : goal.loop-i-init
loop-i-init g c = begun _ _ _ _ _

pub returns-then-may_have_side_effects : goal.returns-then-may_have_side_effects
returns-then-may_have_side_effects g c =
    refuse _ _ _ _ _ _ _ _ c.if-may_coerce_object.true c.if-may_have_side_effects.true c.loop-i.invariant c.loop-i-test.true c.may_have_side_effects.ensures

pub loop-i-preserved : goal.loop-i-preserved
loop-i-preserved g c =
    elim c.if-may_coerce_object.branch [
      | then-may_coerce_object+else-may_have_side_effects w ↦
          quiet_step _ _ _ _ _ _ _ _ _ w.if-may_coerce_object.true w.if-may_have_side_effects.false w.may_coerce_object-is c.loop-i.invariant c.loop-i-test.true w.may_have_side_effects.ensures
      | else-may_coerce_object+then-is_followed w ↦
          let more : (c.args.is_followed ≡ true) ⊎ (c.loop-i.i + 1 < length c.args.arguments.now) = elim w.then-is_followed.branch [
            | then-is_followed-via-then-is_followed v ↦ inl v.if-is_followed.true
            | then-is_followed-via-else-is_followed+then-i-arguments v ↦ inr v.if-i-arguments.true
          ] in
          type_step _ _ _ _ _ _ _ _ _ _ w.if-may_coerce_object.false w.is_settled-may_coerce_object.ensures w.may_coerce_object-is c.loop-i.invariant c.loop-i-test.true more w.value_type.ensures
      | else-may_coerce_object+else-is_followed+else-i-arguments w ↦
          last_step _ _ _ _ _ _ _ _ w.if-may_coerce_object.false w.may_coerce_object-is c.loop-i.invariant c.loop-i-test.true w.if-is_followed.false w.if-i-arguments.false
    ]

pub returns : goal.returns
returns g c = finish _ _ _ _ _ _ _ c.loop-i.invariant (omega arith)
