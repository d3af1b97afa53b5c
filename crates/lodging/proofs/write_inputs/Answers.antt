-- `lodging::write_inputs` meets its contract. The loop's invariant: filling from here comes to what it comes to from the start. Assumes nothing.
use mathlib.Core.Path.{ap}
use Rattle.lodging.proofs.Inputs.{is_input, filling-starts, filling-goes-on, filling-stops, filling-ends}
use Rattle.lodging.proofs.write_inputs.Goals as goal

pub loop-i-init : goal.loop-i-init
loop-i-init c = filling-starts _ _ _

pub loop-i-preserved : goal.loop-i-preserved
loop-i-preserved c =
    let a = c.in-Ok-Input-default in
    filling-goes-on _ _ _ _ _ _ _ c.loop-i.invariant c.whole_at.ensures (rw a.field-0-0-is at a.is) c.loop-i-test.true c.encode-c.ensures c.put.ensures c.put-in-Ok-Input-default.ensures

pub returns-in-Ok-Slots-default : goal.returns-in-Ok-Slots-default
returns-in-Ok-Slots-default c = let a = c.in-Ok-Slots-default in filling-stops _ _ _ _ _ _ _ c.loop-i.invariant c.whole_at.ensures (ap is_input (rw a.field-0-0-is at a.is))

pub returns-in-Ok-Code-default : goal.returns-in-Ok-Code-default
returns-in-Ok-Code-default c = let a = c.in-Ok-Code-default in filling-stops _ _ _ _ _ _ _ c.loop-i.invariant c.whole_at.ensures (ap is_input (rw a.field-0-0-is at a.is))

pub returns-in-Err : goal.returns-in-Err
returns-in-Err c = filling-stops _ _ _ _ _ _ _ c.loop-i.invariant c.whole_at.ensures (ap is_input c.in-Err.is)

pub returns : goal.returns
returns c = filling-ends _ _ _ _ _ _ _ c.loop-i.invariant c.loop-i-test.false
