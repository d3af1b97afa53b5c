-- `kinds::is_meant` meets its contract: a FLOAT is made, BOOL and FRAME are tested as the table tests them, and every other row means an instruction. Assumes nothing.
use native.Mathlib.Omega.{arith}
use Rattle.kinds.specs.Table.{instruction_kind, instructions}
use Rattle.kinds.proofs.Meant.{truth-tested, frame-tested, untested, unmeant}
use Rattle.kinds.proofs.is_meant.Goals as goal

pub returns-in-3 : goal.returns-in-3
unfolding instruction_kind instructions
returns-in-3 c = rw (c.in-3.is, truth-tested, c.byte_at.ensures)

pub returns-in-14 : goal.returns-in-14
unfolding instruction_kind instructions
returns-in-14 c = rw (c.in-14.is, frame-tested, c.byte_at-in-14.ensures)

pub returns-in-0-to-27 : goal.returns-in-0-to-27
returns-in-0-to-27 c = untested _ _ (λ h. omega arith) (omega arith)

pub returns-in_default : goal.returns-in_default
returns-in_default c = unmeant _ _ (omega arith)
