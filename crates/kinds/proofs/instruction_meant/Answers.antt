-- `kinds::instruction_meant` meets its contract: each kind's meaning is the table's. Assumes nothing.
use native.Mathlib.Omega.{arith}
use Rattle.kinds.specs.Table.{instruction_kind, instructions}
use Rattle.kinds.proofs.Rows.{no-instruction}
use Rattle.kinds.proofs.instruction_meant.Goals as goal

pub returns-in-2 : goal.returns-in-2
unfolding instruction_kind instructions
returns-in-2 c = rw (c.in-2.is, c.float_meant.ensures, c.word_of-in-2.ensures)

pub returns-in_default : goal.returns-in_default
returns-in_default c = no-instruction _ _ (omega arith)
