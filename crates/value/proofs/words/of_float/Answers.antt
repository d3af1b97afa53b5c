-- `value::words::of_float` meets its contract: only a NaN differs from itself. Assumes nothing.
use lib.Ieee.{to_bits}
use Rattle.laws.proofs.Floats.{equals_itself, differs}
use Rattle.value.proofs.words.of_float.Goals as goal

pub float_to_bits-result : goal.float_to_bits-result
float_to_bits-result c = equals_itself c.args.number c.if-number.true

pub returns-else-number : goal.returns-else-number
unfolding to_bits
returns-else-number c = rw (differs c.args.number c.if-number.false)
