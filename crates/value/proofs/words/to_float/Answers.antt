-- `value::words::to_float` meets its contract: the test of the exponent's bits is that of a finite float. Assumes nothing.
use borrow.Author.Tests.{eq-eqb, ne_eqb}
use Rattle.laws.proofs.Floats.{pattern, finite-pattern}
use Rattle.value.specs.Coding.{float_in}
use Rattle.value.proofs.words.to_float.Goals as goal

pub returns-then-word-eq2047 : goal.returns-then-word-eq2047
unfolding float_in
returns-then-word-eq2047 c = rw (pattern, eq-eqb _ _ c.if-word-eq2047.true)

pub float_from_bits-result : goal.float_from_bits-result
float_from_bits-result c = finite-pattern _ (rw pattern (rw (ne_eqb _ _ c.if-word-eq2047.false)))

pub returns : goal.returns
unfolding float_in
returns c = rw (pattern, ne_eqb _ _ c.if-word-eq2047.false)
