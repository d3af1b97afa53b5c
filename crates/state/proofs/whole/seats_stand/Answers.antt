-- `state::whole::seats_stand` meets its contract. The loop's invariant: what is left to test is what was to be tested. Assumes nothing.
use Rattle.std.proofs.Common.{rules}
use Rattle.state.proofs.Testing.{left-ends, left-on, left-end}
use Rattle.state.proofs.whole.seats_stand.Goals as goal

pub returns-in-Break : goal.returns-in-Break
returns-in-Break c = left-ends c.loop-k.invariant c.loop-k-test.true c.ahead.ensures c.first_of.ensures c.in-Break.is

pub overflow_add-a : goal.overflow_add-a
overflow_add-a c = let i = (left-on c.loop-k.invariant c.loop-k-test.true c.ahead.ensures c.first_of.ensures c.in-Continue.is).inside in search rules

pub loop-k-preserved : goal.loop-k-preserved
loop-k-preserved c = left-on c.loop-k.invariant c.loop-k-test.true c.ahead.ensures c.first_of.ensures c.in-Continue.is

pub returns : goal.returns
returns c = left-end c.loop-k.invariant c.loop-k-test.false c.ahead-2.ensures c.is_bare.ensures
