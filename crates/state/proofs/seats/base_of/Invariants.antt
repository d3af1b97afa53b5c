-- `state::seats::base_of` meets its contract. The loop's invariant: the sum of the first i shares, each below 2 ^ 32. Assumes nothing.
use Rattle.state.specs.Seats.{Base}
use Rattle.state.proofs.seats.base_of.Given as goal

abbrev pub invariant-loop-i : goal.invariant-loop-i
invariant-loop-i l = Base l.book l.i l.sum
