-- `opening::are_fair` meets its contract. The loop's invariant: what is left to test, with the cells given away, is what was to be tested. Assumes nothing.
use Rattle.opening.proofs.Openings.{FairLeft}
use Rattle.opening.proofs.are_fair.Given as goal

abbrev pub invariant-loop-k : goal.invariant-loop-k
invariant-loop-k l = FairLeft l.shares l.seats l.sum l.k
