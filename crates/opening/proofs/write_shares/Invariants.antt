-- `opening::write_shares` meets its contract. The loop's invariant: writing what is left over what stands is writing all. Assumes nothing.
use Rattle.opening.proofs.Openings.{Shared}
use Rattle.opening.proofs.write_shares.Given as goal

abbrev pub invariant-loop-k : goal.invariant-loop-k
invariant-loop-k l = Shared l.shares l.initial.book l.book l.seats l.k
