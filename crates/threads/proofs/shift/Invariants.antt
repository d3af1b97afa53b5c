-- `threads::shift` meets its contract. The loop's invariant: what is to be shifted from here on is what was to be shifted. Assumes
-- nothing.
use Rattle.threads.proofs.Shifts.{Shifting}
use Rattle.threads.proofs.shift.Given as goal

abbrev pub invariant-loop-k : goal.invariant-loop-k
invariant-loop-k l = Shifting l.i l.v l.initial.s l.s l.k
