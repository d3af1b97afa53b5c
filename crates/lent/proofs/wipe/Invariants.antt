-- `lent::wipe` meets its contract. The loop's invariant: the first i are zero, and the rest is as before. Assumes nothing.
use mathlib.Core.Path.{◌≡◌}
use mathlib.Core.List.{◌++◌}
use lib.ListN.{drop, replicate}
use Rattle.lent.proofs.wipe.Given as goal

abbrev pub invariant-loop-x : goal.invariant-loop-x
invariant-loop-x g l = l.s ≡ replicate l.x-index g.T.Zero.ZERO ++ drop l.x-index l.initial.s
