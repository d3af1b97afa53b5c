-- `lent::overlay` meets its contract. The loop's invariant: the first i are copied, and the rest is as before. Assumes nothing.
use mathlib.Core.Path.{◌≡◌}
use mathlib.Core.List.{◌++◌}
use lib.ListN.{take, drop}
use Rattle.lent.proofs.overlay.Given as goal

abbrev pub invariant-loop-i : goal.invariant-loop-i
invariant-loop-i g l = l.to ≡ take l.i l.from ++ drop l.i l.initial.to
