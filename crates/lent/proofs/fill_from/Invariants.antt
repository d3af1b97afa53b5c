-- `lent::fill_from` meets its contract. The loop's invariant: the first i of the run are written. Assumes nothing.
use mathlib.Core.Path.{◌≡◌}
use Rattle.lent.specs.Runs.{filled_from}
use Rattle.lent.proofs.fill_from.Given as goal

abbrev pub invariant-loop-i : goal.invariant-loop-i
invariant-loop-i g l = l.s ≡ filled_from l.from l.i l.v l.initial.s
