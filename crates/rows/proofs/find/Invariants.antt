-- `rows::find` meets its contract. The loop's invariant: what is found from the next four heads on is what is to be found. Assumes nothing.
use Rattle.std.proofs.Common.{◌-◌}
use Rattle.rows.proofs.Fours.{Sought}
use Rattle.rows.proofs.find.Given as goal

abbrev pub invariant-loop-i : goal.invariant-loop-i
invariant-loop-i l = Sought l.pick l.heads l.i l.before

abbrev pub decreases-loop-i : goal.decreases-loop-i
decreases-loop-i l = l.i-end - l.i
