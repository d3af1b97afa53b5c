-- `threads::find_ready` meets its contract. The loop's invariant: what is found from here on is what is to be found. Assumes nothing.
use Rattle.std.proofs.Common.{◌≡◌, ◌≤◌, drop}
use Rattle.threads.specs.Row.{found_by}
use Rattle.threads.proofs.find_ready.Given as goal

abbrev pub invariant-loop-i : goal.invariant-loop-i
invariant-loop-i g l =
    record { few : l.ready ≤ l.i; same : found_by g.T.Placed.place l.pick 0 0 l.row ≡ found_by g.T.Placed.place l.pick l.i l.ready (drop l.i l.row) }
