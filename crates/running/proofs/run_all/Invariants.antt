-- `running::run_all` meets its contract. The loop's invariant: what is left comes to what was asked. Assumes nothing.
use Prim.Native.Nat.{◌-◌}
use Rattle.state.specs.State.{state}
use Rattle.running.proofs.Entries.{Reached}
use Rattle.running.proofs.run_all.Given as goal

abbrev pub invariant-loop-i : goal.invariant-loop-i
invariant-loop-i l = Reached l.schedule l.initial.answers (state l.initial.book l.initial.tags l.initial.words l.initial.heads l.initial.accs l.images) l.n l.i (state l.book l.tags l.words l.heads l.accs l.images) l.answers

abbrev pub decreases-loop-i : goal.decreases-loop-i
decreases-loop-i l = l.n - l.i
