-- `threads::wake` meets its contract. The loop's invariant: all from index j on are woken, and those before not yet. Assumes nothing.
use Rattle.threads.proofs.Wakes.{Waking}
use Rattle.threads.proofs.wake.Given as goal

abbrev pub invariant-loop-j : goal.invariant-loop-j
invariant-loop-j l = Waking l.place l.initial.heads l.initial.accs l.heads l.accs l.j
