-- `threads::wake` meets its contract. The loop's invariant: all from index j on are woken, and those before not yet. Assumes nothing.
use Rattle.std.proofs.Common.{arith}
use Rattle.threads.proofs.Wakes.{wake-start, wake-move, wake-keep}
use Rattle.threads.proofs.wake.Goals as goal

pub loop-j-init : goal.loop-j-init
loop-j-init c = wake-start c.requires

pub loop-j-preserved-then-place : goal.loop-j-preserved-then-place
loop-j-preserved-then-place c =
    rw (c.shift.ensures, c.shift-then-place.ensures, c.made_ready.ensures) (wake-move c.loop-j.invariant (omega arith) c.place.ensures c.if-place.true)

pub loop-j-preserved : goal.loop-j-preserved
loop-j-preserved c = wake-keep c.loop-j.invariant (omega arith) c.place.ensures c.if-place.false
