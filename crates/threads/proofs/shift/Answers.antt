-- `threads::shift` meets its contract. The loop's invariant: what is to be shifted from here on is what was to be shifted; past the
-- end nothing is. Assumes nothing.
use Rattle.std.proofs.Common.{◌≡◌, ◌-◌, length, arith}
use Rattle.threads.proofs.Shifts.{shift-start, shift-on, shift-end, shift_none}
use Rattle.threads.proofs.shift.Goals as goal

pub loop-k-init : goal.loop-k-init
loop-k-init c = shift-start c.if-i-s.true

pub loop-k-preserved : goal.loop-k-preserved
loop-k-preserved c = let h = c.loop-k.invariant in shift-on h (omega (arith, h.long, c.loop-k-test.true))

pub returns-else-i-s : goal.returns-else-i-s
returns-else-i-s c = shift_none _ _ _ c.if-i-s.false

pub returns-after-loop-k : goal.returns-after-loop-k
returns-after-loop-k c =
    let h = c.loop-k.invariant in
    let k : length c.args.s.now - 1 ≡ c.loop-k.k = omega (arith, h.long, h.below, c.loop-k-test.false) in
    rw k (shift-end h (omega (arith, h.long, c.loop-k-test.false)))
