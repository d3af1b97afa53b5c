-- `opening::are_fair` meets its contract. The loop's invariant: what is left to test, with the cells given away, is what was to be tested. Assumes nothing.
use Rattle.opening.proofs.Openings.{fair-start, not-fair, no_room, fair-on, fair-end}
use Rattle.opening.proofs.are_fair.Goals as goal

pub loop-k-init : goal.loop-k-init
loop-k-init c = fair-start _ _ c.requires

pub returns-then-not-is_fair : goal.returns-then-not-is_fair
returns-then-not-is_fair c = not-fair c.loop-k.invariant c.loop-k-test.true c.is_fair.ensures (c.if-not-is_fair.true)

pub returns-then-sum-cells : goal.returns-then-sum-cells
returns-then-sum-cells c = no_room c.loop-k.invariant c.loop-k-test.true c.is_fair.ensures c.if-sum-cells.true

pub loop-k-preserved : goal.loop-k-preserved
loop-k-preserved c = fair-on c.loop-k.invariant c.loop-k-test.true c.is_fair.ensures (c.if-not-is_fair.false) c.if-sum-cells.false

pub returns : goal.returns
returns c = fair-end c.loop-k.invariant c.loop-k-test.false
