-- `opening::write_shares` meets its contract. The loop's invariant: writing what is left over what stands is writing all. Assumes nothing.
use Rattle.opening.proofs.Openings.{shares-start, shares-on, shares-end}
use Rattle.opening.proofs.write_shares.Goals as goal

pub loop-k-init : goal.loop-k-init
loop-k-init c = shares-start _ _ _ c.requires

pub loop-k-preserved : goal.loop-k-preserved
loop-k-preserved c = rw (c.put-in-loop-k.ensures, c.put.ensures) (shares-on c.loop-k.invariant c.loop-k-test.true)

pub returns : goal.returns
returns c = shares-end c.loop-k.invariant c.loop-k-test.false
