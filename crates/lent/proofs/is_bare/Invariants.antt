-- `lent::is_bare` meets its contract. The loop's invariant: whether what is tested so far is all zero. Assumes nothing.
use mathlib.Core.Path.{◌≡◌}
use lib.ListN.{take}
use Rattle.laws.specs.Lists.{all}
use Rattle.lent.proofs.is_bare.Given as goal

abbrev pub invariant-loop-x : goal.invariant-loop-x
invariant-loop-x g l = l.bare ≡ all g.T.Zero.is_zero (take l.x-index l.s)
