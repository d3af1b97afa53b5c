-- `lodging::write_inputs` meets its contract. The loop's invariant: filling from here comes to what it comes to from the start. Assumes nothing.
use Rattle.lodging.specs.Lodged.{cells}
use Rattle.lodging.proofs.Inputs.{Filling}
use Rattle.lodging.proofs.write_inputs.Given as goal

abbrev pub invariant-loop-i : goal.invariant-loop-i
invariant-loop-i l = Filling l.n l.image (cells l.initial.tags l.initial.words) l.at l.i (cells l.tags l.words)
