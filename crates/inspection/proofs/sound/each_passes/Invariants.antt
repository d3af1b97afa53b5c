-- `inspection::sound::each_passes` meets its contract. The loop's invariant: what is left to test is what was to be tested. Assumes nothing.
use Rattle.std.specs.Iterator.Adapters.{zip_first, zip_second}
use Rattle.std.specs.Slice.Iter.{iter_rest}
use Rattle.inspection.proofs.Pairs.{Paired}
use Rattle.inspection.proofs.sound.each_passes.Given as goal

abbrev pub invariant-loop-number : goal.invariant-loop-number
invariant-loop-number g l = Paired (g.J.Judge.passes l.judge) l.numbers l.words (iter_rest (zip_first l.number-iterator)) (iter_rest (zip_second l.number-iterator))
