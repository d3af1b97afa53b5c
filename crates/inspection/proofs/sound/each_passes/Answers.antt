-- `inspection::sound::each_passes` meets its contract: a pair that passes goes on, one that fails ends the test. Assumes nothing.
use Rattle.std.proofs.Common.{sym, ◌∙◌}
use Rattle.std.proofs.lemmas.Iterator.{empty_from_Zip}
use Rattle.inspection.proofs.Pairs.{pair-on, pair-off, pair_end}
use Rattle.inspection.proofs.sound.each_passes.Goals as goal

pub returns-then-not-passes : goal.returns-then-not-passes
returns-then-not-passes g c = pair-off c.loop-number.invariant c.in-Some.ensures.steps.0 c.in-Some.ensures.steps.1 (sym c.passes.ensures ∙ c.if-not-passes.true)

pub loop-number-preserved : goal.loop-number-preserved
loop-number-preserved g c = pair-on c.loop-number.invariant c.in-Some.ensures.steps.0 c.in-Some.ensures.steps.1 (sym c.passes.ensures ∙ c.if-not-passes.false)

pub returns : goal.returns
returns g c = let e = empty_from_Zip c.loop-number.number-iterator c.next.new.self _ c.in-None.is c.next.ensures.steps c.loop-number.invariant.even in pair_end c.loop-number.invariant e.0 e.1
