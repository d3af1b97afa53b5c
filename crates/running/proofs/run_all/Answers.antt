-- `running::run_all` meets its contract. The loop's invariant: what is left comes to what was asked. Assumes nothing.
use Rattle.running.proofs.Entries.{run-starts, run-goes-on, run_ends}
use Rattle.running.proofs.run_all.Goals as goal

pub loop-i-init : goal.loop-i-init
loop-i-init c = run-starts _ _ _ _ c.requires.stands c.requires.schedule_len.0 c.requires.schedule_len.1

pub step-answer-requires : goal.step-answer-requires
step-answer-requires c = c.loop-i.invariant.stands

pub loop-i-preserved : goal.loop-i-preserved
loop-i-preserved c = run-goes-on _ _ _ _ c.loop-i.invariant c.loop-i-test.true c.step-answer.ensures c.from.ensures (record { book = c.step-answer.auto.book; tags = c.step-answer.auto.tags; words = c.step-answer.auto.words; heads = c.step-answer.auto.heads; accs = c.step-answer.auto.accs })

pub returns : goal.returns
returns c = run_ends _ _ _ _ c.loop-i.invariant c.loop-i-test.false
