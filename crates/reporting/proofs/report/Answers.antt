-- `reporting::report` meets its contract: an unsound state is refused, and on a sound one it is the seat's report. Assumes nothing.
use mathlib.Core.Path.{refl}
use Rattle.laws.proofs.Answers.{failed, passed}
use Rattle.state.proofs.Stands.{sound-stands}
use Rattle.calls.proofs.Gates.{report-refused, report-goes}
use Rattle.reporting.proofs.report.Goals as goal

pub returns-then-not-is_sound-clause-outcome : goal.returns-then-not-is_sound-clause-outcome
returns-then-not-is_sound-clause-outcome c = report-refused _ _ (failed c.is_sound.ensures c.if-not-is_sound.true) refl

pub report_in-requires : goal.report_in-requires
report_in-requires c = sound-stands _ (passed c.is_sound.ensures c.if-not-is_sound.false)

pub returns-clause-outcome : goal.returns-clause-outcome
returns-clause-outcome c = report-goes _ _ (passed c.is_sound.ensures c.if-not-is_sound.false) c.report_in.ensures.outcome
