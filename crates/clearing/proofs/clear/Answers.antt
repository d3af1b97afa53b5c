-- `clearing::clear` meets its contract: an unsound state is refused, and on a sound one it is the seat's clearing. Assumes nothing.
use Rattle.laws.proofs.Answers.{failed, passed}
use Rattle.state.proofs.Stands.{sound-stands}
use Rattle.calls.proofs.Gates.{clear-refused, clear-goes}
use Rattle.clearing.proofs.clear.Goals as goal

pub returns-then-not-is_sound-clause-outcome : goal.returns-then-not-is_sound-clause-outcome
returns-then-not-is_sound-clause-outcome c = clear-refused _ _ (failed c.is_sound.ensures c.if-not-is_sound.true)

pub clear_in-requires : goal.clear_in-requires
clear_in-requires c = sound-stands _ (passed c.is_sound.ensures c.if-not-is_sound.false)

pub returns-clause-outcome : goal.returns-clause-outcome
returns-clause-outcome c = clear-goes _ _ (passed c.is_sound.ensures c.if-not-is_sound.false) c.clear_in.ensures.outcome
