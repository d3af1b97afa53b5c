-- `loading::load` meets its contract: an unsound state is refused, and on a sound one it is the seat's load. Assumes nothing.
use Rattle.laws.proofs.Answers.{failed, passed}
use Rattle.state.proofs.Stands.{sound-stands}
use Rattle.calls.proofs.Gates.{load-refused, load_goes}
use Rattle.loading.proofs.load.Goals as goal

pub returns-then-not-is_sound : goal.returns-then-not-is_sound
returns-then-not-is_sound c = load-refused _ _ (failed c.is_sound.ensures c.if-not-is_sound.true) _

pub load_in-requires : goal.load_in-requires
load_in-requires c = sound-stands _ (passed c.is_sound.ensures c.if-not-is_sound.false)

pub returns : goal.returns
returns c = load_goes _ _ (passed c.is_sound.ensures c.if-not-is_sound.false) _ c.load_in.ensures
