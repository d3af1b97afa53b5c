-- `state::whole::is_sound` meets its contract. Assumes nothing.
use Rattle.std.proofs.Common.{sym, ◌∙◌, subst}
use Rattle.state.specs.State.{Long}
use Rattle.state.proofs.Stands.{long-enough, within-long}
use Rattle.state.proofs.whole.is_sound.Goals as goal

pub within-requires : goal.within-requires
within-requires c = long-enough _ (sym c.is_long.ensures ∙ c.if-not-is_long.false)

pub seats_stand-requires : goal.seats_stand-requires
seats_stand-requires c = subst (Long 8 2048) (sym c.within.ensures) (within-long _ (long-enough _ (sym c.is_long.ensures ∙ c.if-not-is_long.false)))
