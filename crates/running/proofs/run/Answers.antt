-- `running::run` meets its contract: a refusal, or what the entries come to. Assumes nothing.
use native.Mathlib.Omega.{arith}
use mathlib.Core.Path.{sym, ◌∙◌}
use Rattle.state.proofs.Stands.{sound-stands}
use Rattle.running.proofs.run.Goals as goal

pub run_all-requires : goal.run_all-requires
run_all-requires c = record { stands = sound-stands _ (sym c.is_sound.ensures ∙ c.if-not-is_sound.false); schedule_len = (omega arith, omega arith) }
