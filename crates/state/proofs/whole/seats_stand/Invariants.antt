-- `state::whole::seats_stand` meets its contract. The loop's invariant: what is left to test is what was to be tested. Assumes nothing.
use Rattle.state.specs.State.{state_of}
use Rattle.state.proofs.Testing.{Left}
use Rattle.state.proofs.whole.seats_stand.Given as goal

abbrev pub invariant-loop-k : goal.invariant-loop-k
invariant-loop-k l = Left (state_of l.lent) l.k l.a
