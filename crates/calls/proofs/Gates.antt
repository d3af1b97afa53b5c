-- A clearing, a load and a report are refused on an unsound state, and on a sound one they are what is said to the seat. Assumes nothing.
use Prim.Native.Nat.{ℕ}
use mathlib.Core.Path.{◌≡◌, ap, sym}
use mathlib.Core.Bool.{true, false}
use mathlib.Core.List.{List}
use Rattle.rules.specs.declared.Report.{Report}
use Rattle.rules.specs.Calls.{clears, blank}
use Rattle.state.specs.State.{State, machine_of, state_sound, claims_of}
use Rattle.calls.specs.Calls.{Moved, moved, said_to, clear_with, clear_call, Loaded, loaded, loaded_in, load_with, load_call, Shown, shown, shown_in, report_with, report_call}

-- "32: lent state unsound"
module _ (s : State) (k : ℕ) (u : state_sound s ≡ false) where
  pub clear-refused : clear_call s k ≡ moved 32 s
  unfolding clear_call claims_of clear_with
  clear-refused = rw u

  pub load-refused : (image : List ℕ) → load_call s k image ≡ loaded 32 0 s
  unfolding load_call claims_of load_with
  load-refused image = rw u

  pub report-refused : {r : Report} → r ≡ blank → report_call s k ≡ shown 32 r
  unfolding report_call claims_of report_with
  report-refused e = rw u (ap (shown 32) (sym e))

module _ (s : State) (k : ℕ) (u : state_sound s ≡ true) where
  pub clear-goes : {r : Moved} → said_to (machine_of s) s k clears ≡ r → clear_call s k ≡ r
  unfolding clear_call claims_of clear_with
  clear-goes e = rw u e

  pub load_goes : (image : List ℕ) {r : Loaded} → loaded_in (machine_of s) s k image ≡ r → load_call s k image ≡ r
  unfolding load_call claims_of load_with
  load_goes image e = rw u e

  pub report-goes : {r : Shown} → shown_in (machine_of s) k ≡ r → report_call s k ≡ r
  unfolding report_call claims_of report_with
  report-goes e = rw u e
