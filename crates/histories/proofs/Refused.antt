-- "Refused calls leave every lent byte": from any bytes, a call that does not answer 0 leaves each buffer as it was. Assumes nothing.
use Prim.Native.Nat.{ℕ}
use mathlib.Core.Path.{◌≡◌, refl, ap, ◌∙◌}
use mathlib.Core.Bool.{true, false}
use mathlib.Core.List.{List}
use lib.Dec.{ltb, eqb}
use lib.ListN.{length}
use Rattle.laws.proofs.Absurd.{clash}
use Rattle.laws.proofs.Choice.{tested}
use Rattle.lent.proofs.Kept.{set_same}
use Rattle.rules.specs.Calls.{Machine, claim_at, Event, loads, clears, message, tell, number_in}
use Rattle.rules.specs.Events.{changes}
use Rattle.rules.proofs.Steps.{hear-still}
use Rattle.state.specs.State.{State, laid, machine_of, state_sound, claims_of}
use Rattle.state.proofs.Stands.{sound-stands}
use Rattle.calls.specs.Calls.{Moved, Ran, open_call, ran_on, run_with, run_call, said_to, clear_with, clear_call, loaded_in, load_with, load_call}
use Rattle.histories.proofs.Ends.{Opens, open-ends, Runs, run_ends, load-ends, clear-ends}

-- a message that changes nothing leaves the machine
tell-still : (m : Machine) (k : ℕ) (e : Event) → changes e (number_in (tell m (message k e)).reply) ≡ false → (tell m (message k e)).machine ≡ m
unfolding tell
tell-still m k e f =
    tested (ltb k (length m))
    (λ t. rw (t, hear-still (claim_at m k) e (rw t at f)) (set_same m k _))
    (λ t. rw t)

-- and so a sound state's bytes
still : (s : State) → state_sound s ≡ true → (k : ℕ) (e : Event) → changes e (number_in (tell (machine_of s) (message k e)).reply) ≡ false
    → laid (tell (machine_of s) (message k e)).machine s ≡ s
still s o k e f =
    ap (λ (m : Machine). laid m s) (tell-still (machine_of s) k e f) ∙ (sound-stands s o).same

module _ (s : State) where
  pub load-refused : (k : ℕ) (image : List ℕ) → eqb (load_call s k image).answer 0 ≡ false → (load_call s k image).state ≡ s
  unfolding changes loaded_in
  load-refused k image f =
      tested (state_sound s)
      (λ o. rw (load-ends s o k image) (still s o k (loads image) (rw (load-ends s o k image) at f)))
      (λ o. unfold load_call claims_of load_with in rw o)

  pub clear-refused : (k : ℕ) → eqb (clear_call s k).answer 0 ≡ false → (clear_call s k).state ≡ s
  unfolding changes said_to
  clear-refused k f =
      tested (state_sound s)
      (λ o. rw (clear-ends s o k) (still s o k clears (rw (clear-ends s o k) at f)))
      (λ o. unfold clear_call claims_of clear_with in rw o)

  opens_still : {ns : List ℕ} {r : Moved} → Opens s ns r → eqb r.answer 0 ≡ false → r.state ≡ s
  opens_still (Opens.opens l m) f = clash (cc)
  opens_still (Opens.refuses e) f = refl

  pub open-refused : (ns : List ℕ) → eqb (open_call s ns).answer 0 ≡ false → (open_call s ns).state ≡ s
  open-refused ns = opens_still (open-ends s ns)

  -- the answer buffer too
  pub record RunStill (buffer : List ℕ) (r : Ran) : Type 0 where
    pub state : r.state ≡ s
    pub answers : r.answers ≡ buffer

  runs-still : {schedule answers : List ℕ} {r : Ran} → Runs s schedule answers r → eqb r.answer 0 ≡ false → RunStill answers r
  unfolding ran_on
  runs-still Runs.runs f = clash (cc)
  runs-still (Runs.refuses e g) f = record { state = refl; answers = refl }

  pub run-refused : (schedule answers : List ℕ) → eqb (run_call s schedule answers).answer 0 ≡ false → RunStill answers (run_call s schedule answers)
  run-refused schedule answers f =
      tested (state_sound s)
      (λ o. runs-still (run_ends s o schedule answers) f)
      (λ o. unfold run_call claims_of run_with in rw o (record { state = refl; answers = refl }))
