-- What each call comes to, from any bytes: 32 just where the state is unsound, else what the rules say of the claims in it. Assumes nothing.
use Prim.Native.Nat.{ℕ, ◌/◌, ◌%◌}
use mathlib.Core.Path.{◌≡◌, refl}
use mathlib.Core.Bool.{Bool, true, false, ◌&&◌, not}
use mathlib.Core.Option.{none, some}
use mathlib.Core.List.{List}
use lib.ListN.{length}
use lib.Dec.{leb, ltb, eqb}
use Rattle.std.specs.Prelude.{if◌then◌else◌}
use Rattle.laws.specs.Lists.{is_none}
use Rattle.laws.proofs.Choice.{second, tested, either_way}
use Rattle.std.specs.Prelude.{Ok, Err}
use Rattle.image.specs.declared.reader.Fault.TheVariants.{TooLong, BadAt}
use Rattle.image.specs.Reading.{Verdict, read_image, number_of}
use Rattle.rules.specs.declared.Effect.{Effect}
use Rattle.rules.specs.declared.Effect.TheVariants.{Goes, Ends, Waits, Fills, Empties, Makes, Spawns, Refuses}
use Rattle.rules.specs.Claim.{Claim, status_of, ready_count, seek}
use Rattle.rules.specs.Turn.{answer_of, effect_at, is_running, Turned, ran, turn}
use Rattle.rules.specs.Calls.{Machine, claim_at, Event, picks, loads, asks, clears, Loading, load_by, load, clear, hear, Message, message, Told, tell, absent, opened, may_open, number_in}
use Rattle.state.specs.State.{State, long, laid, machine_of, state_sound, claims_of}
use Rattle.calls.specs.Calls as Calls
use Rattle.calls.specs.Calls.{shares_in, Moved, moved, Ran, open_call, ran_on, run_with, run_call, said_to, clear_with, clear_call, loaded_in, load_with, load_call, shown_in, report_with, report_call}

-- ---- an opening

-- the seats that it fixed lie there bare, or nothing changed
pub data Opens (s : State) (ns : List ℕ) : Moved → Type 0 where
  opens : long s ≡ true → may_open (shares_in ns) ≡ true → Opens s ns (moved 0 (laid (opened 0 (shares_in ns)) s))
  refuses : {n : ℕ} → eqb n 0 ≡ false → Opens s ns (moved n s)

pub open-ends : (s : State) (ns : List ℕ) → Opens s ns (open_call s ns)
unfolding open_call
open-ends s ns =
    either_way (Opens s ns) (long s)
    (λ l. either_way (Opens s ns) (eqb (length ns % 2) 0 && may_open (shares_in ns)) (λ e. opens l (second (eqb (length ns % 2) 0) (may_open (shares_in ns)) e)) (λ _. refuses refl))
    (λ _. refuses refl)

-- ---- the rules never answer 32

module _ (c : Claim) (image : List ℕ) where
  load-by-not-32 : (v : Verdict) → eqb (load_by c image v).number 32 ≡ false
  unfolding load_by number_of
  load-by-not-32 (Err TooLong) = refl
  load-by-not-32 (Err (BadAt p)) = refl
  load-by-not-32 (Ok g) = either_way (λ (x : Loading). eqb x.number 32 ≡ false) (leb g.slots c.seat.cells) (λ _. refl) (λ _. refl)

  load-not-32 : eqb (load c image).number 32 ≡ false
  unfolding load
  load-not-32 = either_way (λ (x : Loading). eqb x.number 32 ≡ false) (is_none c.image) (λ _. load-by-not-32 (read_image image)) (λ _. refl)

effect-not-32 : (e : Effect) → eqb (answer_of e) 32 ≡ false
unfolding answer_of
effect-not-32 (Goes t) = refl
effect-not-32 Ends = refl
effect-not-32 (Waits t l) = refl
effect-not-32 (Fills t k l v) = refl
effect-not-32 (Empties t l) = refl
effect-not-32 (Makes t k n) = refl
effect-not-32 (Spawns t new) = refl
effect-not-32 (Refuses n) = refl

abbrev TurnedNot32 : Turned → Type 0
TurnedNot32 t = eqb t.answer 32 ≡ false

module _ (c : Claim) where
  turn-not-32 : (p : ℕ) → eqb (turn c p).answer 32 ≡ false
  unfolding turn ran
  turn-not-32 p =
      either_way TurnedNot32 (not (is_running (status_of c))) (λ _. refl) λ _.
      either_way TurnedNot32 (eqb c.steps 4294967295) (λ _. refl) λ _.
      either_way TurnedNot32 (not (ltb p (ready_count c))) (λ _. refl) λ _. effect-not-32 (effect_at c (seek c.row p))

  clear-not-32 : eqb (clear c).answer 32 ≡ false
  unfolding clear
  clear-not-32 = either_way TurnedNot32 (is_none c.image) (λ _. refl) (λ _. refl)

  hear-not-32 : (e : Event) → eqb (number_in (hear c e).reply) 32 ≡ false
  unfolding hear number_in
  hear-not-32 (picks p) = turn-not-32 p
  hear-not-32 (loads image) = load-not-32 c image
  hear-not-32 asks = refl
  hear-not-32 clears = clear-not-32

absent-not-32 : (e : Event) → eqb (number_in (absent e)) 32 ≡ false
unfolding absent number_in
absent-not-32 (picks p) = refl
absent-not-32 (loads image) = refl
absent-not-32 asks = refl
absent-not-32 clears = refl

pub tell-not-32 : (m : Machine) (e : Message) → eqb (number_in (tell m e).reply) 32 ≡ false
unfolding tell
tell-not-32 m e =
    either_way (λ (t : Told). eqb (number_in t.reply) 32 ≡ false) (ltb e.to (length m))
    (λ _. hear-not-32 (claim_at m e.to) e.says) (λ _. absent-not-32 e.says)

-- ---- the other calls

-- "33, 34: run: odd or over-long schedule; answer buffer too short"
abbrev pub run_number : List ℕ → List ℕ → ℕ
run_number schedule answers =
    if eqb (length schedule % 2) 0 && leb (length schedule) 65534 then (if leb (length schedule / 2) (length answers) then 0 else 34) else 33

module _ (s : State) where
  claims-sound : state_sound s ≡ true → claims_of s ≡ some (machine_of s)
  unfolding claims_of
  claims-sound e = rw e

  claims-unsound : state_sound s ≡ false → claims_of s ≡ none
  unfolding claims_of
  claims-unsound e = rw e

  -- a run goes through, or nothing changed
  pub data Runs (schedule answers : List ℕ) : Ran → Type 0 where
    runs : Runs schedule answers (ran_on (machine_of s) s schedule answers)
    refuses : {n : ℕ} → eqb n 0 ≡ false → eqb n 32 ≡ false → Runs schedule answers (Calls.ran n s answers)

  runs-with : (schedule answers : List ℕ) → Runs schedule answers (run_with (some (machine_of s)) s schedule answers)
  unfolding run_with
  runs-with schedule answers =
      either_way (Runs schedule answers) (eqb (length schedule % 2) 0 && leb (length schedule) 65534)
      (λ _. either_way (Runs schedule answers) (leb (length schedule / 2) (length answers)) (λ _. runs) (λ _. refuses refl refl))
      (λ _. refuses refl refl)

  module _ (e : state_sound s ≡ true) where
    pub run_ends : (schedule answers : List ℕ) → Runs schedule answers (run_call s schedule answers)
    unfolding run_call
    run_ends schedule answers = rw (claims-sound e) (runs-with schedule answers)

    -- its own number depends on lengths alone
    pub run-number : (schedule answers : List ℕ) → (run_call s schedule answers).answer ≡ run_number schedule answers
    unfolding run_call run_with ran_on
    run-number schedule answers = rw (claims-sound e) (by (eqb (length schedule % 2) 0 && leb (length schedule) 65534) (leb (length schedule / 2) (length answers)))
      where
        by : (a b : Bool) → (if a then (if b then ran_on (machine_of s) s schedule answers else Calls.ran 34 s answers) else Calls.ran 33 s answers).answer ≡ (if a then (if b then 0 else 34) else 33)
        by true true = refl
        by true false = refl
        by false b = refl

    pub load-ends : (k : ℕ) (image : List ℕ) → load_call s k image ≡ loaded_in (machine_of s) s k image
    unfolding load_call load_with
    load-ends k image = rw (claims-sound e)

    pub clear-ends : (k : ℕ) → clear_call s k ≡ said_to (machine_of s) s k clears
    unfolding clear_call clear_with
    clear-ends k = rw (claims-sound e)

    pub report-ends : (k : ℕ) → report_call s k ≡ shown_in (machine_of s) k
    unfolding report_call report_with
    report-ends k = rw (claims-sound e)

  -- "32: lent state unsound": just then
  module _ (schedule answers : List ℕ) where
    run-not-32 : {r : Ran} → Runs schedule answers r → eqb r.answer 32 ≡ false
    unfolding ran_on
    run-not-32 runs = refl
    run-not-32 (refuses _ e) = e

    pub run-32 : eqb (run_call s schedule answers).answer 32 ≡ not (state_sound s)
    unfolding run_call run_with
    run-32 = tested (state_sound s) (λ e. rw e (run-not-32 (run_ends e schedule answers))) (λ e. rw (claims-unsound e, e))

  pub load-32 : (k : ℕ) (image : List ℕ) → eqb (load_call s k image).answer 32 ≡ not (state_sound s)
  unfolding load_call load_with loaded_in
  load-32 k image = tested (state_sound s) (λ e. rw (claims-sound e, e) (tell-not-32 (machine_of s) (message k (loads image)))) (λ e. rw (claims-unsound e, e))

  pub clear-32 : (k : ℕ) → eqb (clear_call s k).answer 32 ≡ not (state_sound s)
  unfolding clear_call clear_with said_to
  clear-32 k = tested (state_sound s) (λ e. rw (claims-sound e, e) (tell-not-32 (machine_of s) (message k clears))) (λ e. rw (claims-unsound e, e))

  pub report-32 : (k : ℕ) → eqb (report_call s k).answer 32 ≡ not (state_sound s)
  unfolding report_call report_with shown_in
  report-32 k = tested (state_sound s) (λ e. rw (claims-sound e, e) (tell-not-32 (machine_of s) (message k asks))) (λ e. rw (claims-unsound e, e))
