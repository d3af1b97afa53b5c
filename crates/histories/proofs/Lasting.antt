-- From any bytes: an opening that answered 0 leaves a sound state, every call leaves a sound state sound, and so none answers 32 after that opening. Assumes nothing.
use Prim.Native.Nat.{ℕ}
use mathlib.Core.Path.{◌≡◌, refl, ap, ◌∙◌}
use mathlib.Core.Logic.{◌≢◌}
use mathlib.Core.Bool.{true, false, not}
use mathlib.Core.List.{List}
use lib.Dec.{ltb}
use borrow.Author.Tests.{eqb-false}
use Rattle.laws.specs.Lists.{all, is_none}
use Rattle.laws.proofs.Every.{All}
use Rattle.state.specs.State.{State, machine_of, state_sound}
use Rattle.calls.specs.Calls.{Moved, open_call, run_call, load_call, clear_call, report_call}
use Rattle.histories.specs.History.{Call, after, shares_of, Bytes}
use Rattle.histories.proofs.Ends.{Opens, open-ends, run_ends, run-32, load-32, clear-32, report-32}
use Rattle.histories.proofs.Claims.{Holds, opens-holds, runs-holds, load-holds, clear-holds}
use Rattle.histories.proofs.Retold.{retold-holds}

-- ---- one call

pub open-sound : (s : State) (ns : List ℕ) → (open_call s ns).answer ≡ 0 → state_sound (open_call s ns).state ≡ true
open-sound s ns e = (opens-holds (open-ends s ns) (rw e)).sound

module _ (s : State) (e : state_sound s ≡ true) where
  here : Holds s (machine_of s)
  here = record { sound = e; claims = refl }

  opens_kept : {ns : List ℕ} {r : Moved} → Opens s ns r → state_sound r.state ≡ true
  opens_kept (Opens.opens l m) = (opens-holds (Opens.opens l m) refl).sound
  opens_kept (Opens.refuses f) = e

  pub open_kept : (ns : List ℕ) → state_sound (open_call s ns).state ≡ true
  open_kept ns = opens_kept (open-ends s ns)

  pub run-kept : (schedule answers : List ℕ) → state_sound (run_call s schedule answers).state ≡ true
  run-kept schedule answers = (runs-holds here (run_ends s e schedule answers)).sound

  pub load_kept : (k : ℕ) (image : List ℕ) → all (λ b. ltb b 256) image ≡ true → state_sound (load_call s k image).state ≡ true
  load_kept k image b = (load-holds here k image b).sound

  pub clear_kept : (k : ℕ) → state_sound (clear_call s k).state ≡ true
  clear_kept k = (clear-holds here k).sound

-- ---- a history

pub history-sound : (s : State) (h : List Call) → is_none (shares_of s h) ≡ false → All Bytes h → state_sound (after s h) ≡ true
history-sound s h opened bytes = (retold-holds s h opened bytes).sound

-- no call finds the state unsound
pub record Never32 (s : State) : Type 0 where
  pub run : (schedule answers : List ℕ) → (run_call s schedule answers).answer ≢ 32
  pub load : (k : ℕ) (image : List ℕ) → (load_call s k image).answer ≢ 32
  pub clear : (k : ℕ) → (clear_call s k).answer ≢ 32
  pub report : (k : ℕ) → (report_call s k).answer ≢ 32

pub never-32 : (s : State) (h : List Call) → is_none (shares_of s h) ≡ false → All Bytes h → Never32 (after s h)
never-32 s h opened bytes =
    let e = ap not (history-sound s h opened bytes) in
    record {
      run = λ schedule answers. eqb-false _ 32 (run-32 (after s h) schedule answers ∙ e);
      load = λ k image. eqb-false _ 32 (load-32 (after s h) k image ∙ e);
      clear = λ k. eqb-false _ 32 (clear-32 (after s h) k ∙ e);
      report = λ k. eqb-false _ 32 (report-32 (after s h) k ∙ e);
    }
