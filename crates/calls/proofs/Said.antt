-- What is said to one seat of a sound state comes to what its parts become. Assumes nothing.
use Prim.Native.Nat.{ℕ, ◌≤◌, ◌<◌}
use mathlib.Core.Path.{◌≡◌, ap, sym}
use lib.ListN.{length}
use borrow.Author.Tests.{lt-ltb, le-ltb}
use Rattle.laws.proofs.Choice.{parted}
use Rattle.laws.proofs.Every.{all-get}
use Rattle.rules.specs.Calls.{Event, message, hear, absent, tell, may_open, number_in}
use Rattle.rules.specs.Sound.{regions, shares_of, sound}
use Rattle.soundness.specs.Events.{ByteEvent}
use Rattle.soundness.proofs.Claims.{Roomy}
use Rattle.soundness.proofs.Machines.{Kept, roomy, heard-kept}
use Rattle.laying.specs.Laid.{laid_claim}
use Rattle.laying.proofs.Fitting.{Fit}
use Rattle.laying.proofs.Fits.{fits}
use Rattle.state.specs.State.{State, machine_of, Stands}
use Rattle.state.specs.Seats.{put_parts}
use Rattle.state.proofs.Pieces.{claim_of, from, to, seat-at}
use Rattle.calls.specs.Calls.{moved, said_to}

module _ {s : State} (t : Stands s) (k : ℕ) where
  pub said-nowhere : (e : Event) → length (machine_of s) ≤ k → said_to (machine_of s) s k e ≡ moved (number_in (absent e)) s
  unfolding said_to tell
  said-nowhere e h = rw (le-ltb k (length (machine_of s)) h) (ap (moved (number_in (absent e))) t.same)

  pub reply-nowhere : (e : Event) → length (machine_of s) ≤ k → (tell (machine_of s) (message k e)).reply ≡ absent e
  unfolding tell
  reply-nowhere e h = rw (le-ltb k (length (machine_of s)) h)

  pub reply-here : (e : Event) → k < length (machine_of s) → (tell (machine_of s) (message k e)).reply ≡ (hear (claim_of s k) e).reply
  unfolding tell
  reply-here e h = rw (lt-ltb k (length (machine_of s)) h)

  module _ (h : k < length (machine_of s)) (e : Event) (b : ByteEvent e) where
    room : Roomy (claim_of s k).seat
    unfolding sound
    room =
        parted (may_open (shares_of (machine_of s))) _ t.sound λ o e.
        parted (regions 0 (machine_of s)) _ e λ r _. all-get k _ (roomy (machine_of s) o r) h

    kept : Kept (claim_of s k) (hear (claim_of s k) e).claim
    kept = heard-kept (claim_of s k) e room (seat-at t k h).sound b

    fit : Fit (hear (claim_of s k) e).claim
    fit = fits _ (record { region = rw kept.seat (seat-at t k h).seated.region; threads = rw kept.seat (seat-at t k h).seated.threads }) kept.sound

    -- the claim that it becomes, in its parts
    pub said_here :
        said_to (machine_of s) s k e
        ≡ moved (number_in (hear (claim_of s k) e).reply)
        (put_parts s k (from s k) (to s k) (laid_claim (hear (claim_of s k) e).claim))
    unfolding said_to tell
    said_here = rw (lt-ltb k (length (machine_of s)) h) (ap (moved (number_in (hear (claim_of s k) e).reply)) (sym ((seat-at t k h).put _ kept.seat fit)))
