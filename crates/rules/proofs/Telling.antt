-- A message changes the seat that it names and no other, and no message changes a seat's shares and region. Assumes nothing.
use Prim.Native.Nat.{ℕ, ◌<◌}
use mathlib.Core.Path.{◌≡◌, refl}
use mathlib.Core.Logic.{◌≢◌}
use mathlib.Core.List.{List}
use lib.ListN.{length, length-set}
use lib.Seq.{get_or-set_same, get_or-set_other}
use lib.Dec.{ltb}
use borrow.Author.Tests.{lt-ltb}
use Rattle.laws.proofs.Choice.{either_way}
use Rattle.rules.specs.Claim.{Claim}
use Rattle.rules.specs.Turn.{Turned, ran}
use Rattle.rules.specs.Calls.{Machine, claim_at, Message, message, Told, tell, Event, picks, loads, asks, clears, hear, Loading, loaded}
use Rattle.rules.proofs.Outcomes as Outcomes
use Rattle.rules.proofs.Outcomes.{Turns, idles, runs, Loads, rejects, accepts, Clears, leaves, empties}

-- ---- one message

module _ (m : Machine) (e : Message) where
  pub tell-length : length (tell m e).machine ≡ length m
  unfolding tell
  tell-length = either_way (λ (t : Told). length t.machine ≡ length m) (ltb e.to (length m)) (λ _. length-set m e.to _) (λ _. refl)

  pub tell-other : (k : ℕ) → k ≢ e.to → claim_at (tell m e).machine k ≡ claim_at m k
  unfolding tell
  tell-other k n =
      either_way (λ (t : Told). claim_at t.machine k ≡ claim_at m k) (ltb e.to (length m)) (λ _. get_or-set_other m e.to k _ _ n) (λ _. refl)

-- a message to a seat that there is
module _ (m : Machine) (k : ℕ) (e : Event) (h : k < length m) where
  pub tell-self : claim_at (tell m (message k e)).machine k ≡ (hear (claim_at m k) e).claim
  unfolding tell
  tell-self = rw (lt-ltb k (length m) h) (get_or-set_same m k _ _ h)

  pub tell-reply : (tell m (message k e)).reply ≡ (hear (claim_at m k) e).reply
  unfolding tell
  tell-reply = rw (lt-ltb k (length m) h)

-- ---- a seat keeps its shares and its region

module _ (c : Claim) where
  turns-seat : {p : ℕ} {t : Turned} → Turns c p t → t.claim.seat ≡ c.seat
  unfolding ran
  turns-seat (idles n) = refl
  turns-seat (runs r s l) = (Outcomes.performed _ _ c).seat

  loads-seat : {image : List ℕ} {t : Loading} → Loads c image t → t.claim.seat ≡ c.seat
  unfolding loaded
  loads-seat (rejects n) = refl
  loads-seat (accepts e v w) = refl

  clears-seat : {t : Turned} → Clears c t → t.claim.seat ≡ c.seat
  clears-seat leaves = refl
  clears-seat empties = refl

  pub hear-seat : (e : Event) → (hear c e).claim.seat ≡ c.seat
  unfolding hear
  hear-seat (picks p) = turns-seat (Outcomes.turns c p)
  hear-seat (loads image) = loads-seat (Outcomes.loads c image)
  hear-seat asks = refl
  hear-seat clears = clears-seat (Outcomes.clears c)
