-- Demand 3: what a seat holds and answers is a function of the shares and of what was said to that seat alone. Assumes nothing.
use Prim.Native.Nat.{ℕ, zero, suc, ◌+◌, ◌<◌}
use mathlib.Core.Bool.{Bool, true, false}
use mathlib.Core.Path.{◌≡◌, refl, sym, ap, ◌∙◌, subst}
use mathlib.Core.List.{List, [], ◌∷◌}
use lib.ListN.{length}
use lib.Dec.{eqb}
use borrow.Author.Tests.{eqb-true, eqb-false}
use Rattle.std.specs.Prelude.{if◌then◌else◌}
use Rattle.laws.proofs.Absurd.{below-zero}
use Rattle.rules.specs.Claim.{Claim}
use Rattle.rules.specs.Turn.{Turned}
use Rattle.rules.specs.Calls.{Machine, Event, picks, loads, asks, clears, number, Share, message, bare, hear, tell, claim_at, opened, opening, may_open}
use Rattle.rules.specs.History.{Happening, opens, says, machine_after, shares_after, counted, trace, fresh, replay}
use Rattle.rules.proofs.Outcomes as Outcomes
use Rattle.rules.proofs.Outcomes.{Clears, leaves, empties}
use Rattle.rules.proofs.Telling.{tell-length, tell-other, tell-self, tell-reply, hear-seat}

-- ---- opening

opened-bare : (l : ℕ) (ss : List Share) (k : ℕ) → bare (claim_at (opened l ss) k).seat ≡ claim_at (opened l ss) k
unfolding opened
opened-bare l [] k = refl
opened-bare l (s ∷ ss) zero = refl
opened-bare l (s ∷ ss) (suc k) = opened-bare (l + s.cells) ss k

opened-length : (l : ℕ) (ss : List Share) → length (opened l ss) ≡ length ss
unfolding opened
opened-length l [] = refl
opened-length l (s ∷ ss) = ap suc (opened-length (l + s.cells) ss)

-- ---- one seat, replayed

module _ (c : Claim) where
  replay-seat : (es : List Event) → (replay c es).seat ≡ c.seat
  unfolding replay
  replay-seat [] = refl
  replay-seat (e ∷ es) = hear-seat (replay c es) e ∙ replay-seat es

  module _ (was : bare c.seat ≡ c) (before : List Event) where
    clears-counted : {t : Turned} → Clears (replay c before) t → t.claim ≡ replay c (counted clears (number t.answer) before)
    unfolding counted replay
    clears-counted leaves = refl
    clears-counted empties = rw (replay-seat before) was

    -- what does not count leaves the claim as it is
    hear-counted : (e : Event) → (hear (replay c before) e).claim ≡ replay c (counted e (hear (replay c before) e).reply before)
    unfolding counted replay hear
    hear-counted (picks p) = refl
    hear-counted (loads image) = refl
    hear-counted asks = refl
    hear-counted clears = clears-counted (Outcomes.clears (replay c before))

    -- a message to the seat, where it is seat k of a machine
    tell-counted : (m : Machine) (k : ℕ) (e : Event) → k < length m → claim_at m k ≡ replay c before
        → claim_at (tell m (message k e)).machine k ≡ replay c (counted e (tell m (message k e)).reply before)
    tell-counted m k e l ih = tell-self m k e l ∙ rw (tell-reply m k e l, ih) (hear-counted e)

-- ---- a history

pub machine-length : (h : List Happening) → length (machine_after h) ≡ length (shares_after h)
unfolding machine_after shares_after opening
machine-length [] = refl
machine-length (opens ss ∷ h) = go (may_open ss) (machine-length h)
  where
    go : (b : Bool) → length (machine_after h) ≡ length (shares_after h) → length (if b then opened 0 ss else machine_after h) ≡ length (if b then ss else shares_after h)
    go true ih = opened-length 0 ss
    go false ih = ih
machine-length (says e ∷ h) = tell-length (machine_after h) e ∙ machine-length h

-- what seat k holds is what it would hold had nothing been said to any other seat, and nothing before its last clearing
pub isolation : (k : ℕ) (h : List Happening) → k < length (shares_after h) → claim_at (machine_after h) k ≡ replay (fresh (shares_after h) k) (trace k h)
unfolding machine_after shares_after trace replay fresh opening
isolation k [] l = below-zero k l
isolation k (opens ss ∷ h) l = go (may_open ss) l (isolation k h)
  where
    go : (b : Bool) → k < length (if b then ss else shares_after h)
        → (k < length (shares_after h) → claim_at (machine_after h) k ≡ replay (fresh (shares_after h) k) (trace k h))
        → claim_at (if b then opened 0 ss else machine_after h) k ≡ replay (fresh (if b then ss else shares_after h) k) (if b then [] else trace k h)
    go true l ih = refl
    go false l ih = ih l
isolation k (says e ∷ h) l = go (eqb e.to k) refl (isolation k h l)
  where
    go : (b : Bool) → eqb e.to k ≡ b → claim_at (machine_after h) k ≡ replay (fresh (shares_after h) k) (trace k h)
        → claim_at (tell (machine_after h) e).machine k
        ≡ replay (fresh (shares_after h) k) (if b then counted e.says (tell (machine_after h) e).reply (trace k h) else trace k h)
    go true p ih =
        subst (λ (j : ℕ). claim_at (tell (machine_after h) (message j e.says)).machine k
        ≡ replay (fresh (shares_after h) k) (counted e.says (tell (machine_after h) (message j e.says)).reply (trace k h)))
        (sym (eqb-true e.to k p))
        (tell-counted (fresh (shares_after h) k) (opened-bare 0 (shares_after h) k) (trace k h) (machine_after h) k e.says (rw (machine-length h) l) ih)
    go false p ih = tell-other (machine_after h) e k (λ q. eqb-false e.to k p (sym q)) ∙ ih

-- and so is what it answers
pub isolated-reply : (k : ℕ) (h : List Happening) (e : Event) → k < length (shares_after h)
    → (tell (machine_after h) (message k e)).reply ≡ (hear (replay (fresh (shares_after h) k) (trace k h)) e).reply
isolated-reply k h e l = tell-reply (machine_after h) k e (rw (machine-length h) l) ∙ ap (λ (c : Claim). (hear c e).reply) (isolation k h l)

-- two histories that opened alike and said the same to seat k leave it alike and have the same answers from it
pub indistinguishable : (k : ℕ) (h₁ h₂ : List Happening) → k < length (shares_after h₁) → shares_after h₁ ≡ shares_after h₂ → trace k h₁ ≡ trace k h₂
    → (claim_at (machine_after h₁) k ≡ claim_at (machine_after h₂) k)
    × ((e : Event) → (tell (machine_after h₁) (message k e)).reply ≡ (tell (machine_after h₂) (message k e)).reply)
indistinguishable k h₁ h₂ l s t =
    let l₂ : k < length (shares_after h₂) = rw s at l in (
      isolation k h₁ l ∙ rw (s, t) (sym (isolation k h₂ l₂)),
      λ e. isolated-reply k h₁ e l ∙ rw (s, t) (sym (isolated-reply k h₂ e l₂)),
    )
