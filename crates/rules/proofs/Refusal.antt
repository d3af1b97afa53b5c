-- A turn that answers 3 sets status, refusal and position and adds its step, nothing else, and its number is one of the nine. Assumes nothing.
use Prim.Native.Nat.{ℕ, suc, ◌≤◌}
use native.Mathlib.Omega.{arith}
use mathlib.Core.Bool.{false}
use mathlib.Core.Path.{◌≡◌, refl}
use lib.Dec.{leb}
use borrow.Author.Tests.{leb-true, leb-false, ne_eqb}
use Rattle.laws.specs.Lists.{is_none}
use Rattle.laws.proofs.Absurd.{clash}
use Rattle.laws.proofs.Choice.{first, second}
use Rattle.rules.specs.declared.Effect.{Effect}
use Rattle.rules.specs.declared.Status.TheVariants.{Refused}
use Rattle.rules.specs.Claim.{Claim, perform, seek, status_of}
use Rattle.rules.specs.Turn.{Turned, turn, ran, answer_of}
use Rattle.rules.proofs.Lawful.{Lawful, goes, ends, waits, fills, empties, makes-some, spawns, refuses, effect-lawful}
use Rattle.rules.proofs.Outcomes as Outcomes
use Rattle.rules.proofs.Outcomes.{Turns, idles, runs}

-- the claim c, refused at place i of its row
pub record RefusedOnly (c : Claim) (i : ℕ) (now : Claim) : Type 0 where
  pub number : ℕ
  pub least : 1 ≤ number
  pub most : number ≤ 9
  pub only :
      now
      ≡ record { seat = c.seat; image = c.image; cells = c.cells; row = c.row; refusal = number; halted = i; steps = suc c.steps }
  pub status : status_of now ≡ Refused

module _ (c : Claim) where
  performed : {e : Effect} (i : ℕ) → is_none c.image ≡ false → Lawful c e → answer_of e ≡ 3 → RefusedOnly c i (perform e i c)
  unfolding perform answer_of status_of
  performed i h goes q = clash (cc)
  performed i h ends q = clash (cc)
  performed i h (waits e) q = clash (cc)
  performed i h (fills e) q = clash (cc)
  performed i h (empties e) q = clash (cc)
  performed i h makes-some q = clash (cc)
  performed i h spawns q = clash (cc)
  performed i h (refuses {n = n} e) q =
      let l : 1 ≤ n = leb-true 1 n (first (leb 1 n) (leb n 9) e) in
      let z : n ≡ 0 → ⊥ = λ z. omega arith in
      record { number = n; least = l; most = leb-true n 9 (second (leb 1 n) (leb n 9) e); only = refl; status = rw (h, ne_eqb n 0 z) }

  answered : {p : ℕ} {t : Turned} → Turns c p t → t.answer ≡ 3 → RefusedOnly c (seek c.row p) t.claim
  unfolding ran
  answered (idles {n = n} f) q = absurd (omega (arith, leb-false n 3 f))
  answered {p} (runs r s l) q = performed (seek c.row p) (Outcomes.running c r).0 (effect-lawful c (seek c.row p)) q

  pub refused-only : (p : ℕ) → (turn c p).answer ≡ 3 → RefusedOnly c (seek c.row p) (turn c p).claim
  refused-only p = answered (Outcomes.turns c p)
