-- A seat's turn leaves it sound. Assumes nothing.
use Prim.Native.Nat.{ℕ}
use native.Mathlib.Omega.{arith}
use mathlib.Core.Path.{◌≡◌, ap, ◌∙◌}
use mathlib.Core.Bool.{true}
use borrow.Author.Tests.{eqb-false}
use Rattle.image.specs.Reading.{read_image}
use Rattle.rules.specs.Claim.{Claim, ready_count, seek, perform}
use Rattle.rules.specs.Turn.{effect_at, Turned, ran, turn}
use Rattle.rules.specs.Sound.{seat_sound}
use Rattle.rules.proofs.Lawful.{effect-lawful}
use Rattle.rules.proofs.Outcomes as Outcomes
use Rattle.rules.proofs.Outcomes.{Turns, idles, runs}
use Rattle.soundness.proofs.Rows.{seek-picked}
use Rattle.soundness.proofs.Claims.{Roomy, seated, used-seat}
use Rattle.soundness.proofs.Decides.{effect-keeps}
use Rattle.soundness.proofs.Effects.{performed}

module _ (c : Claim) (roomy : Roomy c.seat) (s : seat_sound c ≡ true) where
  turns-kept : {p : ℕ} {t : Turned} → Turns c p t → seat_sound t.claim ≡ true
  unfolding ran ready_count
  turns-kept (idles n) = s
  turns-kept {p} (runs r more l) =
      let calm = Outcomes.running c r in
      let u = used-seat c calm.0 s in
      let i = seek c.row p in
      let at = seek-picked c.row p l in
      let d = eqb-false c.steps 4294967295 more in
      seated (perform (effect_at c i) i c) (ap read_image (Outcomes.performed (effect_at c i) i c).image ∙ u.reads)
      (performed c u.layout u.sound calm.1 i at (omega (arith, u.sound.steps)) (effect-lawful c i) (effect-keeps c u.layout u.sound roomy u.reads i at.within))

  pub turn-kept : (pick : ℕ) → seat_sound (turn c pick).claim ≡ true
  turn-kept pick = turns-kept (Outcomes.turns c pick)
