-- A seat's parts are sound exactly if they are those of a sound claim of that seat, laid out; and there is one such claim only. Assumes nothing.
use Prim.Native.Nat.{ℕ, ◌+◌, ◌≤◌}
use mathlib.Core.Path.{◌≡◌, refl, sym, ap, subst, ◌∙◌}
use mathlib.Core.Bool.{true}
use lib.ListN.{get_or}
use Rattle.laws.proofs.Choice.{both, first, second}
use Rattle.rules.specs.Claim.{Claim}
use Rattle.rules.specs.Sound.{seat_sound}
use Rattle.laying.specs.Laid.{Parts, laid_claim}
use Rattle.laying.specs.Back.{claim_in, well_laid}
use Rattle.laying.proofs.Fitting.{Fit}
use Rattle.laying.proofs.Fits.{Seated, fits}
use Rattle.laying.proofs.Back.{laid-well, laid-back, back-laid}
use Rattle.inspection.specs.Sound.{sound_on}

-- a sound claim of a seat as opening promises it, whose region starts at `start` and whose parts these are
pub record Holds (start : ℕ) (p : Parts) : Type 0 where
  pub claim : Claim
  pub sound : seat_sound claim ≡ true
  pub at : claim.seat.start ≡ start
  pub seated : Seated claim
  pub laid : laid_claim claim ≡ p

-- the test and the claim say the same
pub record Exactly (start : ℕ) (p : Parts) : Type 0 where
  pub holds : sound_on start p ≡ true → Holds start p
  pub sound : Holds start p → sound_on start p ≡ true
  pub one : (h : Holds start p) → h.claim ≡ claim_in start p

module _ (c : Claim) (f : Fit c) where
  laid-sound : seat_sound c ≡ true → sound_on c.seat.start (laid_claim c) ≡ true
  unfolding sound_on
  laid-sound s = both (laid-well c f) (subst (λ (d : Claim). seat_sound d ≡ true) (sym (laid-back c f)) s)

module _ (start : ℕ) (p : Parts) where
  sound : Holds start p → sound_on start p ≡ true
  sound h =
      subst (λ (q : Parts). sound_on start q ≡ true) h.laid
      (subst (λ (l : ℕ). sound_on l (laid_claim h.claim) ≡ true) h.at (laid-sound h.claim (fits h.claim h.seated h.sound) h.sound))

  one : (h : Holds start p) → h.claim ≡ claim_in start p
  one h =
      sym (laid-back h.claim (fits h.claim h.seated h.sound))
      ∙ ap (λ (l : ℕ). claim_in l (laid_claim h.claim)) h.at
      ∙ ap (claim_in start) h.laid

  module _ (region : start + get_or p.book 0 0 ≤ 2048) (threads : get_or p.book 1 0 ≤ 32) where
    holds : sound_on start p ≡ true → Holds start p
    unfolding sound_on claim_in
    holds e =
        record {
          claim = claim_in start p;
          sound = second (well_laid p) (seat_sound (claim_in start p)) e;
          at = refl;
          seated = record { region = region; threads = threads };
          laid = back-laid start p (first (well_laid p) (seat_sound (claim_in start p)) e);
        }

    -- of a seat whose shares obey the limits
    pub sound-exactly : Exactly start p
    sound-exactly = record { holds = holds; sound = sound; one = one }
