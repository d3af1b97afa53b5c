-- The soundness test accepts each sound machine of the table and turns each broken one away, by computation. Assumes nothing.
use mathlib.Core.Bool.{true, not}
use mathlib.Core.Path.{◌≡◌, refl}
use lib.Ieee as Ieee
use Rattle.laws.specs.Lists.{all}
use Rattle.rules.specs.Sound as Sound
use Rattle.rules.specs.Sound.{sound}
use Rattle.rules.specs.Unsound.{sounds, unsounds}
use Rattle.rules.proofs.Worked.{compute}

unfoldable judge : Unit {0}
unfolding compute Sound.cell_sound Sound.is_empty Sound.place_sound Sound.live_sound Sound.refusal_sound Sound.claim_sound Sound.is_bare Sound.seat_sound Sound.regions Sound.shares_of sound Ieee.fits
judge = tt

pub sounds-pass : all sound sounds ≡ true
unfolding judge sounds
sounds-pass = refl

pub unsounds-fail : all (λ m. not (sound m)) unsounds ≡ true
unfolding judge unsounds
unsounds-fail = refl
