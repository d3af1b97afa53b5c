-- The seats of a sound machine, one by one. Assumes nothing.
use Prim.Native.Nat.{ℕ, zero, suc, ◌+◌, ◌≤◌}
use native.Mathlib.Omega.{arith}
use mathlib.Core.Path.{◌≡◌, refl}
use mathlib.Core.Bool.{true}
use mathlib.Core.List.{[], ◌∷◌}
use lib.ListN.{length, length-map}
use Rattle.std.proofs.lemmas.Bool.Decides.{nat_tests}
use Rattle.std.proofs.lemmas.Grind.{common_steps}
use Rattle.laws.specs.Lists.{all}
use Rattle.laws.proofs.Absurd.{below-zero}
use Rattle.rules.specs.Claim.{Claim}
use Rattle.rules.specs.Calls.{Machine, Share, fair_share, total, may_open}
use Rattle.rules.specs.Sound.{seat_sound, regions, shares_of, sound}
use Rattle.laying.proofs.Fitting.{Fit}
use Rattle.laying.proofs.Fits.{fits}

abbrev pub share_of : Claim → Share
share_of c = record { cells = c.seat.cells; threads = c.seat.threads }

-- a sound seat with a fair share, its region starting at l
pub record Right (l : ℕ) (c : Claim) : Type 0 where
  pub at : c.seat.start ≡ l
  pub fair : fair_share (share_of c) ≡ true
  pub inside : l + c.seat.cells ≤ 2048
  pub sound : seat_sound c ≡ true

-- k seats at most, the first one's region starting at l
pub data Seats : ℕ → ℕ → Machine → Type 0 where
  none : {k l : ℕ} → Seats k l []
  more : {k l : ℕ} {c : Claim} {m : Machine} → Right l c → Seats k (l + c.seat.cells) m → Seats (suc k) l (c ∷ m)

pub record Fair (s : Share) : Type 0 where
  pub some : 1 ≤ s.cells
  pub threads : s.threads ≤ 32

pub fair-is : (s : Share) → fair_share s ≡ true → Fair s
unfolding fair_share
fair-is s e = grind (arith, nat_tests)

module _ {l : ℕ} {c : Claim} (r : Right l c) where
  pub right-some : 1 ≤ c.seat.cells
  right-some = (fair-is (share_of c) r.fair).some

  pub right-fits : Fit c
  right-fits =
      let a = r.at in
      let i = r.inside in
      fits c (record { region = omega arith; threads = (fair-is (share_of c) r.fair).threads }) r.sound

-- ---- the tests of a machine say the same

pub record Tested (k l : ℕ) (m : Machine) : Type 0 where
  pub few : length m ≤ k
  pub regions : regions l m ≡ true
  pub fair : all fair_share (shares_of m) ≡ true
  pub inside : l + total (shares_of m) ≤ 2048
  pub sound : all seat_sound m ≡ true

seats-from : (k l : ℕ) (m : Machine) → Tested k l m → Seats k l m
unfolding regions shares_of all total
seats-from k l [] t = none
seats-from zero l (c ∷ m) t = below-zero (length m) t.few
seats-from (suc k) l (c ∷ m) t =
    let w : Right l c = grind (arith, common_steps, nat_tests) in
    let z : Tested k (l + c.seat.cells) m = grind (arith, common_steps, nat_tests) in
    more w (seats-from k (l + c.seat.cells) m z)

tested-from : {k l : ℕ} {m : Machine} → l ≤ 2048 → Seats k l m → Tested k l m
unfolding regions shares_of all total
tested-from h none = record { few = omega arith; regions = refl; fair = refl; inside = omega arith; sound = refl }
tested-from {l = l} h (more {c = c} r s) =
    let t = tested-from r.inside s in grind (arith, common_steps, nat_tests)

shares-long : (m : Machine) → length (shares_of m) ≡ length m
unfolding shares_of
shares-long m = length-map m share_of

module _ (m : Machine) where
  pub seats-of : sound m ≡ true → Seats 8 0 m
  unfolding sound may_open
  seats-of e =
      let z : Tested 8 0 m = grind (arith, common_steps, nat_tests, shares-long m) in seats-from 8 0 m z

  pub sound-of : 1 ≤ length m → Seats 8 0 m → sound m ≡ true
  unfolding sound may_open
  sound-of h s =
      let t = tested-from (omega arith) s in grind (arith, common_steps, nat_tests, shares-long m)
