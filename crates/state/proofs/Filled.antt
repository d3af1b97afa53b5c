-- Pieces of claims one after the other, then zeros: the first piece, the rest, and the length in all. Assumes nothing.
use Prim.Native.Nat.{ℕ, ◌+◌, ◌-◌}
use native.Mathlib.Omega.{arith}
use mathlib.Core.Path.{◌≡◌}
use mathlib.Core.List.{List, ◌∷◌}
use lib.ListN.{length, take, drop, take-append-drop}
use Rattle.std.proofs.lemmas.Grind.{common_steps}
use Rattle.rules.specs.Claim.{Claim}
use Rattle.rules.specs.Calls.{Machine}
use Rattle.state.specs.State.{filled}

module _ (f : Claim → List ℕ) (c : Claim) (m : Machine) (w : ℕ) where
  pub filled-front : (n : ℕ) → length (f c) ≡ w → take w (filled f n (c ∷ m)) ≡ f c
  unfolding filled
  filled-front n e = grind (arith, common_steps)

  -- the piece has w of the n numbers, and r are left
  module _ (r : ℕ) {n : ℕ} (h : n ≡ w + r) where
    pub filled-behind : length (f c) ≡ w → drop w (filled f n (c ∷ m)) ≡ filled f r m
    unfolding filled
    filled-behind e = let z : n - length (f c) ≡ r = omega arith in grind (arith, common_steps)

    pub filled-long : length (f c) ≡ w → length (filled f r m) ≡ r → length (filled f n (c ∷ m)) ≡ n
    unfolding filled
    filled-long e i = let z : n - length (f c) ≡ r = omega arith in grind (arith, common_steps)

    -- a list that starts with the piece and goes on with the others
    pub filled-back : (l : List ℕ) → length l ≡ n → f c ≡ take w l → filled f r m ≡ drop w l → filled f n (c ∷ m) ≡ l
    unfolding filled
    filled-back l e p q =
        let a : length (f c) ≡ w = grind (arith, common_steps) in
        let z : n - length (f c) ≡ r = omega arith in
        rw (z, p, q) (take-append-drop w l)
