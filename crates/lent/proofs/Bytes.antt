-- What a slice's type says of each element, said of the list. Assumes nothing.
use Prim.Native.Nat.{ℕ, suc, ◌<◌}
use native.Mathlib.Omega.{arith}
use mathlib.Core.Path.{◌≡◌, refl}
use mathlib.Core.Bool.{true}
use mathlib.Core.List.{List, [], ◌∷◌}
use lib.Dec.{ltb}
use lib.ListN.{get_or}
use mir.Syntax.{w8}
use mir.Val.{Fits}
use borrow.Author.Tests.{lt-ltb}
use Rattle.laws.specs.Lists.{all}
use Rattle.laws.proofs.Choice.{both}

pub all-below : (n : ℕ) (s : List ℕ) → ((i : ℕ) → get_or s i 0 < n) → all (λ b. ltb b n) s ≡ true
unfolding all
all-below n [] h = refl
all-below n (b ∷ s) h = both (lt-ltb b n (h 0)) (all-below n s (λ i. h (suc i)))

pub bytes_below : (s : List ℕ) → ((i : ℕ) → Fits w8 (get_or s i 0)) → all (λ b. ltb b 256) s ≡ true
bytes_below s h = all-below 256 s (λ i. omega (arith, h i))
