-- The range of integers by its two ends is what 64 bits hold. Assumes nothing.
use Prim.Native.Nat.{◌-◌, ◌^◌}
use native.Mathlib.Omega.{arith}
use mathlib.Core.Path.{◌≡◌, refl}
use mathlib.Core.Bool.{true}
use lib.IntN.{ℤ, pos, negsuc}
use borrow.Author.Tests.{leb-true, le-leb}
use mir.Syntax.{w64}
use mir.Val.{SFits}
use Rattle.laws.proofs.Choice.{both, first}
use Rattle.value.specs.Range.{in_range}

pub range-fits : (z : ℤ) → in_range z ≡ true → SFits w64 z
unfolding in_range
range-fits (pos n) e = record { sfits = omega (arith, leb-true n (2 ^ 63 - 1) e) }
range-fits (negsuc n) e = record { sfits = omega (arith, leb-true n (2 ^ 63 - 1) (first _ _ e)) }

pub fits-range : (z : ℤ) → SFits w64 z → in_range z ≡ true
unfolding in_range
fits-range (pos n) h = le-leb n (2 ^ 63 - 1) (omega (arith, h.sfits))
fits-range (negsuc n) h = both (le-leb n (2 ^ 63 - 1) (omega (arith, h.sfits))) refl
