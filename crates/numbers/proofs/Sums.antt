-- The tests that find a sum or a difference out of range before it is made say whether it is in range. Assumes nothing.
use native.Mathlib.Omega.{arith}
use mathlib.Core.Path.{◌≡◌}
use mathlib.Core.Bool.{true, false}
use lib.IntN.{ℤ, pos, ◌+ℤ◌, ◌-ℤ◌}
use lib.Signed.{le_z}
use mir.Syntax.{w64}
use mir.Val.{SFits}
use Rattle.std.proofs.lemmas.Int.{ints}
use Rattle.value.specs.Range.{least, greatest, in_range}
use Rattle.value.proofs.Range.{range-fits}

module _ (a b : ℤ) (ha : SFits w64 a) (hb : SFits w64 b) where
  module _ (t : le_z (pos 0) b ≡ true) where
    pub add-high-room : SFits w64 (greatest -ℤ b)
    add-high-room = range-fits (greatest -ℤ b) (unfold in_range in grind (arith, ints))

    pub add-high : in_range (a +ℤ b) ≡ le_z a (greatest -ℤ b)
    unfolding in_range
    add-high = grind (arith, ints)

    pub sub-high-room : SFits w64 (least +ℤ b)
    sub-high-room = range-fits (least +ℤ b) (unfold in_range in grind (arith, ints))

    pub sub-high : in_range (a -ℤ b) ≡ le_z (least +ℤ b) a
    unfolding in_range
    sub-high = grind (arith, ints)

  module _ (t : le_z (pos 0) b ≡ false) where
    pub add-low-room : SFits w64 (least -ℤ b)
    add-low-room = range-fits (least -ℤ b) (unfold in_range in grind (arith, ints))

    pub add_low : in_range (a +ℤ b) ≡ le_z (least -ℤ b) a
    unfolding in_range
    add_low = grind (arith, ints)

    pub sub-low-room : SFits w64 (greatest +ℤ b)
    sub-low-room = range-fits (greatest +ℤ b) (unfold in_range in grind (arith, ints))

    pub sub_low : in_range (a -ℤ b) ≡ le_z a (greatest +ℤ b)
    unfolding in_range
    sub_low = grind (arith, ints)
