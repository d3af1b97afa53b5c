-- Document 01, "Seats and shares": which values there are. Assumes nothing.
use Rattle.std.specs.Prelude.{◌-◌, ◌^◌, Bool, true, ◌&&◌, leb, ℤ, pos, neg_ℤ}
use Rattle.std.specs.Int.Signed.{le_z}
use Rattle.std.specs.Float.Ieee.{fits}
use Rattle.std.specs.Float.{binary64}
use Rattle.std.specs.Float.Ieee.Scale.{finite}
use Rattle.value.specs.declared.Value.{Value}
use Rattle.value.specs.declared.Value.TheVariants.{Integer, Float, Boolean, Nil, Location}

-- "an integer (signed, 64 bits)": from -2 ^ 63 to 2 ^ 63 - 1
abbrev pub least : ℤ
least = neg_ℤ (pos (2 ^ 63))

abbrev pub greatest : ℤ
greatest = pos (2 ^ 63 - 1)

unfoldable pub in_range : ℤ → Bool
in_range z = le_z least z && le_z z greatest

-- "A value is an integer (signed, 64 bits), a finite float (64 bits), a boolean, nil, or a location (0 to 65,535)."
unfoldable pub well_formed : Value → Bool
well_formed (Integer z) = in_range z
well_formed (Float x) = fits binary64 x && finite x
well_formed (Boolean b) = true
well_formed Nil = true
well_formed (Location l) = leb l 65535
