-- A signed number and its 64 bits. Assumes nothing.
use mathlib.Core.Path.{◌≡◌, sym, ◌∙◌, ap}
use lib.IntN.{ℤ}
use mir.Syntax.{w64}
use mir.Val.{SFits, to_z, of_z}
use mir.ValLaws.{to_z-of_z}

pub back : (z : ℤ) → SFits w64 z → to_z w64 (of_z w64 z) ≡ z
back z h = to_z-of_z w64 z h

pub same_bits : (x y : ℤ) → SFits w64 x → SFits w64 y → of_z w64 x ≡ of_z w64 y → x ≡ y
same_bits x y h k e = sym (back x h) ∙ ap (to_z w64) e ∙ back y k
