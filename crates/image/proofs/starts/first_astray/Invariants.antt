-- `image::starts::first_astray` meets its contract. The loop's invariant: the search from here answers as the search from the start. The measure is what is left of the image. Assumes nothing.
use Prim.Native.Nat.{suc, ◌-◌}
use mathlib.Core.Path.{◌≡◌}
use lib.ListN.{length}
use Rattle.image.specs.Reading.{astray}
use Rattle.image.proofs.starts.first_astray.Given as goal

abbrev pub invariant-loop-behind : goal.invariant-loop-behind
invariant-loop-behind l = astray (suc (length l.image)) l.image l.code l.at ≡ astray (suc (length l.image)) l.image l.code l.code

abbrev pub decreases-loop-behind : goal.decreases-loop-behind
decreases-loop-behind l = length l.image - l.at
