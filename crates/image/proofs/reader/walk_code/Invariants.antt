-- `image::reader::walk_code` meets its contract. The loop's invariant: the walk from here answers as the walk from the start. The measure is what is left of the image. Assumes nothing.
use Prim.Native.Nat.{suc, ◌-◌}
use mathlib.Core.Path.{◌≡◌}
use lib.ListN.{length}
use Rattle.image.specs.Reading.{walk}
use Rattle.image.proofs.reader.walk_code.Given as goal
use Rattle.std.specs.Prelude.{Some}

abbrev pub invariant-loop-end : goal.invariant-loop-end
invariant-loop-end l = walk (suc (length l.image)) l.image l.end l.at ≡ walk (suc (length l.image)) l.image (Some (length l.image)) l.code

abbrev pub decreases-loop-end : goal.decreases-loop-end
decreases-loop-end l = length l.image - l.at
