-- `image::starts::marks_of` meets its contract. The loop's invariant: the marks from here on are those of the whole code. The measure is what is left of the image. Assumes nothing.
use Prim.Native.Nat.{suc, ◌-◌}
use mathlib.Core.Path.{◌≡◌}
use lib.ListN.{length}
use Rattle.image.specs.Marks.{marks_from, marks}
use Rattle.image.proofs.starts.marks_of.Given as goal

abbrev pub invariant-loop-behind : goal.invariant-loop-behind
invariant-loop-behind l = marks_from (suc (length l.image)) l.image l.at l.row ≡ marks l.image l.code

abbrev pub decreases-loop-behind : goal.decreases-loop-behind
decreases-loop-behind l = length l.image - l.at
