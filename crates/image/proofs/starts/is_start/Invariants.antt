-- `image::starts::is_start` meets its contract. The loop's invariant: the search from here answers as the search from the start. The measure is what is left of the image. Assumes nothing.
use Prim.Native.Nat.{suc, ◌-◌}
use mathlib.Core.Path.{◌≡◌}
use lib.ListN.{length}
use Rattle.image.specs.Reading.{start_from, start}
use Rattle.image.proofs.starts.is_start.Given as goal

abbrev pub invariant-loop-behind : goal.invariant-loop-behind
invariant-loop-behind l = start_from (suc (length l.image)) l.image l.at l.place ≡ start l.image l.code l.position

abbrev pub decreases-loop-behind : goal.decreases-loop-behind
decreases-loop-behind l = length l.image - l.at
