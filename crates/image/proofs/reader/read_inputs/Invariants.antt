-- `image::reader::read_inputs` meets its contract. The loop's invariant: reading on from here answers as reading from the start, and few inputs came. The measure is what is left of the image. Assumes nothing.
use Prim.Native.Nat.{suc, ◌-◌, ◌<◌}
use mathlib.Core.Path.{◌≡◌}
use lib.ListN.{length}
use Rattle.image.specs.Reading.{read_inputs}
use Rattle.image.proofs.reader.read_inputs.Given as goal

abbrev pub invariant-loop-code : goal.invariant-loop-code
invariant-loop-code l = (l.inputs < 256) × (read_inputs (suc (length l.image)) l.image l.slots l.inputs l.at ≡ read_inputs (suc (length l.image)) l.image l.slots 0 l.first)

abbrev pub decreases-loop-code : goal.decreases-loop-code
decreases-loop-code l = length l.image - l.at
