-- Which operands an accepted instruction has: "Floats in images must be finite, booleans 0 or 1, FRAME's n at least 1." Assumes nothing.
use Rattle.std.specs.Prelude.{Bool, true, leb}
use Rattle.value.specs.declared.Value.TheVariants as Value
use Rattle.value.specs.Range.{well_formed}
use Rattle.kinds.specs.declared.Instruction.{Instruction}
use Rattle.kinds.specs.declared.Instruction.TheVariants as I

unfoldable pub sane : Instruction → Bool
sane I.End = true
sane (I.Int z) = well_formed (Value.Integer z)
sane (I.Float x) = well_formed (Value.Float x)
sane (I.Bool b) = true
sane I.Nil = true
sane (I.Touch s) = true
sane (I.Load s) = true
sane (I.Store s) = true
sane (I.Ialloc s) = true
sane (I.Malloc s) = true
sane (I.Ifetch s) = true
sane (I.Istore s t) = true
sane (I.Mfetch s) = true
sane (I.Mstore s t) = true
sane (I.Frame n) = leb 1 n
sane I.Own = true
sane (I.Binary o s t) = true
sane (I.Offset s t) = true
sane (I.Switch s a b) = true
sane (I.Spawn a) = true
sane (I.Apply a s) = true
sane (I.Get s k) = true
sane (I.Put s k) = true
