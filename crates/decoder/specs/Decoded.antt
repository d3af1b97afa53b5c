-- The instruction at a place of the code, END where no whole one stands there, and how many bytes it has. Assumes nothing.
use Rattle.std.specs.Prelude.{ℕ, List, Result, Ok, Err}
use Rattle.kinds.specs.declared.Instruction.{Instruction}
use Rattle.kinds.specs.declared.Instruction.TheVariants as I
use Rattle.image.specs.declared.records.Stop.{Stop}
use Rattle.image.specs.Records.{step_at}

-- the instruction of a step, END where there is none
unfoldable pub instruction_in : Result (Instruction × ℕ) Stop → Instruction
instruction_in (Err e) = I.End
instruction_in (Ok (i, m)) = i

-- the instruction at a place of an image
unfoldable pub instruction_at : List ℕ → ℕ → Instruction
instruction_at l at = instruction_in (step_at l at)

-- the bytes of an instruction, its kind byte too
unfoldable pub size_of : Instruction → ℕ
size_of I.End = 1
size_of (I.Int z) = 9
size_of (I.Float x) = 9
size_of (I.Bool b) = 2
size_of I.Nil = 1
size_of (I.Touch s) = 2
size_of (I.Load s) = 2
size_of (I.Store s) = 2
size_of (I.Ialloc s) = 2
size_of (I.Malloc s) = 2
size_of (I.Ifetch s) = 2
size_of (I.Istore s t) = 3
size_of (I.Mfetch s) = 2
size_of (I.Mstore s t) = 3
size_of (I.Frame n) = 2
size_of I.Own = 1
size_of (I.Binary op s t) = 3
size_of (I.Offset s t) = 3
size_of (I.Switch s a b) = 6
size_of (I.Spawn a) = 3
size_of (I.Apply a s) = 4
size_of (I.Get s k) = 3
size_of (I.Put s k) = 3
