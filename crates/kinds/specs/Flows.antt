-- Where a thread may go from each instruction. Assumes nothing.
use Rattle.std.specs.Prelude.{ℕ, Bool, true, false, List, [], ◌∷◌}
use Rattle.kinds.specs.declared.Instruction.{Instruction}
use Rattle.kinds.specs.declared.Instruction.TheVariants as I
use Rattle.kinds.specs.declared.Flow.{Flow}
use Rattle.kinds.specs.declared.Flow.TheVariants.{On, Stops, Jumps, Forks}

unfoldable pub flow_of : Instruction → Flow
flow_of I.End = Stops
flow_of (I.Int z) = On
flow_of (I.Float x) = On
flow_of (I.Bool b) = On
flow_of I.Nil = On
flow_of (I.Touch s) = On
flow_of (I.Load s) = On
flow_of (I.Store s) = On
flow_of (I.Ialloc s) = On
flow_of (I.Malloc s) = On
flow_of (I.Ifetch s) = On
flow_of (I.Istore s t) = On
flow_of (I.Mfetch s) = On
flow_of (I.Mstore s t) = On
flow_of (I.Frame n) = On
flow_of I.Own = On
flow_of (I.Binary o s t) = On
flow_of (I.Offset s t) = On
flow_of (I.Switch s a b) = Jumps a b
flow_of (I.Spawn a) = Forks a
flow_of (I.Apply a s) = Forks a
flow_of (I.Get s k) = On
flow_of (I.Put s k) = On

-- "The last instruction is END or SWITCH": no thread runs past it
unfoldable pub closes : Flow → Bool
closes On = false
closes Stops = true
closes (Jumps a b) = true
closes (Forks a) = false

-- "every a and b"
unfoldable pub targets : Flow → List ℕ
targets On = []
targets Stops = []
targets (Jumps a b) = a ∷ b ∷ []
targets (Forks a) = a ∷ []
