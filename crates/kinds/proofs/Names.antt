-- The names and the lengths of the instructions, in the order of their kinds. Assumes nothing.
use Prim.Native.Nat.{ℕ}
use Prim.Native.String.{String}
use mathlib.Core.Path.{◌≡◌, refl}
use mathlib.Core.List.{[], ◌∷◌, map}
use Rattle.std.specs.Prelude.{Option}
use Rattle.kinds.specs.declared.Instruction.{Instruction}
use Rattle.kinds.specs.Table.{Kind, instructions}

abbrev name_of : Kind (Option Instruction) → String
name_of k = k.name

abbrev size_of : Kind (Option Instruction) → ℕ
size_of k = k.size

pub names :
    map name_of instructions ≡
    "END" ∷ "INT" ∷ "FLOAT" ∷ "BOOL" ∷ "NIL" ∷ "TOUCH" ∷ "LOAD" ∷ "STORE" ∷ "IALLOC" ∷ "MALLOC" ∷ "IFETCH" ∷ "ISTORE" ∷ "MFETCH" ∷ "MSTORE" ∷ "FRAME" ∷ "SELF" ∷ "ADD" ∷ "SUB" ∷ "MUL" ∷ "DIV" ∷ "LESS" ∷ "EQUAL" ∷ "OFFSET" ∷ "SWITCH" ∷ "SPAWN" ∷ "APPLY" ∷ "GET" ∷ "PUT" ∷ []
unfolding instructions
names = refl

pub lengths :
    map size_of instructions ≡
    0 ∷ 8 ∷ 8 ∷ 1 ∷ 0 ∷ 1 ∷ 1 ∷ 1 ∷ 1 ∷ 1 ∷ 1 ∷ 2 ∷ 1 ∷ 2 ∷ 1 ∷ 0 ∷ 2 ∷ 2 ∷ 2 ∷ 2 ∷ 2 ∷ 2 ∷ 2 ∷ 5 ∷ 2 ∷ 3 ∷ 2 ∷ 2 ∷ []
unfolding instructions
lengths = refl
