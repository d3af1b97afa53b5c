-- Document 01, "Images": the table of kinds. Each row has the paper's name, the length of the body and what the body means. Assumes nothing.
use Rattle.std.specs.Prelude.{ℕ, ◌-◌, Option, Some, None, List, [], ◌∷◌, get_or, leb, eqb}
use Prim.Native.String.{String}
use Rattle.std.specs.Option.{option_map}
use Rattle.std.specs.Int.{w64}
use Rattle.std.proofs.Common.{to_z}
use Rattle.std.specs.Prelude.{if◌then◌else◌}
use Rattle.value.specs.declared.Value.{Value}
use Rattle.value.specs.Coding.{decoded, float_in}
use Rattle.numbers.specs.declared.Operation.TheVariants.{Add, Sub, Mul, Div, Less, Equal}
use Rattle.kinds.specs.declared.Instruction.{Instruction}
use Rattle.kinds.specs.declared.Instruction.TheVariants as I
use Rattle.kinds.specs.declared.Record.{Record}
use Rattle.kinds.specs.declared.Record.TheVariants.{Slots, Input, Code}
use Rattle.kinds.specs.Bytes.{byte_in, pair_in, word_in}

-- "one byte of kind, then a body whose length the kind fixes"
pub record Kind (A : Type 0) : Type 0 where
  pub name : String
  pub size : ℕ
  pub means : List ℕ → A

abbrev pub kind : {A : Type 0} → String → ℕ → (List ℕ → A) → Kind A
kind name size means = record { name = name; size = size; means = means }

-- ---- instructions, kinds 00 to 1B

-- "Floats in images must be finite, booleans 0 or 1, FRAME's n at least 1."
unfoldable pub float_means : ℕ → Option Instruction
float_means word = option_map I.Float (float_in word)

unfoldable pub truth_means : ℕ → Option Instruction
truth_means byte = if leb byte 1 then Some (I.Bool (eqb byte 1)) else None

unfoldable pub frame_means : ℕ → Option Instruction
frame_means n = if leb 1 n then Some (I.Frame n) else None

-- "SWITCH s a b", "a, b two-byte positions"
unfoldable pub switch_means : List ℕ → Option Instruction
switch_means b = Some (I.Switch (byte_in b 0) (pair_in b 1) (pair_in b 3))

-- an instruction with no operand; with one byte; with two
abbrev pub bare : String → Instruction → Kind (Option Instruction)
bare name i = kind name 0 (λ b. Some i)

abbrev pub one : String → (ℕ → Instruction) → Kind (Option Instruction)
one name f = kind name 1 (λ b. Some (f (byte_in b 0)))

abbrev pub two : String → (ℕ → ℕ → Instruction) → Kind (Option Instruction)
two name f = kind name 2 (λ b. Some (f (byte_in b 0) (byte_in b 1)))

abbrev pub unknown : Kind (Option Instruction)
unknown = kind "" 0 (λ b. None)

unfoldable pub instructions : List (Kind (Option Instruction))
instructions =
    bare "END" I.End
    ∷ kind "INT" 8 (λ b. Some (I.Int (to_z w64 (word_in b))))
    ∷ kind "FLOAT" 8 (λ b. float_means (word_in b))
    ∷ kind "BOOL" 1 (λ b. truth_means (byte_in b 0))
    ∷ bare "NIL" I.Nil
    ∷ one "TOUCH" I.Touch
    ∷ one "LOAD" I.Load
    ∷ one "STORE" I.Store
    ∷ one "IALLOC" I.Ialloc
    ∷ one "MALLOC" I.Malloc
    ∷ one "IFETCH" I.Ifetch
    ∷ two "ISTORE" I.Istore
    ∷ one "MFETCH" I.Mfetch
    ∷ two "MSTORE" I.Mstore
    ∷ kind "FRAME" 1 (λ b. frame_means (byte_in b 0))
    ∷ bare "SELF" I.Own
    ∷ two "ADD" (I.Binary Add)
    ∷ two "SUB" (I.Binary Sub)
    ∷ two "MUL" (I.Binary Mul)
    ∷ two "DIV" (I.Binary Div)
    ∷ two "LESS" (I.Binary Less)
    ∷ two "EQUAL" (I.Binary Equal)
    ∷ two "OFFSET" I.Offset
    ∷ kind "SWITCH" 5 switch_means
    ∷ kind "SPAWN" 2 (λ b. Some (I.Spawn (pair_in b 0)))
    ∷ kind "APPLY" 3 (λ b. Some (I.Apply (pair_in b 0) (byte_in b 2)))
    ∷ two "GET" I.Get
    ∷ two "PUT" I.Put
    ∷ []

unfoldable pub instruction_kind : ℕ → Kind (Option Instruction)
instruction_kind k = get_or instructions k unknown

-- ---- records before the code, kinds 80 to 85

-- "80 (one byte r, 1 to 255: slots of the root frame)"
unfoldable pub slots_means : ℕ → Option Record
slots_means r = if leb 1 r then Some (Slots r) else None

-- "81 integer (8 bytes), 82 float (8), 83 boolean (1, value 0 or 1), 84 nil (0)", each as the value of its tag
abbrev pub input_means : Option Value → Option Record
input_means = option_map Input

abbrev pub strange : Kind (Option Record)
strange = kind "" 0 (λ b. None)

unfoldable pub records : List (Kind (Option Record))
records =
    kind "80" 1 (λ b. slots_means (byte_in b 0))
    ∷ kind "81" 8 (λ b. input_means (decoded 1 (word_in b)))
    ∷ kind "82" 8 (λ b. input_means (decoded 2 (word_in b)))
    ∷ kind "83" 1 (λ b. input_means (decoded 3 (byte_in b 0)))
    ∷ kind "84" 0 (λ b. input_means (decoded 4 0))
    ∷ kind "85" 0 (λ b. Some Code)
    ∷ []

unfoldable pub record_kind : ℕ → Kind (Option Record)
record_kind k = if leb 0x80 k then get_or records (k - 0x80) strange else strange
