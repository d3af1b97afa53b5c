-- The tag and the word that stand for a value in a lent state. Assumes nothing.
use Rattle.std.specs.Prelude.{ℕ, Float, ◌%◌, Bool, ◌&&◌, List, length, get_or, ltb, leb, eqb}
use Rattle.std.specs.Float.{binary64}
use Rattle.std.specs.Float.Ieee.{of_bits, to_bits}
use Rattle.std.specs.Float.Ieee.Scale.{finite}
use Rattle.std.specs.Int.{w64}
use mir.Val.{to_z, of_z, bool_byte}
use Rattle.std.specs.Prelude.{if◌then◌else◌}
use Rattle.value.specs.declared.Value.{Value}
use Rattle.value.specs.declared.Value.TheVariants.{Integer, Boolean, Nil, Location}
use Rattle.std.specs.Prelude.{Option, Some, None}
use Rattle.value.specs.declared.coding.Coded.{Coded}

-- 0 stands for no value, so that an empty cell is all zero
unfoldable pub tag_of : Value → ℕ
tag_of (Integer z) = 1
tag_of (Value.Float x) = 2
tag_of (Boolean b) = 3
tag_of Nil = 4
tag_of (Location l) = 5

-- two's complement, the float's bits, 0 or 1, 0, the location
unfoldable pub word_of : Value → ℕ
word_of (Integer z) = of_z w64 z
word_of (Value.Float x) = to_bits binary64 x
word_of (Boolean b) = bool_byte b
word_of Nil = 0
word_of (Location l) = l

unfoldable pub encoded : Value → Coded
encoded v = record { tag = tag_of v; word = word_of v }

-- a float, if its bits are those of a finite one
unfoldable pub float_in : ℕ → Option Float
float_in word = if finite (of_bits binary64 word) then Some (of_bits binary64 word) else None

-- a value, if its word passes the test of its kind
unfoldable pub only : Bool → Value → Option Value
only t v = if t then Some v else None

unfoldable pub decoded : ℕ → ℕ → Option Value
decoded tag word =
    if eqb tag 1 then Some (Integer (to_z w64 word)) else
    (if eqb tag 2 then only (finite (of_bits binary64 word)) (Value.Float (of_bits binary64 word)) else
    (if eqb tag 3 then only (leb word 1) (Boolean (eqb word 1)) else
    (if eqb tag 4 then only (eqb word 0) Nil else
    (if eqb tag 5 then only (leb word 65535) (Location word) else None))))

-- The low three bits of a cell's tag are its value's tag; what stands above them is the cell's own.
unfoldable pub held_at : List ℕ → List ℕ → ℕ → Option Value
held_at tags words i =
    if ltb i (length tags) && ltb i (length words) then decoded (get_or tags i 0 % 8) (get_or words i 0) else None
