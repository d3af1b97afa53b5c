-- A cell as its tag and its word: the low three bits of the tag are the value's tag, the next is the kind. Assumes nothing.
use Rattle.std.specs.Prelude.{ℕ, Option, Some, None, ◌+◌, ◌-◌, ◌/◌, ◌%◌, ◌&&◌, List, get_or, leb, ltb, eqb}
use Rattle.std.specs.Prelude.{if◌then◌else◌}
use Rattle.value.specs.declared.Value.{Value}
use Rattle.value.specs.Coding.{tag_of, held_at}
use Rattle.numbers.specs.Integers.{moved}
use Rattle.rules.specs.declared.Kind.{Kind}
use Rattle.rules.specs.declared.Kind.TheVariants.{Icell, Mcell}
use Rattle.rules.specs.declared.Slot.{Slot}
use Rattle.rules.specs.declared.Slot.TheVariants.{Missing, Empty, Full}
use Rattle.rules.specs.Decide.{View}
use Rattle.cells.specs.declared.Cells.{Cells}

unfoldable pub kind_bit : Kind → ℕ
kind_bit Icell = 0
kind_bit Mcell = 8

unfoldable pub kind_in : ℕ → Kind
kind_in tag = if eqb (tag / 8 % 2) 0 then Icell else Mcell

-- the tag of a full cell; that of an empty one is its kind's bit
unfoldable pub tag_for : Kind → Value → ℕ
tag_for k v = tag_of v + kind_bit k

unfoldable pub filled : Kind → Option Value → Slot
filled k (Some v) = Full k v
filled k None = Missing

unfoldable pub slot_at : List ℕ → List ℕ → ℕ → Slot
slot_at tags words i =
    if eqb (get_or tags i 0 % 8) 0 then Empty (kind_in (get_or tags i 0)) else filled (kind_in (get_or tags i 0)) (held_at tags words i)

-- "Cells are reached only inside the seat's region and below its used count."
unfoldable pub look_on : List ℕ → List ℕ → ℕ → ℕ → ℕ → Slot
look_on tags words used start l = if leb start l && ltb (l - start) used then slot_at tags words (l - start) else Missing

abbrev pub look_in : Cells → ℕ → Slot
look_in c l = look_on c.tags.now c.words.now c.used c.start l

-- the location of the next cell made; 0 where a location has no room for it
unfoldable pub fresh_on : ℕ → ℕ → ℕ
fresh_on used start = if leb (start + used) 65535 then start + used else 0

-- what a thread may see of the cells in these lists
abbrev pub view_on : List ℕ → List ℕ → ℕ → ℕ → View
view_on tags words used start = record { at = λ l k. look_on tags words used start (l + k); moved = moved; fresh = fresh_on used start }
