-- Document 01, "Instructions": the tests of a slot and of a cell, in the paper's order. Assumes nothing.
use Rattle.std.specs.Prelude.{ℕ, Bool, ◌&&◌, leb, ℤ, pos, negsuc, Option, Some, None, Result, Ok, Err}
use Rattle.std.specs.Prelude.{if◌then◌else◌}
use Rattle.value.specs.declared.Value.{Value}
use Rattle.value.specs.declared.refusals.Refusal.{Refusal}
use Rattle.value.specs.declared.refusals.Refusal.TheVariants.{NoSuchCell, WrongCell, SlotEmpty, BadSize}
use Rattle.value.specs.Refusals.{refusal_number}
use Rattle.value.specs.Wanted.{as_integer, as_boolean, as_location}
use Rattle.rules.specs.declared.Kind.{Kind}
use Rattle.rules.specs.declared.Kind.TheVariants.{Icell, Mcell}
use Rattle.rules.specs.declared.Slot.{Slot}
use Rattle.rules.specs.declared.Slot.TheVariants.{Missing, Empty, Full}
use Rattle.rules.specs.declared.Effect.{Effect}
use Rattle.rules.specs.declared.Effect.TheVariants.{Refuses}

-- "Reading a slot needs, in this order: the cell exists, it is an I-cell, it is full, its value has the kind wanted."
unfoldable pub value_in : Slot → Result Value Refusal
value_in Missing = Err NoSuchCell
value_in (Empty Mcell) = Err WrongCell
value_in (Full Mcell v) = Err WrongCell
value_in (Empty Icell) = Err SlotEmpty
value_in (Full Icell v) = Ok v

unfoldable pub location_of : Result Value Refusal → Result ℕ Refusal
location_of (Ok v) = as_location v
location_of (Err n) = Err n

unfoldable pub integer_of : Result Value Refusal → Result ℤ Refusal
integer_of (Ok v) = as_integer v
integer_of (Err n) = Err n

unfoldable pub truth_of : Result Value Refusal → Result Bool Refusal
truth_of (Ok v) = as_boolean v
truth_of (Err n) = Err n

-- "size in slot, 1 to 1,024"; "bad size"
unfoldable pub size_of : Result ℤ Refusal → Result ℕ Refusal
size_of (Ok (pos n)) = if leb 1 n && leb n 1024 then Ok n else Err BadSize
size_of (Ok (negsuc n)) = Err BadSize
size_of (Err n) = Err n

-- "then the cell pointed to is tested (exists, cell kind, empty or full)"
unfoldable pub of_kind : Kind → Kind → Result (Option Value) Refusal → Result (Option Value) Refusal
of_kind Icell Icell h = h
of_kind Icell Mcell h = Err WrongCell
of_kind Mcell Icell h = Err WrongCell
of_kind Mcell Mcell h = h

unfoldable pub cell_in : Kind → Slot → Result (Option Value) Refusal
cell_in k Missing = Err NoSuchCell
cell_in k (Empty j) = of_kind k j (Ok None)
cell_in k (Full j v) = of_kind k j (Ok (Some v))

-- a test that passes hands something on; one that fails refuses
infixl 1 ◌>>=◌
abbrev pub ◌>>=◌ : {A : Type 0} → Result A Refusal → (A → Effect) → Effect
Ok a >>= f = f a
Err r >>= f = Refuses (refusal_number r)
