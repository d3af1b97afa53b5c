-- Document 01, "Status and numbers": the numbers that an instruction is refused by. Assumes nothing.
use Rattle.std.specs.Prelude.{ℕ}
use Rattle.value.specs.declared.refusals.Refusal.{Refusal}
use Rattle.value.specs.declared.refusals.Refusal.TheVariants.{NoSuchCell, WrongCell, SlotEmpty, WrongKind, CellFull, BadSize, NoCellsLeft, NoThreadsLeft, OutOfRange, ZeroDivisor}

abbrev pub refusal_number : Refusal → ℕ
-- "1, 2: no such cell for this seat; wrong cell kind"
refusal_number NoSuchCell = 1
refusal_number WrongCell = 2
-- "3, 4: slot empty; wrong kind of value"
refusal_number SlotEmpty = 3
refusal_number WrongKind = 4
-- "5: store to a full cell"
refusal_number CellFull = 5
-- "6, 7, 8: bad size; no cells left; no threads left"
refusal_number BadSize = 6
refusal_number NoCellsLeft = 7
refusal_number NoThreadsLeft = 8
-- "9: arithmetic": "an answer out of range", "an answer not finite"
refusal_number OutOfRange = 9
-- "a zero divisor is refused"
refusal_number ZeroDivisor = 9
