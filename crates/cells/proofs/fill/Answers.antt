-- `cells::fill` meets its contract: a value's tag is below 8, so that the kind's bit has room. Assumes nothing.
use Rattle.cells.proofs.Room.{tag_fits}
use Rattle.cells.proofs.fill.Goals as goal

pub overflow_add-c : goal.overflow_add-c
overflow_add-c c = record { fits = tag_fits _ _ _ _ c.encode-c.ensures c.kind_bit.ensures }
