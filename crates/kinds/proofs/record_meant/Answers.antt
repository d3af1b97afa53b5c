-- `kinds::record_meant` meets its contract: each kind's meaning is the table's. Assumes nothing.
use Rattle.kinds.specs.Table.{record_kind, records}
use Rattle.kinds.proofs.record_meant.Goals as goal

pub returns-in-130 : goal.returns-in-130
unfolding record_kind records
returns-in-130 c = rw (c.in-130.is, c.input_meant-in-130.ensures, c.decode-in-130.ensures, c.word_of-in-130.ensures)
