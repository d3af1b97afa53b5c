-- What a thread sees from where it stands, and what it does. Assumes nothing.
use Rattle.std.specs.Prelude.{ℕ, ◌+◌}
use Rattle.kinds.specs.declared.Instruction.{Instruction}
use Rattle.rules.specs.declared.Slot.{Slot}
use Rattle.rules.specs.declared.Effect.{Effect}
use Rattle.rules.specs.Decide.{View, decide}
use Rattle.cells.specs.Lent.{view_on, look_in}
use Rattle.slots.specs.declared.Standing.{Standing}

-- what a slot is: the cell at frame + s
abbrev pub slot : Standing → ℕ → Slot
slot at s = look_in at.cells (at.thread.frame + s)

abbrev pub seen : Standing → View
seen at = view_on at.cells.tags.now at.cells.words.now at.cells.used at.cells.start

-- the rule for an instruction of this thread
abbrev pub decision : Standing → Instruction → Effect
decision at i = decide at.after (seen at) at.thread i
