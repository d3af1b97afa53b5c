-- One pick on one seat, over lists of numbers: what the code does, whatever the lists hold. Assumes nothing.
use Rattle.std.specs.Prelude.{ℕ, Option, Some, None, Result, Ok, Err, ◌%◌, List, get_or, take, eqb}
use Rattle.std.specs.Prelude.{if◌then◌else◌}
use Rattle.kinds.specs.declared.Instruction.{Instruction}
use Rattle.image.specs.Records.{fetched_at}
use Rattle.rules.specs.declared.Thread.{Thread}
use Rattle.rules.specs.declared.Effect.{Effect}
use Rattle.rules.specs.declared.Effect.TheVariants.{Ends}
use Rattle.rules.specs.declared.Answer.{Answer}
use Rattle.rules.specs.declared.Answer.TheVariants.{NotRunning, StepsSpent, NoSuchPick}
use Rattle.rules.specs.Decide.{View, decide}
use Rattle.rules.specs.Turn.{answer_number, answer_of}
use Rattle.cells.specs.Lent.{view_on}
use Rattle.threads.specs.Heads.{thread_in}
use Rattle.threads.specs.Row.{found_from}
use Rattle.book.specs.declared.Tally.{Tally}
use Rattle.book.specs.Book.{tally_in, room_in}
use Rattle.effects.specs.Enacted.{Parts, Turned, turned, performed}

-- "tested in the order 4, 5, 7, 6"; a claim with no image, a refusal or no ready thread is not running
unfoldable pub gate_by : Tally → Result ℕ ℕ → Result ℕ Answer
gate_by n (Ok i) = if eqb n.steps 4294967295 then Err StepsSpent else Ok i
gate_by n (Err k) = if eqb k 0 then Err NotRunning else (if eqb n.steps 4294967295 then Err StepsSpent else Err NoSuchPick)

unfoldable pub gate_of : Tally → Result ℕ ℕ → Result ℕ Answer
gate_of n f = if eqb n.length 0 then Err NotRunning else (if eqb n.refusal 0 then gate_by n f else Err NotRunning)

-- a position has sixteen bits
unfoldable pub decided_on : Option (Instruction × ℕ) → View → Thread → Effect
decided_on (Some (i, after)) see th = decide (after % 65536) see th i
decided_on None see th = Ends

-- what the instruction asks for, and then room
unfoldable pub asked_in : List ℕ → ℕ → Tally → List ℕ → List ℕ → Thread → Effect
asked_in image start n tags words th = decided_on (fetched_at image n.code th.position) (view_on tags words n.used start) th

unfoldable pub effect_in : List ℕ → ℕ → Tally → List ℕ → List ℕ → Thread → Effect
effect_in image start n tags words th = room_in n (asked_in image start n tags words th)

unfoldable pub effect_on : List ℕ → ℕ → Parts → ℕ → Effect
effect_on image start p i =
    effect_in image start (tally_in p.book) p.tags p.words (thread_in (get_or p.heads i 0) (get_or p.accs i 0))

unfoldable pub passed : Result ℕ Answer → List ℕ → ℕ → Parts → Turned
passed (Err a) image start p = turned (answer_number a) p
passed (Ok i) image start p = turned (answer_of (effect_on image start p i)) (performed (effect_on image start p i) start i p)

unfoldable pub turn_on : List ℕ → ℕ → ℕ → Parts → Turned
turn_on image start pick p = passed (gate_of (tally_in p.book) (found_from pick 0 0 (take (tally_in p.book).live p.heads))) image start p
