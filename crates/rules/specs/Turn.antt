-- Document 01, "One schedule entry": what a seat does at a pick. Assumes nothing.
use Rattle.std.specs.Prelude.{ℕ, Bool, true, false, not, ltb, eqb, Option, Some, None, Ok, Err}
use Rattle.std.specs.Prelude.{if◌then◌else◌}
use Rattle.image.specs.Records.{fetched_at}
use Rattle.image.specs.Reading.{Verdict, read_image}
use Rattle.kinds.specs.declared.Instruction.{Instruction}
use Rattle.rules.specs.declared.Thread.{Thread}
use Rattle.rules.specs.declared.Effect.{Effect}
use Rattle.rules.specs.declared.Effect.TheVariants.{Goes, Ends, Waits, Fills, Empties, Makes, Spawns, Refuses}
use Rattle.rules.specs.declared.Answer.{Answer}
use Rattle.rules.specs.declared.Status.{Status}
use Rattle.rules.specs.declared.Status.TheVariants.{Vacant, Running, Finished, Deadlocked, Refused}
use Rattle.rules.specs.Decide.{View, decide}
use Rattle.rules.specs.Claim.{Claim, view, room, perform, status_of, ready_count, seek, thread_at}

-- where an accepted image's code starts
unfoldable pub code_of : Verdict → ℕ
code_of (Err f) = 0
code_of (Ok g) = g.code

-- A thread of a sound claim is at an instruction, so `None` is never met: such a thread would end.
unfoldable pub decided : Option (Instruction × ℕ) → View → Thread → Effect
decided (Some (i, after)) see th = decide after see th i
decided None see th = Ends

-- what the thread at place i of the row does next
unfoldable pub effect_at : Claim → ℕ → Effect
effect_at c i = room c (decided (fetched_at c.image (code_of (read_image c.image)) (thread_at c i).position) (view c) (thread_at c i))

-- the number of each answer of an entry
abbrev pub answer_number : Answer → ℕ
-- "0, 1, 2: ran on, ended, waits", "3: ran into a refusal"
answer_number Answer.RanOn = 0
answer_number Answer.Ended = 1
answer_number Answer.Waits = 2
answer_number Answer.Refused = 3
-- "4: no such seat"
answer_number Answer.NoSuchSeat = 4
-- 5 "the claim is not running", 6 "pick is not below the ready count", 7 "step count is 4,294,967,295"
answer_number Answer.NotRunning = 5
answer_number Answer.NoSuchPick = 6
answer_number Answer.StepsSpent = 7

-- "0, 1, 2: ran on, ended, waits", "3: ran into a refusal"
unfoldable pub answer_of : Effect → ℕ
answer_of (Goes t) = 0
answer_of Ends = 1
answer_of (Waits t l) = 2
answer_of (Fills t k l v) = 0
answer_of (Empties t l) = 0
answer_of (Makes t k n) = 0
answer_of (Spawns t new) = 0
answer_of (Refuses n) = 3

unfoldable pub is_running : Status → Bool
is_running Vacant = false
is_running Running = true
is_running Finished = false
is_running Deadlocked = false
is_running Refused = false

-- a claim, and what it answered
pub record Turned : Type 0 where
  pub claim : Claim
  pub answer : ℕ

abbrev pub turned : Claim → ℕ → Turned
turned c n = record { claim = c; answer = n }

unfoldable pub ran : Claim → ℕ → Turned
ran c i = turned (perform (effect_at c i) i c) (answer_of (effect_at c i))

-- "tested in the order 4, 5, 7, 6": 5 "the claim is not running", 7 "step count is 4,294,967,295", 6 "pick is not below the ready count"; "nothing changed"
unfoldable pub turn : Claim → ℕ → Turned
turn c pick =
    if not (is_running (status_of c)) then turned c 5 else
    (if eqb c.steps 4294967295 then turned c 7 else
    (if not (ltb pick (ready_count c)) then turned c 6 else ran c (seek c.row pick)))
