-- One seat's report, off its parts of the lent buffers. Assumes nothing.
use Rattle.std.specs.Prelude.{ℕ, ◌/◌, ◌%◌, List, Option, Some, None, Result, Ok, Err, get_or, eqb}
use Rattle.std.specs.Prelude.{if◌then◌else◌}
use Rattle.value.specs.declared.Value.{Value}
use Rattle.rules.specs.declared.Slot.{Slot}
use Rattle.rules.specs.declared.Slot.TheVariants.{Missing, Empty, Full}
use Rattle.rules.specs.declared.Status.{Status}
use Rattle.rules.specs.declared.Status.TheVariants.{Vacant, Running, Finished, Deadlocked, Refused}
use Rattle.rules.specs.declared.Report.{Report}
use Rattle.cells.specs.Lent.{look_on}
use Rattle.threads.specs.Row.{found_from}
use Rattle.book.specs.declared.Tally.{Tally}
use Rattle.book.specs.Book.{tally_in}

-- "1 running (some thread ready), 2 finished (no live thread), 3 deadlocked (none ready, some waiting)": `f` is the search for the first ready thread
unfoldable pub standing : Tally → Result ℕ ℕ → Status
standing n (Ok i) = Running
standing n (Err k) = if eqb n.live 0 then Finished else Deadlocked

-- "0 vacant; 4 refused; else .."
unfoldable pub status_in : Tally → Result ℕ ℕ → Status
status_in n f = if eqb n.length 0 then Vacant else (if eqb n.refusal 0 then standing n f else Refused)

-- "The claim's result is cell 0 of that frame, if full."
unfoldable pub outcome_in : Slot → Option Value
outcome_in Missing = None
outcome_in (Empty k) = None
outcome_in (Full k v) = Some v

-- "position and refusal are 0 unless refused": the position in the head of the refused thread
unfoldable pub position_in : Tally → List ℕ → ℕ
position_in n heads = if eqb n.refusal 0 then 0 else get_or heads n.halted 0 / 65536 % 65536

unfoldable pub report_by : Tally → List ℕ → List ℕ → List ℕ → Report
report_by n tags words heads =
    record {
      status = status_in n (found_from 0 0 0 heads);
      refusal = n.refusal % 256;
      position = position_in n heads;
      used = n.used;
      live = n.live;
      steps = n.steps;
      result = outcome_in (look_on tags words n.used 0 0);
    }

unfoldable pub report_on : List ℕ → List ℕ → List ℕ → List ℕ → Report
report_on book tags words heads = report_by (tally_in book) tags words heads
