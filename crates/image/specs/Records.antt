-- Document 01, "Images": one record of an image, at a place. Assumes nothing.
use Rattle.std.specs.Prelude.{ℕ, zero, suc, ◌+◌, ◌-◌, List, [], ◌∷◌, length, get_or, take, drop, leb, ltb}
use Rattle.std.specs.Prelude.{if◌then◌else◌, Option, Some, None, Result, Ok, Err}
use Rattle.value.specs.declared.Value.{Value}
use Rattle.kinds.specs.declared.Instruction.{Instruction}
use Rattle.kinds.specs.declared.Record.{Record}
use Rattle.kinds.specs.declared.Record.TheVariants as R
use Rattle.kinds.specs.declared.Flow.{Flow}
use Rattle.kinds.specs.declared.Flow.TheVariants.{On}
use Rattle.kinds.specs.Flows.{flow_of}
use Rattle.kinds.specs.Table.{Kind, instruction_kind, record_kind}
use Rattle.image.specs.declared.records.Stop.{Stop}
use Rattle.image.specs.declared.records.Stop.TheVariants.{Ended, Bad}

-- the place behind a record of this kind at `at`, and the body between
abbrev pub behind : {A : Type 0} → Kind A → ℕ → ℕ
behind k at = at + 1 + k.size

abbrev pub body_at : {A : Type 0} → Kind A → List ℕ → ℕ → List ℕ
body_at k l at = take k.size (drop (at + 1) l)

-- ---- what stands at a place, with the place behind it, by the table of its part of the image

unfoldable pub placed : {A : Type 0} → Option A → ℕ → Result (A × ℕ) Stop
placed (Some x) m = Ok (x, m)
placed None m = Err Bad

-- "unknown, cut short or breaks a rule"
unfoldable pub whole_by : {A : Type 0} → Kind (Option A) → List ℕ → ℕ → Result (A × ℕ) Stop
whole_by k l at = if leb (behind k at) (length l) then placed (k.means (body_at k l at)) (behind k at) else Err Bad

unfoldable pub whole_at : {A : Type 0} → (ℕ → Kind (Option A)) → List ℕ → ℕ → Result (A × ℕ) Stop
whole_at table l at = if ltb at (length l) then whole_by (table (get_or l at 0)) l at else Err Ended

-- ---- instructions

abbrev pub step_at : List ℕ → ℕ → Result (Instruction × ℕ) Stop
step_at l at = whole_at instruction_kind l at

-- the same without the instruction
unfoldable pub stride_of : Result (Instruction × ℕ) Stop → Result ℕ Stop
stride_of (Err e) = Err e
stride_of (Ok (i, m)) = Ok m

unfoldable pub stride_at : List ℕ → ℕ → Result ℕ Stop
stride_at l at = stride_of (step_at l at)

-- where a thread may go from the instruction at a place; on, where there is none
unfoldable pub flow_in : Result (Instruction × ℕ) Stop → Flow
flow_in (Err e) = On
flow_in (Ok (i, m)) = flow_of i

unfoldable pub flow_at : List ℕ → ℕ → Flow
flow_at l at = flow_in (step_at l at)

-- the instruction at a position of the code, which "positions count from its own start", with the position behind it
unfoldable pub fetched_by : ℕ → Result (Instruction × ℕ) Stop → Option (Instruction × ℕ)
fetched_by code (Err e) = None
fetched_by code (Ok (i, m)) = Some (i, m - code)

unfoldable pub fetched_at : List ℕ → ℕ → ℕ → Option (Instruction × ℕ)
fetched_at l code p = fetched_by code (step_at l (code + p))

-- ---- records before the code

abbrev pub head_at : List ℕ → ℕ → Result (Record × ℕ) Stop
head_at l at = whole_at record_kind l at

-- "Then inputs for slots 1, 2, ..": n of them, the first at `at`
unfoldable pub inputs_from : ℕ → List ℕ → ℕ → List Value
inputs_from zero l at = []
inputs_from (suc n) l at =
    elim (head_at l at) [
      | Err e ↦ []
      | Ok (R.Slots r, m) ↦ []
      | Ok (R.Input v, m) ↦ v ∷ inputs_from n l m
      | Ok (R.Code, m) ↦ []
    ]

-- the first record, 80 and its r, has two bytes
unfoldable pub inputs : ℕ → List ℕ → List Value
inputs n l = inputs_from n l 2
