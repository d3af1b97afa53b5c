-- A stride is a step without its instruction: what a walk by strides knows of the steps, and the flow at a place. Assumes nothing.
use Prim.Native.Nat.{ℕ, ◌<◌, ◌≤◌}
use mathlib.Core.Path.{◌≡◌, sym, ap, ◌∙◌}
use mathlib.Core.List.{List}
use lib.ListN.{length, get_or}
use Rattle.laws.proofs.Absurd.{clash}
use Rattle.kinds.specs.declared.Instruction.{Instruction}
use Rattle.kinds.specs.declared.Flow.TheVariants.{On}
use Rattle.kinds.specs.Flows.{flow_of}
use Rattle.kinds.specs.Table.{instruction_kind}
use Rattle.image.specs.Records.{step_at, stride_of, stride_at, flow_in, flow_at}
use Rattle.image.proofs.Places.{stands-there}
use Rattle.image.proofs.Steps.{by-step}
use Rattle.std.specs.Prelude.{Some, Result, Ok, Err}
use Rattle.image.specs.declared.records.Stop.{Stop}

-- an instruction at `at`, and the place m behind it
pub record Passes (l : List ℕ) (at m : ℕ) : Type 0 where
  pub instruction : Instruction
  pub step : step_at l at ≡ Ok (instruction, m)

module _ (l : List ℕ) (at : ℕ) where
  pub stride-stop : {r : Stop} → stride_at l at ≡ Err r → step_at l at ≡ Err r
  unfolding stride_at stride_of
  stride-stop e = by-step l at (λ s f. f ∙ cc (e, ap stride_of f)) (λ i n f. clash (cc (ap stride_of f)))

  pub stride-next : {m : ℕ} → stride_at l at ≡ Ok m → Passes l at m
  unfolding stride_at stride_of
  stride-next e =
      by-step l at
      (λ s f. clash (cc (ap stride_of f)))
      (λ i n f. record { instruction = i; step = f ∙ ap (λ (x : ℕ). Ok (i, x)) (cc (ap stride_of f)) })

-- as a search cites it
pub stride_by : (l : List ℕ) (at m : ℕ) → stride_at l at ≡ Ok m → (at < m) × (m ≤ length l)
stride_by l at m e = (stands-there (stride-next l at e).step).passed

-- ---- the flow at a place

module _ (l : List ℕ) (at : ℕ) where
  pub flow-as : {s : Result (Instruction × ℕ) Stop} → step_at l at ≡ s → flow_in s ≡ flow_at l at
  unfolding flow_at
  flow-as e = rw e

  pub flow-there : {i : Instruction} {m : ℕ} → step_at l at ≡ Ok (i, m) → flow_at l at ≡ flow_of i
  unfolding flow_in
  flow-there e = sym (flow-as e)

  -- of a kind that goes on
  pub flow-on : ((body : List ℕ) (i : Instruction) → (instruction_kind (get_or l at 0)).means body ≡ Some i → flow_of i ≡ On) → On ≡ flow_at l at
  unfolding flow_in
  flow-on f = by-step l at (λ r e. flow-as e) (λ i m e. sym (flow-there e ∙ f _ i (stands-there e).means))
