-- Demand 3: "A claim depends on its own loads and entries alone: two runs opened with the same shares that agree on these agree on all of that claim, whatever the neighbours do."
-- What it is, over calls on lent bytes, to agree on all of a claim. Assumes nothing.
use Rattle.std.specs.Prelude.{ℕ, suc, ◌≡◌, List, [], ◌∷◌}
use Rattle.rules.specs.Calls.{claim_at}
use Rattle.laying.specs.Laid.{Parts}
use Rattle.state.specs.State.{State, machine_of}
use Rattle.state.specs.Seats.{base_of, parts_at}
use Rattle.calls.specs.Calls.{run_call, load_call, clear_call, report_call}
use Rattle.histories.specs.History.{Call, after, log_of}

-- seat k's bytes in each of the six buffers, its cells where the shares before it end
abbrev pub bytes_of : State → ℕ → Parts
bytes_of s k = parts_at s k (base_of s.book k) (base_of s.book (suc k))

-- seat k after the history h₁ from s₁, and after h₂ from s₂
pub record Agree (k : ℕ) (s₁ : State) (h₁ : List Call) (s₂ : State) (h₂ : List Call) : Type 0 where
  -- "agree on all of that claim": the claim, as it is read from the bytes
  pub claim : claim_at (machine_of (after s₁ h₁)) k ≡ claim_at (machine_of (after s₂ h₂)) k
  -- "all of that claim": every byte of its parts of the buffers
  pub bytes : bytes_of (after s₁ h₁) k ≡ bytes_of (after s₂ h₂) k
  -- "all of that claim": its report
  pub report : report_call (after s₁ h₁) k ≡ report_call (after s₂ h₂) k
  -- "its own loads and entries": what each of them answered
  pub log : log_of k s₁ h₁ ≡ log_of k s₂ h₂
  -- "whatever the neighbours do": what one more entry would write into any buffer, and whether any run goes through
  pub entry : (p : ℕ) (answers : List ℕ) → (run_call (after s₁ h₁) (k ∷ p ∷ []) answers).answers ≡ (run_call (after s₂ h₂) (k ∷ p ∷ []) answers).answers
  pub run : (schedule answers : List ℕ) → (run_call (after s₁ h₁) schedule answers).answer ≡ (run_call (after s₂ h₂) schedule answers).answer
  -- "whatever the neighbours do": what one more load would answer, with its place, and a clearing
  pub load : (image : List ℕ) → (load_call (after s₁ h₁) k image).answer ≡ (load_call (after s₂ h₂) k image).answer
  pub place : (image : List ℕ) → (load_call (after s₁ h₁) k image).place ≡ (load_call (after s₂ h₂) k image).place
  pub clear : (clear_call (after s₁ h₁) k).answer ≡ (clear_call (after s₂ h₂) k).answer
