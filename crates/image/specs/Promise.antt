-- What an accepted image promises. Whoever stands above the reader needs no more. Assumes nothing.
use Rattle.std.specs.Prelude.{ℕ, ◌+◌, ◌<◌, ◌≤◌, ◌≡◌, Bool, true, false, ◌&&◌, List, [], ◌∷◌, length}
use Rattle.value.specs.declared.Value.{Value}
use Rattle.value.specs.Range.{well_formed}
use Rattle.kinds.specs.declared.Instruction.{Instruction}
use Rattle.kinds.specs.Flows.{flow_of, closes, targets}
use Rattle.kinds.specs.Operands.{sane}
use Rattle.image.specs.Records.{fetched_at, inputs}
use Rattle.image.specs.Reading.{start, all_start}
use Rattle.std.specs.Prelude.{Some}

-- a whole, well-formed instruction at position p; its targets are starts, and unless it is END or SWITCH the next position is a start
pub record Whole (l : List ℕ) (code p : ℕ) : Type 0 where
  pub instruction : Instruction
  pub after : ℕ
  pub fetched : fetched_at l code p ≡ Some (instruction, after)
  pub forward : p < after
  pub within : code + after ≤ length l
  pub operands : sane instruction ≡ true
  pub aims : all_start l code (targets (flow_of instruction)) ≡ true
  pub goes_on : closes (flow_of instruction) ≡ false → start l code after ≡ true

unfoldable pub all_good : List Value → Bool
all_good [] = true
all_good (v ∷ vs) = well_formed v && all_good vs

pub record Promise (l : List ℕ) (r n code : ℕ) : Type 0 where
  pub short : length l ≤ 4096
  pub slots-from : 1 ≤ r
  pub slots-to : r ≤ 255
  pub room : n < r
  pub input-count : length (inputs n l) ≡ n
  pub input-values : all_good (inputs n l) ≡ true
  pub inside : code < length l
  pub first : start l code 0 ≡ true
  pub whole : (p : ℕ) → start l code p ≡ true → Whole l code p
