-- `kinds::instruction_size` meets its contract: each kind's length is the table's. Assumes nothing.
use native.Mathlib.Omega.{arith}
use Prim.Native.Nat.{ℕ}
use mathlib.Core.Bool.{Bool}
use mathlib.Core.List.{[], ◌∷◌}
use lib.Dec.{eqb, eqb→eq}
use Rattle.laws.proofs.Arms.{ranged}
use Rattle.kinds.specs.Table.{instruction_kind, instructions}
use Rattle.kinds.proofs.Rows.{no-instruction-size}
use Rattle.kinds.proofs.instruction_size.Goals as goal

abbrev is : ℕ → ℕ → Bool
is n k = eqb n (instruction_kind k).size

pub returns-in_default : goal.returns-in_default
returns-in_default c = no-instruction-size _ (omega arith)

pub returns-in-16-to-27-2 : goal.returns-in-16-to-27-2
unfolding instruction_kind instructions
returns-in-16-to-27-2 c = eqb→eq _ _ (ranged (is 2) (23 ∷ 25 ∷ []) 16 12 tt c.args.kind (λ h. omega arith) (grind arith) (omega arith))
