-- Kinds that have no row in a table. Assumes nothing.
use Prim.Native.Nat.{ℕ, ◌≤◌}
use mathlib.Core.Path.{◌≡◌, sym, ap}
use mathlib.Core.List.{List}
use lib.ListN.{get_or-eq_default}
use Rattle.std.specs.Prelude.{Option, None}
use Rattle.kinds.specs.declared.Instruction.{Instruction}
use Rattle.kinds.specs.Table.{Kind, instructions, instruction_kind, unknown}

-- instructions
pub after-instructions : (k : ℕ) → 28 ≤ k → unknown ≡ instruction_kind k
unfolding instruction_kind instructions
after-instructions k h = sym (get_or-eq_default instructions unknown h)

pub no-instruction-size : (k : ℕ) → 28 ≤ k → 0 ≡ (instruction_kind k).size
no-instruction-size k h = ap (λ (r : Kind (Option Instruction)). r.size) (after-instructions k h)

pub no-instruction : (k : ℕ) (body : List ℕ) → 28 ≤ k → None ≡ (instruction_kind k).means body
no-instruction k body h = ap (λ (r : Kind (Option Instruction)). r.means body) (after-instructions k h)
