-- Which bodies mean an instruction, without the instruction. Assumes nothing.
use Prim.Native.Nat.{ℕ, ◌<◌, ◌≤◌, zero-le}
use mathlib.Core.Path.{◌≡◌, refl, sym}
use mathlib.Core.Bool.{Bool, true, false}
use mathlib.Core.List.{List, [], ◌∷◌}
use lib.Dec.{leb}
use lib.Ieee.Bits.{is_true}
use Rattle.std.specs.Prelude.{if◌then◌else◌}
use types.Run.{OneOf}
use Rattle.laws.proofs.Arms.{ranged}
use Rattle.kinds.specs.declared.Instruction.{Instruction}
use Rattle.std.specs.Prelude.{Some, None, is_some}
use Rattle.kinds.specs.Table.{instructions, instruction_kind, truth_means, frame_means, switch_means}
use Rattle.kinds.proofs.Rows.{after-instructions}

chosen-meant : (t : Bool) (i : Instruction) → is_some (if t then Some i else None) ≡ t
chosen-meant true i = refl
chosen-meant false i = refl

pub truth-tested : (byte : ℕ) → is_some (truth_means byte) ≡ leb byte 1
unfolding truth_means
truth-tested byte = chosen-meant (leb byte 1) _

pub frame-tested : (n : ℕ) → is_some (frame_means n) ≡ leb 1 n
unfolding frame_means
frame-tested n = chosen-meant (leb 1 n) _

module _ (k : ℕ) (body : List ℕ) where
  -- but FLOAT, BOOL and FRAME
  pub untested : (OneOf (2 ∷ 3 ∷ 14 ∷ []) k → ⊥) → k < 28 → true ≡ is_some ((instruction_kind k).means body)
  unfolding instruction_kind instructions switch_means
  untested o h = sym (is_true _ (ranged (λ k. is_some ((instruction_kind k).means body)) (2 ∷ 3 ∷ 14 ∷ []) 0 28 tt k o zero-le h))

  pub unmeant : 28 ≤ k → false ≡ is_some ((instruction_kind k).means body)
  unmeant h = rw (sym (after-instructions k h))
