-- The instructions that a walk from a place reaches, and what a walk and a search for bad targets that find no fault say of each. Assumes nothing.
use Prim.Native.Nat.{ℕ, zero, suc}
use mathlib.Core.Path.{◌≡◌, refl, sym, subst, ◌∙◌}
use mathlib.Core.Bool.{true}
use mathlib.Core.List.{List}
use lib.ListN.{length}
use lib.Dec.{eqb}
use borrow.Author.Tests.{eqb-true, eq-eqb}
use Rattle.laws.proofs.Choice.{tested}
use Rattle.laws.proofs.Absurd.{clash}
use Rattle.kinds.specs.declared.Instruction.{Instruction}
use Rattle.kinds.specs.Flows.{flow_of, targets}
use Rattle.image.specs.Records.{step_at}
use Rattle.image.specs.Reading.{ending, walk, start_from, all_start, astray}
use Rattle.image.proofs.Steps.{by-step, start-stop, start-here, start-next, astray-here}
use Rattle.image.proofs.Fuel.{walk-on, start-on, astray-on}
use Rattle.std.specs.Prelude.{Option, None, Ok}

-- from the last place on, one step after the other, the instruction i at p, with n behind it
pub data Reached (l : List ℕ) (p : ℕ) (i : Instruction) (n : ℕ) : ℕ → Type 0 where
  here : step_at l p ≡ Ok (i, n) → Reached l p i n p
  on : {at : ℕ} (j : Instruction) (m : ℕ) → step_at l at ≡ Ok (j, m) → Reached l p i n m → Reached l p i n at

pub record Found (l : List ℕ) (p at : ℕ) : Type 0 where
  pub instruction : Instruction
  pub after : ℕ
  pub reached : Reached l p instruction after at

pub found : (l : List ℕ) (p k at : ℕ) → start_from k l at p ≡ true → Found l p at
unfolding start_from
found l p zero at q = clash (cc)
found l p (suc k) at q =
    by-step l at
    (λ r e. clash (cc (start-stop l at p e k)))
    (λ i m e. tested (eqb at p)
    (λ h. subst (Found l p) (sym (eqb-true at p h)) (record { instruction = i; after = m; reached = here (subst (λ (x : ℕ). step_at l x ≡ Ok (i, m)) (eqb-true at p h) e) }))
    (λ h. let f = found l p k m (sym (start-next l at p e h k) ∙ q) in
    record { instruction = f.instruction; after = f.after; reached = on i m e f.reached }))

module _ {l : List ℕ} {p : ℕ} {i : Instruction} {n : ℕ} where
  pub stands : {at : ℕ} → Reached l p i n at → step_at l p ≡ Ok (i, n)
  stands (here e) = e
  stands (on j m e w) = stands w

  pub starts : {at : ℕ} → Reached l p i n at → start_from (suc (length l)) l at p ≡ true
  starts (here e) = start-here l p p e (eq-eqb p p refl) (length l)
  starts {at} (on j m e w) = tested (eqb at p) (λ h. start-here l at p e h (length l)) (λ h. start-on l p at e h ∙ starts w)

  pub follows : {at : ℕ} {j : Instruction} {m : ℕ} → Reached l p i n at → step_at l n ≡ Ok (j, m) → Reached l n j m at
  follows (here e) f = on i n e (here f)
  follows (on j m e w) f = on j m e (follows w f)

  -- no fault from `at` on: none behind p
  pub walked : {at : ℕ} (end : Option ℕ) → Reached l p i n at → walk (suc (length l)) l end at ≡ None → walk (suc (length l)) l (ending (flow_of i) p) n ≡ None
  walked {at} end (here e) q = sym (walk-on l at end e) ∙ q
  walked {at} end (on j m e w) q = walked (ending (flow_of j) at) w (sym (walk-on l at end e) ∙ q)

  pub aimed : {at : ℕ} (code : ℕ) → Reached l p i n at → astray (suc (length l)) l code at ≡ None → all_start l code (targets (flow_of i)) ≡ true
  aimed {at} code (here e) q =
      tested (all_start l code (targets (flow_of i))) (λ h. h) (λ h. clash (cc (astray-here l at code e h (length l))))
  aimed {at} code (on j m e w) q =
      tested (all_start l code (targets (flow_of j)))
      (λ h. aimed code w (sym (astray-on l code at e h) ∙ q))
      (λ h. clash (cc (astray-here l at code e h (length l))))
