-- The marks tell the starts: the reader's row of marks finds the same bad targets as the rule does. Assumes nothing.
use Prim.Native.Nat.{ℕ, zero, suc, ◌+◌, ◌<◌, ◌≤◌}
use native.Mathlib.Omega.{arith}
use mathlib.Core.Path.{◌≡◌, refl, sym, subst, ◌∙◌}
use mathlib.Core.Bool.{Bool, true, false}
use mathlib.Core.List.{List, [], ◌∷◌}
use lib.ListN.{length, get_or, set, replicate, length-set, length-replicate, get_or-replicate, get_or-eq_default}
use lib.Seq.{get_or-set_same, get_or-set_other}
use lib.Dec.{eqb, ltb}
use borrow.Author.Tests.{eqb-true, eqb-false, ltb-true, ltb-false}
use Rattle.std.specs.Prelude.{if◌then◌else◌}
use Rattle.laws.proofs.Choice.{tested}
use Rattle.kinds.specs.declared.Instruction.{Instruction}
use Rattle.kinds.specs.declared.Flow.{Flow}
use Rattle.kinds.specs.Flows.{targets}
use Rattle.image.specs.Records.{step_at}
use Rattle.image.specs.Reading.{start_from, start, all_start}
use Rattle.image.specs.Marks.{marks_from, marks, marked, all_marked}
use Rattle.image.proofs.Places.{stands-there}
use Rattle.image.proofs.Steps.{by-step, start-stop, start-here, start-next, marks-stop, marks-next}
use Rattle.std.specs.Prelude.{Ok}

module _ (l : List ℕ) (p : ℕ) where
  one : (b : Bool) → ◌≡◌ {A = ℕ} (if b then 1 else 1) 1
  one true = refl
  one false = refl

  -- the turn's own mark
  here : (k at m : ℕ) (row : List ℕ) {i : Instruction} → step_at l at ≡ Ok (i, m) → at < length row → (if start_from k l m p then 1 else get_or (set row at 1) p 0) ≡ (if start_from (suc k) l at p then 1 else get_or row p 0)
  here k at m row e g =
      tested (eqb at p)
      (λ q. let j : get_or (set row at 1) p 0 ≡ 1 = subst (λ (x : ℕ). get_or (set row at 1) x 0 ≡ 1) (eqb-true at p q) (get_or-set_same row at 1 0 g) in
      rw (j, start-here l at p e q k) (one (start_from k l m p)))
      (λ q. rw (start-next l at p e q k, get_or-set_other row at p 1 0 (λ x. eqb-false at p q (sym x))))

  -- a mark is 1 at a start, and else what it was
  mark-at : (k at : ℕ) (row : List ℕ) → length l ≤ length row → get_or (marks_from k l at row) p 0 ≡ (if start_from k l at p then 1 else get_or row p 0)
  unfolding marks_from start_from
  mark-at zero at row h = refl
  mark-at (suc k) at row h =
      by-step l at
      (λ r e. rw (marks-stop l at row e k, start-stop l at p e k))
      (λ i m e. let g = (stands-there e).passed in
      rw (marks-next l at row e k) (mark-at k m (set row at 1) (rw length-set h) ∙ here k at m row e (omega arith)))

zero_row : (n p : ℕ) → ◌≡◌ {A = ℕ} (get_or (replicate n 0) p 0) 0
zero_row n p =
    tested (ltb p n)
    (λ e. get_or-replicate n p 0 0 (ltb-true p n e))
    (λ e. get_or-eq_default (replicate n 0) 0 (rw length-replicate (ltb-false p n e)))

bit : (b : Bool) → eqb (if b then 1 else 0) 1 ≡ b
bit true = refl
bit false = refl

-- the mark at a position tells whether it is a start
marked_from : (l : List ℕ) (code n : ℕ) → length l ≤ n → (p : ℕ) → marked (marks_from (suc (length l)) l code (replicate n 0)) code p ≡ start l code p
unfolding marked start
marked_from l code n h p =
    rw (mark-at l (code + p) (suc (length l)) code (replicate n 0) (rw length-replicate h), zero_row n (code + p))
    (bit (start_from (suc (length l)) l code (code + p)))

pub marks-tell : (l : List ℕ) (code : ℕ) → length l ≤ 4096 → (ps : List ℕ) → all_marked (marks l code) code ps ≡ all_start l code ps
unfolding marks all_marked all_start
marks-tell l code h [] = refl
marks-tell l code h (p ∷ ps) = rw (marked_from l code 4096 h p, marks-tell l code h ps)

-- row and f are what the code has of the marks and of an instruction's flow
pub told : (l : List ℕ) (code : ℕ) → length l ≤ 4096 → {row : List ℕ} {f g : Flow} {r : Bool} → row ≡ marks l code → f ≡ g → r ≡ all_marked row code (targets f) → all_start l code (targets g) ≡ r
told l code h {g = g} e p q = sym (q ∙ rw (e, p) (marks-tell l code h (targets g)))
