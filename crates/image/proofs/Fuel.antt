-- The fuel of the reader's recursions never runs out: each record passes a byte at least. Assumes nothing.
use Prim.Native.Nat.{ℕ, suc, ◌+◌, ◌≤◌}
use mathlib.Core.Path.{◌≡◌, sym}
use mathlib.Core.Bool.{Bool, true, false}
use mathlib.Core.List.{List}
use lib.ListN.{length, set}
use lib.Dec.{eqb, ltb}
use Rattle.laws.proofs.Fuel.{Turn, stops, goes, enough, goes_on}
use Rattle.laws.proofs.Choice.{tested}
use Rattle.kinds.specs.declared.Instruction.{Instruction}
use Rattle.kinds.specs.declared.Flow.{Flow}
use Rattle.kinds.specs.Flows.{flow_of, targets}
use Rattle.value.specs.declared.Value.{Value}
use Rattle.image.specs.Records.{step_at, head_at}
use Rattle.image.specs.Reading.{ending, walk, start_from, all_start, astray, read_inputs, Verdict}
use Rattle.image.specs.Marks.{marks_from}
use Rattle.image.proofs.Places.{stands-there}
use Rattle.image.proofs.Steps.{by-step, by-head, walk-stop, walk-next, start-stop, start-here, start-next, astray-stop, astray-here, astray-next, marks-stop, marks-next, inputs-stop, inputs-slots, inputs-code, inputs-full, inputs-next}
use Rattle.std.specs.Prelude.{Option, Ok}
use Rattle.kinds.specs.declared.Record.TheVariants as R

module _ (l : List ℕ) where
  -- ---- the walk through the code

  abbrev walks : ℕ → Option ℕ × ℕ → Option ℕ
  walks k s = walk k l s.0 s.1

  walk-turns : (s : Option ℕ × ℕ) → Turn walks (λ s. s.1) (length l) s
  walk-turns s =
      by-step l s.1
      (λ r e. stops _ (walk-stop l s.1 s.0 r e))
      (λ i m e. goes (ending (flow_of i) s.1, m) (stands-there e).passed (walk-next l s.1 s.0 e))

  module _ (at : ℕ) (end : Option ℕ) where
    pub walk-enough : (k j : ℕ) → k ≤ j → length l ≤ at + k → walk (suc k) l end at ≡ walk (suc j) l end at
    walk-enough k j = enough walks (λ s. s.1) (length l) walk-turns k j (end, at)

    pub walk-on : {i : Instruction} {m : ℕ} → step_at l at ≡ Ok (i, m) → walk (suc (length l)) l end at ≡ walk (suc (length l)) l (ending (flow_of i) at) m
    walk-on e = goes_on walks (λ s. s.1) (length l) walk-turns (end, at) _ (walk-next l at end e)

    -- as the code goes on
    pub walk-again : {i : Instruction} {m : ℕ} {f : Flow} {end' : Option ℕ} → step_at l at ≡ Ok (i, m) → f ≡ flow_of i → end' ≡ ending f at → walk (suc (length l)) l end' m ≡ walk (suc (length l)) l end at
    walk-again {m = m} e p q = rw (q, p) (sym (walk-on e))

  -- ---- the search for a start

  module _ (p : ℕ) where
    abbrev seeks : ℕ → ℕ → Bool
    seeks k at = start_from k l at p

    start-turns : (at : ℕ) → Turn seeks (λ at. at) (length l) at
    start-turns at =
        by-step l at
        (λ r e. stops _ (start-stop l at p e))
        (λ i m e. tested (eqb at p) (λ h. stops _ (start-here l at p e h)) (λ h. goes m (stands-there e).passed (start-next l at p e h)))

    module _ (at : ℕ) where
      pub start-enough : (k j : ℕ) → k ≤ j → length l ≤ at + k → start_from (suc k) l at p ≡ start_from (suc j) l at p
      start-enough k j = enough seeks (λ at. at) (length l) start-turns k j at

      pub start-on : {i : Instruction} {m : ℕ} → step_at l at ≡ Ok (i, m) → eqb at p ≡ false → start_from (suc (length l)) l at p ≡ start_from (suc (length l)) l m p
      start-on e h = goes_on seeks (λ at. at) (length l) start-turns at _ (start-next l at p e h)

  -- ---- the search for a bad target

  module _ (code : ℕ) where
    abbrev aims : ℕ → ℕ → Option ℕ
    aims k at = astray k l code at

    astray-turns : (at : ℕ) → Turn aims (λ at. at) (length l) at
    astray-turns at =
        by-step l at
        (λ r e. stops _ (astray-stop l at code e))
        (λ i m e. tested (all_start l code (targets (flow_of i))) (λ h. goes m (stands-there e).passed (astray-next l at code e h)) (λ h. stops _ (astray-here l at code e h)))

    module _ (at : ℕ) where
      pub astray-enough : (k j : ℕ) → k ≤ j → length l ≤ at + k → astray (suc k) l code at ≡ astray (suc j) l code at
      astray-enough k j = enough aims (λ at. at) (length l) astray-turns k j at

      pub astray-on : {i : Instruction} {m : ℕ} → step_at l at ≡ Ok (i, m) → all_start l code (targets (flow_of i)) ≡ true → astray (suc (length l)) l code at ≡ astray (suc (length l)) l code m
      astray-on e h = goes_on aims (λ at. at) (length l) astray-turns at _ (astray-next l at code e h)

  -- ---- the marks

  abbrev marking : ℕ → ℕ × List ℕ → List ℕ
  marking k s = marks_from k l s.0 s.1

  marks-turns : (s : ℕ × List ℕ) → Turn marking (λ s. s.0) (length l) s
  marks-turns s =
      by-step l s.0
      (λ r e. stops _ (marks-stop l s.0 s.1 e))
      (λ i m e. goes (m, set s.1 s.0 1) (stands-there e).passed (marks-next l s.0 s.1 e))

  module _ (at : ℕ) (row : List ℕ) where
    pub marks-enough : (k j : ℕ) → k ≤ j → length l ≤ at + k → marks_from (suc k) l at row ≡ marks_from (suc j) l at row
    marks-enough k j = enough marking (λ s. s.0) (length l) marks-turns k j (at, row)

    pub marks-on : {i : Instruction} {m : ℕ} → step_at l at ≡ Ok (i, m) → marks_from (suc (length l)) l at row ≡ marks_from (suc (length l)) l m (set row at 1)
    marks-on e = goes_on marking (λ s. s.0) (length l) marks-turns (at, row) _ (marks-next l at row e)

  -- ---- the inputs

  module _ (r : ℕ) where
    abbrev reads : ℕ → ℕ × ℕ → Verdict
    reads k s = read_inputs k l r s.0 s.1

    inputs-turns : (s : ℕ × ℕ) → Turn reads (λ s. s.1) (length l) s
    inputs-turns s =
        by-head l s.1
        (λ x e. stops _ (inputs-stop l s.1 r s.0 x e))
        (λ t m e. stops _ (inputs-slots l s.1 r s.0 e))
        (λ v m e. tested (ltb (s.0 + 1) r) (λ h. goes (s.0 + 1, m) (stands-there e).passed (inputs-next l s.1 r s.0 e h)) (λ h. stops _ (inputs-full l s.1 r s.0 e h)))
        (λ m e. stops _ (inputs-code l s.1 r s.0 e))

    module _ (n at : ℕ) where
      pub inputs-enough : (k j : ℕ) → k ≤ j → length l ≤ at + k → read_inputs (suc k) l r n at ≡ read_inputs (suc j) l r n at
      inputs-enough k j = enough reads (λ s. s.1) (length l) inputs-turns k j (n, at)

      pub inputs_on : {v : Value} {m : ℕ} → head_at l at ≡ Ok (R.Input v, m) → ltb (n + 1) r ≡ true → read_inputs (suc (length l)) l r n at ≡ read_inputs (suc (length l)) l r (n + 1) m
      inputs_on e h = goes_on reads (λ s. s.1) (length l) inputs-turns (n, at) _ (inputs-next l at r n e h)
