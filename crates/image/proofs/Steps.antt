-- One turn of each recursion over the records of an image. Assumes nothing.
use Prim.Native.Nat.{ℕ, suc, ◌+◌}
use mathlib.Core.Path.{◌≡◌, refl}
use mathlib.Core.Bool.{true, false}
use mathlib.Core.List.{List, ◌∷◌}
use lib.ListN.{length, set}
use lib.Dec.{eqb, ltb}
use Rattle.value.specs.declared.Value.{Value}
use Rattle.kinds.specs.declared.Instruction.{Instruction}
use Rattle.kinds.specs.Flows.{flow_of, targets}
use Rattle.image.specs.Records.{step_at, head_at, inputs_from}
use Rattle.image.specs.Reading.{ending, walk, start_from, all_start, astray, read_code, read_inputs}
use Rattle.image.specs.Marks.{marks_from}
use Rattle.std.specs.Prelude.{Option, Some, None, Result, Ok, Err}
use Rattle.image.specs.declared.records.Stop.{Stop}
use Rattle.image.specs.declared.records.Stop.TheVariants.{Ended, Bad}
use Rattle.image.specs.declared.reader.Fault.TheVariants.{BadAt}
use Rattle.kinds.specs.declared.Record.TheVariants as R
use Rattle.kinds.specs.declared.Record.{Record}
use Rattle.laws.proofs.Absurd.{clash}

-- what stands at a place, case by case
module _ {X : Type 0} (l : List ℕ) (at : ℕ) where
  pub by-step : ((r : Stop) → step_at l at ≡ Err r → X) → ((i : Instruction) (m : ℕ) → step_at l at ≡ Ok (i, m) → X) → X
  by-step f h = go (step_at l at) refl
    where
      go : (s : Result (Instruction × ℕ) Stop) → step_at l at ≡ s → X
      go (Err r) e = f r e
      go (Ok (i, m)) e = h i m e

  pub by-head : ((r : Stop) → head_at l at ≡ Err r → X) → ((s m : ℕ) → head_at l at ≡ Ok (R.Slots s, m) → X) → ((v : Value) (m : ℕ) → head_at l at ≡ Ok (R.Input v, m) → X) → ((m : ℕ) → head_at l at ≡ Ok (R.Code, m) → X) → X
  by-head f s h c = go (head_at l at) refl
    where
      go : (x : Result (Record × ℕ) Stop) → head_at l at ≡ x → X
      go (Err r) e = f r e
      go (Ok (R.Slots r, m)) e = s r m e
      go (Ok (R.Input v, m)) e = h v m e
      go (Ok (R.Code, m)) e = c m e

-- what the code's walk says where it stops
abbrev pub walk_stopped : Stop → ℕ → Option ℕ → Option ℕ
walk_stopped Ended at end = end
walk_stopped Bad at end = Some at

module _ (l : List ℕ) (at : ℕ) where
  pub walk-stop : (end : Option ℕ) (r : Stop) → step_at l at ≡ Err r → (k : ℕ) → walk (suc k) l end at ≡ walk_stopped r at end
  unfolding walk
  walk-stop end Ended e k = rw (e, walk)
  walk-stop end Bad e k = rw (e, walk)

  pub walk-next : (end : Option ℕ) {i : Instruction} {m : ℕ} → step_at l at ≡ Ok (i, m) → (k : ℕ) → walk (suc k) l end at ≡ walk k l (ending (flow_of i) at) m
  unfolding walk
  walk-next end e k = rw (e, walk)

  -- a walk that finds no fault, where the code may not end here, goes on
  pub goes-on : {X : Type 0} (p k : ℕ) → walk (suc k) l (Some p) at ≡ None → (r : Stop) → step_at l at ≡ Err r → X
  goes-on p k q Ended e = clash (cc (walk-stop (Some p) Ended e k, q))
  goes-on p k q Bad e = clash (cc (walk-stop (Some p) Bad e k, q))

module _ (l : List ℕ) (at : ℕ) (p : ℕ) where
  pub start-stop : {r : Stop} → step_at l at ≡ Err r → (k : ℕ) → start_from (suc k) l at p ≡ false
  unfolding start_from
  start-stop e k = rw (e, start_from)

  module _ {i : Instruction} {m : ℕ} (e : step_at l at ≡ Ok (i, m)) where
    pub start-here : eqb at p ≡ true → (k : ℕ) → start_from (suc k) l at p ≡ true
    unfolding start_from
    start-here h k = rw (e, start_from, h)

    pub start-next : eqb at p ≡ false → (k : ℕ) → start_from (suc k) l at p ≡ start_from k l m p
    unfolding start_from
    start-next h k = rw (e, start_from, h)

module _ (l : List ℕ) (at : ℕ) (code : ℕ) where
  pub astray-stop : {r : Stop} → step_at l at ≡ Err r → (k : ℕ) → astray (suc k) l code at ≡ None
  unfolding astray
  astray-stop e k = rw (e, astray)

  module _ {i : Instruction} {m : ℕ} (e : step_at l at ≡ Ok (i, m)) where
    pub astray-here : all_start l code (targets (flow_of i)) ≡ false → (k : ℕ) → astray (suc k) l code at ≡ Some at
    unfolding astray
    astray-here h k = rw (e, astray, h)

    pub astray-next : all_start l code (targets (flow_of i)) ≡ true → (k : ℕ) → astray (suc k) l code at ≡ astray k l code m
    unfolding astray
    astray-next h k = rw (e, astray, h)

module _ (l : List ℕ) (at : ℕ) (row : List ℕ) where
  pub marks-stop : {r : Stop} → step_at l at ≡ Err r → (k : ℕ) → marks_from (suc k) l at row ≡ row
  unfolding marks_from
  marks-stop e k = rw (e, marks_from)

  pub marks-next : {i : Instruction} {m : ℕ} → step_at l at ≡ Ok (i, m) → (k : ℕ) → marks_from (suc k) l at row ≡ marks_from k l m (set row at 1)
  unfolding marks_from
  marks-next e k = rw (e, marks_from)

-- the place at fault where the inputs stop
abbrev pub inputs_stopped : Stop → ℕ → ℕ → ℕ
inputs_stopped Ended at length = length
inputs_stopped Bad at length = at

module _ (l : List ℕ) (at : ℕ) (r n : ℕ) where
  pub inputs-stop : (x : Stop) → head_at l at ≡ Err x → (k : ℕ) → read_inputs (suc k) l r n at ≡ Err (BadAt (inputs_stopped x at (length l)))
  unfolding read_inputs
  inputs-stop Ended e k = rw (e, read_inputs)
  inputs-stop Bad e k = rw (e, read_inputs)

  pub inputs-slots : {s m : ℕ} → head_at l at ≡ Ok (R.Slots s, m) → (k : ℕ) → read_inputs (suc k) l r n at ≡ Err (BadAt at)
  unfolding read_inputs
  inputs-slots e k = rw (e, read_inputs)

  pub inputs-code : {m : ℕ} → head_at l at ≡ Ok (R.Code, m) → (k : ℕ) → read_inputs (suc k) l r n at ≡ read_code l r n m
  unfolding read_inputs
  inputs-code e k = rw (e, read_inputs)

  module _ {v : Value} {m : ℕ} (e : head_at l at ≡ Ok (R.Input v, m)) where
    pub inputs-full : ltb (n + 1) r ≡ false → (k : ℕ) → read_inputs (suc k) l r n at ≡ Err (BadAt at)
    unfolding read_inputs
    inputs-full h k = rw (e, read_inputs, h)

    pub inputs-next : ltb (n + 1) r ≡ true → (k : ℕ) → read_inputs (suc k) l r n at ≡ read_inputs k l r (n + 1) m
    unfolding read_inputs
    inputs-next h k = rw (e, read_inputs, h)

pub values-next : (l : List ℕ) (at : ℕ) {v : Value} {m : ℕ} → head_at l at ≡ Ok (R.Input v, m) → (k : ℕ) → inputs_from (suc k) l at ≡ v ∷ inputs_from k l m
unfolding inputs_from
values-next l at e k = rw (e, inputs_from)
