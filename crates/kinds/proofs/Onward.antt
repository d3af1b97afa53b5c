-- A thread goes on from every instruction but END, SWITCH, SPAWN and APPLY. Assumes nothing.
use Prim.Native.Nat.{ℕ, ◌<◌, ◌≤◌}
use mathlib.Core.Path.{◌≡◌, refl, sym, subst}
use mathlib.Core.Bool.{Bool, true, false}
use mathlib.Core.Logic.{⊎_elim}
use mathlib.Core.List.{List}
use lib.Dec.{T, leb, eqb}
use lib.Ieee.{Float}
use Rattle.std.specs.Prelude.{if◌then◌else◌}
use Rattle.std.specs.Option.{option_map}
use Rattle.value.specs.Coding.{float_in}
use Rattle.laws.proofs.Arms.{between, below_or_not}
use Rattle.kinds.specs.declared.Instruction.{Instruction}
use Rattle.kinds.specs.declared.Instruction.TheVariants as I
use Rattle.kinds.specs.declared.Flow.{Flow}
use Rattle.kinds.specs.declared.Flow.TheVariants.{On, Stops, Jumps, Forks}
use Rattle.std.specs.Prelude.{Option, Some, None}
use Rattle.kinds.specs.Bytes.{byte_in, word_in}
use Rattle.kinds.specs.Flows.{flow_of}
use Rattle.kinds.specs.Table.{instructions, instruction_kind, float_means, truth_means, frame_means}
use Rattle.kinds.proofs.Rows.{after-instructions}

abbrev is_on : Flow → Bool
is_on On = true
is_on Stops = false
is_on (Jumps a b) = false
is_on (Forks a) = false

is-on : (f : Flow) → T (is_on f) → f ≡ On
is-on On t = refl
is-on Stops t = absurd t
is-on (Jumps a b) t = absurd t
is-on (Forks a) t = absurd t

abbrev onward : Option Instruction → Bool
onward (Some i) = is_on (flow_of i)
onward None = true

-- a row with a rule
ruled : (t : Bool) (i : Instruction) → is_on (flow_of i) ≡ true → onward (if t then Some i else None) ≡ true
ruled true i e = e
ruled false i e = refl

float-on : (o : Option Float) → onward (option_map I.Float o) ≡ true
unfolding flow_of
float-on (Some x) = refl
float-on None = refl

truth-on : (byte : ℕ) → onward (truth_means byte) ≡ true
unfolding truth_means flow_of
truth-on byte = ruled (leb byte 1) (I.Bool (eqb byte 1)) refl

frame_on : (n : ℕ) → onward (frame_means n) ≡ true
unfolding frame_means flow_of
frame_on n = ruled (leb 1 n) (I.Frame n) refl

module _ (k : ℕ) (body : List ℕ) where
  below : 1 ≤ k → k < 23 → T (onward ((instruction_kind k).means body))
  unfolding instruction_kind instructions float_means flow_of
  below g h =
      between (λ k. onward ((instruction_kind k).means body)) 1 22
      (rw (float-on (float_in (word_in body)), truth-on (byte_in body 0), frame_on (byte_in body 0)) tt)
      k g h

  above : 26 ≤ k → T (onward ((instruction_kind k).means body))
  unfolding instruction_kind instructions flow_of
  above h =
      ⊎_elim
      (λ (l : k < 28). between (λ k. onward ((instruction_kind k).means body)) 26 2 tt k h l)
      (λ (l : 28 ≤ k). rw (sym (after-instructions k l)) tt)
      (below_or_not k 28)

  module _ (i : Instruction) (e : (instruction_kind k).means body ≡ Some i) where
    pub on_below : 1 ≤ k → k < 23 → flow_of i ≡ On
    on_below g h = is-on (flow_of i) (subst (λ (m : Option Instruction). T (onward m)) e (below g h))

    pub on-above : 26 ≤ k → flow_of i ≡ On
    on-above h = is-on (flow_of i) (subst (λ (m : Option Instruction). T (onward m)) e (above h))
