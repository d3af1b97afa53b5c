-- Recursions with fuel: where each turn stops or goes on to a later place within a length, fuel for one turn more than the length never runs out. Assumes nothing.
use Prim.Native.Nat.{ℕ, zero, suc, ◌+◌, ◌<◌, ◌≤◌}
use native.Mathlib.Omega.{arith}
use mathlib.Core.Path.{◌≡◌, sym, ◌∙◌}

module _ {S A : Type 0} (g : ℕ → S → A) (place : S → ℕ) (len : ℕ) where
  -- one turn from the state s, whatever fuel is left
  pub data Turn (s : S) : Type 0 where
    stops : (a : A) → ((k : ℕ) → g (suc k) s ≡ a) → Turn s
    goes : (t : S) → (place s < place t) × (place t ≤ len) → ((k : ℕ) → g (suc k) s ≡ g k t) → Turn s

  module _ (turn : (s : S) → Turn s) where
    -- more fuel than enough changes nothing
    pub enough : (k j : ℕ) (s : S) → k ≤ j → len ≤ place s + k → g (suc k) s ≡ g (suc j) s
    enough zero j s i h = elim (turn s) [ stops a u ↦ u zero ∙ sym (u j) | goes t l u ↦ absurd (omega arith) ]
    enough (suc k) zero s i h = absurd (omega arith)
    enough (suc k) (suc j) s i h =
        elim (turn s) [
          | stops a u ↦ u (suc k) ∙ sym (u (suc j))
          | goes t l u ↦ u (suc k) ∙ enough k j t (omega arith) (omega arith) ∙ sym (u (suc j))
        ]

    -- so a turn may leave the fuel as it is
    pub goes_on : (s t : S) → ((k : ℕ) → g (suc k) s ≡ g k t) → g (suc len) s ≡ g (suc len) t
    goes_on s t u = enough len (suc len) s (omega arith) (omega arith) ∙ u (suc len)
