-- The loop that takes an element out of a list and puts another at the end. Assumes nothing.
use Prim.Native.Nat.{ℕ, zero, suc, ◌+◌, ◌-◌, ◌≤◌, ◌<◌}
use native.Mathlib.Nat.{le_of_suc-le-suc, not-suc-le-zero}
use native.Mathlib.Numerals.{add-one}
use native.Mathlib.Omega.{arith}
use mathlib.Core.Path.{◌≡◌, refl, sym, ap, ◌∙◌}
use mathlib.Core.List.{List, [], ◌∷◌}
use lib.ListN.{length, get_or, set, length-set}
use Rattle.threads.specs.Row.{shifted}

-- the element after k copied down to k leaves the same to do, from k + 1
copy-down : (k v : ℕ) (xs : List ℕ) → suc k < length xs → shifted k v xs ≡ shifted (suc k) v (set xs k (get_or xs (suc k) 0))
unfolding shifted
copy-down k v [] l = refl
copy-down zero v (x ∷ []) l = absurd (not-suc-le-zero (le_of_suc-le-suc l))
copy-down zero v (x ∷ y ∷ ys) l = refl
copy-down (suc k) v (x ∷ xs) l = ap (λ (r : List ℕ). x ∷ r) (copy-down k v xs (le_of_suc-le-suc l))

-- at the last index only the store is left
store-last : (k v : ℕ) (xs : List ℕ) → k < length xs → length xs ≤ suc k → set xs k v ≡ shifted k v xs
unfolding shifted
store-last k v [] l m = refl
store-last zero v (x ∷ []) l m = refl
store-last zero v (x ∷ y ∷ ys) l m = absurd (not-suc-le-zero (le_of_suc-le-suc m))
store-last (suc k) v (x ∷ xs) l m = ap (λ (r : List ℕ). x ∷ r) (store-last k v xs (le_of_suc-le-suc l) (le_of_suc-le-suc m))

-- what is to be shifted from k on is what was to be shifted
pub record Shifting (i v : ℕ) (s₀ s : List ℕ) (k : ℕ) : Type 0 where
  pub long : length s ≡ length s₀
  pub below : k < length s
  pub same : shifted i v s₀ ≡ shifted k v s

pub shift-start : {i v : ℕ} {s : List ℕ} → i < length s → Shifting i v s s i
shift-start l = record { long = refl; below = l; same = refl }

module _ {i v k : ℕ} {s₀ s : List ℕ} (h : Shifting i v s₀ s k) where
  pub shift-on : k < length s - 1 → Shifting i v s₀ (set s k (get_or s (k + 1) 0)) (k + 1)
  shift-on l =
      record {
        long = length-set s k (get_or s (k + 1) 0) ∙ h.long;
        below = omega (arith, length-set s k (get_or s (k + 1) 0));
        same = h.same ∙ rw (add-one k) (copy-down k v s (omega arith));
      }

  pub shift-end : length s - 1 ≤ k → set s k v ≡ shifted i v s₀
  shift-end l = store-last k v s h.below (omega arith) ∙ sym h.same

-- past the end nothing is shifted
pub shift_none : (i v : ℕ) (xs : List ℕ) → length xs ≤ i → xs ≡ shifted i v xs
unfolding shifted
shift_none i v [] l = refl
shift_none zero v (x ∷ xs) l = absurd (not-suc-le-zero l)
shift_none (suc i) v (x ∷ xs) l = ap (λ (r : List ℕ). x ∷ r) (shift_none i v xs (le_of_suc-le-suc l))
