-- The element at a place of a list, if there is one: after another is set, and before others are appended. Assumes nothing.
use Prim.Native.Nat.{ℕ, zero, suc}
use mathlib.Core.Path.{◌≡◌, refl, ap}
use mathlib.Core.Logic.{◌≢◌}
use mathlib.Core.Option.{some}
use mathlib.Core.List.{List, [], ◌∷◌, ◌++◌}
use lib.ListN.{get_elem?, set}
use Rattle.laws.proofs.Absurd.{clash}

module _ {A : Type 0} where
  pub at_set_other : (xs : List A) (i j : ℕ) (a : A) → j ≢ i → get_elem? (set xs i a) j ≡ get_elem? xs j
  at_set_other [] i j a h = refl
  at_set_other (x ∷ xs) zero zero a h = absurd (h refl)
  at_set_other (x ∷ xs) zero (suc j) a h = refl
  at_set_other (x ∷ xs) (suc i) zero a h = refl
  at_set_other (x ∷ xs) (suc i) (suc j) a h = at_set_other xs i j a (λ e. h (ap suc e))

  pub at-append : (xs ys : List A) (i : ℕ) {x : A} → get_elem? xs i ≡ some x → get_elem? (xs ++ ys) i ≡ some x
  at-append [] ys i e = clash (cc)
  at-append (x ∷ xs) ys zero e = e
  at-append (x ∷ xs) ys (suc i) e = at-append xs ys i e
