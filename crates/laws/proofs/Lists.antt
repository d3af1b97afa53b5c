-- Lists mapped, filled with one element, read at a place, and from a place to the end. Assumes nothing.
use Prim.Native.Nat.{ℕ, zero, suc, ◌-◌, ◌<◌, ◌≤◌}
use native.Mathlib.Omega.{arith}
use mathlib.Core.Path.{◌≡◌, refl, ap}
use mathlib.Core.Option.{none, some}
use mathlib.Core.List.{List, [], ◌∷◌, ◌++◌, map}
use lib.ListN.{length, get_or, get_elem?, take, drop, replicate, length-drop}
use lib.Seq.{take-length}
use Rattle.laws.proofs.Absurd.{below-zero}

-- one more of the same
pub replicate-snoc : {A : Type 0} (k : ℕ) (x : A) → replicate k x ++ x ∷ [] ≡ replicate (suc k) x
replicate-snoc zero x = refl
replicate-snoc (suc k) x = ap (λ (r : List _). x ∷ r) (replicate-snoc k x)

module _ {A B : Type 0} (f : A → B) where
  pub map-replicate : (k : ℕ) (x : A) → map f (replicate k x) ≡ replicate k (f x)
  map-replicate zero x = refl
  map-replicate (suc k) x = ap (λ (r : List B). f x ∷ r) (map-replicate k x)

  pub get-mapped : (xs : List A) (ys : List B) (i : ℕ) (d : A) (e : B) → i < length xs → get_or (map f xs ++ ys) i e ≡ f (get_or xs i d)
  get-mapped [] ys i d e l = below-zero i l
  get-mapped (x ∷ xs) ys zero d e l = refl
  get-mapped (x ∷ xs) ys (suc i) d e l = get-mapped xs ys i d e (omega arith)

module _ {A : Type 0} where
  pub get-some : (xs : List A) (i : ℕ) (d : A) → i < length xs → get_elem? xs i ≡ some (get_or xs i d)
  get-some [] i d l = below-zero i l
  get-some (x ∷ xs) zero d l = refl
  get-some (x ∷ xs) (suc i) d l = get-some xs i d (omega arith)

  pub get_none : (xs : List A) (i : ℕ) → length xs ≤ i → get_elem? xs i ≡ none
  get_none [] i l = refl
  get_none (x ∷ xs) zero l = below-zero (length xs) (omega arith)
  get_none (x ∷ xs) (suc i) l = get_none xs i (omega arith)

  -- a part of a slice up to its end
  pub rest-is : (i : ℕ) (xs : List A) → take (length xs - i) (drop i xs) ≡ drop i xs
  rest-is i xs = rw (← length-drop i xs) (take-length (drop i xs))
