-- A test of each number of a list, or of a range, but of some, holds of any of them. Assumes nothing.
use Prim.Native.Nat.{ℕ, zero, suc, ◌+◌, ◌<◌, ◌≤◌}
use native.Mathlib.Omega.{arith}
use mathlib.Core.Path.{◌≡◌, refl, sym, subst}
use mathlib.Core.Bool.{Bool, true, false, ◌&&◌, ◌||◌}
use mathlib.Core.Logic.{◌⊎◌, inl, inr, ⊎_elim}
use mathlib.Core.List.{List, [], ◌∷◌}
use lib.Dec.{T, eqb, ltb, eqb→eq}
use borrow.Author.Tests.{ltb-true, ltb-false}
use types.Run.{OneOf}

or_cases : (a b : Bool) → T (a || b) → T a ⊎ T b
or_cases true b t = inl tt
or_cases false b t = inr t

and_first : (a b : Bool) → T (a && b) → T a
and_first true b t = tt
and_first false b t = t

and_second : (a b : Bool) → T (a && b) → T b
and_second true b t = t
and_second false b t = absurd t

-- the test holds at each number of a list
abbrev pub each : (ℕ → Bool) → List ℕ → Bool
each p [] = true
each p (x ∷ xs) = p x && each p xs

pub keyed : (p : ℕ → Bool) (xs : List ℕ) → T (each p xs) → (k : ℕ) → OneOf xs k → T (p k)
keyed p [] t k h = absurd h
keyed p (x ∷ []) t k e = subst (λ (n : ℕ). T (p n)) (sym e) (and_first (p x) true t)
keyed p (x ∷ y ∷ ys) t k h =
    ⊎_elim
    (λ (e : k ≡ x). subst (λ (n : ℕ). T (p n)) (sym e) (and_first (p x) (each p (y ∷ ys)) t))
    (λ (r : OneOf (y ∷ ys) k). keyed p (y ∷ ys) (and_second (p x) (each p (y ∷ ys)) t) k r)
    h

-- k is one of a list
abbrev pub among : ℕ → List ℕ → Bool
among k [] = false
among k (x ∷ xs) = eqb k x || among k xs

is_one : (k : ℕ) (xs : List ℕ) → T (among k xs) → OneOf xs k
is_one k [] t = t
is_one k (x ∷ []) t = ⊎_elim (λ (h : T (eqb k x)). eqb→eq k x h) (λ (h : ⊥). absurd h) (or_cases (eqb k x) false t)
is_one k (x ∷ y ∷ ys) t =
    ⊎_elim
    (λ (h : T (eqb k x)). inl (eqb→eq k x h))
    (λ (h : T (among k (y ∷ ys))). inr (is_one k (y ∷ ys) h))
    (or_cases (eqb k x) (among k (y ∷ ys)) t)

pub below_or_not : (a b : ℕ) → (a < b) ⊎ (b ≤ a)
below_or_not a b = go (ltb a b) refl
  where
    go : (t : Bool) → ltb a b ≡ t → (a < b) ⊎ (b ≤ a)
    go true e = inl (ltb-true a b e)
    go false e = inr (ltb-false a b e)

-- the test holds at each of n numbers from lo on
abbrev pub span : (ℕ → Bool) → ℕ → ℕ → Bool
span p lo zero = true
span p lo (suc n) = p lo && span p (suc lo) n

pub between : (p : ℕ → Bool) (lo n : ℕ) → T (span p lo n) → (k : ℕ) → lo ≤ k → k < lo + n → T (p k)
between p lo zero t k h g = absurd (omega arith)
between p lo (suc n) t k h g =
    ⊎_elim
    (λ (l : lo < k). between p (suc lo) n (and_second (p lo) (span p (suc lo) n) t) k l (omega arith))
    (λ (l : k ≤ lo). subst (λ (m : ℕ). T (p m)) (omega arith) (and_first (p lo) (span p (suc lo) n) t))
    (below_or_not lo k)

-- the test holds at each number of the range that is none of ys
pub ranged : (p : ℕ → Bool) (ys : List ℕ) (lo n : ℕ) → T (span (λ k. among k ys || p k) lo n) → (k : ℕ) → (OneOf ys k → ⊥) → lo ≤ k → k < lo + n → T (p k)
ranged p ys lo n t k o h g =
    ⊎_elim
    (λ (a : T (among k ys)). absurd (o (is_one k ys a)))
    (λ (a : T (p k)). a)
    (or_cases (among k ys) (p k) (between (λ k. among k ys || p k) lo n t k h g))
