-- What holds of every element of a list, as evidence and as a test. Assumes nothing.
use Prim.Native.Nat.{ℕ, zero, suc, ◌<◌}
use native.Mathlib.Omega.{arith}
use mathlib.Core.Path.{◌≡◌, refl}
use mathlib.Core.Bool.{Bool, true}
use mathlib.Core.List.{List, [], ◌∷◌, ◌++◌, map, reverse, reverse_aux}
use lib.ListN.{length, take, drop, get_or, set, replicate}
use Rattle.laws.specs.Lists.{all}
use Rattle.laws.proofs.Absurd.{below-zero}
use Rattle.laws.proofs.Choice.{both, first, second}

pub data All {A : Type 0} (P : A → Type 0) : List A → Type 0 where
  all_nil : All P []
  all_cons : {x : A} {xs : List A} → P x → All P xs → All P (x ∷ xs)

-- the test says the same
module _ {A : Type 0} (p : A → Bool) where
  pub tested : (xs : List A) → all p xs ≡ true → All (λ x. p x ≡ true) xs
  unfolding all
  tested [] e = all_nil
  tested (x ∷ xs) e = all_cons (first (p x) (all p xs) e) (tested xs (second (p x) (all p xs) e))

  pub passes : {xs : List A} → All (λ x. p x ≡ true) xs → all p xs ≡ true
  unfolding all
  passes all_nil = refl
  passes (all_cons e h) = both e (passes h)

module _ {A : Type 0} {P : A → Type 0} where
  pub all-get : {xs : List A} (i : ℕ) (d : A) → All P xs → i < length xs → P (get_or xs i d)
  all-get i d all_nil h = below-zero i h
  all-get zero d (all_cons p a) h = p
  all-get (suc i) d (all_cons p a) h = all-get i d a (omega arith)

  pub all-get-or : {xs : List A} (i : ℕ) (d : A) → All P xs → P d → P (get_or xs i d)
  all-get-or i d all_nil q = q
  all-get-or zero d (all_cons p a) q = p
  all-get-or (suc i) d (all_cons p a) q = all-get-or i d a q

  pub all_set : {xs : List A} (i : ℕ) (x : A) → All P xs → P x → All P (set xs i x)
  all_set i x all_nil p = all_nil
  all_set zero x (all_cons q h) p = all_cons p h
  all_set (suc i) x (all_cons q h) p = all_cons q (all_set i x h p)

  pub all_append : {xs ys : List A} → All P xs → All P ys → All P (xs ++ ys)
  all_append all_nil k = k
  all_append (all_cons p h) k = all_cons p (all_append h k)

  pub all_snoc : {xs : List A} {x : A} → All P xs → P x → All P (xs ++ x ∷ [])
  all_snoc h p = all_append h (all_cons p all_nil)

  pub all_take : (n : ℕ) {xs : List A} → All P xs → All P (take n xs)
  all_take zero h = all_nil
  all_take (suc n) all_nil = all_nil
  all_take (suc n) (all_cons p h) = all_cons p (all_take n h)

  pub all_drop : (n : ℕ) {xs : List A} → All P xs → All P (drop n xs)
  all_drop zero h = h
  all_drop (suc n) all_nil = all_nil
  all_drop (suc n) (all_cons p h) = all_drop n h

  pub all_replicate : (n : ℕ) (x : A) → P x → All P (replicate n x)
  all_replicate zero x p = all_nil
  all_replicate (suc n) x p = all_cons p (all_replicate n x p)

  all-onto : {xs ys : List A} → All P xs → All P ys → All P (reverse_aux xs ys)
  all-onto all_nil k = k
  all-onto (all_cons p h) k = all-onto h (all_cons p k)

  pub all-reverse : {xs : List A} → All P xs → All P (reverse xs)
  all-reverse h = all-onto h all_nil

pub all_map : {A B : Type 0} {P : A → Type 0} {Q : B → Type 0} (f : A → B) {xs : List A} → ((x : A) → P x → Q (f x)) → All P xs → All Q (map f xs)
all_map f k all_nil = all_nil
all_map f k (all_cons {x = x} p h) = all_cons (k x p) (all_map f k h)

pub all-also : {A : Type 0} {P Q : A → Type 0} {xs : List A} → ((x : A) → P x → Q x) → All P xs → All Q xs
all-also k all_nil = all_nil
all-also k (all_cons {x = x} p h) = all_cons (k x p) (all-also k h)
