-- What one more turn of a loop adds. Assumes nothing.
use Prim.Native.Nat.{ℕ, zero, suc, ◌+◌, ◌<◌}
use native.Mathlib.Omega.{arith}
use native.Mathlib.Numerals.{add-one}
use mathlib.Core.Path.{◌≡◌, refl, sym, ap}
use mathlib.Core.Bool.{Bool, true, ◌&&◌}
use mathlib.Core.List.{List, [], ◌∷◌, ◌++◌}
use lib.ListN.{length, get_or, set, take, drop, replicate}
use Rattle.std.proofs.Math.Bool.{and_assoc}
use Rattle.laws.specs.Lists.{all}
use Rattle.laws.proofs.Absurd.{below-zero}
use Rattle.laws.proofs.Choice.{only-first}

module _ {A : Type 0} where
  -- one more element tested
  pub all_more : (p : A → Bool) (s : List A) (i : ℕ) (x : A) → i < length s → x ≡ get_or s i x → all p (take (i + 1) s) ≡ (all p (take i s) && p x)
  unfolding all
  all_more p [] i x h e = below-zero i h
  all_more p (y ∷ s) zero x h e = rw e (only-first (p y) true refl)
  all_more p (y ∷ s) (suc i) x h e =
      rw (add-one (suc i)) (rw (rw (add-one i) at (all_more p s i x (omega arith) e)) (sym (and_assoc (p y) (all p (take i s)) (p x))))

  -- one more element written
  pub replicate_more : (v : A) (s : List A) (i : ℕ) → i < length s → set (replicate i v ++ drop i s) i v ≡ replicate (i + 1) v ++ drop (i + 1) s
  replicate_more v [] i h = below-zero i h
  replicate_more v (y ∷ s) zero h = refl
  replicate_more v (y ∷ s) (suc i) h = rw (add-one (suc i)) (ap (λ (r : List A). v ∷ r) (rw (add-one i) at (replicate_more v s i (omega arith))))

  -- one more element copied
  pub copied_more : (v s : List A) (i : ℕ) (x : A) → i < length v → i < length s → x ≡ get_or v i x → set (take i v ++ drop i s) i x ≡ take (i + 1) v ++ drop (i + 1) s
  copied_more [] s i x h l e = below-zero i h
  copied_more (y ∷ v) [] i x h l e = below-zero i l
  copied_more (y ∷ v) (z ∷ s) zero x h l e = rw e refl
  copied_more (y ∷ v) (z ∷ s) (suc i) x h l e =
      rw (add-one (suc i)) (ap (λ (r : List A). y ∷ r) (rw (add-one i) at (copied_more v s i x (omega arith) (omega arith) e)))
