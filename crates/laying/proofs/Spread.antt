-- A list written as numbers, with zeros after it: read, and written as its elements are. Assumes nothing.
use Prim.Native.Nat.{ℕ, zero, suc, ◌+◌, ◌-◌, ◌≤◌, ◌<◌}
use native.Mathlib.Omega.{arith}
use mathlib.Core.Path.{◌≡◌, refl, sym, ap, ◌∙◌}
use mathlib.Core.Bool.{Bool, true, false}
use mathlib.Core.List.{List, [], ◌∷◌, ◌++◌, map, append_assoc, append-nil}
use lib.Dec.{ltb}
use lib.ListN.{length, get_or, take, drop, set, replicate, length-append, length-map, length-replicate, replicate-append-replicate, length-set, length-take, length-drop}
use lib.Seq.{set-append_left, take_at, drop_at, set_out, set_at}
use borrow.Author.Tests.{ltb-true, ltb-false}
use Rattle.std.specs.Prelude.{if◌then◌else◌}
use Rattle.std.proofs.lemmas.List.{map-append, map-set}
use Rattle.laws.proofs.Absurd.{below-zero}
use Rattle.laws.proofs.Lists.{replicate-snoc, map-replicate, get-mapped}
use Rattle.lent.specs.Runs.{filled_from}
use Rattle.cells.specs.Written.{set_below}
use Rattle.threads.specs.Row.{shifted}
use Rattle.laying.specs.Laid.{spread}

zero-past : (n i : ℕ) → get_or {A = ℕ} (replicate n 0) i 0 ≡ 0
zero-past zero i = refl
zero-past (suc n) zero = refl
zero-past (suc n) (suc i) = zero-past n i

module _ {A : Type 0} (f : A → ℕ) where
  pub spread-nil : (n : ℕ) → spread f n [] ≡ replicate n 0
  unfolding spread
  spread-nil n = let z : n - 0 ≡ n = omega arith in rw z

  pub spread-cons : (n : ℕ) (x : A) (xs : List A) → spread f (suc n) (x ∷ xs) ≡ f x ∷ spread f n xs
  unfolding spread
  spread-cons n x xs = let z : suc n - suc (length xs) ≡ n - length xs = omega arith in rw z

  pub length-spread : (n : ℕ) (xs : List A) → length xs ≤ n → length (spread f n xs) ≡ n
  unfolding spread
  length-spread n xs l = simp (length-append, length-map, length-replicate) (omega arith)

  -- read inside, and past the end
  pub spread-get : (n : ℕ) (xs : List A) (i : ℕ) (d : A) → i < length xs → get_or (spread f n xs) i 0 ≡ f (get_or xs i d)
  unfolding spread
  spread-get n xs i d l = get-mapped f xs _ i d 0 l

  past : (xs : List A) (n i : ℕ) → length xs ≤ i → get_or (map f xs ++ replicate n 0) i 0 ≡ 0
  past [] n i l = zero-past n i
  past (x ∷ xs) n zero l = below-zero (length xs) (omega arith)
  past (x ∷ xs) n (suc i) l = past xs n i (omega arith)

  pub spread-past : (n : ℕ) (xs : List A) (i : ℕ) → length xs ≤ i → get_or (spread f n xs) i 0 ≡ 0
  unfolding spread
  spread-past n xs i l = past xs (n - length xs) i l

  -- an element set
  pub spread-set : (n : ℕ) (xs : List A) (i : ℕ) (x : A) → i < length xs → set (spread f n xs) i (f x) ≡ spread f n (set xs i x)
  unfolding spread
  spread-set n xs i x l =
      let m : i < length (map f xs) = rw length-map l in
      rw (length-set, map-set) (set-append_left (map f xs) (replicate (n - length xs) 0) i (f x) m)

  pub spread-below : (n : ℕ) (xs : List A) (i : ℕ) (x : A) → set_below (length xs) i (f x) (spread f n xs) ≡ spread f n (set xs i x)
  unfolding set_below
  spread-below n xs i x = by (ltb i (length xs)) refl
    where
      by : (b : Bool) → ltb i (length xs) ≡ b → (if b then set (spread f n xs) i (f x) else spread f n xs) ≡ spread f n (set xs i x)
      by true e = spread-set n xs i x (ltb-true i (length xs) e)
      by false e = ap (spread f n) (sym (set_out xs i x (ltb-false i (length xs) e)))

  -- one more element; many of the same; many that are zero
  pub spread-add : (n : ℕ) (xs : List A) (x : A) → length xs < n → set (spread f n xs) (length xs) (f x) ≡ spread f n (xs ++ x ∷ [])
  unfolding spread
  spread-add n xs x l =
      let a = length-append xs (x ∷ []) in
      let e : n - length xs ≡ suc (n - length (xs ++ x ∷ [])) = omega arith in
      rw (e, map-append f xs (x ∷ []))
      (set_at (map f xs) 0 (replicate (n - length (xs ++ x ∷ [])) 0) (f x) (length xs) (length-map xs f) ∙ sym (append_assoc (map f xs) (f x ∷ []) _))

  pub spread-run : (n : ℕ) (xs : List A) (k : ℕ) (x : A) → length xs + k ≤ n → filled_from (length xs) k (f x) (spread f n xs) ≡ spread f n (xs ++ replicate k x)
  unfolding filled_from
  spread-run n xs zero x l = ap (spread f n) (sym (append-nil xs))
  spread-run n xs (suc k) x l =
      let a = length-append xs (replicate k x) in
      let b = length-replicate k x in
      let e : length xs + k ≡ length (xs ++ replicate k x) = omega arith in
      rw (spread-run n xs k x (omega arith), e, ← replicate-snoc k x, ← append_assoc) (spread-add n (xs ++ replicate k x) x (omega arith))

  pub spread-still : (n : ℕ) (xs : List A) (k : ℕ) (x : A) → f x ≡ 0 → length xs + k ≤ n → spread f n xs ≡ spread f n (xs ++ replicate k x)
  unfolding spread
  spread-still n xs k x z l =
      let a = length-append xs (replicate k x) in
      let b = length-replicate k x in
      let m = n - length (xs ++ replicate k x) in
      let e : n - length xs ≡ k + m = omega arith in
      rw (map-append f xs (replicate k x), map-replicate f k x, z, e, append_assoc, replicate-append-replicate {A = ℕ} k m 0)

  -- one taken out
  shift-mapped : (xs : List A) (ys : List ℕ) (i v : ℕ) → i < length xs → shifted i v (map f xs ++ ys) ≡ map f (take i xs ++ drop (suc i) xs) ++ (ys ++ v ∷ [])
  unfolding shifted
  shift-mapped [] ys i v l = below-zero i l
  shift-mapped (x ∷ xs) ys zero v l = append_assoc (map f xs) ys (v ∷ [])
  shift-mapped (x ∷ xs) ys (suc i) v l = ap (λ (r : List ℕ). f x ∷ r) (shift-mapped xs ys i v (omega arith))

  pub spread-shift : (n : ℕ) (xs : List A) (i : ℕ) → i < length xs → length xs ≤ n → shifted i 0 (spread f n xs) ≡ spread f n (take i xs ++ drop (suc i) xs)
  unfolding spread
  spread-shift n xs i l m =
      let a = length-append (take i xs) (drop (suc i) xs) in
      let b = length-take i xs in
      let c = length-drop (suc i) xs in
      let e : n - length (take i xs ++ drop (suc i) xs) ≡ suc (n - length xs) = omega arith in
      rw (e, ← replicate-snoc {A = ℕ} (n - length xs) 0) (shift-mapped xs (replicate (n - length xs) 0) i 0 l)

  -- the elements' numbers, and another list of as many over them
  pub spread-take : (n : ℕ) (xs : List A) → take (length xs) (spread f n xs) ≡ map f xs
  unfolding spread
  spread-take n xs = take_at (map f xs) _ (length xs) (length-map xs f)

  pub spread-over : (n : ℕ) (xs ys : List A) → length ys ≡ length xs → map f ys ++ drop (length xs) (spread f n xs) ≡ spread f n ys
  unfolding spread
  spread-over n xs ys e = rw (drop_at (map f xs) (replicate (n - length xs) 0) (length xs) (length-map xs f), e)
