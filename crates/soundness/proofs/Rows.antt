-- The row of threads: what is kept, woken, taken out and picked. Assumes nothing.
use Prim.Native.Nat.{ℕ, zero, suc, ◌+◌, ◌<◌}
use native.Mathlib.Omega.{arith}
use mathlib.Core.Path.{◌≡◌, refl}
use mathlib.Core.Bool.{Bool, true, false, not}
use mathlib.Core.List.{List, [], ◌∷◌}
use lib.ListN.{length, get_or, length-append, length-take, length-drop, length-reverse, length-map}
use Rattle.std.specs.Prelude.{if◌then◌else◌}
use Rattle.laws.proofs.Absurd.{below-zero}
use Rattle.laws.proofs.Every.{All, all_nil, all_cons, all_append, all_take, all_drop, all_map, all-reverse, all-also}
use Rattle.rules.specs.Claim.{Live, is_ready, is_on, keep, seek, nobody, without, wake, readied}

-- those kept pass the test
all_keep : {P : Live → Type 0} (p : Live → Bool) {row : List Live} → All P row → All (λ t. P t × (p t ≡ true)) (keep p row)
unfolding keep
all_keep p all_nil = all_nil
all_keep {P} p (all_cons {x = x} {xs = row} q h) = by (p x) refl (all_keep p h)
  where
    by : (b : Bool) → p x ≡ b → All (λ t. P t × (p t ≡ true)) (keep p row) → All (λ t. P t × (p t ≡ true)) (if b then x ∷ keep p row else keep p row)
    by true e k = all_cons (q, e) k
    by false e k = k

length-keep : (p : Live → Bool) (row : List Live) → length (keep (λ t. not (p t)) row) + length (keep p row) ≡ length row
unfolding keep
length-keep p [] = refl
length-keep p (x ∷ row) = by (p x) (length-keep p row)
  where
    rest : List Live
    rest = keep (λ t. not (p t)) row

    kept : List Live
    kept = keep p row

    by : (b : Bool) → length rest + length kept ≡ length row → length (if not b then x ∷ rest else rest) + length (if b then x ∷ kept else kept) ≡ suc (length row)
    by true h = omega arith
    by false h = omega arith

-- waking changes the order and no thread; those woken are ready
pub length-wake : (l : ℕ) (row : List Live) → length (wake l row) ≡ length row
unfolding wake
length-wake l row = simp (length-append, length-map, length-reverse) (length-keep (is_on l) row)

pub all-wake : {P Q : Live → Type 0} (l : ℕ) {row : List Live} → ((t : Live) → P t → not (is_on l t) ≡ true → Q t) → ((t : Live) → P t → Q (readied t.thread)) → All P row → All Q (wake l row)
unfolding wake
all-wake l k j h = all_append (all-also (λ t q. k t q.0 q.1) (all_keep (λ t. not (is_on l t)) h)) (all_map (λ t. readied t.thread) (λ t q. j t q.0) (all-reverse (all_keep (is_on l) h)))

pub length_without : (row : List Live) (i : ℕ) → i < length row → suc (length (without row i)) ≡ length row
unfolding without
length_without row i h = simp (length-append, length-take, length-drop) (omega arith)

pub all_without : {P : Live → Type 0} {row : List Live} (i : ℕ) → All P row → All P (without row i)
unfolding without
all_without i h = all_append (all_take i h) (all_drop (suc i) h)

-- the pick-th ready thread is in the row, and ready
pub record Picked (row : List Live) (i : ℕ) : Type 0 where
  pub within : i < length row
  pub ready : is_ready (get_or row i nobody) ≡ true

pub seek-picked : (row : List Live) (n : ℕ) → n < length (keep is_ready row) → Picked row (seek row n)
unfolding keep seek
seek-picked [] n h = below-zero n h
seek-picked (t ∷ row) n h = by n (is_ready t) refl h (seek-picked row)
  where
    later : {i : ℕ} → Picked row i → Picked (t ∷ row) (suc i)
    later q = record { within = omega (arith, q.within); ready = q.ready }

    by : (n : ℕ) (b : Bool) → is_ready t ≡ b → n < length (if b then t ∷ keep is_ready row else keep is_ready row) → ((m : ℕ) → m < length (keep is_ready row) → Picked row (seek row m)) → Picked (t ∷ row) (seek (t ∷ row) n)
    by zero true e h k = unfold seek in rw e (record { within = omega arith; ready = e })
    by zero false e h k = unfold seek in rw e (later (k zero h))
    by (suc n) true e h k = unfold seek in rw e (later (k n (omega arith)))
    by (suc n) false e h k = unfold seek in rw e (later (k (suc n) h))
