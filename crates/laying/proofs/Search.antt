-- The search of a laid row finds the thread that the rules pick. Assumes nothing.
use Prim.Native.Nat.{ℕ, zero, suc, ◌+◌, ◌-◌}
use native.Mathlib.Nat.{zero-add}
use native.Mathlib.Omega.{arith}
use mathlib.Core.Path.{◌≡◌, refl, ap}
use mathlib.Core.Bool.{Bool, true, false}
use mathlib.Core.List.{List, [], ◌∷◌, ◌++◌, map, append-nil}
use lib.Dec.{ltb, eqb}
use lib.ListN.{length, take, replicate}
use borrow.Author.Tests.{eq-eqb, ne_eqb, lt-ltb, le-ltb, ltb-true, ltb-false}
use Rattle.std.specs.Prelude.{Ok, Err}
use Rattle.std.specs.Prelude.{if◌then◌else◌}
use Rattle.laws.proofs.Every.{All, all_cons}
use Rattle.rules.specs.Claim.{Claim, Live, is_ready, keep, ready_count, seek}
use Rattle.threads.specs.Row.{found_by, found_from}
use Rattle.laying.specs.Laid.{spread, head_number}
use Rattle.laying.proofs.Fitting.{Placed, Fit, all_placed}
use Rattle.laying.proofs.Spread.{spread-take}
use Rattle.laying.proofs.Heads.{is-ready}

none-there : (pick i n z : ℕ) → found_from pick i n (replicate z 0) ≡ Err n
unfolding found_by
none-there pick i n zero = refl
none-there pick i n (suc z) = none-there pick (i + 1) n z

abbrev count : List Live → ℕ
count row = length (keep is_ready row)

ltb-suc : (j k : ℕ) → ltb (suc j) (suc k) ≡ ltb j k
ltb-suc j k = by (ltb j k) refl
  where
    by : (b : Bool) → ltb j k ≡ b → ltb (suc j) (suc k) ≡ b
    by true e = let h = ltb-true j k e in lt-ltb (suc j) (suc k) (omega arith)
    by false e = let h = ltb-false j k e in le-ltb (suc j) (suc k) (omega arith)

-- n ready before index i, and j more to pass
found-row : (row : List Live) (z i n j : ℕ) → All Placed row
    → found_from (n + j) i n (map head_number row ++ replicate z 0) ≡ (if ltb j (count row) then Ok (i + seek row j) else Err (n + count row))
unfolding found_by keep seek
found-row [] z i n j h = rw (none-there (n + j) i n z, le-ltb j 0 (omega arith)) (ap Err (omega arith))
found-row (t ∷ ts) z i n zero (all_cons p h) = rw (is-ready t p) (by (is_ready t) (found-row ts z (i + 1) n 0 h))
  where
    rest : List ℕ
    rest = map head_number ts ++ replicate z 0

    kept : Bool → List Live
    kept b = if b then t ∷ keep is_ready ts else keep is_ready ts

    by : (b : Bool) → found_from (n + 0) (i + 1) n rest ≡ (if ltb 0 (count ts) then Ok (i + 1 + seek ts 0) else Err (n + count ts))
        → (if b then (if eqb n (n + 0) then Ok i else found_from (n + 0) (i + 1) (n + 1) rest) else found_from (n + 0) (i + 1) n rest)
        ≡ (if ltb 0 (length (kept b)) then Ok (i + (if b then 0 else suc (seek ts 0))) else Err (n + length (kept b)))
    by true e = rw (eq-eqb n (n + 0) (omega arith), lt-ltb 0 (suc (count ts)) (omega arith)) (ap Ok (omega arith))
    by false e = let q : i + 1 + seek ts 0 ≡ i + suc (seek ts 0) = omega arith in rw q at e
found-row (t ∷ ts) z i n (suc j) (all_cons p h) = rw (is-ready t p) (by (is_ready t) (found-row ts z (i + 1) (n + 1) j h) (found-row ts z (i + 1) n (suc j) h))
  where
    rest : List ℕ
    rest = map head_number ts ++ replicate z 0

    kept : Bool → List Live
    kept b = if b then t ∷ keep is_ready ts else keep is_ready ts

    by : (b : Bool) → found_from (n + 1 + j) (i + 1) (n + 1) rest ≡ (if ltb j (count ts) then Ok (i + 1 + seek ts j) else Err (n + 1 + count ts))
        → found_from (n + suc j) (i + 1) n rest ≡ (if ltb (suc j) (count ts) then Ok (i + 1 + seek ts (suc j)) else Err (n + count ts))
        → (if b then (if eqb n (n + suc j) then Ok i else found_from (n + suc j) (i + 1) (n + 1) rest) else found_from (n + suc j) (i + 1) n rest)
        ≡ (if ltb (suc j) (length (kept b)) then Ok (i + (if b then suc (seek ts j) else suc (seek ts (suc j)))) else Err (n + length (kept b)))
    by true e f =
        let q : n + suc j ≡ n + 1 + j = omega arith in
        let u : i + suc (seek ts j) ≡ i + 1 + seek ts j = omega arith in
        let v : n + suc (count ts) ≡ n + 1 + count ts = omega arith in
        rw (ne_eqb n (n + suc j) (λ w. omega arith), q) (rw (ltb-suc j (count ts), u, v) e)
    by false e f = let q : i + 1 + seek ts (suc j) ≡ i + suc (seek ts (suc j)) = omega arith in rw q at f

module _ (c : Claim) (f : Fit c) (pick : ℕ) where
  pub found-same : found_from pick 0 0 (spread head_number 32 c.row) ≡ (if ltb pick (ready_count c) then Ok (seek c.row pick) else Err (ready_count c))
  unfolding spread ready_count
  found-same = simp zero-add at (found-row c.row (32 - length c.row) 0 0 pick (all_placed c f))

  -- so does the search of the live records alone
  pub live-found : found_from pick 0 0 (take (length c.row) (spread head_number 32 c.row)) ≡ (if ltb pick (ready_count c) then Ok (seek c.row pick) else Err (ready_count c))
  unfolding ready_count
  live-found = rw (spread-take head_number 32 c.row, ← append-nil (map head_number c.row)) (simp zero-add at (found-row c.row 0 0 0 pick (all_placed c f)))
