-- The rules are not empty: an image loads, its claim finishes with a result, another image gives another, and a run obeys more than its first entry; by computation. Assumes nothing.
use Prim.Native.Nat.{ℕ}
use mathlib.Core.Path.{◌≡◌, refl}
use mathlib.Core.Logic.{◌≢◌}
use mathlib.Core.List.{List, [], ◌∷◌, ◌++◌}
use lib.IntN.{pos}
use Rattle.laws.proofs.Absurd.{clash}
use Rattle.value.specs.declared.Value.TheVariants.{Integer}
use Rattle.std.specs.Prelude.{Some, None}
use Rattle.rules.specs.declared.Report.{Report}
use Rattle.rules.specs.declared.Status.TheVariants.{Finished}
use Rattle.rules.specs.Calls.{Machine, message, loads, placed, tell, after, entries, opening, claim_at, report}
use Rattle.rules.specs.Sheets.{share, int}
use Rattle.rules.proofs.Worked.{compute}

-- adds its two inputs, stores the sum in slot 0 and ends: W1's image with any inputs below 256
pub adds : ℕ → ℕ → List ℕ
adds a b = 0x80 ∷ 3 ∷ 0x81 ∷ int a ++ 0x81 ∷ int b ++ 0x85 ∷ 0x10 ∷ 1 ∷ 2 ∷ 0x07 ∷ 0 ∷ 0x00 ∷ []

-- two seats, opened
pub two : Machine
two = opening [] (share 8 4 ∷ share 8 4 ∷ [])

-- seat k's report after 5 and b were loaded into seat 0, 5 and 7 into seat 1, and a run of these bytes
pub reported : ℕ → ℕ → List ℕ → Report
reported b k run = report (claim_at (after two (message 0 (loads (adds 5 b)) ∷ message 1 (loads (adds 5 7)) ∷ entries run)) k)

pub some-load : (tell two (message 0 (loads (adds 5 7)))).reply ≡ placed 0 0
unfolding compute adds two
some-load = refl

-- seat, pick; seat, pick; seat, pick
pub some-finish : (reported 7 0 (0 ∷ 0 ∷ 0 ∷ 0 ∷ 0 ∷ 0 ∷ [])).status ≡ Finished
unfolding compute adds two reported
some-finish = refl

pub some_result : (reported 7 0 (0 ∷ 0 ∷ 0 ∷ 0 ∷ 0 ∷ 0 ∷ [])).result ≡ Some (Integer (pos 12))
unfolding compute adds two reported
some_result = refl

pub another-result : (reported 8 0 (0 ∷ 0 ∷ 0 ∷ 0 ∷ 0 ∷ 0 ∷ [])).result ≡ Some (Integer (pos 13))
unfolding compute adds two reported
another-result = refl

pub results-differ : (reported 7 0 (0 ∷ 0 ∷ 0 ∷ 0 ∷ 0 ∷ 0 ∷ [])).result ≢ (reported 8 0 (0 ∷ 0 ∷ 0 ∷ 0 ∷ 0 ∷ 0 ∷ [])).result
results-differ e = clash (cc (some_result, another-result))

-- the second entry to the same seat
pub first_entry : ((reported 7 0 (0 ∷ 0 ∷ [])).steps ≡ 1) × ((reported 7 0 (0 ∷ 0 ∷ [])).result ≡ None)
unfolding compute adds two reported
first_entry = (refl, refl)

pub second-entry : ((reported 7 0 (0 ∷ 0 ∷ 0 ∷ 0 ∷ [])).steps ≡ 2) × ((reported 7 0 (0 ∷ 0 ∷ 0 ∷ 0 ∷ [])).result ≡ Some (Integer (pos 12)))
unfolding compute adds two reported
second-entry = (refl, refl)

-- the second entry to another seat
pub not-named-yet : (reported 7 1 (0 ∷ 0 ∷ [])).steps ≡ 0
unfolding compute adds two reported
not-named-yet = refl

pub named-second : (reported 7 1 (0 ∷ 0 ∷ 1 ∷ 0 ∷ [])).steps ≡ 1
unfolding compute adds two reported
named-second = refl
