-- The region that a state's book gives a seat is that of the machine's claim there. Assumes nothing.
use Prim.Native.Nat.{ℕ, ◌+◌, ◌*◌, ◌≤◌, ◌<◌}
use native.Mathlib.Omega.{arith}
use mathlib.Core.Path.{◌≡◌, ◌∙◌}
use lib.ListN.{length, get_or}
use Rattle.std.proofs.lemmas.Bool.Decides.{nat_tests}
use Rattle.std.proofs.lemmas.Grind.{common_steps}
use Rattle.state.specs.declared.seats.Region.{Region}
use Rattle.state.specs.State.{State, machine_of, Enough, Stands}
use Rattle.std.specs.Prelude.{Some, None}
use Rattle.state.specs.Seats.{base_of, region_in}
use Rattle.state.proofs.Pieces.{from, to, seat-at, no-seat-far, no-seat, is-seat}

-- there is a seat k, its cells lie from a to e, and each buffer is long enough for its parts
pub record RegionAt (s : State) (k a e : ℕ) : Type 0 where
  pub seat : k < length (machine_of s)
  pub starts : a ≡ from s k
  pub ends : e ≡ to s k
  pub few : k < 8
  pub inside : e ≤ 2048
  pub lengths : Enough s

module _ {s : State} (t : Stands s) {k : ℕ} where
  region-from : {a e : ℕ} → k < length (machine_of s) → a ≡ base_of s.book k → e ≡ base_of s.book k + get_or s.book (k * 9) 0 → RegionAt s k a e
  region-from {e = e} h p q =
      let z = seat-at t k h in
      let ends : e ≡ to s k = q ∙ rw (z.base, z.cells) in
      let l = z.inside in
      record { seat = h; starts = p ∙ z.base; ends = ends; few = z.few; inside = omega arith; lengths = z.lengths }

  pub region_at : {g : Region} → region_in s.book k ≡ Some g → RegionAt s k g.start g.end
  unfolding region_in
  region_at r =
      let h : k < length (machine_of s) = grind (arith, common_steps, nat_tests, is-seat t k) in
      region-from h (grind (arith, common_steps)) (grind (arith, common_steps))

  pub region-nowhere : region_in s.book k ≡ None → length (machine_of s) ≤ k
  unfolding region_in
  region-nowhere r =
      grind (arith, common_steps, nat_tests, no-seat t k, no-seat-far t k)
