-- A product is in range where its magnitude is at most the room that its signs leave. Assumes nothing.
use Prim.Native.Nat.{ℕ, zero, suc, ◌*◌, ◌/◌, ◌^◌, ◌-◌, ◌<◌, ◌≤◌}
use native.Mathlib.Omega.{arith}
use native.Mathlib.Nat.{le-div_iff_mul-le, div-lt_iff_lt-mul, mul-le-mul}
use mathlib.Core.Path.{◌≡◌, refl, sym, ◌∙◌}
use mathlib.Core.Bool.{true, false}
use lib.IntN.{ℤ, pos, negsuc, neg_ℤ, ◌*ℤ◌, *ℤ-zero, nat_abs}
use lib.Dec.{leb, leb-suc-suc}
use borrow.Author.Tests.{le-leb, lt-leb}
use Rattle.laws.proofs.Integers.{none_is}
use Rattle.laws.proofs.Choice.{only-first}
use Rattle.value.specs.Range.{in_range}
use Rattle.std.specs.Prelude.{Ok}
use Rattle.numbers.specs.Integers.{exactly}

-- the greatest magnitude that a product of these signs may have
abbrev pub room_for : ℤ → ℤ → ℕ
room_for (pos a) (pos b) = 2 ^ 63 - 1
room_for (pos a) (negsuc b) = 2 ^ 63
room_for (negsuc a) (pos b) = 2 ^ 63
room_for (negsuc a) (negsuc b) = 2 ^ 63 - 1

-- at most 2 ^ 63 below zero
pub negative-range : (m : ℕ) → in_range (neg_ℤ (pos m)) ≡ leb m (2 ^ 63)
unfolding in_range
negative-range zero = refl
negative-range (suc m) = only-first (leb m (2 ^ 63 - 1)) true refl ∙ sym (leb-suc-suc m (2 ^ 63 - 1))

product-range : (x y : ℤ) → in_range (x *ℤ y) ≡ leb (nat_abs x * nat_abs y) (room_for x y)
unfolding in_range
product-range (pos a) (pos b) = refl
product-range (pos a) (negsuc b) = negative-range (a * suc b)
product-range (negsuc a) (pos b) = negative-range (suc a * b)
product-range (negsuc a) (negsuc b) = refl

room-least : (x y : ℤ) → 2 ^ 63 - 1 ≤ room_for x y
room-least (pos a) (pos b) = omega arith
room-least (pos a) (negsuc b) = omega arith
room-least (negsuc a) (pos b) = omega arith
room-least (negsuc a) (negsuc b) = omega arith

module _ (x y : ℤ) where
  -- below 2 ^ 31 each
  pub small_product : nat_abs x < 2147483648 → nat_abs y < 2147483648 → in_range (x *ℤ y) ≡ true
  small_product h k =
      let p : nat_abs x * nat_abs y ≤ 2147483647 * 2147483647 = mul-le-mul {n₂ = 2147483647} {m₂ = 2147483647} (omega arith) (omega arith) in
      product-range x y ∙ le-leb (nat_abs x * nat_abs y) (room_for x y) (omega (arith, room-least x y))

  pub no-product : nat_abs y ≡ 0 → Ok (pos 0) ≡ exactly (x *ℤ y)
  unfolding exactly in_range
  no-product e = rw (none_is y e, *ℤ-zero x)

  -- the test by a division
  module _ (some : 0 < nat_abs y) where
    pub product-in : nat_abs x ≤ room_for x y / nat_abs y → in_range (x *ℤ y) ≡ true
    product-in h = product-range x y ∙ le-leb _ _ ((le-div_iff_mul-le some).0 h)

    pub product-out : room_for x y / nat_abs y < nat_abs x → in_range (x *ℤ y) ≡ false
    product-out h = product-range x y ∙ lt-leb _ _ ((div-lt_iff_lt-mul some).0 h)
