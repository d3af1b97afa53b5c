-- Numbers of ℤ: the order both ways, and 0 by its size. Assumes nothing.
use native.Mathlib.Omega.{arith}
use mathlib.Core.Path.{◌≡◌, ap}
use mathlib.Core.Bool.{true}
use lib.IntN.{ℤ, pos, negsuc, nat_abs}
use lib.Signed.{le_z}
use borrow.Author.Tests.{leb-true, le-leb}
use Rattle.laws.proofs.Absurd.{clash}

pub le-same : (x : ℤ) → le_z x x ≡ true
le-same (pos n) = le-leb n n (omega arith)
le-same (negsuc n) = le-leb n n (omega arith)

pub le-both : (x y : ℤ) → le_z x y ≡ true → le_z y x ≡ true → x ≡ y
le-both (pos a) (pos b) p q = ap pos (omega (arith, leb-true a b p, leb-true b a q))
le-both (pos a) (negsuc b) p q = clash (cc)
le-both (negsuc a) (pos b) p q = clash (cc)
le-both (negsuc a) (negsuc b) p q = ap negsuc (omega (arith, leb-true b a p, leb-true a b q))

pub none_is : (z : ℤ) → nat_abs z ≡ 0 → z ≡ pos 0
none_is (pos n) e = ap pos e
none_is (negsuc n) e = clash (cc)
