-- Which floats are finite, by tests and by bits. Assumes nothing.
use Prim.Native.Nat.{ℕ, zero, suc, ◌+◌, ◌%◌, ◌/◌, ◌^◌}
use mathlib.Core.Path.{◌≡◌, refl, sym, subst}
use mathlib.Core.Bool.{Bool, true, false, not, cond}
use lib.Dec.{T, eqb}
use lib.Ieee.{Float, nan, inf, fin, binary64, of_bits, of_fields, odd, lt, eq, ne, is_nan, nan_bits}
use lib.Ieee.Scale.{finite}
use lib.Ieee.Bits.{nan_bits_is}
use Rattle.std.specs.Float.{float_is_finite}
use lib.Ieee.Compare.{differs_from_itself}

-- std's word for a finite float
pub finite_is : (x : Float) → float_is_finite x ≡ finite x
unfolding float_is_finite
finite_is nan = refl
finite_is (inf s) = refl
finite_is (fin s m e) = refl

-- the two tests against the infinities
pub above-least : (x : Float) → lt x (inf false) ≡ true → lt (inf true) x ≡ finite x
unfolding lt
above-least nan t = refl
above-least (inf true) t = refl
above-least (inf false) t = sym t
above-least (fin s m e) t = refl

pub not-below-most : (x : Float) → lt x (inf false) ≡ false → false ≡ finite x
unfolding lt
not-below-most nan t = refl
not-below-most (inf s) t = refl
not-below-most (fin s m e) t = sym t

-- x == x unless x is a NaN
pub equals_itself : (x : Float) → eq x x ≡ true → T (not (is_nan x))
unfolding eq is_nan
equals_itself nan t = subst T (sym t) tt
equals_itself (inf s) t = tt
equals_itself (fin s m e) t = tt

pub differs : (x : Float) → eq x x ≡ false → x ≡ nan
unfolding ne
differs x t = differs_from_itself x (subst (λ (b : Bool). T (not b)) (sym t) tt)

-- a pattern's exponent field tells whether its float is finite
odd-finite : (d : ℕ) (s : Bool) (q k l : ℕ) → finite (odd d s q k l) ≡ true
unfolding odd
odd-finite d s zero k l = refl
odd-finite d s (suc q) k l = refl

fields : (s : Bool) (x t : ℕ) → finite (of_fields binary64 s x t) ≡ not (eqb x 2047)
unfolding of_fields
fields s zero t = odd-finite 53 s t 0 1074
fields s (suc x) t = by (eqb (suc x) 2047) (eqb t 0)
  where
    by : (a b : Bool) → finite (cond a (cond b (inf s) nan) (odd 53 s (2 ^ 52 + t) x 1074)) ≡ not a
    by true true = refl
    by true false = refl
    by false b = odd-finite 53 s (2 ^ 52 + t) x 1074

pub pattern : (w : ℕ) → finite (of_bits binary64 w) ≡ not (eqb (w % 9223372036854775808 / 4503599627370496) 2047)
unfolding of_bits
pattern w = fields _ (w % 9223372036854775808 / 4503599627370496) (w % 4503599627370496)

pub finite-no-nan : (x : Float) → finite x ≡ true → T (not (is_nan x))
unfolding is_nan
finite-no-nan nan t = subst T (sym t) tt
finite-no-nan (inf s) t = tt
finite-no-nan (fin s m e) t = tt

pub finite-pattern : (w : ℕ) → finite (of_bits binary64 w) ≡ true → T (not (nan_bits binary64 w))
finite-pattern w t = rw nan_bits_is (finite-no-nan (of_bits binary64 w) t)
