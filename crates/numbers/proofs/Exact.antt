-- An answer is told or refused by its range, and EQUAL compares bits. Assumes nothing.
use native.Mathlib.Omega.{arith}
use mathlib.Core.Path.{◌≡◌, refl, sym, ◌∙◌, ap}
use mathlib.Core.Bool.{Bool, true, false}
use lib.IntN.{ℤ, nat_abs}
use lib.Signed.{le_z, quot_z}
use lib.Dec.{eqb}
use borrow.Author.Tests.{eqb-true, eqb-false, ne_eqb}
use mir.Syntax.{w64}
use mir.Val.{SFits, of_z}
use Rattle.std.specs.Prelude.{Option, Some, None, Err, SomeIff}
use Rattle.std.specs.Option.{ok_or}
use Rattle.std.specs.Int.{CanDivide}
use Rattle.laws.proofs.Integers.{le-same, le-both, none_is}
use Rattle.laws.proofs.Choice.{both, first, second}
use Rattle.laws.proofs.Words.{same_bits}
use Rattle.value.specs.declared.refusals.Refusal.TheVariants.{OutOfRange}
use Rattle.value.specs.Range.{in_range}
use Rattle.value.proofs.Range.{range-fits, fits-range}
use Rattle.numbers.specs.Integers.{exactly, quotient, eq_z}

-- an answer that 64 bits hold, and no other, is told
pub exactly_if : (o : Option ℤ) (z : ℤ) → SomeIff o (SFits w64 z) z → ok_or o OutOfRange ≡ exactly z
unfolding exactly
exactly_if None z h = by (in_range z) refl
  where
    by : (t : Bool) → in_range z ≡ t → Err OutOfRange ≡ exactly z
    by true e = absurd (h (range-fits z e))
    by false e = rw e
exactly_if (Some x) z h = rw (h.1, fits-range z h.0)

-- a quotient by another number than 0
module _ (a b : ℤ) (f : of_z w64 b ≡ 0 → ⊥) where
  pub quotient_is : exactly (quot_z a b) ≡ quotient a b
  unfolding quotient
  quotient_is = rw (ne_eqb (nat_abs b) 0 (λ e. f (ap (of_z w64) (none_is b e))))

  narrowed : (o : Option ℤ) → SomeIff o (CanDivide w64 a b) (quot_z a b) → SomeIff o (SFits w64 (quot_z a b)) (quot_z a b)
  narrowed None h = λ k. h (omega (arith, f), k)
  narrowed (Some x) h = (h.0.1, h.1)

  pub quotient_if : (o : Option ℤ) → SomeIff o (CanDivide w64 a b) (quot_z a b) → ok_or o OutOfRange ≡ quotient a b
  quotient_if o h = exactly_if o (quot_z a b) (narrowed o h) ∙ quotient_is

equal-holds : (x y : ℤ) → x ≡ y → eq_z x y ≡ true
unfolding eq_z
equal-holds x y e = rw e (both (le-same y) (le-same y))

equal-only : (x y : ℤ) → eq_z x y ≡ true → x ≡ y
unfolding eq_z
equal-only x y e = le-both x y (first (le_z x y) (le_z y x) e) (second (le_z x y) (le_z y x) e)

pub bits_equal : (x y : ℤ) → SFits w64 x → SFits w64 y → eqb (of_z w64 x) (of_z w64 y) ≡ eq_z x y
bits_equal x y h k = by (eqb (of_z w64 x) (of_z w64 y)) (eq_z x y) refl refl
  where
    by : (s t : Bool) → eqb (of_z w64 x) (of_z w64 y) ≡ s → eq_z x y ≡ t → s ≡ t
    by true true p q = refl
    by true false p q = sym (equal-holds x y (same_bits x y h k (eqb-true _ _ p))) ∙ q
    by false true p q = absurd (eqb-false _ _ p (ap (of_z w64) (equal-only x y q)))
    by false false p q = refl
