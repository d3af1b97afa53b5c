-- Quotients: only the least number by -1 leaves the range. Assumes nothing.
use Prim.Native.Nat.{ℕ, zero, suc, ◌/◌, ◌^◌, ◌-◌, ◌<◌, ◌≤◌}
use native.Mathlib.Omega.{arith}
use native.Mathlib.Nat.{div-le_self, div-lt_self}
use mathlib.Core.Path.{◌≡◌, refl, sym, ◌∙◌, ap, subst}
use mathlib.Core.Bool.{true}
use lib.IntN.{ℤ, pos, negsuc, neg_ℤ, ◌-ℤ◌, +ℤ_idl}
use lib.Signed.{quot_z}
use borrow.Author.Tests.{le-leb}
use mir.Syntax.{w64}
use mir.Val.{SFits}
use Rattle.std.specs.Prelude.{Ok, Err}
use Rattle.value.specs.declared.refusals.Refusal.TheVariants.{OutOfRange, ZeroDivisor}
use Rattle.value.specs.Range.{least, in_range}
use Rattle.value.proofs.Range.{fits-range}
use Rattle.numbers.specs.Integers.{exactly, quotient}
use Rattle.numbers.proofs.Products.{negative-range}

pub by_zero : (x y : ℤ) → y ≡ pos 0 → Err ZeroDivisor ≡ quotient x y
unfolding quotient
by_zero x y e = rw e

-- by -1
minus_is : (x : ℤ) → quot_z x (negsuc 0) ≡ pos 0 -ℤ x
minus_is x = by x ∙ sym (+ℤ_idl (neg_ℤ x))
  where
    by : (x : ℤ) → quot_z x (negsuc 0) ≡ neg_ℤ x
    by (pos n) = let e : n / 1 ≡ n = omega arith in rw e
    by (negsuc n) = let e : suc n / 1 ≡ suc n = omega arith in rw e

pub least_by_minus_one : (x y : ℤ) → y ≡ negsuc 0 → x ≡ least → Err OutOfRange ≡ quotient x y
unfolding quotient exactly in_range
least_by_minus_one x y e f = rw (e, f)

module _ (x : ℤ) (h : SFits w64 x) (f : x ≡ least → ⊥) where
  negated : (x : ℤ) → SFits w64 x → (x ≡ least → ⊥) → SFits w64 (neg_ℤ x)
  negated (pos zero) h f = record { sfits = omega arith }
  negated (pos (suc n)) h f = record { sfits = omega (arith, h.sfits) }
  negated (negsuc n) h f = let g : n ≡ 2 ^ 63 - 1 → ⊥ = λ e. f (ap negsuc e) in record { sfits = omega (arith, h.sfits, g) }

  pub minus-fits : SFits w64 (pos 0 -ℤ x)
  minus-fits = subst (SFits w64) (sym (+ℤ_idl (neg_ℤ x))) (negated x h f)

  pub by-minus-one : (y : ℤ) → y ≡ negsuc 0 → Ok (pos 0 -ℤ x) ≡ quotient x y
  unfolding quotient exactly
  by-minus-one y e = rw (e, minus_is x, fits-range (pos 0 -ℤ x) minus-fits)

-- by any other number
negative-in : (m : ℕ) → m ≤ 2 ^ 63 → in_range (neg_ℤ (pos m)) ≡ true
negative-in m h = negative-range m ∙ le-leb m (2 ^ 63) h

pub quotient-in : (x y : ℤ) → SFits w64 x → (y ≡ negsuc 0 → ⊥) → in_range (quot_z x y) ≡ true
quotient-in (pos a) (pos b) h f = fits-range (pos (a / b)) (record { sfits = omega (arith, h.sfits, div-le_self a b) })
quotient-in (pos a) (negsuc b) h f = negative-in (a / suc b) (omega (arith, h.sfits, div-le_self a (suc b)))
quotient-in (negsuc a) (pos b) h f = negative-in (suc a / b) (omega (arith, h.sfits, div-le_self (suc a) b))
quotient-in (negsuc a) (negsuc zero) h f = absurd (f refl)
quotient-in (negsuc a) (negsuc (suc b)) h f =
    let l : suc a / suc (suc b) < suc a = div-lt_self (omega arith) (omega arith) in
    fits-range (pos (suc a / suc (suc b))) (record { sfits = omega (arith, h.sfits) })
