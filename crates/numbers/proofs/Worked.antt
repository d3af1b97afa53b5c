-- Document 01's W10, and answers at the ends of the ranges, computed on the definitions. Assumes nothing.
use Prim.Native.Nat.{ℕ}
use mathlib.Core.Path.{◌≡◌, refl}
use mathlib.Core.Bool.{true}
use lib.IntN.{pos, neg_ℤ}
use lib.Ieee as Ieee
use lib.Ieee.{binary64, of_bits}
use Rattle.std.specs.Prelude.{Result, Ok, Err}
use Rattle.value.specs.Refusals.{refusal_number}
use Rattle.value.specs.declared.refusals.Refusal.{Refusal}
use Rattle.value.specs.Range.{least, greatest, in_range}
use Rattle.value.specs.Wanted.{as_integer, as_float, as_boolean}
use Rattle.value.specs.declared.Value.{Value}
use Rattle.value.specs.declared.Value.TheVariants.{Integer, Float, Boolean, Nil}
use Rattle.numbers.specs.declared.Operation.TheVariants.{Add, Mul, Div, Equal}
use Rattle.numbers.specs.Integers as Integers
use Rattle.numbers.specs.Floats as Floats
use Rattle.numbers.specs.Operations.{operated, with_integer, with_float, with_boolean, on_integers, on_floats, on_booleans, takes_booleans, whole, real}

-- `unfolding Worked·compute` opens every definition that is computed here
unfoldable Worked·compute : Unit {0}
unfolding operated with_integer with_float with_boolean as_integer as_float as_boolean on_integers on_floats on_booleans takes_booleans whole real Integers.exactly Integers.quotient Integers.moved in_range Floats.finitely Floats.quotient Ieee.of_bits Ieee.add Ieee.mul Ieee.div Ieee.eq
Worked·compute = tt

-- an answer, with the number of a refusal
abbrev numbered : {A : Type 0} → Result A Refusal → Result A ℕ
numbered (Ok x) = Ok x
numbered (Err r) = Err (refusal_number r)

abbrev float : ℕ → Value
float bits = Float (of_bits binary64 bits)

-- "greatest integer plus 0 is itself; plus 1 is 9"
greatest-and-zero : operated Add (Integer greatest) (Integer (pos 0)) ≡ Ok (Integer greatest)
unfolding Worked·compute
greatest-and-zero = refl

greatest-and-one : numbered (operated Add (Integer greatest) (Integer (pos 1))) ≡ Err 9
unfolding Worked·compute
greatest-and-one = refl

-- "-7 DIV 2 is -3; least DIV -1 is 9"
toward_zero : operated Div (Integer (neg_ℤ (pos 7))) (Integer (pos 2)) ≡ Ok (Integer (neg_ℤ (pos 3)))
unfolding Worked·compute
toward_zero = refl

least_by_minus_one : numbered (operated Div (Integer least) (Integer (neg_ℤ (pos 1)))) ≡ Err 9
unfolding Worked·compute
least_by_minus_one = refl

-- "0.5 + 0.25 is 0.75; 1.0 DIV 0.0 is 9"
half-and-quarter : operated Add (float 0x3fe0_0000_0000_0000) (float 0x3fd0_0000_0000_0000) ≡ Ok (float 0x3fe8_0000_0000_0000)
unfolding Worked·compute
half-and-quarter = refl

one-by-zero : numbered (operated Div (float 0x3ff0_0000_0000_0000) (float 0)) ≡ Err 9
unfolding Worked·compute
one-by-zero = refl

one-by-minus-zero : numbered (operated Div (float 0x3ff0_0000_0000_0000) (float 0x8000_0000_0000_0000)) ≡ Err 9
unfolding Worked·compute
one-by-minus-zero = refl

-- 0.1 + 0.2 rounds up
tenth_and_fifth : operated Add (float 0x3fb9_9999_9999_999a) (float 0x3fc9_9999_9999_999a) ≡ Ok (float 0x3fd3_3333_3333_3334)
unfolding Worked·compute
tenth_and_fifth = refl

-- the greatest float doubled is not finite; the least normal one halved is subnormal
greatest-doubled : numbered (operated Mul (float 0x7fef_ffff_ffff_ffff) (float 0x4000_0000_0000_0000)) ≡ Err 9
unfolding Worked·compute
greatest-doubled = refl

least-normal-halved : operated Mul (float 0x0010_0000_0000_0000) (float 0x3fe0_0000_0000_0000) ≡ Ok (float 0x0008_0000_0000_0000)
unfolding Worked·compute
least-normal-halved = refl

-- "EQUAL also takes two booleans, never nil or locations"
equal-booleans : operated Equal (Boolean true) (Boolean true) ≡ Ok (Boolean true)
unfolding Worked·compute
equal-booleans = refl

equal-nil : numbered (operated Equal Nil Nil) ≡ Err 4
unfolding Worked·compute
equal-nil = refl

-- "slot t the kind that s has"
two-kinds : numbered (operated Add (Integer (pos 1)) (float 0x3ff0_0000_0000_0000)) ≡ Err 4
unfolding Worked·compute
two-kinds = refl

-- "refused with 1 outside 0 to 65,535"
past-the-last : numbered (Integers.moved 65535 (pos 1)) ≡ Err 1
unfolding Worked·compute
past-the-last = refl
