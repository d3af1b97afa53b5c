-- Every answer is a well-formed value: an integer in range, a finite float of 64 bits, a boolean; and a location moved is a location. Assumes nothing.
use Prim.Native.Nat.{ℕ, suc, ◌+◌, ◌-◌}
use mathlib.Core.Path.{◌≡◌, refl, subst}
use mathlib.Core.Bool.{Bool, true, false}
use lib.Dec.{T, leb, ltb, eqb}
use lib.IntN.{ℤ, pos, negsuc, nat_abs, ◌+ℤ◌, ◌-ℤ◌, ◌*ℤ◌}
use lib.Signed.{quot_z}
use lib.Ieee as Ieee
use lib.Ieee.{binary64, of_bits, fits}
use lib.Ieee.Scale.{finite}
use lib.Ieee.Fits.{add-fits, sub-fits, mul-fits, div-fits}
use lib.Ieee.Bits.{is_true}
use Rattle.std.specs.Prelude.{if◌then◌else◌}
use Rattle.laws.proofs.Absurd.{clash}
use Rattle.laws.proofs.Choice.{chosen, both}
use Rattle.std.specs.Prelude.{Result, Ok, Err}
use Rattle.value.specs.declared.refusals.Refusal.{Refusal}
use Rattle.value.specs.declared.refusals.Refusal.TheVariants.{NoSuchCell, OutOfRange, ZeroDivisor}
use Rattle.value.specs.Range.{in_range, well_formed}
use Rattle.value.specs.Wanted.{as_integer, as_float, as_boolean}
use Rattle.value.specs.declared.Value.{Value}
use Rattle.value.specs.declared.Value.TheVariants.{Integer, Float, Boolean, Nil, Location}
use Rattle.numbers.specs.declared.Operation.{Operation}
use Rattle.numbers.specs.declared.Operation.TheVariants.{Add, Sub, Mul, Div, Less, Equal}
use Rattle.numbers.specs.Integers as Integers
use Rattle.numbers.specs.Floats as Floats
use Rattle.numbers.specs.Operations.{whole, real, on_integers, on_floats, on_booleans, takes_booleans, with_integer, with_float, with_boolean, operated}

-- an answer's value, if it has one, is well formed
abbrev Right : Result Value Refusal → Type 0
Right (Ok v) = well_formed v ≡ true
Right (Err n) = Unit {0}

right-range : (z : ℤ) (t : Bool) → in_range z ≡ t → Right (whole (if t then Ok z else Err OutOfRange))
unfolding whole well_formed
right-range z true e = e
right-range z false e = tt

right-exactly : (z : ℤ) → Right (whole (Integers.exactly z))
unfolding Integers.exactly
right-exactly z = right-range z (in_range z) refl

right-divisor : (x y : ℤ) (t : Bool) → Right (whole (if t then Err ZeroDivisor else Integers.exactly (quot_z x y)))
unfolding whole
right-divisor x y true = tt
right-divisor x y false = right-exactly (quot_z x y)

right-quotient : (x y : ℤ) → Right (whole (Integers.quotient x y))
unfolding Integers.quotient
right-quotient x y = right-divisor x y (eqb (nat_abs y) 0)

right-integers : (o : Operation) (x y : ℤ) → Right (on_integers o x y)
unfolding on_integers well_formed
right-integers Add x y = right-exactly (x +ℤ y)
right-integers Sub x y = right-exactly (x -ℤ y)
right-integers Mul x y = right-exactly (x *ℤ y)
right-integers Div x y = right-quotient x y
right-integers Less x y = refl
right-integers Equal x y = refl

right-finite : (x : Ieee.Float) → T (fits binary64 x) → (t : Bool) → finite x ≡ t → Right (real (if t then Ok x else Err OutOfRange))
unfolding real well_formed
right-finite x h true e = both (is_true (fits binary64 x) h) e
right-finite x h false e = tt

right-finitely : (x : Ieee.Float) → T (fits binary64 x) → Right (real (Floats.finitely x))
unfolding Floats.finitely
right-finitely x h = right-finite x h (finite x) refl

right-real-divisor : (x y : Ieee.Float) (t : Bool) → Right (real (if t then Err ZeroDivisor else Floats.finitely (Ieee.div binary64 x y)))
unfolding real
right-real-divisor x y true = tt
right-real-divisor x y false = right-finitely (Ieee.div binary64 x y) (div-fits binary64 x y)

right-floats : (o : Operation) (x y : Ieee.Float) → Right (on_floats o x y)
unfolding on_floats Floats.quotient well_formed
right-floats Add x y = right-finitely (Ieee.add binary64 x y) (add-fits binary64 x y)
right-floats Sub x y = right-finitely (Ieee.sub binary64 x y) (sub-fits binary64 x y)
right-floats Mul x y = right-finitely (Ieee.mul binary64 x y) (mul-fits binary64 x y)
right-floats Div x y = right-real-divisor x y (Ieee.eq y (of_bits binary64 0))
right-floats Less x y = refl
right-floats Equal x y = refl

right-booleans : (o : Operation) (x y : Bool) → Right (on_booleans o x y)
unfolding on_booleans takes_booleans well_formed
right-booleans Add x y = tt
right-booleans Sub x y = tt
right-booleans Mul x y = tt
right-booleans Div x y = tt
right-booleans Less x y = tt
right-booleans Equal x y = refl

right-with-integer : (o : Operation) (x : ℤ) (w : Result ℤ Refusal) → Right (with_integer o x w)
unfolding with_integer
right-with-integer o x (Ok y) = right-integers o x y
right-with-integer o x (Err n) = tt

right-with-float : (o : Operation) (x : Ieee.Float) (w : Result Ieee.Float Refusal) → Right (with_float o x w)
unfolding with_float
right-with-float o x (Ok y) = right-floats o x y
right-with-float o x (Err n) = tt

right-with-boolean : (o : Operation) (x : Bool) (w : Result Bool Refusal) → Right (with_boolean o x w)
unfolding with_boolean
right-with-boolean o x (Ok y) = right-booleans o x y
right-with-boolean o x (Err n) = tt

right : (o : Operation) (a b : Value) → Right (operated o a b)
unfolding operated
right o (Integer x) b = right-with-integer o x (as_integer b)
right o (Float x) b = right-with-float o x (as_float b)
right o (Boolean x) b = right-with-boolean o x (as_boolean b)
right o Nil b = tt
right o (Location l) b = tt

pub operated-well-formed : (o : Operation) (a b v : Value) → operated o a b ≡ Ok v → well_formed v ≡ true
operated-well-formed o a b v e = subst Right e (right o a b)

-- OFFSET
placed : (k n : ℕ) → (if leb k 65535 then Ok k else Err NoSuchCell) ≡ Ok n → leb n 65535 ≡ true
placed k n e = chosen (leb k 65535) _ _ e (λ t p. let q : k ≡ n = cc in rw q at t) (λ t p. clash (cc))

lowered : (l m n : ℕ) (t : Bool) → ltb l (suc m) ≡ t → Integers.moved l (negsuc m) ≡ Ok n → leb n 65535 ≡ true
unfolding Integers.moved
lowered l m n true p e = let r : Err NoSuchCell ≡ Ok n = rw p at e in clash (cc)
lowered l m n false p e = placed (l - suc m) n (rw p at e)

pub moved-well-formed : (l : ℕ) (z : ℤ) (n : ℕ) → Integers.moved l z ≡ Ok n → leb n 65535 ≡ true
unfolding Integers.moved
moved-well-formed l (pos m) n e = placed (l + m) n e
moved-well-formed l (negsuc m) n e = lowered l m n (ltb l (suc m)) refl e
