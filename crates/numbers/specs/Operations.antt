-- Document 01: "Arithmetic and LESS want two integers or two floats: slot s any number, slot t the kind that s has. .. LESS gives a boolean.
-- EQUAL also takes two booleans, never nil or locations." Assumes nothing.
use Rattle.std.specs.Prelude.{Result, Ok, Err, Bool, true, false, ℤ, ◌+ℤ◌, ◌-ℤ◌, ◌*ℤ◌, Float}
use Rattle.std.specs.Bool.{beq}
use Rattle.std.specs.Int.Signed.{lt_z}
use Rattle.std.specs.Float.Ieee as Ieee
use Rattle.std.specs.Float.{binary64}
use Rattle.std.specs.Prelude.{if◌then◌else◌}
use Rattle.value.specs.Wanted.{as_integer, as_float, as_boolean}
use Rattle.value.specs.declared.Value.{Value}
use Rattle.value.specs.declared.refusals.Refusal.{Refusal}
use Rattle.value.specs.declared.refusals.Refusal.TheVariants.{WrongKind}
use Rattle.numbers.specs.declared.Operation.{Operation}
use Rattle.numbers.specs.declared.Operation.TheVariants.{Add, Sub, Mul, Div, Less, Equal}
use Rattle.numbers.specs.Integers as Integers
use Rattle.numbers.specs.Floats as Floats

-- an answer on integers, or on floats, as an answer
unfoldable pub whole : Result ℤ Refusal → Result Value Refusal
whole (Ok z) = Ok (Value.Integer z)
whole (Err n) = Err n

unfoldable pub real : Result Float Refusal → Result Value Refusal
real (Ok x) = Ok (Value.Float x)
real (Err n) = Err n

unfoldable pub on_integers : Operation → ℤ → ℤ → Result Value Refusal
on_integers Add x y = whole (Integers.exactly (x +ℤ y))
on_integers Sub x y = whole (Integers.exactly (x -ℤ y))
on_integers Mul x y = whole (Integers.exactly (x *ℤ y))
on_integers Div x y = whole (Integers.quotient x y)
on_integers Less x y = Ok (Value.Boolean (lt_z x y))
on_integers Equal x y = Ok (Value.Boolean (Integers.eq_z x y))

unfoldable pub on_floats : Operation → Float → Float → Result Value Refusal
on_floats Add x y = real (Floats.finitely (Ieee.add binary64 x y))
on_floats Sub x y = real (Floats.finitely (Ieee.sub binary64 x y))
on_floats Mul x y = real (Floats.finitely (Ieee.mul binary64 x y))
on_floats Div x y = real (Floats.quotient x y)
on_floats Less x y = Ok (Value.Boolean (Ieee.lt x y))
on_floats Equal x y = Ok (Value.Boolean (Ieee.eq x y))

-- "EQUAL also takes two booleans"
unfoldable pub takes_booleans : Operation → Bool
takes_booleans Add = false
takes_booleans Sub = false
takes_booleans Mul = false
takes_booleans Div = false
takes_booleans Less = false
takes_booleans Equal = true

unfoldable pub on_booleans : Operation → Bool → Bool → Result Value Refusal
on_booleans o x y = if takes_booleans o then Ok (Value.Boolean (beq x y)) else Err WrongKind

-- "slot s any number": what is tested before slot t is read
unfoldable pub takes_first : Operation → Value → Bool
takes_first o (Value.Integer x) = true
takes_first o (Value.Float x) = true
takes_first o (Value.Boolean b) = takes_booleans o
takes_first o Value.Nil = false
takes_first o (Value.Location l) = false

-- "slot t the kind that s has"
unfoldable pub with_integer : Operation → ℤ → Result ℤ Refusal → Result Value Refusal
with_integer o x (Ok y) = on_integers o x y
with_integer o x (Err n) = Err n

unfoldable pub with_float : Operation → Float → Result Float Refusal → Result Value Refusal
with_float o x (Ok y) = on_floats o x y
with_float o x (Err n) = Err n

unfoldable pub with_boolean : Operation → Bool → Result Bool Refusal → Result Value Refusal
with_boolean o x (Ok y) = on_booleans o x y
with_boolean o x (Err n) = Err n

unfoldable pub operated : Operation → Value → Value → Result Value Refusal
operated o (Value.Integer x) b = with_integer o x (as_integer b)
operated o (Value.Float x) b = with_float o x (as_float b)
operated o (Value.Boolean x) b = with_boolean o x (as_boolean b)
operated o Value.Nil b = Err WrongKind
operated o (Value.Location l) b = Err WrongKind
