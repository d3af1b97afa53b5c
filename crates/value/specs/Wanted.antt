-- Document 01, "Instructions": "its value has the kind wanted". Assumes nothing.
use Rattle.std.specs.Prelude.{ℕ, Bool, ℤ, Float}
use Rattle.std.specs.Prelude.{Result, Ok, Err}
use Rattle.value.specs.declared.Value.{Value}
use Rattle.value.specs.declared.Value.TheVariants.{Integer, Boolean, Nil, Location}
use Rattle.value.specs.declared.refusals.Refusal.{Refusal}
use Rattle.value.specs.declared.refusals.Refusal.TheVariants.{WrongKind}

unfoldable pub as_integer : Value → Result ℤ Refusal
as_integer (Integer z) = Ok z
as_integer (Value.Float x) = Err WrongKind
as_integer (Boolean b) = Err WrongKind
as_integer Nil = Err WrongKind
as_integer (Location l) = Err WrongKind

unfoldable pub as_float : Value → Result Float Refusal
as_float (Integer z) = Err WrongKind
as_float (Value.Float x) = Ok x
as_float (Boolean b) = Err WrongKind
as_float Nil = Err WrongKind
as_float (Location l) = Err WrongKind

unfoldable pub as_boolean : Value → Result Bool Refusal
as_boolean (Integer z) = Err WrongKind
as_boolean (Value.Float x) = Err WrongKind
as_boolean (Boolean b) = Ok b
as_boolean Nil = Err WrongKind
as_boolean (Location l) = Err WrongKind

unfoldable pub as_location : Value → Result ℕ Refusal
as_location (Integer z) = Err WrongKind
as_location (Value.Float x) = Err WrongKind
as_location (Boolean b) = Err WrongKind
as_location Nil = Err WrongKind
as_location (Location l) = Ok l
