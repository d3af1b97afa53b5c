-- Document 01: "Float answers are one operation of the language; a zero divisor or an answer not finite is refused." Assumes nothing.
use Rattle.std.specs.Prelude.{Float, Result, Ok, Err}
use Rattle.std.specs.Float.{binary64}
use Rattle.std.specs.Float.Ieee.{of_bits, eq, div}
use Rattle.std.specs.Float.Ieee.Scale.{finite}
use Rattle.std.specs.Prelude.{if◌then◌else◌}
use Rattle.value.specs.declared.refusals.Refusal.{Refusal}
use Rattle.value.specs.declared.refusals.Refusal.TheVariants.{OutOfRange, ZeroDivisor}

-- "an answer not finite is refused"
unfoldable pub finitely : Float → Result Float Refusal
finitely x = if finite x then Ok x else Err OutOfRange

-- "a zero divisor .. is refused": a zero of either sign equals the float whose bits are all 0
unfoldable pub quotient : Float → Float → Result Float Refusal
quotient a b = if eq b (of_bits binary64 0) then Err ZeroDivisor else finitely (div binary64 a b)
