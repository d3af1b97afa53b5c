-- Document 01: "Integer answers are exact, DIV truncates toward zero; an answer out of range or a zero divisor is refused." Assumes nothing.
use Rattle.std.specs.Prelude.{ℕ, Result, Ok, Err, Bool, ◌&&◌, ℤ, pos, negsuc, nat_abs, ◌+ℤ◌, eqb, leb}
use Rattle.std.specs.Int.Signed.{quot_z, le_z}
use Rattle.std.specs.Prelude.{if◌then◌else◌}
use Rattle.value.specs.declared.refusals.Refusal.{Refusal}
use Rattle.value.specs.declared.refusals.Refusal.TheVariants.{NoSuchCell, OutOfRange, ZeroDivisor}
use Rattle.value.specs.Range.{in_range}

-- "an answer out of range .. is refused"
unfoldable pub exactly : ℤ → Result ℤ Refusal
exactly z = if in_range z then Ok z else Err OutOfRange

-- "DIV truncates toward zero", as `quot_z` does; "a zero divisor is refused"
unfoldable pub quotient : ℤ → ℤ → Result ℤ Refusal
quotient a b = if eqb (nat_abs b) 0 then Err ZeroDivisor else exactly (quot_z a b)

-- EQUAL on integers
unfoldable pub eq_z : ℤ → ℤ → Bool
eq_z a b = le_z a b && le_z b a

-- "OFFSET: location plus integer; refused with 1 outside 0 to 65,535."
unfoldable pub moved : ℕ → ℤ → Result ℕ Refusal
moved l z = to (pos l +ℤ z)
  where
    to : ℤ → Result ℕ Refusal
    to (pos n) = if leb n 65535 then Ok n else Err NoSuchCell
    to (negsuc n) = Err NoSuchCell
