-- What is written to a lent slice, as a list. Assumes nothing.
use Rattle.std.specs.Prelude.{ℕ, zero, suc, ◌+◌, Bool, List, ◌++◌, length, set, drop, replicate, eqb, leb}
use Rattle.std.specs.Prelude.{if◌then◌else◌}

-- v at a, a + 1, .., n of them; past the end nothing is written
unfoldable pub filled_from : {A : Type 0} → ℕ → ℕ → A → List A → List A
filled_from a zero v s = s
filled_from a (suc n) v s = set (filled_from a n v s) (a + n) v

-- one value everywhere
unfoldable pub wiped : {A : Type 0} → A → List A → List A
wiped v s = replicate (length s) v

unfoldable pub is_zero : ℕ → Bool
is_zero n = eqb n 0

-- one list over the front of another, if it fits
unfoldable pub overlaid : {A : Type 0} → List A → List A → List A
overlaid from to = if leb (length from) (length to) then from ++ drop (length from) to else to
