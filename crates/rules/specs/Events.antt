-- What the theorems say of one event: what the number in its reply says of the claim and of its steps, and which events unload. Assumes nothing.
use Rattle.std.specs.Prelude.{ℕ, suc, Bool, true, false, leb, eqb}
use Rattle.rules.specs.Calls.{Event, picks, loads, asks, clears}

-- whether an event that was answered by n changed the claim: an entry that ran, a load and a clearing that went through
unfoldable pub changes : Event → ℕ → Bool
changes (picks p) n = leb n 3
changes (loads image) n = eqb n 0
changes asks n = false
changes clears n = eqb n 0

-- the steps after such an event: one more after an entry, none after a load or a clearing
unfoldable pub counts : Event → ℕ → ℕ
counts (picks p) s = suc s
counts (loads image) s = 0
counts asks s = s
counts clears s = 0

unfoldable pub unloads : Event → Bool
unloads (picks p) = false
unloads (loads image) = false
unloads asks = false
unloads clears = true
