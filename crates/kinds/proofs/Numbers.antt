-- A number of two, four or eight bytes, as the code adds them up, and its bound. Assumes nothing.
use Prim.Native.Nat.{ℕ, ◌^◌, ◌<◌}
use native.Mathlib.Omega.{arith}
use mathlib.Core.Path.{◌≡◌}
use mathlib.Core.List.{List, [], ◌∷◌}
use Rattle.std.specs.Int.{w16, w64, from_le_bytes}
use Rattle.kinds.specs.Bytes.{Bytes, number, word_in}

pub pair : (a b : ℕ) → from_le_bytes w16 (a ∷ b ∷ []) ≡ number (a ∷ b ∷ [])
unfolding number
pair a b = omega arith

pub word : (a b c d e f g h : ℕ) → from_le_bytes w64 (a ∷ b ∷ c ∷ d ∷ e ∷ f ∷ g ∷ h ∷ []) ≡ number (a ∷ b ∷ c ∷ d ∷ e ∷ f ∷ g ∷ h ∷ [])
unfolding number
word a b c d e f g h = omega arith

pub word_below : (body : List ℕ) → Bytes body → word_in body < 2 ^ 64
unfolding word_in number
word_below body h = omega (arith, h 0, h 1, h 2, h 3, h 4, h 5, h 6, h 7)
