-- Document 01: "Numbers are little-endian." Assumes nothing.
use Rattle.std.specs.Prelude.{ℕ, ◌+◌, ◌*◌, ◌<◌, List, [], ◌∷◌, get_or}

unfoldable pub number : List ℕ → ℕ
number [] = 0
number (b ∷ bs) = b + 256 * number bs

-- byte i of a body; one of two bytes from i on; one of eight
abbrev pub byte_in : List ℕ → ℕ → ℕ
byte_in body i = get_or body i 0

abbrev pub pair_in : List ℕ → ℕ → ℕ
pair_in body i = number (byte_in body i ∷ byte_in body (i + 1) ∷ [])

unfoldable pub word_in : List ℕ → ℕ
word_in body =
    number
    (byte_in body 0 ∷ byte_in body 1 ∷ byte_in body 2 ∷ byte_in body 3 ∷ byte_in body 4 ∷ byte_in body 5 ∷ byte_in body 6 ∷ byte_in body 7 ∷ [])

-- every element is a byte
abbrev pub Bytes : List ℕ → Type 0
Bytes body = (i : ℕ) → byte_in body i < 256
