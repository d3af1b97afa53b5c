-- What an opening writes, over lists of numbers. Assumes nothing.
use Rattle.std.specs.Prelude.{ℕ, ◌+◌, ◌*◌, List, [], ◌∷◌, set}
use Rattle.rules.specs.Calls.{Share}

-- the two shares of each seat, from seat k on, written over a book
unfoldable pub shares_over : ℕ → List Share → List ℕ → List ℕ
shares_over k [] b = b
shares_over k (s ∷ ss) b = shares_over (k + 1) ss (set (set b (k * 9) s.cells) (k * 9 + 1) s.threads)
