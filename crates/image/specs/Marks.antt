-- A row of marks, 1 at each place where an instruction starts: how the reader finds bad targets. Nothing else leans on it. Assumes nothing.
use Rattle.std.specs.Prelude.{ℕ, zero, suc, ◌+◌, Bool, true, ◌&&◌, List, [], ◌∷◌, length, get_or, set, replicate, eqb}
use Rattle.image.specs.Records.{step_at}
use Rattle.std.specs.Prelude.{Ok, Err}

unfoldable pub marks_from : ℕ → List ℕ → ℕ → List ℕ → List ℕ
marks_from zero l at row = row
marks_from (suc k) l at row = elim (step_at l at) [ Err e ↦ row | Ok (i, m) ↦ marks_from k l m (set row at 1) ]

unfoldable pub marks : List ℕ → ℕ → List ℕ
marks l code = marks_from (suc (length l)) l code (replicate 4096 0)

unfoldable pub marked : List ℕ → ℕ → ℕ → Bool
marked row code p = eqb (get_or row (code + p) 0) 1

unfoldable pub all_marked : List ℕ → ℕ → List ℕ → Bool
all_marked row code [] = true
all_marked row code (p ∷ ps) = marked row code p && all_marked row code ps
