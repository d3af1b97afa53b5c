-- Where a seat's parts lie in the lent state. Assumes nothing.
use Rattle.std.specs.Prelude.{ℕ, zero, suc, ◌+◌, ◌*◌, ◌-◌, ◌≤◌, ◌≡◌, List, ◌++◌, get_or, take, drop, ltb, eqb, Option, Some, None}
use Rattle.std.specs.Prelude.{if◌then◌else◌}
use Rattle.laying.specs.Laid.{Parts}
use Rattle.state.specs.declared.seats.Region.{Region}
use Rattle.state.specs.State.{State, state}

-- "Seat k's region of cell numbers starts at the sum of the shares before it."
unfoldable pub base_of : List ℕ → ℕ → ℕ
base_of book zero = 0
base_of book (suc k) = base_of book k + get_or book (k * 9) 0

-- what a sum of k shares is
pub record Base (book : List ℕ) (k r : ℕ) : Type 0 where
  pub same : r ≡ base_of book k
  pub small : r ≤ k * 4294967296

abbrev pub region : ℕ → ℕ → Region
region a e = record { start = a; end = e }

-- seat k's region, from its first cell to behind its last, if there is such a seat
unfoldable pub region_in : List ℕ → ℕ → Option Region
region_in book k =
    if ltb k 8 then (if eqb (get_or book (k * 9) 0) 0 then None else Some (region (base_of book k) (base_of book k + get_or book (k * 9) 0))) else None

-- the part of l from a to e, and l with p in its place
abbrev pub cut : ℕ → ℕ → List ℕ → List ℕ
cut a e l = take (e - a) (drop a l)

abbrev pub splice : ℕ → ℕ → List ℕ → List ℕ → List ℕ
splice a e p l = take a l ++ (p ++ drop (e - a) (drop a l))

-- seat k's parts, its cells from a to e
abbrev pub parts_at : State → ℕ → ℕ → ℕ → Parts
parts_at s k a e =
    state (cut (k * 9) (k * 9 + 9) s.book) (cut a e s.tags) (cut a e s.words) (cut (k * 32) (k * 32 + 32) s.heads)
    (cut (k * 32) (k * 32 + 32) s.accs) (cut (k * 4096) (k * 4096 + 4096) s.image)

abbrev pub put_parts : State → ℕ → ℕ → ℕ → Parts → State
put_parts s k a e p =
    state (splice (k * 9) (k * 9 + 9) p.book s.book) (splice a e p.tags s.tags) (splice a e p.words s.words)
    (splice (k * 32) (k * 32 + 32) p.heads s.heads) (splice (k * 32) (k * 32 + 32) p.accs s.accs)
    (splice (k * 4096) (k * 4096 + 4096) p.image s.image)
