-- What a claim sees of its cells, and which stay empty when others are made. Assumes nothing.
use Prim.Native.Nat.{ℕ, zero, suc, ◌-◌}
use mathlib.Core.Path.{◌≡◌, ap, ◌∙◌}
use mathlib.Core.Logic.{◌≢◌}
use mathlib.Core.Bool.{true}
use mathlib.Core.List.{List, ◌++◌}
use lib.ListN.{length, get_elem?, length-set}
use lib.Dec.{leb}
use Rattle.laws.proofs.Absurd.{clash}
use Rattle.laws.proofs.Choice.{either_way}
use Rattle.laws.proofs.Every.{All, all_nil, all_cons, all_set}
use Rattle.rules.specs.declared.Slot.TheVariants.{Missing}
use Rattle.rules.specs.Claim.{Claim, Cell, empty, full, Live, found, look, put, stepped}
use Rattle.rules.specs.Sound.{cell_sound, is_empty}
use Rattle.rules.proofs.Looks.{look-same, look-put, look-more}
use Rattle.soundness.proofs.Tests.{Seen}

abbrev pub CellsSound : List Cell → Type 0
CellsSound cells = All (λ x. cell_sound x ≡ true) cells

abbrev pub EmptyIn : Claim → ℕ → Type 0
EmptyIn c l = is_empty (look c l) ≡ true

-- what is seen is well formed
found-seen : {cells : List Cell} (i : ℕ) → CellsSound cells → Seen (found (get_elem? cells i))
unfolding found cell_sound
found-seen i all_nil = tt
found-seen zero (all_cons {x = empty k} p h) = tt
found-seen zero (all_cons {x = full k v} p h) = p
found-seen (suc i) (all_cons p h) = found-seen i h

pub look-seen : (c : Claim) → CellsSound c.cells → (l : ℕ) → Seen (look c l)
unfolding look
look-seen c h l = either_way Seen (leb c.seat.start l) (λ _. found-seen (l - c.seat.start) h) (λ _. tt)

-- a cell made anew
pub length-put : (c : Claim) (l : ℕ) (x : Cell) → length (put c l x) ≡ length c.cells
unfolding put
length-put c l x = length-set c.cells (l - c.seat.start) x

pub put-sound : (c : Claim) (l : ℕ) (x : Cell) → CellsSound c.cells → cell_sound x ≡ true → CellsSound (put c l x)
unfolding put
put-sound c l x h p = all_set (l - c.seat.start) x h p

-- an empty cell stays so if another is made anew, and if more are made
module _ (c : Claim) (m : ℕ) (e : EmptyIn c m) where
  there : look c m ≢ Missing
  unfolding is_empty
  there q = clash (let f : is_empty Missing ≡ true = rw q at e in cc)

  pub still-empty : (d : Claim) → d.seat.start ≡ c.seat.start → d.cells ≡ c.cells → EmptyIn d m
  still-empty d p q = ap is_empty (look-same c d m p q) ∙ e

  pub empty-beside : (l : ℕ) (x : Cell) (row : List Live) → look c l ≢ Missing → m ≢ l → EmptyIn (stepped c (put c l x) row) m
  empty-beside l x row h n = ap is_empty (look-put c m l x row h n) ∙ e

  pub empty-more : (more : List Cell) (row : List Live) → EmptyIn (stepped c (c.cells ++ more) row) m
  empty-more more row = ap is_empty (look-more c m more row there) ∙ e
