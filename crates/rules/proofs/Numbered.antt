-- A refusal's number is one of 1 to 9; and what a look at the cell pointed to finds. Assumes nothing.
use Prim.Native.Nat.{ℕ}
use mathlib.Core.Bool.{Bool, true, ◌&&◌}
use mathlib.Core.Path.{◌≡◌, refl}
use lib.Dec.{leb}
use Rattle.std.specs.Prelude.{Option, Some, None, Result, Ok, Err}
use Rattle.value.specs.declared.Value.{Value}
use Rattle.value.specs.declared.refusals.Refusal.{Refusal}
use Rattle.value.specs.declared.refusals.Refusal.TheVariants as R
use Rattle.value.specs.Refusals.{refusal_number}
use Rattle.rules.specs.declared.Kind.{Kind}
use Rattle.rules.specs.declared.Kind.TheVariants.{Icell, Mcell}
use Rattle.rules.specs.declared.Slot.{Slot}
use Rattle.rules.specs.Tests.{of_kind, cell_in}

abbrev pub nine : ℕ → Bool
nine n = leb 1 n && leb n 9

pub numbered : (r : Refusal) → nine (refusal_number r) ≡ true
numbered R.NoSuchCell = refl
numbered R.WrongCell = refl
numbered R.SlotEmpty = refl
numbered R.WrongKind = refl
numbered R.CellFull = refl
numbered R.BadSize = refl
numbered R.NoCellsLeft = refl
numbered R.NoThreadsLeft = refl
numbered R.OutOfRange = refl
numbered R.ZeroDivisor = refl

-- ---- the cell pointed to

pub data Finds (k : Kind) : Slot → Result (Option Value) Refusal → Type 0 where
  holds : {v : Value} → Finds k (Slot.Full k v) (Ok (Some v))
  lacks : Finds k (Slot.Empty k) (Ok None)
  neither : {s : Slot} {r : Refusal} → nine (refusal_number r) ≡ true → Finds k s (Err r)

pub finds : (k : Kind) (s : Slot) → Finds k s (cell_in k s)
unfolding cell_in of_kind
finds k Slot.Missing = neither refl
finds Icell (Slot.Empty Icell) = lacks
finds Icell (Slot.Empty Mcell) = neither refl
finds Mcell (Slot.Empty Icell) = neither refl
finds Mcell (Slot.Empty Mcell) = lacks
finds Icell (Slot.Full Icell v) = holds
finds Icell (Slot.Full Mcell v) = neither refl
finds Mcell (Slot.Full Icell v) = neither refl
finds Mcell (Slot.Full Mcell v) = holds
