-- What of a sound claim its laying out leans on. Assumes nothing.
use Prim.Native.Nat.{ℕ, ◌+◌, ◌≤◌, ◌<◌}
use native.Mathlib.Omega.{arith}
use mathlib.Core.Path.{◌≡◌}
use mathlib.Core.Bool.{true}
use lib.Dec.{leb, eqb}
use lib.ListN.{length}
use borrow.Author.Tests.{leb-true, eqb-false}
use Rattle.laws.proofs.Choice.{either_way}
use Rattle.laws.proofs.Every.{All, all-also}
use Rattle.value.specs.Range.{well_formed}
use Rattle.rules.specs.declared.Thread.{Thread}
use Rattle.rules.specs.declared.Effect.{Effect}
use Rattle.rules.specs.declared.Effect.TheVariants.{Goes, Ends, Waits, Fills, Empties, Makes, Spawns, Refuses}
use Rattle.rules.specs.Claim.{Claim, Place, ready, on, Live, room}
use Rattle.rules.specs.Turn.{effect_at}
use Rattle.soundness.proofs.Cells.{CellsSound}

-- a thread whose parts have room in a record
pub record Held (t : Thread) : Type 0 where
  pub position : t.position < 65536
  pub frame : t.frame < 65536
  pub acc : well_formed t.acc ≡ true

-- a place that has a number of its own
abbrev pub Numbered : Place → Type 0
Numbered ready = Unit {0}
Numbered (on l) = l < 65534

pub record Placed (t : Live) : Type 0 where
  pub place : Numbered t.place

pub record Lives (t : Live) : Type 0 where
  pub thread : Held t.thread
  pub placed : Placed t

pub record Fit (c : Claim) : Type 0 where
  pub cells : CellsSound c.cells
  pub row : All Lives c.row
  pub used : length c.cells ≤ c.seat.cells
  pub live : length c.row ≤ c.seat.threads
  pub region : c.seat.start + c.seat.cells ≤ 65534
  pub threads : c.seat.threads ≤ 32
  pub steps : c.steps < 4294967296
  pub image : length c.image ≤ 4096

-- what an effect makes has room
abbrev pub Roomy : Claim → Effect → Type 0
Roomy c (Goes t) = Unit {0}
Roomy c Ends = Unit {0}
Roomy c (Waits t l) = Unit {0}
Roomy c (Fills t k l v) = Unit {0}
Roomy c (Empties t l) = Unit {0}
Roomy c (Makes t k n) = length c.cells + n ≤ c.seat.cells
Roomy c (Spawns t new) = length c.row < c.seat.threads
Roomy c (Refuses n) = Unit {0}

pub all_placed : (c : Claim) → Fit c → All Placed c.row
all_placed c f = all-also (λ (t : Live) (h : Lives t). h.placed) f.row

pub live-32 : (c : Claim) → Fit c → length c.row ≤ 32
live-32 c f = let a = f.live in let b = f.threads in omega arith

-- the next effect of a thread has room
room-for : (c : Claim) → length c.row ≤ c.seat.threads → (e : Effect) → Roomy c (room c e)
unfolding room
room-for c h (Goes t) = tt
room-for c h Ends = tt
room-for c h (Waits t l) = tt
room-for c h (Fills t k l v) = tt
room-for c h (Empties t l) = tt
room-for c h (Makes t k n) = either_way (Roomy c) (leb (length c.cells + n) c.seat.cells) (λ e. leb-true _ _ e) (λ _. tt)
room-for c h (Spawns t new) = either_way (Roomy c) (eqb (length c.row) c.seat.threads) (λ _. tt) (λ e. let n = eqb-false (length c.row) c.seat.threads e in omega arith)
room-for c h (Refuses n) = tt

pub has_room : (c : Claim) → Fit c → (i : ℕ) → Roomy c (effect_at c i)
unfolding effect_at
has_room c f i = room-for c f.live _
