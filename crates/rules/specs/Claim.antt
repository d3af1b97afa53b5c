-- Document 01, "Seats and shares": a claim, its cells and its threads; and what an effect does to it. Assumes nothing.
use Rattle.std.specs.Prelude.{ℕ, zero, suc, ◌+◌, ◌-◌, Bool, true, false, not, List, [], ◌∷◌, ◌++◌, map, reverse, length, take, drop, get_or, set, replicate, leb, ltb, eqb}
use Rattle.std.proofs.Math.Option.{Option, none, some}
use Rattle.std.proofs.Math.ListN.{get_elem?}
use Rattle.std.specs.Prelude.{if◌then◌else◌}
use Rattle.laws.specs.Lists.{is_none}
use Rattle.value.specs.declared.Value.{Value}
use Rattle.value.specs.declared.Value.TheVariants.{Nil}
use Rattle.value.specs.declared.refusals.Refusal.TheVariants.{NoCellsLeft, NoThreadsLeft}
use Rattle.value.specs.Refusals.{refusal_number}
use Rattle.numbers.specs.Integers.{moved}
use Rattle.rules.specs.declared.Kind.{Kind}
use Rattle.rules.specs.declared.Kind.TheVariants.{Mcell}
use Rattle.rules.specs.declared.Slot.{Slot}
use Rattle.rules.specs.declared.Thread.{Thread}
use Rattle.rules.specs.declared.Effect.{Effect}
use Rattle.rules.specs.declared.Effect.TheVariants.{Goes, Ends, Waits, Fills, Empties, Makes, Spawns, Refuses}
use Rattle.rules.specs.declared.Status.{Status}
use Rattle.rules.specs.declared.Status.TheVariants.{Vacant, Running, Finished, Deadlocked, Refused}
use Rattle.rules.specs.Decide.{View, thread}

-- "A cell is an I-cell or an M-cell, empty or full."
pub data Cell : Type 0 where
  empty : Kind → Cell
  full : Kind → Value → Cell

-- "A live thread is either in its seat's ready order or in one waiting list."
pub data Place : Type 0 where
  ready : Place
  on : ℕ → Place

pub record Live : Type 0 where
  pub thread : Thread
  pub place : Place

-- "Each has a share of cells .. and of threads ... Seat k's region of cell numbers starts at the sum of the shares before it."
pub record Seat : Type 0 where
  pub cells : ℕ
  pub threads : ℕ
  pub start : ℕ

-- One seat's claim. A vacant seat has no image; `cells` are the used ones. `row` has the live threads in the order in which each joined its present list,
-- so the ready order is the ready ones as they stand, and a cell's waiting list, newest first, those on it from the back.
-- `refusal` is 0 unless the claim is refused, and then `halted` is the place in the row of the thread that was.
pub record Claim : Type 0 where
  pub seat : Seat
  pub image : List ℕ
  pub cells : List Cell
  pub row : List Live
  pub refusal : ℕ
  pub halted : ℕ
  pub steps : ℕ

-- ---- cells

unfoldable pub found : Option Cell → Slot
found none = Slot.Missing
found (some (empty k)) = Slot.Empty k
found (some (full k v)) = Slot.Full k v

-- "Cells are reached only inside the seat's region and below its used count."
unfoldable pub look : Claim → ℕ → Slot
look c l = if leb c.seat.start l then found (get_elem? c.cells (l - c.seat.start)) else Slot.Missing

abbrev pub view : Claim → View
view c = record { at = λ l k. look c (l + k); moved = moved; fresh = c.seat.start + length c.cells }

-- the cell at a location made anew
unfoldable pub put : Claim → ℕ → Cell → List Cell
put c l x = set c.cells (l - c.seat.start) x

-- ---- the row of threads

unfoldable pub ready_in : Place → Bool
ready_in ready = true
ready_in (on l) = false

unfoldable pub waits_on : ℕ → Place → Bool
waits_on l ready = false
waits_on l (on m) = eqb l m

unfoldable pub is_ready : Live → Bool
is_ready t = ready_in t.place

unfoldable pub is_on : ℕ → Live → Bool
is_on l t = waits_on l t.place

unfoldable pub keep : (Live → Bool) → List Live → List Live
keep p [] = []
keep p (t ∷ ts) = if p t then t ∷ keep p ts else keep p ts

unfoldable pub ready_count : Claim → ℕ
ready_count c = length (keep is_ready c.row)

-- "The pick-th thread (from 0) of the seat's ready order": its place in the row
unfoldable pub seek : List Live → ℕ → ℕ
seek [] n = 0
seek (t ∷ ts) zero = if is_ready t then 0 else suc (seek ts zero)
seek (t ∷ ts) (suc n) = if is_ready t then suc (seek ts n) else suc (seek ts (suc n))

abbrev pub nobody : Live
nobody = record { thread = thread 0 0 Nil; place = ready }

abbrev pub thread_at : Claim → ℕ → Thread
thread_at c i = (get_or c.row i nobody).thread

unfoldable pub without : List Live → ℕ → List Live
without row i = take i row ++ drop (suc i) row

abbrev pub readied : Thread → Live
readied t = record { thread = t; place = ready }

abbrev pub waiting : ℕ → Thread → Live
waiting l t = record { thread = t; place = on l }

-- "append all its waiters to the ready order, newest first"
unfoldable pub wake : ℕ → List Live → List Live
wake l row = keep (λ t. not (is_on l t)) row ++ map (λ t. readied t.thread) (reverse (keep (is_on l) row))

-- ---- an effect

-- "then room": "They fail for room exactly if used + size exceeds the share"; "refused for room exactly if live threads equal the share"
unfoldable pub room : Claim → Effect → Effect
room c (Goes t) = Goes t
room c Ends = Ends
room c (Waits t l) = Waits t l
room c (Fills t k l v) = Fills t k l v
room c (Empties t l) = Empties t l
room c (Makes t k n) = if leb (length c.cells + n) c.seat.cells then Makes t k n else Refuses (refusal_number NoCellsLeft)
room c (Spawns t new) = if eqb (length c.row) c.seat.threads then Refuses (refusal_number NoThreadsLeft) else Spawns t new
room c (Refuses n) = Refuses n

-- the claim with other cells and another row, one step on
abbrev pub stepped : Claim → List Cell → List Live → Claim
stepped c cells row =
    record {
      seat = c.seat;
      image = c.image;
      cells = cells;
      row = row;
      refusal = c.refusal;
      halted = c.halted;
      steps = suc c.steps;
    }

-- the effect of the thread at place i of the row: it "keeps its place unless it ends or waits"
unfoldable pub perform : Effect → ℕ → Claim → Claim
perform (Goes t) i c = stepped c c.cells (set c.row i (readied t))
perform Ends i c = stepped c c.cells (without c.row i)
perform (Waits t l) i c = stepped c c.cells (without c.row i ++ waiting l t ∷ [])
perform (Fills t k l v) i c = stepped c (put c l (full k v)) (wake l (set c.row i (readied t)))
perform (Empties t l) i c = stepped c (put c l (empty Mcell)) (set c.row i (readied t))
perform (Makes t k n) i c = stepped c (c.cells ++ replicate n (empty k)) (set c.row i (readied t))
perform (Spawns t new) i c = stepped c c.cells (set c.row i (readied t) ++ readied new ∷ [])
-- "A refused instruction sets status, refusal and position and adds its step, nothing else; its thread stays where it was."
perform (Refuses n) i c =
    record {
      seat = c.seat;
      image = c.image;
      cells = c.cells;
      row = c.row;
      refusal = n;
      halted = i;
      steps = suc c.steps;
    }

-- ---- status

-- "0 vacant; 4 refused; else 1 running (some thread ready), 2 finished (no live thread), 3 deadlocked (none ready, some waiting)."
unfoldable pub status_of : Claim → Status
status_of c =
    if is_none c.image then Vacant else
    (if not (eqb c.refusal 0) then Refused else
    (if ltb 0 (ready_count c) then Running else
    (if is_none c.row then Finished else Deadlocked)))

unfoldable pub status_number : Status → ℕ
status_number Vacant = 0
status_number Running = 1
status_number Finished = 2
status_number Deadlocked = 3
status_number Refused = 4
