-- What is seen of a cell after another is made anew, and after more are made. Assumes nothing.
use Prim.Native.Nat.{ℕ, ◌-◌, ◌≤◌}
use native.Mathlib.Omega.{arith}
use mathlib.Core.Bool.{Bool, true, false}
use mathlib.Core.Path.{◌≡◌, refl, ap}
use mathlib.Core.Logic.{◌≢◌}
use mathlib.Core.Option.{Option, none, some}
use mathlib.Core.List.{List, ◌++◌}
use lib.ListN.{get_elem?, set}
use lib.Dec.{leb}
use borrow.Author.Tests.{leb-true}
use Rattle.std.specs.Prelude.{if◌then◌else◌}
use Rattle.laws.proofs.Choice.{either_way}
use Rattle.laws.proofs.Elements.{at_set_other, at-append}
use Rattle.rules.specs.declared.Slot.{Slot}
use Rattle.rules.specs.Claim.{Claim, Cell, Live, found, look, put, stepped}

module _ (c : Claim) where
  -- a cell that is found lies in the seat's region
  pub look-inside : (l : ℕ) → look c l ≢ Slot.Missing → c.seat.start ≤ l
  unfolding look
  look-inside l =
      either_way (λ (s : Slot). s ≢ Slot.Missing → c.seat.start ≤ l) (leb c.seat.start l) (λ e _. leb-true c.seat.start l e) (λ _ n. absurd (n refl))

  -- the same cells, whatever else changed
  pub look-same : (d : Claim) (l : ℕ) → d.seat.start ≡ c.seat.start → d.cells ≡ c.cells → look d l ≡ look c l
  unfolding look
  look-same d l p q = rw (p, q)

  -- another cell made anew
  pub look-put : (l m : ℕ) (x : Cell) (row : List Live) → look c m ≢ Slot.Missing → l ≢ m → look (stepped c (put c m x) row) l ≡ look c l
  unfolding look put
  look-put l m x row h n = go (leb c.seat.start l) refl
    where
      go : (b : Bool) → leb c.seat.start l ≡ b
          → (if b then found (get_elem? (set c.cells (m - c.seat.start) x) (l - c.seat.start)) else Slot.Missing)
          ≡ (if b then found (get_elem? c.cells (l - c.seat.start)) else Slot.Missing)
      go true e =
          let i = look-inside m h in
          let j = leb-true c.seat.start l e in
          ap found (at_set_other c.cells _ _ x (λ q. n (omega arith)))
      go false e = refl

  -- more cells behind
  pub look-more : (l : ℕ) (more : List Cell) (row : List Live) → look c l ≢ Slot.Missing → look (stepped c (c.cells ++ more) row) l ≡ look c l
  unfolding look found
  look-more l more row = go (leb c.seat.start l) (get_elem? c.cells (l - c.seat.start)) refl
    where
      go : (b : Bool) (o : Option Cell) → get_elem? c.cells (l - c.seat.start) ≡ o → (if b then found o else Slot.Missing) ≢ Slot.Missing
          → (if b then found (get_elem? (c.cells ++ more) (l - c.seat.start)) else Slot.Missing) ≡ (if b then found o else Slot.Missing)
      go true none e n = absurd (n refl)
      go true (some x) e n = ap found (at-append c.cells more _ e)
      go false o e n = refl
