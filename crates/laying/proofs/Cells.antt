-- The cells, laid out: what a thread sees of them, and what an effect makes of them. Assumes nothing.
use Prim.Native.Nat.{ℕ, ◌+◌, ◌-◌, ◌/◌, ◌%◌, ◌≤◌, ◌<◌}
use native.Mathlib.Omega.{arith}
use mathlib.Core.Path.{◌≡◌, refl, ap, ◌∙◌, fun_ext}
use mathlib.Core.Bool.{Bool, true, false, ◌&&◌}
use mathlib.Core.Option.{some}
use mathlib.Core.List.{List}
use lib.Dec.{ltb, leb, eqb}
use lib.ListN.{length, get_or, get_elem?}
use borrow.Author.Tests.{eq-eqb, ne_eqb, le-leb, lt-ltb, ltb-true, ltb-false}
use Rattle.std.specs.Prelude.{if◌then◌else◌}
use Rattle.laws.proofs.Every.{all-get}
use Rattle.laws.proofs.Lists.{get-some, get_none}
use Rattle.value.specs.declared.Value.{Value}
use Rattle.value.specs.declared.Value.TheVariants.{Integer, Float, Boolean, Nil, Location}
use Rattle.value.specs.Coding.{tag_of, decoded, held_at}
use Rattle.value.proofs.RoundTrip.{decode-encode}
use Rattle.numbers.specs.Integers.{moved}
use Rattle.rules.specs.declared.Kind.{Kind}
use Rattle.rules.specs.declared.Kind.TheVariants.{Icell, Mcell}
use Rattle.rules.specs.declared.Slot.{Slot}
use Rattle.rules.specs.declared.Slot.TheVariants.{Missing, Empty}
use Rattle.rules.specs.declared.Effect.{Effect}
use Rattle.rules.specs.declared.Effect.TheVariants.{Goes, Ends, Waits, Fills, Empties, Makes, Spawns, Refuses}
use Rattle.rules.specs.Claim.{Claim, Cell, empty, full, found, look, view, put, perform}
use Rattle.rules.specs.Sound.{cell_sound}
use Rattle.cells.specs.Lent.{kind_bit, kind_in, tag_for, filled, slot_at, look_on, fresh_on, view_on}
use Rattle.cells.specs.Written.{tags_after, words_after}
use Rattle.laying.specs.Laid.{spread, cell_tag, cell_word}
use Rattle.laying.proofs.Spread.{length-spread, spread-get, spread-below, spread-run, spread-still}
use Rattle.laying.proofs.Fitting.{Fit, Roomy}

-- a value's tag, below the kind's bit
pub record Tagged (t : ℕ) : Type 0 where
  pub low : 1 ≤ t
  pub high : t < 8

pub tagged : (v : Value) → Tagged (tag_of v)
unfolding tag_of
tagged (Integer z) = record { low = omega arith; high = omega arith }
tagged (Float x) = record { low = omega arith; high = omega arith }
tagged (Boolean b) = record { low = omega arith; high = omega arith }
tagged Nil = record { low = omega arith; high = omega arith }
tagged (Location l) = record { low = omega arith; high = omega arith }

-- a cell's slot, by its tag and its word alone
unfoldable pub slot_as : ℕ → ℕ → Slot
slot_as tag word = if eqb (tag % 8) 0 then Empty (kind_in tag) else filled (kind_in tag) (decoded (tag % 8) word)

pub slot-at : (tags words : List ℕ) (i : ℕ) → i < length tags → i < length words → slot_at tags words i ≡ slot_as (get_or tags i 0) (get_or words i 0)
unfolding slot_at slot_as held_at
slot-at tags words i h k = rw (lt-ltb i (length tags) h, lt-ltb i (length words) k)

pub low_bits : (k : Kind) (t : ℕ) → t < 8 → (t + kind_bit k) % 8 ≡ t
unfolding kind_bit
low_bits Icell t h = omega arith
low_bits Mcell t h = omega arith

pub kind-back : (k : Kind) (t : ℕ) → t < 8 → kind_in (t + kind_bit k) ≡ k
unfolding kind_bit kind_in
kind-back Icell t h = rw (eq-eqb ((t + 0) / 8 % 2) 0 (omega arith))
kind-back Mcell t h = rw (ne_eqb ((t + 8) / 8 % 2) 0 (λ e. omega arith))

pub slot-back : (x : Cell) → cell_sound x ≡ true → slot_as (cell_tag x) (cell_word x) ≡ found (some x)
unfolding slot_as cell_tag cell_word found tag_for filled cell_sound kind_bit kind_in
slot-back (empty Icell) h = refl
slot-back (empty Mcell) h = refl
slot-back (full k v) h =
    let t = tagged v in
    let b = t.high in
    rw (low_bits k (tag_of v) b, kind-back k (tag_of v) b, ne_eqb (tag_of v) 0 (λ e. omega arith), decode-encode v h)

module _ (c : Claim) (f : Fit c) where
  abbrev Tags : List ℕ
  Tags = spread cell_tag c.seat.cells c.cells

  abbrev Words : List ℕ
  Words = spread cell_word c.seat.cells c.cells

  pub at-cell : (i : ℕ) (b : Bool) → ltb i (length c.cells) ≡ b → (if b then slot_at Tags Words i else Missing) ≡ found (get_elem? c.cells i)
  unfolding found
  at-cell i true e =
      let l = ltb-true i (length c.cells) e in
      let u = f.used in
      let a = length-spread cell_tag c.seat.cells c.cells u in
      let b = length-spread cell_word c.seat.cells c.cells u in
      slot-at Tags Words i (omega arith) (omega arith)
      ∙ rw (spread-get cell_tag _ c.cells i (empty Icell) l, spread-get cell_word _ c.cells i (empty Icell) l, get-some c.cells i (empty Icell) l)
      (slot-back (get_or c.cells i (empty Icell)) (all-get i (empty Icell) f.cells l))
  at-cell i false e = rw (get_none c.cells i (ltb-false i (length c.cells) e))

  pub look-same : (l : ℕ) → look_on Tags Words (length c.cells) c.seat.start l ≡ look c l
  unfolding look_on look
  look-same l = by (leb c.seat.start l)
    where
      i : ℕ
      i = l - c.seat.start

      by : (b : Bool) → (if b && ltb i (length c.cells) then slot_at Tags Words i else Missing) ≡ (if b then found (get_elem? c.cells i) else Missing)
      by true = at-cell i (ltb i (length c.cells)) refl
      by false = refl

  pub view-same : view_on Tags Words (length c.cells) c.seat.start ≡ view c
  unfolding fresh_on
  view-same =
      let a = f.used in
      let b = f.region in
      rw (le-leb (c.seat.start + length c.cells) 65535 (omega arith))
      (ap (λ (g : ℕ → ℕ → Slot). record { at = g; moved = moved; fresh = c.seat.start + length c.cells }) (fun_ext (λ l. fun_ext (λ k. look-same (l + k)))))

  -- the thread at i of the row has an effect
  module _ (i : ℕ) where
    pub tags-same : (e : Effect) → Roomy c e → tags_after e (length c.cells) c.seat.start Tags ≡ spread cell_tag c.seat.cells (perform e i c).cells
    unfolding tags_after perform put cell_tag
    tags-same (Goes t) r = refl
    tags-same Ends r = refl
    tags-same (Waits t l) r = refl
    tags-same (Fills t k l v) r = spread-below cell_tag c.seat.cells c.cells (l - c.seat.start) (full k v)
    tags-same (Empties t l) r = spread-below cell_tag c.seat.cells c.cells (l - c.seat.start) (empty Mcell)
    tags-same (Makes t k n) r = spread-run cell_tag c.seat.cells c.cells n (empty k) r
    tags-same (Spawns t new) r = refl
    tags-same (Refuses n) r = refl

    pub words_same : (e : Effect) → Roomy c e → words_after e (length c.cells) c.seat.start Words ≡ spread cell_word c.seat.cells (perform e i c).cells
    unfolding words_after perform put cell_word
    words_same (Goes t) r = refl
    words_same Ends r = refl
    words_same (Waits t l) r = refl
    words_same (Fills t k l v) r = spread-below cell_word c.seat.cells c.cells (l - c.seat.start) (full k v)
    words_same (Empties t l) r = spread-below cell_word c.seat.cells c.cells (l - c.seat.start) (empty Mcell)
    words_same (Makes t k n) r = spread-still cell_word c.seat.cells c.cells n (empty k) refl r
    words_same (Spawns t new) r = refl
    words_same (Refuses n) r = refl
