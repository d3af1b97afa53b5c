-- A claim read from its parts: what its threads see of its cells, how many there are of each, and its refusal, by the parts themselves. Assumes nothing.
use Prim.Native.Nat.{ℕ, zero, suc, ◌-◌, ◌≤◌, ◌<◌}
use native.Mathlib.Omega.{arith}
use mathlib.Core.Path.{◌≡◌, refl, sym, ap, ◌∙◌, fun_ext}
use mathlib.Core.Bool.{Bool, true, false, ◌&&◌}
use mathlib.Core.List.{List, [], ◌∷◌}
use lib.Dec.{leb, ltb, eqb}
use lib.ListN.{length, get_or, get_elem?}
use borrow.Author.Tests.{ltb-true, ltb-false}
use Rattle.std.specs.Prelude.{if◌then◌else◌}
use Rattle.laws.proofs.Absurd.{below-zero}
use Rattle.laws.proofs.Every.{all-get}
use Rattle.laws.proofs.Lists.{get-some, get_none}
use Rattle.value.specs.Range.{well_formed}
use Rattle.image.specs.Reading.{start}
use Rattle.rules.specs.declared.Kind.TheVariants.{Icell}
use Rattle.rules.specs.declared.Slot.TheVariants.{Missing}
use Rattle.rules.specs.Claim.{Claim, empty, Place, ready, on, Live, found, look, ready_in, is_ready, nobody}
use Rattle.rules.specs.Sound.{is_empty, place_sound, live_sound, refusal_sound}
use Rattle.soundness.proofs.Cells.{CellsSound}
use Rattle.cells.specs.Lent.{slot_at, look_on}
use Rattle.threads.specs.Heads.{place_in, ready_place}
use Rattle.book.specs.declared.Tally.{Tally}
use Rattle.laying.specs.Laid.{cell_tag, cell_word}
use Rattle.laying.specs.Back.{unspread, place_read, live_read}
use Rattle.laying.proofs.Spread.{spread-get}
use Rattle.laying.proofs.Cells.{slot-at, slot-back}
use Rattle.laying.proofs.Pairs.{Written}
use Rattle.inspection.specs.Seats.{Ground}
use Rattle.inspection.specs.Tests.{place_on, live_on, refusal_stands}

-- ---- what a thread sees

module _ (c : Claim) (k : ℕ) (tags words : List ℕ) (w : Written cell_tag cell_word k tags words c.cells) (s : CellsSound c.cells) (m : k ≤ length tags) (n : k ≤ length words) where
  seen : (i : ℕ) (b : Bool) → ltb i k ≡ b → (if b then slot_at tags words i else Missing) ≡ found (get_elem? c.cells i)
  unfolding found
  seen i true e =
      let h = ltb-true i k e in
      let l = w.long in
      let i-in : i < length c.cells = omega arith in
      let t : get_or tags i 0 ≡ cell_tag (get_or c.cells i (empty Icell)) = ap (λ (r : List ℕ). get_or r i 0) (sym w.left) ∙ spread-get cell_tag (length tags) c.cells i (empty Icell) i-in in
      let d : get_or words i 0 ≡ cell_word (get_or c.cells i (empty Icell)) = ap (λ (r : List ℕ). get_or r i 0) (sym w.right) ∙ spread-get cell_word (length words) c.cells i (empty Icell) i-in in
      slot-at tags words i (omega arith) (omega arith)
      ∙ rw (t, d, get-some c.cells i (empty Icell) i-in) (slot-back (get_or c.cells i (empty Icell)) (all-get i (empty Icell) s i-in))
  seen i false e = let l = w.long in let h = ltb-false i k e in rw (get_none c.cells i (omega arith))

  look-same : (l : ℕ) → look_on tags words k c.seat.start l ≡ look c l
  unfolding look_on look
  look-same l = by (leb c.seat.start l)
    where
      i : ℕ
      i = l - c.seat.start

      by : (b : Bool) → (if b && ltb i k then slot_at tags words i else Missing) ≡ (if b then found (get_elem? c.cells i) else Missing)
      by true = seen i (ltb i k) refl
      by false = refl

  module _ (code : ℕ) where
    abbrev g : Ground
    g = record { tags = tags; words = words; used = k; start = c.seat.start; image = c.image; code = code }

    place_same : (q : Place) → place_on g q ≡ place_sound c q
    unfolding place_on place_sound
    place_same ready = refl
    place_same (on l) = ap is_empty (look-same l)

    -- the test of a live thread, over the parts and over the claim
    pub live_same : live_on g ≡ live_sound c code
    unfolding live_on live_sound
    live_same = fun_ext (λ (t : Live). ap (λ (b : Bool). leb t.thread.frame 65535 && (well_formed t.thread.acc && (start c.image code t.thread.position && b))) (place_same t.place))

-- ---- the refusal

unspread-get : {A : Type 0} (g : ℕ → ℕ → A) (k : ℕ) (ts ws : List ℕ) (i : ℕ) (d : A) → k ≤ length ts → k ≤ length ws → i < k → get_or (unspread g k ts ws) i d ≡ g (get_or ts i 0) (get_or ws i 0)
unfolding unspread
unspread-get g zero ts ws i d m n l = below-zero i l
unspread-get g (suc k) [] ws i d m n l = below-zero k (omega arith)
unspread-get g (suc k) (t ∷ ts) [] i d m n l = below-zero k (omega arith)
unspread-get g (suc k) (t ∷ ts) (w ∷ ws) zero d m n l = refl
unspread-get g (suc k) (t ∷ ts) (w ∷ ws) (suc i) d m n l = unspread-get g k ts ws i d (omega arith) (omega arith) (omega arith)

ready_read : (head word : ℕ) → is_ready (live_read head word) ≡ eqb (place_in head) ready_place
unfolding is_ready live_read place_read ready_in
ready_read head word = by (eqb (place_in head) ready_place)
  where
    by : (b : Bool) → ready_in (if b then ready else on (place_in head - 2)) ≡ b
    by true = refl
    by false = refl

module _ (c : Claim) (n : Tally) (heads accs : List ℕ) (row : c.row ≡ unspread live_read n.live heads accs) (long : length c.row ≡ n.live) (m : n.live ≤ length heads) (k : n.live ≤ length accs) (refusal : c.refusal ≡ n.refusal) (halted : c.halted ≡ n.halted) where
  halted-ready : (b : Bool) → ltb n.halted n.live ≡ b → (b && eqb (place_in (get_or heads n.halted 0)) ready_place) ≡ (b && is_ready (get_or c.row n.halted nobody))
  halted-ready true e =
      let l = ltb-true n.halted n.live e in
      rw (row, unspread-get live_read n.live heads accs n.halted nobody m k l) (sym (ready_read (get_or heads n.halted 0) (get_or accs n.halted 0)))
  halted-ready false e = refl

  -- the test of the refusal, over the parts and over the claim
  pub refusal-same : refusal_stands n heads ≡ refusal_sound c
  unfolding refusal_stands refusal_sound
  refusal-same =
      rw (refusal, halted, long)
      (ap (λ (b : Bool). if eqb n.refusal 0 then eqb n.halted 0 else (leb n.refusal 9 && b)) (halted-ready (ltb n.halted n.live) refl))
