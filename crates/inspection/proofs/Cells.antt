-- A cell's tag and word tested: they are a sound cell's exactly if the code says so. Assumes nothing.
use Prim.Native.Nat.{ℕ, ◌+◌, ◌*◌, ◌/◌, ◌%◌, ◌^◌, ◌≤◌, ◌<◌}
use native.Mathlib.Omega.{arith}
use mathlib.Core.Path.{◌≡◌, refl, sym, ap}
use mathlib.Core.Bool.{Bool, true, false, ◌&&◌}
use mathlib.Core.List.{[], ◌∷◌}
use lib.Dec.{eqb, ltb}
use borrow.Author.Tests.{eqb-true, eqb-false, eq-eqb, ne_eqb, ltb-true, ltb-false}
use Rattle.std.specs.Prelude.{if◌then◌else◌, Option, Some, None}
use Rattle.std.specs.Option.{is_some}
use Rattle.value.specs.declared.Value.{Value}
use Rattle.value.specs.Coding.{tag_of, decoded}
use Rattle.value.proofs.RoundTrip.{encode-decode}
use Rattle.rules.specs.declared.Kind.{Kind}
use Rattle.rules.specs.declared.Kind.TheVariants.{Icell, Mcell}
use Rattle.rules.specs.Claim.{Cell, empty, full}
use Rattle.rules.specs.Sound.{cell_sound}
use Rattle.cells.specs.Lent.{kind_bit, kind_in, tag_for, filled}
use Rattle.laying.specs.Laid.{cell_tag, cell_word}
use Rattle.laying.specs.Back.{as_cell, cell_read}
use Rattle.laying.proofs.Cells.{tagged, slot_as, slot-at}
use Rattle.inspection.specs.Tests.{stands, cell_stands}

read_as : (t w : ℕ) → cell_read t w ≡ as_cell (slot_as t w)
unfolding cell_read
read_as t w = ap as_cell (slot-at (t ∷ []) (w ∷ []) 0 (omega arith) (omega arith))

bit-small : (k : Kind) → kind_bit k ≤ 8
unfolding kind_bit
bit-small Icell = omega arith
bit-small Mcell = omega arith

tag_small : (x : Cell) → cell_tag x < 16
unfolding cell_tag tag_for
tag_small (empty k) = let b = bit-small k in omega arith
tag_small (full k v) = let b = bit-small k in let t = (tagged v).high in omega arith

bit-of : (t : ℕ) → t < 16 → kind_bit (kind_in t) ≡ t / 8 * 8
unfolding kind_in kind_bit
bit-of t h = by (eqb (t / 8 % 2) 0) refl
  where
    by : (b : Bool) → eqb (t / 8 % 2) 0 ≡ b → kind_bit (if b then Icell else Mcell) ≡ t / 8 * 8
    by true e = let z = eqb-true (t / 8 % 2) 0 e in omega arith
    by false e = let z = eqb-false (t / 8 % 2) 0 e in omega arith

module _ (t w : ℕ) where
  pub cell-high : 16 ≤ t → false ≡ cell_stands t w
  unfolding cell_stands stands
  cell-high h = let s = tag_small (cell_read t w) in rw (ne_eqb (cell_tag (cell_read t w)) t (λ e. omega arith))

  pub cell-empty : t < 16 → t % 8 ≡ 0 → eqb w 0 ≡ cell_stands t w
  unfolding cell_stands stands cell_tag cell_word cell_sound slot_as as_cell
  cell-empty h e = rw (read_as t w, e, bit-of t h, eq-eqb (t / 8 * 8) t (omega arith)) (by (eqb w 0) refl)
    where
      by : (b : Bool) → eqb w 0 ≡ b → b ≡ (eqb 0 w && true)
      by true e = rw (eqb-true w 0 e)
      by false e = rw (ne_eqb 0 w (λ z. eqb-false w 0 e (sym z)))

  module _ (l : w < 2 ^ 64) where
    some_in : t < 16 → (t % 8 ≡ 0 → ⊥) → is_some (decoded (t % 8) w) ≡ cell_stands t w
    unfolding cell_stands stands slot_as
    some_in h n = rw (read_as t w, ne_eqb (t % 8) 0 n) (by (decoded (t % 8) w) refl)
      where
        by : (d : Option Value) → decoded (t % 8) w ≡ d
            → is_some d ≡ (eqb (cell_tag (as_cell (filled (kind_in t) d))) t && (eqb (cell_word (as_cell (filled (kind_in t) d))) w && cell_sound (as_cell (filled (kind_in t) d))))
        by (Some v) e = unfold filled as_cell cell_tag cell_word cell_sound tag_for in
            let s = encode-decode (t % 8) w v l e in
            let b = bit-of t h in
            let g = s.tag in
            rw (eq-eqb (tag_of v + kind_bit (kind_in t)) t (omega arith), eq-eqb _ _ s.word, s.good)
        by None e = unfold filled as_cell cell_tag kind_bit in rw (ne_eqb 0 t (λ z. n (omega arith)))

    -- a cell stands exactly if no bit above its kind's is set, and its word is 0 or its value is well formed
    pub cell_is : cell_stands t w ≡ (ltb t 16 && (if eqb (t % 8) 0 then eqb w 0 else is_some (decoded (t % 8) w)))
    cell_is = by (ltb t 16) refl (eqb (t % 8) 0) refl
      where
        by : (a : Bool) → ltb t 16 ≡ a → (b : Bool) → eqb (t % 8) 0 ≡ b → cell_stands t w ≡ (a && (if b then eqb w 0 else is_some (decoded (t % 8) w)))
        by true h true e = sym (cell-empty (ltb-true t 16 h) (eqb-true _ _ e))
        by true h false e = sym (some_in (ltb-true t 16 h) (eqb-false _ _ e))
        by false h b e = sym (cell-high (ltb-false t 16 h))
