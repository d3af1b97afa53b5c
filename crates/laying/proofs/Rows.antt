-- The row of threads, laid out: what an effect makes of it. Assumes nothing.
use Prim.Native.Nat.{ℕ, ◌-◌, ◌≤◌, ◌<◌}
use native.Mathlib.Omega.{arith}
use mathlib.Core.Path.{◌≡◌, refl, sym, ap, ◌∙◌}
use mathlib.Core.Bool.{Bool, true, false, not}
use mathlib.Core.List.{List, [], ◌∷◌, ◌++◌, map, append_assoc, reverse, reverse-cons}
use lib.ListN.{length, set, length-set}
use borrow.Author.Tests.{le-ltb}
use Rattle.std.specs.Prelude.{if◌then◌else◌}
use Rattle.laws.proofs.Every.{All, all_cons, all_set}
use Rattle.std.proofs.lemmas.List.{map-append}
use Rattle.rules.specs.declared.Thread.{Thread}
use Rattle.rules.specs.declared.Effect.{Effect}
use Rattle.rules.specs.declared.Effect.TheVariants.{Goes, Ends, Waits, Fills, Empties, Makes, Spawns, Refuses}
use Rattle.rules.specs.Claim.{Claim, Place, ready, on, Live, is_on, keep, without, wake, readied, perform}
use Rattle.soundness.proofs.Rows.{length-wake, length_without}
use Rattle.threads.specs.Heads.{wait_place, ready_place}
use Rattle.threads.specs.Row.{Row, woken, sifted, put_at, taken_at, woken_at, row_after}
use Rattle.laying.specs.Laid.{spread, place_number, head_number, acc_number}
use Rattle.laying.proofs.Spread.{length-spread, spread-set, spread-add, spread-shift, spread-take, spread-over}
use Rattle.laying.proofs.Fitting.{Placed, Fit, Roomy, all_placed, live-32}
use Rattle.laying.proofs.Heads.{is-on, head-readied}

-- waking, a thread at a time
wake-one : (l : ℕ) (t : Live) (ts : List Live) → wake l (t ∷ ts) ≡ (if is_on l t then wake l ts ++ readied t.thread ∷ [] else t ∷ wake l ts)
unfolding wake keep
wake-one l t ts = by (is_on l t)
  where
    others : List Live
    others = keep (λ t. not (is_on l t)) ts

    those : List Live
    those = keep (is_on l) ts

    up : List Live → List Live
    up those = map (λ t. readied t.thread) (reverse those)

    by : (b : Bool) → (if not b then t ∷ others else others) ++ up (if b then t ∷ those else those)
        ≡ (if b then (others ++ up those) ++ readied t.thread ∷ [] else t ∷ (others ++ up those))
    by true = rw (reverse-cons, map-append (λ (t : Live). readied t.thread) (reverse those) (t ∷ [])) (sym (append_assoc others _ _))
    by false = refl

heads-woken : (l : ℕ) (row : List Live) → All Placed row → woken (wait_place l) (map head_number row) ≡ map head_number (wake l row)
unfolding woken
heads-woken l [] h = unfold wake keep in refl
heads-woken l (t ∷ ts) (all_cons p h) = rw (is-on l t p, wake-one l t ts, head-readied t, heads-woken l ts h) (by (is_on l t))
  where
    by : (b : Bool) → (if b then map head_number (wake l ts) ++ head_number (readied t.thread) ∷ [] else head_number t ∷ map head_number (wake l ts))
        ≡ map head_number (if b then wake l ts ++ readied t.thread ∷ [] else t ∷ wake l ts)
    by true = sym (map-append head_number (wake l ts) (readied t.thread ∷ []))
    by false = refl

accs-woken : (l : ℕ) (row : List Live) → All Placed row → sifted (wait_place l) (map head_number row) (map acc_number row) ≡ map acc_number (wake l row)
unfolding sifted acc_number
accs-woken l [] h = unfold wake keep in refl
accs-woken l (t ∷ ts) (all_cons p h) = rw (is-on l t p, wake-one l t ts, accs-woken l ts h) (by (is_on l t))
  where
    by : (b : Bool) → (if b then map acc_number (wake l ts) ++ acc_number t ∷ [] else acc_number t ∷ map acc_number (wake l ts))
        ≡ map acc_number (if b then wake l ts ++ readied t.thread ∷ [] else t ∷ wake l ts)
    by true = sym (map-append acc_number (wake l ts) (readied t.thread ∷ []))
    by false = refl

-- a row laid out, n records long
abbrev pub laid_row : ℕ → List Live → Row
laid_row n row = record { heads = spread head_number n row; accs = spread acc_number n row }

abbrev live : Thread → Place → Live
live t p = record { thread = t; place = p }

module _ (n : ℕ) (row : List Live) where
  row_put : (i : ℕ) (t : Thread) (p : Place) → i < length row → put_at i (place_number p) t (laid_row n row) ≡ laid_row n (set row i (live t p))
  unfolding put_at head_number acc_number
  row_put i t p h = rw (spread-set head_number n row i (live t p) h, spread-set acc_number n row i (live t p) h)

  pub row-add : (i : ℕ) (t : Thread) (p : Place) → i ≡ length row → length row < n → put_at i (place_number p) t (laid_row n row) ≡ laid_row n (row ++ live t p ∷ [])
  unfolding put_at head_number acc_number
  row-add i t p e h = rw (e, spread-add head_number n row (live t p) h, spread-add acc_number n row (live t p) h)

  row-taken : (i : ℕ) → i < length row → length row ≤ n → taken_at i (laid_row n row) ≡ laid_row n (without row i)
  unfolding taken_at without
  row-taken i h k = rw (spread-shift head_number n row i h k, spread-shift acc_number n row i h k)

  row-woken : (l m : ℕ) → m ≡ length row → All Placed row → length row ≤ n → woken_at m (wait_place l) (laid_row n row) ≡ laid_row n (wake l row)
  unfolding woken_at
  row-woken l m e h k =
      rw (
        e,
        length-spread head_number n row k,
        length-spread acc_number n row k,
        le-ltb n (length row) k,
        spread-take head_number n row,
        spread-take acc_number n row,
        heads-woken l row h,
        accs-woken l row h,
        spread-over head_number n row (wake l row) (length-wake l row),
        spread-over acc_number n row (wake l row) (length-wake l row),
      )

-- the effect of the thread at i of the row
module _ (c : Claim) (f : Fit c) (i : ℕ) (h : i < length c.row) where
  row_goes : (t : Thread) → put_at i ready_place t (laid_row 32 c.row) ≡ laid_row 32 (set c.row i (readied t))
  unfolding place_number
  row_goes t = row_put 32 c.row i t ready h

  placed : (t : Thread) → All Placed (set c.row i (readied t))
  placed t = all_set i (readied t) (all_placed c f) (record { place = tt })

  pub row_same : (e : Effect) → Roomy c e → row_after e i (length c.row) (laid_row 32 c.row) ≡ laid_row 32 (perform e i c).row
  unfolding row_after perform place_number
  row_same (Goes t) r = row_goes t
  row_same Ends r = row-taken 32 c.row i h (live-32 c f)
  row_same (Waits t l) r =
      let a = length_without c.row i h in
      let b = live-32 c f in
      ap (λ (x : Row). put_at (length c.row - 1) (wait_place l) t x) (row-taken 32 c.row i h b)
      ∙ row-add 32 (without c.row i) (length c.row - 1) t (on l) (omega arith) (omega arith)
  row_same (Fills t k l v) r =
      let a = length-set c.row i (readied t) in
      let b = live-32 c f in
      ap (λ (x : Row). woken_at (length c.row) (wait_place l) x) (row_goes t)
      ∙ row-woken 32 (set c.row i (readied t)) l (length c.row) (sym a) (placed t) (omega arith)
  row_same (Empties t l) r = row_goes t
  row_same (Makes t k n) r = row_goes t
  row_same (Spawns t new) r =
      let a = length-set c.row i (readied t) in
      let b = f.threads in
      ap (λ (x : Row). put_at (length c.row) ready_place new x) (row_goes t)
      ∙ row-add 32 (set c.row i (readied t)) (length c.row) new ready (sym a) (omega arith)
  row_same (Refuses n) r = refl
