-- A lawful effect leaves a sound claim sound. Assumes nothing.
use Prim.Native.Nat.{ℕ, suc, ◌^◌, ◌≤◌, ◌<◌}
use native.Mathlib.Omega.{arith}
use mathlib.Core.Path.{◌≡◌, refl, sym}
use mathlib.Core.Logic.{◌≢◌}
use mathlib.Core.Bool.{true, not}
use mathlib.Core.List.{List, [], ◌∷◌, ◌++◌}
use lib.ListN.{length, set, replicate, length-append, length-set, length-replicate}
use lib.Dec.{leb, eqb}
use borrow.Author.Tests.{eq-eqb, ne_eqb, leb-true, lt-ltb}
use Rattle.laws.proofs.Absurd.{clash}
use Rattle.laws.proofs.Choice.{both, parted}
use Rattle.laws.proofs.Every.{All, all_set, all_append, all_snoc, all_replicate, all-also}
use Rattle.value.specs.declared.Value.{Value}
use Rattle.image.specs.declared.reader.Layout.{Layout}
use Rattle.rules.specs.declared.Kind.TheVariants.{Mcell}
use Rattle.rules.specs.declared.Slot.TheVariants.{Full}
use Rattle.rules.specs.declared.Thread.{Thread}
use Rattle.rules.specs.declared.Effect.{Effect}
use Rattle.rules.specs.declared.Effect.TheVariants.{Refuses}
use Rattle.rules.specs.Claim.{Claim, Cell, empty, full, Place, ready, on, Live, put, is_on, waits_on, without, wake, readied, waiting, stepped, perform}
use Rattle.rules.specs.Sound.{cell_sound, is_empty, place_sound, refusal_sound}
use Rattle.rules.proofs.Numbered.{nine}
use Rattle.rules.proofs.Lawful.{Lawful, goes, ends, waits, fills, empties, makes-some, spawns, refuses}
use Rattle.soundness.proofs.Cells.{CellsSound, EmptyIn, length-put, put-sound, still-empty, empty-beside, empty-more}
use Rattle.soundness.proofs.Rows.{Picked, length-wake, all-wake, length_without, all_without}
use Rattle.soundness.proofs.Claims.{Runs, Stands, is-ready, Sound}
use Rattle.soundness.proofs.Decides.{Keeps}

-- a thread may stay where it stood if no cell with waiters was filled
place_kept : (c d : Claim) → ((l : ℕ) → EmptyIn c l → EmptyIn d l) → (p : Place) → place_sound c p ≡ true → place_sound d p ≡ true
unfolding place_sound
place_kept c d k ready e = refl
place_kept c d k (on l) e = k l e

-- a thread that does not wait on l
elsewhere : (c d : Claim) (l : ℕ) → ((m : ℕ) → m ≢ l → EmptyIn c m → EmptyIn d m) → (p : Place) → not (waits_on l p) ≡ true → place_sound c p ≡ true → place_sound d p ≡ true
unfolding place_sound waits_on
elsewhere c d l k ready n e = refl
elsewhere c d l k (on m) n e = k m (λ q. off q n) e
  where
    off : m ≡ l → not (eqb l m) ≡ true → ⊥
    off q n = clash (let e = eq-eqb l m (sym q) in cc)

module _ (c : Claim) (g : Layout) (s : Sound c g) (calm : eqb c.refusal 0 ≡ true) (i : ℕ) (picked : Picked c.row i) (more : suc c.steps < 2 ^ 32) where
  onward : (cells : List Cell) (row : List Live) → length c.cells ≤ length cells → length cells ≤ c.seat.cells → CellsSound cells → All (Stands (stepped c cells row) g.code) row
      → length row ≤ c.seat.threads → Sound (stepped c cells row) g
  unfolding refusal_sound
  onward cells row grown used whole stand live =
      record {
        bytes = s.bytes;
        slots = omega (arith, s.slots);
        used = used;
        cells = whole;
        row = stand;
        live = live;
        refusal = rw calm (rw calm at s.refusal);
        steps = more;
      }

  kept : (cells : List Cell) (row : List Live) → ((l : ℕ) → EmptyIn c l → EmptyIn (stepped c cells row) l) → All (Stands c g.code) row → All (Stands (stepped c cells row) g.code) row
  kept cells row k h = all-also (λ t q. record { runs = q.runs; place = place_kept c (stepped c cells row) k t.place q.place }) h

  same : (row : List Live) → All (Stands c g.code) row → length row ≤ c.seat.threads → Sound (stepped c c.cells row) g
  same row h live = onward c.cells row (omega arith) s.used s.cells (kept c.cells row (λ l e. still-empty c l e _ refl refl) h) live

  refilled : (l : ℕ) (x : Cell) (row : List Live) → cell_sound x ≡ true → All (Stands (stepped c (put c l x) row) g.code) row → length row ≤ c.seat.threads
      → Sound (stepped c (put c l x) row) g
  refilled l x row p h live = onward (put c l x) row (rw length-put (omega arith)) (rw length-put s.used) (put-sound c l x s.cells p) h live

  -- the thread that ran, ready in its place
  abbrev ran : Thread → List Live
  ran t = set c.row i (readied t)

  ran-stands : {t : Thread} → Runs c.image g.code t → All (Stands c g.code) (ran t)
  ran-stands o = all_set i _ s.row (is-ready c o)

  ran-live : (t : Thread) → length (ran t) ≤ c.seat.threads
  ran-live t = rw length-set s.live

  pub performed : {e : Effect} → Lawful c e → Keeps c g e → Sound (perform e i c) g
  unfolding perform
  performed (goes {t = t}) o = same (ran t) (ran-stands o) (ran-live t)
  performed ends o = same (without c.row i) (all_without i s.row) (omega (arith, length_without c.row i picked.within, s.live))
  performed (waits {l = l} {t = t} e) o =
      same (without c.row i ++ waiting l t ∷ [])
      (all_snoc (all_without i s.row) (unfold place_sound is_empty in record { runs = o; place = rw e }))
      (rw length-append (omega (arith, length_without c.row i picked.within, s.live)))
  performed (fills {k = k} {l = l} {v = v} {t = t} e) o =
      refilled l (full k v) row (unfold cell_sound in o.0) (all-wake {P = Stands c g.code} l stays (λ u q. is-ready d q.runs) (ran-stands o.1)) (rw length-wake (ran-live t))
    where
      row : List Live
      row = wake l (ran t)

      d : Claim
      d = stepped c (put c l (full k v)) row

      stays : (u : Live) → Stands c g.code u → not (is_on l u) ≡ true → Stands d g.code u
      stays u q n =
          record { runs = q.runs; place = elsewhere c d l (λ m n f. empty-beside c m f l (full k v) row (λ z. clash (cc)) n) u.place (unfold is_on in n) q.place }
  performed (empties {l = l} {t = t} e) o =
      refilled l (empty Mcell) (ran t) (unfold cell_sound in refl)
      (kept _ _ (λ m f. empty-beside c m f l (empty Mcell) (ran t) (λ z. clash (cc)) (λ q. not_full _ (rw (q, e) at f))) (ran-stands o)) (ran-live t)
    where
      not_full : (v : Value) → is_empty (Full Mcell v) ≡ true → ⊥
      not_full v f = unfold is_empty in clash (cc)
  performed (makes-some {k = k} {n = n} {t = t}) o =
      onward (c.cells ++ replicate n (empty k)) (ran t) (rw length-append (omega arith)) (rw (length-append, length-replicate) o.0)
      (all_append s.cells (all_replicate n (empty k) (unfold cell_sound in refl))) (kept _ _ (λ m f. empty-more c m f (replicate n (empty k)) (ran t)) (ran-stands o.1))
      (ran-live t)
  performed (spawns {new = new} {t = t}) o =
      same (ran t ++ readied new ∷ []) (all_snoc (ran-stands o.1.1) (is-ready c o.1.0)) (rw (length-append, length-set) (omega (arith, o.0)))
  performed (refuses {n = n} h) o =
      record {
        bytes = s.bytes;
        slots = s.slots;
        used = s.used;
        cells = s.cells;
        row = all-also (λ t q. record { runs = q.runs; place = place_kept c _ (λ l e. still-empty c l e _ refl refl) t.place q.place }) s.row;
        live = s.live;
        refusal = refused n h;
        steps = more;
      }
    where
      refused : (n : ℕ) → nine n ≡ true → refusal_sound (perform (Refuses n) i c) ≡ true
      refused n h =
          unfold refusal_sound perform in
          parted (leb 1 n) (leb n 9) h λ low high.
          rw (ne_eqb n 0 (λ z. omega (arith, leb-true 1 n low))) (both high (both (lt-ltb i (length c.row) picked.within) picked.ready))
