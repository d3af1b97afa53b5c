-- The tests of a claim in use, taken apart into facts and put together again. Assumes nothing.
use Prim.Native.Nat.{ℕ, ◌+◌, ◌^◌, ◌≤◌, ◌<◌}
use mathlib.Core.Path.{◌≡◌, refl}
use mathlib.Core.Bool.{true, false}
use mathlib.Core.List.{List, [], ◌∷◌}
use lib.ListN.{length}
use lib.Dec.{leb, ltb}
use borrow.Author.Tests.{leb-true, ltb-true, le-leb, lt-ltb}
use Rattle.std.specs.Prelude.{Ok, Err}
use Rattle.laws.specs.Lists.{all, is_none}
use Rattle.laws.proofs.Absurd.{clash, below-zero}
use Rattle.laws.proofs.Choice.{both, parted}
use Rattle.laws.proofs.Every.{All, tested, passes, all-also, all-get-or}
use Rattle.value.specs.Range.{well_formed}
use Rattle.image.specs.declared.reader.Layout.{Layout}
use Rattle.image.specs.Reading.{Verdict, read_image, start}
use Rattle.image.specs.Promise.{Promise}
use Rattle.image.proofs.Promise.{promised}
use Rattle.rules.specs.declared.Thread.{Thread}
use Rattle.rules.specs.Claim.{Seat, Claim, Live, readied}
use Rattle.rules.specs.Sound.{cell_sound, place_sound, live_sound, refusal_sound, claim_sound, seat_sound}
use Rattle.soundness.proofs.Tests.{Formed, Near}
use Rattle.soundness.proofs.Cells.{CellsSound}

-- a thread that stands at an instruction
pub record Runs (image : List ℕ) (code : ℕ) (t : Thread) : Type 0 where
  pub frame : Near t.frame
  pub acc : Formed t.acc
  pub at : start image code t.position ≡ true

pub record Stands (c : Claim) (code : ℕ) (t : Live) : Type 0 where
  pub runs : Runs c.image code t.thread
  pub place : place_sound c t.place ≡ true

pub is-ready : (c : Claim) {code : ℕ} {t : Thread} → Runs c.image code t → Stands c code (readied t)
unfolding place_sound
is-ready c o = record { runs = o; place = refl }

stands : (c : Claim) (code : ℕ) (t : Live) → live_sound c code t ≡ true → Stands c code t
unfolding live_sound
stands c code t e =
    parted (leb t.thread.frame 65535) _ e λ frame e.
    parted (well_formed t.thread.acc) _ e λ acc e.
    parted (start c.image code t.thread.position) _ e λ at place. record { runs = record { frame = frame; acc = acc; at = at }; place = place }

pub stands-sound : (c : Claim) (code : ℕ) (t : Live) → Stands c code t → live_sound c code t ≡ true
unfolding live_sound
stands-sound c code t s = both s.runs.frame (both s.runs.acc (both s.runs.at s.place))

-- what opening promises of a seat
pub record Roomy (s : Seat) : Type 0 where
  pub region : s.start + s.cells ≤ 65535
  pub threads : 1 ≤ s.threads

-- what the reader promises of an image that it accepted
pub promise : (l : List ℕ) {g : Layout} → all (λ b. ltb b 256) l ≡ true → read_image l ≡ Ok g → Promise l g.slots g.inputs g.code
promise l b e = promised l (λ i. ltb-true _ 256 (all-get-or i 0 (tested (λ b. ltb b 256) l b) refl)) _ _ _ e

pub record Sound (c : Claim) (g : Layout) : Type 0 where
  pub bytes : all (λ b. ltb b 256) c.image ≡ true
  pub slots : g.slots ≤ length c.cells
  pub used : length c.cells ≤ c.seat.cells
  pub cells : CellsSound c.cells
  pub row : All (Stands c g.code) c.row
  pub live : length c.row ≤ c.seat.threads
  pub refusal : refusal_sound c ≡ true
  pub steps : c.steps < 2 ^ 32

facts : (c : Claim) (g : Layout) → claim_sound c (Ok g) ≡ true → Sound c g
unfolding claim_sound
facts c g e =
    parted (all (λ b. ltb b 256) c.image) _ e λ bytes e.
    parted (leb g.slots (length c.cells)) _ e λ slots e.
    parted (leb (length c.cells) c.seat.cells) _ e λ used e.
    parted (all cell_sound c.cells) _ e λ cells e.
    parted (all (live_sound c g.code) c.row) _ e λ row e.
    parted (leb (length c.row) c.seat.threads) _ e λ live e.
    parted (refusal_sound c) _ e λ refusal steps.
    record {
      bytes = bytes;
      slots = leb-true _ _ slots;
      used = leb-true _ _ used;
      cells = tested cell_sound c.cells cells;
      row = all-also (stands c g.code) (tested (live_sound c g.code) c.row row);
      live = leb-true _ _ live;
      refusal = refusal;
      steps = ltb-true _ _ steps;
    }

claim-sound : (c : Claim) (g : Layout) → Sound c g → claim_sound c (Ok g) ≡ true
unfolding claim_sound
claim-sound c g s =
    both s.bytes (both (le-leb _ _ s.slots) (both (le-leb _ _ s.used)
    (both (passes cell_sound s.cells) (both (passes (live_sound c g.code) (all-also (stands-sound c g.code) s.row))
    (both (le-leb _ _ s.live) (both s.refusal (lt-ltb _ _ s.steps)))))))

-- a good image is not empty, so its seat is not vacant
in_use : (image : List ℕ) {g : Layout} → read_image image ≡ Ok g → is_none image ≡ false
unfolding all
in_use [] e = below-zero _ (promise [] refl e).inside
in_use (b ∷ image) e = refl

pub seated : (c : Claim) {g : Layout} → read_image c.image ≡ Ok g → Sound c g → seat_sound c ≡ true
unfolding seat_sound
seated c {g} e s = rw (in_use c.image e, e) (claim-sound c g s)

-- what is known of a sound seat that is not vacant
pub record InUse (c : Claim) : Type 0 where
  pub layout : Layout
  pub reads : read_image c.image ≡ Ok layout
  pub sound : Sound c layout

pub used-seat : (c : Claim) → is_none c.image ≡ false → seat_sound c ≡ true → InUse c
unfolding seat_sound
used-seat c u s = by (read_image c.image) refl (rw u at s)
  where
    by : (v : Verdict) → read_image c.image ≡ v → claim_sound c v ≡ true → InUse c
    by (Ok g) e s = record { layout = g; reads = e; sound = facts c g s }
    by (Err f) e s = unfold claim_sound in clash (cc)
