-- Loading and clearing leave a seat sound. Assumes nothing.
use Prim.Native.Nat.{ℕ, ◌-◌, ◌≤◌, ◌<◌}
use native.Mathlib.Omega.{arith}
use mathlib.Core.Path.{◌≡◌, refl}
use mathlib.Core.Bool.{true}
use mathlib.Core.List.{List, [], ◌∷◌, map}
use lib.ListN.{length, length-append, length-map, length-replicate}
use lib.Dec.{ltb}
use borrow.Author.Tests.{le-leb}
use Rattle.std.specs.Prelude.{Ok}
use Rattle.laws.specs.Lists.{all}
use Rattle.laws.proofs.Choice.{parted}
use Rattle.laws.proofs.Every.{all_nil, all_cons, all_append, all_replicate}
use Rattle.value.specs.declared.Value.{Value}
use Rattle.value.specs.Range.{well_formed}
use Rattle.image.specs.declared.reader.Layout.{Layout}
use Rattle.image.specs.Records.{inputs}
use Rattle.image.specs.Reading.{read_image}
use Rattle.image.specs.Promise.{Promise, all_good}
use Rattle.rules.specs.declared.Kind.TheVariants.{Icell}
use Rattle.rules.specs.Claim.{Seat, Claim, empty, full}
use Rattle.rules.specs.Turn.{Turned}
use Rattle.rules.specs.Calls.{bare, root_frame, loaded, Loading, load, clear}
use Rattle.rules.specs.Sound.{cell_sound, refusal_sound, is_bare, seat_sound}
use Rattle.rules.proofs.Outcomes as Outcomes
use Rattle.rules.proofs.Outcomes.{Loads, rejects, accepts, Clears, leaves, empties}
use Rattle.soundness.proofs.Cells.{CellsSound}
use Rattle.soundness.proofs.Claims.{is-ready, Roomy, promise, Sound, seated}

-- the root frame is whole, and has as many cells as the image says
inputs-whole : (vs : List Value) → all_good vs ≡ true → CellsSound (map (full Icell) vs)
unfolding all_good cell_sound
inputs-whole [] h = all_nil
inputs-whole (v ∷ vs) h = parted (well_formed v) (all_good vs) h λ p q. all_cons p (inputs-whole vs q)

root-whole : (r : ℕ) (vs : List Value) → all_good vs ≡ true → CellsSound (root_frame r vs)
unfolding root_frame cell_sound
root-whole r vs h = all_cons refl (all_append (inputs-whole vs h) (all_replicate (r - 1 - length vs) (empty Icell) refl))

pub root-length : (r : ℕ) (vs : List Value) → length vs < r → length (root_frame r vs) ≡ r
unfolding root_frame
root-length r vs h = simp (length-append, length-map, length-replicate) (omega arith)

module _ (image : List ℕ) (bytes : all (λ b. ltb b 256) image ≡ true) where
  loaded-sound : (s : Seat) → Roomy s → (g : Layout) → read_image image ≡ Ok g → g.slots ≤ s.cells → Sound (loaded s image g.slots g.inputs) g
  unfolding loaded refusal_sound well_formed
  loaded-sound s roomy g e fits =
      record {
        bytes = bytes;
        slots = omega (arith, long);
        used = omega (arith, long);
        cells = root-whole g.slots (inputs g.inputs image) p.input-values;
        row = all_cons (is-ready (loaded s image g.slots g.inputs) (record { frame = le-leb s.start 65535 (omega (arith, roomy.region)); acc = refl; at = p.first })) all_nil;
        live = roomy.threads;
        refusal = refl;
        steps = omega arith;
      }
    where
      p : Promise image g.slots g.inputs g.code
      p = promise image bytes e

      long : length (root_frame g.slots (inputs g.inputs image)) ≡ g.slots
      long = root-length g.slots (inputs g.inputs image) (omega (arith, p.input-count, p.room))

  module _ (c : Claim) (roomy : Roomy c.seat) (s : seat_sound c ≡ true) where
    loads-kept : {t : Loading} → Loads c image t → seat_sound t.claim ≡ true
    unfolding loaded
    loads-kept (rejects n) = s
    loads-kept (accepts {g = g} v e h) = seated (loaded c.seat image g.slots g.inputs) e (loaded-sound c.seat roomy g e h)

    pub load_kept : seat_sound (load c image).claim ≡ true
    load_kept = loads-kept (Outcomes.loads c image)

pub bare-sound : (s : Seat) → seat_sound (bare s) ≡ true
unfolding seat_sound is_bare
bare-sound s = refl

clears-kept : {c : Claim} {t : Turned} → seat_sound c ≡ true → Clears c t → seat_sound t.claim ≡ true
clears-kept s leaves = s
clears-kept {c} s empties = bare-sound c.seat

pub clear_kept : (c : Claim) → seat_sound c ≡ true → seat_sound (clear c).claim ≡ true
clear_kept c s = clears-kept s (Outcomes.clears c)
