-- The effect that a seat's code decides on, of a thread of a claim laid out, is the rules'. Assumes nothing.
use Prim.Native.Nat.{ℕ, ◌<◌}
use native.Mathlib.Omega.{arith}
use mathlib.Core.Path.{◌≡◌}
use mathlib.Core.Bool.{true}
use lib.ListN.{length}
use Rattle.std.specs.Prelude.{Option, Some, Ok}
use Rattle.std.proofs.lemmas.Bool.Decides.{nat_tests}
use Rattle.kinds.specs.declared.Instruction.{Instruction}
use Rattle.image.specs.declared.reader.Layout.{Layout}
use Rattle.image.specs.Records.{fetched_at}
use Rattle.image.specs.Reading.{read_image, start}
use Rattle.image.specs.Promise.{Promise}
use Rattle.rules.specs.declared.Thread.{Thread}
use Rattle.rules.specs.declared.Effect.{Effect}
use Rattle.rules.specs.Decide.{View}
use Rattle.rules.specs.Claim.{Claim, room, thread_at}
use Rattle.rules.specs.Turn.{code_of, decided, effect_at}
use Rattle.laying.specs.Laid.{laid_book}
use Rattle.laying.proofs.Fitting.{Fit}
use Rattle.laying.proofs.Cells.{view-same}
use Rattle.laying.proofs.Heads.{thread-same}
use Rattle.book.specs.Book.{tally_in, room_in}
use Rattle.turn.specs.Turn.{decided_on, asked_in, effect_in, effect_on}
use Rattle.tying.specs.Tied.{parts_of}

pub room-same : (c : Claim) → Fit c → (e : Effect) → room_in (tally_in (laid_book c)) e ≡ room c e
unfolding room room_in tally_in laid_book
room-same c f e = let h = f.live in grind (arith, nat_tests)

-- a position of sixteen bits is whole
decided-same : {x : Option (Instruction × ℕ)} {i : Instruction} {after : ℕ} (see : View) (th : Thread) → x ≡ Some (i, after) → after < 65536 → decided_on x see th ≡ decided x see th
unfolding decided_on decided
decided-same see th e h = grind arith

-- a thread that stands at a start of an accepted image
pub effect-same : (c : Claim) → Fit c → {g : Layout} → read_image c.image ≡ Ok g → Promise c.image g.slots g.inputs g.code → (i : ℕ) → i < length c.row
    → start c.image g.code (thread_at c i).position ≡ true → effect_on c.image c.seat.start (parts_of c) i ≡ effect_at c i
unfolding effect_on effect_in asked_in effect_at tally_in laid_book
effect-same c f e m i l at =
    let w = m.whole (thread_at c i).position at in
    let a = w.within in
    let b = m.short in
    let q : fetched_at c.image (code_of (read_image c.image)) (thread_at c i).position ≡ Some (w.instruction, w.after) = unfold code_of in rw e w.fetched in
    rw (thread-same c f i l, view-same c f, decided-same _ (thread_at c i) q (omega arith)) (room-same c f _)
