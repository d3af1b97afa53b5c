-- A turn of a seat's code on its parts of a sound state is what the rules say of that entry. Assumes nothing.
use Prim.Native.Nat.{ℕ, ◌+◌, ◌*◌, ◌-◌, ◌≤◌, ◌<◌}
use native.Mathlib.Omega.{arith}
use mathlib.Core.Path.{◌≡◌, refl, ap, sym, ◌∙◌}
use mathlib.Core.List.{List}
use lib.ListN.{length, get_or, drop, take-append-drop}
use Rattle.std.specs.Prelude.{Some}
use Rattle.rules.specs.Claim.{Claim}
use Rattle.rules.specs.Turn as Rules
use Rattle.rules.specs.Calls.{picks, hear, absent, number_in}
use Rattle.rules.proofs.Outcomes.{Turns, idles, runs, turns, performed}
use Rattle.laying.specs.Laid as Laid
use Rattle.laying.specs.Laid.{laid_claim, spread}
use Rattle.effects.specs.Enacted.{parts, Turned, turned}
use Rattle.turn.specs.Turn.{turn_on}
use Rattle.tying.specs.Tied.{parts_of}
use Rattle.tying.proofs.Turns.{turn-same}
use Rattle.state.specs.State.{State, state, machine_of, Stands}
use Rattle.state.specs.declared.seats.Region.{Region}
use Rattle.state.specs.Seats.{region_in, cut, splice}
use Rattle.state.proofs.Pieces.{claim_of, from, to, SeatAt, seat-at}
use Rattle.state.proofs.Regions.{RegionAt, region_at}
use Rattle.calls.specs.Calls.{Moved, moved, said_to}
use Rattle.calls.proofs.Said.{said-nowhere, said_here}

-- a turn of seat k's code on its parts, the cells from a to e and the image up to j; and what it writes put back, with its answer
abbrev pub turn_at : State → ℕ → ℕ → ℕ → ℕ → ℕ → Turned
turn_at s k a e j pick =
    turn_on (cut (k * 4096) j s.image) a pick
    (parts (cut (k * 9) (k * 9 + 9) s.book) (cut a e s.tags) (cut a e s.words) (cut (k * 32) (k * 32 + 32) s.heads) (cut (k * 32) (k * 32 + 32) s.accs))

abbrev pub put_back : State → ℕ → ℕ → ℕ → Turned → Moved
put_back s k a e x =
    moved x.answer
    (state (splice (k * 9) (k * 9 + 9) x.after.book s.book) (splice a e x.after.tags s.tags) (splice a e x.after.words s.words)
    (splice (k * 32) (k * 32 + 32) x.after.heads s.heads) (splice (k * 32) (k * 32 + 32) x.after.accs s.accs) s.image)

splice-same : (a e : ℕ) (l : List ℕ) → splice a e (cut a e l) l ≡ l
splice-same a e l = rw (take-append-drop (e - a) (drop a l)) (take-append-drop a l)

-- an entry leaves the image
turn-image : (c : Claim) (pick : ℕ) → (Rules.turn c pick).claim.image ≡ c.image
unfolding Rules.ran
turn-image c pick = by (turns c pick)
  where
    by : {t : Rules.Turned} → Turns c pick t → t.claim.image ≡ c.image
    by (idles n) = refl
    by (runs r s l) = (performed _ _ c).image

-- "4: no such seat"
pub no-turn : {s : State} (t : Stands s) (k pick : ℕ) → length (machine_of s) ≤ k → said_to (machine_of s) s k (picks pick) ≡ moved 4 s
unfolding number_in absent
no-turn t k pick h = said-nowhere t k (picks pick) h

module _ {s : State} (t : Stands s) (k : ℕ) (h : k < length (machine_of s)) (pick : ℕ) where
  here : SeatAt s k
  here = seat-at t k h

  image-stays : splice (k * 4096) (k * 4096 + 4096) (laid_claim (Rules.turn (claim_of s k) pick).claim).image s.image ≡ s.image
  unfolding laid_claim
  image-stays =
      ap (λ (i : List ℕ). splice (k * 4096) (k * 4096 + 4096) (spread (λ b. b) 4096 i) s.image) (turn-image (claim_of s k) pick)
      ∙ ap (λ (p : Laid.Parts). splice (k * 4096) (k * 4096 + 4096) p.image s.image) (sym here.parts)
      ∙ splice-same (k * 4096) (k * 4096 + 4096) s.image

  turn-there : turn_at s k (from s k) (to s k) (k * 4096 + length (claim_of s k).image) pick
      ≡ turned (Rules.turn (claim_of s k) pick).answer (parts_of (Rules.turn (claim_of s k) pick).claim)
  unfolding laid_claim
  turn-there =
      rw here.bytes
      (ap (λ (p : Laid.Parts). turn_on (claim_of s k).image (from s k) pick (parts p.book p.tags p.words p.heads p.accs)) here.parts
      ∙ turn-same (claim_of s k) pick here.seated here.sound)

  picked-there : said_to (machine_of s) s k (picks pick) ≡ put_back s k (from s k) (to s k) (turn_at s k (from s k) (to s k) (k * 4096 + length (claim_of s k).image) pick)
  unfolding hear number_in laid_claim
  picked-there = said_here t k h (picks pick) tt ∙ rw image-stays (ap (put_back s k (from s k) (to s k)) (sym turn-there))

-- wherever the code says that its parts lie
pub picked : {s : State} (t : Stands s) {k a e : ℕ} (pick : ℕ) → RegionAt s k a e → {l : ℕ} {x : Turned} → l ≡ get_or s.book (k * 9 + 2) 0
    → turn_at s k a e (k * 4096 + l) pick ≡ x → said_to (machine_of s) s k (picks pick) ≡ put_back s k a e x
picked {s} t {k} pick g {l} r q =
    let r' : l ≡ length (claim_of s k).image = r ∙ (seat-at t k g.seat).image in
    rw (g.starts, g.ends) (picked-there t k g.seat pick ∙ ap (put_back s k (from s k) (to s k)) (rw (g.starts, g.ends, r') at q))

-- the parts of a turn of seat k lie in the buffers
pub record Within (s : State) (k : ℕ) (g : Region) : Type 0 where
  pub order : g.start ≤ g.end
  pub most : g.end ≤ 2048
  pub book : k * 9 + 9 ≤ length s.book
  pub tags : g.end ≤ length s.tags
  pub words : g.end ≤ length s.words
  pub heads : k * 32 + 32 ≤ length s.heads
  pub accs : k * 32 + 32 ≤ length s.accs
  pub image : k * 4096 + get_or s.book (k * 9 + 2) 0 ≤ length s.image

pub within : {s : State} (t : Stands s) {k : ℕ} {g : Region} → region_in s.book k ≡ Some g → Within s k g
within t {k} e =
    let r = region_at t e in
    let z = seat-at t k r.seat in
    let l = r.lengths in
    let p = z.image in
    let q = z.fit.image in
    record {
      order = omega arith;
      most = omega arith;
      book = omega arith;
      tags = omega arith;
      words = omega arith;
      heads = omega arith;
      accs = omega arith;
      image = omega arith;
    }
