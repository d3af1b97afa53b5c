-- A sound seat's claim fits its parts, and so do all of a sound machine. Assumes nothing.
use Prim.Native.Nat.{ℕ, ◌+◌, ◌-◌, ◌≤◌, ◌<◌}
use native.Mathlib.Omega.{arith}
use mathlib.Core.Path.{◌≡◌, refl}
use mathlib.Core.Bool.{Bool, true, false}
use mathlib.Core.List.{List, [], ◌∷◌}
use lib.Dec.{leb, ltb, eqb}
use lib.ListN.{length, get_elem?}
use borrow.Author.Tests.{leb-true, eqb-true, ltb-true, ltb-false}
use Rattle.std.specs.Prelude.{if◌then◌else◌}
use Rattle.laws.specs.Lists.{all, is_none}
use Rattle.laws.proofs.Absurd.{clash}
use Rattle.laws.proofs.Choice.{parted, second}
use Rattle.laws.proofs.Every.{All, all_nil, all_cons, all-also}
use Rattle.laws.proofs.Lists.{get_none}
use Rattle.image.specs.Promise.{Promise}
use Rattle.rules.specs.declared.Slot.TheVariants.{Missing}
use Rattle.rules.specs.Claim.{Claim, Place, ready, on, Live, found, look}
use Rattle.rules.specs.Calls.{Machine, fair_share, total, may_open}
use Rattle.rules.specs.Sound.{is_empty, place_sound, is_bare, seat_sound, regions, shares_of, sound}
use Rattle.soundness.proofs.Claims.{Runs, Stands, InUse, used-seat, promise}
use Rattle.laying.proofs.Fitting.{Held, Numbered, Lives, Fit}

-- what opening promises of a seat
pub record Seated (c : Claim) : Type 0 where
  pub region : c.seat.start + c.seat.cells ≤ 2048
  pub threads : c.seat.threads ≤ 32

-- a cell that is seen lies below the used count
seen_below : (c : Claim) (l : ℕ) → is_empty (look c l) ≡ true → l < c.seat.start + length c.cells
unfolding look is_empty found
seen_below c l = by (leb c.seat.start l) refl (ltb (l - c.seat.start) (length c.cells)) refl
  where
    by : (b : Bool) → leb c.seat.start l ≡ b → (d : Bool) → ltb (l - c.seat.start) (length c.cells) ≡ d
        → is_empty (if b then found (get_elem? c.cells (l - c.seat.start)) else Missing) ≡ true → l < c.seat.start + length c.cells
    by false p d q e = clash (cc)
    by true p true q e = let i = leb-true c.seat.start l p in let j = ltb-true (l - c.seat.start) (length c.cells) q in omega arith
    by true p false q e = clash (let z = rw (get_none c.cells (l - c.seat.start) (ltb-false _ _ q)) at e in cc)

pub none_is : {A : Type 0} (xs : List A) → is_none xs ≡ true → xs ≡ []
none_is [] e = refl
none_is (x ∷ xs) e = clash (cc)

module _ (c : Claim) (s : Seated c) where
  in_use : InUse c → Fit c
  in_use u =
      let o = u.sound in
      let m = promise c.image o.bytes u.reads in
      record {
        cells = o.cells;
        row = all-also (lives m) o.row;
        used = o.used;
        live = o.live;
        region = let r = s.region in omega arith;
        threads = s.threads;
        steps = o.steps;
        image = m.short;
      }
    where
      held : Promise c.image u.layout.slots u.layout.inputs u.layout.code → (t : Live) → Runs c.image u.layout.code t.thread → Held t.thread
      held m t r =
          let w = m.whole t.thread.position r.at in
          let a = w.forward in
          let b = w.within in
          let d = m.short in
          let h = leb-true t.thread.frame 65535 r.frame in
          record { position = omega arith; frame = omega arith; acc = r.acc }

      numbered : (p : Place) → place_sound c p ≡ true → Numbered p
      numbered ready e = tt
      numbered (on l) e = unfold place_sound in let a = seen_below c l e in let b = u.sound.used in let d = s.region in omega arith

      lives : Promise c.image u.layout.slots u.layout.inputs u.layout.code → (t : Live) → Stands c u.layout.code t → Lives t
      lives m t h = record { thread = held m t h.runs; placed = record { place = numbered t.place h.place } }

  bare : is_none c.image ≡ true → is_bare c ≡ true → Fit c
  unfolding is_bare
  bare n e =
      parted (is_none c.cells) _ e λ cells e.
      parted (is_none c.row) _ e λ row e.
      parted (eqb c.refusal 0) _ e λ _ e.
      parted (eqb c.halted 0) _ e λ _ steps.
      let a = none_is c.cells cells in
      let b = none_is c.row row in
      let i = none_is c.image n in
      let t = eqb-true c.steps 0 steps in
      let r = s.region in
      record {
        cells = rw a all_nil;
        row = rw b all_nil;
        used = rw a (omega arith);
        live = rw b (omega arith);
        region = omega arith;
        threads = s.threads;
        steps = omega arith;
        image = rw i (omega arith);
      }

  pub fits : seat_sound c ≡ true → Fit c
  unfolding seat_sound
  fits e = by (is_none c.image) refl
    where
      by : (b : Bool) → is_none c.image ≡ b → Fit c
      by true n = bare n (rw n at e)
      by false n = in_use (used-seat c n e)

-- the seats of a sound machine
seats : (l : ℕ) (m : Machine) → regions l m ≡ true → all fair_share (shares_of m) ≡ true → l + total (shares_of m) ≤ 2048 → All Seated m
unfolding regions shares_of all total fair_share
seats l [] r f h = all_nil
seats l (c ∷ m) r f h =
    parted (eqb c.seat.start l) _ r λ at r.
    parted (fair_share (record { cells = c.seat.cells; threads = c.seat.threads })) _ f λ fair f.
    parted (leb 1 c.seat.cells) _ fair λ _ fair.
    parted (leb c.seat.cells 1024) _ fair λ _ fair.
    parted (leb 1 c.seat.threads) _ fair λ _ most.
    let e = eqb-true c.seat.start l at in
    all_cons (record { region = omega arith; threads = leb-true c.seat.threads 32 most }) (seats (l + c.seat.cells) m r f (omega arith))

pub seated : (m : Machine) → sound m ≡ true → All Seated m
unfolding sound may_open
seated m e =
    parted (may_open (shares_of m)) _ e λ o e.
    parted (regions 0 m) _ e λ r _.
    parted (leb 1 (length (shares_of m))) _ o λ _ o.
    parted (leb (length (shares_of m)) 8) _ o λ _ o.
    parted (all fair_share (shares_of m)) _ o λ fair most.
    let h = leb-true (total (shares_of m)) 2048 most in seats 0 m r fair (omega arith)

each : {m : Machine} → All Seated m → all seat_sound m ≡ true → All Fit m
unfolding all
each all_nil e = all_nil
each (all_cons {x = c} {xs = m} s h) e = parted (seat_sound c) (all seat_sound m) e λ a b. all_cons (fits c s a) (each h b)

pub all_fit : (m : Machine) → sound m ≡ true → All Fit m
all_fit m e = each (seated m e) (unfold sound in second (regions 0 m) _ (second (may_open (shares_of m)) _ e))
