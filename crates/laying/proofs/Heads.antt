-- A live thread's record: read back, and told by its place. Assumes nothing.
use Prim.Native.Nat.{ℕ, ◌+◌, ◌*◌, ◌/◌, ◌%◌, ◌<◌}
use native.Mathlib.Omega.{arith}
use mathlib.Core.Path.{◌≡◌, refl}
use mathlib.Core.Bool.{Bool, true, false}
use lib.Dec.{ltb, eqb}
use lib.ListN.{length, get_or}
use borrow.Author.Tests.{eq-eqb, ne_eqb, eqb-true, eqb-false, lt-ltb, ltb-true, ltb-false}
use Rattle.std.specs.Prelude.{if◌then◌else◌}
use Rattle.laws.proofs.Every.{all-get}
use Rattle.value.specs.Coding.{tag_of}
use Rattle.value.proofs.RoundTrip.{decode-encode}
use Rattle.rules.specs.Claim as Claim
use Rattle.rules.specs.Claim.{Claim, Place, ready, on, Live, ready_in, waits_on, is_ready, is_on, nobody, thread_at}
use Rattle.threads.specs.Heads.{packed, head_of, wait_place, ready_place, place_in, readied, thread_in}
use Rattle.laying.specs.Laid.{spread, place_number, head_number, acc_number}
use Rattle.laying.proofs.Spread.{spread-get}
use Rattle.laying.proofs.Fitting.{Held, Numbered, Placed, Fit}
use Rattle.laying.proofs.Cells.{tagged}

-- a head's fields
module _ (p a b t : ℕ) (hp : p < 65536) where
  place-back : packed p a b t % 65536 ≡ p
  unfolding packed
  place-back = omega arith

  ready-back : packed p a b t / 65536 * 65536 + 1 ≡ packed 1 a b t
  unfolding packed
  ready-back = omega arith

  module _ (ha : a < 65536) (hb : b < 65536) (ht : t < 65536) where
    position-back : packed p a b t / 65536 % 65536 ≡ a
    unfolding packed
    position-back = omega arith

    frame_back : packed p a b t / 4294967296 % 65536 ≡ b
    unfolding packed
    frame_back = omega arith

    tag_back : packed p a b t / 281474976710656 % 65536 ≡ t
    unfolding packed
    tag_back = omega arith

pub place-small : (p : Place) → place_number p < 65536
unfolding place_number wait_place
place-small ready = omega arith
place-small (on l) = by (ltb l 65534) refl
  where
    by : (b : Bool) → ltb l 65534 ≡ b → (if b then l + 2 else 0) < 65536
    by true e = let h = ltb-true l 65534 e in omega arith
    by false e = omega arith

pub thread-back : (t : Live) → Held t.thread → thread_in (head_number t) (acc_number t) ≡ t.thread
unfolding thread_in head_number head_of acc_number
thread-back t h =
    let p = place-small t.place in
    let g = (tagged t.thread.acc).high in
    let s : tag_of t.thread.acc < 65536 = omega arith in
    let a = h.position in
    let b = h.frame in
    rw (position-back _ _ _ _ p a b s, frame_back _ _ _ _ p a b s, tag_back _ _ _ _ p a b s, decode-encode t.thread.acc h.acc)

-- the i-th record is the i-th thread's
pub thread-same : (c : Claim) → Fit c → (i : ℕ) → i < length c.row
    → thread_in (get_or (spread head_number 32 c.row) i 0) (get_or (spread acc_number 32 c.row) i 0) ≡ thread_at c i
thread-same c f i l =
    rw (spread-get head_number 32 c.row i nobody l, spread-get acc_number 32 c.row i nobody l)
    (thread-back (get_or c.row i nobody) (all-get i nobody f.row l).thread)

-- places
pub head-place : (t : Live) → place_in (head_number t) ≡ place_number t.place
unfolding head_number head_of
head-place t = place-back _ _ _ _ (place-small t.place)

pub head-readied : (t : Live) → readied (head_number t) ≡ head_number (Claim.readied t.thread)
unfolding head_number head_of place_number
head-readied t = ready-back _ _ _ _ (place-small t.place)

ready-place : (p : Place) → Numbered p → eqb (place_number p) ready_place ≡ ready_in p
unfolding place_number wait_place ready_in
ready-place ready h = refl
ready-place (on m) h = rw (lt-ltb m 65534 h) (ne_eqb (m + 2) 1 (λ z. omega arith))

same_place : (l : ℕ) (p : Place) → Numbered p → eqb (place_number p) (wait_place l) ≡ waits_on l p
unfolding place_number wait_place waits_on
same_place l ready h = by (ltb l 65534)
  where
    by : (b : Bool) → eqb 1 (if b then l + 2 else 0) ≡ false
    by true = ne_eqb 1 (l + 2) (λ e. omega arith)
    by false = refl
same_place l (on m) h = rw (lt-ltb m 65534 h) (by (ltb l 65534) refl (eqb l m) refl)
  where
    by : (b : Bool) → ltb l 65534 ≡ b → (d : Bool) → eqb l m ≡ d → eqb (m + 2) (if b then l + 2 else 0) ≡ d
    by true p true q = let e = eqb-true l m q in eq-eqb (m + 2) (l + 2) (omega arith)
    by true p false q = let e = eqb-false l m q in ne_eqb (m + 2) (l + 2) (λ z. e (omega arith))
    by false p true q = let e = eqb-true l m q in let f = ltb-false l 65534 p in absurd (let w : ⊥ = omega arith in w)
    by false p false q = ne_eqb (m + 2) 0 (λ z. omega arith)

pub is-ready : (t : Live) → Placed t → eqb (place_in (head_number t)) ready_place ≡ is_ready t
unfolding is_ready
is-ready t h = rw (head-place t) (ready-place t.place h.place)

pub is-on : (l : ℕ) (t : Live) → Placed t → eqb (place_in (head_number t)) (wait_place l) ≡ is_on l t
unfolding is_on
is-on l t h = rw (head-place t) (same_place l t.place h.place)
